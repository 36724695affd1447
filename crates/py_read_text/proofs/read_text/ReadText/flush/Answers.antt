use Rattle.std.proofs.Common.{ap, ◌∙◌}
use Rattle.py_read_text.specs.Knowing.{TextView}
use Rattle.py_read_text.proofs.Placing.{text_flushed}
use Rattle.py_read_text.proofs.Calling.{flush_answers}
use Rattle.py_read_text.proofs.read_text.ReadText.flush.Goals as goal

pub invariant_of-self : goal.invariant_of-self
invariant_of-self g c =
    let live = ap (λ (view : TextView). view.buffer.life) c.self.view_is ∙ c.requires.live in
    text_flushed _ _ _ _ _ _ _ _ c.flush.result live c.flush.ensures.buffer c.self.invariant

pub returns-clause-text : goal.returns-clause-text
returns-clause-text g c = flush_answers c.args.self.now _ _ c.flush.result c.self.view_is c.requires.live c.self.invariant c.flush.ensures.buffer
