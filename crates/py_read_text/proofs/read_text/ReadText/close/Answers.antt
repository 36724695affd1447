use Rattle.std.proofs.Common.{ap, ◌∙◌}
use Rattle.py_read_text.specs.Knowing.{TextView}
use Rattle.py_read_text.proofs.Placing.{text_closed}
use Rattle.py_read_text.proofs.Calling.{close_answers}
use Rattle.py_read_text.proofs.read_text.ReadText.close.Goals as goal

pub invariant_of-self : goal.invariant_of-self
invariant_of-self g c =
    let live = ap (λ (view : TextView). view.buffer.life) c.self.view_is ∙ c.requires in
    text_closed _ _ _ _ _ _ _ _ c.close.result live c.close.ensures.buffer c.self.invariant

pub returns : goal.returns
returns g c = close_answers c.args.self.now _ _ c.close.result c.self.view_is c.requires c.self.invariant c.close.ensures.buffer
