use Rattle.std.proofs.Common.{ap, ◌∙◌}
use Rattle.py_read_text.specs.Knowing.{TextView}
use Rattle.py_read_text.proofs.Preparing.{prepared_now, text_prepared}
use Rattle.py_read_text.proofs.read_text.ReadText.prepare_flush.Goals as goal

pub invariant_of-self : goal.invariant_of-self
invariant_of-self g c =
    let live = ap (λ (view : TextView). view.buffer.life) c.self.view_is ∙ c.requires.live in
    text_prepared _ _ _ _ _ _ _ _ c.prepare_flush.result live c.prepare_flush.ensures c.self.invariant

pub returns-clause-outcome : goal.returns-clause-outcome
returns-clause-outcome g c = prepared_now c.args.self.now _ _ c.prepare_flush.result c.self.view_is c.requires.live c.self.invariant.owes c.self.invariant.far c.prepare_flush.ensures
