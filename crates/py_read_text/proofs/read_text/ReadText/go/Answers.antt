use Rattle.std.proofs.Common.{ap, ◌∙◌}
use Rattle.py_read_text.specs.Knowing.{TextView}
use Rattle.py_read_text.proofs.Putting.{text_gone, text_ungone}
use Rattle.py_read_text.proofs.read_text.ReadText.go.Goals as goal

pub invariant_of-self : goal.invariant_of-self
invariant_of-self g c = text_gone _ _ c.self.inside.held c.clear.new.self _ _ _ _ c.args.place _ c.in-Ok.ensures.outcome c.clear.ensures.cleared c.self.invariant

pub invariant_of-self-in-Err : goal.invariant_of-self-in-Err
invariant_of-self-in-Err g c =
    let live = ap (λ (view : TextView). view.buffer.life) c.self.view_is ∙ c.requires.live in
    text_ungone _ _ _ _ _ _ _ c.args.place _ c.in-Err.fault live c.in-Err.ensures.outcome c.self.invariant
