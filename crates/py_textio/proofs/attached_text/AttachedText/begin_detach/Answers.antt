use Rattle.std.proofs.Common.{ap, ◌∙◌}
use Rattle.py_read_text.specs.TextState.{TextState}
use Rattle.py_textio.proofs.Detaching.{begins_flush}
use Rattle.py_textio.proofs.attached_text.AttachedText.begin_detach.Goals as goal

pub returns-in_default : goal.returns-in_default
returns-in_default g c = begins_flush _ _ _ _ (λ failed. c.in_default.not-Failed (c.life.ensures.life ∙ (ap (λ (state : TextState). state.text.life) c.self.view_is ∙ failed))) c.flush.ensures
