use Rattle.std.proofs.Common.{ℤ, refl, subst}
use Rattle.std.specs.Int.{w32}
use Rattle.std.proofs.lemmas.Int.{to_z-of_z}
use Rattle.py_read_text.specs.Answers.{Answers, cookie_reply}
use Rattle.py_plain_text.specs.TextCalls.{SeekText}
use Rattle.py_read_text.specs.TextState.{settings_of}
use Rattle.py_textio.specs.Handing.{can_of}
use Rattle.py_textio.proofs.Detached.{detached_answers}
use Rattle.py_textio.proofs.Seeking.{stays_attached}
use Rattle.py_textio.proofs.text_io_wrapper.TextIOWrapper.seek.Goals as goal
use Rattle.py_textio.proofs.text_io_wrapper.TextIOWrapper.seek.Goals.{in-Some, in-None}

pub returns-clause-answers : goal.returns-clause-answers
returns-clause-answers g c = elim c.match-self.branch [
  | in-Some w ↦ rw (← c.self.view_is, w.in-Some.is, w.result-is, w.self-inside-is) (subst (λ (whence : ℤ). Answers w.in-Some.text (SeekText c.args.cookie.now whence) (cookie_reply w.seek.result) w.seek.new.self) (to_z-of_z w32 c.args.whence c.ranges.whence) w.seek.ensures.answers)
  | in-None w ↦ rw (← c.self.view_is, w.result-is, w.self-inside-is, w.in-None.is) (detached_answers (can_of c.self.inside.left) (settings_of c.self.inside.left.coder c.self.inside.left.settings) (SeekText c.args.cookie.now c.args.whence) refl)
]

pub invariant_of-self : goal.invariant_of-self
invariant_of-self g c = elim c.match-self.branch [
  | in-Some w ↦ rw w.self-inside-is (stays_attached _ _ c.args.cookie.now _ _ w.seek.ensures.answers (rw w.in-Some.is at c.self.invariant))
  | in-None w ↦ rw (w.self-inside-is, w.in-None.is) tt
]
