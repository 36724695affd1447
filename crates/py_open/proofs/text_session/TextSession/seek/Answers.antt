use Rattle.std.proofs.Common.{ℤ, refl, subst}
use Rattle.std.specs.Int.{w32}
use Rattle.std.proofs.lemmas.Int.{to_z-of_z}
use Rattle.py_plain_text.specs.TextCalls.{SeekText}
use Rattle.py_read_text.specs.Answers.{Answers, cookie_reply}
use Rattle.py_open.proofs.TextKeeping.{seen_on, session_on}
use Rattle.py_open.proofs.text_session.TextSession.seek.Goals as goal

pub invariant_of-self : goal.invariant_of-self
invariant_of-self g c =
    let answers = subst (λ (whence : ℤ). Answers c.self.inside.text (SeekText c.args.cookie.now whence) (cookie_reply c.seek.result) c.seek.new.self) (to_z-of_z w32 c.args.whence c.ranges.whence) c.seek.ensures.answers in
    session_on g.R.RawStream.shows c.self.inside.text (SeekText c.args.cookie.now c.args.whence) (cookie_reply c.seek.result) c.seek.new.self c.self.inside.appends c.self.inside.buffer_size c.self.inside.raw refl c.self.invariant answers

pub returns-clause-answers : goal.returns-clause-answers
returns-clause-answers g c =
    let answers = subst (λ (whence : ℤ). Answers c.self.inside.text (SeekText c.args.cookie.now whence) (cookie_reply c.seek.result) c.seek.new.self) (to_z-of_z w32 c.args.whence c.ranges.whence) c.seek.ensures.answers in
    rw (← c.self.view_is) (seen_on g.R.RawStream.shows c.self.inside.text (SeekText c.args.cookie.now c.args.whence) (cookie_reply c.seek.result) c.seek.new.self c.self.inside.appends c.self.inside.buffer_size c.self.inside.raw refl c.self.invariant answers)
