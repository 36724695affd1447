use Rattle.std.proofs.Common.{Bool, false, ℤ, sym, subst, refl, ◌∙◌}
use Rattle.std.specs.Int.{w32}
use Rattle.std.proofs.lemmas.Int.{to_z-of_z}
use Rattle.py_flat.specs.declared.life.Life.TheVariants as life
use Rattle.py_flat.specs.declared.fault.IoFault.TheVariants as fault
use Rattle.py_plain_text.specs.TextCalls.{SeekText}
use Rattle.py_stream.specs.Kinds.{says_wait}
use Rattle.py_read_text.specs.Answers.{Answers, cookie_reply}
use Rattle.py_textio.specs.Written.{state_of}
use Rattle.py_textio.proofs.Refusing.{over_short}
use Rattle.py_textio.proofs.Seeking.{unsought_by_life, unsought, passes_sought}
use Rattle.py_textio.proofs.attached_text.AttachedText.seek.Goals as goal

pub returns-in-Live-clause-answers : goal.returns-in-Live-clause-answers
returns-in-Live-clause-answers g c =
    let answers = subst (λ (whence : ℤ). Answers (state_of c.self.inside.text false) (SeekText c.args.cookie.now whence) (cookie_reply c.seek-sought.result) (state_of c.seek-sought.new.self (says_wait (cookie_reply c.seek-sought.result)))) (to_z-of_z w32 c.args.whence c.ranges.whence) c.seek-sought.ensures.answers in
    subst (λ (short : Bool). Answers c.args.self.now (SeekText c.args.cookie.now c.args.whence) (cookie_reply c.seek-sought.result) (state_of c.seek-sought.new.self short)) (sym c.seek_would_block-self-inside.ensures)
    (over_short _ c.self.inside.text c.self.inside.short (SeekText c.args.cookie.now c.args.whence) (cookie_reply c.seek-sought.result) _ c.self.view_is (passes_sought c.self.inside.text c.self.inside.short c.args.cookie.now c.args.whence c.seek-sought.result _ answers.passes) answers)

pub returns-in-Live-2-clause-answers : goal.returns-in-Live-2-clause-answers
returns-in-Live-2-clause-answers g c = unsought _ c.self.inside.text c.self.inside.short c.args.cookie.now c.args.whence c.self.view_is (sym c.in-Live-2.ensures.life) (sym c.is_movable.ensures ∙ c.if-is_movable.false) c.life.ensures.joined

pub returns-in-Failed-clause-answers : goal.returns-in-Failed-clause-answers
returns-in-Failed-clause-answers g c = unsought_by_life _ c.self.inside.text c.self.inside.short c.args.cookie.now c.args.whence life.Failed fault.Failed c.self.view_is (sym c.in-Failed.ensures.life) refl c.life.ensures.joined

pub returns-in-Closed-clause-answers : goal.returns-in-Closed-clause-answers
returns-in-Closed-clause-answers g c = unsought_by_life _ c.self.inside.text c.self.inside.short c.args.cookie.now c.args.whence life.Closed fault.Closed c.self.view_is (sym c.in-Closed.ensures.life) refl c.life.ensures.joined

pub returns-in-Detached-clause-answers : goal.returns-in-Detached-clause-answers
returns-in-Detached-clause-answers g c = unsought_by_life _ c.self.inside.text c.self.inside.short c.args.cookie.now c.args.whence life.Detached fault.Detached c.self.view_is (sym c.in-Detached.ensures.life) refl c.life.ensures.joined
