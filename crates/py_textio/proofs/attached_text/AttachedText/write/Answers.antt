use Rattle.std.proofs.Common.{Bool, Err, chars, sym, subst, refl, ◌∙◌}
use Rattle.py_flat.specs.declared.life.Life.TheVariants as life
use Rattle.py_flat.specs.declared.fault.IoFault.TheVariants as fault
use Rattle.py_plain_text.specs.TextCalls.{WriteText}
use Rattle.py_stream.specs.Kinds.{says_wait}
use Rattle.py_stream.specs.Replies.{count_reply}
use Rattle.py_read_text.specs.Answers.{Answers}
use Rattle.py_textio.specs.Written.{state_of}
use Rattle.py_textio.proofs.Refusing.{refused_write, refused_unwritten, over_short, passes_write}
use Rattle.py_textio.proofs.attached_text.AttachedText.write.Goals as goal

pub returns-in-Live-2 : goal.returns-in-Live-2
returns-in-Live-2 g c = refused_unwritten _ c.self.inside.text _ (chars c.args.text.now) c.self.view_is (sym c.in-Live-2.ensures.life) (sym c.writable.ensures ∙ c.if-writable.false) c.life.ensures.joined

pub returns-in-Failed : goal.returns-in-Failed
returns-in-Failed g c = refused_write _ c.self.inside.text _ (chars c.args.text.now) life.Failed fault.Failed c.self.view_is (sym c.in-Failed.ensures.life) refl c.life.ensures.joined

pub returns-in-Closed : goal.returns-in-Closed
returns-in-Closed g c = refused_write _ c.self.inside.text _ (chars c.args.text.now) life.Closed fault.Closed c.self.view_is (sym c.in-Closed.ensures.life) refl c.life.ensures.joined

pub returns-in-Detached : goal.returns-in-Detached
returns-in-Detached g c = refused_write _ c.self.inside.text _ (chars c.args.text.now) life.Detached fault.Detached c.self.view_is (sym c.in-Detached.ensures.life) refl c.life.ensures.joined

pub returns-in-Err : goal.returns-in-Err
returns-in-Err g c =
    subst (λ (short : Bool). Answers c.args.self.now (WriteText (chars c.args.text.now)) (count_reply (Err c.in-Err.fault)) (state_of c.write.new.self short)) (sym c.is_wait-self-inside.ensures)
    (over_short _ c.self.inside.text c.self.inside.short (WriteText (chars c.args.text.now)) (count_reply (Err c.in-Err.fault)) _ c.self.view_is (passes_write c.self.inside.text c.self.inside.short (chars c.args.text.now) (Err c.in-Err.fault) (state_of c.write.new.self (says_wait (count_reply (Err c.in-Err.fault)))) c.in-Err.ensures.passes) c.in-Err.ensures)
