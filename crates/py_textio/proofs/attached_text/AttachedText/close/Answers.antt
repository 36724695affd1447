use Rattle.std.proofs.Common.{Bool, sym, subst, refl}
use Rattle.py_flat.specs.declared.life.Life.TheVariants as life
use Rattle.py_flat.specs.declared.fault.IoFault.TheVariants as fault
use Rattle.py_plain_text.specs.TextCalls.{Close}
use Rattle.py_stream.specs.Replies.{done_reply}
use Rattle.py_read_text.specs.Answers.{Answers}
use Rattle.py_textio.specs.Written.{state_of}
use Rattle.py_textio.proofs.Refusing.{refused_close, closed_again, over_short, passes_closing}
use Rattle.py_textio.proofs.attached_text.AttachedText.close.Goals as goal

pub returns-in-Closed : goal.returns-in-Closed
returns-in-Closed g c = closed_again _ c.self.inside.text _ c.self.view_is (sym c.in-Closed.ensures.life) c.life.ensures.joined

pub returns-in-Failed : goal.returns-in-Failed
returns-in-Failed g c = refused_close _ c.self.inside.text _ life.Failed fault.Failed c.self.view_is (sym c.in-Failed.ensures.life) (λ same. absurd (cc)) refl c.life.ensures.joined

pub returns-in-Detached : goal.returns-in-Detached
returns-in-Detached g c = refused_close _ c.self.inside.text _ life.Detached fault.Detached c.self.view_is (sym c.in-Detached.ensures.life) (λ same. absurd (cc)) refl c.life.ensures.joined

pub returns-in-Live : goal.returns-in-Live
returns-in-Live g c =
    subst (λ (short : Bool). Answers c.args.self.now Close (done_reply c.close-closed.result) (state_of c.close-closed.new.self short)) (sym c.would_block-self-inside.ensures)
    (over_short _ c.self.inside.text c.self.inside.short Close (done_reply c.close-closed.result) _ c.self.view_is (passes_closing c.self.inside.text c.self.inside.short c.close-closed.result _ c.close-closed.ensures.passes) c.close-closed.ensures)
