use Rattle.std.proofs.Common.{sym, refl, ◌∙◌}
use Rattle.py_flat.specs.declared.life.Life.TheVariants as life
use Rattle.py_flat.specs.declared.fault.IoFault.TheVariants as fault
use Rattle.py_read_text.specs.Answers.{text_reply}
use Rattle.py_read_text.specs.Reading.{call_of}
use Rattle.py_textio.specs.Written.{state_of}
use Rattle.py_textio.proofs.Refusing.{refused_by_life, refused_unread, over_short, passes_read}
use Rattle.py_textio.proofs.attached_text.AttachedText.take.Goals as goal

pub returns-in-Live-2 : goal.returns-in-Live-2
returns-in-Live-2 g c = refused_unread _ c.self.inside.text _ c.args.wanted c.self.view_is (sym c.in-Live-2.ensures.life) (sym c.readable.ensures ∙ c.if-readable.false) c.life.ensures.joined

pub returns-in-Failed : goal.returns-in-Failed
returns-in-Failed g c = refused_by_life _ c.self.inside.text _ c.args.wanted life.Failed fault.Failed c.self.view_is (sym c.in-Failed.ensures.life) refl c.life.ensures.joined

pub returns-in-Closed : goal.returns-in-Closed
returns-in-Closed g c = refused_by_life _ c.self.inside.text _ c.args.wanted life.Closed fault.Closed c.self.view_is (sym c.in-Closed.ensures.life) refl c.life.ensures.joined

pub returns-in-Detached : goal.returns-in-Detached
returns-in-Detached g c = refused_by_life _ c.self.inside.text _ c.args.wanted life.Detached fault.Detached c.self.view_is (sym c.in-Detached.ensures.life) refl c.life.ensures.joined

pub returns-in-Live : goal.returns-in-Live
returns-in-Live g c = over_short _ c.self.inside.text c.self.inside.short (call_of c.args.wanted) _ _ c.self.view_is (passes_read c.args.wanted (state_of c.self.inside.text c.self.inside.short) (text_reply c.answer.result) c.answer.new.self) c.answer.ensures
