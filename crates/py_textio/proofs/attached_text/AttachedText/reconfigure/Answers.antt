use Rattle.std.proofs.Common.{sym, refl}
use Rattle.py_flat.specs.declared.life.Life.TheVariants as life
use Rattle.py_flat.specs.declared.fault.IoFault.TheVariants as fault
use Rattle.py_plain_text.specs.TextCalls.{Reconfigure}
use Rattle.py_stream.specs.Replies.{done_reply}
use Rattle.py_text.specs.Settings.{changes_of}
use Rattle.py_textio.proofs.Refusing.{over_short}
use Rattle.py_textio.proofs.Changing.{unset_by_life}
use Rattle.py_textio.proofs.attached_text.AttachedText.reconfigure.Goals as goal

pub returns-in-Live : goal.returns-in-Live
returns-in-Live g c = over_short _ c.self.inside.text c.self.inside.short (Reconfigure (changes_of c.args.changes)) (done_reply c.reconfigure.result) _ c.self.view_is tt c.reconfigure.ensures

pub returns-in-Failed : goal.returns-in-Failed
returns-in-Failed g c = unset_by_life _ c.self.inside.text _ (changes_of c.args.changes) life.Failed fault.Failed c.self.view_is (sym c.in-Failed.ensures.life) refl c.life.ensures.joined

pub returns-in-Closed : goal.returns-in-Closed
returns-in-Closed g c = unset_by_life _ c.self.inside.text _ (changes_of c.args.changes) life.Closed fault.Closed c.self.view_is (sym c.in-Closed.ensures.life) refl c.life.ensures.joined

pub returns-in-Detached : goal.returns-in-Detached
returns-in-Detached g c = unset_by_life _ c.self.inside.text _ (changes_of c.args.changes) life.Detached fault.Detached c.self.view_is (sym c.in-Detached.ensures.life) refl c.life.ensures.joined
