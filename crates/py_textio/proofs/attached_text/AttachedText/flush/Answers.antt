use Rattle.std.proofs.Common.{sym, refl}
use Rattle.py_flat.specs.declared.life.Life.TheVariants as life
use Rattle.py_flat.specs.declared.fault.IoFault.TheVariants as fault
use Rattle.py_textio.proofs.Refusing.{refused_flush}
use Rattle.py_textio.proofs.attached_text.AttachedText.flush.Goals as goal

pub returns-in-Closed : goal.returns-in-Closed
returns-in-Closed g c = refused_flush _ c.self.inside.text _ life.Closed fault.Closed c.self.view_is (sym c.in-Closed.ensures.life) refl c.life.ensures.joined

pub returns-in-Failed : goal.returns-in-Failed
returns-in-Failed g c = refused_flush _ c.self.inside.text _ life.Failed fault.Failed c.self.view_is (sym c.in-Failed.ensures.life) refl c.life.ensures.joined

pub returns-in-Detached : goal.returns-in-Detached
returns-in-Detached g c = refused_flush _ c.self.inside.text _ life.Detached fault.Detached c.self.view_is (sym c.in-Detached.ensures.life) refl c.life.ensures.joined
