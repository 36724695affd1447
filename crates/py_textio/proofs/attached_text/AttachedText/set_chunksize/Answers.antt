use Rattle.std.proofs.Common.{ℕ, nat_eq, sym, ap, refl}
use Rattle.py_flat.specs.declared.life.Life.TheVariants as life
use Rattle.py_flat.specs.declared.fault.IoFault.TheVariants as fault
use Rattle.py_textio.proofs.Refusing.{tested_some, refused_chunk, refused_none, chunks_so}
use Rattle.py_textio.proofs.attached_text.AttachedText.set_chunksize.Goals as goal

pub returns-then-size-eq0 : goal.returns-then-size-eq0
returns-then-size-eq0 g c = refused_none _ c.self.inside.text _ c.args.size c.self.view_is (sym c.in-Live.ensures.life) (ap (λ (n : ℕ). nat_eq n 0) c.if-size-eq0.true) c.life.ensures.joined

pub returns-else-size-eq0 : goal.returns-else-size-eq0
returns-else-size-eq0 g c = chunks_so _ c.self.inside.text c.set_chunksize.new.self _ c.args.size c.self.view_is (sym c.in-Live.ensures.life) (tested_some c.args.size c.if-size-eq0.false) c.life.ensures.joined c.set_chunksize.ensures

pub returns-in-Failed : goal.returns-in-Failed
returns-in-Failed g c = refused_chunk _ c.self.inside.text _ c.args.size life.Failed fault.Failed c.self.view_is (sym c.in-Failed.ensures.life) refl c.life.ensures.joined

pub returns-in-Closed : goal.returns-in-Closed
returns-in-Closed g c = refused_chunk _ c.self.inside.text _ c.args.size life.Closed fault.Closed c.self.view_is (sym c.in-Closed.ensures.life) refl c.life.ensures.joined

pub returns-in-Detached : goal.returns-in-Detached
returns-in-Detached g c = refused_chunk _ c.self.inside.text _ c.args.size life.Detached fault.Detached c.self.view_is (sym c.in-Detached.ensures.life) refl c.life.ensures.joined
