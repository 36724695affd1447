use Rattle.std.proofs.Common.{refl, subst}
use Rattle.py_stream.proofs.Shutting.{flush_answers}
use Rattle.py_unbuffered.specs.Engine.{stream_of}
use Rattle.py_unbuffered.proofs.Begun.{Stands, is_placed, begins}
use Rattle.py_unbuffered.proofs.data.UnbufferedData.flush.Goals as goal

pub returns : goal.returns
returns g c = flush_answers (stream_of c.args.self.now) (stream_of c.begin.new.self) c.begin.result (is_placed c.args.self.now (subst Stands c.self.view_is c.self.invariant)) refl (λ _. record { stands = refl; held = refl }) (begins c.args.self.now c.begin.new.self c.begin.result c.begin.ensures)
