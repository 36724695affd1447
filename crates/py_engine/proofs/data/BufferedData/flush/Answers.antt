use Rattle.std.proofs.Common.{subst, Err, refl, sym, ap}
use Rattle.std.proofs.lemmas.Result.{err_from_is_err_and}
use Rattle.py_flat.specs.Calls.{Flush}
use Rattle.py_stream.proofs.Refusing.{begins_in_vain}
use Rattle.py_engine.specs.Engine.{EngineView, stream_of, Stands}
use Rattle.py_engine.proofs.Standing.{is_placed, begins, flushes}
use Rattle.py_engine.proofs.data.BufferedData.flush.Goals as goal

pub returns-in_err-begin : goal.returns-in_err-begin
returns-in_err-begin g c =
    let left = err_from_is_err_and c.from_residual.result c.from_residual.ensures.1 in
    rw (left.1, left.2) (begins_in_vain (stream_of c.args.self.now) (stream_of c.begin.new.self) Flush c.in_err-begin.field-0.0 (is_placed c.args.self.now (subst Stands c.self.view_is c.self.invariant)) refl refl refl refl (begins c.args.self.now c.begin.new.self (Err c.in_err-begin.field-0.0) c.in_err-begin.ensures))

pub returns : goal.returns
returns g c = flushes c.begin.new.self.access c.args.self.now c.begin.new.self c.pass_all.new.self c.pass_all.result (sym (ap (λ (engine : EngineView). engine.access) c.in_ok-begin.ensures.1)) (subst Stands c.self.view_is c.self.invariant) c.in_ok-begin.ensures c.pass_all.ensures.outcome c.pass_all.ensures.stands c.pass_all.ensures.behind c.pass_all.ensures.rests
