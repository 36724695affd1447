use Rattle.std.proofs.Common.{subst, sym, ap}
use Rattle.std.proofs.lemmas.Result.{err_from_is_err_and}
use Rattle.py_engine.specs.Engine.{EngineView, Stands}
use Rattle.py_engine.proofs.Standing.{closing_stops, closes}
use Rattle.py_engine.proofs.data.BufferedData.close.Goals as goal

pub returns-in_err-pass_all_to_close : goal.returns-in_err-pass_all_to_close
returns-in_err-pass_all_to_close g c =
    let left = err_from_is_err_and c.from_residual-in_err-pass_all_to_close.result c.from_residual-in_err-pass_all_to_close.ensures.1 in
    rw (left.1, left.2) (closing_stops c.begin.new.self.access c.args.self.now c.begin.new.self c.pass_all_to_close.new.self c.in_err-pass_all_to_close.field-0.0 (sym (ap (λ (engine : EngineView). engine.access) c.in_ok-begin.ensures.1)) (subst Stands c.self.view_is c.self.invariant) c.in_ok-begin.ensures c.in_err-pass_all_to_close.ensures)

pub returns : goal.returns
returns g c = closes c.begin.new.self.access c.args.self.now c.begin.new.self c.pass_all_to_close.new.self c.close_raw.new.self c.close_raw.result (sym (ap (λ (engine : EngineView). engine.access) c.in_ok-begin.ensures.1)) (subst Stands c.self.view_is c.self.invariant) c.in_ok-begin.ensures c.in_ok-pass_all_to_close.ensures c.close_raw.ensures
