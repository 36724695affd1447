use Rattle.std.proofs.Common.{sym, subst}
use Rattle.py_lines.specs.Collecting.{LineView, LineIsOpen, HasEnough, WantsMore, line_wanted}
use Rattle.py_lines.proofs.line_collector.LineCollectorCollector.collect.Goals as goal

pub returns-in_ok-take-in-Some-clause-outcome : goal.returns-in_ok-take-in-Some-clause-outcome
returns-in_ok-take-in-Some-clause-outcome c =
    let view : LineView = c.args.self.now in
    subst (λ (new : LineView). HasEnough (line_wanted view) view.line c.args.bytes.now c.in-Some.used new.line) (sym c.in_ok-take-in-Some.ensures) c.in-Some.ensures.0

pub returns-in_ok-take-in-None-clause-outcome : goal.returns-in_ok-take-in-None-clause-outcome
returns-in_ok-take-in-None-clause-outcome c =
    let view : LineView = c.args.self.now in
    subst (λ (new : LineView). WantsMore (line_wanted view) view.line c.args.bytes.now new.line) (sym c.in_ok-take-in-None.ensures) c.in-None.ensures.0

pub returns-in_ok-take-in-None-clause-open : goal.returns-in_ok-take-in-None-clause-open
returns-in_ok-take-in-None-clause-open c = subst LineIsOpen (sym c.in_ok-take-in-None.ensures) c.in-None.ensures.1
