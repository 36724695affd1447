use Rattle.std.proofs.Common.{arith, ◌+◌, ◌-◌, ◌<◌, ℕ, List, length, drop, true, Ok, subst, sym}
use Rattle.std.proofs.lemmas.List.{length-drop, length-take-le}
use Rattle.py_stream.specs.declared.stop.Step.{Step}
use Rattle.py_stream.specs.ReadingOn.{ReadsInto, StepOutcome}
use Rattle.py_stream.proofs.ReadingInto.{ReadsTo, reads_on, reads_stopped, reads_refused, end_written}
use Rattle.py_stream.proofs.reading_on.read_into.Goals as goal

pub loop-more-preserved : goal.loop-more-preserved
loop-more-preserved g c =
    let loop = c.loop-more in
    let old = g.S.ReadsOn.shows c.args.stream.now in
    let now = g.S.ReadsOn.shows loop.stream in
    let new = g.S.ReadsOn.shows c.read_on.new.self in
    record {
      came = subst (λ (after : List ℕ). ReadsTo old c.args.moved (loop.count + c.in-On-2.more) after true new)
          (sym (end_written loop.count loop.buffer c.read_on.new.rest loop.invariant.came.less c.read_on.ensures.length))
          (reads_on old c.args.moved loop.count loop.buffer loop.has_moved now loop.invariant.came c.in-On-2.more c.read_on.new.rest new
          (subst (λ (step : Step). StepOutcome now loop.has_moved (Ok step) c.read_on.new.rest new) c.in-On-2.is c.in_ok-more.ensures.outcome));
      reads = c.in_ok-more.ensures.reads;
    }

pub returns-in-Stopped-2-clause-outcome : goal.returns-in-Stopped-2-clause-outcome
returns-in-Stopped-2-clause-outcome g c =
    let loop = c.loop-more in
    let old = g.S.ReadsOn.shows c.args.stream.now in
    let now = g.S.ReadsOn.shows loop.stream in
    let new = g.S.ReadsOn.shows c.read_on.new.self in
    let less : loop.count < length loop.buffer = loop.invariant.came.less in
    subst (λ (after : List ℕ). ReadsInto old (record { count = loop.count + c.in-Stopped-2.more; stop = c.in-Stopped-2.stop }) after new)
    (sym (end_written loop.count loop.buffer c.read_on.new.rest less c.read_on.ensures.length))
    (reads_stopped old c.args.moved loop.count loop.buffer loop.has_moved now loop.invariant.came c.in-Stopped-2.more c.in-Stopped-2.stop c.read_on.new.rest new
    (omega (arith, less, c.read_on.ensures.length, length-drop loop.count loop.buffer, length-take-le (length loop.buffer - loop.count) (drop loop.count loop.buffer) (omega (arith, length-drop loop.count loop.buffer))))
    (subst (λ (step : Step). StepOutcome now loop.has_moved (Ok step) c.read_on.new.rest new) c.in-Stopped-2.is c.in_ok-more.ensures.outcome))

pub returns-in_err-more-clause-outcome : goal.returns-in_err-more-clause-outcome
returns-in_err-more-clause-outcome g c = grind (arith, end_written, reads_refused, length-drop, length-take-le)
