use Rattle.std.proofs.Common.{[], Ok, Err, refl, subst, sym}
use Rattle.py_flat.specs.declared.fault.IoFault.{IoFault}
use Rattle.py_stream.specs.Stream.{Stream}
use Rattle.py_stream.specs.Taking.{PutOutcome}
use Rattle.py_engine.specs.declared.data.passing_on.Passed.TheVariants as passing
use Rattle.py_stream.proofs.PassingOn.{just_took}
use Rattle.py_engine.specs.Engine.{stream_of, Stands}
use Rattle.py_engine.specs.Passing.{FlushOutcome}
use Rattle.py_engine.proofs.Standing.{owes_behind}
use Rattle.py_engine.proofs.Draining.{flush_took}
use Rattle.py_engine.proofs.Putting.{all_taken, put_behind, fits_then, flush_stops, stopped}
use Rattle.py_engine.proofs.data.BufferedData.put.Goals as goal

pub returns-in-Ok-All-clause-outcome : goal.returns-in-Ok-All-clause-outcome
returns-in-Ok-All-clause-outcome g c =
    let old : Stream = stream_of c.args.self.now in
    let mid : Stream = stream_of c.flush_pending.new.self in
    put_behind old mid (stream_of c.put_large.new.self) c.args.bytes.now c.args.start c.put_large.result (all_taken c.args.self.now.window.size old mid [] refl (flush_took old mid (owes_behind c.args.self.now (subst Stands c.self.view_is c.self.invariant) c.requires.writes) (rw c.in-Ok-All.field-0-is at c.in-Ok-All.ensures.outcome))) c.put_large.ensures.outcome

pub returns-in-Ok-Waits-clause-outcome : goal.returns-in-Ok-Waits-clause-outcome
returns-in-Ok-Waits-clause-outcome g c =
    let old : Stream = stream_of c.args.self.now in
    let mid : Stream = stream_of c.flush_pending.new.self in
    let flushed : FlushOutcome old (Ok passing.Waits) mid = rw c.in-Ok-Waits.field-0-is at c.in-Ok-Waits.ensures.outcome in
    fits_then c.args.self.now.window.size old mid (stream_of c.take_what_fits.new.self) [] c.args.bytes.now c.args.start c.take_what_fits.result refl (just_took old mid (owes_behind c.args.self.now (subst Stands c.self.view_is c.self.invariant) c.requires.writes) flushed.just) flushed.cause c.take_what_fits.ensures.outcome

pub returns-in-Err-clause-outcome : goal.returns-in-Err-clause-outcome
returns-in-Err-clause-outcome g c =
    let old : Stream = stream_of c.args.self.now in
    let mid : Stream = stream_of c.flush_pending.new.self in
    let new : Stream = stream_of c.stop.new.self in
    subst (λ (why : IoFault). PutOutcome old c.args.bytes.now c.args.start (Err why) new) (sym c.stop.ensures.fault)
    (stopped c.args.self.now.window.size old mid new c.args.bytes.now c.args.start c.in-Err.fault refl (flush_stops old mid c.args.bytes.now c.in-Err.fault (owes_behind c.args.self.now (subst Stands c.self.view_is c.self.invariant) c.requires.writes) c.in-Err.ensures.outcome) c.stop.ensures.stream)
