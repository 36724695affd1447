use Rattle.std.proofs.Common.{ℕ, List, take, drop, None, Ok, Err, refl, subst, sym, arith}
use Rattle.std.proofs.lemmas.List.{length-drop, take_rest}
use Rattle.py_flat.specs.declared.fault.IoFault.{IoFault}
use Rattle.py_stream.specs.Stream.{Stream}
use Rattle.py_stream.specs.Taking.{Took, TookAll, PutOutcome}
use Rattle.py_stream.proofs.Giving.{all_of, takes_more, takes_then}
use Rattle.py_engine.specs.Engine.{stream_of}
use Rattle.py_engine.specs.Passing.{HandOnOutcome, FitOutcome}
use Rattle.py_engine.proofs.Putting.{all_taken, waits_handing_on, fits_then, hand_on_stops, stopped}
use Rattle.py_engine.proofs.data.BufferedData.put_large.Goals as goal

pub loop-taken-preserved : goal.loop-taken-preserved
loop-taken-preserved g c = grind (arith, take_rest, length-drop, takes_more, all_taken)

pub returns-in-Ok-None-clause-outcome : goal.returns-in-Ok-None-clause-outcome
returns-in-Ok-None-clause-outcome g c =
    let old : Stream = stream_of c.args.self.now in
    let now : Stream = stream_of c.loop-taken.self in
    let mid : Stream = stream_of c.hand_on.new.self in
    let new : Stream = stream_of c.take_what_fits.new.self in
    let given : HandOnOutcome now (drop c.loop-taken.taken c.args.bytes.now) (Ok None) mid =
    subst (λ (piece : List ℕ). HandOnOutcome now piece (Ok None) mid) (take_rest c.args.bytes.now c.loop-taken.taken) (rw c.in-Ok-None.field-0-is at c.in-Ok-None.ensures.outcome) in
    let waits = waits_handing_on old now mid c.args.bytes.now c.loop-taken.taken c.loop-taken.invariant.took.took given in
    subst (λ (all : List ℕ). PutOutcome old all c.args.start (Ok c.take_what_fits.result) new) (all_of c.args.bytes.now c.loop-taken.taken)
    (fits_then c.args.self.now.window.size old mid new (take c.loop-taken.taken c.args.bytes.now) (drop c.loop-taken.taken c.args.bytes.now) c.args.start c.take_what_fits.result refl waits.0 waits.1 (subst (λ (piece : List ℕ). FitOutcome mid piece c.take_what_fits.result new) (take_rest c.args.bytes.now c.loop-taken.taken) c.take_what_fits.ensures.outcome))

pub returns-in-Err-clause-outcome : goal.returns-in-Err-clause-outcome
returns-in-Err-clause-outcome g c =
    let old : Stream = stream_of c.args.self.now in
    let now : Stream = stream_of c.loop-taken.self in
    let mid : Stream = stream_of c.hand_on.new.self in
    let new : Stream = stream_of c.stop.new.self in
    subst (λ (why : IoFault). PutOutcome old c.args.bytes.now c.args.start (Err why) new) (sym c.stop.ensures.fault)
    (subst (λ (all : List ℕ). PutOutcome old all c.args.start (Err c.in-Err.fault) new) (all_of c.args.bytes.now c.loop-taken.taken)
    (stopped c.args.self.now.window.size old mid new _ c.args.start c.in-Err.fault refl (hand_on_stops old now mid (take c.loop-taken.taken c.args.bytes.now) (drop c.loop-taken.taken c.args.bytes.now) c.in-Err.fault c.loop-taken.invariant.took c.loop-taken.invariant.none (subst (λ (piece : List ℕ). HandOnOutcome now piece (Err c.in-Err.fault) mid) (take_rest c.args.bytes.now c.loop-taken.taken) c.in-Err.ensures.outcome)) c.stop.ensures.stream))

pub returns-clause-outcome : goal.returns-clause-outcome
returns-clause-outcome g c =
    let old : Stream = stream_of c.args.self.now in
    let now : Stream = stream_of c.loop-taken.self in
    let new : Stream = stream_of c.keep.new.self in
    subst (λ (all : List ℕ). TookAll old all new) (all_of c.args.bytes.now c.loop-taken.taken)
    (takes_then old now new (take c.loop-taken.taken c.args.bytes.now) (drop c.loop-taken.taken c.args.bytes.now) c.loop-taken.invariant.took (all_taken c.loop-taken.self.window.size now new (drop c.loop-taken.taken c.args.bytes.now) refl (subst (λ (piece : List ℕ). Took now piece new) (take_rest c.args.bytes.now c.loop-taken.taken) c.keep.ensures.took)))
