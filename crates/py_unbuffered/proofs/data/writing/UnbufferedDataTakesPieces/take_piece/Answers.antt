use Rattle.std.proofs.Common.{rules, ◌≡◌, ℕ, ◌-◌, nat_lt, Bool, false, List, length, take, drop, Option, Result, Ok, Err, sym, ap, subst, ◌∙◌, arith}
use Rattle.std.proofs.lemmas.List.{take_all, length-drop}
use Rattle.py_flat.specs.declared.fault.IoFault.{IoFault}
use Rattle.py_flat.specs.FlatFile.{Abilities}
use Rattle.py_stream.specs.Taking.{TookAll, PutsOutcome}
use Rattle.py_stream.proofs.Giving.{takes_nothing, takes_more, put_rest, rest_within}
use Rattle.py_unbuffered.specs.Engine.{EngineView, stream_of, Waits, PutOutcome}
use Rattle.py_unbuffered.proofs.Begun.{Stands, is_sound, owes_behind}
use Rattle.py_stream.proofs.Pieces.{some_taken}
use Rattle.py_unbuffered.proofs.Putting.{puts_took, waits_full, put_refused, piece_is}
use Rattle.py_unbuffered.proofs.data.writing.UnbufferedDataTakesPieces.take_piece.Goals as goal

pub loop-taken-init : goal.loop-taken-init
loop-taken-init g c = record { fits = omega arith; took = takes_nothing (stream_of c.args.self.now) (is_sound c.args.self.now (subst Stands c.self.view_is c.self.invariant)) (owes_behind c.args.self.now) c.requires.live }

pub put-requires-clause-live : goal.put-requires-clause-live
put-requires-clause-live g c = c.loop-taken.invariant.took.took.live

pub put-requires-clause-writes : goal.put-requires-clause-writes
put-requires-clause-writes g c = ap (λ (can : Abilities). can.writable) c.loop-taken.invariant.took.took.kept.can ∙ c.requires.takes

pub put-requires-clause-within : goal.put-requires-clause-within
put-requires-clause-within g c = search (rules, rest_within, piece_is)

pub returns-in_err-count-clause-outcome : goal.returns-in_err-count-clause-outcome
returns-in_err-count-clause-outcome g c =
    let line : List ℕ = c.args.piece.now in
    let taken : ℕ = c.loop-taken.taken in
    let now : EngineView = c.loop-taken.self in
    let new : EngineView = c.put-in-loop-taken.new.self in
    let why : IoFault = c.in_err-count.field-0.0 in
    let says : c.from_residual.result ≡ Err why = search rules in
    let moved : nat_lt c.args.start c.put.inside.place ≡ nat_lt c.args.start now.place = ap (λ (e : EngineView). nat_lt c.args.start e.place) c.put.view_is in
    let put : PutOutcome now (nat_lt c.args.start c.put.inside.place) (drop taken line) (Err why) new = subst (λ (piece : List ℕ). PutOutcome now (nat_lt c.args.start c.put.inside.place) piece (Err why) new) (piece_is line taken) c.in_err-count.ensures in
    subst (λ (result : Result Bool IoFault). PutsOutcome (stream_of c.args.self.now) line c.args.start result (stream_of new)) (sym says)
    (put_rest (stream_of c.args.self.now) (stream_of now) (stream_of new) line taken c.args.start (Err why) c.loop-taken.invariant.took
    (put_refused now new (drop taken line) c.args.start _ why moved c.loop-taken.invariant.took.took.kept.sound c.loop-taken.invariant.took.took.live put))

pub loop-taken-smaller : goal.loop-taken-smaller
loop-taken-smaller g c = grind (arith, piece_is, length-drop, some_taken)

pub loop-taken-preserved : goal.loop-taken-preserved
loop-taken-preserved g c = grind (arith, piece_is, length-drop, takes_more, puts_took)

pub returns-in-None-clause-outcome : goal.returns-in-None-clause-outcome
returns-in-None-clause-outcome g c =
    let line : List ℕ = c.args.piece.now in
    let taken : ℕ = c.loop-taken.taken in
    let now : EngineView = c.loop-taken.self in
    let new : EngineView = c.put-in-loop-taken.new.self in
    let waits : Waits now new = subst (λ (count : Option ℕ). PutOutcome now (nat_lt c.args.start c.put.inside.place) (take (length line - taken) (drop taken line)) (Ok count) new) c.in-None.is c.in_ok-count.ensures in
    put_rest (stream_of c.args.self.now) (stream_of now) (stream_of new) line taken c.args.start (Ok false) c.loop-taken.invariant.took (waits_full now new (drop taken line) (omega (arith, length-drop taken line, c.loop-taken-test.true)) waits)

pub returns-clause-outcome : goal.returns-clause-outcome
returns-clause-outcome g c = subst (λ (bytes : List ℕ). TookAll (stream_of c.args.self.now) bytes (stream_of c.loop-taken.self)) (take_all c.loop-taken.taken c.args.piece.now c.loop-taken-test.false) c.loop-taken.invariant.took
