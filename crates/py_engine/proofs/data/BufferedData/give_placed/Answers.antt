use Rattle.std.proofs.Common.{◌≡◌, ◌<◌, Bool, ℕ, List, length, take, true, false, Ok, Err, sym, ap, subst, arith}
use Rattle.std.proofs.lemmas.Result.{err_from_is_err_and}
use Rattle.py_flat.specs.declared.fault.IoFault.TheVariants as fault
use Rattle.py_flat.specs.BinaryStep.{payload}
use Rattle.py_stream.specs.Held.{KeepsBoth}
use Rattle.py_stream.specs.Writing.{IsFull}
use Rattle.py_window.specs.Window.{room_of}
use Rattle.py_engine.specs.Engine.{EngineView, stream_of, Stands}
use Rattle.py_engine.specs.RandomWriting.{GoesBehind, GivesOutcome, call_of}
use Rattle.py_engine.proofs.RandomWriting.{NoRoom, given_none, given_fit, given_behind, given_stopped, given_late, given_some, given_full}
use Rattle.py_engine.proofs.data.BufferedData.give_placed.Goals as goal

pub returns-then-count-eq0-clause-outcome : goal.returns-then-count-eq0-clause-outcome
returns-then-count-eq0-clause-outcome g c =
    given_none c.args.self.now c.args.given (subst Stands c.self.view_is c.self.invariant) c.requires.update c.requires.live c.requires.whole (omega (arith, c.requires.within, c.requires.count)) (omega (arith, c.requires.count, c.if-count-eq0.true))

pub returns-then-has_room-clause-outcome : goal.returns-then-has_room-clause-outcome
returns-then-has_room-clause-outcome g c =
    let old : EngineView = c.args.self.now in
    given_fit old c.args.given (subst Stands c.self.view_is c.self.invariant) c.requires.update c.requires.live c.requires.whole (omega (arith, c.requires.within, c.requires.count))
    c.keep_over.result c.keep_over.new.self (omega (arith, c.has_room.ensures.room c.if-has_room.true, c.keep_over.ensures.room, c.requires.count)) c.keep_over.ensures.keeps

pub returns-then-branch-clause-outcome : goal.returns-then-branch-clause-outcome
returns-then-branch-clause-outcome g c =
    let goes : GoesBehind c.args.self.now (Ok true) c.go_behind.new.self = subst (λ (done : Bool). GoesBehind c.args.self.now (Ok done) c.go_behind.new.self) c.if-branch.true c.in_ok-go_behind.ensures.outcome in
    given_behind c.args.self.now c.args.given (subst Stands c.self.view_is c.self.invariant) c.requires.update c.requires.live c.requires.whole (omega (arith, c.requires.within, c.requires.count)) c.go_behind.new.self (subst (NoRoom c.args.self.now) c.requires.count (c.has_room.ensures.none c.if-has_room.false)) goes

pub returns-in_err-go_behind-clause-outcome : goal.returns-in_err-go_behind-clause-outcome
returns-in_err-go_behind-clause-outcome g c =
    let left = err_from_is_err_and c.from_residual.result c.from_residual.ensures.1 in
    rw (left.1, left.2) (given_stopped c.args.self.now c.args.given (subst Stands c.self.view_is c.self.invariant) c.requires.update c.requires.live c.requires.whole (omega (arith, c.requires.within, c.requires.count)) c.go_behind.new.self c.in_err-go_behind.field-0.0 (subst (NoRoom c.args.self.now) c.requires.count (c.has_room.ensures.none c.if-has_room.false)) c.in_err-go_behind.ensures.outcome)

pub returns-then-room-eq0-clause-outcome : goal.returns-then-room-eq0-clause-outcome
returns-then-room-eq0-clause-outcome g c =
    let old : EngineView = c.args.self.now in
    let mid : EngineView = c.go_behind.new.self in
    let waits : GoesBehind old (Ok false) mid = subst (λ (done : Bool). GoesBehind old (Ok done) mid) c.if-branch.false c.in_ok-go_behind.ensures.outcome in
    rw c.note_wait.ensures
    (subst (λ (engine : EngineView). GivesOutcome old c.args.given (Err (fault.WouldBlock 0)) (record engine { short = true })) (sym c.self-then-room-eq0.view_is)
    (given_full old c.args.given (subst Stands c.self.view_is c.self.invariant) c.requires.update c.requires.live c.requires.whole (omega (arith, c.requires.within, c.requires.count)) mid c.owe_all.new.self waits c.owe_all.ensures.fills
    (subst (NoRoom old) c.requires.count (c.has_room.ensures.none c.if-has_room.false)) (omega (arith, c.requires.count, c.if-count-eq0.false)) c.owe_all.ensures.full))

pub returns-then-count-room-clause-outcome : goal.returns-then-count-room-clause-outcome
returns-then-count-room-clause-outcome g c =
    let old : EngineView = c.args.self.now in
    let mid : EngineView = c.go_behind.new.self in
    let new : EngineView = c.keep_over-room.new.self in
    let own : List ℕ = payload (call_of c.args.given) in
    let waits : GoesBehind old (Ok false) mid = subst (λ (done : Bool). GoesBehind old (Ok done) mid) c.if-branch.false c.in_ok-go_behind.ensures.outcome in
    let keeps : KeepsBoth (stream_of mid) (take (room_of mid.window) own) (stream_of new) = subst (λ (room : ℕ). KeepsBoth (stream_of mid) (take room own) (stream_of new)) c.keep_over-room.ensures.room c.keep_over-room.ensures.keeps in
    given_late old c.args.given (subst Stands c.self.view_is c.self.invariant) c.requires.update c.requires.live c.requires.whole (omega (arith, c.requires.within, c.requires.count)) mid new waits keeps
    (subst (NoRoom old) c.requires.count (c.has_room.ensures.none c.if-has_room.false)) (omega (arith, c.if-count-room.true, c.keep_over-room.ensures.room, c.requires.count))

pub returns-clause-outcome : goal.returns-clause-outcome
returns-clause-outcome g c =
    let old : EngineView = c.args.self.now in
    let mid : EngineView = c.go_behind.new.self in
    let new : EngineView = c.keep_over-room.new.self in
    let own : List ℕ = payload (call_of c.args.given) in
    let room : c.keep_over-room.result ≡ room_of mid.window = c.keep_over-room.ensures.room in
    let less : room_of mid.window < length own = omega (arith, c.if-count-room.false, room, c.requires.count) in
    let waits : GoesBehind old (Ok false) mid = subst (λ (done : Bool). GoesBehind old (Ok done) mid) c.if-branch.false c.in_ok-go_behind.ensures.outcome in
    let keeps : KeepsBoth (stream_of mid) (take (room_of mid.window) own) (stream_of new) = subst (λ (room : ℕ). KeepsBoth (stream_of mid) (take room own) (stream_of new)) room c.keep_over-room.ensures.keeps in
    let full : IsFull (stream_of new).owed (stream_of new).place new.window.size = c.keep_over-room.ensures.full (omega (arith, room, less)) (omega (arith, room, c.room.ensures.room, ap (λ (engine : EngineView). room_of engine.window) c.self-2.view_is, c.if-room-eq0.false)) in
    rw c.note_wait-2.ensures
    (subst (λ (engine : EngineView). GivesOutcome old c.args.given (Err (fault.WouldBlock c.keep_over-room.result)) (record engine { short = true })) (sym c.self-3.view_is)
    (subst (λ (taken : ℕ). GivesOutcome old c.args.given (Err (fault.WouldBlock taken)) (record new { short = true })) (sym room)
    (given_some old c.args.given (subst Stands c.self.view_is c.self.invariant) c.requires.update c.requires.live c.requires.whole (omega (arith, c.requires.within, c.requires.count)) mid new waits keeps (subst (NoRoom old) c.requires.count (c.has_room.ensures.none c.if-has_room.false))
    ((subst Stands c.self-2.view_is c.self-2.invariant).window_is) less full)))
