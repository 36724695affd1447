use Rattle.std.proofs.Common.{◌≡◌, false, rules, ℕ, length, take, refl, ap, subst, arith}
use Rattle.std.proofs.lemmas.List.{length-take}
use Rattle.std.proofs.lemmas.Result.{err_from_is_err_and}
use Rattle.py_flat.specs.Calls.{ReadInto1, NotReady, Refused}
use Rattle.py_stream.specs.Kinds.{is_zero, asks_nothing}
use Rattle.py_window.specs.Window.{ahead_of}
use Rattle.py_engine.specs.Engine.{Stands, stream_of}
use Rattle.py_engine.specs.Random.{AnswersSome, gave}
use Rattle.py_engine.proofs.SingleReading.{asks_some, copied}
use Rattle.py_engine.proofs.Standing.{answers_from_begun}
use Rattle.py_engine.proofs.Random.{begins_not, none_asked, some_stops}
use Rattle.py_engine.proofs.data.BufferedData.readinto1.Goals as goal

pub returns-in_err-begin-clause-answers : goal.returns-in_err-begin-clause-answers
returns-in_err-begin-clause-answers g c =
    let left = err_from_is_err_and c.from_residual.result c.from_residual.ensures.1 in
    rw (left.1, left.2) (begins_not c.args.self.now c.begin.new.self (ReadInto1 (length c.args.buffer.now)) c.in_err-begin.field-0.0 refl (subst Stands c.self.view_is c.self.invariant) c.in_err-begin.ensures)

pub returns-then-is_empty-clause-answers : goal.returns-then-is_empty-clause-answers
returns-then-is_empty-clause-answers g c =
    let none : length c.args.buffer.now ≡ 0 = search rules in
    none_asked c.args.self.now c.begin.new.self (subst Stands c.self.view_is c.self.invariant) c.requires.reads c.in_ok-begin.ensures (ReadInto1 (length c.args.buffer.now)) (ap is_zero none)

pub returns-in_err-has_some-clause-answers : goal.returns-in_err-has_some-clause-answers
returns-in_err-has_some-clause-answers g c =
    let some : asks_nothing (ReadInto1 (length c.args.buffer.now)) ≡ false = asks_some c.begin.new.self.window.size (ReadInto1 (length c.args.buffer.now)) refl (search rules) in
    let left = err_from_is_err_and c.from_residual-in_err-has_some.result c.from_residual-in_err-has_some.ensures.1 in
    rw (left.1, left.2) (answers_from_begun c.args.self.now c.begin.new.self (ReadInto1 (length c.args.buffer.now)) (Refused c.in_err-has_some.field-0.0) (stream_of c.has_some.new.self) c.in_ok-begin.ensures (some_stops c.begin.new.self c.has_some.new.self (ReadInto1 (length c.args.buffer.now)) (Refused c.in_err-has_some.field-0.0) refl some c.in_err-has_some.ensures))

pub returns-then-not-branch-clause-answers : goal.returns-then-not-branch-clause-answers
returns-then-not-branch-clause-answers g c =
    let some : asks_nothing (ReadInto1 (length c.args.buffer.now)) ≡ false = asks_some c.begin.new.self.window.size (ReadInto1 (length c.args.buffer.now)) refl (search rules) in
    answers_from_begun c.args.self.now c.begin.new.self (ReadInto1 (length c.args.buffer.now)) NotReady (stream_of c.has_some.new.self) c.in_ok-begin.ensures (some_stops c.begin.new.self c.has_some.new.self (ReadInto1 (length c.args.buffer.now)) NotReady refl some (rw c.if-not-branch.true at c.in_ok-has_some.ensures))

pub returns-clause-answers : goal.returns-clause-answers
returns-clause-answers g c =
    let size : ℕ = length c.args.buffer.now in
    let once : AnswersSome c.begin.new.self size c.has_some.new.self = rw c.if-not-branch.false at c.in_ok-has_some.ensures in
    let part : take c.copy_ahead-count.result c.copy_ahead-count.new.buffer ≡ take size (ahead_of c.has_some.new.self.window) = copied c.copy_ahead-count.result size (take c.copy_ahead-count.result c.copy_ahead-count.new.buffer) (ahead_of c.has_some.new.self.window) c.copy_ahead-count.ensures.count c.copy_ahead-count.ensures.front in
    let count : c.copy_ahead-count.result ≡ length (take size (ahead_of c.has_some.new.self.window)) = omega (arith, c.copy_ahead-count.ensures.count, length-take size (ahead_of c.has_some.new.self.window)) in
    rw (c.step_on.ensures, part, count) (answers_from_begun c.args.self.now c.begin.new.self (ReadInto1 size) _ (stream_of (gave size c.has_some.new.self)) c.in_ok-begin.ensures once.readinto1)
