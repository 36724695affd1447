use Rattle.std.proofs.Common.{◌≡◌, unwrap_or, false, refl, sym, ap, ◌∙◌, subst}
use Rattle.std.proofs.lemmas.Result.{err_from_is_err_and}
use Rattle.py_flat.specs.Calls.{Read1, NotReady, Refused}
use Rattle.py_flat.specs.declared.fault.IoFault.TheVariants as fault
use Rattle.py_stream.specs.Kinds.{asks_nothing}
use Rattle.py_engine.specs.Engine.{EngineView, Stands, stream_of}
use Rattle.py_engine.specs.Random.{AnswersOnce, gave}
use Rattle.py_engine.proofs.SingleReading.{asks_some}
use Rattle.py_engine.proofs.Standing.{answers_from_begun}
use Rattle.py_engine.proofs.Random.{begins_not}
use Rattle.py_engine.proofs.data.BufferedData.read1.Goals as goal

pub returns-in_err-begin : goal.returns-in_err-begin
returns-in_err-begin g c =
    let left = err_from_is_err_and c.from_residual.result c.from_residual.ensures.1 in
    rw (left.1, left.2) (begins_not c.args.self.now c.begin.new.self (Read1 c.args.size) c.in_err-begin.field-0.0 refl (subst Stands c.self.view_is c.self.invariant) c.in_err-begin.ensures)

pub returns-in_err-has_once : goal.returns-in_err-has_once
returns-in_err-has_once g c =
    let sized : c.unwrap_or-most.result ≡ unwrap_or c.args.size c.begin.new.self.window.size = c.unwrap_or-most.ensures ∙ ap (unwrap_or c.args.size) (c.size.ensures.size ∙ ap (λ (engine : EngineView). engine.window.size) c.self-2.view_is) in
    let some : asks_nothing (Read1 c.args.size) ≡ false = asks_some c.begin.new.self.window.size (Read1 c.args.size) refl (λ none. c.if-most-eq0.false (sized ∙ none)) in
    let left = err_from_is_err_and c.from_residual-in_err-has_once.result c.from_residual-in_err-has_once.ensures.1 in
    rw (left.1, left.2) (answers_from_begun c.args.self.now c.begin.new.self (Read1 c.args.size) (Refused c.in_err-has_once.field-0.0) (stream_of c.has_once.new.self) c.in_ok-begin.ensures (c.in_err-has_once.ensures (Read1 c.args.size) refl some tt))

pub returns-then-not-branch : goal.returns-then-not-branch
returns-then-not-branch g c =
    let sized : c.unwrap_or-most.result ≡ unwrap_or c.args.size c.begin.new.self.window.size = c.unwrap_or-most.ensures ∙ ap (unwrap_or c.args.size) (c.size.ensures.size ∙ ap (λ (engine : EngineView). engine.window.size) c.self-2.view_is) in
    let some : asks_nothing (Read1 c.args.size) ≡ false = asks_some c.begin.new.self.window.size (Read1 c.args.size) refl (λ none. c.if-most-eq0.false (sized ∙ none)) in
    answers_from_begun c.args.self.now c.begin.new.self (Read1 c.args.size) NotReady (stream_of c.has_once.new.self) c.in_ok-begin.ensures ((rw c.if-not-branch.true at c.in_ok-has_once.ensures) (Read1 c.args.size) refl some tt)

pub returns-in_err-bytes : goal.returns-in_err-bytes
returns-in_err-bytes g c =
    let sized : c.unwrap_or-most.result ≡ unwrap_or c.args.size c.begin.new.self.window.size = c.unwrap_or-most.ensures ∙ ap (unwrap_or c.args.size) (c.size.ensures.size ∙ ap (λ (engine : EngineView). engine.window.size) c.self-2.view_is) in
    let once : AnswersOnce c.begin.new.self c.unwrap_or-most.result c.has_once.new.self = rw c.if-not-branch.false at c.in_ok-has_once.ensures in
    let left = err_from_is_err_and c.from_residual-in_err-bytes.result c.from_residual-in_err-bytes.ensures.1 in
    rw (left.1, left.2, c.in_err-bytes.ensures.0, c.in_err-bytes.ensures.1) (answers_from_begun c.args.self.now c.begin.new.self (Read1 c.args.size) (Refused fault.NoMemory) (stream_of c.has_once.new.self) c.in_ok-begin.ensures (once.lacks c.args.size (sym sized)))

pub returns : goal.returns
returns g c =
    let sized : c.unwrap_or-most.result ≡ unwrap_or c.args.size c.begin.new.self.window.size = c.unwrap_or-most.ensures ∙ ap (unwrap_or c.args.size) (c.size.ensures.size ∙ ap (λ (engine : EngineView). engine.window.size) c.self-2.view_is) in
    let once : AnswersOnce c.begin.new.self c.unwrap_or-most.result c.has_once.new.self = rw c.if-not-branch.false at c.in_ok-has_once.ensures in
    rw (c.in_ok-bytes.ensures.1, c.in_ok-bytes.ensures.0) (answers_from_begun c.args.self.now c.begin.new.self (Read1 c.args.size) _ (stream_of (gave c.unwrap_or-most.result c.has_once.new.self)) c.in_ok-begin.ensures (once.read1 c.args.size (sym sized)))
