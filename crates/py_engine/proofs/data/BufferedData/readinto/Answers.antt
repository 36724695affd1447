use Rattle.std.proofs.Common.{◌<◌, length, refl, ap, subst, arith}
use Rattle.std.proofs.lemmas.Result.{err_from_is_err_and}
use Rattle.py_flat.specs.Calls.{ReadInto}
use Rattle.py_window.specs.Window.{ahead_of}
use Rattle.py_stream.specs.Replies.{into_reply}
use Rattle.py_engine.specs.Engine.{EngineView, Stands}
use Rattle.py_engine.proofs.Random.{begins_not, went_not, went_unready, went_on, stands_begun, into_goes, into_held}
use Rattle.py_engine.proofs.data.BufferedData.readinto.Goals as goal

pub returns-in_err-begin-clause-answers : goal.returns-in_err-begin-clause-answers
returns-in_err-begin-clause-answers g c =
    let left = err_from_is_err_and c.from_residual.result c.from_residual.ensures.1 in
    rw (left.1, left.2) (begins_not c.args.self.now c.begin.new.self (ReadInto (length c.args.buffer.now)) c.in_err-begin.field-0.0 refl (subst Stands c.self.view_is c.self.invariant) c.in_err-begin.ensures)

pub returns-then-buffer-ahead-clause-answers : goal.returns-then-buffer-ahead-clause-answers
returns-then-buffer-ahead-clause-answers g c = into_held c.args.self.now c.begin.new.self (subst Stands c.self.view_is c.self.invariant) c.requires.reads c.in_ok-begin.ensures c.step_on.new.self (length c.args.buffer.now) c.copy_ahead-count.result c.copy_ahead-count.new.buffer (omega (arith, c.if-buffer-ahead.true, ap length c.ahead.ensures, ap (λ (engine : EngineView). length (ahead_of engine.window)) c.self-2.view_is)) c.copy_ahead-count.ensures.count c.copy_ahead-count.ensures.front c.step_on.ensures

pub returns-in_err-go_ahead-clause-answers : goal.returns-in_err-go_ahead-clause-answers
returns-in_err-go_ahead-clause-answers g c =
    let more : length (ahead_of c.begin.new.self.window) < length c.args.buffer.now = omega (arith, c.if-buffer-ahead.false, ap length c.ahead.ensures, ap (λ (engine : EngineView). length (ahead_of engine.window)) c.self-2.view_is) in
    let is : Stands c.begin.new.self = stands_begun c.args.self.now c.begin.new.self (subst Stands c.self.view_is c.self.invariant) c.in_ok-begin.ensures in
    let left = err_from_is_err_and c.from_residual-in_err-go_ahead.result c.from_residual-in_err-go_ahead.ensures.1 in
    rw (left.1, left.2) (went_not c.args.self.now c.begin.new.self (ReadInto (length c.args.buffer.now)) c.in_ok-begin.ensures (into_goes c.begin.new.self (length c.args.buffer.now) is.window_is more) c.go_ahead.new.self c.in_err-go_ahead.field-0.0 c.in_err-go_ahead.ensures)

pub returns-then-not-branch-clause-answers : goal.returns-then-not-branch-clause-answers
returns-then-not-branch-clause-answers g c =
    let more : length (ahead_of c.begin.new.self.window) < length c.args.buffer.now = omega (arith, c.if-buffer-ahead.false, ap length c.ahead.ensures, ap (λ (engine : EngineView). length (ahead_of engine.window)) c.self-2.view_is) in
    let is : Stands c.begin.new.self = stands_begun c.args.self.now c.begin.new.self (subst Stands c.self.view_is c.self.invariant) c.in_ok-begin.ensures in
    went_unready c.args.self.now c.begin.new.self (ReadInto (length c.args.buffer.now)) c.in_ok-begin.ensures (into_goes c.begin.new.self (length c.args.buffer.now) is.window_is more) c.go_ahead.new.self c.in_ok-go_ahead.field-0 c.if-not-branch.true c.in_ok-go_ahead.ensures

pub returns-clause-answers : goal.returns-clause-answers
returns-clause-answers g c =
    let more : length (ahead_of c.begin.new.self.window) < length c.args.buffer.now = omega (arith, c.if-buffer-ahead.false, ap length c.ahead.ensures, ap (λ (engine : EngineView). length (ahead_of engine.window)) c.self-2.view_is) in
    let is : Stands c.begin.new.self = stands_begun c.args.self.now c.begin.new.self (subst Stands c.self.view_is c.self.invariant) c.in_ok-begin.ensures in
    went_on c.args.self.now c.begin.new.self (ReadInto (length c.args.buffer.now)) c.in_ok-begin.ensures (into_goes c.begin.new.self (length c.args.buffer.now) is.window_is more) c.go_ahead.new.self c.fill_up.new.self c.in_ok-go_ahead.field-0 (into_reply c.fill_up.result c.fill_up.new.buffer) c.if-not-branch.false c.in_ok-go_ahead.ensures c.fill_up.ensures.reads (λ wanting takes. absurd (cc)) c.fill_up.ensures.answers.readinto
