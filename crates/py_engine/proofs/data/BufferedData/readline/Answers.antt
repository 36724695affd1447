use Rattle.std.proofs.Common.{refl, ap, ◌∙◌, subst}
use Rattle.std.proofs.lemmas.Result.{err_from_is_err_and}
use Rattle.py_flat.specs.Calls.{ReadLine}
use Rattle.py_stream.specs.Replies.{bytes_reply}
use Rattle.py_window.specs.Window.{ahead_of}
use Rattle.py_engine.specs.Engine.{EngineView, Stands, stream_of}
use Rattle.py_engine.specs.Random.{GoesToRaw}
use Rattle.py_engine.proofs.Random.{begins_not, went_not, went_unready, went_reads, went_on, line_goes, line_held, lacks}
use Rattle.py_engine.proofs.data.BufferedData.readline.Goals as goal

pub returns-in_err-begin : goal.returns-in_err-begin
returns-in_err-begin g c =
    let left = err_from_is_err_and c.from_residual.result c.from_residual.ensures.1 in
    rw (left.1, left.2) (begins_not c.args.self.now c.begin.new.self (ReadLine c.args.limit) c.in_err-begin.field-0.0 refl (subst Stands c.self.view_is c.self.invariant) c.in_err-begin.ensures)

pub returns-in_err-line : goal.returns-in_err-line
returns-in_err-line g c =
    let left = err_from_is_err_and c.from_residual-in_err-line.result c.from_residual-in_err-line.ensures.1 in
    rw (left.1, left.2, c.in_err-line.ensures.0, c.in_err-line.ensures.1) (lacks c.args.self.now c.begin.new.self (subst Stands c.self.view_is c.self.invariant) c.requires.reads c.in_ok-begin.ensures (ReadLine c.args.limit) refl refl)

pub returns-in-Some : goal.returns-in-Some
returns-in-Some g c =
    line_held c.args.self.now c.begin.new.self (subst Stands c.self.view_is c.self.invariant) c.requires.reads c.in_ok-begin.ensures c.give.new.self c.args.limit c.in-Some.used c.ahead.result.now c.in_ok-line.line.items (c.ahead.ensures ∙ ap (λ (engine : EngineView). ahead_of engine.window) c.self-2.view_is) c.in-Some.ensures c.in_ok-line.ensures.0 c.in_ok-line.ensures.1

pub returns-in_err-go_ahead : goal.returns-in_err-go_ahead
returns-in_err-go_ahead g c =
    let goes : GoesToRaw (stream_of c.begin.new.self) (ReadLine c.args.limit) = line_goes c.args.self.now c.begin.new.self (subst Stands c.self.view_is c.self.invariant) c.requires.reads c.in_ok-begin.ensures c.args.limit c.ahead.result.now (c.ahead.ensures ∙ ap (λ (engine : EngineView). ahead_of engine.window) c.self-2.view_is) c.in_default.ensures in
    let left = err_from_is_err_and c.from_residual-in_err-go_ahead.result c.from_residual-in_err-go_ahead.ensures.1 in
    rw (left.1, left.2) (went_not c.args.self.now c.begin.new.self (ReadLine c.args.limit) c.in_ok-begin.ensures goes c.go_ahead.new.self c.in_err-go_ahead.field-0.0 c.in_err-go_ahead.ensures)

pub returns-then-not-branch : goal.returns-then-not-branch
returns-then-not-branch g c =
    let goes : GoesToRaw (stream_of c.begin.new.self) (ReadLine c.args.limit) = line_goes c.args.self.now c.begin.new.self (subst Stands c.self.view_is c.self.invariant) c.requires.reads c.in_ok-begin.ensures c.args.limit c.ahead.result.now (c.ahead.ensures ∙ ap (λ (engine : EngineView). ahead_of engine.window) c.self-2.view_is) c.in_default.ensures in
    went_unready c.args.self.now c.begin.new.self (ReadLine c.args.limit) c.in_ok-begin.ensures goes c.go_ahead.new.self c.in_ok-go_ahead.field-0 c.if-not-branch.true c.in_ok-go_ahead.ensures

pub returns : goal.returns
returns g c =
    let goes : GoesToRaw (stream_of c.begin.new.self) (ReadLine c.args.limit) = line_goes c.args.self.now c.begin.new.self (subst Stands c.self.view_is c.self.invariant) c.requires.reads c.in_ok-begin.ensures c.args.limit c.ahead.result.now (c.ahead.ensures ∙ ap (λ (engine : EngineView). ahead_of engine.window) c.self-2.view_is) c.in_default.ensures in
    went_on c.args.self.now c.begin.new.self (ReadLine c.args.limit) c.in_ok-begin.ensures goes c.go_ahead.new.self c.read_line.new.stream c.in_ok-go_ahead.field-0 (bytes_reply c.read_line.result) c.if-not-branch.false c.in_ok-go_ahead.ensures (c.read_line.ensures.reads (went_reads c.args.self.now c.begin.new.self (ReadLine c.args.limit) c.in_ok-begin.ensures goes c.go_ahead.new.self c.in_ok-go_ahead.field-0 c.if-not-branch.false c.in_ok-go_ahead.ensures)) (λ wanting takes. absurd (cc)) c.read_line.ensures.answers
