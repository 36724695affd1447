use Rattle.std.proofs.Common.{Ok, None, Some, refl, ap, ◌∙◌, subst}
use Rattle.std.proofs.lemmas.Result.{err_from_is_err_and}
use Rattle.py_flat.specs.Calls.{ReadLines}
use Rattle.py_stream.specs.Replies.{lines_reply}
use Rattle.py_window.specs.Window.{ahead_of}
use Rattle.py_engine.specs.Engine.{EngineView, stream_of, Stands}
use Rattle.py_engine.specs.Random.{GoesToRaw, LinesIn}
use Rattle.py_engine.proofs.Random.{begins_not, reads_seen, went_not, went_unready, went_reads, went_on, lines_go, lines_held, lacks}
use Rattle.py_engine.proofs.data.BufferedData.readlines.Goals as goal

pub returns-then-is_ahead : goal.returns-then-is_ahead
returns-then-is_ahead g c = reads_seen c.args.self.now c.read_lines.new.stream (ReadLines c.args.hint) (lines_reply c.read_lines.result) (c.is_ahead.ensures.yes c.if-is_ahead.true) (c.read_lines.ensures.reads (c.is_ahead.ensures.yes c.if-is_ahead.true)) c.read_lines.ensures.answers

pub returns-in_err-begin : goal.returns-in_err-begin
returns-in_err-begin g c =
    let left = err_from_is_err_and c.from_residual.result c.from_residual.ensures.1 in
    rw (left.1, left.2) (begins_not c.args.self.now c.begin.new.self (ReadLines c.args.hint) c.in_err-begin.field-0.0 refl (subst Stands c.self.view_is c.self.invariant) c.in_err-begin.ensures)

pub returns-in_default : goal.returns-in_default
returns-in_default g c = lacks c.args.self.now c.begin.new.self (subst Stands c.self.view_is c.self.invariant) c.requires.reads c.in_ok-begin.ensures (ReadLines c.args.hint) refl refl

pub returns-in-Some : goal.returns-in-Some
returns-in-Some g c =
    let held : LinesIn c.ahead.result.now c.args.hint (Ok (Some (c.in-Some.lines, c.in-Some.used))) = rw c.in-Some.is at c.in-Ok.ensures in
    lines_held c.args.self.now c.begin.new.self (subst Stands c.self.view_is c.self.invariant) c.requires.reads c.in_ok-begin.ensures c.step_on.new.self c.args.hint c.in-Some.used c.ahead.result.now c.in-Some.lines (c.ahead.ensures ∙ ap (λ (engine : EngineView). ahead_of engine.window) c.self-2.view_is) held.0 held.1 c.step_on.ensures

pub returns-in_err-go_ahead : goal.returns-in_err-go_ahead
returns-in_err-go_ahead g c =
    let held : LinesIn c.ahead.result.now c.args.hint (Ok None) = rw c.in_default-held.is at c.in-Ok.ensures in
    let goes : GoesToRaw (stream_of c.begin.new.self) (ReadLines c.args.hint) = lines_go c.args.self.now c.begin.new.self (subst Stands c.self.view_is c.self.invariant) c.requires.reads c.in_ok-begin.ensures c.args.hint c.ahead.result.now (c.ahead.ensures ∙ ap (λ (engine : EngineView). ahead_of engine.window) c.self-2.view_is) held in
    let left = err_from_is_err_and c.from_residual-in_err-go_ahead.result c.from_residual-in_err-go_ahead.ensures.1 in
    rw (left.1, left.2) (went_not c.args.self.now c.begin.new.self (ReadLines c.args.hint) c.in_ok-begin.ensures goes c.go_ahead.new.self c.in_err-go_ahead.field-0.0 c.in_err-go_ahead.ensures)

pub returns-then-not-branch : goal.returns-then-not-branch
returns-then-not-branch g c =
    let held : LinesIn c.ahead.result.now c.args.hint (Ok None) = rw c.in_default-held.is at c.in-Ok.ensures in
    let goes : GoesToRaw (stream_of c.begin.new.self) (ReadLines c.args.hint) = lines_go c.args.self.now c.begin.new.self (subst Stands c.self.view_is c.self.invariant) c.requires.reads c.in_ok-begin.ensures c.args.hint c.ahead.result.now (c.ahead.ensures ∙ ap (λ (engine : EngineView). ahead_of engine.window) c.self-2.view_is) held in
    went_unready c.args.self.now c.begin.new.self (ReadLines c.args.hint) c.in_ok-begin.ensures goes c.go_ahead.new.self c.in_ok-go_ahead.field-0 c.if-not-branch.true c.in_ok-go_ahead.ensures

pub returns : goal.returns
returns g c =
    let held : LinesIn c.ahead.result.now c.args.hint (Ok None) = rw c.in_default-held.is at c.in-Ok.ensures in
    let goes : GoesToRaw (stream_of c.begin.new.self) (ReadLines c.args.hint) = lines_go c.args.self.now c.begin.new.self (subst Stands c.self.view_is c.self.invariant) c.requires.reads c.in_ok-begin.ensures c.args.hint c.ahead.result.now (c.ahead.ensures ∙ ap (λ (engine : EngineView). ahead_of engine.window) c.self-2.view_is) held in
    went_on c.args.self.now c.begin.new.self (ReadLines c.args.hint) c.in_ok-begin.ensures goes c.go_ahead.new.self c.read_lines-2.new.stream c.in_ok-go_ahead.field-0 (lines_reply c.read_lines-2.result) c.if-not-branch.false c.in_ok-go_ahead.ensures (c.read_lines-2.ensures.reads (went_reads c.args.self.now c.begin.new.self (ReadLines c.args.hint) c.in_ok-begin.ensures goes c.go_ahead.new.self c.in_ok-go_ahead.field-0 c.if-not-branch.false c.in_ok-go_ahead.ensures)) (λ wants takes. absurd (cc)) c.read_lines-2.ensures.answers
