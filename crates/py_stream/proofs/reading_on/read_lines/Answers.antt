use Rattle.std.proofs.Common.{true, false, ℕ, List, Err, refl, sym, ◌∙◌, arith}
use Rattle.std.proofs.lemmas.Result.{err_from_is_err_and}
use Rattle.py_flat.specs.Calls.{ReadLines}
use Rattle.py_lines.specs.Collecting.{lines_collected}
use Rattle.py_stream.proofs.ReadingOn.{stopped_lines, refused_from, lines_gathered}
use Rattle.py_stream.proofs.LineReadings.{lines_hold_some}
use Rattle.py_stream.proofs.reading_on.read_lines.Goals as goal

pub gather-requires-clause-asks : goal.gather-requires-clause-asks
gather-requires-clause-asks g c = grind (arith, lines_hold_some)

pub returns-in_err-begin_reading-clause-answers : goal.returns-in_err-begin_reading-clause-answers
returns-in_err-begin_reading-clause-answers g c =
    let left = err_from_is_err_and c.from_residual.result c.from_residual.ensures.1 in
    rw (left.1, left.2) (c.in_err-begin_reading.ensures.begins (ReadLines c.args.hint) refl)

pub returns-in_err-stop-clause-answers : goal.returns-in_err-stop-clause-answers
returns-in_err-stop-clause-answers g c =
    let left = err_from_is_err_and c.from_residual-in_err-stop.result c.from_residual-in_err-stop.ensures.1 in
    let part : List ℕ = lines_collected c.gather.new.collector in
    rw (left.1, left.2) (refused_from (g.S.ReadsOn.shows c.args.stream.now) (g.S.ReadsOn.shows c.begin_reading.new.self) _ (ReadLines c.args.hint) part c.in_err-stop.field-0.0 refl refl c.in_ok-begin_reading.ensures.begins
    (lines_gathered c.new-collector.result c.args.hint _ _ (Err c.in_err-stop.field-0.0) part c.new-collector.ensures.new.2 c.in_err-stop.ensures.outcome))

pub returns-then-answers-clause-answers : goal.returns-then-answers-clause-answers
returns-then-answers-clause-answers g c =
    let handed = c.into_lines-lines.ensures in
    stopped_lines (g.S.ReadsOn.shows c.args.stream.now) (g.S.ReadsOn.shows c.begin_reading.new.self) _ _ c.new-collector.result c.args.hint (lines_collected c.gather.new.collector) c.into_lines-lines.result _ c.len.result true
    c.in_ok-begin_reading.ensures.begins c.new-collector.ensures.new.2 c.in_ok-stop.ensures.outcome handed.all handed.cut c.len.ensures (sym c.answers.ensures.answer ∙ c.if-answers.true) c.answers.ensures.stream

pub returns-else-answers-clause-answers : goal.returns-else-answers-clause-answers
returns-else-answers-clause-answers g c =
    let handed = c.into_lines-lines.ensures in
    stopped_lines (g.S.ReadsOn.shows c.args.stream.now) (g.S.ReadsOn.shows c.begin_reading.new.self) _ _ c.new-collector.result c.args.hint (lines_collected c.gather.new.collector) c.into_lines-lines.result _ c.len.result false
    c.in_ok-begin_reading.ensures.begins c.new-collector.ensures.new.2 c.in_ok-stop.ensures.outcome handed.all handed.cut c.len.ensures (sym c.answers.ensures.answer ∙ c.if-answers.false) c.answers.ensures.stream
