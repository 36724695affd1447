use Rattle.std.proofs.Common.{true, false, Err, refl, sym, ◌∙◌, arith}
use Rattle.std.proofs.lemmas.Result.{err_from_is_err_and}
use Rattle.py_flat.specs.Calls.{ReadLine}
use Rattle.py_flat.proofs.Cutting.{first_line_holds_some}
use Rattle.py_stream.proofs.ReadingOn.{stopped_line, refused_from, line_gathered}
use Rattle.py_stream.proofs.LineReadings.{not_nothing}
use Rattle.py_stream.proofs.reading_on.read_line.Goals as goal

pub gather-requires-clause-asks : goal.gather-requires-clause-asks
gather-requires-clause-asks g c = grind (arith, not_nothing, first_line_holds_some)

pub returns-in_err-begin_reading-clause-answers : goal.returns-in_err-begin_reading-clause-answers
returns-in_err-begin_reading-clause-answers g c =
    let left = err_from_is_err_and c.from_residual.result c.from_residual.ensures.1 in
    rw (left.1, left.2) (c.in_err-begin_reading.ensures.begins (ReadLine c.args.limit) refl)

pub returns-in_err-stop-clause-answers : goal.returns-in_err-stop-clause-answers
returns-in_err-stop-clause-answers g c =
    let left = err_from_is_err_and c.from_residual-in_err-stop.result c.from_residual-in_err-stop.ensures.1 in
    rw (left.1, left.2) (refused_from (g.S.ReadsOn.shows c.args.stream.now) (g.S.ReadsOn.shows c.begin_reading.new.self) _ (ReadLine c.args.limit) c.gather.new.collector.line c.in_err-stop.field-0.0 refl refl c.in_ok-begin_reading.ensures.begins
    (line_gathered c.new-collector.result c.args.limit _ _ (Err c.in_err-stop.field-0.0) c.gather.new.collector.line c.new-collector.ensures.new c.in_err-stop.ensures.outcome))

pub returns-then-answers-clause-answers : goal.returns-then-answers-clause-answers
returns-then-answers-clause-answers g c =
    let line = c.into_line-line.result in
    stopped_line (g.S.ReadsOn.shows c.args.stream.now) (g.S.ReadsOn.shows c.begin_reading.new.self) _ _ c.new-collector.result c.args.limit c.gather.new.collector.line line.items _ line.len c.is_empty.result true
    c.in_ok-begin_reading.ensures.begins c.new-collector.ensures.new c.in_ok-stop.ensures.outcome c.into_line-line.ensures line.ok.0 c.is_empty.ensures (sym c.answers.ensures.answer ∙ c.if-answers.true) c.answers.ensures.stream

pub returns-else-answers-clause-answers : goal.returns-else-answers-clause-answers
returns-else-answers-clause-answers g c =
    let line = c.into_line-line.result in
    stopped_line (g.S.ReadsOn.shows c.args.stream.now) (g.S.ReadsOn.shows c.begin_reading.new.self) _ _ c.new-collector.result c.args.limit c.gather.new.collector.line line.items _ line.len c.is_empty.result false
    c.in_ok-begin_reading.ensures.begins c.new-collector.ensures.new c.in_ok-stop.ensures.outcome c.into_line-line.ensures line.ok.0 c.is_empty.ensures (sym c.answers.ensures.answer ∙ c.if-answers.false) c.answers.ensures.stream
