use Rattle.std.proofs.Common.{true, false, None, refl, sym, ◌∙◌}
use Rattle.std.proofs.lemmas.Result.{err_from_is_err_and}
use Rattle.py_flat.specs.Calls.{Read, Refused}
use Rattle.py_stream.proofs.ReadingAnswers.{answers_begun}
use Rattle.py_stream.proofs.ReadingOn.{refused_rest, rest_gathers, stopped_from, counted_empty}
use Rattle.py_stream.proofs.LineReadings.{begun, all_by_several}
use Rattle.py_stream.proofs.reading_on.read_rest.Goals as goal

pub returns-in_err-begin_reading-clause-answers : goal.returns-in_err-begin_reading-clause-answers
returns-in_err-begin_reading-clause-answers g c =
    let left = err_from_is_err_and c.from_residual.result c.from_residual.ensures.1 in
    rw (left.1, left.2) (c.in_err-begin_reading.ensures.begins (Read None) refl)

pub returns-in_err-stop-clause-answers : goal.returns-in_err-stop-clause-answers
returns-in_err-stop-clause-answers g c =
    let left = err_from_is_err_and c.from_residual-in_err-stop.result c.from_residual-in_err-stop.ensures.1 in
    let began = begun (g.S.ReadsOn.shows c.args.stream.now) (g.S.ReadsOn.shows c.begin_reading.new.self) c.in_ok-begin_reading.ensures.begins in
    rw (left.1, left.2) (answers_begun _ _ (Read None) (Refused c.in_err-stop.field-0.0) _ began.from (refused_rest _ _ c.read_all.new.bytes.items c.in_err-stop.field-0.0 began.reads c.in_err-stop.ensures.outcome))

pub returns-then-answers-clause-answers : goal.returns-then-answers-clause-answers
returns-then-answers-clause-answers g c =
    let part = c.read_all.new.bytes in
    stopped_from (g.S.ReadsOn.shows c.args.stream.now) (g.S.ReadsOn.shows c.begin_reading.new.self) _ _ (Read None) part.items _ _ c.is_empty.result true (all_by_several _) c.in_ok-begin_reading.ensures.begins
    (rest_gathers _ _ part.items _ c.in_ok-stop.ensures.outcome) refl (counted_empty part.items part.len c.is_empty.result part.ok.0 c.is_empty.ensures) (sym c.answers.ensures.answer ∙ c.if-answers.true) c.answers.ensures.stream

pub returns-else-answers-clause-answers : goal.returns-else-answers-clause-answers
returns-else-answers-clause-answers g c =
    let part = c.read_all.new.bytes in
    stopped_from (g.S.ReadsOn.shows c.args.stream.now) (g.S.ReadsOn.shows c.begin_reading.new.self) _ _ (Read None) part.items _ _ c.is_empty.result false (all_by_several _) c.in_ok-begin_reading.ensures.begins
    (rest_gathers _ _ part.items _ c.in_ok-stop.ensures.outcome) refl (counted_empty part.items part.len c.is_empty.result part.ok.0 c.is_empty.ensures) (sym c.answers.ensures.answer ∙ c.if-answers.false) c.answers.ensures.stream
