use Rattle.std.proofs.Common.{length, refl, sym}
use Rattle.std.proofs.lemmas.Result.{err_from_is_err_and}
use Rattle.py_flat.specs.Calls.{FileCall, Refused, ReadInto}
use Rattle.py_stream.proofs.ReadingAnswers.{answers_begun}
use Rattle.py_stream.proofs.LineReadings.{begun}
use Rattle.py_unbuffered.specs.Engine.{EngineView, stream_of}
use Rattle.py_unbuffered.proofs.Reading.{once_counted, once_refused}
use Rattle.py_unbuffered.proofs.data.UnbufferedData.readinto.Goals as goal

pub returns-in_err-begin_reading-clause-answers : goal.returns-in_err-begin_reading-clause-answers
returns-in_err-begin_reading-clause-answers g c =
    let left = err_from_is_err_and c.from_residual.result c.from_residual.ensures.1 in
    rw (left.1, left.2) (c.in_err-begin_reading.ensures.begins (ReadInto (length c.args.buffer.now)) refl)

pub returns-in_err-count-clause-answers : goal.returns-in_err-count-clause-answers
returns-in_err-count-clause-answers g c =
    let left = err_from_is_err_and c.from_residual-in_err-count.result c.from_residual-in_err-count.ensures.1 in
    let old : EngineView = c.begin_reading.new.self in
    let call : FileCall = ReadInto (length c.args.buffer.now) in
    let why = c.in_err-count.field-0.0 in
    let begins = begun (stream_of c.args.self.now) (stream_of old) c.in_ok-begin_reading.ensures.begins in
    rw (left.1, left.2) (answers_begun (stream_of c.args.self.now) (stream_of old) call (Refused why) (stream_of c.transfer.new.self) begins.from
    (once_refused old c.transfer.new.self call c.args.buffer.now c.transfer.new.buffer refl begins.reads why c.in_err-count.ensures.outcome))

pub returns-clause-answers : goal.returns-clause-answers
returns-clause-answers g c =
    let old : EngineView = c.begin_reading.new.self in
    let call : FileCall = ReadInto (length c.args.buffer.now) in
    let begins = begun (stream_of c.args.self.now) (stream_of old) c.in_ok-begin_reading.ensures.begins in
    answers_begun (stream_of c.args.self.now) (stream_of old) call _ _ begins.from
    (once_counted old c.transfer.new.self c.note_wait.new.self call c.args.buffer.now c.transfer.new.buffer c.in_ok-count.count c.is_none.result refl refl c.in_ok-count.ensures.length begins.reads c.in_ok-count.ensures.outcome c.is_none.ensures (sym c.note_wait.ensures))
