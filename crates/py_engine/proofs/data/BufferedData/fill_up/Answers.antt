use Rattle.std.proofs.Common.{length, Some, refl, sym, ◌∙◌}
use Rattle.std.proofs.lemmas.Result.{err_from_is_err_and}
use Rattle.py_flat.specs.Calls.{Read, ReadInto, Refused}
use Rattle.py_engine.specs.Reading.{reading_of}
use Rattle.py_stream.proofs.ReadingAnswers.{answers_begun}
use Rattle.py_stream.proofs.LineReadings.{begun}
use Rattle.py_stream.proofs.ReadingInto.{refused_into, into_answered, into_unready}
use Rattle.py_engine.proofs.data.BufferedData.fill_up.Goals as goal

pub returns-in_err-begin_reading-clause-answers : goal.returns-in_err-begin_reading-clause-answers
returns-in_err-begin_reading-clause-answers g c =
    let left = err_from_is_err_and c.from_residual.result c.from_residual.ensures.1 in
    rw (left.1, left.2) (record { read = c.in_err-begin_reading.ensures.begins (Read (Some (length c.args.buffer.now))) refl; readinto = c.in_err-begin_reading.ensures.begins (ReadInto (length c.args.buffer.now)) refl })

pub returns-in_err-progress-clause-answers : goal.returns-in_err-progress-clause-answers
returns-in_err-progress-clause-answers g c =
    let size = length c.args.buffer.now in
    let before = reading_of c.begin_reading.new.self in
    let after = reading_of c.read_into.new.stream in
    let left = err_from_is_err_and c.from_residual-in_err-progress.result c.from_residual-in_err-progress.ensures.1 in
    let begins = begun (reading_of c.args.self.now) before c.in_ok-begin_reading.ensures.begins in
    rw (left.1, left.2) (record {
      read = answers_begun (reading_of c.args.self.now) before (Read (Some size)) (Refused c.in_err-progress.field-0.0) after begins.from (refused_into before after (Read (Some size)) size c.read_into.new.buffer c.in_err-progress.field-0.0 refl (λ left. refl) c.in_err-progress.ensures.length begins.reads c.in_err-progress.ensures.outcome);
      readinto = answers_begun (reading_of c.args.self.now) before (ReadInto size) (Refused c.in_err-progress.field-0.0) after begins.from (refused_into before after (ReadInto size) size c.read_into.new.buffer c.in_err-progress.field-0.0 refl (λ left. refl) c.in_err-progress.ensures.length begins.reads c.in_err-progress.ensures.outcome);
    })

pub returns-then-answers-clause-answers : goal.returns-then-answers-clause-answers
returns-then-answers-clause-answers g c =
    let size = length c.args.buffer.now in
    let first = reading_of c.args.self.now in
    let before = reading_of c.begin_reading.new.self in
    let begins = begun first before c.in_ok-begin_reading.ensures.begins in
    record {
      read = into_answered first before (reading_of c.read_into.new.stream) (reading_of c.answers.new.self) (Read (Some size)) size c.in_ok-progress.progress c.read_into.new.buffer refl (λ left. refl) c.in_ok-progress.ensures.length begins c.in_ok-progress.ensures.outcome (sym c.answers.ensures.answer ∙ c.if-answers.true) c.answers.ensures.stream;
      readinto = into_answered first before (reading_of c.read_into.new.stream) (reading_of c.answers.new.self) (ReadInto size) size c.in_ok-progress.progress c.read_into.new.buffer refl (λ left. refl) c.in_ok-progress.ensures.length begins c.in_ok-progress.ensures.outcome (sym c.answers.ensures.answer ∙ c.if-answers.true) c.answers.ensures.stream;
    }

pub returns-else-answers-clause-answers : goal.returns-else-answers-clause-answers
returns-else-answers-clause-answers g c =
    let size = length c.args.buffer.now in
    let first = reading_of c.args.self.now in
    let before = reading_of c.begin_reading.new.self in
    let begins = begun first before c.in_ok-begin_reading.ensures.begins in
    record {
      read = into_unready first before (reading_of c.read_into.new.stream) (reading_of c.answers.new.self) (Read (Some size)) size c.in_ok-progress.progress c.read_into.new.buffer refl (λ left. refl) c.in_ok-progress.ensures.length begins c.in_ok-progress.ensures.outcome (sym c.answers.ensures.answer ∙ c.if-answers.false) c.answers.ensures.stream;
      readinto = into_unready first before (reading_of c.read_into.new.stream) (reading_of c.answers.new.self) (ReadInto size) size c.in_ok-progress.progress c.read_into.new.buffer refl (λ left. refl) c.in_ok-progress.ensures.length begins c.in_ok-progress.ensures.outcome (sym c.answers.ensures.answer ∙ c.if-answers.false) c.answers.ensures.stream;
    }
