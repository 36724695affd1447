use Rattle.std.proofs.Common.{◌≡◌, false, ℕ, List, length, take, drop, Bool, Option, Some, None, Ok, refl, sym, ap, ◌∙◌, subst}
use Rattle.std.proofs.lemmas.Result.{err_from_is_err_and}
use Rattle.py_flat.specs.Calls.{FileCall, Bytes, NotReady, Read, Refused}
use Rattle.py_stream.specs.Answers.{Answers}
use Rattle.py_stream.proofs.ReadingAnswers.{answers_begun}
use Rattle.py_stream.proofs.LineReadings.{begun}
use Rattle.py_stream.proofs.ReadingOn.{cut_to}
use Rattle.py_unbuffered.specs.Engine.{EngineView, stream_of, TransferOutcome}
use Rattle.py_unbuffered.proofs.Reading.{once_came, once_refused}
use Rattle.py_unbuffered.proofs.data.UnbufferedData.read_once.Goals as goal

pub returns-in_err-begin_reading : goal.returns-in_err-begin_reading
returns-in_err-begin_reading g c =
    let left = err_from_is_err_and c.from_residual.result c.from_residual.ensures.1 in
    rw (left.1, left.2) (c.in_err-begin_reading.ensures.begins (Read (Some c.args.size)) refl)

pub returns-in_err-count : goal.returns-in_err-count
returns-in_err-count g c =
    let left = err_from_is_err_and c.from_residual-in_err-count.result c.from_residual-in_err-count.ensures.1 in
    let old : EngineView = c.begin_reading.new.self in
    let call : FileCall = Read (Some c.args.size) in
    let why = c.in_err-count.field-0.0 in
    let begins = begun (stream_of c.args.self.now) (stream_of old) c.in_ok-begin_reading.ensures.begins in
    rw (left.1, left.2) (answers_begun (stream_of c.args.self.now) (stream_of old) call (Refused why) (stream_of c.transfer.new.self) begins.from
    (once_refused old c.transfer.new.self call c.deref_mut.result.now c.transfer.new.buffer refl begins.reads why c.in_err-count.ensures.outcome))

pub returns-in-Some : goal.returns-in-Some
returns-in-Some g c =
    let old : EngineView = c.begin_reading.new.self in
    let size : ℕ = c.args.size in
    let call : FileCall = Read (Some size) in
    let before : List ℕ = c.deref_mut.result.now in
    let buffer : List ℕ = c.transfer.new.buffer in
    let count : ℕ = c.in-Some.count in
    let begins = begun (stream_of c.args.self.now) (stream_of old) c.in_ok-begin_reading.ensures.begins in
    let long : length before ≡ size = c.deref_mut.ensures.len ∙ c.in-Ok.ensures.len in
    let cut : c.truncate.new.self.items ≡ take count buffer = c.truncate.ensures.items ∙ cut_to buffer (drop (length buffer) c.in-Ok.bytes.items) count c.in-Ok.bytes.len (c.in_ok-count.ensures.length ∙ c.deref_mut.ensures.len) in
    let came : TransferOutcome old false before (Ok (Some count)) buffer c.transfer.new.self = subst (λ (counted : Option ℕ). TransferOutcome old false before (Ok counted) buffer c.transfer.new.self) c.in-Some.is c.in_ok-count.ensures.outcome in
    let same : record c.transfer.new.self { short = false } ≡ c.transfer.new.self = ap (λ (whole : Bool). let engine : EngineView = record c.transfer.new.self { short = whole } in engine) (sym (came.kept.short ∙ begins.reads.whole)) in
    answers_begun (stream_of c.args.self.now) (stream_of old) call (Bytes c.truncate.new.self.items) (stream_of c.transfer.new.self) begins.from
    (subst (λ (part : List ℕ). Answers (stream_of old) call (Bytes part) (stream_of c.transfer.new.self)) (sym cut)
    (subst (λ (engine : EngineView). Answers (stream_of old) call (Bytes (take count buffer)) (stream_of engine)) same
    (once_came old c.transfer.new.self call before buffer refl begins.reads (Some count) long (c.in_ok-count.ensures.length ∙ long) came)))

pub returns-in-None : goal.returns-in-None
returns-in-None g c =
    let old : EngineView = c.begin_reading.new.self in
    let call : FileCall = Read (Some c.args.size) in
    let before : List ℕ = c.deref_mut.result.now in
    let buffer : List ℕ = c.transfer.new.buffer in
    let begins = begun (stream_of c.args.self.now) (stream_of old) c.in_ok-begin_reading.ensures.begins in
    let long : length before ≡ c.args.size = c.deref_mut.ensures.len ∙ c.in-Ok.ensures.len in
    let came : TransferOutcome old false before (Ok None) buffer c.transfer.new.self = subst (λ (counted : Option ℕ). TransferOutcome old false before (Ok counted) buffer c.transfer.new.self) c.in-None.is c.in_ok-count.ensures.outcome in
    answers_begun (stream_of c.args.self.now) (stream_of old) call NotReady (stream_of c.note_wait.new.self) begins.from
    (subst (λ (engine : EngineView). Answers (stream_of old) call NotReady (stream_of engine)) (sym c.note_wait.ensures)
    (once_came old c.transfer.new.self call before buffer refl begins.reads None long (c.in_ok-count.ensures.length ∙ long) came))
