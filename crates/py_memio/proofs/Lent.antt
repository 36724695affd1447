-- Bytes that are lent out keep their number.
use Rattle.std.proofs.Common.{◌≡◌, ℕ, Bool, true, false, List, ◌++◌, length, drop, Option, Some, None, refl, ap, ◌∙◌, arith, if◌then◌else◌}
use Rattle.std.proofs.lemmas.List.{length-take, length-append, length-drop, take_at}
use Rattle.py_flat.specs.declared.fault.IoFault.{IoFault}
use Rattle.py_flat.specs.declared.fault.IoFault.TheVariants as fault
use Rattle.py_flat.specs.Calls.{FileCall, Write, WriteLines, Truncate, Close, FileReply, Refused}
use Rattle.py_flat.specs.FlatFile.{FlatFile}
use Rattle.py_flat.specs.Refusals.{life_refusal, lacks, or_else, refused_if, refusal}
use Rattle.py_flat.specs.ExactStep.{carried_out}
use Rattle.py_stream.specs.Buffer.{changes_length, refusal_lent}
use Rattle.py_memio.specs.InMemory.{CarriedOutInMemory, AnswersWith, AnswersInMemory}
use Rattle.py_memio.specs.BytesIO.{BytesView, with_bytes}

-- some refusal stands, where the last of three does
refused_so : (first second : Option IoFault) (last : IoFault) (before : FlatFile) (call : FileCall) (reply : FileReply) (after : FlatFile) → AnswersWith (or_else first (or_else second (Some last))) before call reply after → after ≡ before
refused_so (Some why) second last before call reply after answers = answers.1
refused_so None (Some why) last before call reply after answers = answers.1
refused_so None None last before call reply after answers = answers.1

-- a call that doesn't change the length leaves the bytes
kept : (before : FlatFile) (call : FileCall) → changes_length call ≡ false → (carried_out before call).1.bytes ≡ before.bytes
kept before (Write bytes) stays = absurd (cc)
kept before (WriteLines lines) stays = absurd (cc)
kept before (Truncate size) stays = absurd (cc)
kept before Close stays = absurd (cc)
kept before call stays = refl

carried_kept : (before : FlatFile) (call : FileCall) (reply : FileReply) (after : FlatFile) → changes_length call ≡ false → CarriedOutInMemory before call reply after → length after.bytes ≡ length before.bytes
carried_kept before call (Refused why) after stays step = ap (λ (file : FlatFile). length file.bytes) step.2
carried_kept before call reply after stays step = ap (λ (p : FileReply × FlatFile). length p.1.bytes) step ∙ ap length (kept before call stays)

stays_kept : (refused : Option IoFault) (before : FlatFile) (call : FileCall) (reply : FileReply) (after : FlatFile) → changes_length call ≡ false → AnswersWith refused before call reply after → length after.bytes ≡ length before.bytes
stays_kept (Some why) before call reply after stays answers = ap (λ (file : FlatFile). length file.bytes) answers.1
stays_kept None before call reply after stays answers = carried_kept before call reply after stays answers

by_change : (changes : Bool) (before : FlatFile) (call : FileCall) (reply : FileReply) (after : FlatFile) → changes_length call ≡ changes → AnswersWith (if changes then refusal_lent before call else refusal before call) before call reply after → length after.bytes ≡ length before.bytes
by_change true before call reply after is answers = ap (λ (file : FlatFile). length file.bytes) (refused_so (life_refusal before call) (refused_if (lacks before call) fault.Unsupported) fault.BufferError before call reply after answers)
by_change false before call reply after is answers = stays_kept (refusal before call) before call reply after is answers

pub calls_keep : (before : FlatFile) (call : FileCall) (reply : FileReply) (after : FlatFile) → AnswersInMemory true before call reply after → length after.bytes ≡ length before.bytes
calls_keep before call reply after answers = by_change (changes_length call) before call reply after refl answers

pub writes_stand : (view : BytesView) (bytes : List ℕ) → length bytes ≡ length view.file.bytes → (with_bytes view bytes).file.bytes ≡ bytes
writes_stand view bytes as_many = take_at bytes (drop (length bytes) view.file.bytes) (length view.file.bytes) as_many

pub writes_keep : (view : BytesView) (bytes : List ℕ) → length (with_bytes view bytes).file.bytes ≡ length view.file.bytes
writes_keep view bytes =
    let old : List ℕ = view.file.bytes in
    omega (arith, length-take (length old) (bytes ++ drop (length bytes) old), length-append bytes (drop (length bytes) old), length-drop (length bytes) old)
