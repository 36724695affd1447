-- A copy, from the clauses of the three calls that make it.
use Rattle.std.proofs.Common.{◌≡◌, ℕ, Bool, true, false, not, IsTrue, List, [], ◌∷◌, ◌++◌, length, Option, Some, None, refl, sym, ap, ◌∙◌, subst, arith, length-append}
use Rattle.std.proofs.lemmas.List.{append-nil}
use Rattle.py_flat.specs.declared.fault.IoFault.{IoFault}
use Rattle.py_flat.specs.declared.fault.IoFault.TheVariants as fault
use Rattle.py_flat.specs.Bytes.{lay}
use Rattle.py_flat.specs.Calls.{Read, Write, Flush, FileReply, Bytes, Count, Done, Refused}
use Rattle.py_flat.specs.FlatFile.{FlatFile, Abilities, Buffering, Unbuffered, Buffered, InMemory}
use Rattle.py_flat.specs.Refusals.{or_else, refused_if, life_refusal, argument_refusal, refusal}
use Rattle.py_flat.specs.ExactStep.{rest, after_write}
use Rattle.py_flat.specs.BinaryStep.{if_unbuffered, CarriedOut, SettledBy, BinaryStep}
use Rattle.py_flat.proofs.Settling.{smooth_is_settled}
use Rattle.py_raw.specs.RawStream.{tells}
use Rattle.py_raw.proofs.Telling.{tells_still}
use Rattle.py_stream.specs.Stream.{Stream, file_of}
use Rattle.py_stream.specs.Answers.{Answers}
use Rattle.py_callers.specs.Copying.{Copied}

-- What a reply has.

abbrev bytes_in : FileReply → List ℕ
bytes_in (Bytes part) = part
bytes_in reply = []

abbrev count_in : FileReply → ℕ
count_in (Count count) = count
count_in reply = 0

-- The reading.

read_settled : (file : FlatFile) (part : List ℕ) (after : FlatFile) (refused : Option IoFault) → SettledBy file (Read None) refused (Bytes part) after → part ≡ rest file
read_settled file part after (Some why) h = let e : Bytes part ≡ Refused why = h.0 in cc
read_settled file part after None h = ap (λ (p : FileReply × FlatFile). bytes_in p.0) h

read_whole : (before : Stream) (part : List ℕ) (after : Stream) → Answers before (Read None) (Bytes part) after → after.short ≡ false → IsTrue (tells before.raw) → part ≡ rest (file_of before)
read_whole before part after answers whole seen =
    let step : BinaryStep (file_of before) (Read None) (Bytes part) false false (file_of after) = subst (λ (short : Bool). BinaryStep (file_of before) (Read None) (Bytes part) short false (file_of after)) whole (answers.told seen) in
    read_settled (file_of before) part (file_of after) (refusal (file_of before) (Read None)) (smooth_is_settled (file_of before) (Read None) (Bytes part) (file_of after) step (λ e. cc))

-- The write.

front_is_whole : (part more whole : List ℕ) → part ++ more ≡ whole → length whole ≡ length part → part ≡ whole
front_is_whole part [] whole e n = sym (append-nil part) ∙ e
front_is_whole part (byte ∷ more) whole e n = absurd (let all : length (part ++ (byte ∷ more)) ≡ length whole = ap length e in omega (arith, length-append part (byte ∷ more)))

write_carried : (file : FlatFile) (bytes : List ℕ) (after : FlatFile) (buffering : Buffering) → CarriedOut file (Write bytes) (if_unbuffered buffering bytes) (Count (length bytes)) after → after ≡ after_write file bytes
write_carried file bytes after Unbuffered h =
    let all : h.part ≡ bytes = front_is_whole h.part h.front.0 bytes h.front.1 (ap (λ (p : FileReply × FlatFile). count_in p.0) h.outcome) in
    ap (λ (p : FileReply × FlatFile). p.1) h.outcome ∙ ap (after_write file) all
write_carried file bytes after (Buffered size) h = ap (λ (p : FileReply × FlatFile). p.1) h
write_carried file bytes after InMemory h = ap (λ (p : FileReply × FlatFile). p.1) h

write_settled : (file : FlatFile) (bytes : List ℕ) (after : FlatFile) (refused : Option IoFault) → SettledBy file (Write bytes) refused (Count (length bytes)) after → (refused ≡ None) × (after ≡ after_write file bytes)
write_settled file bytes after (Some why) h = let e : Count (length bytes) ≡ Refused why = h.0 in cc
write_settled file bytes after None h = (refl, write_carried file bytes after file.buffering h)

write_whole : (before : Stream) (bytes : List ℕ) (after : Stream) → Answers before (Write bytes) (Count (length bytes)) after → IsTrue (tells before.raw) → (refusal (file_of before) (Write bytes) ≡ None) × (file_of after ≡ after_write (file_of before) bytes)
write_whole before bytes after answers seen =
    let step : BinaryStep (file_of before) (Write bytes) (Count (length bytes)) false false (file_of after) = subst (λ (short : Bool). BinaryStep (file_of before) (Write bytes) (Count (length bytes)) short false (file_of after)) answers.shorts (answers.told seen) in
    write_settled (file_of before) bytes (file_of after) (refusal (file_of before) (Write bytes)) (smooth_is_settled (file_of before) (Write bytes) (Count (length bytes)) (file_of after) step (λ e. cc))

-- a stream that accepts a write can write
able : (early late : Option IoFault) (writes : Bool) → or_else early (or_else (refused_if (not writes) fault.Unsupported) late) ≡ None → writes ≡ true
able (Some why) late writes e = cc
able None late true e = refl
able None late false e = cc

writes_of : (file : FlatFile) (bytes : List ℕ) → refusal file (Write bytes) ≡ None → file.can.writable ≡ true
writes_of file bytes e = able (life_refusal file (Write bytes)) (argument_refusal file (Write bytes)) file.can.writable e

-- Three calls copy: a read of all, a write of what was read, and a flush.

copied : (reader read writer written flushed : Stream) (part : List ℕ) → Answers reader (Read None) (Bytes part) read → read.short ≡ false → Answers writer (Write part) (Count (length part)) written → Answers written Flush Done flushed → Copied reader writer flushed
copied reader read writer written flushed part reads whole writes flushes = λ from to.
    let all : part ≡ rest (file_of reader) = read_whole reader part read reads whole from in
    let wrote = write_whole writer part written writes to in
    let can : written.can.writable ≡ true = ap (λ (can : Abilities). can.writable) writes.keeps.can ∙ writes_of (file_of writer) part wrote.0 in
    (flushes.writes can).passes.0.holds (tells_still writer.raw written.raw writes.keeps.raw ∙ to)
    ∙ ap (λ (file : FlatFile). file.bytes) wrote.1
    ∙ ap (lay (file_of writer).bytes writer.place) all

-- three calls copy what the reader had left, where the piece that is written is what was read
pub copied_as : (reader read writer written flushed : Stream) (part piece : List ℕ) (taken : ℕ) → piece ≡ part → taken ≡ length part → Answers reader (Read None) (Bytes part) read → read.short ≡ false → Answers writer (Write piece) (Count taken) written → Answers written Flush Done flushed → Copied reader writer flushed
copied_as reader read writer written flushed part piece taken same count reads whole writes flushes =
    let all : Answers writer (Write part) (Count taken) written = subst (λ (bytes : List ℕ). Answers writer (Write bytes) (Count taken) written) same writes in
    copied reader read writer written flushed part reads whole (subst (λ (n : ℕ). Answers writer (Write part) (Count n) written) count all) flushes

pub not_true : (test : Bool) → not test ≡ true → test ≡ false
not_true true e = cc
not_true false e = refl
