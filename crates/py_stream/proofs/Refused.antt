-- What a call leaves that is refused, or that its raw stops; a raw that is closed with its stream; a stream whose raw was handed back.
use Rattle.std.proofs.Common.{◌≡◌, ℕ, inl, Bool, true, false, IsTrue, List, Option, refl, arith, ◌≢◌, [], Some, None, ◌||◌, ap}
use Rattle.std.proofs.lemmas.List.{append-nil}
use Rattle.py_flat.specs.declared.fault.IoFault.{IoFault}
use Rattle.py_flat.specs.declared.fault.IoFault.TheVariants as fault
use Rattle.py_flat.specs.Calls.{FileCall, Truncate, Refused, FileReply}
use Rattle.py_flat.specs.FlatFile.{Abilities, FlatFile}
use Rattle.py_flat.specs.Refusals.{is_getter, is_other_getter, is_close}
use Rattle.py_flat.specs.BinaryStep.{payload, is_tell, asks_end, does_work, reaches_raw}
use Rattle.py_stream.proofs.Owing.{owes_as_before}
use Rattle.py_stream.specs.Stream.{Stream, detached_stream}
use Rattle.py_stream.specs.Kinds.{is_writing, says_would_block, says_no_memory, is_reading, is_single, reads_on, by_several, takes_space_first, asks_none}
use Rattle.py_stream.specs.Writing.{HasRoom, LaysFront, LaysInOrder, HasJust, PassesOn, BlocksFull, OwesNoneOfIts, Writes}
use Rattle.py_stream.specs.Answers.{Answers, IsReplyTo, IsShort, StarvesTo, LifeMoves, MovesForth, PlaceFails, PlaceMoves, GivesWithin, SeeksByEnd, IsAnswerTo, HasCauses, parts_at_close}
use Rattle.py_flat.specs.declared.life.Life.{Life}
use Rattle.py_flat.specs.Causes.{rose}
use Rattle.py_raw.specs.RawStream.{Raw}

-- A call that is refused, and leaves all.

-- a refusal that isn't the raw's, nor running out of memory
abbrev pub is_own : IoFault → Bool
is_own fault.RawFault = false
is_own fault.NoMemory = false
is_own (fault.WouldBlock taken) = false
is_own why = true

-- nothing was laid on bytes that stayed as they were
pub lays_nothing : (before : Stream) (own after : List ℕ) → after ≡ before.raw.bytes → LaysFront before own after
lays_nothing before own after same = record { passed = 0; more = 0; order = λ some. absurd (some refl); laid = same }

nothing_laid : (before : Stream) (call : FileCall) → LaysInOrder before call before.raw.bytes
nothing_laid before (Truncate size) = record { between = before.raw.bytes; lays = record { passed = 0; more = 0; order = λ some. absurd (some refl); laid = refl }; cuts = inl refl }
nothing_laid before call = record { passed = 0; more = 0; order = λ some. absurd (some refl); laid = refl }

-- a call that was refused need not have passed anything on, unless a wait stopped it, or memory ran out
pub nothing_passed : (before after : Stream) (call : FileCall) (why : IoFault) → says_would_block (Refused why) ≡ false → says_no_memory (Refused why) ≡ false → PassesOn before call (Refused why) after
nothing_passed before after call why other fed = grind arith

-- where memory ran out, a flush has given the raw just what isn't owed any more
pub lacking_passed : (before after : Stream) (call : FileCall) → HasJust before after → PassesOn before call (Refused fault.NoMemory) after
lacking_passed before after call just = grind arith

-- no wait fills the buffer
pub nothing_blocked : (after : Stream) (call : FileCall) (why : IoFault) → says_would_block (Refused why) ≡ false → BlocksFull call (Refused why) after
nothing_blocked after call why other = grind arith

never_waits : (why : IoFault) → is_own why ≡ true → says_would_block (Refused why) ≡ false
never_waits why own = grind arith

none_of_its : (before after : Stream) (call : FileCall) (why : IoFault) → is_own why ≡ true → OwesNoneOfIts before call (Refused why) after
none_of_its before after call why own = grind arith

wants_none : (why : IoFault) → is_own why ≡ true → says_no_memory (Refused why) ≡ false
wants_none why own = grind arith

-- what a refused call does with the bytes of a stream that writes
pub leaves_all : (before : Stream) (call : FileCall) (why : IoFault) → is_own why ≡ true → before.short ≡ false → (IsTrue (is_writing call) → HasRoom before (payload call) → ⊥) → Writes before call (Refused why) before
leaves_all before call why own whole roomless = grind (arith, owes_as_before, append-nil, nothing_laid, nothing_passed, nothing_blocked, never_waits, wants_none, none_of_its)

-- A stream whose raw was handed back.

-- a call of a detached stream is refused, and leaves the stream as it is
pub detached_answers : (can : Abilities) (buffer : Option ℕ) (call : FileCall) → is_getter call ≡ false → is_other_getter call ≡ false → Answers (detached_stream can buffer) call (Refused fault.Detached) (detached_stream can buffer)
detached_answers can buffer call asks known = grind arith

-- A call that gives no bytes.

-- what a call that gives no bytes isn't, and that no answer of it gives too much
pub record GivesNone (call : FileCall) : Type 0 where
  pub going_on : reads_on call ≡ false
  pub first : takes_space_first call ≡ false
  pub single : is_single call ≡ false
  pub several : (buffer : Option ℕ) → by_several buffer call ≡ false
  pub nothing : (buffer : Option ℕ) → asks_none buffer call ≡ false
  pub within : (size : ℕ) (reply : FileReply) → GivesWithin size call reply

-- each call that doesn't read is one that gives no bytes
pub gives_none : (call : FileCall) → is_reading call ≡ false → GivesNone call
gives_none call reads = grind arith

-- Whatever stops a call.

-- a call that does work may blame the raw
pub work_reaches : (file : FlatFile) (call : FileCall) → IsTrue (does_work file call) → IsTrue (reaches_raw file call)
work_reaches file call work = ap (λ (does : Bool). does || asks_end file call) work

-- a refusal is short where it says that the raw would have blocked
pub says_short : (call : FileCall) (why : IoFault) → IsShort call (Refused why) (says_would_block (Refused why))
says_short call why = grind arith

-- a call that the raw or memory stops needs no end of the file
pub needs_no_end : (before : Stream) (call : FileCall) (why : IoFault) (after : Stream) → is_own why ≡ false → SeeksByEnd before call (Refused why) after
needs_no_end before call why after raws = grind arith

-- The raw would have blocked, and nothing was given or taken.

-- a wait leaves the life as it was
pub waits_alive : (buffer : Option ℕ) (call : FileCall) (current : Life) → LifeMoves buffer call (Refused (fault.WouldBlock 0)) current current
waits_alive buffer call current = grind arith

-- a wait of a call that gives no bytes to the stream leaves the place as it was
pub waits_there : (buffer : Option ℕ) (call : FileCall) (current : Life) (place : ℕ) → is_writing call ≡ false → PlaceMoves buffer call (Refused (fault.WouldBlock 0)) current place place
waits_there buffer call current place writing = grind arith

-- a call that gives no bytes to the stream took none where it would have blocked, while some is owed
pub waits_with_none : (call : FileCall) (after : Stream) → is_writing call ≡ false → after.owed.bytes ≢ [] → BlocksFull call (Refused (fault.WouldBlock 0)) after
waits_with_none call after writing owing = grind arith

-- a call that doesn't read may answer a wait with a refusal
pub waits_answer : (size : ℕ) (call : FileCall) → is_reading call ≡ false → is_tell call ≡ false → IsReplyTo (Some size) true call (Refused (fault.WouldBlock 0))
waits_answer size call reads tells = grind arith

-- The raw failed.

stays_forth : (most : Option ℕ) (place : ℕ) → MovesForth most place place
stays_forth None place = omega arith
stays_forth (Some most) place = (omega arith, omega arith)

fails_where : (goes : Bool) (most : Option ℕ) (place : ℕ) → PlaceFails goes most place place
fails_where true most place = stays_forth most place
fails_where false most place = refl

-- a fault may leave the place
pub fails_there : (buffer : Option ℕ) (call : FileCall) (current : Life) (place : ℕ) → PlaceMoves buffer call (Refused fault.RawFault) current place place
fails_there buffer call current place = grind (arith, fails_where)

-- every call but a `tell` may answer a fault
pub fault_answers : (buffer : Option ℕ) (writes : Bool) (call : FileCall) → is_tell call ≡ false → IsReplyTo buffer writes call (Refused fault.RawFault)
fault_answers buffer writes call tells = grind arith

-- Memory ran out, and the stream is as it was.

starves_so : (goes : Bool) (current : Life) → StarvesTo goes current current
starves_so true current = inl refl
starves_so false current = refl

-- running out of memory may leave the life
pub starves_alive : (buffer : Option ℕ) (call : FileCall) (current : Life) → LifeMoves buffer call (Refused fault.NoMemory) current current
starves_alive buffer call current = grind (arith, starves_so)

-- running out of memory may leave the place
pub starves_there : (buffer : Option ℕ) (call : FileCall) (current : Life) (place : ℕ) → PlaceMoves buffer call (Refused fault.NoMemory) current place place
starves_there buffer call current place = grind arith

-- every call but a `tell` may answer that memory ran out
pub starve_answers : (buffer : Option ℕ) (writes : Bool) (call : FileCall) → is_tell call ≡ false → IsReplyTo buffer writes call (Refused fault.NoMemory)
starve_answers buffer writes call tells = grind arith

-- an answer to an accepted call is complete where neither the waits nor the faults of the raw rose
pub completes : (old new : Raw) (buffer : Option ℕ) (writes : Bool) (call : FileCall) (reply : FileReply) (short : Bool) → HasCauses old reply new short → IsShort call reply short → IsReplyTo buffer writes call reply → rose old.waits new.waits ≡ false → rose old.faults new.faults ≡ false → IsAnswerTo call reply × (short ≡ false)
completes old new buffer writes call reply short causes shorts answers calm sound = grind arith

-- only a close parts a stream from its raw
pub parts_not : (before after : Stream) (call : FileCall) (reply : FileReply) → is_close call ≡ false → parts_at_close before call reply after ≡ false
parts_not before after call reply closes = grind arith

-- a close of a stream that doesn't write has its raw closed too, whatever it answers
pub closes_whole : (reader : Stream) (call : FileCall) (reply : FileReply) (after : Stream) → reader.can.writable ≡ false → parts_at_close reader call reply after ≡ false
closes_whole reader call reply after writes = grind arith
