-- A call that moves no bytes to its caller or from it: a seek, a flush, a close, a detaching. What makes its answer.
use Rattle.std.proofs.Common.{◌≡◌, ◌≢◌, ℕ, ℤ, ◌≤◌, true, false, IsTrue, List, [], Option, Some, None, refl, sym, ◌∙◌, arith, rules}
use Rattle.py_flat.specs.declared.fault.IoFault.{IoFault}
use Rattle.py_flat.specs.declared.fault.IoFault.TheVariants as fault
use Rattle.py_flat.specs.declared.life.Life.TheVariants as life
use Rattle.py_flat.specs.Limits.{greatest_place}
use Rattle.py_flat.specs.FlatFile.{FlatFile}
use Rattle.py_flat.specs.Calls.{FileCall, Seek, Flush, Close, Detach, FileReply, Done, Unwritten, Refused}
use Rattle.py_flat.specs.BinaryStep.{BinaryStep, reaches_raw, does_work, is_tell, WaitedBy, StarvedBy}
use Rattle.py_raw.specs.RawStream.{StaysOpen, WhereTold, KeepsReads}
use Rattle.py_stream.specs.Stream.{Stream, file_of, nothing_owed}
use Rattle.py_stream.specs.Kinds.{is_reading, is_writing, calls_none, makes_one, says_fault, says_no_memory}
use Rattle.py_stream.specs.Writing.{OwesBehind, NoneAtPlace, PassesFront, LaysFront, LaysInOrder, PassesOn, BlocksFull, Writes}
use Rattle.py_stream.specs.Answers.{Answers, KeepsStream, Leaves, ClosedWith, parts_at_close, closes_again, IsReplyTo, HasCauses, IsCounted, InHand, StaysHeld, AsksNothing, IsIdle, IsShort, LifeMoves, PlaceMoves, refused_by, SeeksByEnd, SeekStands, SparesBytes, IsNear}
use Rattle.py_stream.specs.Keeping.{IsSound}
use Rattle.py_stream.proofs.Refused.{completes, gives_none}

-- Kinds of calls.

-- what a call that moves no bytes isn't, and what a wait and running out of memory mean for it
pub record MovesNone (call : FileCall) : Type 0 where
  pub writing : is_writing call ≡ false
  pub reading : is_reading call ≡ false
  pub telling : is_tell call ≡ false
  pub one : (buffer : Option ℕ) → makes_one buffer call ≡ false
  pub lays : (before : Stream) (after : List ℕ) → LaysFront before [] after → LaysInOrder before call after
  pub waits : (file : FlatFile) → WaitedBy file call (Refused (fault.WouldBlock 0)) file
  pub starves : (file : FlatFile) → StarvedBy file call file

-- a seek moves no bytes to or from its caller
pub seek_moves_none : (offset whence : ℤ) → MovesNone (Seek offset whence)
seek_moves_none offset whence = record { writing = refl; reading = refl; telling = refl; one = λ buffer. refl; lays = λ before after is. is; waits = λ file. (refl, refl); starves = λ file. refl }

-- a `detach` moves none
pub detach_moves_none : MovesNone Detach
detach_moves_none = record { writing = refl; reading = refl; telling = refl; one = λ buffer. refl; lays = λ before after is. is; waits = λ file. (refl, refl); starves = λ file. refl }

-- What a call that moves no bytes answers.

-- what an answer of a call that moves no bytes has of its own
pub record Shows (before : Stream) (call : FileCall) (reply : FileReply) (after : Stream) : Type 0 where
  pub keeps : KeepsStream before after
  pub passes : refused_by before call ≡ None
  pub again : closes_again before call ≡ true → Leaves before Done reply after
  pub shut : parts_at_close before call reply after ≡ false → after.owed.bytes ≡ [] → ClosedWith before.life before.raw → ClosedWith after.life after.raw
  pub parted : parts_at_close before call reply after ≡ true → StaysOpen before.raw after.raw
  pub causes : HasCauses before.raw reply after.raw after.short
  pub counted : IsTrue before.raw.counts_exactly → IsCounted before.buffer before.raw call reply after.raw after.short
  pub shorts : IsShort call reply after.short
  pub life_is : LifeMoves before.buffer call reply before.life after.life
  pub place : PlaceMoves before.buffer call reply after.life before.place after.place
  pub far : after.place ≤ greatest_place
  pub ends : SeeksByEnd before call reply after
  pub seeks : SeekStands before call reply after
  pub wants : IsTrue (says_no_memory reply) → IsTrue before.raw.takes_memory
  pub idle : IsTrue (calls_none before.buffer before.can.writable call) → IsIdle before reply after
  pub reads : KeepsReads before.raw after.raw
  pub in_hand : InHand before call → AsksNothing before reply after
  pub owing : InHand before call → StaysHeld before after
  pub spares : before.can.writable ≡ false → before.owed ≡ nothing_owed before.place → SparesBytes before call after
  pub writes : before.can.writable ≡ true → Writes before call reply after
  pub at_once : before.life ≡ life.Failed → call ≡ Detach → (bytes : List ℕ) × (place : Option ℕ) × (reply ≡ Unwritten bytes place)
  pub answer : IsReplyTo before.buffer before.can.writable call reply
  pub told : WhereTold before.raw (BinaryStep (file_of before) call reply after.short (says_fault reply) (file_of after))
  pub near : after.life ≡ life.Live → IsNear after

-- a call that is let through isn't refused
pub not_refused : (before : Stream) (call : FileCall) (expected reply : FileReply) (after : Stream) (why : IoFault) → refused_by before call ≡ None → refused_by before call ≡ Some why → Leaves before expected reply after
not_refused before call expected reply after why none some = let wrong : None ≡ Some why = sym none ∙ some in absurd (cc)

-- what a call has of its own answers it
pub shows_answers : (before : Stream) (call : FileCall) (reply : FileReply) (after : Stream) → MovesNone call → Shows before call reply after → Answers before call reply after
shows_answers before call reply after none shows = search (rules, gives_none, not_refused, completes)

-- Writing: what a call that moves no bytes does with what is owed.

-- a call passes on a front of what is owed
pub record PassesBytes (before : Stream) (call : FileCall) (reply : FileReply) (after : Stream) : Type 0 where
  pub leaves : PassesFront before after
  pub stands : OwesBehind before → after.owed.bytes ≢ [] → after.raw_place ≡ after.owed.place
  pub lays : WhereTold before.raw (LaysFront before [] after.raw.bytes)
  pub passes : PassesOn before call reply after
  pub full : BlocksFull call reply after
  pub settles : NoneAtPlace before → NoneAtPlace after
  pub unclosed : after.owed.bytes ≢ [] → after.raw.closed ≡ before.raw.closed
  pub rests : before.life ≢ life.Live → after.raw ≡ before.raw

-- a call that passes on a front of what is owed writes just so
pub passing_writes : (before : Stream) (call : FileCall) (reply : FileReply) (after : Stream) → MovesNone call → PassesBytes before call reply after → Writes before call reply after
passing_writes before call reply after none is = grind arith

-- What is accepted.

-- a call of a live stream that goes to the raw
pub record Asked (old : Stream) (call : FileCall) : Type 0 where
  pub sound : IsSound old
  pub live : old.life ≡ life.Live
  pub whole : old.short ≡ false
  pub none : MovesNone call
  pub passes : refused_by old call ≡ None
  pub again : closes_again old call ≡ false
  pub busy : calls_none old.buffer old.can.writable call ≡ false
  pub reaches : IsTrue (reaches_raw (file_of old) call)

-- a call of a live stream that goes to the raw, and that no argument refuses, where the raw tells
pub record Accepts (old : Stream) (call : FileCall) : Type 0 where
  pub asked : Asked old call
  pub works : WhereTold old.raw (IsTrue (does_work (file_of old) call))

-- what an answer says of a stream that reads, or that doesn't write
pub record Beside (old : Stream) (call : FileCall) (reply : FileReply) (new : Stream) : Type 0 where
  pub in_hand : InHand old call → AsksNothing old reply new
  pub owing : InHand old call → StaysHeld old new
  pub spares : old.can.writable ≡ false → old.owed ≡ nothing_owed old.place → SparesBytes old call new

-- an answer has nothing more to say of a stream that writes, where the bytes held don't answer the call
pub beside_writing : (old : Stream) (call : FileCall) (reply : FileReply) (new : Stream) → old.can.writable ≡ true → (InHand old call → ⊥) → Beside old call reply new
beside_writing old call reply new can apart = record { in_hand = λ has. absurd (apart has); owing = λ has. absurd (apart has); spares = λ reads. absurd (cc (can)) }

-- a live stream with a buffer that writes
pub record IsWriting (old : Stream) : Type 0 where
  pub sound : IsSound old
  pub live : old.life ≡ life.Live
  pub whole : old.short ≡ false
  pub size : ℕ
  pub buffered : old.buffer ≡ Some size
  pub writes : old.can.writable ≡ true

-- a `flush` of a live stream with a buffer that writes is accepted
pub flush_asked : (old : Stream) → IsWriting old → Accepts old Flush
flush_asked old is = grind arith

-- a `close` of a live stream is accepted
pub close_asked : (old : Stream) → IsSound old → old.life ≡ life.Live → old.short ≡ false → Accepts old Close
close_asked old sound live whole = grind arith

-- a `detach` of a live stream with a buffer that writes is accepted
pub detach_asked : (old : Stream) → IsWriting old → Accepts old Detach
detach_asked old is = grind arith
