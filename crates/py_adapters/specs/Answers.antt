-- What the calls of std's traits answer, by the stream's own.
use Rattle.std.specs.Prelude.{◌≡◌, ◌≢◌, ℕ, zero, suc, ◌+◌, ◌-◌, ◌<◌, ℤ, pos, negsuc, Bool, true, false, nat_le, List, [], ◌∷◌, length, take, drop, Option, Some, None, Result, Ok, Err, IfErr}
use denote.Bor.{Bor}
use Rattle.std.specs.IoError.{error_kind}
use Rattle.std.specs.declared.io.Error.{Error}
use Rattle.std.specs.declared.io.ErrorKind.TheVariants as kind
use Rattle.std.specs.declared.io.traits.SeekFrom.{SeekFrom}
use Rattle.std.specs.declared.io.traits.SeekFrom.TheVariants.{Start, End, Current}
use Rattle.py_flat.specs.declared.fault.IoFault.{IoFault}
use Rattle.py_flat.specs.Limits.{greatest_place}
use Rattle.py_flat.specs.Lines.{joined}
use Rattle.py_flat.specs.Calls.{FileCall, FileReply, Bytes, Write, Seek}
use Rattle.py_flat.specs.Conversions.{kind_of}
use Rattle.py_stream.specs.Replies.{into_reply, count_reply, place_reply}
use Rattle.py_stream.specs.Buffer.{Buffer, AnswersAsBuffer}

-- the stream's own call was made, and answered by its clause what std's answer says
pub record AnsweredBy {Own : Type 0} (answers says : Own → Type 0) : Type 0 where
  pub came : Own
  pub answered : answers came
  pub said : says came

-- a call of a stream, by its own clause and by that of any buffered one
abbrev pub MadeBy : {Own : Type 0} (shows : Own → Buffer) (own : Own → FileCall → FileReply → Own → Type 0) → Own → FileCall → FileReply → Own → Type 0
MadeBy shows own before call reply after = own before call reply after × AnswersAsBuffer (shows before) call reply (shows after)

-- std's answer is the stream's own, or the error of its refusal
abbrev pub Says : {A : Type 0} → Result A IoFault → Result A Error → Type 0
Says (Ok value) (Ok said) = said ≡ value
Says (Err why) (Err error) = error_kind error ≡ kind_of why
Says came result = ⊥

-- a reading says how many bytes it gave, that the raw would have blocked, or why it was refused
abbrev pub SaysRead : Result (Option ℕ) IoFault → Result ℕ Error → Type 0
SaysRead (Ok (Some count)) (Ok said) = said ≡ count
SaysRead (Ok None) (Err error) = error_kind error ≡ kind.WouldBlock
SaysRead (Err why) (Err error) = error_kind error ≡ kind_of why
SaysRead came result = ⊥

-- a loan is of all that the stream lends; or it says that the raw would have blocked, or why it was refused
abbrev pub SaysLent : Result Bool IoFault → (lends : ℕ) → Result (Bor (List ℕ)) Error → Type 0
SaysLent (Ok true) lends (Ok lent) = length lent.now ≡ lends
SaysLent (Ok false) lends (Err error) = error_kind error ≡ kind.WouldBlock
SaysLent (Err why) lends (Err error) = error_kind error ≡ kind_of why
SaysLent came lends result = ⊥

-- a reading leaves what the buffer has after the bytes that it gave, and all of it where it gave none
abbrev pub LeavesBehind : Result ℕ Error → List ℕ → List ℕ → Type 0
LeavesBehind (Ok count) before after = drop count after ≡ drop count before
LeavesBehind (Err error) before after = after ≡ before

-- a write says how many bytes it took, of a refused one too; why it was refused only where it took none
abbrev pub SaysWritten : Result ℕ IoFault → (taken : ℕ) → Result ℕ Error → Type 0
SaysWritten (Ok count) taken (Ok said) = said ≡ count
SaysWritten (Err why) taken (Ok said) = (said ≡ taken) × (0 < taken)
SaysWritten (Err why) taken (Err error) = (taken ≡ 0) × (error_kind error ≡ kind_of why)
SaysWritten came taken result = ⊥

-- std's loops make a call again that was interrupted: none is
abbrev pub IsntInterrupted : {A : Type 0} → Result A Error → Type 0
IsntInterrupted result = IfErr result (λ error. error_kind error ≢ kind.Interrupted)

-- Readings and writes of all that was asked for: one call after another, over any raw.

-- calls that moved some bytes each, the first behind so many that were moved before
abbrev pub InTurn : {Own : Type 0} (Moves : ℕ → Own → List ℕ → Own → Type 0) → ℕ → Own → List (List ℕ) → Own → Type 0
InTurn Moves done before [] after = after ≡ before
InTurn {Own} Moves done before (part ∷ parts) after = (mid : Own) × (part ≢ []) × Moves done before part mid × InTurn Moves (done + length part) mid parts after

-- some bytes were moved by such calls, a front of them where it ended with an error: `Ends` says how it ended, behind so many
pub record MovesInTurn {Own : Type 0} (Moves : ℕ → Own → List ℕ → Own → Type 0) (Ends : ℕ → Own → Result (Unit {0}) Error → Own → Type 0) (all : List ℕ) (before : Own) (result : Result (Unit {0}) Error) (after : Own) : Type 0 where
  pub parts : List (List ℕ)
  pub front : take (length (joined parts)) all ≡ joined parts
  pub mid : Own
  pub turns : InTurn Moves 0 before parts mid
  pub ends : Ends (length (joined parts)) mid result after

-- a reading of what is left of a size gave these bytes
abbrev pub GivesPart : {Own : Type 0} (answers : Own → ℕ → FileReply → Own → Type 0) (size : ℕ) → ℕ → Own → List ℕ → Own → Type 0
GivesPart answers size done before part after = answers before (size - done) (Bytes part) after

-- the last reading gave none, as nothing is left; or the raw would have blocked; or it was refused
abbrev pub SaysEnded : Result (Option ℕ) IoFault → Error → Type 0
SaysEnded (Ok (Some zero)) error = error_kind error ≡ kind.UnexpectedEof
SaysEnded (Ok (Some (suc count))) error = ⊥
SaysEnded (Ok None) error = error_kind error ≡ kind.WouldBlock
SaysEnded (Err why) error = error_kind error ≡ kind_of why

-- a reading of a size ends once all of it came, or with the error of one reading more
abbrev pub EndsReading : {Own : Type 0} (answers : Own → ℕ → FileReply → Own → Type 0) (size : ℕ) → ℕ → Own → Result (Unit {0}) Error → Own → Type 0
EndsReading answers size done before (Ok all) after = (done ≡ size) × (after ≡ before)
EndsReading answers size done before (Err error) after = (done < size) × AnsweredBy (λ came. answers before (size - done) (into_reply came []) after) (λ came. SaysEnded came error)

-- readings of a size, one after the other, whose bytes stand at the front of a buffer; what it has after them stays
pub record FillsInTurn {Own : Type 0} (answers : Own → ℕ → FileReply → Own → Type 0) (size : ℕ) (was now : List ℕ) (before : Own) (result : Result (Unit {0}) Error) (after : Own) : Type 0 where
  pub by : MovesInTurn (GivesPart answers size) (EndsReading answers size) now before result after
  pub behind : drop (length (joined by.parts)) now ≡ drop (length (joined by.parts)) was

-- a write of what is left of some bytes took these
abbrev pub TakesPart : {Own : Type 0} (shows : Own → Buffer) (own : Own → FileCall → FileReply → Own → Type 0) (all : List ℕ) → ℕ → Own → List ℕ → Own → Type 0
TakesPart shows own all done before part after = AnsweredBy (λ came. MadeBy shows own before (Write (drop done all)) (count_reply came) after) (λ came. SaysWritten came (shows after).taken (Ok (length part)))

-- a write of some bytes ends once all of them were taken, or with the error of one write more, which took none
abbrev pub EndsWriting : {Own : Type 0} (shows : Own → Buffer) (own : Own → FileCall → FileReply → Own → Type 0) (all : List ℕ) → ℕ → Own → Result (Unit {0}) Error → Own → Type 0
EndsWriting shows own all done before (Ok taken) after = (done ≡ length all) × (after ≡ before)
EndsWriting shows own all done before (Err error) after = (done < length all) × AnsweredBy (λ came. MadeBy shows own before (Write (drop done all)) (count_reply came) after) (λ came. SaysWritten came (shows after).taken (Err error))

-- Seeks.

-- a seek is the stream's own
abbrev pub SoughtAs : {Own : Type 0} (shows : Own → Buffer) (own : Own → FileCall → FileReply → Own → Type 0) → Own → (offset whence : ℤ) → Result ℕ Error → Own → Type 0
SoughtAs shows own before offset whence result after = AnsweredBy (λ came. MadeBy shows own before (Seek offset whence) (place_reply came) after) (λ came. Says came result)

-- a seek from the start to a place is the stream's own; past every place of a stream it is one to before the start, whose refusal is of the
-- same kind
abbrev pub StartsAs : {Own : Type 0} (shows : Own → Buffer) (own : Own → FileCall → FileReply → Own → Type 0) (within : Bool) → Own → (place : ℕ) → Result ℕ Error → Own → Type 0
StartsAs shows own true before place result after = SoughtAs shows own before (pos place) (pos 0) result after
StartsAs shows own false before place result after = SoughtAs shows own before (negsuc 0) (pos 0) result after

-- a seek from the start, the place or the end
abbrev pub SeeksAs : {Own : Type 0} (shows : Own → Buffer) (own : Own → FileCall → FileReply → Own → Type 0) → Own → SeekFrom → Result ℕ Error → Own → Type 0
SeeksAs shows own before (Start place) result after = StartsAs shows own (nat_le place greatest_place) before place result after
SeeksAs shows own before (Current offset) result after = SoughtAs shows own before offset (pos 1) result after
SeeksAs shows own before (End offset) result after = SoughtAs shows own before offset (pos 2) result after

-- the answer says only that the stream's own place was answered, or the error of its refusal
abbrev pub SaysMoved : Result ℕ IoFault → Result (Unit {0}) Error → Type 0
SaysMoved (Ok place) (Ok done) = Unit {0}
SaysMoved (Err why) (Err error) = error_kind error ≡ kind_of why
SaysMoved came result = ⊥

-- a seek is the stream's own, and its place isn't answered
abbrev pub MovedAs : {Own : Type 0} (shows : Own → Buffer) (own : Own → FileCall → FileReply → Own → Type 0) → Own → (offset whence : ℤ) → Result (Unit {0}) Error → Own → Type 0
MovedAs shows own before offset whence result after = AnsweredBy (λ came. MadeBy shows own before (Seek offset whence) (place_reply came) after) (λ came. SaysMoved came result)
