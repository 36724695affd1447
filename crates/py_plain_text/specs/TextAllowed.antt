-- What may come of a call of a text over any raw: the allowed step on texts.
use Rattle.std.specs.Prelude.{◌≡◌, ℕ, ◌≤◌, ◌⊎◌, pos, zero, suc, Bool, true, false, ◌&&◌, ◌||◌, not, IsTrue, List, [], length, take, Option, Some, None, is_none}
use Rattle.py_flat.specs.declared.fault.IoFault.{IoFault}
use Rattle.py_flat.specs.declared.fault.IoFault.TheVariants as fault
use Rattle.py_flat.specs.declared.life.Life.{Life}
use Rattle.py_flat.specs.declared.life.Life.TheVariants as life
use Rattle.py_flat.specs.Bytes.{lay, first_of}
use Rattle.py_flat.specs.Lines.{first_line}
use Rattle.py_flat.specs.Calls.{FileReply, Unwritten, Refused}
use Rattle.py_flat.specs.AllowedStep.{AllowedStep}
use Rattle.py_flat.specs.BinaryStep.{StandAt, is_live}
use Rattle.py_plain.specs.NewlineRule.{line_end}
use Rattle.py_plain_text.specs.TextFile.{TextFile}
use Rattle.py_plain_text.specs.Rest.{text_rest}
use Rattle.py_plain_text.specs.TextStep.{ReadsTextPart}
use Rattle.py_plain_text.specs.TextWriting.{written_bytes}
use Rattle.py_plain_text.specs.Cookie as cookie
use Rattle.py_plain_text.specs.Landing.{skips, start_place}
use Rattle.py_plain_text.specs.Telling.{placed}
use Rattle.py_plain_text.specs.TextCalls.{TextFileCall, Read, ReadLine, WriteText, SeekText, Flush, Close, Detach, is_own, tells_name}
use Rattle.py_plain_text.specs.TextRefusals.{refusal, lacks}
use Rattle.py_plain_text.specs.TextExact.{in_life, after_writing, sought_cookie, carried_out}

-- Settled calls.

-- the `detach` of a failed text gives bytes that stand in it at the place given, or at some place where the raw can't seek
pub record HandsBack (file : TextFile) (reply : FileReply) (after : TextFile) : Type 0 where
  pub bytes : List ℕ
  pub place : Option ℕ
  pub says : reply ≡ Unwritten bytes place
  pub stand : StandAt bytes file.can.seekable place file.bytes
  pub leaves : after ≡ in_life file life.Detached

-- a `detach` that is let through is of a live text, or of a failed one
abbrev pub DetachesIn : Life → TextFile → FileReply → TextFile → Type 0
DetachesIn life.Failed file reply after = HandsBack file reply after
DetachesIn _ file reply after = (reply, after) ≡ carried_out file Detach

abbrev pub Accepted : TextFile → TextFileCall → FileReply → TextFile → Type 0
Accepted file Detach reply after = DetachesIn file.life file reply after
Accepted file call reply after = (reply, after) ≡ carried_out file call

abbrev pub SettledBy : TextFile → TextFileCall → Option IoFault → FileReply → TextFile → Type 0
SettledBy file call (Some fault) reply after = (reply ≡ Refused fault) × (after ≡ file)
SettledBy file call None reply after = Accepted file call reply after

-- the call is refused as it has to be, or carried out
abbrev pub Settled : TextFile → TextFileCall → FileReply → TextFile → Type 0
Settled file call reply after = SettledBy file call (refusal file call) reply after

-- Calls that may go to the raw.

-- whether the call does work that may go to the raw: it is live, accepted, and not one of the text's own
abbrev pub does_work : TextFile → TextFileCall → Bool
does_work file call = is_live file.life && (is_none (refusal file call) && not (is_own call))

abbrev pub asks_end : TextFile → TextFileCall → Bool
asks_end file (SeekText bytes (pos (suc (suc zero)))) = is_live file.life && not (lacks file (SeekText bytes (pos (suc (suc zero)))))
asks_end file _ = false

-- whether the call may go to the raw: it does work, or is a seek to the end, of which the raw is asked before the end is tried
abbrev pub reaches_raw : TextFile → TextFileCall → Bool
reaches_raw file call = does_work file call || asks_end file call

-- Waits.

-- a call that has to come again, with all as before
abbrev pub HasToWait : TextFile → FileReply → TextFile → Type 0
HasToWait file reply after = (reply ≡ Refused (fault.WouldBlock 0)) × (after ≡ file)

-- a write that had to wait took all the bytes of its text
abbrev pub TakesAll : TextFile → List ℕ → FileReply → TextFile → Type 0
TakesAll file bytes reply after = (reply ≡ Refused (fault.WouldBlock (length bytes))) × (after ≡ after_writing file bytes)

-- a seek by a cookie that skips had to wait while it read the bytes fed: the text stands at the cookie's start
abbrev pub WaitsAtStart : TextFile → cookie.Cookie → FileReply → TextFile → Type 0
WaitsAtStart file sought reply after =
    IsTrue (skips sought) × (reply ≡ Refused (fault.WouldBlock 0)) × (after ≡ placed file (start_place sought))

-- what may come of each call where the raw would have blocked
abbrev pub WaitedBy : TextFile → TextFileCall → FileReply → TextFile → Type 0
WaitedBy file (Read size) reply after = ReadsTextPart file (first_of size (text_rest file).characters) reply after
WaitedBy file (ReadLine limit) reply after =
    ReadsTextPart file (first_line (line_end file.settings.newline) limit (text_rest file).characters) reply after
WaitedBy file (WriteText text) reply after = TakesAll file (written_bytes file.settings text) reply after
WaitedBy file (SeekText bytes whence) reply after =
    HasToWait file reply after ⊎ WaitsAtStart file (sought_cookie file bytes whence) reply after
WaitedBy file Flush reply after = HasToWait file reply after
WaitedBy file Close reply after = HasToWait file reply after
WaitedBy file Detach reply after = HasToWait file reply after
WaitedBy file _ reply after = ⊥

abbrev pub Waited : TextFile → TextFileCall → FileReply → TextFile → Type 0
Waited file call reply after = IsTrue (does_work file call) × WaitedBy file call reply after

-- Faults and running out of memory.

-- the bytes that a call would lay on
abbrev pub payload : TextFile → TextFileCall → List ℕ
payload file (WriteText text) = written_bytes file.settings text
payload file _ = []

-- a text after a call that failed in the middle: its life, and its bytes; abilities and settings stay, the place isn't told
pub record Fails (file : TextFile) (life : Life) (bytes : List ℕ) (after : TextFile) : Type 0 where
  pub life_is : after.life ≡ life
  pub bytes_are : after.bytes ≡ bytes
  pub can : after.can ≡ file.can
  pub settings : after.settings ≡ file.settings

-- some first part of what the call writes is laid on
abbrev pub FailsWriting : TextFile → TextFileCall → Life → TextFile → Type 0
FailsWriting file call life after =
    (count : ℕ) × (count ≤ length (payload file call))
    × Fails file life (lay file.bytes file.place.at (take count (payload file call))) after

-- a fault of the raw leaves a closed text after `close`, else a failed one
abbrev pub life_after_fault : TextFileCall → Life
life_after_fault Close = life.Closed
life_after_fault call = life.Failed

abbrev pub Faulted : TextFile → TextFileCall → TextFile → Type 0
Faulted file call after = IsTrue (reaches_raw file call) × FailsWriting file call (life_after_fault call) after

-- a text that is written fails when out of memory where its buffer does so in the middle of what the text passes on to it
abbrev pub FailsMidway : TextFile → TextFileCall → TextFile → Type 0
FailsMidway file call after = (file.can.writable ≡ true) × FailsWriting file call life.Failed after

-- running out of memory leaves all as before; but where it ran out while a seek by a cookie that skips read the bytes fed, and once more on the
-- way back to where the text stood, the text stands at the cookie's start
abbrev pub LeftStarved : TextFile → TextFileCall → TextFile → Type 0
LeftStarved file (SeekText bytes whence) after =
    let sought = sought_cookie file bytes whence in
    (after ≡ file) ⊎ (IsTrue (skips sought) × (after ≡ placed file (start_place sought)))
LeftStarved file call after = after ≡ file

-- running out of memory leaves the text as it was, or where a seek may leave it, or failed in the middle; the answer to a question for a
-- name wants memory too
abbrev pub Starved : TextFile → TextFileCall → TextFile → Type 0
Starved file call after =
    (IsTrue (reaches_raw file call || tells_name call) × LeftStarved file call after) ⊎ (IsTrue (reaches_raw file call) × FailsMidway file call after)

-- the allowed step of a text
abbrev pub TextFileStep : TextFile → TextFileCall → FileReply → Bool → Bool → TextFile → Type 0
TextFileStep before call reply waited faulted after = AllowedStep Settled Waited Faulted Starved before call reply waited faulted after
