-- What a reading comes to, over any raw: what its steps keep, what it gives, where it stops, and how often it asks its raw.
use Rattle.std.specs.Prelude.{◌≡◌, ◌≢◌, ℕ, ◌+◌, ◌<◌, ◌≤◌, ◌⊎◌, Bool, true, false, ◌&&◌, not, List, [], ◌++◌, length, take, max, IsSome, Some, Result, Ok, Err}
use Rattle.py_flat.specs.declared.fault.IoFault.{IoFault}
use Rattle.py_flat.specs.declared.fault.IoFault.TheVariants as fault
use Rattle.py_flat.specs.declared.life.Life.TheVariants as life
use Rattle.py_flat.specs.Limits.{greatest_place}
use Rattle.py_flat.specs.Bytes.{first_of}
use Rattle.py_flat.specs.Lines.{Lf, first_line, lines_of, lines_within, joined}
use Rattle.py_flat.specs.Causes.{Rose}
use Rattle.py_flat.specs.Calls.{FileCall, Read, ReadLine, ReadLines, ReadInto, FileReply, Bytes, Lines}
use Rattle.py_flat.specs.ExactStep.{rest}
use Rattle.py_flat.specs.BinaryStep.{IsFrontOf}
use Rattle.py_raw.specs.RawStream.{Keeps, StaysOpen, WhereTold, WherePlace, WhereTransfers, KeepsBytes, NoFault, NoWait, WaitsOnce, LeavesCounts, AnswersFor}
use Rattle.py_stream.specs.declared.stop.Stop.{Stop}
use Rattle.py_stream.specs.declared.stop.Stop.TheVariants as stop
use Rattle.py_stream.specs.Stream.{Stream, file_of, nothing_owed}
use Rattle.py_stream.specs.Answers.{ahead, IsNear, CameByReads, EachBrings, LastIsNeeded, ReadsOnce}

-- What a reading keeps.

-- every step of a reading leaves the raw's bytes, and what stream and raw can do; after it nothing is owed, at the place, a
-- live stream's raw is near, and the raw stands after the bytes held
pub record KeepsReading (before after : Stream) : Type 0 where
  pub raw : Keeps before.raw after.raw
  pub stays : StaysOpen before.raw after.raw
  pub bytes : KeepsBytes before.raw after.raw
  pub written : AnswersFor 0 before.raw after.raw
  pub can : after.can ≡ before.can
  pub buffer : after.buffer ≡ before.buffer
  pub short : after.short ≡ before.short
  pub owed : after.owed ≡ nothing_owed after.place
  pub far : after.place ≤ greatest_place
  pub near : after.life ≡ life.Live → IsNear after
  pub ahead : after.raw_place ≡ after.held.to

-- What a reading asks of its raw.

-- the raw isn't called, and the same bytes are held
pub record LeavesHeld (before after : Stream) : Type 0 where
  pub raw : after.raw ≡ before.raw
  pub held : after.held ≡ before.held

-- at most one transfer was made, and so one read
pub record OneTransfer (before after : Stream) : Type 0 where
  pub transfers : WhereTransfers before.raw (after.raw.transfers ≤ before.raw.transfers + 1)
  pub once : ReadsOnce before after
  pub came : CameByReads 1 before after

-- the raw of a stream with a buffer isn't called for what lies among the bytes that were held, and was last called for what was given
pub record IsNeeded (before after : Stream) : Type 0 where
  pub held : IsSome before.buffer → after.place ≤ before.held.to → after.raw ≡ before.raw
  pub last : LastIsNeeded before after

-- What a reading gives.

-- told: a part is the bytes that come from the place on
abbrev pub ComesNext : Stream → List ℕ → Type 0
ComesNext before part = take (length part) (rest (file_of before)) ≡ part

-- told: the stream's place is no further than the end, or than where it was
abbrev pub Reaches : Stream → Stream → Type 0
Reaches before after = WhereTold before.raw (after.place ≤ max before.place (length (file_of before).bytes))

-- a part was given, and the place moved after its bytes
pub record Gives (before : Stream) (part : List ℕ) (after : Stream) : Type 0 where
  pub kept : KeepsReading before after
  pub no_fault : NoFault before.raw after.raw
  pub live : after.life ≡ life.Live
  pub place : after.place ≡ before.place + length part
  pub told : WhereTold before.raw (ComesNext before part)

-- What fails a reading.

-- the raw failed, and the stream with it, after transfers that each brought a byte
pub record FailsReading (before after : Stream) : Type 0 where
  pub kept : KeepsReading before after
  pub cause : Rose before.raw.faults after.raw.faults
  pub no_wait : NoWait before.raw after.raw
  pub failed : after.life ≡ life.Failed
  pub forth : before.place ≤ after.place
  pub reach : Reaches before after
  pub each : EachBrings 1 0 before after

-- memory ran out once bytes had left the raw, so some were left
pub record FailsMoved (before after : Stream) : Type 0 where
  pub kept : KeepsReading before after
  pub counts : LeavesCounts before.raw after.raw
  pub failed : after.life ≡ life.Failed
  pub forth : before.place ≤ after.place
  pub reach : Reaches before after
  pub further : before.raw_place < after.raw_place
  pub stands : WherePlace before.raw (before.raw.place < after.raw.place)
  pub some : WhereTold before.raw (rest (file_of before) ≢ [])
  pub each : EachBrings 0 0 before after

-- memory ran out: nothing changed, or bytes had left the raw
abbrev pub StarvesReading : Stream → Stream → Type 0
StarvesReading before after = (after ≡ before) ⊎ FailsMoved before after

-- Where a reading stops.

-- what came before a reading stopped: enough; all that is left; what came before the raw would have blocked, and nothing is held back
abbrev pub StopOutcome : Stream → List ℕ → Result Stop IoFault → Stream → Type 0
StopOutcome before part (Ok stop.Enough) after = Gives before part after × NoWait before.raw after.raw × EachBrings 0 0 before after × IsNeeded before after
StopOutcome before part (Ok stop.End) after = Gives before part after × NoWait before.raw after.raw × WhereTold before.raw (length (file_of before).bytes ≤ after.place) × EachBrings 1 1 before after
StopOutcome before part (Ok stop.Waits) after = Gives before part after × Rose before.raw.waits after.raw.waits × (after.raw_place ≡ after.place) × WaitsOnce before.raw after.raw × EachBrings 1 0 before after
StopOutcome before part (Err fault.RawFault) after = FailsReading before after
StopOutcome before part (Err fault.NoMemory) after = StarvesReading before after
StopOutcome before part (Err other) after = ⊥

-- a reading of all that is left stops as any other, but never with just enough
abbrev pub RestOutcome : Stream → Result Stop IoFault → List ℕ → Stream → Type 0
RestOutcome before (Ok stop.Enough) bytes after = ⊥
RestOutcome before result bytes after = StopOutcome before bytes result after

-- what the stops mean for the answer
abbrev pub is_wait : Stop → Bool
is_wait stop.Waits = true
is_wait other = false

-- whether a reading has an answer: none where the raw would have blocked before anything came
abbrev pub has_answer : Stop → Bool → Bool
has_answer where_stopped empty = not (is_wait where_stopped && empty)

-- the stream once the answer is known: a wait cut it short
abbrev pub answered_at : Stop → Stream → Stream
answered_at where_stopped stream = record stream { short = is_wait where_stopped }

-- What is wanted of what is left.

-- what a reading wants of all that is left
abbrev pub wanted_by : FileCall → List ℕ → List ℕ
wanted_by (Read size) left = first_of size left
wanted_by (ReadInto size) left = first_of (Some size) left
wanted_by (ReadLine limit) left = first_line Lf limit left
wanted_by (ReadLines hint) left = joined (lines_within hint left)
wanted_by call left = left

-- how a reading answers with the bytes that it has
abbrev pub reply_by : FileCall → List ℕ → FileReply
reply_by (ReadLines hint) part = Lines (lines_of part)
reply_by call part = Bytes part

-- a part is all that is wanted of what is left
pub record GathersEnough (wanted : List ℕ → List ℕ) (before : Stream) (part : List ℕ) : Type 0 where
  pub alone : wanted part ≡ part
  pub exact : WhereTold before.raw (wanted (rest (file_of before)) ≡ part)

-- a part is a front of what is wanted
pub record GathersFront (wanted : List ℕ → List ℕ) (before : Stream) (part : List ℕ) : Type 0 where
  pub alone : wanted part ≡ part
  pub front : WhereTold before.raw (IsFrontOf part (wanted (rest (file_of before))))

-- a part isn't all that is wanted, whatever comes after it
abbrev pub IsOpen : (List ℕ → List ℕ) → List ℕ → Type 0
IsOpen wanted part = ((more : List ℕ) → wanted (part ++ more) ≡ part) → ⊥

-- what a reading collected by the time that it stopped
abbrev pub Gathers : (List ℕ → List ℕ) → Stream → List ℕ → Result Stop IoFault → Type 0
Gathers wanted before part (Ok stop.Enough) = GathersEnough wanted before part
Gathers wanted before part (Ok stop.End) = GathersEnough wanted before part × IsOpen wanted part
Gathers wanted before part (Ok stop.Waits) = GathersFront wanted before part × IsOpen wanted part
Gathers wanted before part (Err refused) = Unit {0}

-- memory ran out once bytes had left the raw: some of what is left are wanted
abbrev pub StarvesWanting : (List ℕ → List ℕ) → Stream → Result Stop IoFault → Stream → Type 0
StarvesWanting wanted before (Err fault.NoMemory) after = after.life ≡ life.Failed → WhereTold before.raw (wanted (rest (file_of before)) ≢ [])
StarvesWanting wanted before result after = Unit {0}

-- bytes come next from the place on, as many as are held there, where the raw tells; else any may
abbrev pub ComesHeld : Stream → List ℕ → Type 0
ComesHeld before front = WhereTold before.raw (take (ahead before) (rest (file_of before)) ≡ front)

-- no more is wanted than is held from the place on, whatever comes after the bytes held
abbrev pub WantsHeld : (List ℕ → List ℕ) → Stream → Type 0
WantsHeld wanted before = (front more : List ℕ) → ComesHeld before front → length (wanted (front ++ more)) ≤ ahead before

-- the raw isn't called where no more is wanted than is held, and the same bytes are held then
abbrev pub IdleWanting : (List ℕ → List ℕ) → Stream → Result Stop IoFault → Stream → Type 0
IdleWanting wanted before result after = WantsHeld wanted before → LeavesHeld before after × (result ≢ Err fault.RawFault)

-- a refusal moves the place no further than bytes reach that may be wanted
abbrev pub MovesWithin : (List ℕ → List ℕ) → Stream → Result Stop IoFault → Stream → Type 0
MovesWithin wanted before (Err refused) after = (most : ℕ) → ((bytes : List ℕ) → length (wanted bytes) ≤ most) → after.place ≤ before.place + most
MovesWithin wanted before result after = Unit {0}

-- a reading of what is wanted
pub record GatherOutcome (wanted : List ℕ → List ℕ) (before : Stream) (result : Result Stop IoFault) (part : List ℕ) (after : Stream) : Type 0 where
  pub stops : StopOutcome before part result after
  pub gathers : Gathers wanted before part result
  pub starves : StarvesWanting wanted before result after
  pub idle : IdleWanting wanted before result after
  pub within : MovesWithin wanted before result after
