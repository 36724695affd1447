-- How a text reads: the steps of a call.
use Rattle.std.specs.Prelude.{◌≡◌, ℕ, zero, ◌+◌, ◌*◌, ◌<◌, ◌≤◌, ◌≢◌, ◌⊎◌, ◌||◌, Bool, true, false, not, IsTrue, String, List, [], ◌++◌, length, take, max, Option, Some, None, Result, Ok, Err, Vec, if◌then◌else◌, ◌-◌}
use Rattle.std.specs.declared.alloc.Global.{Global}
use Rattle.py_flat.specs.declared.fault.IoFault.{IoFault}
use Rattle.py_flat.specs.declared.fault.IoFault.TheVariants as fault
use Rattle.py_flat.specs.declared.life.Life.TheVariants as life
use Rattle.py_flat.specs.Limits.{greatest_place}
use Rattle.py_flat.specs.Bytes.{left_at}
use Rattle.py_flat.specs.BinaryStep.{IsFrontOf}
use Rattle.py_flat.specs.Causes.{Rose, counted}
use Rattle.py_flat.specs.Lines.{is_ended}
use Rattle.py_plain.specs.declared.newlines.Newlines.{Newlines}
use Rattle.py_plain.specs.NewlineRule.{line_end}
use Rattle.py_plain_text.specs.TextStep.{asks_past}
use Rattle.py_plain_text.specs.TextCalls.{TextFileCall, Read, ReadLine}
use Rattle.py_raw.specs.RawStream.{StaysOpen}
use Rattle.py_stream.specs.Stream.{nothing_owed}
use Rattle.py_stream.specs.Writing.{OwesUpTo}
use Rattle.py_stream.specs.Buffer.{Buffer, WhereShown, flat_of, KeepsBuffer, IsClosedWithRaw}
use Rattle.py_held_text.specs.declared.wanted.Wanted.{Wanted}
use Rattle.py_held_text.specs.declared.wanted.Wanted.TheVariants.{Characters, Line}
use Rattle.py_held_text.specs.Held.{HeldView, base_of, cleared, ahead, given_on, whole_of, left_with, left_so_far}
use Rattle.py_held_text.specs.Bases.{KnowsBases}
use Rattle.py_held_text.specs.Decodes.{KeepsSettings, known_with_cr, IsDrained}
use Rattle.py_held_text.specs.Finding as held_front
use Rattle.py_held_text.specs.Finding.{enough, enough_before}
use Rattle.py_codec.specs.Answers.{text_of}
use Rattle.py_plain_text.specs.Rest.{Rest}
use Rattle.py_read_text.specs.Knowing.{TextView, place_of, shown_file, HasFront}
use Rattle.py_read_text.specs.declared.read_text.Chunk.{Chunk}
use Rattle.py_read_text.specs.declared.read_text.Chunk.TheVariants as chunk
use Rattle.py_read_text.specs.declared.looking.Gathered.{Gathered}
use Rattle.py_read_text.specs.declared.looking.Gathered.TheVariants as gathered
use Rattle.py_plain.specs.Items.{AtRange, ends}
use Rattle.py_flat.specs.Calls.{FileReply, Text, NotReady, Refused}
use Rattle.py_plain_text.specs.TextAllowed.{TextFileStep}
use Rattle.py_stream.specs.Kinds.{says_fault, says_no_memory}
use Rattle.py_read_text.specs.declared.read_text.Answer.{Answer}
use Rattle.py_read_text.specs.declared.read_text.Answer.TheVariants as answer
use Rattle.py_read_text.specs.Waiting.{ShowsAll}
use Rattle.py_read_text.specs.Ahead.{AsksAsNeeded, ReadsOn}
use Rattle.py_read_text.specs.Owing.{PassesOwed, LaysFront}
use Rattle.py_read_text.specs.Answers.{SparesBytes, StandsWhileLive, IsReplyTo, IsShort, PlaceMoves, ReadsOneLine, may_refuse, TextBlames}

-- the call that some wanted characters answer
abbrev pub call_of : Wanted → TextFileCall
call_of (Characters size) = Read size
call_of (Line limit) = ReadLine limit

-- What is in hand was looked at: more of it may be known, and what is left is as it was, whatever comes behind it, of which `Behind` says
-- what that may be; nothing that was surely left is so no more. The base stays, with all bytes from there on, and what is known of it and of
-- the mark
pub record Follows (Behind : List ℕ → Type 0) (old new : HeldView) : Type 0 where
  pub settings : KeepsSettings old new
  pub stands : new.place + length new.bytes ≡ old.place + length old.bytes
  pub forth : old.place ≤ new.place
  pub order : new.order ≡ old.order
  pub base : base_of new ≡ base_of old
  pub whole : whole_of new ≡ whole_of old
  pub front : new.front ≡ old.front
  pub has : HasFront old → HasFront new
  pub given : new.given ≡ old.given
  pub bases : (more : List ℕ) → Behind more → (gone : List ℕ) → KnowsBases more old gone → KnowsBases more new gone
  pub ended : (more : List ℕ) → Behind more → (old.ended ≡ true → more ≡ []) → new.ended ≡ true → more ≡ []
  pub few : known_with_cr new + 6 * old.place ≤ known_with_cr old + 6 * new.place
  pub left : (more : List ℕ) → Behind more → left_with new more ≡ left_with old more
  pub shows : (more : List ℕ) → Behind more → length (left_so_far old more).characters ≤ length (left_so_far new more).characters
  pub sound : (more : List ℕ) → Behind more → (left_so_far new more).refusal ≡ None → (left_so_far old more).refusal ≡ None

-- how many characters are asked for at most, if anything bounds them
abbrev pub size_of : Wanted → Option ℕ
size_of (Characters size) = size
size_of (Line limit) = limit

-- whether all that is left is asked for
abbrev pub asks_all : Wanted → Bool
asks_all (Characters None) = true
asks_all asked = false

-- whether the answer would have to pass a refused range that comes behind some characters
abbrev pub passes : Wanted → Newlines → List ℕ → Bool
passes (Characters size) rule cs = asks_past size cs
passes (Line limit) rule cs = not (is_ended (line_end rule) limit cs)

-- Calling the buffer.

-- the buffer was called, and was given no byte: `waited` says that the raw would have blocked, `faulted` that it failed. The flat bytes stay,
-- and the raw isn't closed; a buffer that can't write and owes nothing leaves its raw's bytes
pub record Calls (before : Buffer) (waited faulted : Bool) (after : Buffer) : Type 0 where
  pub keeps : KeepsBuffer before after
  pub wait : IsTrue waited → Rose before.raw.waits after.raw.waits
  pub fault : IsTrue faulted → Rose before.raw.faults after.raw.faults
  pub waits : IsTrue before.raw.counts_exactly → after.raw.waits ≡ (if waited then counted before.raw.waits 1 else before.raw.waits)
  pub faults : IsTrue before.raw.counts_exactly → faulted ≡ false → after.raw.faults ≡ before.raw.faults
  pub life_is : after.life ≡ (if faulted then life.Failed else before.life)
  pub far : after.place ≤ greatest_place
  pub bytes : WhereShown before ((flat_of after).bytes ≡ (flat_of before).bytes)
  pub spares : before.can.writable ≡ false → before.owed ≡ nothing_owed before.place → SparesBytes before after
  pub stays : IsClosedWithRaw before → StaysOpen before.raw after.raw
  pub passes : PassesOwed before.raw before.owed.bytes after.raw after.owed.bytes
  pub lays : OwesUpTo before.owed before.place → WhereShown before (LaysFront before.raw.bytes (before.place - length before.owed.bytes) before.owed.bytes after.raw.bytes)
  pub stands : StandsWhileLive before → StandsWhileLive after
  pub owes : OwesUpTo before.owed before.place → OwesUpTo after.owed after.place
  pub none : before.owed.bytes ≡ [] → after.owed.bytes ≡ []
  pub first : (after.place ≡ before.place) ⊎ (after.owed.bytes ≡ [])

-- Reading it.

-- told: a front of what is left, empty only at the end
pub record GaveTold (before : Buffer) (part : List ℕ) : Type 0 where
  pub front : IsFrontOf part (left_at (flat_of before).bytes before.place)
  pub end : part ≡ [] → left_at (flat_of before).bytes before.place ≡ []

-- some bytes came, at most so many, none only at the end
pub record Gave (before : Buffer) (size : ℕ) (part : List ℕ) (after : Buffer) : Type 0 where
  pub reads : Calls before false false after
  pub brings : ReadsOn before after
  pub fits : length part ≤ size
  pub place : after.place ≡ before.place + length part
  pub told : WhereShown before (GaveTold before part)

-- nothing came
pub record GaveNothing (before : Buffer) (waited faulted : Bool) (after : Buffer) : Type 0 where
  pub reads : Calls before waited faulted after
  pub brings : ReadsOn before after
  pub place : after.place ≡ before.place

-- the raw would have blocked before anything came, and the buffer holds nothing back
pub record Waited (before after : Buffer) : Type 0 where
  pub nothing : GaveNothing before true false after
  pub empty : after.owed.bytes ≡ [] → after.raw_place ≡ after.place

-- what a reading of so many bytes of a live buffer comes to
abbrev pub ReadOutcome : Buffer → ℕ → Result (Option (Vec ℕ Global)) IoFault → Buffer → Type 0
ReadOutcome before size (Ok (Some part)) after = Gave before size part.items after
ReadOutcome before size (Ok None) after = Waited before after
ReadOutcome before size (Err fault.RawFault) after = GaveNothing before false true after
ReadOutcome before size (Err fault.NoMemory) after = GaveNothing before false false after
ReadOutcome before size (Err other) after = ⊥

-- What is in hand.

-- what may come behind: anything, but behind the last bytes nothing
abbrev pub Coming : (last : Bool) → List ℕ → Type 0
Coming last more = last ≡ true → more ≡ []

-- a refused range comes next, and no CR is held before it
pub record RefusesAt (Behind : List ℕ → Type 0) (held : HeldView) (range : ℕ × ℕ) : Type 0 where
  pub next : (more : List ℕ) → Behind more → ahead held true more ≡ ends held.order (AtRange range.0 range.1)
  pub whole : held.cr ≡ false

-- how far what is in hand reaches, by what may come behind it
abbrev pub HeldAt : (Behind : List ℕ → Type 0) → Wanted → HeldView → Gathered → Type 0
HeldAt Behind asked held (gathered.Enough front) = (enough asked held.newline held.known ≡ Some front.chars) × held_front.IsFrontOf held.known front
HeldAt Behind asked held (gathered.Before front) = (enough_before asked held.newline held.known ≡ Some front.chars) × held_front.IsFrontOf held.known front × ((range : ℕ × ℕ) × RefusesAt Behind held range)
HeldAt Behind asked held (gathered.Refuses start end) = (enough_before asked held.newline held.known ≡ None) × RefusesAt Behind held (start, end)
HeldAt Behind asked held gathered.Ends = (held.bytes ≡ []) × (held.cr ≡ false)
HeldAt Behind asked held gathered.Waits = (enough asked held.newline held.known ≡ None) × IsDrained false held

-- what is in hand tells by itself
abbrev pub IsTold : Gathered → Type 0
IsTold gathered.Ends = ⊥
IsTold gathered.Waits = ⊥
IsTold stop = Unit {0}

-- what is in hand was looked at, whatever comes behind it: how far it reaches, or that more has to come
abbrev pub LookOutcome : HeldView → Wanted → Result (Option Gathered) IoFault → HeldView → Type 0
LookOutcome old asked (Ok (Some stop)) new = HeldAt (Coming false) asked new stop × IsTold stop
LookOutcome old asked (Ok None) new = HeldAt (Coming false) asked new gathered.Waits
LookOutcome old asked (Err why) new = why ≡ fault.NoMemory

-- what is in hand was looked at, by what may come behind it
abbrev pub StopOutcome : (last : Bool) → Wanted → Result Gathered IoFault → HeldView → Type 0
StopOutcome last asked (Ok stop) new = HeldAt (Coming last) asked new stop
StopOutcome last asked (Err why) new = why ≡ fault.NoMemory

-- a stop that isn't a wait
abbrev pub IsReady : Result Gathered IoFault → Type 0
IsReady (Ok gathered.Waits) = ⊥
IsReady result = Unit {0}

-- A text that reads.

-- whether no character is asked for
abbrev pub asks_none : Wanted → Bool
asks_none (Characters (Some zero)) = true
asks_none (Line (Some zero)) = true
asks_none asked = false

-- all of a text but its buffer and what is in hand
pub record KeepsPlace (old new : TextView) : Type 0 where
  pub front : new.front ≡ old.front
  pub at : new.at ≡ old.at
  pub taken : new.taken ≡ old.taken
  pub dirty : new.dirty ≡ old.dirty
  pub settings : new.settings ≡ old.settings

-- what is in hand is as it was, but for the room
abbrev pub HoldsAsBefore : TextView → TextView → Type 0
HoldsAsBefore old new = new.held ≡ record old.held { room = new.held.room }

-- bytes came behind those in hand, no more than a chunk of them
pub record Brings (old new : TextView) : Type 0 where
  pub part : List ℕ
  pub some : part ≢ []
  pub few : length part ≤ old.settings.chunk_size
  pub held : new.held ≡ record old.held { bytes = old.held.bytes ++ part; room = new.held.room }
  pub reads : Calls old.buffer false false new.buffer
  pub brings : ReadsOn old.buffer new.buffer
  pub place : new.buffer.place ≡ old.buffer.place + length part

-- no byte came: `waited` and `faulted` say whether the raw would have blocked, or failed
pub record BringsNothing (old : TextView) (waited faulted : Bool) (new : TextView) : Type 0 where
  pub held : HoldsAsBefore old new
  pub reads : Calls old.buffer waited faulted new.buffer
  pub brings : ReadsOn old.buffer new.buffer
  pub place : new.buffer.place ≡ old.buffer.place

-- nothing comes behind what was taken
abbrev pub IsAtEnd : Buffer → Type 0
IsAtEnd buffer = WhereShown buffer (left_at (flat_of buffer).bytes buffer.place ≡ [])

-- a buffer that owes nothing holds nothing back
abbrev pub HoldsNothing : Buffer → Type 0
HoldsNothing buffer = buffer.owed.bytes ≡ [] → buffer.raw_place ≡ buffer.place

abbrev pub FetchOutcome : TextView → Result Chunk IoFault → TextView → Type 0
FetchOutcome old (Ok chunk.More) new = Brings old new
FetchOutcome old (Ok chunk.End) new = BringsNothing old false false new × IsAtEnd new.buffer
FetchOutcome old (Ok chunk.Waits) new = BringsNothing old true false new × HoldsNothing new.buffer
FetchOutcome old (Err fault.RawFault) new = BringsNothing old false true new
FetchOutcome old (Err fault.NoMemory) new = BringsNothing old false false new
FetchOutcome old (Err other) new = ⊥

-- whether the raw would have blocked
abbrev pub gathers_wait : Result Gathered IoFault → Bool
gathers_wait (Ok gathered.Waits) = true
gathers_wait result = false

-- whether it failed
abbrev pub gathers_fault : Result Gathered IoFault → Bool
gathers_fault (Err fault.RawFault) = true
gathers_fault result = false

-- what is left of a text, by what it has in hand
abbrev pub rest_of : TextView → Rest
rest_of text = left_with text.held (left_at (flat_of text.buffer).bytes text.buffer.place)

-- nothing but a refused range, or nothing at all, comes behind the known characters
pub record ComesLast (text : TextView) (range : Option (ℕ × ℕ)) : Type 0 where
  pub characters : (rest_of text).characters ≡ text.held.known
  pub refusal_is : (rest_of text).refusal ≡ range

-- a refused range has bytes, none of which was used, that were taken from the buffer; and the handler may refuse bytes in the encoding
pub record RangeInHand (text : TextView) (start end : ℕ) : Type 0 where
  pub forth : text.held.place ≤ start
  pub some : start < end
  pub within : end ≤ text.held.place + length text.held.bytes
  pub refuses : may_refuse text.held.encoding text.held.handler ≡ true

-- what is known of a text when a call stops gathering
abbrev pub GatheredAt : TextView → Wanted → Gathered → Type 0
GatheredAt text asked (gathered.Enough front) = (enough asked text.held.newline text.held.known ≡ Some front.chars) × held_front.IsFrontOf text.held.known front
GatheredAt text asked (gathered.Before front) = (enough_before asked text.held.newline text.held.known ≡ Some front.chars) × held_front.IsFrontOf text.held.known front × WhereShown text.buffer ((range : ℕ × ℕ) × ComesLast text (Some range))
GatheredAt text asked (gathered.Refuses start end) = (enough_before asked text.held.newline text.held.known ≡ None) × WhereShown text.buffer (ComesLast text (Some (start, end))) × RangeInHand text start end
GatheredAt text asked gathered.Ends = (text.held.bytes ≡ []) × (text.held.cr ≡ false) × IsAtEnd text.buffer
GatheredAt text asked gathered.Waits = (enough asked text.held.newline text.held.known ≡ None) × IsDrained false text.held × HoldsNothing text.buffer

-- how the gathering stopped
abbrev pub GatherStop : Wanted → Result Gathered IoFault → TextView → Type 0
GatherStop asked (Ok stop) new = GatheredAt new asked stop
GatherStop asked (Err fault.RawFault) new = Unit {0}
GatherStop asked (Err fault.NoMemory) new = Unit {0}
GatherStop asked (Err other) new = ⊥

abbrev pub GatherOutcome : TextView → Wanted → Result Gathered IoFault → TextView → Type 0
GatherOutcome old asked result new = Calls old.buffer (gathers_wait result) (gathers_fault result) new.buffer × GatherStop asked result new

-- told, a call asked its buffer for no chunk that it needn't
abbrev pub GathersAsNeeded : TextView → Wanted → TextView → Type 0
GathersAsNeeded old asked new = WhereShown old.buffer (AsksAsNeeded (shown_file old) (call_of asked) old.settings.chunk_size (max old.buffer.place old.at) new.buffer.place)

-- so far nothing but bytes came, as they were needed; of a call that asks for no character none were asked for
pub record Gathers (old : TextView) (asked : Wanted) (new : TextView) : Type 0 where
  pub place : KeepsPlace old new
  pub reads : Calls old.buffer false false new.buffer
  pub brings : ReadsOn old.buffer new.buffer
  pub forth : old.buffer.place ≤ new.buffer.place
  pub nothing : asks_none asked ≡ true → new.buffer ≡ old.buffer
  pub needs : GathersAsNeeded old asked new

-- the first of the known characters are given and taken
abbrev pub GiveOutcome : TextView → ℕ → Bool → Result (String Global) IoFault → TextView → Type 0
GiveOutcome old count asks (Ok text) new = (text_of text ≡ take count old.held.known) × (new ≡ record old { held = record (given_on count old.held) { room = new.held.room }; taken = old.taken + count; dirty = old.dirty || asks })
GiveOutcome old count asks (Err why) new = (why ≡ fault.NoMemory) × (new ≡ old)

-- all known characters are given, and the text stands clean at the end
abbrev pub GiveAllOutcome : TextView → Result (String Global) IoFault → TextView → Type 0
GiveAllOutcome old (Ok text) new = (text_of text ≡ old.held.known) × (new ≡ record old { held = cleared old.held old.buffer.place new.held.room; front = None; at = old.buffer.place; taken = 0; dirty = false })
GiveAllOutcome old (Err why) new = (why ≡ fault.NoMemory) × (new ≡ old)

-- Answers.

-- an answer, in the model's words
abbrev pub reply_of : Result Answer IoFault → FileReply
reply_of (Ok (answer.Whole text)) = Text (text_of text)
reply_of (Ok (answer.Short text)) = Text (text_of text)
reply_of (Ok answer.NotReady) = NotReady
reply_of (Err why) = Refused why

-- whether the raw would have blocked before the call was answered in full
abbrev pub waited_in : Result Answer IoFault → Bool
waited_in (Ok (answer.Short text)) = true
waited_in (Ok answer.NotReady) = true
waited_in result = false

-- what was gathered is answered: the buffer and the settings stay, and the place moves by what is given
pub record Finishes (old : TextView) (asked : Wanted) (result : Result Answer IoFault) (new : TextView) : Type 0 where
  pub buffer : new.buffer ≡ old.buffer
  pub settings : new.settings ≡ old.settings
  pub answer : (writes : Bool) → IsReplyTo writes (call_of asked) (reply_of result)
  pub shorts : IsShort (reply_of result) (waited_in result)
  pub sound : says_fault (reply_of result) ≡ false
  pub place : PlaceMoves (call_of asked) (waited_in result) (reply_of result) (place_of old) old.buffer.place (place_of new)
  pub lines : ReadsOneLine old.settings.newline (call_of asked) (reply_of result)
  pub blames : TextBlames (call_of asked) (reply_of result) old.settings (place_of old) old.buffer.place
  pub told : WhereShown old.buffer (TextFileStep (shown_file old) (call_of asked) (reply_of result) (waited_in result) false (shown_file new))
  pub hides : IsTrue (waited_in result) → HoldsNothing new.buffer × WhereShown old.buffer (ShowsAll (shown_file new) new.buffer.place)

-- where the raw would have blocked the answer says so, or memory ran out
abbrev pub WaitsOrLacks : Gathered → Result Answer IoFault → Type 0
WaitsOrLacks gathered.Waits result = waited_in result ≡ false → says_no_memory (reply_of result) ≡ true
WaitsOrLacks stop result = Unit {0}

-- the answer says that the raw would have blocked only where it would have
abbrev pub OnlyWhereWaits : Gathered → Bool → Type 0
OnlyWhereWaits gathered.Waits waited = Unit {0}
OnlyWhereWaits stop waited = waited ≡ false
