-- Opening a stream over a raw one.
use Rattle.std.specs.Prelude.{◌≡◌, ℕ, zero, ◌≢◌, ◌≤◌, Bool, true, false, IsTrue, IsFalse, not, length, Option, Some, Result, Ok, Err, if◌then◌else◌}
use Rattle.py_flat.specs.declared.fault.IoFault.{IoFault}
use Rattle.py_flat.specs.declared.fault.IoFault.TheVariants as fault
use Rattle.py_flat.specs.declared.life.Life.TheVariants as life
use Rattle.py_flat.specs.Causes.{Rose}
use Rattle.py_flat.specs.Limits.{greatest_place}
use Rattle.py_flat.specs.FlatFile.{Abilities}
use Rattle.py_flat.specs.Refusals.{or_else, refused_if}
use Rattle.py_raw.specs.declared.raw_error.RawError.{RawError}
use Rattle.py_raw.specs.declared.raw_error.RawError.TheVariants as raw_error
use Rattle.py_raw.specs.RawStream.{Raw, Keeps, StaysOpen, WherePlace, WhereTransfers, KeepsBytes, LeavesCounts, AnswersFor, KeepsReads}
use Rattle.py_stream.specs.declared.new_refused.NewRefused.{NewRefused}
use Rattle.py_stream.specs.Stream.{Stream, nothing_owed, nothing_held}

-- a raw that can't seek stands at place 0, where it tells its place
abbrev pub StandsAtStart : Raw → Type 0
StandsAtStart raw = IsFalse raw.seekable → WherePlace raw (raw.place ≡ 0)

-- nothing was read or written: as far as the raw tells, it made no transfer, its writes answered for no byte, its reads brought none, and
-- it has the bytes that it had
pub record Untouched (old new : Raw) : Type 0 where
  pub keeps : Keeps old new
  pub stays : StaysOpen old new
  pub bytes : KeepsBytes old new
  pub transfers : WhereTransfers old (new.transfers ≤ old.transfers)
  pub written : AnswersFor 0 old new
  pub reads : KeepsReads old new

-- the raw stands where it stood
abbrev pub StandsWhereItStood : Raw → Raw → Type 0
StandsWhereItStood old new = WherePlace old (new.place ≡ old.place)

-- where a stream begins, by whether it appends: where the raw stands; or at the end, where the raw can seek
abbrev pub begins_at : Bool → Raw → ℕ
begins_at true raw = if raw.seekable then length raw.bytes else raw.place
begins_at false raw = raw.place

-- whether the raw tells where a stream begins: its place; its bytes, of a stream that begins at their end
abbrev pub tells_start : Bool → Raw → Bool
tells_start true raw = if raw.seekable then raw.tells_bytes else raw.tells_place
tells_start false raw = raw.tells_place

-- a new stream, over a raw that is able to do what it needs: the raw was open; nothing was read or written; it begins where
-- the raw stands, one that appends at the end, and at 0 where the raw can't seek; the raw stands there, and
-- nothing is owed or held
pub record Opens (able : Raw → Bool) (can : Bool → Abilities) (raw : Raw) (buffer : Option ℕ) (stream : Stream) : Type 0 where
  pub was_open : raw.closed ≡ false
  pub is_able : able raw ≡ true
  pub some : buffer ≢ Some 0
  pub untouched : Untouched raw stream.raw
  pub counts : LeavesCounts raw stream.raw
  pub place : IsTrue (tells_start (can raw.seekable).appending raw) → stream.place ≡ begins_at (can raw.seekable).appending raw
  pub stands : WherePlace raw (stream.raw.place ≡ stream.place)
  pub start : IsFalse raw.seekable → stream.place ≡ 0
  pub within : stream.place ≤ greatest_place
  pub raw_place : stream.raw_place ≡ stream.place
  pub can_do : stream.can ≡ can raw.seekable
  pub life_is : stream.life ≡ life.Live
  pub buffer_is : stream.buffer ≡ buffer
  pub whole : stream.short ≡ false
  pub owed : stream.owed ≡ nothing_owed stream.place
  pub held : stream.held ≡ nothing_held stream.place

-- the raw is open, is able, and the size isn't 0
pub record MayOpen (able : Raw → Bool) (raw : Raw) (buffer : Option ℕ) : Type 0 where
  pub is_open : raw.closed ≡ false
  pub is_able : able raw ≡ true
  pub some : buffer ≢ Some 0

-- a buffer that holds nothing
abbrev pub holds_none : Option ℕ → Bool
holds_none (Some zero) = true
holds_none buffer = false

-- what refuses a raw before it is asked for anything
abbrev pub first_refusal : Bool → Raw → Option ℕ → Option IoFault
first_refusal able raw buffer = or_else (refused_if raw.closed fault.Closed) (or_else (refused_if (not able) fault.Unsupported) (refused_if (holds_none buffer) fault.BadArgument))

-- where a stream begins on a raw that is asked for it, and stands there then: 0 of one that can't seek
pub record PlaceOf (appends : Bool) (old : Raw) (place : ℕ) (new : Raw) : Type 0 where
  pub within : place ≤ greatest_place
  pub untouched : Untouched old new
  pub counts : LeavesCounts old new
  pub start : IsFalse old.seekable → place ≡ 0
  pub told : IsTrue old.seekable → IsTrue (tells_start appends old) → place ≡ begins_at appends old
  pub stands : IsTrue old.seekable → WherePlace old (new.place ≡ place)
  pub still : IsFalse old.seekable → WherePlace old (new.place ≡ old.place)

-- running out of memory leaves a raw as it was; one that was to be moved to its end may have been asked where that is, and counted
-- nothing
abbrev pub Lacking : Bool → Raw → Raw → Type 0
Lacking true raw back = Untouched raw back × LeavesCounts raw back × StandsWhereItStood raw back
Lacking false raw back = back ≡ raw

-- a raw is asked where a stream begins: it answers, fails, or runs out of memory
abbrev pub PlaceOutcome : Bool → Raw → Result ℕ RawError → Raw → Type 0
PlaceOutcome appends old (Ok place) new = PlaceOf appends old place new
PlaceOutcome appends old (Err raw_error.Fault) new = IsTrue old.seekable × Rose old.faults new.faults × Untouched old new
PlaceOutcome appends old (Err raw_error.Memory) new = IsTrue old.takes_memory × Lacking appends old new

-- why a raw is refused, in this order: it is closed; it isn't able; the buffer's size is 0; running out of memory; it failed when
-- it was asked where it stands or ends, or was moved, which may have moved it
abbrev pub RefusesRaw : (Raw → Bool) → Bool → Raw → Option ℕ → IoFault → Raw → Type 0
RefusesRaw able appends raw buffer fault.Closed back = (raw.closed ≡ true) × (back ≡ raw)
RefusesRaw able appends raw buffer fault.Unsupported back = (raw.closed ≡ false) × (able raw ≡ false) × (back ≡ raw)
RefusesRaw able appends raw buffer fault.BadArgument back = (raw.closed ≡ false) × (able raw ≡ true) × (buffer ≡ Some 0) × (back ≡ raw)
RefusesRaw able appends raw buffer fault.NoMemory back = MayOpen able raw buffer × Lacking appends raw back
RefusesRaw able appends raw buffer fault.RawFault back = MayOpen able raw buffer × IsTrue raw.seekable × Rose raw.faults back.faults × Untouched raw back
RefusesRaw able appends raw buffer other back = ⊥

-- a raw is opened as a stream, or handed back with why it was refused
abbrev pub NewOutcome : {R : Type 0} → (R → Raw) → (Raw → Bool) → (Bool → Abilities) → R → Option ℕ → Result Stream (NewRefused R) → Type 0
NewOutcome shows able can raw buffer (Ok stream) = Opens able can (shows raw) buffer stream
NewOutcome shows able can raw buffer (Err refused) = RefusesRaw able (can (shows raw).seekable).appending (shows raw) buffer refused.fault (shows refused.raw)

-- an opening's outcome, with the stream that what was opened is seen as
abbrev pub opened_as : {V E : Type 0} → (V → Stream) → Result V E → Result Stream E
opened_as seen (Ok view) = Ok (seen view)
opened_as seen (Err why) = Err why
