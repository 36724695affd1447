-- What the steps of a call that gives bytes do: of a stream that owes what lies right before its place, or nothing.
use Rattle.std.specs.Prelude.{◌≡◌, ℕ, ◌+◌, ◌-◌, ◌<◌, ◌≤◌, ◌⊎◌, Bool, true, false, IsTrue, List, ◌++◌, length, take, drop, max, Option, Some, None, IsSome, Result, Ok, Err}
use Rattle.py_flat.specs.declared.fault.IoFault.{IoFault}
use Rattle.py_flat.specs.declared.fault.IoFault.TheVariants as fault
use Rattle.py_flat.specs.declared.life.Life.TheVariants as life
use Rattle.py_flat.specs.Bytes.{lay}
use Rattle.py_flat.specs.Causes.{Rose}
use Rattle.py_raw.specs.RawStream.{Raw, WhereTold, NoFault, NoWait, WaitsOnce, AnswersFor}
use Rattle.py_stream.specs.Stream.{Stream, size_of}
use Rattle.py_stream.specs.Writing.{OwesBehind, OwesOld}
use Rattle.py_flat.specs.Calls.{FileCall, Refused}
use Rattle.py_stream.specs.Kinds.{is_writing}
use Rattle.py_stream.specs.Answers.{Answers}
use Rattle.py_stream.specs.Keeping.{IsSound, KeepsOn}

-- Waits: a stream with a buffer may go on over one, as that has room; without a buffer each ends the call.

-- without a buffer no wait was counted
abbrev pub Calm : Option ℕ → Raw → Raw → Type 0
Calm None old new = NoWait old new
Calm (Some size) old new = Unit {0}

-- without a buffer one wait was counted
abbrev pub WaitsAsOne : Option ℕ → Raw → Raw → Type 0
WaitsAsOne None old new = WaitsOnce old new
WaitsAsOne (Some size) old new = Unit {0}

-- Taking.

-- the stream took these bytes after those that it owed, and the raw took the first of them all; told, they were laid on where the
-- first of those that it owed belongs
pub record Took (old : Stream) (bytes : List ℕ) (new : Stream) : Type 0 where
  pub kept : KeepsOn old new
  pub was : OwesBehind old
  pub behind : OwesBehind new
  pub live : new.life ≡ life.Live
  pub no_fault : NoFault old.raw new.raw
  pub passed : ℕ
  pub within : passed ≤ length old.owed.bytes + length bytes
  pub answered : AnswersFor passed old.raw new.raw
  pub place : new.owed.place ≡ old.owed.place + passed
  pub owed : new.owed.bytes ≡ drop passed (old.owed.bytes ++ bytes)
  pub told : WhereTold old.raw (new.raw.bytes ≡ lay old.raw.bytes old.owed.place (take passed (old.owed.bytes ++ bytes)))

-- n bytes of a list were laid on, at least some front; and no more than what is still owed of it, where some is
pub record LaysFurther (before : List ℕ) (place least : ℕ) (all owing : List ℕ) (after : List ℕ) : Type 0 where
  pub laid : ℕ
  pub least_is : least ≤ laid
  pub most : laid ≤ length all
  pub owes : least < length owing → laid ≤ length owing
  pub bytes : after ≡ lay before place (take laid all)

-- the raw failed while it was given these bytes after those that it was owed: the first n of them were taken by the stream, and the
-- first of these are known to have gone to the raw. Told, the raw has those, and may have more of them
pub record FailsTaking (old : Stream) (bytes : List ℕ) (new : Stream) : Type 0 where
  pub kept : KeepsOn old new
  pub was : OwesBehind old
  pub behind : OwesBehind new
  pub failed : new.life ≡ life.Failed
  pub cause : Rose old.raw.faults new.raw.faults
  pub calm : Calm old.buffer old.raw new.raw
  pub taken : ℕ
  pub fits : taken ≤ length bytes
  pub passed : ℕ
  pub within : passed ≤ length old.owed.bytes + taken
  pub answered : AnswersFor passed old.raw new.raw
  pub place : new.owed.place ≡ old.owed.place + passed
  pub owed : new.owed.bytes ≡ drop passed (old.owed.bytes ++ take taken bytes)
  pub told : WhereTold old.raw (LaysFurther old.raw.bytes old.owed.place passed (old.owed.bytes ++ bytes) (old.owed.bytes ++ take taken bytes) new.raw.bytes)

-- memory ran out, of a raw that takes some
pub record Lacks (old : Stream) (bytes : List ℕ) (new : Stream) : Type 0 where
  pub takes : IsTrue old.raw.takes_memory
  pub took : Took old bytes new

-- A call that gives bytes, from a place on.

-- a stream that may take bytes: it lives and writes, and owes what lies right before its place
pub record MayTake (stream : Stream) : Type 0 where
  pub live : stream.life ≡ life.Live
  pub writes : stream.can.writable ≡ true
  pub sound : IsSound stream
  pub behind : OwesBehind stream

-- a call that gives bytes begins, and no answer is short yet; or it is refused, and the refusal answers it, whichever call it is
abbrev pub BeginsWriting : Stream → Result (Unit {0}) IoFault → Stream → Type 0
BeginsWriting old (Ok done) new = MayTake new × (new ≡ record old { short = false })
BeginsWriting old (Err why) new = (call : FileCall) → is_writing call ≡ true → Answers old call (Refused why) new

-- the stream as it was, but without the bytes that it owes from a place on, where it then stands
pub record CutsBack (start : ℕ) (old new : Stream) : Type 0 where
  pub kept : KeepsOn old new
  pub behind : OwesBehind new
  pub raw : new.raw ≡ old.raw
  pub life_is : new.life ≡ old.life
  pub place : new.owed.place ≡ old.owed.place
  pub owed : new.owed.bytes ≡ take (start - old.owed.place) old.owed.bytes

-- memory ran out: where the raw has bytes of the call's own the stream fails, else the stream drops these bytes again
abbrev pub Starved : ℕ → Stream → Stream → Type 0
Starved start between new = ((between.owed.place ≤ start) × CutsBack start between new) ⊎ ((start < between.owed.place) × (new ≡ record between { life = life.Failed }))

-- a front of the bytes was taken by the time that memory ran out
pub record StarvesTaking (old : Stream) (bytes : List ℕ) (start : ℕ) (new : Stream) : Type 0 where
  pub taken : ℕ
  pub fits : taken ≤ length bytes
  pub between : Stream
  pub lacks : Lacks old (take taken bytes) between
  pub calm : Calm old.buffer old.raw between.raw
  pub starved : Starved start between new

-- the raw would have blocked, and some of the bytes are left over: a buffer is full then
pub record FillsUp (old : Stream) (bytes : List ℕ) (new : Stream) : Type 0 where
  pub taken : ℕ
  pub less : taken < length bytes
  pub took : Took old (take taken bytes) new
  pub full : length new.owed.bytes ≡ size_of new
  pub waited : Rose old.raw.waits new.raw.waits
  pub once : WaitsAsOne old.buffer old.raw new.raw

-- a stream took all of several pieces, one after the other
pub record TookAll (old : Stream) (bytes : List ℕ) (new : Stream) : Type 0 where
  pub took : Took old bytes new
  pub calm : Calm old.buffer old.raw new.raw

-- the buffer has room for bytes behind those that are owed
pub record FitsBehind (stream : Stream) (bytes : List ℕ) : Type 0 where
  pub buffered : IsSome stream.buffer
  pub room : length stream.owed.bytes + length bytes ≤ size_of stream

-- bytes are owed behind those that were, and no raw is called; what was held behind them is held still
pub record KeepsBehind (old : Stream) (bytes : List ℕ) (new : Stream) : Type 0 where
  pub raw : new.raw ≡ old.raw
  pub buffer : new.buffer ≡ old.buffer
  pub owed : new.owed.bytes ≡ old.owed.bytes ++ bytes
  pub forth : old.place ≤ new.place
  pub held : new.held.to ≡ max old.held.to new.place

-- bytes for which there is room are all kept so
abbrev pub KeepsWhatFits : Stream → List ℕ → Result Bool IoFault → Stream → Type 0
KeepsWhatFits old bytes result new = FitsBehind old bytes → (result ≡ Ok true) × KeepsBehind old bytes new

-- a stream is given several pieces, one after the other, for a call that began at a place
abbrev pub PutsOutcome : Stream → List ℕ → ℕ → Result Bool IoFault → Stream → Type 0
PutsOutcome old bytes start (Ok true) new = TookAll old bytes new
PutsOutcome old bytes start (Ok false) new = FillsUp old bytes new
PutsOutcome old bytes start (Err fault.RawFault) new = FailsTaking old bytes new
PutsOutcome old bytes start (Err fault.NoMemory) new = StarvesTaking old bytes start new
PutsOutcome old bytes start (Err other) new = ⊥

-- a stream is given one piece: where the raw fails, or running out of memory fails the stream, none of the piece is owed
abbrev pub PutOutcome : Stream → List ℕ → ℕ → Result Bool IoFault → Stream → Type 0
PutOutcome old bytes start (Err fault.RawFault) new = FailsTaking old bytes new × OwesOld old new
PutOutcome old bytes start (Err fault.NoMemory) new = StarvesTaking old bytes start new × (new.life ≡ life.Failed → OwesOld old new)
PutOutcome old bytes start result new = PutsOutcome old bytes start result new
