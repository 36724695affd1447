-- The engine with which a call begins, what it refuses by itself, and what stays of it from step to step.
use Rattle.std.proofs.Common.{◌≡◌, ◌∙◌, true, false, Some, Err, Ok, refl, sym, ap, arith, add-zero, ℕ, None, IsSome, Option, Result, IsTrue, Bool, not}
use Rattle.py_flat.specs.declared.fault.IoFault.{IoFault}
use Rattle.py_flat.specs.declared.fault.IoFault.TheVariants as fault
use Rattle.py_flat.specs.declared.life.Life.{Life}
use Rattle.py_flat.specs.declared.life.Life.TheVariants as life
use Rattle.py_flat.specs.Calls.{FileCall, Close, Refused}
use Rattle.py_flat.specs.FlatFile.{Unbuffered}
use Rattle.py_flat.specs.Refusals.{is_getter, is_other_getter, lacks, lets_through, life_fault, or_else, refused_if}
use Rattle.py_raw.specs.RawStream.{KeepsReads, Raw, Keeps, AnswersFor, KeepsBytes}
use Rattle.py_stream.specs.Answers.{Answers, IsNear}
use Rattle.py_stream.specs.Moving.{Begins}
use Rattle.py_stream.proofs.Refusing.{IsPlaced, refused_by_ability, refused_by_life as life_refuses}
use Rattle.py_stream.proofs.ReadingAnswers.{reading_call}
use Rattle.py_stream.specs.Access.{is_read, can_of, is_able}
use Rattle.py_stream.specs.Kinds.{is_reading}
use Rattle.py_stream.specs.Stream.{Stream, file_of}
use Rattle.py_stream.specs.ReadingOn.{BeginsReading}
use Rattle.py_stream.specs.Keeping.{IsSound, KeepsOn}
use Rattle.py_stream.specs.Writing.{OwesBehind}
use Rattle.py_unbuffered.specs.Engine.{EngineView, stream_of, IsEngine, KeepsEngine, BeginOutcome}
use Rattle.py_raw.proofs.Telling.{keeps_same}
use Rattle.py_raw.proofs.ReadingOn.{Keeps-then}
use Rattle.py_stream.specs.Reading.{KeepsReading}
use Rattle.py_stream.specs.declared.access.Access.{Access}
use Rattle.py_stream.specs.declared.access.Access.TheVariants as access
use Rattle.py_stream.specs.Opening.{first_refusal, RefusesRaw}

-- what holds of every engine
abbrev pub Stands : EngineView → Type 0
Stands engine = IsEngine engine.raw engine.place engine.access engine.life

-- a live stream's raw stands at its place
pub is_near : (engine : EngineView) → Stands engine → engine.life ≡ life.Live → IsNear (stream_of engine)
is_near engine stands live = record { after_first = omega arith; before_end = omega arith; fits = omega arith; owed_after_first = omega arith; owed_before_end = omega arith; owed_before_raw = λ some. absurd (some refl); read_ahead = λ _. refl; ahead = omega arith; behind = omega arith; stands = λ tells. stands.stands tells live }

-- where a stream is, and its raw
pub is_placed : (engine : EngineView) → Stands engine → IsPlaced (stream_of engine)
is_placed engine stands = record { far = stands.far; near = is_near engine stands }

-- what holds of every engine holds of its stream
pub is_sound : (engine : EngineView) → Stands engine → IsSound (stream_of engine)
is_sound engine stands = record { far = stands.far; near = is_near engine stands; is_open = stands.is_open; bare = λ _. refl }

-- the stream of an engine owes nothing, at its place
pub owes_behind : (engine : EngineView) → OwesBehind (stream_of engine)
owes_behind engine = record { ends = add-zero engine.place; stands = refl }

-- what every step keeps of an engine a step that reads nothing keeps of its stream
pub keeps_on : (old new : EngineView) → KeepsEngine old new → KeepsReads old.raw new.raw → KeepsOn (stream_of old) (stream_of new)
keeps_on old new kept reads = grind (arith, is_sound)

-- A call that the life doesn't let through.
pub refused_by_life : (old new : EngineView) (call : FileCall) (why : IoFault) → Stands old → is_getter call ≡ false → is_other_getter call ≡ false → lets_through old.life Unbuffered call ≡ false → BeginOutcome old (Err why) new → Answers (stream_of old) call (Refused why) (stream_of new)
refused_by_life old new call why stands works own stopped began = life_refuses (stream_of old) (stream_of new) call why (is_placed old stands) works own stopped began.0 (ap stream_of began.1)

-- a call begins as that of a stream does
pub begins : (old new : EngineView) (result : Result (Unit {0}) IoFault) → BeginOutcome old result new → Begins (stream_of old) result (stream_of new)
begins old new (Ok done) began = (began.0, ap stream_of began.1)
begins old new (Err why) began = (began.0, ap stream_of began.1)

-- a life that refuses anything, but of a closed stream, lets no close through either
unclosed_by_life : (current : Life) (why : IoFault) → (current ≡ life.Closed → ⊥) → life_fault current ≡ Some why → lets_through current Unbuffered Close ≡ false
unclosed_by_life life.Live why unclosed by = absurd (cc)
unclosed_by_life life.Failed why unclosed by = refl
unclosed_by_life life.Closed why unclosed by = absurd (unclosed refl)
unclosed_by_life life.Detached why unclosed by = refl

-- a close that `begin` refuses
pub closes_in_vain : (old new : EngineView) (why : IoFault) → Stands old → (old.life ≡ life.Closed → ⊥) → BeginOutcome old (Err why) new → Answers (stream_of old) Close (Refused why) (stream_of new)
closes_in_vain old new why stands unclosed began = refused_by_life old new Close why stands refl refl (unclosed_by_life old.life why unclosed began.0) began

-- a stream without a buffer has none
pub bufferless : (buffer : Option ℕ) → buffer ≡ None → IsSome buffer → ⊥
bufferless (Some size) none some = cc
bufferless None none some = cc

-- A reading begins of a stream that is read.

pub reading_begins : (old new : EngineView) → Stands old → BeginOutcome old (Ok tt) new → is_read new.access ≡ true → BeginsReading (stream_of old) (Ok tt) (stream_of new)
reading_begins old new stands began reads = grind (arith, is_near)

lacks_reading : (stream : Stream) (call : FileCall) → is_reading call ≡ true → stream.can.readable ≡ false → lacks (file_of stream) call ≡ true
lacks_reading stream call reading cannot = grind arith

-- another refuses it as one that it lacks
pub reading_lacks : (old new : EngineView) → Stands old → BeginOutcome old (Ok tt) new → is_read new.access ≡ false → BeginsReading (stream_of old) (Err fault.Unsupported) (stream_of new)
reading_lacks old new stands began other = λ call reading.
    let is = reading_call call reading in
    refused_by_ability (stream_of old) (stream_of new) call (is_placed old stands) is.getter is.other began.0 (lacks_reading (stream_of old) call reading (ap (λ (engine : EngineView). is_read engine.access) (sym began.1) ∙ other)) (ap stream_of began.1)

-- Engines.

-- an engine by itself
pub keeps_self : (engine : EngineView) → IsEngine engine.raw engine.place engine.access engine.life → KeepsEngine engine engine
keeps_self engine is = grind (arith, keeps_same)

-- an engine that failed
pub keeps_failed : (engine : EngineView) → IsEngine engine.raw engine.place engine.access engine.life → KeepsEngine engine (record engine { life = life.Failed })
keeps_failed engine is = grind (arith, keeps_same)

-- two steps, one after the other
pub keeps_then : (old mid new : EngineView) → KeepsEngine old mid → KeepsEngine mid new → KeepsEngine old new
keeps_then old mid new first second = grind (arith, Keeps-then)

-- a raw stays able to do what the stream is opened for
pub able_stays : (opened : Access) (old new : Raw) → Keeps old new → is_able opened None new ≡ is_able opened None old
able_stays access.Read old new kept = kept.readable
able_stays access.Write old new kept = kept.writable
able_stays access.Append old new kept = kept.writable
able_stays access.Update old new kept = rw (kept.readable, kept.writable) refl

-- what a stream can do stays
can_stays : (old new : EngineView) → KeepsEngine old new → can_of new.access new.raw.seekable ≡ can_of old.access old.raw.seekable
can_stays old new kept = ap (λ (opened : Access). can_of opened new.raw.seekable) kept.access ∙ ap (can_of old.access) kept.raw.seekable

-- a step that leaves the bytes, and answers for none, is one of a reading
pub keeps_reading : (old new : EngineView) → KeepsEngine old new → KeepsBytes old.raw new.raw → AnswersFor 0 old.raw new.raw → KeepsReading (stream_of old) (stream_of new)
keeps_reading old new kept bytes answered = grind (arith, can_stays, is_near)

-- a raw that isn't called answers for no byte written
pub answers_none : (old new : Raw) → new ≡ old → AnswersFor 0 old new
answers_none old new same = λ tells. omega (arith, ap (λ (raw : Raw). raw.written) same)

-- two steps of which the first answered for nothing
pub answers_none_then : (old mid new : EngineView) (count : ℕ) → KeepsEngine old mid → AnswersFor 0 old.raw mid.raw → AnswersFor count mid.raw new.raw → AnswersFor count old.raw new.raw
answers_none_then old mid new count kept before behind = λ tells. omega (arith, before tells, behind (kept.raw.tells_transfers ∙ tells))

by_tests : (able : Raw → Bool) (appends : Bool) (raw : Raw) (why : IoFault) (closed may : Bool) → raw.closed ≡ closed → able raw ≡ may → or_else (refused_if closed fault.Closed) (or_else (refused_if (not may) fault.Unsupported) None) ≡ Some why → RefusesRaw able appends raw None why raw
by_tests able appends raw why true may shut can by = grind arith
by_tests able appends raw why false false shut can by = grind arith
by_tests able appends raw why false true shut can by = let never : None ≡ Some why = by in absurd (cc)

-- a raw that is closed, or isn't able
pub refuses_first : (able : Raw → Bool) (appends : Bool) (raw : Raw) (may : Bool) (why : IoFault) → may ≡ able raw → first_refusal may raw None ≡ Some why → RefusesRaw able appends raw None why raw
refuses_first able appends raw may why is by = by_tests able appends raw why raw.closed may refl (sym is) by

-- a refusal before the raw is asked is none when out of memory
pub lacks_none : (takes : Bool) (closed may : Bool) (why : IoFault) → or_else (refused_if closed fault.Closed) (or_else (refused_if (not may) fault.Unsupported) None) ≡ Some why → why ≡ fault.NoMemory → IsTrue takes
lacks_none takes true may why by is = let same : Some fault.Closed ≡ Some why = by in absurd (cc)
lacks_none takes false false why by is = let same : Some fault.Unsupported ≡ Some why = by in absurd (cc)
lacks_none takes false true why by is = let never : None ≡ Some why = by in absurd (cc)
