-- Preparing a flush, and taking back what was written: of a stream over a raw one, as a buffered stream.
use Rattle.std.proofs.Common.{◌≡◌, ℕ, ◌+◌, ◌-◌, ◌<◌, ◌≤◌, inl, inr, true, false, List, length, take, Option, Some, None, Result, Ok, Err, refl, sym, ap, ◌∙◌, subst, arith}
use Rattle.std.proofs.lemmas.Bool.Decides.{eqb_tells}
use Rattle.std.proofs.lemmas.List.{length-take-le}
use Rattle.py_flat.specs.declared.fault.IoFault.{IoFault}
use Rattle.py_flat.specs.declared.fault.IoFault.TheVariants as fault
use Rattle.py_flat.specs.declared.life.Life.{Life}
use Rattle.py_flat.specs.declared.life.Life.TheVariants as life
use Rattle.py_flat.specs.Owed.{Owed}
use Rattle.py_flat.specs.Calls.{Flush}
use Rattle.py_flat.specs.FlatFile.{FlatFile}
use Rattle.py_flat.specs.Refusals.{refusal, life_fault}
use Rattle.py_raw.proofs.Telling.{keeps_same}
use Rattle.py_stream.specs.declared.access.Access.{Access}
use Rattle.py_stream.specs.declared.access.Access.TheVariants as access
use Rattle.py_stream.specs.Access.{is_written}
use Rattle.py_stream.specs.Stream.{Stream}
use Rattle.py_stream.specs.Writing.{OwesUpTo, NoneAtPlace}
use Rattle.py_stream.specs.Moving.{Begins, MovesRaw, FailsMoving, MoveRawOutcome}
use Rattle.py_stream.specs.Buffer.{buffer_of, flat_of, IsPrepared, FailsPreparing, PreparesBy, PreparesUnless, Prepares, may_take_back, taken_back}
use Rattle.py_window.specs.Window.{WindowView, place_of, pending_of, cut_at}
use Rattle.py_engine.specs.Engine.{EngineView, stream_of, HasShape, Stands}
use Rattle.py_window.proofs.Collecting.{Shows, pending_ends, cut_shows}
use Rattle.py_window.proofs.Overlaying.{pending_many}
use Rattle.py_engine.proofs.Holding.{behind_shape, holds_cut}

-- Preparing a flush.

-- what the life refuses of all calls it refuses of a flush
flush_refused : (file : FlatFile) (current : Life) (why : IoFault) → file.life ≡ current → life_fault current ≡ Some why → refusal file Flush ≡ Some why
flush_refused file life.Live why is refuses = absurd (cc)
flush_refused file life.Failed why is refuses = rw is refuses
flush_refused file life.Closed why is refuses = rw is refuses
flush_refused file life.Detached why is refuses = rw is refuses

-- a live stream may be flushed
flush_accepted : (file : FlatFile) → file.life ≡ life.Live → refusal file Flush ≡ None
flush_accepted file live = rw live refl

-- it is refused by the life
pub prepares_not : (old new : Stream) (why : IoFault) (taken : ℕ) → Begins old (Err why) new → Prepares (buffer_of old taken) (Err why) (buffer_of new taken)
prepares_not old new why taken began =
    subst (λ (refused : Option IoFault). PreparesUnless refused (buffer_of old taken) (Err why) (buffer_of new taken)) (sym (flush_refused (flat_of (buffer_of old taken)) old.life why refl began.0))
    (refl, ap (λ (stream : Stream). buffer_of stream taken) began.1)

-- what an accepted preparing came to
accepted : (old new : Stream) (result : Result (Unit {0}) IoFault) (taken : ℕ) → old.life ≡ life.Live → PreparesBy (buffer_of old taken) result (buffer_of new taken) → Prepares (buffer_of old taken) result (buffer_of new taken)
accepted old new result taken live prepares =
    subst (λ (refused : Option IoFault). PreparesUnless refused (buffer_of old taken) result (buffer_of new taken)) (sym (flush_accepted (flat_of (buffer_of old taken)) live)) prepares

-- a stream that doesn't write is left as it is
prepared_still : (old : Stream) (taken : ℕ) → old.can.writable ≡ false → IsPrepared (buffer_of old taken) (buffer_of (record old { short = false }) taken)
prepared_still old taken reads = record {
  moves = record { same = refl; raw = keeps_same old.raw; stays = refl; bytes = λ told. refl; written = λ told. refl; reads = λ told. refl; no_wait = λ exactly. refl };
  life_is = refl;
  stands = λ stood. stood;
  behind = λ writes. absurd (cc (reads, writes));
  no_fault = λ exactly. refl;
}

pub prepares_still : (old new : Stream) (taken : ℕ) → old.can.writable ≡ false → Begins old (Ok tt) new → Prepares (buffer_of old taken) (Ok tt) (buffer_of new taken)
prepares_still old new taken reads began = accepted old new (Ok tt) taken began.0
    (subst (λ (after : Stream). IsPrepared (buffer_of old taken) (buffer_of after taken)) (sym began.1) (prepared_still old taken reads))

-- a stream shows as a buffered one what it shows, but for its raw and its life
shows_alone : (old new : Stream) (taken : ℕ) → new.place ≡ old.place → new.can ≡ old.can → new.buffer ≡ old.buffer → new.short ≡ false → new.owed ≡ old.owed → buffer_of new taken ≡ record (buffer_of old taken) { raw = new.raw; raw_place = new.raw_place; short = false; life = new.life }
shows_alone old new taken place can buffer short owed = rw (place, can, buffer, short, owed) refl

-- what is owed up to the place ends there
ends_there : (stream : Stream) → NoneAtPlace stream → OwesUpTo stream.owed stream.place → stream.owed.place + length stream.owed.bytes ≡ stream.place
ends_there stream at (inl none) = omega (arith, at none, ap length none)
ends_there stream at (inr ends) = ends

-- the raw stands where what is owed begins
prepared_there : (old new : Stream) (taken : ℕ) → old.life ≡ life.Live → NoneAtPlace old → MovesRaw (record old { short = false }) old.owed.place new → IsPrepared (buffer_of old taken) (buffer_of new taken)
prepared_there old new taken live at moved = record {
  moves = record {
    same = shows_alone old new taken moved.place_is moved.kept.can moved.kept.buffer moved.kept.short moved.owed;
    raw = moved.kept.raw;
    stays = moved.kept.stays;
    bytes = moved.bytes;
    written = moved.answered;
    reads = moved.kept.reads;
    no_wait = moved.counts.no_wait;
  };
  life_is = moved.life_is;
  stands = λ stood. (moved.kept.sound.near (moved.life_is ∙ live)).stands;
  behind = λ writes up_to. record {
    ends = ap (λ (owed : Owed). owed.place + length owed.bytes) moved.owed ∙ (ends_there old at up_to ∙ sym moved.place_is);
    stands = moved.raw_place ∙ ap (λ (owed : Owed). owed.place) (sym moved.owed);
  };
  no_fault = moved.counts.no_fault;
}

-- the raw failed when it had to be moved
prepares_failing : (old new : Stream) (taken : ℕ) → FailsMoving (record old { short = false }) new → FailsPreparing (buffer_of old taken) (buffer_of new taken)
prepares_failing old new taken fails = record {
  moves = record {
    same = shows_alone old new taken fails.stands.place fails.stands.kept.can fails.stands.kept.buffer fails.stands.kept.short fails.stands.owed;
    raw = fails.stands.kept.raw;
    stays = fails.stands.kept.stays;
    bytes = fails.stands.bytes;
    written = fails.stands.answered;
    reads = fails.stands.kept.reads;
    no_wait = fails.no_wait;
  };
  life_is = fails.failed;
  cause = fails.cause;
}

prepares_so : (old new : Stream) (result : Result (Unit {0}) IoFault) (taken : ℕ) → old.life ≡ life.Live → NoneAtPlace old → MoveRawOutcome (record old { short = false }) old.owed.place result new → PreparesBy (buffer_of old taken) result (buffer_of new taken)
prepares_so old new (Ok done) taken live at moved = prepared_there old new taken live at moved
prepares_so old new (Err fault.RawFault) taken live at fails = prepares_failing old new taken fails.0
prepares_so old new (Err fault.NoMemory) taken live at lacks = (lacks.0, ap (λ (stream : Stream). buffer_of stream taken) lacks.1)
prepares_so old new (Err why) taken live at never = absurd never

-- the raw of a stream that writes is to stand where what is owed begins
pub prepares_moved : (old started new : Stream) (result : Result (Unit {0}) IoFault) (taken : ℕ) → NoneAtPlace old → Begins old (Ok tt) started → MoveRawOutcome started old.owed.place result new → Prepares (buffer_of old taken) result (buffer_of new taken)
prepares_moved old started new result taken at began moves = accepted old new result taken began.0
    (prepares_so old new result taken began.0 at (subst (λ (stream : Stream). MoveRawOutcome stream old.owed.place result new) began.1 moves))

-- Taking back.

-- only a stream that is written owes something
owes_written : (opened : Access) (raw_place : ℕ) (window : WindowView) → HasShape opened raw_place window → window.from < window.to → is_written opened ≡ true
owes_written access.Read raw_place window shape some = absurd (omega (arith, some, shape.settled))
owes_written other raw_place window shape some = refl

-- n of the bytes that are owed may be taken back: some, of those that end at the place, where the raw stands where these begin
pub record MayCut (engine : EngineView) (count : ℕ) : Type 0 where
  pub some : 0 < count
  pub ends : engine.window.to ≡ engine.window.cursor
  pub there : engine.raw_place ≡ engine.window.begin + engine.window.from
  pub fits : count ≤ length (pending_of engine.window)

-- where the bytes end that are left
abbrev pub cut_to : EngineView → ℕ → ℕ
cut_to engine count = place_of engine.window - count

-- an engine without the last n bytes that it owed
abbrev pub cut_engine : EngineView → ℕ → EngineView
cut_engine engine count = record engine { window = cut_at (cut_to engine count) engine.window }

-- what an engine shows by its window
shown_so : (engine : EngineView) (window : WindowView) (place : ℕ) (bytes : List ℕ) (taken : ℕ) → window.size ≡ engine.window.size → place_of window ≡ place → pending_of window ≡ bytes → window.begin + window.from ≡ engine.window.begin + engine.window.from → buffer_of (stream_of (record engine { window = window })) taken ≡ record (buffer_of (stream_of engine) taken) { place = place; owed = record { bytes = bytes; place = engine.window.begin + engine.window.from } }
shown_so engine window place bytes taken size at owed from = rw (size, at, owed, from) refl

module _ (old : EngineView) (count : ℕ) (is : Stands old) (may : MayCut old count) where
  many : length (pending_of old.window) ≡ old.window.cursor - old.window.from
  many = pending_many old.window is.window_is ∙ ap (λ (n : ℕ). n - old.window.from) may.ends

  behind : old.window.begin + old.window.from ≤ cut_to old count
  behind = omega (arith, many, may.fits, may.some)

  within : cut_to old count ≤ place_of old.window
  within = omega arith

  shows : Shows (cut_at (cut_to old count) old.window) old.window.size (old.window.begin + old.window.from) (take (cut_to old count - (old.window.begin + old.window.from)) (pending_of old.window))
  shows = cut_shows old.window (cut_to old count) is.window_is may.ends behind within

  writes : is_written old.access ≡ true
  writes = owes_written old.access old.raw_place old.window is.shape (omega (arith, many, may.fits, may.some, may.ends))

  -- it stands as each does
  pub cut_stands : Stands (cut_engine old count)
  cut_stands = record {
    window_is = shows.is;
    is_open = is.is_open;
    attached = is.attached;
    shape = behind_shape old.access old.raw_place (cut_at (cut_to old count) old.window) writes shows.is (record { collects = shows.collects; stands = may.there ∙ sym shows.place_is });
    stands = is.stands;
    told = λ tells lives. holds_cut old.access old.raw.bytes (cut_to old count) old.window writes is.window_is may.ends behind within (is.told tells lives);
  }

  -- as a buffered stream it never took them
  pub cut_shown : (taken : ℕ) → buffer_of (stream_of (cut_engine old count)) taken ≡ taken_back count (buffer_of (stream_of old) taken)
  cut_shown taken =
      let left : ℕ = cut_to old count - (old.window.begin + old.window.from) in
      let as_many : left ≡ length (pending_of old.window) - count = omega (arith, many, may.fits) in
      let bytes : pending_of (cut_at (cut_to old count) old.window) ≡ take (length (pending_of old.window) - count) (pending_of old.window) = shows.bytes_are ∙ ap (λ (n : ℕ). take n (pending_of old.window)) as_many in
      let place : place_of (cut_at (cut_to old count) old.window) ≡ cut_to old count = omega (arith, pending_ends (cut_at (cut_to old count) old.window) shows.is shows.collects, shows.place_is, ap length shows.bytes_are, length-take-le left (pending_of old.window) (omega (arith, as_many)), behind) in
      shown_so old (cut_at (cut_to old count) old.window) (cut_to old count) (take (length (pending_of old.window) - count) (pending_of old.window)) taken shows.size_is place bytes shows.place_is

-- where some bytes may be taken back, these may be cut
pub may_cut : (engine : EngineView) (count : ℕ) → Stands engine → 0 < count → may_take_back (buffer_of (stream_of engine) 0) count ≡ true → MayCut engine count
may_cut engine count is some may = grind (arith, eqb_tells, pending_many)
