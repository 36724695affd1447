-- A text whose buffer was prepared for a flush, or took bytes back.
use Rattle.std.proofs.Common.{◌≡◌, ℕ, ◌+◌, ◌-◌, ◌≤◌, inr, Bool, true, false, ◌&&◌, IsTrue, List, length, nat_eq, nat_le, if◌then◌else◌, Option, None, Result, Ok, Err, refl, sym, ap, ◌∙◌, subst, arith}
use Rattle.std.proofs.lemmas.List.{length-take-le}
use Rattle.py_flat.specs.declared.fault.IoFault.{IoFault}
use Rattle.py_flat.specs.declared.fault.IoFault.TheVariants as fault
use Rattle.py_flat.specs.declared.life.Life.TheVariants as life
use Rattle.py_flat.specs.Bytes.{lay}
use Rattle.py_flat.specs.Limits.{greatest_place}
use Rattle.py_flat.specs.Causes.{Rose}
use Rattle.py_flat.specs.Calls.{Flush}
use Rattle.py_flat.specs.Refusals.{refusal}
use Rattle.py_flat.specs.BinaryStep.{is_live}
use Rattle.py_plain_text.specs.TextFile.{Front, TextSettings}
use Rattle.py_raw.proofs.Telling.{tells_its_bytes, keeps_same}
use Rattle.py_stream.specs.Writing.{OwesUpTo, PassesFront}
use Rattle.py_stream.specs.Buffer.{Buffer, WhereShown, flat_of, stream_shown, KeepsBuffer, MovesRawAlone, PreparesBy, PreparesUnless, Prepares, may_take_back, taken_back, TakesBack}
use Rattle.py_held_text.specs.Held.{HeldView, cleared}
use Rattle.py_read_text.specs.Answers.{StandsWhileLive}
use Rattle.py_read_text.specs.Knowing.{TextView, IsText}
use Rattle.py_read_text.specs.Writing.{LeavesFlat, PrepareOutcome}
use Rattle.py_read_text.proofs.Placing.{text_called, text_cleared}
use Rattle.py_read_text.proofs.Holding.{clean_as}

-- Preparing a flush.

-- a live buffer refuses no flush
accepts_prepare : (buffer : Buffer) → buffer.life ≡ life.Live → refusal (flat_of buffer) Flush ≡ None
accepts_prepare buffer live = rw live refl

pub prepares_so : (before after : Buffer) (result : Result (Unit {0}) IoFault) → before.life ≡ life.Live → Prepares before result after → PreparesBy before result after
prepares_so before after result live prepares = subst (λ (why : Option IoFault). PreparesUnless why before result after) (accepts_prepare before live) prepares

keeps_moved : (before after : Buffer) → MovesRawAlone before after → KeepsBuffer before after
keeps_moved before after moves = record {
  raw = moves.raw;
  can = ap (λ (own : Buffer). own.can) moves.same;
  buffering = ap (λ (own : Buffer). own.buffering) moves.same;
  exported = ap (λ (own : Buffer). own.exported) moves.same;
}

place_moved : (before after : Buffer) → MovesRawAlone before after → after.place ≡ before.place
place_moved before after moves = ap (λ (own : Buffer). own.place) moves.same

flat_moved : (before after : Buffer) → MovesRawAlone before after → WhereShown before ((flat_of after).bytes ≡ (flat_of before).bytes)
flat_moved before after moves = λ told.
    ap (λ (own : Buffer). lay after.raw.bytes own.owed.place own.owed.bytes) moves.same
    ∙ ap (λ (bytes : List ℕ). lay bytes before.owed.place before.owed.bytes) (moves.bytes (tells_its_bytes before.raw told))

leaves_moved : (before after : Buffer) (faulted : Bool) → MovesRawAlone before after → (IsTrue faulted → Rose before.raw.faults after.raw.faults) → (IsTrue before.raw.counts_exactly → faulted ≡ false → after.raw.faults ≡ before.raw.faults) → after.life ≡ (if faulted then life.Failed else before.life) → before.place ≤ greatest_place → (StandsWhileLive before → StandsWhileLive after) → LeavesFlat before faulted after
leaves_moved before after faulted moves rose still current far stands = record {
  keeps = keeps_moved before after moves;
  fault = rose;
  faults = still;
  life_is = current;
  bytes = flat_moved before after moves;
  raw_bytes = λ told. moves.bytes (tells_its_bytes before.raw told);
  far = omega (arith, far, place_moved before after moves);
  stands = stands;
  stays = λ closed. moves.stays;
  owed = ap (λ (own : Buffer). own.owed.bytes) moves.same;
  answered = moves.written;
}

-- all is as it was
moves_nothing : (before after : Buffer) → after ≡ record before { short = false } → MovesRawAlone before after
moves_nothing before after same = subst (MovesRawAlone before) (sym same) (record {
  same = refl;
  raw = keeps_same before.raw;
  stays = refl;
  bytes = λ told. refl;
  written = λ told. refl;
  reads = λ told. refl;
  no_wait = λ exact. refl;
})

stands_still : (before after : Buffer) → after ≡ record before { short = false } → StandsWhileLive before → StandsWhileLive after
stands_still before after same stood = subst StandsWhileLive (sym same) stood

pub prepared_so : (old new : TextView) (result : Result (Unit {0}) IoFault) → OwesUpTo old.buffer.owed old.buffer.place → old.buffer.place ≤ greatest_place → PreparesBy old.buffer result new.buffer → PrepareOutcome old result new
prepared_so old new (Ok done) owes far prepared = (
  leaves_moved old.buffer new.buffer false prepared.moves (λ faults. absurd (cc)) (λ exact sound. prepared.no_fault exact) prepared.life_is far (λ stood lives. prepared.stands (stood (sym prepared.life_is ∙ lives))),
  place_moved old.buffer new.buffer prepared.moves,
  λ writes. prepared.behind writes owes,
)
prepared_so old new (Err fault.RawFault) owes far failed = (
  leaves_moved old.buffer new.buffer true failed.moves (λ faults. failed.cause) (λ exact sound. absurd (cc)) failed.life_is far (λ stood lives. let never : life.Live ≡ life.Failed = sym lives ∙ failed.life_is in absurd (cc)),
  place_moved old.buffer new.buffer failed.moves,
)
prepared_so old new (Err fault.NoMemory) owes far starved =
    let moves = moves_nothing old.buffer new.buffer starved.1 in (
      leaves_moved old.buffer new.buffer false moves (λ faults. absurd (cc)) (λ exact sound. ap (λ (own : Buffer). own.raw.faults) starved.1) (ap (λ (own : Buffer). own.life) starved.1) far (stands_still old.buffer new.buffer starved.1),
      place_moved old.buffer new.buffer moves,
    )
prepared_so old new (Err other) owes far none = absurd none

-- by the text as it is known
pub prepared_now : (now old new : TextView) (result : Result (Unit {0}) IoFault) → old ≡ now → now.buffer.life ≡ life.Live → OwesUpTo old.buffer.owed old.buffer.place → old.buffer.place ≤ greatest_place → Prepares old.buffer result new.buffer → PrepareOutcome now result new
prepared_now now old new result same live owes far prepares =
    subst (λ (view : TextView). PrepareOutcome view result new) same
    (prepared_so old new result owes far (prepares_so old.buffer new.buffer result (ap (λ (view : TextView). view.buffer.life) same ∙ live) prepares))

moves_so : (before after : Buffer) (result : Result (Unit {0}) IoFault) → PreparesBy before result after → MovesRawAlone before after
moves_so before after (Ok done) prepared = prepared.moves
moves_so before after (Err fault.RawFault) failed = failed.moves
moves_so before after (Err fault.NoMemory) starved = moves_nothing before after starved.1
moves_so before after (Err other) none = absurd none

passes_moved : (before after : Buffer) → MovesRawAlone before after → PassesFront (stream_shown before) (stream_shown after)
passes_moved before after moves = record {
  passed = 0;
  most = omega arith;
  answered = moves.written;
  bytes = ap (λ (own : Buffer). own.owed.bytes) moves.same;
  place = λ some. omega (arith, ap (λ (own : Buffer). own.owed.place) moves.same);
}

-- the text stays as it is
pub text_prepared : (before after : Buffer) (held : HeldView) (front : Option Front) (at taken : ℕ) (dirty : Bool) (settings : TextSettings) (result : Result (Unit {0}) IoFault) → before.life ≡ life.Live → Prepares before result after → IsText before held front at taken dirty settings → IsText after held front at taken dirty settings
text_prepared before after held front at taken dirty settings result live prepares is =
    let moves = moves_so before after result (prepares_so before after result live prepares) in
    text_called before after held front at taken dirty settings live (keeps_moved before after moves) (passes_moved before after moves) (place_moved before after moves) (λ told lives. flat_moved before after moves told) is

-- Taking back.

all_three : (first second third fourth : Bool) → first && ((second && third) && fourth) ≡ true → (first ≡ true) × (second ≡ true) × (third ≡ true) × (fourth ≡ true)
all_three true true true true is = (refl, refl, refl, refl)
all_three true true true false is = absurd (cc)
all_three true true false fourth is = absurd (cc)
all_three true false third fourth is = absurd (cc)
all_three false second third fourth is = absurd (cc)

-- a live buffer that owes some bytes right before its place, whose raw stands where they begin
pub record OwesMany (buffer : Buffer) (count : ℕ) : Type 0 where
  pub live : is_live buffer.life ≡ true
  pub ends : buffer.owed.place + length buffer.owed.bytes ≡ buffer.place
  pub stands : buffer.raw_place ≡ buffer.owed.place
  pub fits : count ≤ length buffer.owed.bytes

pub owes_many : (buffer : Buffer) (count : ℕ) → may_take_back buffer count ≡ true → OwesMany buffer count
owes_many buffer count may =
    let all = all_three (is_live buffer.life) (nat_eq (buffer.owed.place + length buffer.owed.bytes) buffer.place) (nat_eq buffer.raw_place buffer.owed.place) (nat_le count (length buffer.owed.bytes)) may in
    record { live = all.0; ends = grind (arith, all.1); stands = grind (arith, all.2); fits = grind (arith, all.3) }

-- what the buffer has once it took back bytes
pub record TookBack (before : Buffer) (count : ℕ) (after : Buffer) : Type 0 where
  pub owes : OwesMany before count
  pub same : after ≡ taken_back count before

pub took_back : (before after : Buffer) (count : ℕ) → TakesBack before count true after → TookBack before count after
took_back before after count takes = record { owes = owes_many before count (sym takes.0); same = takes.1 }

keeps_back : (before after : Buffer) (count : ℕ) → after ≡ taken_back count before → KeepsBuffer before after
keeps_back before after count same = subst (KeepsBuffer before) (sym same) (record { raw = keeps_same before.raw; can = refl; buffering = refl; exported = refl })

owes_back : (before after : Buffer) (count : ℕ) → TookBack before count after → OwesUpTo after.owed after.place
owes_back before after count took =
    let left : ℕ = length before.owed.bytes - count in
    subst (λ (own : Buffer). OwesUpTo own.owed own.place) (sym took.same)
    (inr (omega (arith, took.owes.ends, took.owes.fits, length-take-le left before.owed.bytes (omega arith))))

-- the text stands before what the buffer took back
pub text_back : (before after : Buffer) (held new : HeldView) (front : Option Front) (at taken : ℕ) (dirty : Bool) (place count : ℕ) (settings : TextSettings) → TakesBack before count true after → place ≡ after.place → new ≡ cleared held place new.room → taken ≡ 0 → dirty ≡ false → IsText before held front at taken dirty settings → IsText after new front place taken dirty settings
text_back before after held new front at taken dirty place count settings takes there is_new none clean is =
    let took = took_back before after count takes in
    subst (λ (own : HeldView). IsText after own front place taken dirty settings) (sym is_new)
    (clean_as after (cleared held place new.room) front place taken dirty settings (is.clean clean) none clean
    (text_cleared before after held front at taken dirty place new.room settings (keeps_back before after count took.same) (owes_back before after count took) (omega (arith, ap (λ (own : Buffer). own.place) took.same, is.far)) there is))

-- a text that stands where its buffer stands goes back as far as that
pub back_place : (before after : Buffer) (at count : ℕ) → at ≡ before.place → TakesBack before count true after → at - count ≡ after.place
back_place before after at count stands takes = omega (arith, stands, ap (λ (own : Buffer). own.place) takes.1)

-- as many bytes can be gone back
pub back_fits : (before after : Buffer) (at count : ℕ) → at ≡ before.place → TakesBack before count true after → count ≤ at
back_fits before after at count stands takes = let took = took_back before after count takes in omega (arith, stands, took.owes.ends, took.owes.fits)

-- where nothing was taken back all is as it was
pub text_still : (before after : Buffer) (held : HeldView) (front : Option Front) (at taken : ℕ) (dirty : Bool) (count : ℕ) (settings : TextSettings) → TakesBack before count false after → IsText before held front at taken dirty settings → IsText after held front at taken dirty settings
text_still before after held front at taken dirty count settings takes is = subst (λ (own : Buffer). IsText own held front at taken dirty settings) (sym takes.1) is

pub takes_true : (before after : Buffer) (count : ℕ) (result : Bool) → result ≡ true → TakesBack before count result after → TakesBack before count true after
takes_true before after count result is takes = subst (λ (own : Bool). TakesBack before count own after) is takes
