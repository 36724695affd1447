-- A text that lets go of what it was written: its buffer ran out of memory as it was to pass that on.
use Rattle.std.proofs.Common.{◌≡◌, ◌≢◌, ℕ, ◌+◌, ◌-◌, ◌<◌, ◌≤◌, inl, inr, nat_eq, nat_le, ◌&&◌, Bool, true, false, List, [], ◌∷◌, ◌++◌, length, take, drop, Result, Ok, Err, refl, sym, ap, ◌∙◌, subst, arith, append-nil}
use Rattle.std.proofs.Math.Seq.{take-append-add}
use Rattle.std.proofs.lemmas.List.{take_all, drop_all, length-take-le, length-drop, length-append, drop-drop, drop-take, take-append-drop}
use Rattle.py_flat.specs.declared.fault.IoFault.{IoFault}
use Rattle.py_flat.specs.declared.fault.IoFault.TheVariants as fault
use Rattle.py_flat.specs.declared.life.Life.{Life}
use Rattle.py_flat.specs.declared.life.Life.TheVariants as life
use Rattle.py_flat.specs.Bytes.{lay}
use Rattle.py_flat.specs.FlatFile.{Abilities}
use Rattle.py_flat.specs.BinaryStep.{is_live}
use Rattle.py_flat.specs.Calls.{Flush, Refused}
use Rattle.py_flat.proofs.Laying.{lay_behind}
use Rattle.py_plain.specs.Units.{Unknown}
use Rattle.py_plain_text.specs.TextFile.{TextPlace, TextSettings, clean_at}
use Rattle.py_plain_text.specs.TextOver.{TextOver}
use Rattle.py_plain_text.specs.TextWriting.{writes_texts}
use Rattle.py_raw.specs.RawStream.{Raw}
use Rattle.py_raw.proofs.Telling.{keeps_same, tells_still}
use Rattle.py_stream.specs.Writing.{OwesUpTo, OwesBehind, Takes}
use Rattle.py_stream.specs.Buffer.{Buffer, flat_of, size_shown, stream_shown, KeepsBuffer, may_take_back, taken_back, AnswersAsBuffer, TakesBack}
use Rattle.py_read_text.specs.Knowing.{TextView, place_of, over_of as read_of}
use Rattle.py_read_text.specs.Owing.{all_owed, all_from, own_from, IsJoined, PassesOwed, GaveOwn, KeepsOpen, LaysFront, LaysOwed}
use Rattle.py_read_text.specs.Reading.{KeepsPlace}
use Rattle.py_read_text.specs.Writing.{StandsBehind, LeavesFlat, PrepareOutcome}
use Rattle.py_stream.specs.Kinds.{says_fault, says_wait}
use Rattle.py_read_text.proofs.Calling.{accepts_flush}
use Rattle.py_read_text.proofs.Placing.{flush_place}
use Rattle.py_read_text.proofs.Preparing.{owes_many}
use Rattle.py_read_text.proofs.Owing.{passes_then, open_then}
use Rattle.py_textio.proofs.Over.{calls_on}
use Rattle.py_textio.proofs.Settling.{view_of, clean_place, hands_back, hands_flush, hands_on, own_from_is, written_back, joined_with}
use Rattle.py_textio.specs.Written.{WrittenView, behind_owed, over_of, CallsBuffer, HandsOn, StandsToWrite, IsWritten, TookPending, SettleOutcome, StaysReady, ReadyOutcome, kept_of, LetsGo, GivesBack, FailsBehind, PassOutcome, HandOutcome, GivesOutcome}

-- Bytes laid one behind the other.

-- a front of some bytes, and a front of what is left of them, are a front
laid_on : (all : List ℕ) (at first second : ℕ) (bytes : List ℕ) → first ≤ length bytes → lay (lay all at (take first bytes)) (at + first) (take second (drop first bytes)) ≡ lay all at (take (first + second) bytes)
laid_on all at first second bytes within =
    let front : List ℕ = take first bytes in
    let size : length front ≡ first = length-take-le first bytes within in
    ap (λ (count : ℕ). lay (lay all at front) (at + count) (take second (drop first bytes))) (sym size)
    ∙ (lay_behind all at front (take second (drop first bytes))
    ∙ ap (lay all at) (sym (take-append-add front (drop first bytes) second)
    ∙ (ap (λ (count : ℕ). take (count + second) (front ++ drop first bytes)) size
    ∙ ap (take (first + second)) (take-append-drop first bytes))))

-- what is left of some bytes without the last n of those that were put behind others
front_both : (owed pending : List ℕ) (count : ℕ) → count ≤ length pending → take (length (owed ++ pending) - count) (owed ++ pending) ≡ owed ++ take (length pending - count) pending
front_both owed pending count fits =
    let left : ℕ = length pending - count in
    let at : length (owed ++ pending) - count ≡ length owed + left = omega (arith, length-append owed pending, fits) in
    ap (λ (n : ℕ). take n (owed ++ pending)) at ∙ take-append-add owed pending left

-- what is left to pass on of some bytes without the last n
rest_front : (all rest : List ℕ) (passed count : ℕ) → passed ≤ length all → rest ≡ drop passed all → count ≤ length rest → take (length rest - count) rest ≡ drop passed (take (length all - count) all)
rest_front all rest passed count most is fits =
    let size : length rest ≡ length all - passed = ap length is ∙ length-drop passed all in
    let left : ℕ = length rest - count in
    let whole : passed + left ≡ length all - count = omega (arith, size, most, fits) in
    ap (take left) is
    ∙ (sym (drop-take passed left all)
    ∙ ap (λ (n : ℕ). drop passed (take n all)) whole)

-- the flat bytes of a buffer that was given bytes behind what it owed, passed some of all that on, and took back the last n bytes given
laid_back : (raw0 raw1 raw2 : List ℕ) (from place place1 place2 : ℕ) (owed pending owed1 owed2 : List ℕ) (first second count : ℕ) → from + length owed ≡ place → first ≤ length (owed ++ pending) → raw1 ≡ lay raw0 from (take first (owed ++ pending)) → owed1 ≡ drop first (owed ++ pending) → place1 ≡ from + first → raw2 ≡ lay raw1 place1 (take (length owed1 - length owed2) owed1) → owed2 ≡ drop second owed1 → second ≤ length owed1 → place2 ≡ place1 + second → count ≤ length owed2 → count ≤ length pending → lay raw2 place2 (take (length owed2 - count) owed2) ≡ lay (lay raw0 from owed) place (take (length pending - count) pending)
laid_back raw0 raw1 raw2 from place place1 place2 owed pending owed1 owed2 first second count ends most laid1 rest1 at1 laid2 rest2 most2 at2 fits within =
    let all : List ℕ = owed ++ pending in
    let some : ℕ = first + second in
    let left : ℕ = length owed2 - count in
    let size1 : length owed1 ≡ length all - first = ap length rest1 ∙ length-drop first all in
    let size2 : length owed2 ≡ length owed1 - second = ap length rest2 ∙ length-drop second owed1 in
    let passed : length owed1 - length owed2 ≡ second = omega (arith, size2, most2) in
    let within2 : some ≤ length all = omega (arith, size1, most, most2) in
    let rest : owed2 ≡ drop some all = rest2 ∙ (ap (drop second) rest1 ∙ drop-drop second first all) in
    let raw : raw2 ≡ lay raw0 from (take some all) =
    laid2
    ∙ (ap (λ (n : ℕ). lay raw1 place1 (take n owed1)) passed
    ∙ (ap (λ (n : ℕ). lay raw1 n (take second owed1)) at1
    ∙ (ap (λ (bytes : List ℕ). lay bytes (from + first) (take second owed1)) laid1
    ∙ (ap (λ (bytes : List ℕ). lay (lay raw0 from (take first all)) (from + first) (take second bytes)) rest1
    ∙ laid_on raw0 from first second all most)))) in
    let at : place2 ≡ from + some = omega (arith, at1, at2) in
    let whole : some + left ≡ length all - count = omega (arith, size1, size2, most, most2, fits) in
    ap (λ (bytes : List ℕ). lay bytes place2 (take left owed2)) raw
    ∙ (ap (λ (n : ℕ). lay (lay raw0 from (take some all)) n (take left owed2)) at
    ∙ (ap (λ (bytes : List ℕ). lay (lay raw0 from (take some all)) (from + some) (take left bytes)) rest
    ∙ (laid_on raw0 from some left all within2
    ∙ (ap (λ (n : ℕ). lay raw0 from (take n all)) whole
    ∙ (ap (lay raw0 from) (front_both owed pending count within)
    ∙ (sym (lay_behind raw0 from owed (take (length pending - count) pending))
    ∙ ap (λ (n : ℕ). lay (lay raw0 from owed) n (take (length pending - count) pending)) ends))))))

-- Letting go.

kept_size : (view : WrittenView) (count : ℕ) → length (kept_of view count) ≡ length view.pending - count
kept_size view count = length-take-le (length view.pending - count) view.pending (omega arith)

-- a text of which the raw was moved, if at all, lets go of bytes
pub ready_go : (old mid new : WrittenView) (count room : ℕ) → StandsToWrite old.text → StaysReady old mid → new ≡ record mid { pending = take (length mid.pending - count) mid.pending; room = room } → LetsGo old count new
ready_go old mid new count room stood ready is = subst (λ (view : WrittenView). LetsGo old count view) (sym is) (
    let left : WrittenView = record mid { pending = take (length mid.pending - count) mid.pending; room = room } in
    let kept : left.pending ≡ kept_of old count = ap (λ (owed : List ℕ). take (length owed - count) owed) ready.pending in
    record {
      calls = ready.hands.calls;
      lives = ready.lives;
      settings = ready.hands.settings;
      bytes = λ told.
          ap (λ (bytes : List ℕ). lay bytes mid.text.buffer.place left.pending) (ready.leaves.bytes told)
          ∙ (ap (λ (at : ℕ). lay (flat_of old.text.buffer).bytes at left.pending) ready.place
          ∙ ap (lay (flat_of old.text.buffer).bytes old.text.buffer.place) kept);
      place = clean_place mid.text left.pending (ready.stands stood) ∙ ap (λ (at : ℕ). clean_at at Unknown) (omega (arith, ready.place, ap length kept));
      owes = record { passed = 0; most = omega arith; answered = ready.leaves.answered; rest = ap (λ (owed : List ℕ). owed ++ left.pending) ready.leaves.owed ∙ ap (λ (owed : List ℕ). old.text.buffer.owed.bytes ++ owed) kept };
      lays = ready.hands.lays;
      stays = ready.hands.stays;
    })

ready_owed : (old mid : WrittenView) → StaysReady old mid → all_owed (over_of mid) ≡ all_owed (over_of old)
ready_owed old mid ready = ap (λ (owed : List ℕ). owed ++ mid.pending) ready.leaves.owed ∙ ap (λ (owed : List ℕ). old.text.buffer.owed.bytes ++ owed) ready.pending

ready_from : (old mid : WrittenView) → StaysReady old mid → all_from (over_of mid) ≡ all_from (over_of old)
ready_from old mid ready = omega (arith, ap (λ (place : TextPlace). place.at) ready.hands.place, ap length (ready_owed old mid ready))

-- what is laid on of what is owed, once the raw was moved
ready_lays : (old mid : WrittenView) (new : TextOver Buffer) → StaysReady old mid → LaysOwed (over_of mid) (all_owed (over_of mid) ++ []) new → LaysOwed (over_of old) (all_owed (over_of old) ++ []) new
ready_lays old mid new ready lays = λ told.
    subst (λ (bytes : List ℕ). LaysFront bytes (all_from (over_of old)) (all_owed (over_of old) ++ []) new.buffer.raw.bytes) (ready.leaves.raw_bytes told)
    (subst (λ (from : ℕ). LaysFront mid.text.buffer.raw.bytes from (all_owed (over_of old) ++ []) new.buffer.raw.bytes) (ready_from old mid ready)
    (subst (λ (owed : List ℕ). LaysFront mid.text.buffer.raw.bytes (all_from (over_of mid)) (owed ++ []) new.buffer.raw.bytes) (ready_owed old mid ready)
    (lays (tells_still old.text.buffer.raw mid.text.buffer.raw ready.hands.calls.keeps.raw ∙ told))))

-- where the text was ready, what it lets go of is what it would have let go of before
go_behind : (old mid new : WrittenView) (count : ℕ) → StaysReady old mid → LetsGo mid count new → LetsGo old count new
go_behind old mid new count ready lets =
    let kept : kept_of mid count ≡ kept_of old count = ap (λ (owed : List ℕ). take (length owed - count) owed) ready.pending in
    record {
      calls = calls_on old.text.buffer mid.text.buffer new.text.buffer false false ready.hands.calls lets.calls;
      lives = lets.lives;
      settings = lets.settings ∙ ready.hands.settings;
      bytes = λ told.
          lets.bytes (tells_still old.text.buffer.raw mid.text.buffer.raw ready.hands.calls.keeps.raw ∙ told)
          ∙ (ap (λ (bytes : List ℕ). lay bytes mid.text.buffer.place (kept_of mid count)) (ready.leaves.bytes told)
          ∙ (ap (λ (at : ℕ). lay (flat_of old.text.buffer).bytes at (kept_of mid count)) ready.place
          ∙ ap (lay (flat_of old.text.buffer).bytes old.text.buffer.place) kept));
      place = lets.place ∙ ap (λ (at : ℕ). clean_at at Unknown) (omega (arith, ready.place, ap length kept));
      owes =
          let first : PassesOwed old.text.buffer.raw (old.text.buffer.owed.bytes ++ kept_of old count) mid.text.buffer.raw (mid.text.buffer.owed.bytes ++ kept_of mid count) = record { passed = 0; most = omega arith; answered = ready.leaves.answered; rest = ap (λ (owed : List ℕ). owed ++ kept_of mid count) ready.leaves.owed ∙ ap (λ (owed : List ℕ). old.text.buffer.owed.bytes ++ owed) kept } in
          passes_then old.text.buffer.raw mid.text.buffer.raw new.text.buffer.raw (old.text.buffer.owed.bytes ++ kept_of old count) (mid.text.buffer.owed.bytes ++ kept_of mid count) (all_owed (over_of new)) ready.hands.calls.keeps.raw first lets.owes;
      lays = ready_lays old mid (over_of new) ready lets.lays;
      stays = open_then old.text.buffer mid.text.buffer new.text.buffer ready.hands.stays lets.stays;
    }

-- bytes that went on of a text that was ready
gave_behind : (old mid : WrittenView) (flushes : Bool) (count : ℕ) (new : TextOver Buffer) → StaysReady old mid → GaveOwn flushes count (over_of mid) new → GaveOwn flushes count (over_of old) new
gave_behind old mid flushes count new ready (inr took) = inr took
gave_behind old mid flushes count new ready (inl failed) =
    let from : own_from (over_of old) ≡ own_from (over_of mid) = omega (arith, own_from_is mid, own_from_is old, ap (λ (place : TextPlace). place.at) ready.hands.place, ap length ready.pending) in
    inl (
      failed.0,
      record {
        further = omega (arith, failed.1.further, from);
        stands = λ tells. omega (arith, failed.1.stands (ready.hands.calls.keeps.raw.tells_place ∙ tells), from);
        answered = λ tells. omega (arith, failed.1.answered (ready.hands.calls.keeps.raw.tells_transfers ∙ tells), ready.leaves.answered tells, ap length ready.leaves.owed);
      },
    )

-- what is handed on of a text that was ready
pub hand_behind : (old mid new : WrittenView) (count : ℕ) (flushes : Bool) (result : Result (Unit {0}) IoFault) → IsJoined (over_of old) → IsJoined (over_of mid) → StaysReady old mid → HandOutcome mid count flushes result new → HandOutcome old count flushes result new
hand_behind old mid new count flushes (Ok done) was is ready outcome = (hands_on old mid new false false was is ready.hands outcome.0, outcome.1, outcome.2, outcome.3)
hand_behind old mid new count flushes (Err (fault.WouldBlock taken)) was is ready outcome = (hands_on old mid new true false was is ready.hands outcome.0, outcome.1, outcome.2, outcome.3)
hand_behind old mid new count flushes (Err fault.RawFault) was is ready outcome = (hands_on old mid new false true was is ready.hands outcome.0, outcome.1)
hand_behind old mid new count flushes (Err fault.NoMemory) was is ready (inl failed) = inl (record {
  hands = hands_on old mid new false false was is ready.hands failed.hands;
  life_is = failed.life_is;
  some = λ none. failed.some (ready.pending ∙ none);
  gave = gave_behind old mid flushes count (over_of new) ready failed.gave;
  takes = sym ready.hands.calls.keeps.raw.takes_memory ∙ failed.takes;
})
hand_behind old mid new count flushes (Err fault.NoMemory) was is ready (inr lets) = inr (go_behind old mid new count ready lets)
hand_behind old mid new count flushes (Err other) was is ready outcome = absurd outcome

-- Getting ready.

stood_ready : (old new : TextView) → KeepsPlace old new → new.buffer.place ≡ old.buffer.place → StandsToWrite old → StandsToWrite new
stood_ready old new place there stood = (record { taken = place.taken ∙ stood.0.taken; dirty = place.dirty ∙ stood.0.dirty }, omega (arith, place.at, stood.1, there), place.front ∙ stood.2)

ready_by : (old new : TextView) (pending : List ℕ) (room more : ℕ) (before after : Life) → IsWritten old pending before → KeepsPlace old new → LeavesFlat old.buffer false new.buffer → new.buffer.place ≡ old.buffer.place → old.buffer.life ≡ life.Live → after ≡ life.Live → StaysReady (view_of old pending room before) (view_of new pending more after)
ready_by old new pending room more before after is place leaves there live lives = record {
  hands = hands_back old new pending room more before after false is place (inr there) leaves live;
  leaves = leaves;
  place = there;
  lives = lives;
  pending = refl;
  stands = stood_ready old new place there;
}

pub unready_so : (now : WrittenView) (old new : TextView) (pending : List ℕ) (room more : ℕ) (before after : Life) (why : IoFault) → view_of old pending room before ≡ now → IsWritten old pending before → now.life ≡ life.Live → KeepsPlace old new → PrepareOutcome old (Err why) new → after ≡ new.buffer.life → ReadyOutcome now (Err why) (view_of new pending more after)
unready_so now old new pending room more before after fault.RawFault same is live place outcome current =
    (subst (λ (view : WrittenView). HandsOn view false true (view_of new pending more after)) same (hands_back old new pending room more before after true is place (inr outcome.1) outcome.0 (is.lives (ap (λ (view : WrittenView). view.life) same ∙ live))), current ∙ outcome.0.life_is)
unready_so now old new pending room more before after fault.NoMemory same is live place outcome current =
    let lives : before ≡ life.Live = ap (λ (view : WrittenView). view.life) same ∙ live in
    subst (λ (view : WrittenView). StaysReady view (view_of new pending more after)) same (ready_by old new pending room more before after is place outcome.0 outcome.1 (is.lives lives) (current ∙ (outcome.0.life_is ∙ is.lives lives)))
unready_so now old new pending room more before after other same is live place outcome current = absurd outcome

-- what holds of every text that couldn't get ready
pub unready_written : (old new : TextView) (pending : List ℕ) (before after : Life) (why : IoFault) → IsWritten old pending before → before ≡ life.Live → KeepsPlace old new → PrepareOutcome old (Err why) new → old.buffer.can.writable ≡ true → after ≡ new.buffer.life → IsJoined (read_of new) → IsWritten new pending after
unready_written old new pending before after fault.RawFault is live place outcome writes current joined = written_back old new pending before after true is live place (inr outcome.1) outcome.0 writes current joined
unready_written old new pending before after fault.NoMemory is live place outcome writes current joined = written_back old new pending before after false is live place (inr outcome.1) outcome.0 writes current joined
unready_written old new pending before after other is live place outcome writes current joined = absurd outcome

-- Passing on.

-- a text that had settled stands to write
pub settled_stands : (old mid : WrittenView) → StandsToWrite old.text → HandsOn old false false mid → mid.pending ≡ [] → mid.text.at ≡ mid.text.buffer.place → StandsToWrite mid.text
settled_stands old mid stood hands none there =
    let place : place_of mid.text ≡ clean_at (old.text.buffer.place + length old.pending) Unknown = sym (ap (λ (owed : List ℕ). behind_owed (place_of mid.text) owed) none) ∙ (hands.place ∙ clean_place old.text old.pending stood) in
    (record { taken = ap (λ (own : TextPlace). own.taken) place; dirty = ap (λ (own : TextPlace). own.dirty) place }, there, ap (λ (own : TextPlace). own.front) place)

-- what the buffer took of what it was given all of
took_all : (old mid : WrittenView) → OwesBehind (stream_shown old.text.buffer) → TookPending old mid → Takes (stream_shown old.text.buffer) old.pending (stream_shown mid.text.buffer)
took_all old mid behind took = took.owes.takes (inr behind.ends)

-- the raw of a buffer that took what it was given stands where what it owes begins
pub settled_behind : (old mid : WrittenView) → OwesBehind (stream_shown old.text.buffer) → TookPending old mid → mid.text.buffer.owed.bytes ≢ [] → OwesBehind (stream_shown mid.text.buffer)
settled_behind old mid behind took some = record { ends = by_ends (took_all old mid behind took).up_to; stands = took.behind behind refl some }
  where
    by_ends : OwesUpTo mid.text.buffer.owed mid.text.buffer.place → mid.text.buffer.owed.place + length mid.text.buffer.owed.bytes ≡ mid.text.buffer.place
    by_ends (inl none) = absurd (some none)
    by_ends (inr ends) = ends

none_front : (count : ℕ) (owed : List ℕ) → owed ≡ [] → drop count owed ≡ []
none_front count owed none = ap (drop count) none ∙ drop_all count [] (omega arith)

-- so it does once some of that was passed on
flushed_behind : (before after : Buffer) → (before.owed.bytes ≢ [] → OwesBehind (stream_shown before)) → AnswersAsBuffer before Flush (Refused fault.NoMemory) after → OwesUpTo after.owed after.place → after.owed.bytes ≢ [] → OwesBehind (stream_shown after)
flushed_behind before after behind answers ends some = record { ends = by_ends ends; stands = answers.behind (behind (λ none. some (answers.owes.bytes ∙ none_front answers.owes.passed before.owed.bytes none))) refl some }
  where
    by_ends : OwesUpTo after.owed after.place → after.owed.place + length after.owed.bytes ≡ after.place
    by_ends (inl none) = absurd (some none)
    by_ends (inr is) = is

equal_true : (first second : ℕ) → first ≡ second → nat_eq first second ≡ true
equal_true first second same = grind (arith, same)

last_of : (first second third fourth : Bool) → first ≡ true → second ≡ true → third ≡ true → first && ((second && third) && fourth) ≡ false → fourth ≡ false
last_of true true true fourth one two three is = is
last_of true true false fourth one two three is = absurd (cc)
last_of true false third fourth one two three is = absurd (cc)
last_of false second third fourth one two three is = absurd (cc)

-- a live buffer that doesn't take n bytes back owes fewer
fewer_owed : (buffer : Buffer) (count : ℕ) → is_live buffer.life ≡ true → 0 < count → (buffer.owed.bytes ≢ [] → OwesBehind (stream_shown buffer)) → may_take_back buffer count ≡ false → length buffer.owed.bytes < count
fewer_owed buffer count live some behind not = by_owed buffer.owed.bytes refl
  where
    by_owed : (owed : List ℕ) → buffer.owed.bytes ≡ owed → length buffer.owed.bytes < count
    by_owed [] is = omega (arith, ap length is, some)
    by_owed (byte ∷ more) is =
        let stands = behind (λ none. let never : byte ∷ more ≡ [] = sym is ∙ none in absurd (cc)) in
        let fewer : nat_le count (length buffer.owed.bytes) ≡ false = last_of (is_live buffer.life) (nat_eq (buffer.owed.place + length buffer.owed.bytes) buffer.place) (nat_eq buffer.raw_place buffer.owed.place) (nat_le count (length buffer.owed.bytes)) live (equal_true (buffer.owed.place + length buffer.owed.bytes) buffer.place stands.ends) (equal_true buffer.raw_place buffer.owed.place stands.stands) not in
        grind (arith, fewer)

calls_back : (before after : Buffer) (count : ℕ) → after ≡ taken_back count before → CallsBuffer before false false after
calls_back before after count same = subst (CallsBuffer before false false) (sym same) (record { keeps = record { raw = keeps_same before.raw; can = refl; buffering = refl; exported = refl }; wait = λ waits. absurd (cc); fault = λ faults. absurd (cc); faults = λ exact sound. refl; stands = λ stood. stood })

open_back : (before after : Buffer) (count : ℕ) → after ≡ taken_back count before → KeepsOpen before after
open_back before after count same = subst (KeepsOpen before) (sym same) (record { attached = λ was. was; stays = λ closed. (refl, closed) })

-- of bytes that were owed, and of which some were passed on, the last n aren't owed any more
owes_back : (before after : Raw) (owed pending left : List ℕ) (count : ℕ) → count ≤ length pending → count ≤ length left → PassesOwed before (owed ++ pending) after left → PassesOwed before (owed ++ take (length pending - count) pending) after (take (length left - count) left)
owes_back before after owed pending left count within fits passes =
    let all : List ℕ = owed ++ pending in
    let front = front_both owed pending count within in
    let size : length left ≡ length all - passes.passed = ap length passes.rest ∙ length-drop passes.passed all in
    let kept : length (owed ++ take (length pending - count) pending) ≡ length all - count = ap length (sym front) ∙ length-take-le (length all - count) all (omega arith) in
    record {
      passed = passes.passed;
      most = omega (arith, kept, size, fits, passes.most);
      answered = passes.answered;
      rest = rest_front all left passes.passed count passes.most passes.rest fits ∙ ap (drop passes.passed) front;
    }

-- the place of the first that is owed, of bytes that end at the place
owed_at : (buffer : Buffer) (end : ℕ) → buffer.place ≡ end → 0 < length buffer.owed.bytes → OwesUpTo buffer.owed buffer.place → buffer.owed.place ≡ end - length buffer.owed.bytes
owed_at buffer end is some (inl none) = absurd (omega (arith, some, ap length none))
owed_at buffer end is some (inr ends) = omega (arith, is, ends)

-- what the flush left, of a text whose buffer took bytes back
abbrev left_of : WrittenView → Buffer → WrittenView
left_of view left = record view { text = record view.text { buffer = left } }

-- a text whose buffer took all that it owed, and then took back what was written
pub gives_back : (old mid new : WrittenView) (count : ℕ) → IsJoined (over_of old) → IsJoined (over_of mid) → StandsToWrite old.text → mid.text.buffer.life ≡ life.Live → mid.text.buffer.exported ≡ false → OwesBehind (stream_shown old.text.buffer) → 0 < count → count ≤ length old.pending → SettleOutcome old (Ok tt) mid → GivesBack mid count new → LetsGo old count new
gives_back old mid new count was is stood live kept behind some within settled back =
    let buffer0 : Buffer = old.text.buffer in
    let buffer1 : Buffer = mid.text.buffer in
    let buffer2 : Buffer = back.left in
    let hands = settled.0 in
    let took : TookPending old mid = settled.3 in
    let takes = took_all old mid behind took in
    let moved : buffer1.place ≡ buffer0.place + length old.pending = took.moves.place.1 in
    let all : takes.taken ≡ length old.pending = omega (arith, moved, takes.place) in
    let whole : take takes.taken old.pending ≡ old.pending = ap (λ (n : ℕ). take n old.pending) all ∙ take_all (length old.pending) old.pending (omega arith) in
    let rest1 : buffer1.owed.bytes ≡ drop takes.passed (buffer0.owed.bytes ++ old.pending) = takes.owed ∙ ap (λ (bytes : List ℕ). drop takes.passed (buffer0.owed.bytes ++ bytes)) whole in
    let most : takes.passed ≤ length (buffer0.owed.bytes ++ old.pending) = omega (arith, takes.most, all, length-append buffer0.owed.bytes old.pending) in
    let flushed = back.flushed in
    let passes = flushed.owes in
    let place2 : buffer2.place ≡ buffer1.place = flush_place (size_shown buffer1.buffering) (Err fault.NoMemory) buffer1.life buffer2.life buffer1.place buffer2.place live flushed.moves.life_is flushed.moves.place in
    let size1 : length buffer1.owed.bytes ≡ length (buffer0.owed.bytes ++ old.pending) - takes.passed = ap length rest1 ∙ length-drop takes.passed (buffer0.owed.bytes ++ old.pending) in
    let size2 : length buffer2.owed.bytes ≡ length buffer1.owed.bytes - passes.passed = ap length passes.bytes ∙ length-drop passes.passed buffer1.owed.bytes in
    let at1 : buffer1.owed.place ≡ buffer0.owed.place + takes.passed = omega (arith, owed_at buffer1 buffer1.place refl (omega (arith, size2, back.fits, some)) takes.up_to, size1, most, moved, behind.ends, length-append buffer0.owed.bytes old.pending) in
    let at2 : buffer2.owed.place ≡ buffer1.owed.place + passes.passed = passes.place (λ none. omega (arith, ap length none, back.fits, some)) in
    let left : WrittenView = left_of mid buffer2 in
    let short : buffer2.short ≡ false = flushed.shorts in
    let place_kept : KeepsPlace mid.text left.text = record { front = refl; at = refl; taken = refl; dirty = refl; settings = refl } in
    let flush : HandsOn mid false false left = subst (λ (waited : Bool). HandsOn mid waited false left) short (hands_flush mid.text left.text mid.pending mid.room mid.room mid.life mid.life (Refused fault.NoMemory) is settled.1 kept place_kept flushed live (inl (flushed.moves.life_is ∙ live))) in
    let on : HandsOn old false false left = hands_on old mid left false false was is hands flush in
    let raw3 : new.text.buffer.raw ≡ buffer2.raw = ap (λ (own : Buffer). own.raw) back.back in
    let kept_is : List ℕ = kept_of old count in
    record {
      calls = calls_on buffer0 buffer2 new.text.buffer false false on.calls (calls_back buffer2 new.text.buffer count back.back);
      lives = back.lives;
      settings = back.settings ∙ hands.settings;
      bytes = λ told.
          let told1 = tells_still buffer0.raw buffer1.raw hands.calls.keeps.raw ∙ told in
          ap (λ (owed : List ℕ). lay (flat_of new.text.buffer).bytes new.text.buffer.place owed) back.pending
          ∙ (ap (λ (own : Buffer). (flat_of own).bytes) back.back
          ∙ laid_back buffer0.raw.bytes buffer1.raw.bytes buffer2.raw.bytes buffer0.owed.place buffer0.place buffer1.owed.place buffer2.owed.place buffer0.owed.bytes old.pending buffer1.owed.bytes buffer2.owed.bytes takes.passed passes.passed count behind.ends most
          (takes.just live behind told ∙ ap (λ (bytes : List ℕ). lay buffer0.raw.bytes buffer0.owed.place (take takes.passed (buffer0.owed.bytes ++ bytes))) whole)
          rest1 at1 (flushed.passes told1) passes.bytes passes.most at2 back.fits within);
      place = clean_place new.text new.pending back.stands ∙ ap (λ (at : ℕ). clean_at at Unknown) (omega (arith, ap (λ (own : Buffer). own.place) back.back, ap length back.pending, place2, moved, kept_size old count, within));
      owes =
          let passed : PassesOwed buffer0.raw (all_owed (over_of old)) buffer2.raw buffer2.owed.bytes = subst (PassesOwed buffer0.raw (all_owed (over_of old)) buffer2.raw) (ap (λ (owed : List ℕ). buffer2.owed.bytes ++ owed) settled.1 ∙ append-nil buffer2.owed.bytes) on.owes in
          let owed : all_owed (over_of new) ≡ take (length buffer2.owed.bytes - count) buffer2.owed.bytes = ap (λ (own : List ℕ). new.text.buffer.owed.bytes ++ own) back.pending ∙ (append-nil new.text.buffer.owed.bytes ∙ ap (λ (own : Buffer). own.owed.bytes) back.back) in
          subst (λ (raw : Raw). PassesOwed buffer0.raw (buffer0.owed.bytes ++ kept_is) raw (all_owed (over_of new))) (sym raw3)
          (subst (PassesOwed buffer0.raw (buffer0.owed.bytes ++ kept_is) buffer2.raw) (sym owed)
          (owes_back buffer0.raw buffer2.raw buffer0.owed.bytes old.pending buffer2.owed.bytes count within back.fits passed));
      lays = λ told. subst (λ (raw : Raw). LaysFront buffer0.raw.bytes (all_from (over_of old)) (all_owed (over_of old) ++ []) raw.bytes) (sym raw3) (on.lays told);
      stays = open_then buffer0 buffer2 new.text.buffer on.stays (open_back buffer2 new.text.buffer count back.back);
    }

-- what was passed on of a text whose buffer took what it owed
pub passed_behind : (old mid new : WrittenView) (count : ℕ) (result : Result (Unit {0}) IoFault) → IsJoined (over_of old) → IsJoined (over_of mid) → StandsToWrite old.text → mid.text.buffer.life ≡ life.Live → mid.text.buffer.exported ≡ false → OwesBehind (stream_shown old.text.buffer) → 0 < count → count ≤ length old.pending → SettleOutcome old (Ok tt) mid → PassOutcome mid count result new → HandOutcome old count true result new
passed_behind old mid new count (Ok done) was is stood live kept behind some within settled outcome = (hands_on old mid new false false was is settled.0 outcome.0, outcome.1, outcome.2, λ flushes. outcome.3)
passed_behind old mid new count (Err (fault.WouldBlock taken)) was is stood live kept behind some within settled outcome = (hands_on old mid new true false was is settled.0 outcome.0, outcome.1, outcome.2, outcome.3)
passed_behind old mid new count (Err fault.RawFault) was is stood live kept behind some within settled outcome = (hands_on old mid new false true was is settled.0 outcome.0, outcome.1)
passed_behind old mid new count (Err fault.NoMemory) was is stood live kept behind some within settled (inr failed) = inl (record {
  hands = hands_on old mid new false false was is settled.0 failed.hands;
  life_is = failed.life_is;
  some = λ none. omega (arith, ap length none, some, within);
  gave = inr (refl, failed.took);
  takes = sym settled.0.calls.keeps.raw.takes_memory ∙ failed.takes;
})
passed_behind old mid new count (Err fault.NoMemory) was is stood live kept behind some within settled (inl back) = inr (gives_back old mid new count was is stood live kept behind some within settled back)
passed_behind old mid new count (Err other) was is stood live kept behind some within settled outcome = absurd outcome

-- what wasn't handed on isn't flushed
pub gives_not : (old new : WrittenView) (count : ℕ) (why : IoFault) → GivesOutcome old count (Err why) new → HandOutcome old count true (Err why) new
gives_not old new count (fault.WouldBlock taken) outcome = outcome
gives_not old new count fault.RawFault outcome = outcome
gives_not old new count fault.NoMemory (inr lets) = inr lets
gives_not old new count fault.NoMemory (inl failed) = inl (record { hands = failed.hands; life_is = failed.life_is; some = failed.some; gave = by_gave failed.gave; takes = failed.takes })
  where
    by_gave : GaveOwn false count (over_of old) (over_of new) → GaveOwn true count (over_of old) (over_of new)
    by_gave (inl took) = inl took
    by_gave (inr all) = let never : false ≡ true = all.0 in absurd (cc)
gives_not old new count other outcome = absurd outcome

-- Passing on, for want of memory.

-- a flush that neither waits nor finds the raw failing ran out of memory
pub starved_flush : (before after : Buffer) (why : IoFault) → before.life ≡ life.Live → before.exported ≡ false → AnswersAsBuffer before Flush (Refused why) after → says_wait (Refused why) ≡ false → says_fault (Refused why) ≡ false → why ≡ fault.NoMemory
starved_flush before after (fault.WouldBlock taken) live kept answers calm sound = absurd (cc)
starved_flush before after fault.RawFault live kept answers calm sound = absurd (cc)
starved_flush before after fault.NoMemory live kept answers calm sound = refl
starved_flush before after other live kept answers calm sound = absurd (answers.answer (accepts_flush before live kept))

-- what a buffer shows of itself stays, whether it took bytes back or not
pub record ShowsStill (before after : Buffer) : Type 0 where
  pub exported : after.exported ≡ before.exported
  pub life_is : after.life ≡ before.life
  pub can : after.can ≡ before.can
  pub buffering : after.buffering ≡ before.buffering

pub back_shows : (before after : Buffer) (count : ℕ) (result : Bool) → TakesBack before count result after → ShowsStill before after
back_shows before after count true takes = subst (ShowsStill before) (sym takes.1) (record { exported = refl; life_is = refl; can = refl; buffering = refl })
back_shows before after count false takes = subst (ShowsStill before) (sym takes.1) (record { exported = refl; life_is = refl; can = refl; buffering = refl })

-- the buffer took back what was written
back_so : (old mid new : TextView) (pending : List ℕ) (room more count : ℕ) (before after : Life) → pending ≡ [] → StandsToWrite old → KeepsPlace old mid → AnswersAsBuffer old.buffer Flush (Refused fault.NoMemory) mid.buffer → TakesBack mid.buffer count true new.buffer → StandsBehind mid new → after ≡ life.Live → GivesBack (view_of old pending room before) count (view_of new pending more after)
back_so old mid new pending room more count before after none stood place answers takes stands lives =
    let owes = owes_many mid.buffer count (sym takes.0) in
    record {
      left = mid.buffer;
      flushed = answers;
      fits = owes.fits;
      back = takes.1;
      stands = (stands.clean, stands.at, stands.front ∙ (place.front ∙ stood.2));
      settings = stands.settings ∙ place.settings;
      pending = none;
      lives = lives;
    }

pub passed_back : (now : WrittenView) (old mid new : TextView) (pending : List ℕ) (room more count : ℕ) (before after : Life) (why : IoFault) → view_of old pending room before ≡ now → IsWritten old pending before → now.life ≡ life.Live → now.pending ≡ [] → StandsToWrite now.text → KeepsPlace old mid → AnswersAsBuffer old.buffer Flush (Refused why) mid.buffer → why ≡ fault.NoMemory → TakesBack mid.buffer count true new.buffer → StandsBehind mid new → after ≡ before → PassOutcome now count (Err fault.NoMemory) (view_of new pending more after)
passed_back now old mid new pending room more count before after why same is live owes stood place answers memory takes stands current =
    let none : pending ≡ [] = ap (λ (view : WrittenView). view.pending) same ∙ owes in
    let lives : before ≡ life.Live = ap (λ (view : WrittenView). view.life) same ∙ live in
    let stood_old : StandsToWrite old = subst (λ (view : WrittenView). StandsToWrite view.text) (sym same) stood in
    let starved : AnswersAsBuffer old.buffer Flush (Refused fault.NoMemory) mid.buffer = subst (λ (own : IoFault). AnswersAsBuffer old.buffer Flush (Refused own) mid.buffer) memory answers in
    inl (subst (λ (view : WrittenView). GivesBack view count (view_of new pending more after)) same (back_so old mid new pending room more count before after none stood_old place starved takes stands (current ∙ lives)))

-- where nothing was taken back the text stands as it did
still_place : (old mid new : TextView) (count : ℕ) → StandsToWrite old → KeepsPlace old mid → mid.buffer.place ≡ old.buffer.place → new.buffer ≡ mid.buffer → StandsBehind mid new → KeepsPlace old new
still_place old mid new count stood place there same stands = record {
  front = stands.front ∙ place.front;
  at = omega (arith, stands.at, ap (λ (own : Buffer). own.place) same, there, stood.1);
  taken = stands.clean.taken ∙ sym stood.0.taken;
  dirty = stands.clean.dirty ∙ sym stood.0.dirty;
  settings = stands.settings ∙ place.settings;
}

live_so : (current : Life) → current ≡ life.Live → is_live current ≡ true
live_so current live = ap is_live live

-- the raw has some of what was written, and the text failed
failed_so : (old mid new : TextView) (pending : List ℕ) (room more count : ℕ) (before after : Life) → IsWritten old pending before → pending ≡ [] → old.buffer.life ≡ life.Live → StandsToWrite old → (old.buffer.owed.bytes ≢ [] → OwesBehind (stream_shown old.buffer)) → 0 < count → KeepsPlace old mid → OwesUpTo mid.buffer.owed mid.buffer.place → AnswersAsBuffer old.buffer Flush (Refused fault.NoMemory) mid.buffer → TakesBack mid.buffer count false new.buffer → StandsBehind mid new → after ≡ life.Failed → FailsBehind (view_of old pending room before) count (view_of new pending more after)
failed_so old mid new pending room more count before after is none live stood behind some place ends answers takes stands failed =
    let same : new.buffer ≡ mid.buffer = takes.1 in
    let lives : mid.buffer.life ≡ life.Live = answers.moves.life_is ∙ live in
    let there : mid.buffer.place ≡ old.buffer.place = flush_place (size_shown old.buffer.buffering) (Err fault.NoMemory) old.buffer.life mid.buffer.life old.buffer.place mid.buffer.place live answers.moves.life_is answers.moves.place in
    let kept = still_place old mid new count stood place there same stands in
    let answered : AnswersAsBuffer old.buffer Flush (Refused fault.NoMemory) new.buffer = subst (AnswersAsBuffer old.buffer Flush (Refused fault.NoMemory)) (sym same) answers in
    let short : new.buffer.short ≡ false = answered.shorts in
    let fewer : length mid.buffer.owed.bytes < count = fewer_owed mid.buffer count (live_so mid.buffer.life lives) some (flushed_behind old.buffer mid.buffer behind answers ends) (sym takes.0) in
    record {
      hands = subst (λ (waited : Bool). HandsOn (view_of old pending room before) waited false (view_of new pending more after)) short (hands_flush old new pending room more before after (Refused fault.NoMemory) (joined_with old pending room before is) none is.kept kept answered live (inl (answered.moves.life_is ∙ live)));
      life_is = failed;
      took = record { fewer = omega (arith, fewer, ap (λ (own : Buffer). length own.owed.bytes) same, ap length none, length-append new.buffer.owed.bytes pending) };
      takes = answers.wants refl refl;
    }

pub passed_failed : (now : WrittenView) (old mid new : TextView) (pending : List ℕ) (room more count : ℕ) (before after : Life) (why : IoFault) → view_of old pending room before ≡ now → IsWritten old pending before → now.life ≡ life.Live → now.pending ≡ [] → StandsToWrite now.text → (now.text.buffer.owed.bytes ≢ [] → OwesBehind (stream_shown now.text.buffer)) → 0 < count → KeepsPlace old mid → OwesUpTo mid.buffer.owed mid.buffer.place → AnswersAsBuffer old.buffer Flush (Refused why) mid.buffer → why ≡ fault.NoMemory → TakesBack mid.buffer count false new.buffer → StandsBehind mid new → after ≡ life.Failed → PassOutcome now count (Err why) (view_of new pending more after)
passed_failed now old mid new pending room more count before after why same is live owes stood behind some place ends answers memory takes stands failed =
    let none : pending ≡ [] = ap (λ (view : WrittenView). view.pending) same ∙ owes in
    let lives : before ≡ life.Live = ap (λ (view : WrittenView). view.life) same ∙ live in
    let stood_old : StandsToWrite old = subst (λ (view : WrittenView). StandsToWrite view.text) (sym same) stood in
    let behind_old : old.buffer.owed.bytes ≢ [] → OwesBehind (stream_shown old.buffer) = subst (λ (view : WrittenView). view.text.buffer.owed.bytes ≢ [] → OwesBehind (stream_shown view.text.buffer)) (sym same) behind in
    let starved : AnswersAsBuffer old.buffer Flush (Refused fault.NoMemory) mid.buffer = subst (λ (own : IoFault). AnswersAsBuffer old.buffer Flush (Refused own) mid.buffer) memory answers in
    subst (λ (own : IoFault). PassOutcome now count (Err own) (view_of new pending more after)) (sym memory)
    (inr (subst (λ (view : WrittenView). FailsBehind view count (view_of new pending more after)) same (failed_so old mid new pending room more count before after is none (is.lives lives) stood_old behind_old some place ends starved takes stands failed)))

-- what holds of every text, once its buffer took bytes back, or not
pub written_given : (old mid new : TextView) (pending : List ℕ) (count : ℕ) (before after : Life) (result : Bool) → IsWritten old pending before → pending ≡ [] → StandsToWrite old → KeepsPlace old mid → KeepsBuffer old.buffer mid.buffer → TakesBack mid.buffer count result new.buffer → StandsBehind mid new → old.buffer.can.writable ≡ true → (after ≡ life.Live → mid.buffer.life ≡ life.Live) → IsJoined (read_of new) → IsWritten new pending after
written_given old mid new pending count before after result is none stood place keeps takes stands writes lives joined =
    let same = back_shows mid.buffer new.buffer count result takes in
    record {
      kept = same.exported ∙ (keeps.exported ∙ is.kept);
      asks = subst (λ (settings : TextSettings). 0 < settings.chunk_size) (sym (stands.settings ∙ place.settings)) is.asks;
      clean = λ dirty. (stands.clean.taken, stands.front ∙ (place.front ∙ stood.2));
      handler = λ can. ap (λ (settings : TextSettings). writes_texts settings.handler) (stands.settings ∙ place.settings) ∙ is.handler writes;
      lives = λ live. same.life_is ∙ lives live;
      stands = inl none;
      joined = joined;
      far = omega (arith, joined.far, ap length none);
      unwritten = λ never. let not : true ≡ false = sym writes ∙ (sym (ap (λ (can : Abilities). can.writable) (same.can ∙ keeps.can)) ∙ never) in absurd (cc);
    }

-- what the buffer is once it ran out of memory as it passed on
pub starved_life : (before after : Buffer) (why : IoFault) → AnswersAsBuffer before Flush (Refused why) after → why ≡ fault.NoMemory → after.life ≡ before.life
starved_life before after why answers memory =
    let starved : AnswersAsBuffer before Flush (Refused fault.NoMemory) after = subst (λ (own : IoFault). AnswersAsBuffer before Flush (Refused own) after) memory answers in
    starved.moves.life_is

-- what holds of every text that failed as its buffer passed on
pub written_failed : (old new : TextView) (pending : List ℕ) (before : Life) → IsWritten old pending before → pending ≡ [] → KeepsPlace old new → KeepsBuffer old.buffer new.buffer → old.buffer.can.writable ≡ true → IsJoined (read_of new) → IsWritten new pending life.Failed
written_failed old new pending before is none place keeps writes joined = record {
  kept = keeps.exported ∙ is.kept;
  asks = subst (λ (settings : TextSettings). 0 < settings.chunk_size) (sym place.settings) is.asks;
  clean = λ dirty. let was = is.clean (sym place.dirty ∙ dirty) in (place.taken ∙ was.0, place.front ∙ was.1);
  handler = λ can. ap (λ (settings : TextSettings). writes_texts settings.handler) place.settings ∙ is.handler writes;
  lives = λ lives. absurd (cc);
  stands = inl none;
  joined = joined;
  far = omega (arith, joined.far, ap length none);
  unwritten = λ never. let not : true ≡ false = sym writes ∙ (sym (ap (λ (can : Abilities). can.writable) keeps.can) ∙ never) in absurd (cc);
}

-- a text that lets go of bytes as it couldn't get ready
pub ready_handed : (old mid new : WrittenView) (count : ℕ) (why : IoFault) → why ≡ fault.NoMemory → StandsToWrite old.text → ReadyOutcome old (Err why) mid → new ≡ record mid { pending = take (length mid.pending - count) mid.pending; room = new.room } → HandOutcome old count true (Err fault.NoMemory) new
ready_handed old mid new count why memory stood outcome is = inr (ready_go old mid new count new.room stood (subst (λ (own : IoFault). ReadyOutcome old (Err own) mid) memory outcome) is)

-- what was passed on, by the text as it is known
pub passed_at : (now mid new : WrittenView) (text : TextView) (pending : List ℕ) (room count : ℕ) (current : Life) (result : Result (Unit {0}) IoFault) → view_of text pending room current ≡ now → IsWritten text pending current → now.life ≡ life.Live → IsJoined (over_of mid) → StandsToWrite now.text → OwesBehind (stream_shown now.text.buffer) → 0 < count → count ≤ length now.pending → SettleOutcome now (Ok tt) mid → PassOutcome mid count result new → HandOutcome now count true result new
passed_at now mid new text pending room count current result same written live is stood behind some within settled outcome =
    let was : IsJoined (over_of now) = subst (λ (view : WrittenView). IsJoined (over_of view)) same (joined_with text pending room current written) in
    let lives : current ≡ life.Live = ap (λ (view : WrittenView). view.life) same ∙ live in
    let live_buffer : now.text.buffer.life ≡ life.Live = sym (ap (λ (view : WrittenView). view.text.buffer.life) same) ∙ written.lives lives in
    let kept : now.text.buffer.exported ≡ false = sym (ap (λ (view : WrittenView). view.text.buffer.exported) same) ∙ written.kept in
    passed_behind now mid new count result was is stood (settled.3.moves.life_is ∙ live_buffer) (settled.3.keeps.exported ∙ kept) behind some within settled outcome

-- what the buffer answered as it was to take back bytes
pub back_true : (before after : Buffer) (count : ℕ) (result : Bool) → result ≡ true → TakesBack before count result after → TakesBack before count true after
back_true before after count result is takes = subst (λ (own : Bool). TakesBack before count own after) is takes

pub back_false : (before after : Buffer) (count : ℕ) (result : Bool) → result ≡ false → TakesBack before count result after → TakesBack before count false after
back_false before after count result is takes = subst (λ (own : Bool). TakesBack before count own after) is takes
