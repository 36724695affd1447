-- Reading on: a part, then the next bytes after it, is a longer part.
use Rattle.std.proofs.Common.{◌≡◌, ◌≢◌, ℕ, ◌+◌, ◌-◌, ◌<◌, ◌≤◌, List, [], ◌∷◌, ◌++◌, length, take, drop, suc, zero, refl, sym, ap, ◌∙◌, arith, append_assoc, length-append, inl, inr}
use Rattle.std.specs.Prelude.{IsTrue, Bool, true, false, nat_lt, Option, Ok}
use Rattle.std.specs.Bool.{then_some}
use Rattle.std.proofs.lemmas.List.{nil_from_length, append-nil, length-take-le, take-take, take_at, drop_at, drop-drop, take-append-le}
use Rattle.std.proofs.Math.Seq.{take-add}
use Rattle.py_flat.specs.Bytes.{left_at}
use Rattle.py_flat.specs.Causes.{counted}
use Rattle.py_raw.specs.declared.reads.Reads.{Reads}
use Rattle.py_raw.specs.Reads.{after_read, BringInAll}
use Rattle.py_raw.specs.RawStream.{Raw, Keeps, KeepsBytes, WherePlace, NoFault, NoWait, WaitsOnce, LeavesCounts, AnswersFor, AsksToWait, ReadBytes}
use Rattle.py_raw.proofs.Telling.{tells_its_bytes, tells_its_place, tells_still}
use Rattle.py_raw.specs.ReadAll.{ReadOn, ReadSoFar, CameBy, ReadsAll, ReadAllOutcome}

-- the bytes that were held, then what a transfer put in front of the room after them
held_and_read : (held buffer behind more : List ℕ) (count whole : ℕ) → count ≤ length buffer → length held + count ≤ whole → take (length held + count) (take whole ((held ++ (buffer ++ behind)) ++ more)) ≡ held ++ take count buffer
held_and_read held buffer behind more count whole within enough =
    rw (take-take (length held + count) whole ((held ++ (buffer ++ behind)) ++ more) enough, append_assoc held (buffer ++ behind) more, append_assoc buffer behind more, take-add (length held) count (held ++ (buffer ++ (behind ++ more))), take_at held (buffer ++ (behind ++ more)) (length held) refl, drop_at held (buffer ++ (behind ++ more)) (length held) refl, take-append-le count buffer (behind ++ more) within) refl

-- a vector that is cut after what a transfer brought has what it held, then these bytes
pub cut_behind : (held front buffer behind more cut : List ℕ) (size count whole : ℕ) → front ≡ held → size ≡ length held → count ≤ length buffer → size + count ≤ whole → cut ≡ take (size + count) (take whole ((front ++ (buffer ++ behind)) ++ more)) → cut ≡ held ++ take count buffer
cut_behind held front buffer behind more cut size count whole same long within enough is =
    let here : take (length held + count) (take whole ((held ++ (buffer ++ behind)) ++ more)) ≡ held ++ take count buffer = held_and_read held buffer behind more count whole within (omega arith) in
    is ∙ rw (same, long) here

-- a vector that is cut before the room of a transfer has just what it held
pub cut_back : (held front buffer behind more cut : List ℕ) (size whole : ℕ) → front ≡ held → size ≡ length held → size ≤ whole → cut ≡ take size (take whole ((front ++ (buffer ++ behind)) ++ more)) → cut ≡ held
cut_back held front buffer behind more cut size whole same long enough is =
    is
    ∙ (take-take size whole ((front ++ (buffer ++ behind)) ++ more) enough
    ∙ (ap (take size) (append_assoc front (buffer ++ behind) more) ∙ (take_at front _ size (ap length same ∙ sym long) ∙ same)))

-- what two calls keep, one after the other
pub Keeps-then : (old mid new : Raw) → Keeps old mid → Keeps mid new → Keeps old new
Keeps-then old mid new first second = record {
  tells_bytes = second.tells_bytes ∙ first.tells_bytes;
  tells_place = second.tells_place ∙ first.tells_place;
  tells_transfers = second.tells_transfers ∙ first.tells_transfers;
  readable = second.readable ∙ first.readable;
  writable = second.writable ∙ first.writable;
  seekable = second.seekable ∙ first.seekable;
  takes_memory = second.takes_memory ∙ first.takes_memory;
  counts_exactly = second.counts_exactly ∙ first.counts_exactly;
  faults = omega (arith, first.faults, second.faults);
  waits = omega (arith, first.waits, second.waits);
}

-- faults, waits and written bytes that neither of two calls counts aren't counted by the one after the other
pub no_fault_then : (old mid new : Raw) → Keeps old mid → NoFault old mid → NoFault mid new → NoFault old new
no_fault_then old mid new keeps first second exact = second (keeps.counts_exactly ∙ exact) ∙ first exact

pub no_wait_then : (old mid new : Raw) → Keeps old mid → NoWait old mid → NoWait mid new → NoWait old new
no_wait_then old mid new keeps first second exact = second (keeps.counts_exactly ∙ exact) ∙ first exact

waits_then : (old mid new : Raw) → Keeps old mid → NoWait old mid → WaitsOnce mid new → WaitsOnce old new
waits_then old mid new keeps first second exact = second (keeps.counts_exactly ∙ exact) ∙ ap (λ waits. counted waits 1) (first exact)

unwritten_then : (old mid new : Raw) → Keeps old mid → AnswersFor 0 old mid → AnswersFor 0 mid new → AnswersFor 0 old new
unwritten_then old mid new keeps first second tells = second (keeps.tells_transfers ∙ tells) ∙ first tells

-- one read more that brought some bytes
brings_some : (old mid : Reads) (total count : ℕ) → BringInAll total 0 old mid → 1 ≤ count → BringInAll (total + count) 0 old (after_read mid count)
brings_some old mid total zero is some = elim some [ ]
brings_some old mid total (suc count) is some = record { brought = omega (arith, is.brought); empty = is.empty }

-- one read more that brought none
brings_none : (old mid : Reads) (total : ℕ) → BringInAll total 0 old mid → BringInAll total 1 old (after_read mid 0)
brings_none old mid total is = record { brought = omega (arith, is.brought); empty = omega (arith, is.empty) }

-- no read more is as many bytes, and no more that brought none than one
brings_as_many : (old mid : Reads) (total : ℕ) → BringInAll total 0 old mid → BringInAll total 1 old mid
brings_as_many old mid total is = record { brought = is.brought; empty = omega (arith, is.empty) }

pub uncounted_then : (old mid new : Raw) → Keeps old mid → LeavesCounts old mid → LeavesCounts mid new → LeavesCounts old new
uncounted_then old mid new keeps first second = record {
  no_fault = no_fault_then old mid new keeps first.no_fault second.no_fault;
  no_wait = no_wait_then old mid new keeps first.no_wait second.no_wait;
}

-- two parts that follow each other are one part of the bytes
next_part : (bytes part more : List ℕ) (place : ℕ) → take (length part) (left_at bytes place) ≡ part → take (length more) (left_at bytes (place + length part)) ≡ more → take (length (part ++ more)) (left_at bytes place) ≡ part ++ more
next_part bytes part more place first second =
    rw (length-append part more, take-add (length part) (length more) (drop place bytes), first, drop-drop (length part) place bytes, second) refl

-- a transfer that moved bytes lengthens the part that was read by them
read_on : (old mid new : Raw) (part before after : List ℕ) (count : ℕ) → Keeps old mid → ReadOn old part mid → ReadBytes mid before count after new → count ≤ length after → ReadOn old (part ++ take count after) new
read_on old mid new part before after count keeps was is within =
    let size : length (take count after) ≡ count = length-take-le count after within in
    record {
      given = λ tells.
          let next : take (length (take count after)) (left_at old.bytes (old.place + length part)) ≡ take count after = rw (size, ← was.place (tells_its_place old tells), ← was.bytes (tells_its_bytes old tells)) (sym (is.told (tells_still old mid keeps ∙ tells)).given) in
          next_part old.bytes part (take count after) old.place (was.given tells) next;
      bytes = λ tells. is.bytes (keeps.tells_bytes ∙ tells) ∙ was.bytes tells;
      place = λ tells. let whole = length-append part (take count after) in omega (arith, is.place (keeps.tells_place ∙ tells), was.place tells);
    }

-- a call that moves nothing leaves the part that was read as it was
stands_on : (old mid new : Raw) (part : List ℕ) → Keeps old mid → ReadOn old part mid → KeepsBytes mid new → WherePlace mid (new.place ≡ mid.place) → ReadOn old part new
stands_on old mid new part keeps was bytes place = record {
  given = was.given;
  bytes = λ tells. bytes (keeps.tells_bytes ∙ tells) ∙ was.bytes tells;
  place = λ tells. place (keeps.tells_place ∙ tells) ∙ was.place tells;
}

-- where transfers were counted before, one more is counted within a greater bound
pub CameBy-more : (most more old mid new : ℕ) → CameBy most old mid → new ≡ counted mid 1 → most + 1 ≤ more → CameBy more old new
CameBy-more most more old mid new was is within = record {
  calls = was.calls + 1;
  some = omega arith;
  within = omega (arith, was.within);
  count = omega (arith, was.count);
}

-- where no transfer was counted before, the first is counted within any bound of at least one
pub CameBy-one : (more old mid new : ℕ) → mid ≡ old → new ≡ counted mid 1 → 1 ≤ more → CameBy more old new
CameBy-one more old mid new same is within = record { calls = 1; some = omega arith; within = within; count = omega arith }

-- after a part of no bytes or of some, one transfer more is counted within any bound above the length of the part
came_by_part : (part : List ℕ) (more old mid new : ℕ) → (part ≡ [] → mid ≡ old) → (part ≢ [] → CameBy (length part) old mid) → new ≡ counted mid 1 → length part + 1 ≤ more → CameBy more old new
came_by_part [] more old mid new none some is within = CameBy-one more old mid new (none refl) is (omega arith)
came_by_part (byte ∷ part) more old mid new none some is within = CameBy-more (length (byte ∷ part)) more old mid new (some (λ (e : byte ∷ part ≡ []). cc)) is within

-- the transfers of what was read so far, and one more
pub came_by_more : (old mid new : Raw) (start held : List ℕ) (most : ℕ) → IsTrue old.tells_transfers → (was : ReadSoFar old start held mid) → new.transfers ≡ counted mid.transfers 1 → length was.part + 1 ≤ most → CameBy most old.transfers new.transfers
came_by_more old mid new start held most tells was is within =
    came_by_part was.part most old.transfers mid.transfers new.transfers (λ none. ap (λ (raw : Raw). raw.transfers) (was.untouched none)) (was.transfers tells) is within

-- once a transfer brings some bytes more, what was read so far is what was appended before, then these bytes
pub so_far_more : (old mid new : Raw) (start held before after : List ℕ) (count : ℕ) → Keeps old mid → ReadSoFar old start held mid → ReadBytes mid before count after new → 1 ≤ count → count ≤ length after → ReadSoFar old start (held ++ take count after) new
so_far_more old mid new start held before after count keeps was is some within =
    let size : length (take count after) ≡ count = length-take-le count after within in
    record {
      part = was.part ++ take count after;
      appended = ap (λ front. front ++ take count after) was.appended ∙ append_assoc start was.part (take count after);
      untouched = λ none. absurd (let whole = length-append was.part (take count after) in let none_is = ap length none in omega arith);
      counts = uncounted_then old mid new keeps was.counts is.counts;
      written = unwritten_then old mid new keeps was.written is.written;
      reads = λ tells. rw (length-append was.part (take count after), size, is.reads (keeps.tells_transfers ∙ tells)) (brings_some old.reads mid.reads (length was.part) count (was.reads tells) some);
      on = read_on old mid new was.part before after count keeps was.on is within;
      transfers = λ tells _. let whole = length-append was.part (take count after) in came_by_more old mid new start held (length (was.part ++ take count after)) tells was (is.transfers (keeps.tells_transfers ∙ tells)) (omega arith);
    }

-- a reading of all is done once a transfer finds the end
pub reads_to_end : (old mid new : Raw) (start held before after : List ℕ) (none count : ℕ) → Keeps old mid → ReadSoFar old start held mid → ReadBytes mid before none after new → none ≡ 0 → 1 ≤ length before → count ≡ length held - length start → ReadsAll old start count held new
reads_to_end old mid new start held before after none count keeps was is is_none room counts =
    let long : length held ≡ length start + length was.part = ap length was.appended ∙ length-append start was.part in
    record {
      part = was.part;
      appended = was.appended;
      counts = omega arith;
      no_fault = no_fault_then old mid new keeps was.counts.no_fault is.counts.no_fault;
      written = unwritten_then old mid new keeps was.written is.written;
      reads = λ tells. rw (is.reads (keeps.tells_transfers ∙ tells), is_none) (brings_none old.reads mid.reads (length was.part) (was.reads tells));
      on = stands_on old mid new was.part keeps was.on is.bytes (λ tells. omega (arith, is.place tells));
      stops = inl (
        no_wait_then old mid new keeps was.counts.no_wait is.counts.no_wait,
        λ tells.
            let told = tells_still old mid keeps ∙ tells in
            let end = (is.told told).end is_none (λ bare. let empty = ap length bare in omega arith) in
            let size = ap length (was.on.bytes (tells_its_bytes old tells)) in
            omega (arith, is.place (tells_its_place mid told)),
      );
      transfers = λ tells. came_by_more old mid new start held (count + 1) tells was (is.transfers (keeps.tells_transfers ∙ tells)) (omega arith);
    }

-- the stream would have blocked after some bytes
pub reads_to_wait : (old mid new : Raw) (start held : List ℕ) (count : ℕ) → Keeps old mid → ReadSoFar old start held mid → AsksToWait mid new → length start < length held → count ≡ length held - length start → ReadsAll old start count held new
reads_to_wait old mid new start held count keeps was is some counts =
    let long : length held ≡ length start + length was.part = ap length was.appended ∙ length-append start was.part in
    record {
      part = was.part;
      appended = was.appended;
      counts = omega arith;
      no_fault = no_fault_then old mid new keeps was.counts.no_fault is.no_fault;
      written = unwritten_then old mid new keeps was.written is.written;
      reads = λ tells. rw (is.reads (keeps.tells_transfers ∙ tells)) (brings_as_many old.reads mid.reads (length was.part) (was.reads tells));
      on = stands_on old mid new was.part keeps was.on is.still.bytes is.still.place;
      stops = inr (omega arith, omega (arith, is.cause, keeps.waits), waits_then old mid new keeps was.counts.no_wait is.once);
      transfers = λ tells. came_by_more old mid new start held (count + 1) tells was (is.still.transfers (keeps.tells_transfers ∙ tells)) (omega arith);
    }

-- where the stream would have blocked before any byte, a reading of all appended nothing
pub waits_at_first : (old mid new : Raw) (start held : List ℕ) → ReadSoFar old start held mid → AsksToWait mid new → length held ≤ length start → AsksToWait old new × (held ≡ start)
waits_at_first old mid new start held was is none =
    let long : length held ≡ length start + length was.part = ap length was.appended ∙ length-append start was.part in
    let empty : was.part ≡ [] = nil_from_length was.part (omega arith) in
    (rw (sym (was.untouched empty)) is, was.appended ∙ (ap (λ part. start ++ part) empty ∙ append-nil start))

-- what a reading of all comes to where the stream would have blocked, before any byte or after some
by_test : (later : Bool) (old mid new : Raw) (start held : List ℕ) (answer : Option ℕ) (count : ℕ) → nat_lt (length start) (length held) ≡ later → answer ≡ then_some later count → count ≡ length held - length start → Keeps old mid → ReadSoFar old start held mid → AsksToWait mid new → ReadAllOutcome old start (Ok answer) held new
by_test true old mid new start held answer count some answers counts keeps was is = rw answers (reads_to_wait old mid new start held count keeps was is (grind (arith, some)) counts)
by_test false old mid new start held answer count none answers counts keeps was is = rw answers (waits_at_first old mid new start held was is (grind (arith, none)))

pub waits_or_stops : (old mid new : Raw) (start held : List ℕ) (answer : Option ℕ) (began stands : ℕ) → began ≡ length start → stands ≡ length held → answer ≡ then_some (nat_lt began stands) (stands - began) → Keeps old mid → ReadSoFar old start held mid → AsksToWait mid new → ReadAllOutcome old start (Ok answer) held new
waits_or_stops old mid new start held answer began stands first last answers keeps was is =
    by_test (nat_lt (length start) (length held)) old mid new start held answer (stands - began) refl (answers ∙ (rw (first, last) refl)) (rw (first, last) refl) keeps was is
