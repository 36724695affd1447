-- A buffer that is moved to a place, and read there.
use Rattle.std.proofs.Common.{◌≡◌, ℕ, ◌+◌, ◌-◌, ◌≤◌, ◌<◌, ◌⊎◌, inl, inr, ℤ, pos, to_z, w64, Bool, true, false, List, [], ◌++◌, length, take, drop, if◌then◌else◌, Option, Some, Result, Ok, Err, Vec, refl, sym, ap, ◌∙◌, subst, arith, append-nil}
use Rattle.std.proofs.lemmas.Int.{to_z_pos}
use Rattle.std.proofs.lemmas.Bool.{cases_lt}
use Rattle.std.proofs.lemmas.List.{append_assoc, length-append, take_all, drop-drop}
use Rattle.std.proofs.Math.Seq.{drop-append_seam, take-append_seam}
use Rattle.std.specs.declared.alloc.Global.{Global}
use Rattle.py_flat.specs.declared.fault.IoFault.{IoFault}
use Rattle.py_flat.specs.declared.fault.IoFault.TheVariants as fault
use Rattle.py_flat.specs.declared.life.Life.TheVariants as life
use Rattle.py_flat.specs.Limits.{greatest_place}
use Rattle.py_flat.specs.FlatFile.{Abilities}
use Rattle.py_flat.specs.Bytes.{left_at}
use Rattle.py_flat.specs.Calls.{FileReply, Done, Place, Refused, Read1, Seek, Flush}
use Rattle.py_flat.specs.Refusals.{is_unbuffered}
use Rattle.py_raw.proofs.Telling.{tells_still}
use Rattle.py_stream.specs.Kinds.{says_fault}
use Rattle.py_stream.specs.Replies.{bytes_reply, done_reply, place_reply}
use Rattle.py_stream.specs.Buffer.{Buffer, flat_of, size_shown, KeepsBuffer, AnswersAsBuffer}
use Rattle.py_read_text.specs.Reading.{Calls, Gave, GaveNothing, Waited, ReadOutcome}
use Rattle.py_read_text.specs.Writing.{unit_of}
use Rattle.py_read_text.specs.Seeking.{CanGo, GoOutcome, CanFeed, Feeds, FeedOutcome}
use Rattle.py_read_text.proofs.Fetching.{IsRead, calls_so, calls_on, reads_live}
use Rattle.py_read_text.proofs.Placing.{flush_flat, flush_place, seek_place, seek_calls, accepts_seek, never_waits}
use Rattle.py_read_text.proofs.Calling.{accepts_flush}
use Rattle.py_read_text.proofs.Gathering.{calls_itself}
use Rattle.py_read_text.proofs.Chunks.{gave_none}

-- Passing on what is owed.

flush_calls : (before after : Buffer) (reply : FileReply) (waited : Bool) → before.exported ≡ false → after.short ≡ waited → after.life ≡ (if says_fault reply then life.Failed else before.life) → after.place ≡ before.place → AnswersAsBuffer before Flush reply after → Calls before waited (says_fault reply) after
flush_calls before after reply waited kept short current place answers = calls_so before after Flush reply waited (says_fault reply) answers refl refl answers.owes answers.lays (record { first = inl place; short = short; fails = refl; life_is = current; bytes = λ told. flush_flat (flat_of before) (flat_of after) reply after.short (says_fault reply) (answers.told (rw kept refl) told) })

place_kept : (before after : Buffer) (result : Result (Unit {0}) IoFault) → before.life ≡ life.Live → AnswersAsBuffer before Flush (done_reply result) after → after.place ≡ before.place
place_kept before after result live answers = flush_place (size_shown before.buffering) result before.life after.life before.place after.place live answers.moves.life_is answers.moves.place

pub still_goes : (before after : Buffer) → CanGo before → KeepsBuffer before after → after.life ≡ before.life → CanGo after
still_goes before after can keeps current = record {
  live = current ∙ can.live;
  seeks = ap (λ (abilities : Abilities). abilities.seekable) keeps.can ∙ can.seeks;
  appends = ap (λ (abilities : Abilities). abilities.appending) keeps.can ∙ can.appends;
  kept = keeps.exported ∙ can.kept;
}

pub go_unflushed : (before after : Buffer) (place : ℕ) (why : IoFault) → CanGo before → AnswersAsBuffer before Flush (Refused why) after → GoOutcome before place (Err why) after
go_unflushed before after place (fault.WouldBlock taken) can answers = (flush_calls before after (Refused (fault.WouldBlock taken)) true can.kept answers.shorts answers.moves.life_is (place_kept before after (Err (fault.WouldBlock taken)) can.live answers) answers, place_kept before after (Err (fault.WouldBlock taken)) can.live answers, answers.full.0, λ none. never_waits after.short answers.shorts (answers.unwaited refl refl none))
go_unflushed before after place fault.RawFault can answers = (flush_calls before after (Refused fault.RawFault) false can.kept answers.shorts answers.moves.life_is (place_kept before after (Err fault.RawFault) can.live answers) answers, place_kept before after (Err fault.RawFault) can.live answers)
go_unflushed before after place fault.NoMemory can answers = (flush_calls before after (Refused fault.NoMemory) false can.kept answers.shorts answers.moves.life_is (place_kept before after (Err fault.NoMemory) can.live answers) answers, place_kept before after (Err fault.NoMemory) can.live answers, answers.wants refl refl)
go_unflushed before after place other can answers = absurd (answers.answer (accepts_flush before can.live can.kept))

-- Moving on.

-- a place as the offset of a seek
offset_at : (before after : Buffer) (place : ℕ) (reply : FileReply) → place ≤ greatest_place → AnswersAsBuffer before (Seek (to_z w64 place) (pos 0)) reply after → AnswersAsBuffer before (Seek (pos place) (pos 0)) reply after
offset_at before after place reply near answers = subst (λ (offset : ℤ). AnswersAsBuffer before (Seek offset (pos 0)) reply after) (to_z_pos w64 place (omega (arith, near))) answers

-- a buffer that owes nothing is moved
sought : (mid after : Buffer) (place : ℕ) (result : Result ℕ IoFault) → CanGo mid → mid.owed.bytes ≡ [] → place ≤ greatest_place → AnswersAsBuffer mid (Seek (pos place) (pos 0)) (place_reply result) after → GoOutcome mid place (unit_of result) after
sought mid after place (Ok there) can none near answers =
    let goes : Some (0 + place) ≡ Some there = answers.moves.place.1 in
    let is : 0 + place ≡ there = cc in
    let calls = seek_calls mid after place (Place there) can.kept none answers.moves.life_is answers.shorts answers in
    (calls, omega (arith, is, answers.moves.place.0), calls.none none)
sought mid after place (Err fault.RawFault) can none near answers = (seek_calls mid after place (Refused fault.RawFault) can.kept none answers.moves.life_is answers.shorts answers, answers.moves.place)
sought mid after place (Err fault.NoMemory) can none near answers = (seek_calls mid after place (Refused fault.NoMemory) can.kept none answers.moves.life_is answers.shorts answers, seek_place (size_shown mid.buffering) place fault.NoMemory mid.life after.life mid.place after.place can.live answers.moves.life_is answers.moves.place, answers.wants refl refl)
sought mid after place (Err (fault.WouldBlock taken)) can none near answers = absurd (never_waits after.short answers.shorts (answers.unwaited refl refl none))
sought mid after place (Err other) can none near answers = absurd (answers.answer (accepts_seek mid place can.live can.seeks can.appends can.kept near).0)

-- behind what was passed on
gone_behind : (before mid after : Buffer) (place : ℕ) (result : Result (Unit {0}) IoFault) → Calls before false false mid → mid.place ≡ before.place → mid.owed.bytes ≡ [] → GoOutcome mid place result after → GoOutcome before place result after
gone_behind before mid after place (Ok done) first stood none gone = (calls_on before mid after false false first gone.0, gone.1, gone.2)
gone_behind before mid after place (Err fault.RawFault) first stood none gone = (calls_on before mid after false true first gone.0, gone.1 ∙ stood)
gone_behind before mid after place (Err fault.NoMemory) first stood none gone = (calls_on before mid after false false first gone.0, gone.1 ∙ stood, sym first.keeps.raw.takes_memory ∙ gone.2)
gone_behind before mid after place (Err (fault.WouldBlock taken)) first stood none gone = absurd (gone.3 none)
gone_behind before mid after place (Err other) first stood none gone = gone

pub gone : (before mid after : Buffer) (place : ℕ) (result : Result ℕ IoFault) → CanGo before → place ≤ greatest_place → AnswersAsBuffer before Flush Done mid → AnswersAsBuffer mid (Seek (to_z w64 place) (pos 0)) (place_reply result) after → GoOutcome before place (unit_of result) after
gone before mid after place result can near flushed answers =
    let stood = place_kept before mid (Ok tt) can.live flushed in
    let calls = flush_calls before mid Done false can.kept flushed.shorts flushed.moves.life_is stood flushed in
    let none = flushed.passes.0.none in
    gone_behind before mid after place (unit_of result) calls stood none
    (sought mid after place result (still_goes before mid can flushed.keeps flushed.moves.life_is) none near (offset_at mid after place (place_reply result) near answers))

-- Reading what a cookie feeds.

pub feeds_none : (before : Buffer) (size : ℕ) (fed : List ℕ) → CanFeed before → fed ≡ [] → Feeds before size fed false false before
feeds_none before size fed can none = record {
  calls = calls_itself before can.far;
  few = omega (arith, ap length none);
  place = omega (arith, ap length none);
  reads = inl none;
  told = λ told. (left_at (flat_of before).bytes before.place, ap (λ (front : List ℕ). front ++ left_at (flat_of before).bytes before.place) none);
}

-- what is left where some bytes of a front were read
left_behind : (before mid : Buffer) (fed more : List ℕ) → fed ++ more ≡ left_at (flat_of before).bytes before.place → (flat_of mid).bytes ≡ (flat_of before).bytes → mid.place ≡ before.place + length fed → left_at (flat_of mid).bytes mid.place ≡ more
left_behind before mid fed more is flat place =
    ap (λ (bytes : List ℕ). left_at bytes mid.place) flat
    ∙ (ap (left_at (flat_of before).bytes) place
    ∙ (sym (drop-drop (length fed) before.place (flat_of before).bytes)
    ∙ (ap (drop (length fed)) (sym is) ∙ drop-append_seam fed more)))

still_read : (before mid : Buffer) → CanFeed before → before.can.readable ≡ true → Calls before false false mid → IsRead mid
still_read before mid can readable calls = record {
  live = calls.life_is ∙ can.live;
  reads = ap (λ (abilities : Abilities). abilities.readable) calls.keeps.can ∙ readable;
  buffered = ap is_unbuffered calls.keeps.buffering ∙ can.buffered;
  kept = calls.keeps.exported ∙ can.kept;
}

-- what the next reading came to
pub feeds_outcome : (before mid after : Buffer) (size asked count : ℕ) (fed : List ℕ) (result : Result (Option (Vec ℕ Global)) IoFault) → CanFeed before → before.can.readable ≡ true → Feeds before size fed false false mid → count ≡ length fed → asked ≡ size - count → count < size → AnswersAsBuffer mid (Read1 (Some asked)) (bytes_reply result) after → ReadOutcome mid (size - length fed) result after
feeds_outcome before mid after size asked count fed result can readable feeds counted is less answers =
    subst (λ (own : ℕ). ReadOutcome mid own result after) (is ∙ ap (λ (own : ℕ). size - own) counted)
    (reads_live mid after asked result (still_read before mid can readable feeds.calls) (omega (arith, is, less)) answers)

-- more bytes came
pub feeds_more : (before mid after : Buffer) (size : ℕ) (fed part all : List ℕ) → before.can.readable ≡ true → Feeds before size fed false false mid → Gave mid (size - length fed) part after → all ≡ fed ++ part → Feeds before size all false false after
feeds_more before mid after size fed part all readable feeds gave is = subst (λ (own : List ℕ). Feeds before size own false false after) (sym is) (record {
  calls = calls_on before mid after false false feeds.calls gave.reads;
  few = omega (arith, length-append fed part, gave.fits, feeds.few);
  place = omega (arith, length-append fed part, gave.place, feeds.place);
  reads = inr readable;
  told = λ told.
      let front = feeds.told told in
      let there = left_behind before mid fed front.0 front.1 (feeds.calls.bytes told) feeds.place in
      let given = (gave.told (tells_still before.raw mid.raw feeds.calls.keeps.raw ∙ told)).front in
      (given.0, append_assoc fed part given.0 ∙ (ap (λ (more : List ℕ). fed ++ more) (given.1 ∙ there) ∙ front.1));
})

-- nothing more came
feeds_still : (before mid after : Buffer) (size : ℕ) (fed : List ℕ) (waited faulted : Bool) → Feeds before size fed false false mid → GaveNothing mid waited faulted after → Feeds before size fed waited faulted after
feeds_still before mid after size fed waited faulted feeds nothing = record {
  calls = calls_on before mid after waited faulted feeds.calls nothing.reads;
  few = feeds.few;
  place = nothing.place ∙ feeds.place;
  reads = feeds.reads;
  told = feeds.told;
}

-- the end came
pub feeds_end : (before mid after : Buffer) (size : ℕ) (fed part : List ℕ) → Feeds before size fed false false mid → Gave mid (size - length fed) part after → part ≡ [] → FeedOutcome before size (Ok true) fed after
feeds_end before mid after size fed part feeds gave none = (
  feeds_still before mid after size fed false false feeds (gave_none mid after (size - length fed) part gave none),
  λ told.
      let front = feeds.told told in
      let there = left_behind before mid fed front.0 front.1 (feeds.calls.bytes told) feeds.place in
      let ends : front.0 ≡ [] = sym there ∙ (gave.told (tells_still before.raw mid.raw feeds.calls.keeps.raw ∙ told)).end none in
      sym (take_all size fed feeds.few) ∙ ap (take size) (sym (append-nil fed) ∙ (ap (λ (more : List ℕ). fed ++ more) (sym ends) ∙ front.1)),
)

-- all came
pub feeds_all : (before after : Buffer) (size : ℕ) (fed : List ℕ) → Feeds before size fed false false after → (length fed < size → ⊥) → FeedOutcome before size (Ok true) fed after
feeds_all before after size fed feeds full = (
  feeds,
  λ told.
      let front = feeds.told told in
      let all : size ≡ length fed = by_size (cases_lt (length fed) size) in
      sym (take-append_seam fed front.0) ∙ (ap (take (length fed)) front.1 ∙ ap (λ (count : ℕ). take count (left_at (flat_of before).bytes before.place)) (sym all)),
)
  where
    by_size : (length fed < size) ⊎ (size ≤ length fed) → size ≡ length fed
    by_size (inl less) = absurd (full less)
    by_size (inr most) = omega (arith, most, feeds.few)

pub feeds_waits : (before mid after : Buffer) (size : ℕ) (fed : List ℕ) → Feeds before size fed false false mid → Waited mid after → FeedOutcome before size (Ok false) fed after
feeds_waits before mid after size fed feeds waited = feeds_still before mid after size fed true false feeds waited.nothing

pub feeds_fails : (before mid after : Buffer) (size left : ℕ) (fed : List ℕ) (why : IoFault) → Feeds before size fed false false mid → ReadOutcome mid left (Err why) after → FeedOutcome before size (Err why) fed after
feeds_fails before mid after size left fed fault.RawFault feeds nothing = feeds_still before mid after size fed false true feeds nothing
feeds_fails before mid after size left fed fault.NoMemory feeds nothing = feeds_still before mid after size fed false false feeds nothing
feeds_fails before mid after size left fed other feeds nothing = absurd nothing
