-- What the clause of buffered streams says of the bytes under a text.
use Rattle.std.proofs.Common.{◌≡◌, ◌≢◌, ℕ, zero, suc, ◌+◌, ◌<◌, ◌≤◌, ◌⊎◌, inl, inr, IsSome, Bool, true, false, ◌&&◌, IsTrue, List, [], ◌∷◌, ◌++◌, length, take, drop, Option, Some, None, if◌then◌else◌, Result, Ok, Err, Vec, sym, ap, ◌∙◌, subst, refl, arith, ◌-◌, append-nil}
use Rattle.std.proofs.lemmas.List.{append_assoc, take-append-drop, take_all, length-drop}
use Rattle.std.specs.declared.alloc.Global.{Global}
use Rattle.py_flat.specs.declared.fault.IoFault.{IoFault}
use Rattle.py_flat.specs.declared.fault.IoFault.TheVariants as fault
use Rattle.py_flat.specs.declared.life.Life.{Life}
use Rattle.py_flat.specs.declared.life.Life.TheVariants as life
use Rattle.py_flat.specs.Bytes.{left_at, lay}
use Rattle.py_flat.specs.Calls.{FileCall, FileReply, Bytes, NotReady, Refused, Read1}
use Rattle.py_flat.specs.FlatFile.{FlatFile, Abilities, Buffering, Unbuffered, Buffered, InMemory}
use Rattle.py_flat.specs.Owed.{Owed}
use Rattle.py_flat.specs.Refusals.{refusal, is_close, is_unbuffered}
use Rattle.py_flat.specs.AllowedStep.{settled, waited_for, raw_faulted, out_of_memory}
use Rattle.py_flat.specs.BinaryStep.{Transfers, BinaryStep, CarriedOut, SettledBy, if_over_raw, IsFrontOf}
use Rattle.py_flat.specs.ExactStep.{gives, one_transfer}
use Rattle.py_stream.specs.Replies.{bytes_reply}
use Rattle.py_flat.specs.Causes.{counted}
use Rattle.py_stream.specs.Kinds.{says_fault, says_given, asks_nothing, outlasts}
use Rattle.py_stream.specs.Writing.{OwesUpTo, PassesFront}
use Rattle.py_stream.specs.Answers.{PlaceStarves}
use Rattle.py_stream.specs.Buffer.{Buffer, WhereShown, flat_of, size_shown, stream_shown, refused_here, BufferIsCounted, BufferLays, GivesAsked, AnswersAsBuffer}
use Rattle.py_read_text.specs.Ahead.{ReadsOn}
use Rattle.py_read_text.specs.Reading.{Calls, ReadOutcome}
use Rattle.py_read_text.proofs.Owing.{front_passes, passes_then}
use Rattle.py_raw.proofs.Telling.{tells_still}
use Rattle.py_read_text.specs.Owing.{LaysFront}
use Rattle.py_read_text.proofs.Fronts.{laid_none, lays_alone, lays_at_end, lays_behind, owed_within}

-- a live buffer that reads refuses no `read1`
pub accepts_read : (buffer : Buffer) (size : Option ℕ) → buffer.life ≡ life.Live → buffer.can.readable ≡ true → is_unbuffered buffer.buffering ≡ false → buffer.exported ≡ false → (refused_here buffer (Read1 size) ≡ None) × (refusal (flat_of buffer) (Read1 size) ≡ None)
accepts_read buffer size live reads buffered kept = (rw kept (rw live (rw reads (rw buffered refl))), rw live (rw reads (rw buffered refl)))

-- where a front that isn't asked to be empty is empty, there is nothing
nothing_taken : (n : ℕ) (xs : List ℕ) → 0 < n → take n xs ≡ [] → xs ≡ []
nothing_taken n [] some none = refl
nothing_taken zero (x ∷ xs) some none = absurd (omega arith)
nothing_taken (suc n) (x ∷ xs) some none = absurd (cc)

-- what was given of a flat file, and what it leaves
record GaveFlat (file : FlatFile) (part : List ℕ) (after : FlatFile) : Type 0 where
  front : IsFrontOf part (left_at file.bytes file.place)
  end : part ≡ [] → left_at file.bytes file.place ≡ []
  bytes : after.bytes ≡ file.bytes

gave_exact : (file : FlatFile) (size : ℕ) (part : List ℕ) (after : FlatFile) → 0 < size → ◌≡◌ {A = FileReply × FlatFile} (Bytes part, after) (gives file (take size (left_at file.bytes file.place))) → GaveFlat file part after
gave_exact file size part after some exact =
    let rest : List ℕ = left_at file.bytes file.place in
    let same : part ≡ take size rest = let replies : Bytes part ≡ Bytes (take size rest) = ap (λ (outcome : FileReply × FlatFile). outcome.0) exact in cc in
    record {
      front = (drop size rest, ap (λ (xs : List ℕ). xs ++ drop size rest) same ∙ take-append-drop size rest);
      end = λ none. nothing_taken size rest some (sym same ∙ none);
      bytes = ap (λ (outcome : FileReply × FlatFile). outcome.1.bytes) exact;
    }

gave_part : (file : FlatFile) (size : ℕ) (part : List ℕ) (after : FlatFile) → 0 < size → Transfers file (Read1 (Some size)) (take size (left_at file.bytes file.place)) (Bytes part) after → GaveFlat file part after
gave_part file size part after some moved =
    let rest : List ℕ = left_at file.bytes file.place in
    let same : part ≡ moved.part = let replies : Bytes part ≡ Bytes moved.part = ap (λ (outcome : FileReply × FlatFile). outcome.0) moved.outcome in cc in
    record {
      front = (
        moved.front.0 ++ drop size rest,
        sym (append_assoc part moved.front.0 (drop size rest)) ∙ (ap (λ (xs : List ℕ). (xs ++ moved.front.0) ++ drop size rest) same ∙ (ap (λ (xs : List ℕ). xs ++ drop size rest) moved.front.1 ∙ take-append-drop size rest)),
      );
      end = λ none. nothing_taken size rest some (moved.some (sym same ∙ none));
      bytes = ap (λ (outcome : FileReply × FlatFile). outcome.1.bytes) moved.outcome;
    }

gave_by : (buffering : Buffering) (file : FlatFile) (size : ℕ) (part : List ℕ) (after : FlatFile) → file.buffering ≡ buffering → 0 < size → CarriedOut file (Read1 (Some size)) (if_over_raw buffering (take size (left_at file.bytes file.place))) (Bytes part) after → GaveFlat file part after
gave_by InMemory file size part after is some carried = gave_exact file size part after some carried
gave_by Unbuffered file size part after is some carried = gave_part file size part after some carried
gave_by (Buffered holds) file size part after is some carried = gave_part file size part after some carried

gave_told : (file : FlatFile) (size : ℕ) (part : List ℕ) (short faulted : Bool) (after : FlatFile) → 0 < size → refusal file (Read1 (Some size)) ≡ None → BinaryStep file (Read1 (Some size)) (Bytes part) short faulted after → GaveFlat file part after
gave_told file size part short faulted after some accepted (settled by) =
    gave_by file.buffering file size part after refl some (subst (λ (why : Option IoFault). SettledBy file (Read1 (Some size)) why (Bytes part) after) accepted by)
gave_told file size part short faulted after some accepted (waited_for waited by) = absurd (let never = by.1.0 in cc)
gave_told file size part short faulted after some accepted (raw_faulted faults says left) = absurd (cc)
gave_told file size part short faulted after some accepted (out_of_memory says left) = absurd (cc)

-- a reading that gives nothing leaves the flat bytes

no_bytes_by : (wanted : Option (List ℕ)) (file : FlatFile) (size : ℕ) (reply : FileReply) (after : FlatFile) → ((part : List ℕ) → reply ≢ Bytes part) → CarriedOut file (Read1 (Some size)) wanted reply after → after.bytes ≡ file.bytes
no_bytes_by None file size reply after never carried = absurd (never (one_transfer file.buffering (Some size) (left_at file.bytes file.place)) (ap (λ (outcome : FileReply × FlatFile). outcome.0) carried))
no_bytes_by (Some wanted) file size reply after never moved = absurd (never moved.part (ap (λ (outcome : FileReply × FlatFile). outcome.0) moved.outcome))

settled_leaves : (refused : Option IoFault) (file : FlatFile) (size : ℕ) (reply : FileReply) (after : FlatFile) → ((part : List ℕ) → reply ≢ Bytes part) → SettledBy file (Read1 (Some size)) refused reply after → after.bytes ≡ file.bytes
settled_leaves (Some why) file size reply after never by = ap (λ (left : FlatFile). left.bytes) by.1
settled_leaves None file size reply after never by = no_bytes_by (if_over_raw file.buffering (take size (left_at file.bytes file.place))) file size reply after never by

nothing_told : (file : FlatFile) (size : ℕ) (reply : FileReply) (short faulted : Bool) (after : FlatFile) → ((part : List ℕ) → reply ≢ Bytes part) → BinaryStep file (Read1 (Some size)) reply short faulted after → after.bytes ≡ file.bytes
nothing_told file size reply short faulted after never (settled by) = settled_leaves (refusal file (Read1 (Some size))) file size reply after never by
nothing_told file size reply short faulted after never (waited_for waited by) = ap (λ (left : FlatFile). left.bytes) by.1.1
nothing_told file size reply short faulted after never (raw_faulted faults says left) = left.1.2.bytes_are ∙ ap (lay file.bytes file.place) (take_all left.1.0 [] (omega arith))
nothing_told file size reply short faulted after never (out_of_memory says left) = ap (λ (own : FlatFile). own.bytes) left.1

-- Any reading of a live buffer.

-- a buffer that is read from: live, with a buffer, and nothing lent out
pub record IsRead (buffer : Buffer) : Type 0 where
  pub live : buffer.life ≡ life.Live
  pub reads : buffer.can.readable ≡ true
  pub buffered : is_unbuffered buffer.buffering ≡ false
  pub kept : buffer.exported ≡ false

-- there is nothing behind nothing
pub drop_none : (count : ℕ) (bytes : List ℕ) → bytes ≡ [] → drop count bytes ≡ []
drop_none zero bytes none = none
drop_none (suc count) [] none = refl
drop_none (suc count) (byte ∷ more) none = absurd (cc)

-- where the place stays, or nothing is owed any more, what is owed goes on to end at the place
pub rest_up_to : (was now : Owed) (from to passed : ℕ) → passed ≤ length was.bytes → now.bytes ≡ drop passed was.bytes → (now.bytes ≢ [] → now.place ≡ was.place + passed) → (to ≡ from) ⊎ (now.bytes ≡ []) → OwesUpTo was from → OwesUpTo now to
rest_up_to was now from to passed most bytes place (inr none) ends = inl none
rest_up_to was now from to passed most bytes place (inl still) (inl none) = inl (bytes ∙ drop_none passed was.bytes none)
rest_up_to was now from to passed most bytes place (inl still) (inr ends) = by_bytes now.bytes refl
  where
    by_bytes : (left : List ℕ) → now.bytes ≡ left → OwesUpTo now to
    by_bytes [] is = inl is
    by_bytes (byte ∷ more) is =
        let there : now.place ≡ was.place + passed = place (λ none. let never : byte ∷ more ≡ [] = sym is ∙ none in absurd (cc)) in
        inr (omega (arith, there, still, ends, most, ap length bytes, length-drop passed was.bytes))

shown_size : (buffering : Buffering) → IsSome (size_shown buffering)
shown_size (Buffered holds) = refl
shown_size Unbuffered = refl
shown_size InMemory = refl

asks_one : (size : ℕ) → 0 < size → asks_nothing (Read1 (Some size)) ≡ false
asks_one zero some = absurd (omega arith)
asks_one (suc size) some = refl

-- what a call tells of the buffer that gives it no byte
pub record Goes (before : Buffer) (reply : FileReply) (waited faulted : Bool) (after : Buffer) : Type 0 where
  pub first : (after.place ≡ before.place) ⊎ (after.owed.bytes ≡ [])
  pub short : after.short ≡ waited
  pub fails : says_fault reply ≡ faulted
  pub life_is : after.life ≡ (if faulted then life.Failed else before.life)
  pub bytes : WhereShown before ((flat_of after).bytes ≡ (flat_of before).bytes)

pub calls_so : (before after : Buffer) (call : FileCall) (reply : FileReply) (waited faulted : Bool) → AnswersAsBuffer before call reply after → is_close call ≡ false → outlasts (size_shown before.buffering) call ≡ false → PassesFront (stream_shown before) (stream_shown after) → WhereShown before (BufferLays before [] after.raw.bytes) → Goes before reply waited faulted after → Calls before waited faulted after
calls_so before after call reply waited faulted answers opens ends owes lays goes = record {
  keeps = answers.keeps;
  wait = λ waits. answers.causes.waits (goes.short ∙ waits);
  fault = λ faults. answers.causes.faults (goes.fails ∙ faults);
  waits = λ exact. waits_by waited goes.short (answers.counted exact);
  faults = λ exact sound. (answers.counted exact).faults (goes.fails ∙ sound);
  life_is = goes.life_is;
  far = answers.moves.far;
  bytes = goes.bytes;
  spares = λ can none. let spared = answers.spares can none in record { bytes = spared.bytes; written = spared.written; owed = spared.owed };
  stays = answers.stays opens;
  passes = front_passes before after owes;
  lays = λ up_to. lays_alone before after up_to lays;
  stands = λ stood. answers.stands;
  owes = rest_up_to before.owed after.owed before.place after.place owes.passed owes.most owes.bytes owes.place goes.first;
  none = λ none. owes.bytes ∙ drop_none owes.passed before.owed.bytes none;
  first = goes.first;
}
  where
    waits_by : (waited : Bool) → after.short ≡ waited → BufferIsCounted before call reply after → after.raw.waits ≡ (if waited then counted before.raw.waits 1 else before.raw.waits)
    waits_by true short counts = counts.once short ends
    waits_by false short counts = counts.waits short ends

-- where some bytes, or the end, are given, all was passed on first that was owed
passed_first : (before after : Buffer) (size : ℕ) (reply : FileReply) → 0 < size → AnswersAsBuffer before (Read1 (Some size)) reply after → IsTrue (says_given reply) → after.owed.bytes ≡ []
passed_first before after size reply some answers gives = answers.passes_first (shown_size before.buffering) refl (asks_one size some) gives tt

-- one reading
on_reading : (before after : Buffer) (size : Option ℕ) (reply : FileReply) → AnswersAsBuffer before (Read1 size) reply after → ReadsOn before after
on_reading before after size reply answers can none =
    let came = answers.brings refl can none in
    record { forth = came.forth; brought = λ tells. (came.reads tells).brought }

reads_so : (before after : Buffer) (size : ℕ) (reply : FileReply) (waited faulted : Bool) → AnswersAsBuffer before (Read1 (Some size)) reply after → Goes before reply waited faulted after → Calls before waited faulted after
reads_so before after size reply waited faulted answers goes = calls_so before after (Read1 (Some size)) reply waited faulted answers refl refl answers.owes answers.lays goes

never_bytes : (why : IoFault) (part : List ℕ) → Refused why ≢ Bytes part
never_bytes why part = λ same. absurd (cc)

unready_bytes : (part : List ℕ) → NotReady ≢ Bytes part
unready_bytes part = λ same. absurd (cc)

writes_no_wait : (writes : Bool) → IsTrue (writes && false) → ⊥
writes_no_wait true never = absurd (cc)
writes_no_wait false never = absurd (cc)

-- no more is given than is asked for
fits_size : (buffering : Buffering) (size : ℕ) (part : List ℕ) → GivesAsked buffering (Read1 (Some size)) (Bytes part) → length part ≤ size
fits_size (Buffered holds) size part within = within
fits_size Unbuffered size part within = within
fits_size InMemory size part within = within

-- what a reading of a live buffer comes to
pub reads_live : (before after : Buffer) (size : ℕ) (result : Result (Option (Vec ℕ Global)) IoFault) → IsRead before → 0 < size → AnswersAsBuffer before (Read1 (Some size)) (bytes_reply result) after → ReadOutcome before size result after
reads_live before after size (Ok (Some part)) is some answers =
    let accepted = accepts_read before (Some size) is.live is.reads is.buffered is.kept in
    let gave : WhereShown before (GaveFlat (flat_of before) part.items (flat_of after)) = λ told. gave_told (flat_of before) size part.items after.short false (flat_of after) some accepted.1 (answers.told (rw is.kept refl) told) in
    record {
      reads = reads_so before after size (Bytes part.items) false false answers (record { first = inr (passed_first before after size (Bytes part.items) some answers refl); short = answers.shorts; fails = refl; life_is = answers.moves.life_is; bytes = λ told. (gave told).bytes });
      brings = on_reading before after (Some size) (Bytes part.items) answers;
      fits = fits_size before.buffering size part.items answers.moves.within;
      place = answers.moves.place;
      told = λ told. record { front = (gave told).front; end = (gave told).end };
    }
reads_live before after size (Ok None) is some answers =
    let short : IsTrue after.short = answers.shorts in
    record {
      nothing = record {
        reads = reads_so before after size NotReady true false answers (record { first = inl answers.moves.place; short = short; fails = refl; life_is = answers.moves.life_is; bytes = λ told. nothing_told (flat_of before) size NotReady after.short false (flat_of after) unready_bytes (answers.told (rw is.kept refl) told) });
        brings = on_reading before after (Some size) NotReady answers;
        place = answers.moves.place;
      };
      empty = answers.hides short refl;
    }
reads_live before after size (Err fault.RawFault) is some answers = record {
  reads = reads_so before after size (Refused fault.RawFault) false true answers (record { first = inl answers.moves.place; short = answers.shorts; fails = refl; life_is = answers.moves.life_is; bytes = λ told. nothing_told (flat_of before) size (Refused fault.RawFault) after.short true (flat_of after) (never_bytes fault.RawFault) (answers.told (rw is.kept refl) told) });
  brings = on_reading before after (Some size) (Refused fault.RawFault) answers;
  place = answers.moves.place;
}
reads_live before after size (Err fault.NoMemory) is some answers =
    let place : after.place ≡ before.place = subst (λ (current : Life). PlaceStarves current None before.place after.place) (answers.moves.life_is ∙ is.live) answers.moves.place in
    record {
      reads = reads_so before after size (Refused fault.NoMemory) false false answers (record { first = inl place; short = answers.shorts; fails = refl; life_is = answers.moves.life_is; bytes = λ told. nothing_told (flat_of before) size (Refused fault.NoMemory) after.short false (flat_of after) (never_bytes fault.NoMemory) (answers.told (rw is.kept refl) told) });
      brings = on_reading before after (Some size) (Refused fault.NoMemory) answers;
      place = place;
    }
reads_live before after size (Err (fault.WouldBlock taken)) is some answers = absurd (writes_no_wait before.can.writable (answers.answer (accepts_read before (Some size) is.live is.reads is.buffered is.kept).0))
reads_live before after size (Err other) is some answers = absurd (answers.answer (accepts_read before (Some size) is.live is.reads is.buffered is.kept).0)

-- One call behind another.

calls_lay : (before mid after : Buffer) (waited faulted : Bool) → Calls before false false mid → Calls mid waited faulted after → OwesUpTo before.owed before.place → WhereShown before (LaysFront before.raw.bytes (before.place - length before.owed.bytes) before.owed.bytes after.raw.bytes)
calls_lay before mid after waited faulted first second ends told = by_first first.first
  where
    from : ℕ
    from = before.place - length before.owed.bytes

    behind : ℕ
    behind = mid.place - length mid.owed.bytes

    laid : LaysFront mid.raw.bytes behind mid.owed.bytes after.raw.bytes
    laid = second.lays (first.owes ends) (tells_still before.raw mid.raw first.keeps.raw ∙ told)

    flat : lay mid.raw.bytes behind mid.owed.bytes ≡ lay before.raw.bytes from before.owed.bytes
    flat = sym (lays_at_end mid.raw.bytes mid.owed mid.place (first.owes ends)) ∙ (first.bytes told ∙ lays_at_end before.raw.bytes before.owed before.place ends)

    by_first : (mid.place ≡ before.place) ⊎ (mid.owed.bytes ≡ []) → LaysFront before.raw.bytes from before.owed.bytes after.raw.bytes
    by_first (inr none) = subst (LaysFront before.raw.bytes from before.owed.bytes) (sym (laid_none mid.raw.bytes behind mid.owed.bytes after.raw.bytes none laid)) (first.lays ends told)
    by_first (inl place) =
        let at : behind ≡ from + first.passes.passed = omega (arith, place, ap length first.passes.rest, length-drop first.passes.passed before.owed.bytes, first.passes.most, owed_within before.owed before.place ends) in
        subst (λ (owed : List ℕ). LaysFront before.raw.bytes from owed after.raw.bytes) (append-nil before.owed.bytes)
        (lays_behind before.raw.bytes from behind before.owed.bytes mid.owed.bytes [] mid.raw.bytes after.raw.bytes first.passes.passed first.passes.most first.passes.rest at (first.lays ends told) flat
        (subst (λ (owed : List ℕ). LaysFront mid.raw.bytes behind owed after.raw.bytes) (sym (append-nil mid.owed.bytes)) laid))

pub calls_on : (before mid after : Buffer) (waited faulted : Bool) → Calls before false false mid → Calls mid waited faulted after → Calls before waited faulted after
calls_on before mid after waited faulted first second = record {
  keeps = grind arith;
  wait = grind arith;
  fault = grind arith;
  waits = grind arith;
  faults = grind arith;
  life_is = second.life_is ∙ ap (λ (current : Life). if faulted then life.Failed else current) first.life_is;
  far = second.far;
  bytes = grind arith;
  spares = grind arith;
  stays = grind arith;
  passes = passes_then before.raw mid.raw after.raw before.owed.bytes mid.owed.bytes after.owed.bytes first.keeps.raw first.passes second.passes;
  lays = calls_lay before mid after waited faulted first second;
  stands = λ stood. second.stands (first.stands stood);
  owes = λ ends. second.owes (first.owes ends);
  none = λ none. second.none (first.none none);
  first = grind arith;
}

-- A buffer that is only read from.

-- it wasn't called
pub on_itself : (buffer : Buffer) → ReadsOn buffer buffer
on_itself buffer can none = record { forth = omega arith; brought = λ tells. omega arith }

-- one reading behind another
pub on_then : (before mid after : Buffer) → Calls before false false mid → ReadsOn before mid → ReadsOn mid after → ReadsOn before after
on_then before mid after calls first second can none =
    let one = first can none in
    let two = second (ap (λ (able : Abilities). able.writable) calls.keeps.can ∙ can) (calls.none none) in
    record { forth = omega (arith, one.forth, two.forth); brought = λ tells. omega (arith, one.forth, two.forth, one.brought tells, two.brought (calls.keeps.raw.tells_transfers ∙ tells)) }
