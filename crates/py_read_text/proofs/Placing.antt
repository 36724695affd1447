-- A text whose buffer was called without a byte read, or that was placed anew.
use Rattle.std.proofs.Common.{◌≡◌, ℕ, ◌+◌, ◌≤◌, ◌⊎◌, inl, inr, ℤ, pos, to_z, w64, Bool, true, false, IsTrue, List, [], ◌++◌, length, max, if◌then◌else◌, Option, Some, None, Result, Ok, Err, refl, sym, ap, ◌∙◌, subst, arith, ◌-◌}
use Rattle.std.proofs.lemmas.List.{take_all}
use Rattle.std.proofs.lemmas.Bool.{le-ltb}
use Rattle.std.proofs.lemmas.Int.{to_z_pos}
use Rattle.py_flat.specs.declared.fault.IoFault.{IoFault}
use Rattle.py_flat.specs.declared.fault.IoFault.TheVariants as fault
use Rattle.py_flat.specs.declared.life.Life.{Life}
use Rattle.py_flat.specs.declared.life.Life.TheVariants as life
use Rattle.py_flat.specs.Limits.{greatest_place}
use Rattle.py_flat.specs.Bytes.{left_at, lay}
use Rattle.py_flat.specs.FlatFile.{Abilities, FlatFile}
use Rattle.py_flat.specs.Calls.{FileReply, Place, Refused, Write, Seek, Flush, Close}
use Rattle.py_flat.specs.Refusals.{refusal, is_unbuffered, too_far}
use Rattle.py_flat.specs.AllowedStep.{settled, waited_for, raw_faulted, out_of_memory}
use Rattle.py_flat.specs.BinaryStep.{SettledBy, BinaryStep}
use Rattle.py_plain_text.specs.TextFile.{Front, TextSettings}
use Rattle.py_raw.specs.RawStream.{tells, AnswersFor}
use Rattle.py_raw.proofs.Telling.{tells_still, keeps_same}
use Rattle.py_stream.specs.Writing.{OwesUpTo, PassesFront, Takes}
use Rattle.py_stream.specs.Kinds.{says_fault}
use Rattle.py_stream.specs.Replies.{done_reply, place_reply}
use Rattle.py_stream.specs.Answers.{LifeMoves, PlaceMoves, PlaceStarves}
use Rattle.py_stream.specs.Buffer.{Buffer, WhereShown, flat_of, size_shown, stream_shown, refused_here, KeepsBuffer, AnswersAsBuffer}
use Rattle.py_held_text.specs.Held.{HeldView, cleared}
use Rattle.py_read_text.specs.Knowing.{TextView, from_place, KnowsTold, ReadsBy, IsText}
use Rattle.py_read_text.specs.Writing.{unit_of, LeavesFlat, ReturnOutcome}
use Rattle.py_read_text.specs.Reading.{Calls}
use Rattle.py_read_text.proofs.Fetching.{rest_up_to, drop_none, calls_so}
use Rattle.py_read_text.proofs.Beginning.{knows_anew}
use Rattle.py_read_text.proofs.Fronts.{laid_none}
use Rattle.py_read_text.proofs.Knowing.{without_front}
use Rattle.py_read_text.proofs.Holding.{clean_as}

-- The flat bytes.

settled_flat : (file after : FlatFile) (reply : FileReply) (why : Option IoFault) → SettledBy file Flush why reply after → after.bytes ≡ file.bytes
settled_flat file after reply (Some why) by = ap (λ (own : FlatFile). own.bytes) by.1
settled_flat file after reply None by = ap (λ (outcome : FileReply × FlatFile). outcome.1.bytes) by

-- a flush keeps the flat bytes
pub flush_flat : (file after : FlatFile) (reply : FileReply) (short faulted : Bool) → BinaryStep file Flush reply short faulted after → after.bytes ≡ file.bytes
flush_flat file after reply short faulted (settled by) = settled_flat file after reply (refusal file Flush) by
flush_flat file after reply short faulted (waited_for waited by) = ap (λ (own : FlatFile). own.bytes) by.1.1
flush_flat file after reply short faulted (raw_faulted faults says left) = left.1.2.bytes_are ∙ ap (lay file.bytes file.place) (take_all left.1.0 [] (omega arith))
flush_flat file after reply short faulted (out_of_memory says left) = ap (λ (own : FlatFile). own.bytes) left.1

-- The text.

pub cleared_so : (held : HeldView) (settings : TextSettings) (place room : ℕ) → ReadsBy settings held → record (from_place settings place) { room = room } ≡ cleared held place room
cleared_so held settings place room by = rw (by.encoding, by.handler, by.newline) refl

reading_still : (before after : Buffer) → KeepsBuffer before after → after.can.readable ≡ true → before.can.readable ≡ true
reading_still before after keeps can = sym (ap (λ (abilities : Abilities). abilities.readable) keeps.can) ∙ can

-- a text that was put, clean, at a byte place, from which on its buffer gave some bytes that are in hand
pub text_put : (before after : Buffer) (held : HeldView) (front : Option Front) (at taken : ℕ) (dirty : Bool) (place room : ℕ) (since : List ℕ) (settings : TextSettings) → KeepsBuffer before after → OwesUpTo after.owed after.place → after.place ≤ greatest_place → place + length since ≡ after.place → (place ≡ after.place) ⊎ ((after.owed.bytes ≡ []) × (after.can.readable ≡ true)) → WhereShown after (left_at (flat_of after).bytes place ≡ since ++ left_at (flat_of after).bytes after.place) → WhereShown after (after.place ≤ max place (length (flat_of after).bytes)) → IsText before held front at taken dirty settings → IsText after (record (cleared held place room) { bytes = since }) None place 0 false settings
text_put before after held front at taken dirty place room since settings keeps owes far reaches ahead split within is = record {
  reads_by = λ can. let by = is.reads_by (reading_still before after keeps can) in record { encoding = by.encoding; handler = by.handler; newline = by.newline };
  asks = is.asks;
  buffered = ap is_unbuffered keeps.buffering ∙ is.buffered;
  kept = keeps.exported ∙ is.kept;
  owes = owes;
  ahead = ahead;
  stands = reaches;
  far = far;
  forth = omega arith;
  from = omega arith;
  few = omega arith;
  has = record { among = omega arith; marked = tt };
  inside = refl;
  clean = λ clean. refl;
  still = λ can. refl;
  whole = λ zero. reaches;
  told = λ told lives can.
      let by = is.reads_by (reading_still before after keeps can) in
      subst (λ (own : HeldView). KnowsTold settings (flat_of after).bytes after.place None place 0 (record own { bytes = since })) (cleared_so held settings place room by)
      (knows_anew settings (flat_of after).bytes after.place place room since reaches (split told) (within told));
}

-- a text with nothing in hand, clean where its buffer stands
pub text_cleared : (before after : Buffer) (held : HeldView) (front : Option Front) (at taken : ℕ) (dirty : Bool) (place room : ℕ) (settings : TextSettings) → KeepsBuffer before after → OwesUpTo after.owed after.place → after.place ≤ greatest_place → place ≡ after.place → IsText before held front at taken dirty settings → IsText after (cleared held place room) None place 0 false settings
text_cleared before after held front at taken dirty place room settings keeps owes far there is =
    text_put before after held front at taken dirty place room [] settings keeps owes far (omega (arith, there)) (inl there) (λ told. ap (left_at (flat_of after).bytes) there) (λ told. omega (arith, there)) is

-- a text that came to the end, which lets go of all that it has in hand
pub text_ended : (buffer : Buffer) (held new : HeldView) (front : Option Front) (at taken : ℕ) (dirty : Bool) (place : ℕ) (settings : TextSettings) → place ≡ buffer.place → new ≡ cleared held place new.room → IsText buffer held front at taken dirty settings → IsText buffer new None place 0 false settings
text_ended buffer held new front at taken dirty place settings there new_is is =
    subst (λ (own : HeldView). IsText buffer own None place 0 false settings) (sym new_is)
    (text_cleared buffer buffer held front at taken dirty place new.room settings (record { raw = keeps_same buffer.raw; can = refl; buffering = refl; exported = refl }) is.owes is.far there is)

-- what is owed after a call that neither reads nor writes
owes_still : (before after : Buffer) → PassesFront (stream_shown before) (stream_shown after) → after.place ≡ before.place → OwesUpTo before.owed before.place → OwesUpTo after.owed after.place
owes_still before after passes place ends = rest_up_to before.owed after.owed before.place after.place passes.passed passes.most passes.bytes passes.place (inl place) ends

none_still : (before after : Buffer) → PassesFront (stream_shown before) (stream_shown after) → before.owed.bytes ≡ [] → after.owed.bytes ≡ []
none_still before after passes none = passes.bytes ∙ drop_none passes.passed before.owed.bytes none

ahead_so : (at : ℕ) (before after : Buffer) → KeepsBuffer before after → PassesFront (stream_shown before) (stream_shown after) → after.place ≡ before.place → (at ≡ before.place) ⊎ ((before.owed.bytes ≡ []) × (before.can.readable ≡ true)) → (at ≡ after.place) ⊎ ((after.owed.bytes ≡ []) × (after.can.readable ≡ true))
ahead_so at before after keeps passes place (inl there) = inl (there ∙ sym place)
ahead_so at before after keeps passes place (inr none) = inr (none_still before after passes none.0, ap (λ (abilities : Abilities). abilities.readable) keeps.can ∙ none.1)

-- the buffer was called, stands where it stood, and while it lives it has the flat bytes that it had
pub text_called : (before after : Buffer) (held : HeldView) (front : Option Front) (at taken : ℕ) (dirty : Bool) (settings : TextSettings) → before.life ≡ life.Live → KeepsBuffer before after → PassesFront (stream_shown before) (stream_shown after) → after.place ≡ before.place → WhereShown before (after.life ≡ life.Live → (flat_of after).bytes ≡ (flat_of before).bytes) → IsText before held front at taken dirty settings → IsText after held front at taken dirty settings
text_called before after held front at taken dirty settings live keeps passes place flat is = record {
  reads_by = λ can. is.reads_by (reading_still before after keeps can);
  asks = is.asks;
  buffered = ap is_unbuffered keeps.buffering ∙ is.buffered;
  kept = keeps.exported ∙ is.kept;
  owes = owes_still before after passes place is.owes;
  ahead = ahead_so at before after keeps passes place is.ahead;
  stands = is.stands ∙ sym place;
  far = omega (arith, place, is.far);
  forth = is.forth;
  from = is.from;
  few = is.few;
  has = is.has;
  inside = is.inside;
  clean = is.clean;
  still = λ can. is.still (sym (ap (λ (abilities : Abilities). abilities.readable) keeps.can) ∙ can);
  whole = λ none. is.whole none ∙ sym place;
  told = λ told lives can.
      let was : IsTrue (tells before.raw) = sym (tells_still before.raw after.raw keeps.raw) ∙ told in
      let knows = is.told was live (reading_still before after keeps can) in
      subst (λ (bytes : List ℕ). KnowsTold settings bytes after.place front at taken held) (sym (flat was lives)) (subst (λ (far : ℕ). KnowsTold settings (flat_of before).bytes far front at taken held) (sym place) knows);
}

-- Calls that are accepted.

pub not_far : (place : ℕ) → place ≤ greatest_place → too_far place ≡ None
not_far place within = rw (le-ltb greatest_place place within) refl

-- a live buffer that can be moved refuses no seek to a place that a stream can have
pub accepts_seek : (buffer : Buffer) (at : ℕ) → buffer.life ≡ life.Live → buffer.can.seekable ≡ true → buffer.can.appending ≡ false → buffer.exported ≡ false → at ≤ greatest_place → (refused_here buffer (Seek (pos at) (pos 0)) ≡ None) × (refusal (flat_of buffer) (Seek (pos at) (pos 0)) ≡ None)
accepts_seek buffer at live can appends kept within =
    let far : too_far (0 + at) ≡ None = not_far (0 + at) (omega (arith, within)) in
    (rw kept (rw live (rw can (rw appends far))), rw live (rw can (rw appends far)))

-- a live buffer that writes refuses no bytes that end where a stream can
pub accepts_write : (buffer : Buffer) (bytes : List ℕ) → buffer.life ≡ life.Live → buffer.can.writable ≡ true → buffer.exported ≡ false → buffer.place + length bytes ≤ greatest_place → (refused_here buffer (Write bytes) ≡ None) × (refusal (flat_of buffer) (Write bytes) ≡ None)
accepts_write buffer bytes live can kept within =
    let far = not_far (buffer.place + length bytes) within in
    (rw kept (rw live (rw can far)), rw live (rw can far))

-- Where a buffer stands after a flush, and after a close.

pub flush_place : (size : Option ℕ) (result : Result (Unit {0}) IoFault) (was current : Life) (before after : ℕ) → was ≡ life.Live → LifeMoves size Flush (done_reply result) was current → PlaceMoves size Flush (done_reply result) current before after → after ≡ before
flush_place size (Ok done) was current before after live moves place = place
flush_place size (Err fault.RawFault) was current before after live moves place = place
flush_place size (Err fault.NoMemory) was current before after live moves place = subst (λ (own : Life). PlaceStarves own None before after) (moves ∙ live) place
flush_place size (Err other) was current before after live moves place = place

pub close_place : (size : Option ℕ) (result : Result (Unit {0}) IoFault) (was current : Life) (before after : ℕ) → was ≡ life.Live → LifeMoves size Close (done_reply result) was current → PlaceMoves size Close (done_reply result) current before after → after ≡ before
close_place size (Ok done) was current before after live moves place = place
close_place size (Err fault.RawFault) was current before after live moves place = place
close_place size (Err fault.NoMemory) was current before after live moves place = subst (λ (own : Life). PlaceStarves own None before after) (moves ∙ live) place
close_place size (Err other) was current before after live moves place = place

settled_close : (file after : FlatFile) (reply : FileReply) (why : Option IoFault) → SettledBy file Close why reply after → after.bytes ≡ file.bytes
settled_close file after reply (Some why) by = ap (λ (own : FlatFile). own.bytes) by.1
settled_close file after reply None by = ap (λ (outcome : FileReply × FlatFile). outcome.1.bytes) by

-- a close keeps the flat bytes
pub close_flat : (file after : FlatFile) (reply : FileReply) (short faulted : Bool) → BinaryStep file Close reply short faulted after → after.bytes ≡ file.bytes
close_flat file after reply short faulted (settled by) = settled_close file after reply (refusal file Close) by
close_flat file after reply short faulted (waited_for waited by) = ap (λ (own : FlatFile). own.bytes) by.1.1
close_flat file after reply short faulted (raw_faulted faults says left) = left.1.bytes_are
close_flat file after reply short faulted (out_of_memory says left) = ap (λ (own : FlatFile). own.bytes) left.1

-- the text after a flush, and after a close
pub text_flushed : (before after : Buffer) (held : HeldView) (front : Option Front) (at taken : ℕ) (dirty : Bool) (settings : TextSettings) (result : Result (Unit {0}) IoFault) → before.life ≡ life.Live → AnswersAsBuffer before Flush (done_reply result) after → IsText before held front at taken dirty settings → IsText after held front at taken dirty settings
text_flushed before after held front at taken dirty settings result live answers is =
    text_called before after held front at taken dirty settings live answers.keeps answers.owes (flush_place (size_shown before.buffering) result before.life after.life before.place after.place live answers.moves.life_is answers.moves.place)
    (λ told lives. flush_flat (flat_of before) (flat_of after) (done_reply result) after.short (says_fault (done_reply result)) (answers.told (rw is.kept refl) told)) is

pub text_closed : (before after : Buffer) (held : HeldView) (front : Option Front) (at taken : ℕ) (dirty : Bool) (settings : TextSettings) (result : Result (Unit {0}) IoFault) → before.life ≡ life.Live → AnswersAsBuffer before Close (done_reply result) after → IsText before held front at taken dirty settings → IsText after held front at taken dirty settings
text_closed before after held front at taken dirty settings result live answers is =
    text_called before after held front at taken dirty settings live answers.keeps answers.owes (close_place (size_shown before.buffering) result before.life after.life before.place after.place live answers.moves.life_is answers.moves.place)
    (λ told lives. close_flat (flat_of before) (flat_of after) (done_reply result) after.short (says_fault (done_reply result)) (answers.told (rw is.kept refl) told)) is

-- the text after its buffer took bytes
pub text_passed : (before after : Buffer) (held new : HeldView) (front : Option Front) (at taken : ℕ) (dirty : Bool) (place : ℕ) (bytes : List ℕ) (reply : FileReply) (settings : TextSettings) → AnswersAsBuffer before (Write bytes) reply after → Takes (stream_shown before) bytes (stream_shown after) → place ≡ after.place → new ≡ cleared held place new.room → taken ≡ 0 → dirty ≡ false → IsText before held front at taken dirty settings → IsText after new front place taken dirty settings
text_passed before after held new front at taken dirty place bytes reply settings answers takes there is_new none clean is =
    subst (λ (own : HeldView). IsText after own front place taken dirty settings) (sym is_new)
    (clean_as after (cleared held place new.room) front place taken dirty settings (is.clean clean) none clean (text_cleared before after held front at taken dirty place new.room settings answers.keeps takes.up_to answers.moves.far there is))

-- Going back to the place.

settled_seek : (file after : FlatFile) (at : ℕ) (reply : FileReply) (why : Option IoFault) → SettledBy file (Seek (pos at) (pos 0)) why reply after → after.bytes ≡ file.bytes
settled_seek file after at reply (Some why) by = ap (λ (own : FlatFile). own.bytes) by.1
settled_seek file after at reply None by = ap (λ (outcome : FileReply × FlatFile). outcome.1.bytes) by

seek_flat : (file after : FlatFile) (at : ℕ) (reply : FileReply) (short faulted : Bool) → BinaryStep file (Seek (pos at) (pos 0)) reply short faulted after → after.bytes ≡ file.bytes
seek_flat file after at reply short faulted (settled by) = settled_seek file after at reply (refusal file (Seek (pos at) (pos 0))) by
seek_flat file after at reply short faulted (waited_for waited by) = ap (λ (own : FlatFile). own.bytes) by.1.1
seek_flat file after at reply short faulted (raw_faulted faults says left) = left.1.2.bytes_are ∙ ap (lay file.bytes file.place) (take_all left.1.0 [] (omega arith))
seek_flat file after at reply short faulted (out_of_memory says left) = ap (λ (own : FlatFile). own.bytes) left.1

pub seek_place : (size : Option ℕ) (at : ℕ) (why : IoFault) (was current : Life) (before after : ℕ) → was ≡ life.Live → LifeMoves size (Seek (pos at) (pos 0)) (Refused why) was current → PlaceMoves size (Seek (pos at) (pos 0)) (Refused why) current before after → after ≡ before
seek_place size at fault.RawFault was current before after live moves place = place
seek_place size at fault.NoMemory was current before after live moves place = subst (λ (own : Life). PlaceStarves own None before after) (moves ∙ live) place
seek_place size at other was current before after live moves place = place

-- a live buffer that was read ahead of its text
pub record IsAhead (buffer : Buffer) (at : ℕ) : Type 0 where
  pub live : buffer.life ≡ life.Live
  pub moves : buffer.can.seekable ≡ true
  pub appends : buffer.can.appending ≡ false
  pub kept : buffer.exported ≡ false
  pub none : buffer.owed.bytes ≡ []
  pub within : at ≤ greatest_place
  pub apart : at ≡ buffer.place → ⊥

-- a seek of a buffer that owes nothing
pub seek_calls : (before after : Buffer) (at : ℕ) (reply : FileReply) → before.exported ≡ false → before.owed.bytes ≡ [] → after.life ≡ (if says_fault reply then life.Failed else before.life) → after.short ≡ false → AnswersAsBuffer before (Seek (pos at) (pos 0)) reply after → Calls before false (says_fault reply) after
seek_calls before after at reply kept none current short answers = calls_so before after (Seek (pos at) (pos 0)) reply false (says_fault reply) answers refl refl answers.owes answers.lays (record { first = inr (none_still before after answers.owes none); short = short; fails = refl; life_is = current; bytes = λ told. seek_flat (flat_of before) (flat_of after) at reply after.short (says_fault reply) (answers.told (rw kept refl) told) })

leaves_flat : (before after : Buffer) (at : ℕ) (reply : FileReply) → IsAhead before at → after.life ≡ (if says_fault reply then life.Failed else before.life) → after.short ≡ false → AnswersAsBuffer before (Seek (pos at) (pos 0)) reply after → LeavesFlat before (says_fault reply) after
leaves_flat before after at reply is current short answers =
    let calls = seek_calls before after at reply is.kept is.none current short answers in
    record {
      keeps = calls.keeps;
      fault = calls.fault;
      faults = calls.faults;
      life_is = calls.life_is;
      bytes = calls.bytes;
      raw_bytes = λ told. laid_none before.raw.bytes (before.place - length before.owed.bytes) before.owed.bytes after.raw.bytes is.none (calls.lays (inl is.none) told);
      far = calls.far;
      stands = calls.stands;
      stays = calls.stays;
      owed = calls.none is.none ∙ sym is.none;
      answered = subst (λ (count : ℕ). AnswersFor count before.raw after.raw) (omega (arith, calls.passes.most, ap length is.none)) calls.passes.answered;
    }

pub never_waits : (short : Bool) → short ≡ true → short ≡ false → ⊥
never_waits true is not = absurd (cc)
never_waits false is not = absurd (cc)

-- the buffer went back, or the raw failed, or memory ran out
pub returned : (old new : TextView) (result : Result ℕ IoFault) → IsAhead old.buffer old.at → new.at ≡ old.at → AnswersAsBuffer old.buffer (Seek (pos old.at) (pos 0)) (place_reply result) new.buffer → ReturnOutcome old (unit_of result) new
returned old new (Ok place) is at answers =
    let goes : Some (0 + old.at) ≡ Some place = answers.moves.place.1 in
    let there : 0 + old.at ≡ place = cc in
    (omega (arith, at, there, answers.moves.place.0), leaves_flat old.buffer new.buffer old.at (Place place) is answers.moves.life_is answers.shorts answers, λ stood. absurd (is.apart stood))
returned old new (Err fault.RawFault) is at answers = (leaves_flat old.buffer new.buffer old.at (Refused fault.RawFault) is answers.moves.life_is answers.shorts answers, answers.moves.place, is.apart)
returned old new (Err fault.NoMemory) is at answers = (leaves_flat old.buffer new.buffer old.at (Refused fault.NoMemory) is answers.moves.life_is answers.shorts answers, seek_place (size_shown old.buffer.buffering) old.at fault.NoMemory old.buffer.life new.buffer.life old.buffer.place new.buffer.place is.live answers.moves.life_is answers.moves.place)
returned old new (Err (fault.WouldBlock taken)) is at answers = absurd (never_waits new.buffer.short answers.shorts (answers.unwaited refl refl is.none))
returned old new (Err other) is at answers = absurd (answers.answer (accepts_seek old.buffer old.at is.live is.moves is.appends is.kept is.within).0)

-- a text whose buffer didn't go back
pub text_unreturned : (before after : Buffer) (held : HeldView) (front : Option Front) (at taken : ℕ) (dirty : Bool) (settings : TextSettings) (why : IoFault) → before.life ≡ life.Live → AnswersAsBuffer before (Seek (pos at) (pos 0)) (Refused why) after → IsText before held front at taken dirty settings → IsText after held front at taken dirty settings
text_unreturned before after held front at taken dirty settings why live answers is =
    text_called before after held front at taken dirty settings live answers.keeps answers.owes (seek_place (size_shown before.buffering) at why before.life after.life before.place after.place live answers.moves.life_is answers.moves.place)
    (λ told lives. seek_flat (flat_of before) (flat_of after) at (Refused why) after.short (says_fault (Refused why)) (answers.told (rw is.kept refl) told)) is

-- a text whose buffer doesn't stand at its place was read ahead
pub is_ahead : (buffer : Buffer) (held : HeldView) (front : Option Front) (at taken : ℕ) (dirty : Bool) (settings : TextSettings) → buffer.life ≡ life.Live → buffer.can.writable ≡ true → (buffer.can.readable ≡ true → buffer.can.writable ≡ true → (buffer.can.seekable ≡ true) × (buffer.can.appending ≡ false)) → (held.place + length held.bytes ≡ at → ⊥) → IsText buffer held front at taken dirty settings → IsAhead buffer at
is_ahead buffer held front at taken dirty settings live writes moves differs is = by_place is.ahead
  where
    by_place : (at ≡ buffer.place) ⊎ ((buffer.owed.bytes ≡ []) × (buffer.can.readable ≡ true)) → IsAhead buffer at
    by_place (inl there) = absurd (differs (is.stands ∙ sym there))
    by_place (inr none) = record { live = live; moves = (moves none.1 writes).0; appends = (moves none.1 writes).1; kept = is.kept; none = none.0; within = omega (arith, is.forth, is.stands, is.far); apart = λ stood. differs (is.stands ∙ sym stood) }

-- a text whose buffer went back to its place
pub text_returned : (before after : Buffer) (held new : HeldView) (front : Option Front) (at taken : ℕ) (dirty : Bool) (place : ℕ) (settings : TextSettings) → IsAhead before at → AnswersAsBuffer before (Seek (pos at) (pos 0)) (Place place) after → taken ≡ 0 → dirty ≡ false → new ≡ cleared held at new.room → IsText before held front at taken dirty settings → IsText after new front at taken dirty settings
text_returned before after held new front at taken dirty place settings ahead answers none clean is_new is =
    let goes : Some (0 + at) ≡ Some place = answers.moves.place.1 in
    let there : 0 + at ≡ place = cc in
    subst (λ (own : HeldView). IsText after own front at taken dirty settings) (sym is_new)
    (clean_as after (cleared held at new.room) front at taken dirty settings (is.clean clean) none clean
    (text_cleared before after held front at taken dirty at new.room settings answers.keeps (inl (none_still before after answers.owes ahead.none)) answers.moves.far (omega (arith, there, answers.moves.place.0)) is))

-- the place as the offset of a seek
pub offset_is : (buffer : Buffer) (held : HeldView) (front : Option Front) (at taken : ℕ) (dirty : Bool) (settings : TextSettings) → IsText buffer held front at taken dirty settings → to_z w64 at ≡ pos at
offset_is buffer held front at taken dirty settings is = to_z_pos w64 at (omega (arith, is.forth, is.stands, is.far))

pub sought_at : (before after : Buffer) (held : HeldView) (front : Option Front) (at taken : ℕ) (dirty : Bool) (settings : TextSettings) (reply : FileReply) → IsText before held front at taken dirty settings → AnswersAsBuffer before (Seek (to_z w64 at) (pos 0)) reply after → AnswersAsBuffer before (Seek (pos at) (pos 0)) reply after
sought_at before after held front at taken dirty settings reply is answers = subst (λ (offset : ℤ). AnswersAsBuffer before (Seek offset (pos 0)) reply after) (offset_is before held front at taken dirty settings is) answers

pub returned_so : (now old new : TextView) (why : IoFault) → old ≡ now → IsAhead old.buffer old.at → new.at ≡ old.at → AnswersAsBuffer old.buffer (Seek (pos old.at) (pos 0)) (Refused why) new.buffer → ReturnOutcome now (Err why) new
returned_so now old new why same is at answers = subst (λ (view : TextView). ReturnOutcome view (Err why) new) same (returned old new (Err why) is at answers)
