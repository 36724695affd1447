-- What is owed is handed on, and the text stays as it is.
use Rattle.std.proofs.Common.{◌≡◌, ◌≢◌, ℕ, ◌+◌, ◌-◌, ◌<◌, ◌≤◌, inl, inr, ◌⊎◌, nat_eq, ◌&&◌, Bool, true, false, List, [], ◌∷◌, ◌++◌, length, take, drop, Option, None, Some, Result, Ok, Err, refl, sym, ap, ◌∙◌, subst, arith, append-nil}
use Rattle.std.proofs.lemmas.List.{length-drop, drop_all, length-append}
use Rattle.py_flat.specs.declared.fault.IoFault.{IoFault}
use Rattle.py_flat.specs.declared.fault.IoFault.TheVariants as fault
use Rattle.py_flat.specs.declared.life.Life.{Life}
use Rattle.py_flat.specs.declared.life.Life.TheVariants as life
use Rattle.py_flat.specs.Limits.{greatest_place}
use Rattle.py_flat.specs.Bytes.{lay}
use Rattle.py_flat.specs.FlatFile.{Abilities, FlatFile, Buffering, Unbuffered, Buffered, InMemory}
use Rattle.py_flat.specs.Refusals.{refusal}
use Rattle.py_flat.specs.AllowedStep.{settled, waited_for, raw_faulted, out_of_memory}
use Rattle.py_flat.specs.BinaryStep.{SettledBy, FailsMidway, BinaryStep}
use Rattle.py_flat.specs.Calls.{FileReply, Count, Done, Write, Flush, Refused}
use Rattle.py_flat.proofs.Laying.{lay_resumes}
use Rattle.py_plain.specs.Units.{Unknown}
use Rattle.py_plain_text.specs.TextFile.{TextPlace, TextSettings, clean_at}
use Rattle.py_plain_text.specs.TextWriting.{writes_texts}
use Rattle.py_stream.specs.Kinds.{says_fault, says_wait}
use Rattle.py_stream.specs.Replies.{count_reply}
use Rattle.py_stream.specs.Answers.{TakesOf, LifeMoves, PlaceStarves}
use Rattle.py_stream.specs.Stream.{Stream}
use Rattle.py_stream.specs.Writing.{Takes, TookOwn, OwesUpTo}
use Rattle.py_stream.specs.Buffer.{Buffer, WhereShown, flat_of, size_shown, stream_shown, AnswersAsBuffer, BufferLays}
use Rattle.py_plain_text.specs.TextCalls.{TextFileCall}
use Rattle.py_read_text.specs.TextState.{TextState}
use Rattle.py_read_text.specs.Answers.{further, Answers}
use Rattle.py_read_text.specs.Knowing.{TextView, place_of, over_of as read_of, state_of as read_state}
use Rattle.py_read_text.specs.Owing.{all_owed, behind_own, IsJoined, PassesOwed, own_from, stream_from, FailedWithOwn, all_from, LaysFront, LaysOwed}
use Rattle.py_read_text.specs.Reading.{KeepsPlace}
use Rattle.py_read_text.specs.Writing.{unit_of, StandsBehind, LeavesFlat, ReturnOutcome}
use Rattle.py_raw.proofs.Telling.{keeps_same, tells_still}
use Rattle.py_read_text.proofs.Placing.{accepts_write, flush_flat}
use Rattle.py_read_text.proofs.Calling.{all_passed}
use Rattle.py_read_text.proofs.Owing.{passes_none, passes_then, passes_behind, front_passes, takes_passed, open_still, open_then, open_of, open_called, joined_in}
use Rattle.py_textio.proofs.Over.{calls_on}
use Rattle.py_textio.specs.Written.{WrittenView, behind_owed, over_of, state_of, CallsBuffer, HandsOn, StandsToWrite, TakesNothing, kept_of, LetsGo, IsWritten, SettleOutcome, BackOutcome, PassOutcome, GivesOutcome, HandsOnOnce, with_taken}
use Rattle.py_read_text.proofs.Fronts.{lays_none, lays_both, lays_alone, lays_owed, lays_on, lays_still}

-- The place of a text that owes bytes.

pub behind_so : (place : TextPlace) (owed : List ℕ) → behind_owed place owed ≡ further place (length owed)
behind_so place [] =
    let same : place.at ≡ place.at + 0 = omega arith in
    ap (λ (at : ℕ). let own : TextPlace = record place { at = at } in own) same
behind_so place (byte ∷ more) = refl

pub clean_place : (text : TextView) (owed : List ℕ) → StandsToWrite text → behind_owed (place_of text) owed ≡ clean_at (text.buffer.place + length owed) Unknown
clean_place text owed stands = behind_so (place_of text) owed ∙ rw (stands.2, stands.0.taken, stands.0.dirty, stands.1) refl

own_at : (place : TextPlace) (owed : List ℕ) → (behind_owed place owed).at - length owed ≡ place.at
own_at place [] = omega arith
own_at place (byte ∷ more) = omega arith

-- what a text owes itself begins at the byte of the text that reads
pub own_from_is : (view : WrittenView) → own_from (over_of view) ≡ view.text.at
own_from_is view = own_at (place_of view.text) view.pending

took_from : (old : WrittenView) (after : Stream) → old.text.at ≡ old.text.buffer.place → TookOwn (stream_shown old.text.buffer) after → TookOwn (stream_from (over_of old)) after
took_from old after stands took = subst (λ (place : ℕ). TookOwn (record (stream_shown old.text.buffer) { place = place }) after) (sym (own_from_is old ∙ stands)) took

-- A write of what is owed.

-- how many bytes the buffer took
taken_so : (before after : Buffer) (bytes : List ℕ) (reply : FileReply) → AnswersAsBuffer before (Write bytes) reply after → (takes : Takes (stream_shown before) bytes (stream_shown after)) → after.taken ≡ takes.taken
taken_so before after bytes reply answers takes = omega (arith, answers.taken, takes.place)

-- the bytes of the text, with what is owed laid behind what the buffer has
bytes_so : (before after : Buffer) (bytes : List ℕ) (reply : FileReply) → AnswersAsBuffer before (Write bytes) reply after → Takes (stream_shown before) bytes (stream_shown after) → WhereShown before (lay (flat_of after).bytes after.place (drop after.taken bytes) ≡ lay (flat_of before).bytes before.place bytes)
bytes_so before after bytes reply answers takes = λ told.
    let laid = takes.told told in
    let taken : after.taken ≡ takes.taken = taken_so before after bytes reply answers takes in
    ap (λ (all : List ℕ). lay all after.place (drop after.taken bytes)) laid.3
    ∙ (ap (λ (at : ℕ). lay (lay (flat_of before).bytes before.place (take laid.0 bytes)) at (drop after.taken bytes)) takes.place
    ∙ (ap (λ (count : ℕ). lay (lay (flat_of before).bytes before.place (take laid.0 bytes)) (before.place + takes.taken) (drop count bytes)) taken
    ∙ lay_resumes (flat_of before).bytes before.place bytes takes.taken laid.0 laid.1 laid.2))

pub calls_so : (before after : Buffer) (bytes : List ℕ) (reply : FileReply) → AnswersAsBuffer before (Write bytes) reply after → CallsBuffer before after.short (says_fault reply) after
calls_so before after bytes reply answers = record {
  keeps = answers.keeps;
  wait = answers.causes.waits;
  fault = answers.causes.faults;
  faults = λ exact sound. (answers.counted exact).faults sound;
  stands = λ stood. answers.stands;
}

written_from : (view : WrittenView) → StandsToWrite view.text → all_from (over_of view) ≡ view.text.buffer.place - length view.text.buffer.owed.bytes
written_from view stands = omega (arith, ap (λ (place : TextPlace). place.at) (clean_place view.text view.pending stands), length-append view.text.buffer.owed.bytes view.pending)

-- a front is laid on of what the buffer owed and of what it was handed
handed_lays : (old new : WrittenView) → StandsToWrite old.text → OwesUpTo old.text.buffer.owed old.text.buffer.place → WhereShown old.text.buffer (BufferLays old.text.buffer old.pending new.text.buffer.raw.bytes) → LaysOwed (over_of old) (all_owed (over_of old) ++ []) (over_of new)
handed_lays old new was ends lays = λ told.
    subst (λ (owed : List ℕ). LaysFront old.text.buffer.raw.bytes (all_from (over_of old)) owed new.text.buffer.raw.bytes) (sym (append-nil (all_owed (over_of old))))
    (subst (λ (from : ℕ). LaysFront old.text.buffer.raw.bytes from (all_owed (over_of old)) new.text.buffer.raw.bytes) (sym (written_from old was))
    (lays_both old.text.buffer.raw.bytes old.text.buffer.owed old.text.buffer.place old.pending new.text.buffer.raw.bytes ends (lays told)))

pub hands_so : (old new : WrittenView) (reply : FileReply) → OwesUpTo old.text.buffer.owed old.text.buffer.place → AnswersAsBuffer old.text.buffer (Write old.pending) reply new.text.buffer → Takes (stream_shown old.text.buffer) old.pending (stream_shown new.text.buffer) → StandsToWrite old.text → StandsBehind old.text new.text → new.pending ≡ drop new.text.buffer.taken old.pending → old.text.buffer.life ≡ life.Live → (new.text.buffer.life ≡ life.Live) ⊎ (new.text.buffer.life ≡ life.Failed) → HandsOn old new.text.buffer.short (says_fault reply) new
hands_so old new reply ends answers takes was stands left live after =
    let taken = taken_so old.text.buffer new.text.buffer old.pending reply answers takes in
    let size : new.text.buffer.place + length new.pending ≡ old.text.buffer.place + length old.pending = omega (arith, ap length left, length-drop new.text.buffer.taken old.pending, taken, takes.within, takes.place) in
    record {
      calls = calls_so old.text.buffer new.text.buffer old.pending reply answers;
      bytes = λ told. ap (λ (owed : List ℕ). lay (flat_of new.text.buffer).bytes new.text.buffer.place owed) left ∙ bytes_so old.text.buffer new.text.buffer old.pending reply answers takes told;
      place = clean_place new.text new.pending (stands.clean, stands.at, stands.front ∙ was.2) ∙ (ap (λ (at : ℕ). clean_at at Unknown) size ∙ sym (clean_place old.text old.pending was));
      settings = stands.settings;
      owes = subst (λ (own : List ℕ). PassesOwed old.text.buffer.raw (old.text.buffer.owed.bytes ++ old.pending) new.text.buffer.raw (new.text.buffer.owed.bytes ++ own)) (sym left) (takes_passed old.text.buffer new.text.buffer old.pending new.text.buffer.taken takes taken);
      lays = handed_lays old new was ends answers.lays;
      stays = open_of old.text.buffer new.text.buffer live after (answers.stays refl);
    }

-- What the buffer answered.

-- a live buffer that is buffered takes all of a write that it answers
takes_all : (buffering : Buffering) (bytes : List ℕ) (count : ℕ) → TakesOf (size_shown buffering) bytes count → count ≡ length bytes
takes_all (Buffered holds) bytes count takes = takes
takes_all Unbuffered bytes count takes = takes
takes_all InMemory bytes count takes = takes

drop_rest : (count : ℕ) (bytes : List ℕ) → length bytes ≤ count → drop count bytes ≡ []
drop_rest count bytes most = drop_all count bytes most

-- where the buffer answered, nothing is owed any more
all_taken : (old new : WrittenView) (count : ℕ) → AnswersAsBuffer old.text.buffer (Write old.pending) (Count count) new.text.buffer → new.pending ≡ drop new.text.buffer.taken old.pending → new.pending ≡ []
all_taken old new count answers left =
    let all : count ≡ length old.pending = takes_all old.text.buffer.buffering old.pending count answers.moves.place.0 in
    left ∙ drop_rest new.text.buffer.taken old.pending (omega (arith, all, answers.moves.place.1, answers.taken))

some_left : (count : ℕ) (bytes : List ℕ) → count < length bytes → drop count bytes ≢ []
some_left count bytes less none = absurd (omega (arith, ap length none, length-drop count bytes))

never_memory : (file : FlatFile) (bytes : List ℕ) (why : IoFault) → refusal file (Write bytes) ≡ Some why → why ≡ fault.NoMemory → ⊥
never_memory file bytes why is same = absurd (grind arith)

memory_settled : (file after : FlatFile) (bytes : List ℕ) (refused : Option IoFault) → refusal file (Write bytes) ≡ refused → SettledBy file (Write bytes) refused (Refused fault.NoMemory) after → ⊥
memory_settled file after bytes (Some why) is left = never_memory file bytes why is (let same : Refused fault.NoMemory ≡ Refused why = left.0 in cc)
memory_settled file after bytes None is carried = absurd (grind arith)

-- running out of memory left a live flat file as it was
starves_flat : (file after : FlatFile) (bytes : List ℕ) (short : Bool) → after.life ≡ life.Live → BinaryStep file (Write bytes) (Refused fault.NoMemory) short false after → after.bytes ≡ file.bytes
starves_flat file after bytes short lives (settled by) = absurd (memory_settled file after bytes (refusal file (Write bytes)) refl by)
starves_flat file after bytes short lives (waited_for waited by) = absurd (grind arith)
starves_flat file after bytes short lives (raw_faulted faults says left) = absurd (cc)
starves_flat file after bytes short lives (out_of_memory says left) = by_life left.1
  where
    by_life : (after ≡ file) ⊎ FailsMidway file (Write bytes) after → after.bytes ≡ file.bytes
    by_life (inl same) = ap (λ (own : FlatFile). own.bytes) same
    by_life (inr fails) = let never : life.Live ≡ life.Failed = sym lives ∙ fails.3.life_is in absurd (cc)

-- a write that ran out of memory left the life, or failed the stream
starves_write : (buffering : Buffering) (bytes : List ℕ) (before after : Life) → LifeMoves (size_shown buffering) (Write bytes) (Refused fault.NoMemory) before after → (after ≡ before) ⊎ (after ≡ life.Failed)
starves_write (Buffered holds) bytes before after moves = moves
starves_write Unbuffered bytes before after moves = moves
starves_write InMemory bytes before after moves = moves

-- a write of which nothing was taken passed on what the buffer owed itself
none_taken : (before after : Buffer) (bytes : List ℕ) → Takes (stream_shown before) bytes (stream_shown after) → after.place ≡ before.place → PassesOwed before.raw before.owed.bytes after.raw after.owed.bytes
none_taken before after bytes takes place =
    let none : takes.taken ≡ 0 = omega (arith, place, takes.place) in
    record {
      passed = takes.passed;
      most = omega (arith, takes.most, none);
      answered = takes.answered;
      rest = takes.owed ∙ (ap (λ (count : ℕ). drop takes.passed (before.owed.bytes ++ take count bytes)) none ∙ ap (drop takes.passed) (append-nil before.owed.bytes));
    }

-- what was written is handed on, or what isn't taken is owed still
pub settled_so : (old new : WrittenView) (result : Result ℕ IoFault) → OwesUpTo old.text.buffer.owed old.text.buffer.place → old.life ≡ life.Live → AnswersAsBuffer old.text.buffer (Write old.pending) (count_reply result) new.text.buffer → Takes (stream_shown old.text.buffer) old.pending (stream_shown new.text.buffer) → StandsToWrite old.text → StandsBehind old.text new.text → new.pending ≡ drop new.text.buffer.taken old.pending → old.text.buffer.can.writable ≡ true → old.text.buffer.life ≡ life.Live → old.text.buffer.exported ≡ false → old.text.buffer.place + length old.pending ≤ greatest_place → new.life ≡ new.text.buffer.life → SettleOutcome old (unit_of result) new
settled_so old new (Ok count) ends live answers takes was stands left writes lives kept far current =
    let short : new.text.buffer.short ≡ false = answers.shorts in
    (subst (λ (waited : Bool). HandsOn old waited false new) short (hands_so old new (Count count) ends answers takes was stands left lives (inl (answers.moves.life_is ∙ lives))), all_taken old new count answers left, current ∙ (answers.moves.life_is ∙ lives), subst (λ (n : ℕ). AnswersAsBuffer old.text.buffer (Write old.pending) (Count n) new.text.buffer) (takes_all old.text.buffer.buffering old.pending count answers.moves.place.0) answers)
settled_so old new (Err (fault.WouldBlock taken)) ends live answers takes was stands left writes lives kept far current =
    let short : new.text.buffer.short ≡ true = answers.shorts in
    let count : new.text.buffer.taken ≡ taken = omega (arith, answers.moves.place.1, answers.taken) in (
      subst (λ (waited : Bool). HandsOn old waited false new) short (hands_so old new (Refused (fault.WouldBlock taken)) ends answers takes was stands left lives (inl (answers.moves.life_is ∙ lives))),
      (λ none. some_left new.text.buffer.taken old.pending (omega (arith, count, answers.moves.place.0)) (sym left ∙ none)),
      current ∙ (answers.moves.life_is ∙ lives),
      writes,
      answers.full,
    )
settled_so old new (Err fault.RawFault) ends live answers takes was stands left writes lives kept far current =
    let short : new.text.buffer.short ≡ false = answers.shorts in
    (subst (λ (waited : Bool). HandsOn old waited true new) short (hands_so old new (Refused fault.RawFault) ends answers takes was stands left lives (inr answers.moves.life_is)), current ∙ answers.moves.life_is)
settled_so old new (Err fault.NoMemory) ends live answers takes was stands left writes lives kept far current =
    let short : new.text.buffer.short ≡ false = answers.shorts in
    (subst (λ (waited : Bool). HandsOn old waited false new) short (hands_so old new (Refused fault.NoMemory) ends answers takes was stands left lives (alive (starves_write old.text.buffer.buffering old.pending old.text.buffer.life new.text.buffer.life answers.moves.life_is))), answers.wants refl refl, starved (starves_write old.text.buffer.buffering old.pending old.text.buffer.life new.text.buffer.life answers.moves.life_is))
  where
    alive : (new.text.buffer.life ≡ old.text.buffer.life) ⊎ (new.text.buffer.life ≡ life.Failed) → (new.text.buffer.life ≡ life.Live) ⊎ (new.text.buffer.life ≡ life.Failed)
    alive (inl same) = inl (same ∙ lives)
    alive (inr failed) = inr failed

    starved : (new.text.buffer.life ≡ old.text.buffer.life) ⊎ (new.text.buffer.life ≡ life.Failed) → TakesNothing old new ⊎ ((new.life ≡ life.Failed) × (old.text.buffer.can.writable ≡ true) × FailedWithOwn (over_of old) (over_of new))
    starved (inr failed) = inr (current ∙ failed, writes, (failed, took_from old (stream_shown new.text.buffer) was.1 (answers.starves refl refl failed)))
    starved (inl same) =
        let lives_on : new.text.buffer.life ≡ life.Live = same ∙ lives in
        let place : new.text.buffer.place ≡ old.text.buffer.place = subst (λ (own : Life). PlaceStarves own (Some (length old.pending)) old.text.buffer.place new.text.buffer.place) lives_on answers.moves.place in
        let none : new.text.buffer.taken ≡ 0 = omega (arith, place, answers.taken) in
        inl (record {
          lives = current ∙ lives_on;
          stands = (stands.clean, stands.at, stands.front ∙ was.2);
          pending = left ∙ ap (λ (count : ℕ). drop count old.pending) none;
          place = place;
          flat = λ told. starves_flat (flat_of old.text.buffer) (flat_of new.text.buffer) old.pending new.text.buffer.short lives_on (answers.told (rw kept refl) told);
          owes = none_taken old.text.buffer new.text.buffer old.pending takes place;
        })
settled_so old new (Err other) ends live answers takes was stands left writes lives kept far current = absurd (answers.answer (accepts_write old.text.buffer old.pending lives writes kept far).0)

-- What holds of every text, after its buffer took some of what it owed.

pub some_pending : (size : ℕ) (pending : List ℕ) → size ≡ length pending → false ≡ nat_eq size 0 → pending ≢ []
some_pending size [] is tested none = absurd (grind arith)
some_pending size (byte ∷ more) is tested none = absurd (cc)

pub stands_so : (text : TextView) (pending : List ℕ) (current : Life) → IsWritten text pending current → pending ≢ [] → StandsToWrite text
stands_so text pending current is some = by_stands is.stands
  where
    by_stands : (pending ≡ []) ⊎ StandsToWrite text → StandsToWrite text
    by_stands (inl none) = absurd (some none)
    by_stands (inr stands) = stands

pub writes_so : (text : TextView) (pending : List ℕ) (current : Life) → IsWritten text pending current → pending ≢ [] → text.buffer.can.writable ≡ true
writes_so text pending current is some = by_writes text.buffer.can.writable refl
  where
    by_writes : (writes : Bool) → text.buffer.can.writable ≡ writes → text.buffer.can.writable ≡ true
    by_writes true says = says
    by_writes false says = absurd (some (is.unwritten says).0)

pub written_passed : (old new : TextView) (pending left : List ℕ) (reply : FileReply) (before after : Life) → IsWritten old pending before → pending ≢ [] → AnswersAsBuffer old.buffer (Write pending) reply new.buffer → Takes (stream_shown old.buffer) pending (stream_shown new.buffer) → StandsBehind old new → left ≡ drop new.buffer.taken pending → (after ≡ life.Live → new.buffer.life ≡ life.Live) → IsJoined (read_of new) → IsWritten new left after
written_passed old new pending left reply before after is some answers takes stands left_is lives joined =
    let taken = taken_so old.buffer new.buffer pending reply answers takes in
    let was = stands_so old pending before is some in
    record {
      kept = answers.keeps.exported ∙ is.kept;
      asks = subst (λ (settings : TextSettings). 0 < settings.chunk_size) (sym stands.settings) is.asks;
      clean = λ dirty. (stands.clean.taken, stands.front ∙ was.2);
      handler = λ writes. ap (λ (settings : TextSettings). writes_texts settings.handler) stands.settings ∙ is.handler (sym (ap (λ (can : Abilities). can.writable) answers.keeps.can) ∙ writes);
      lives = lives;
      stands = inr (stands.clean, stands.at, stands.front ∙ was.2);
      joined = joined;
      far = omega (arith, is.far, ap length left_is, length-drop new.buffer.taken pending, taken, takes.within, takes.place);
      unwritten = λ never. absurd (some (is.unwritten (sym (ap (λ (can : Abilities). can.writable) answers.keeps.can) ∙ never)).0);
    }

abbrev pub view_of : TextView → List ℕ → ℕ → Life → WrittenView
view_of text pending room current = record { text = text; pending = pending; room = room; life = current }

pub settled_at : (now : WrittenView) (old new : TextView) (pending left : List ℕ) (room more : ℕ) (before after : Life) (result : Result ℕ IoFault) → view_of old pending room before ≡ now → IsWritten old pending before → pending ≢ [] → now.life ≡ life.Live → AnswersAsBuffer old.buffer (Write pending) (count_reply result) new.buffer → Takes (stream_shown old.buffer) pending (stream_shown new.buffer) → StandsBehind old new → left ≡ drop new.buffer.taken pending → after ≡ new.buffer.life → SettleOutcome now (unit_of result) (view_of new left more after)
settled_at now old new pending left room more before after result same is some live answers takes stands left_is current =
    let lives : before ≡ life.Live = ap (λ (view : WrittenView). view.life) same ∙ live in
    subst (λ (view : WrittenView). SettleOutcome view (unit_of result) (view_of new left more after)) same
    (settled_so (view_of old pending room before) (view_of new left more after) result is.joined.below lives answers takes (stands_so old pending before is some) stands left_is (writes_so old pending before is some) (is.lives lives) is.kept is.far current)

-- what a text and its buffer owe stands in one piece
pub joined_with : (text : TextView) (pending : List ℕ) (room : ℕ) (current : Life) → IsWritten text pending current → IsJoined (over_of (view_of text pending room current))
joined_with text [] room current is = joined_in current is.lives is.joined
joined_with text (byte ∷ more) room current is =
    let stands = stands_so text (byte ∷ more) current is (λ none. absurd (cc)) in
    record { below = is.joined.below; stands = inr (omega (arith, stands.1)); behind = omega (arith, is.joined.behind); far = is.far; few = omega (arith, stands.0.taken); lives = is.lives }

-- a text that owes nothing itself, seen by its parts and as the text that reads is
pub state_same : (text : TextView) (pending : List ℕ) (room : ℕ) (current : Life) (short : Bool) → pending ≡ [] → current ≡ text.buffer.life → read_state text short ≡ state_of (view_of text pending room current) short
state_same text pending room current short none lives =
    subst (λ (owed : List ℕ). read_state text short ≡ state_of (view_of text owed room current) short) (sym none)
    (subst (λ (own : Life). read_state text short ≡ state_of (view_of text [] room own) short) (sym lives) refl)

-- what the text that reads answered, of one that owes nothing itself
pub text_answers : (now : WrittenView) (old new : TextView) (pending : List ℕ) (room more : ℕ) (before after : Life) (call : TextFileCall) (reply : FileReply) (short : Bool) → view_of old pending room before ≡ now → IsWritten old pending before → now.life ≡ life.Live → now.pending ≡ [] → after ≡ new.buffer.life → Answers (read_state old false) call reply (read_state new short) → Answers (state_of now false) call reply (state_of (view_of new pending more after) short)
text_answers now old new pending room more before after call reply short same is live owes current answers =
    let lives : before ≡ life.Live = ap (λ (view : WrittenView). view.life) same ∙ live in
    let none : pending ≡ [] = ap (λ (view : WrittenView). view.pending) same ∙ owes in
    subst (λ (view : WrittenView). Answers (state_of view false) call reply (state_of (view_of new pending more after) short)) same
    (subst (λ (state : TextState). Answers state call reply (state_of (view_of new pending more after) short)) (state_same old pending room before false none (lives ∙ sym (is.lives lives)))
    (subst (Answers (read_state old false) call reply) (state_same new pending more after short none current) answers))

pub joined_bare : (text : TextView) (pending : List ℕ) (room : ℕ) (current : Life) → pending ≡ [] → (current ≡ life.Live → text.buffer.life ≡ life.Live) → IsJoined (read_of text) → IsJoined (over_of (view_of text pending room current))
joined_bare text pending room current none lives joined = subst (λ (owed : List ℕ). IsJoined (over_of (view_of text owed room current))) (sym none) (joined_in current lives joined)

-- Going back to the place.

pub kept_place : (old new : TextView) → KeepsPlace old new → place_of new ≡ place_of old
kept_place old new place = rw (place.front, place.at, place.taken, place.dirty) refl

back_bytes : (old new : TextView) (pending : List ℕ) (current : Life) → IsWritten old pending current → KeepsPlace old new → (new.at ≡ new.buffer.place) ⊎ (new.buffer.place ≡ old.buffer.place) → (flat_of new.buffer).bytes ≡ (flat_of old.buffer).bytes → lay (flat_of new.buffer).bytes new.buffer.place pending ≡ lay (flat_of old.buffer).bytes old.buffer.place pending
back_bytes old new [] current is place there flat = flat
back_bytes old new (byte ∷ more) current is place there flat =
    let stands = stands_so old (byte ∷ more) current is (λ none. absurd (cc)) in
    ap (λ (bytes : List ℕ). lay bytes new.buffer.place (byte ∷ more)) flat ∙ ap (λ (at : ℕ). lay (flat_of old.buffer).bytes at (byte ∷ more)) (same there stands.1)
  where
    same : (new.at ≡ new.buffer.place) ⊎ (new.buffer.place ≡ old.buffer.place) → old.at ≡ old.buffer.place → new.buffer.place ≡ old.buffer.place
    same (inl now) was = omega (arith, now, was, place.at)
    same (inr still) was = still

pub hands_back : (old new : TextView) (pending : List ℕ) (room more : ℕ) (before after : Life) (faulted : Bool) → IsWritten old pending before → KeepsPlace old new → (new.at ≡ new.buffer.place) ⊎ (new.buffer.place ≡ old.buffer.place) → LeavesFlat old.buffer faulted new.buffer → old.buffer.life ≡ life.Live → HandsOn (view_of old pending room before) false faulted (view_of new pending more after)
hands_back old new pending room more before after faulted is place there leaves live = record {
  calls = record { keeps = leaves.keeps; wait = λ waits. absurd (cc); fault = leaves.fault; faults = leaves.faults; stands = leaves.stands };
  bytes = λ told. back_bytes old new pending before is place there (leaves.bytes told);
  place = ap (λ (own : TextPlace). behind_owed own pending) (kept_place old new place);
  settings = place.settings;
  owes = record { passed = 0; most = omega arith; answered = leaves.answered; rest = ap (λ (owed : List ℕ). owed ++ pending) leaves.owed };
  lays = λ told. lays_none old.buffer.raw.bytes (all_from (over_of (view_of old pending room before))) _ new.buffer.raw.bytes (leaves.raw_bytes told);
  stays = open_called old.buffer new.buffer faulted live leaves.life_is leaves.stays;
}

-- the buffer went back
pub went_back : (now : WrittenView) (old new : TextView) (pending : List ℕ) (room more : ℕ) (before after : Life) → view_of old pending room before ≡ now → IsWritten old pending before → now.life ≡ life.Live → KeepsPlace old new → ReturnOutcome old (Ok tt) new → old.dirty ≡ false → after ≡ before → BackOutcome now (Ok tt) (view_of new pending more after)
went_back now old new pending room more before after same is live place outcome clean current =
    let lives : before ≡ life.Live = ap (λ (view : WrittenView). view.life) same ∙ live in
    subst (λ (view : WrittenView). BackOutcome view (Ok tt) (view_of new pending more after)) same
    (record {
      hands = hands_back old new pending room more before after false is place (inl outcome.0) outcome.1 (is.lives lives);
      owed = outcome.1.owed;
      answered = outcome.1.answered;
      raw_bytes = outcome.1.raw_bytes;
      lives = current ∙ lives;
      pending = refl;
      stands = (record { taken = place.taken ∙ (is.clean clean).0; dirty = place.dirty ∙ clean }, outcome.0, place.front ∙ (is.clean clean).1);
      still = outcome.2;
    })

-- what holds of every text, after its buffer went back, or failed to
pub written_back : (old new : TextView) (pending : List ℕ) (before after : Life) (faulted : Bool) → IsWritten old pending before → before ≡ life.Live → KeepsPlace old new → (new.at ≡ new.buffer.place) ⊎ (new.buffer.place ≡ old.buffer.place) → LeavesFlat old.buffer faulted new.buffer → old.buffer.can.writable ≡ true → after ≡ new.buffer.life → IsJoined (read_of new) → IsWritten new pending after
written_back old new pending before after faulted is live place there leaves writes current joined = record {
  kept = leaves.keeps.exported ∙ is.kept;
  asks = subst (λ (settings : TextSettings). 0 < settings.chunk_size) (sym place.settings) is.asks;
  clean = λ dirty. let was = is.clean (sym place.dirty ∙ dirty) in (place.taken ∙ was.0, place.front ∙ was.1);
  handler = λ can. ap (λ (settings : TextSettings). writes_texts settings.handler) place.settings ∙ is.handler writes;
  lives = λ lives. sym current ∙ lives;
  stands = stood is.stands;
  joined = joined;
  far = omega (arith, is.far, most is.stands);
  unwritten = λ never. let not : true ≡ false = sym writes ∙ (sym (ap (λ (can : Abilities). can.writable) leaves.keeps.can) ∙ never) in absurd (cc);
}
  where
    stood : (pending ≡ []) ⊎ StandsToWrite old → (pending ≡ []) ⊎ StandsToWrite new
    stood (inl none) = inl none
    stood (inr stands) = inr (record { taken = place.taken ∙ stands.0.taken; dirty = place.dirty ∙ stands.0.dirty }, omega (arith, at_place there stands.1), place.front ∙ stands.2)
      where
        at_place : (new.at ≡ new.buffer.place) ⊎ (new.buffer.place ≡ old.buffer.place) → old.at ≡ old.buffer.place → new.at ≡ new.buffer.place
        at_place (inl now) was = now
        at_place (inr still) was = omega (arith, still, place.at, was)

    most : (pending ≡ []) ⊎ StandsToWrite old → new.buffer.place + length pending ≤ greatest_place
    most (inl none) = omega (arith, ap length none, leaves.far)
    most (inr stands) = omega (arith, is.far, near there, stands.1, place.at)
      where
        near : (new.at ≡ new.buffer.place) ⊎ (new.buffer.place ≡ old.buffer.place) → new.buffer.place ≡ old.buffer.place
        near (inl now) = omega (arith, now, place.at, stands.1)
        near (inr still) = still

pub not_back : (now : WrittenView) (old new : TextView) (pending : List ℕ) (room more : ℕ) (before after : Life) (why : IoFault) → view_of old pending room before ≡ now → IsWritten old pending before → now.life ≡ life.Live → KeepsPlace old new → ReturnOutcome old (Err why) new → after ≡ new.buffer.life → BackOutcome now (Err why) (view_of new pending more after)
not_back now old new pending room more before after fault.RawFault same is live place outcome current =
    (subst (λ (view : WrittenView). HandsOn view false true (view_of new pending more after)) same (hands_back old new pending room more before after true is place (inr outcome.1) outcome.0 (is.lives (ap (λ (view : WrittenView). view.life) same ∙ live))), current ∙ outcome.0.life_is, subst (λ (view : WrittenView). view.text.at ≢ view.text.buffer.place) same outcome.2, ap (λ (at : ℕ). at + length pending) outcome.1 ∙ ap (λ (view : WrittenView). behind_own (over_of view)) same)
not_back now old new pending room more before after fault.NoMemory same is live place outcome current =
    (subst (λ (view : WrittenView). HandsOn view false false (view_of new pending more after)) same (hands_back old new pending room more before after false is place (inr outcome.1) outcome.0 (is.lives (ap (λ (view : WrittenView). view.life) same ∙ live))), current ∙ (outcome.0.life_is ∙ is.lives (ap (λ (view : WrittenView). view.life) same ∙ live)))
not_back now old new pending room more before after other same is live place outcome current = absurd outcome

pub unback_written : (old new : TextView) (pending : List ℕ) (before after : Life) (why : IoFault) → IsWritten old pending before → before ≡ life.Live → KeepsPlace old new → ReturnOutcome old (Err why) new → old.buffer.can.writable ≡ true → after ≡ new.buffer.life → IsJoined (read_of new) → IsWritten new pending after
unback_written old new pending before after fault.RawFault is live place outcome writes current joined = written_back old new pending before after true is live place (inr outcome.1) outcome.0 writes current joined
unback_written old new pending before after fault.NoMemory is live place outcome writes current joined = written_back old new pending before after false is live place (inr outcome.1) outcome.0 writes current joined
unback_written old new pending before after other is live place outcome writes current joined = absurd outcome

-- Passing on.

pub hands_itself : (view : WrittenView) → HandsOn view false false view
hands_itself view = record {
  calls = record { keeps = record { raw = keeps_same view.text.buffer.raw; can = refl; buffering = refl; exported = refl }; wait = λ waits. absurd (cc); fault = λ faults. absurd (cc); faults = λ exact sound. refl; stands = λ stood. stood };
  bytes = λ told. refl;
  place = refl;
  settings = refl;
  owes = passes_none view.text.buffer.raw (all_owed (over_of view));
  lays = lays_still (over_of view) _;
  stays = open_still view.text.buffer;
}

pub flush_calls : (before after : Buffer) (reply : FileReply) → AnswersAsBuffer before Flush reply after → CallsBuffer before after.short (says_fault reply) after
flush_calls before after reply answers = record {
  keeps = answers.keeps;
  wait = answers.causes.waits;
  fault = answers.causes.faults;
  faults = λ exact sound. (answers.counted exact).faults sound;
  stands = λ stood. answers.stands;
}

pub hands_flush : (old new : TextView) (pending : List ℕ) (room more : ℕ) (before after : Life) (reply : FileReply) → IsJoined (over_of (view_of old pending room before)) → pending ≡ [] → old.buffer.exported ≡ false → KeepsPlace old new → AnswersAsBuffer old.buffer Flush reply new.buffer → old.buffer.life ≡ life.Live → (new.buffer.life ≡ life.Live) ⊎ (new.buffer.life ≡ life.Failed) → HandsOn (view_of old pending room before) new.buffer.short (says_fault reply) (view_of new pending more after)
hands_flush old new pending room more before after reply was none kept place answers live lives = record {
  calls = flush_calls old.buffer new.buffer reply answers;
  bytes = λ told.
      ap (λ (owed : List ℕ). lay (flat_of new.buffer).bytes new.buffer.place owed) none
      ∙ (flush_flat (flat_of old.buffer) (flat_of new.buffer) reply new.buffer.short (says_fault reply) (answers.told (rw kept refl) told)
      ∙ sym (ap (λ (owed : List ℕ). lay (flat_of old.buffer).bytes old.buffer.place owed) none));
  place = ap (λ (own : TextPlace). behind_owed own pending) (kept_place old new place);
  settings = place.settings;
  owes = passes_behind old.buffer.raw new.buffer.raw old.buffer.owed.bytes new.buffer.owed.bytes pending (front_passes old.buffer new.buffer answers.owes);
  lays = λ told. lays_owed (over_of (view_of old pending room before)) [] new.buffer.raw.bytes was (lays_alone old.buffer new.buffer was.below answers.lays told);
  stays = open_of old.buffer new.buffer live lives (answers.stays refl);
}

pub passed_all : (now : WrittenView) (old new : TextView) (pending : List ℕ) (room more count : ℕ) (before after : Life) → view_of old pending room before ≡ now → IsWritten old pending before → now.life ≡ life.Live → now.pending ≡ [] → KeepsPlace old new → AnswersAsBuffer old.buffer Flush Done new.buffer → after ≡ life.Live → PassOutcome now count (Ok tt) (view_of new pending more after)
passed_all now old new pending room more count before after same is live owes place answers lives =
    let none : pending ≡ [] = ap (λ (view : WrittenView). view.pending) same ∙ owes in
    let live_buffer : old.buffer.life ≡ life.Live = is.lives (ap (λ (view : WrittenView). view.life) same ∙ live) in
    let short : new.buffer.short ≡ false = answers.shorts in
    let asks : 0 < new.settings.chunk_size = subst (λ (settings : TextSettings). 0 < settings.chunk_size) (sym place.settings) is.asks in (
      subst (λ (view : WrittenView). HandsOn view false false (view_of new pending more after)) same (subst (λ (waited : Bool). HandsOn (view_of old pending room before) waited false (view_of new pending more after)) short (hands_flush old new pending room more before after Done (joined_with old pending room before is) none is.kept place answers live_buffer (inl (answers.moves.life_is ∙ live_buffer)))),
      lives,
      record { few = omega (arith, ap length none, asks); none = λ through. none },
      record { own = none; none = answers.passes.0.none; holds = λ told. all_passed new.buffer answers.passes.0.none ∙ sym (ap (λ (owed : List ℕ). lay (flat_of new.buffer).bytes new.buffer.place owed) none) },
    )

-- the raw would have blocked before the buffer had passed on all
pub passed_blocked : (now : WrittenView) (old new : TextView) (pending : List ℕ) (room more count taken : ℕ) (before after : Life) → view_of old pending room before ≡ now → IsWritten old pending before → now.life ≡ life.Live → now.pending ≡ [] → KeepsPlace old new → AnswersAsBuffer old.buffer Flush (Refused (fault.WouldBlock taken)) new.buffer → after ≡ life.Live → PassOutcome now count (Err (fault.WouldBlock count)) (view_of new pending more after)
passed_blocked now old new pending room more count taken before after same is live owes place answers lives =
    let none : pending ≡ [] = ap (λ (view : WrittenView). view.pending) same ∙ owes in
    let live_buffer : old.buffer.life ≡ life.Live = is.lives (ap (λ (view : WrittenView). view.life) same ∙ live) in
    let short : new.buffer.short ≡ true = answers.shorts in (
      subst (λ (view : WrittenView). HandsOn view true false (view_of new pending more after)) same (subst (λ (waited : Bool). HandsOn (view_of old pending room before) waited false (view_of new pending more after)) short (hands_flush old new pending room more before after (Refused (fault.WouldBlock taken)) (joined_with old pending room before is) none is.kept place answers live_buffer (inl (answers.moves.life_is ∙ live_buffer)))),
      lives,
      refl,
      record { full = λ some. absurd (some none); some = λ gives own. answers.full.1 },
    )

pub passed_waits : (now : WrittenView) (old new : TextView) (pending : List ℕ) (room more count : ℕ) (before after : Life) (why : IoFault) → view_of old pending room before ≡ now → IsWritten old pending before → now.life ≡ life.Live → now.pending ≡ [] → KeepsPlace old new → AnswersAsBuffer old.buffer Flush (Refused why) new.buffer → says_wait (Refused why) ≡ true → after ≡ before → PassOutcome now count (Err (with_taken why count)) (view_of new pending more after)
passed_waits now old new pending room more count before after (fault.WouldBlock taken) same is live owes place answers waits current = passed_blocked now old new pending room more count taken before after same is live owes place answers (current ∙ (ap (λ (view : WrittenView). view.life) same ∙ live))
passed_waits now old new pending room more count before after other same is live owes place answers waits current = absurd (cc)

-- the raw failed as the buffer passed on
pub passed_faulted : (now : WrittenView) (old new : TextView) (pending : List ℕ) (room more count : ℕ) (before after : Life) (why : IoFault) → view_of old pending room before ≡ now → IsWritten old pending before → now.life ≡ life.Live → now.pending ≡ [] → KeepsPlace old new → AnswersAsBuffer old.buffer Flush (Refused why) new.buffer → says_fault (Refused why) ≡ true → after ≡ life.Failed → PassOutcome now count (Err fault.RawFault) (view_of new pending more after)
passed_faulted now old new pending room more count before after fault.RawFault same is live owes place answers faults failed =
    let none : pending ≡ [] = ap (λ (view : WrittenView). view.pending) same ∙ owes in
    let live_buffer : old.buffer.life ≡ life.Live = is.lives (ap (λ (view : WrittenView). view.life) same ∙ live) in
    let short : new.buffer.short ≡ false = answers.shorts in
    (subst (λ (view : WrittenView). HandsOn view false true (view_of new pending more after)) same (subst (λ (waited : Bool). HandsOn (view_of old pending room before) waited true (view_of new pending more after)) short (hands_flush old new pending room more before after (Refused fault.RawFault) (joined_with old pending room before is) none is.kept place answers live_buffer (inr answers.moves.life_is))), failed)
passed_faulted now old new pending room more count before after other same is live owes place answers faults failed = absurd (cc)

pub hands_on : (old mid new : WrittenView) (waited faulted : Bool) → IsJoined (over_of old) → IsJoined (over_of mid) → HandsOn old false false mid → HandsOn mid waited faulted new → HandsOn old waited faulted new
hands_on old mid new waited faulted was is first second = record {
  calls = calls_on old.text.buffer mid.text.buffer new.text.buffer waited faulted first.calls second.calls;
  bytes = λ told. second.bytes (tells_still old.text.buffer.raw mid.text.buffer.raw first.calls.keeps.raw ∙ told) ∙ first.bytes told;
  place = second.place ∙ first.place;
  settings = second.settings ∙ first.settings;
  owes = passes_then old.text.buffer.raw mid.text.buffer.raw new.text.buffer.raw (all_owed (over_of old)) (all_owed (over_of mid)) (all_owed (over_of new)) first.calls.keeps.raw first.owes second.owes;
  lays = lays_on (over_of old) (over_of mid) (over_of new) [] was is (ap (λ (place : TextPlace). place.at) first.place) first.calls.keeps.raw first.owes first.bytes first.lays second.lays;
  stays = open_then old.text.buffer mid.text.buffer new.text.buffer first.stays second.stays;
}

-- what is owed couldn't be handed on, and the text isn't as it was
pub handed_not : (old new : WrittenView) (count : ℕ) (why : IoFault) → old.pending ≢ [] → SettleOutcome old (Err why) new → (why ≡ fault.NoMemory → new.life ≢ life.Live) → GivesOutcome old count (Err (with_taken why count)) new
handed_not old new count (fault.WouldBlock taken) some outcome failed = (outcome.0, outcome.2, refl, record { full = λ left. outcome.4; some = λ gives own. absurd (outcome.1 own) })
handed_not old new count fault.RawFault some outcome failed = (outcome.0, outcome.1)
handed_not old new count fault.NoMemory some outcome failed = by_life outcome.2
  where
    by_life : TakesNothing old new ⊎ ((new.life ≡ life.Failed) × (old.text.buffer.can.writable ≡ true) × FailedWithOwn (over_of old) (over_of new)) → GivesOutcome old count (Err fault.NoMemory) new
    by_life (inl nothing) = absurd (failed refl nothing.lives)
    by_life (inr gave) = inl (record { hands = outcome.0; life_is = gave.0; some = some; gave = inl gave.2; takes = outcome.1 })
handed_not old new count other some outcome failed = absurd outcome

-- the buffer took nothing for want of memory, and the last bytes are let go of
pub lets_go : (old mid new : WrittenView) (count room : ℕ) → SettleOutcome old (Err fault.NoMemory) mid → mid.life ≡ life.Live → new ≡ record mid { pending = take (length mid.pending - count) mid.pending; room = room } → LetsGo old count new
lets_go old mid new count room outcome lives is = subst (λ (view : WrittenView). LetsGo old count view) (sym is) (by_life outcome.2)
  where
    left : WrittenView
    left = record mid { pending = take (length mid.pending - count) mid.pending; room = room }

    by_life : TakesNothing old mid ⊎ ((mid.life ≡ life.Failed) × (old.text.buffer.can.writable ≡ true) × FailedWithOwn (over_of old) (over_of mid)) → LetsGo old count left
    by_life (inr failed) = let never : life.Live ≡ life.Failed = sym lives ∙ failed.0 in absurd (cc)
    by_life (inl nothing) =
        let kept : left.pending ≡ kept_of old count = ap (λ (owed : List ℕ). take (length owed - count) owed) nothing.pending in
        record {
          calls = outcome.0.calls;
          lives = lives;
          settings = outcome.0.settings;
          bytes = λ told.
              ap (λ (bytes : List ℕ). lay bytes mid.text.buffer.place left.pending) (nothing.flat told)
              ∙ (ap (λ (at : ℕ). lay (flat_of old.text.buffer).bytes at left.pending) nothing.place
              ∙ ap (lay (flat_of old.text.buffer).bytes old.text.buffer.place) kept);
          place = clean_place mid.text left.pending nothing.stands ∙ ap (λ (at : ℕ). clean_at at Unknown) (omega (arith, nothing.place, ap length kept));
          owes = subst (λ (owed : List ℕ). PassesOwed old.text.buffer.raw (old.text.buffer.owed.bytes ++ kept_of old count) mid.text.buffer.raw (mid.text.buffer.owed.bytes ++ owed)) (sym kept) (passes_behind old.text.buffer.raw mid.text.buffer.raw old.text.buffer.owed.bytes mid.text.buffer.owed.bytes (kept_of old count) nothing.owes);
          lays = outcome.0.lays;
          stays = outcome.0.stays;
        }

pub handed_back : (old mid new : WrittenView) (count : ℕ) (why : IoFault) → why ≡ fault.NoMemory → SettleOutcome old (Err why) mid → mid.life ≡ life.Live → new ≡ record mid { pending = take (length mid.pending - count) mid.pending; room = new.room } → GivesOutcome old count (Err fault.NoMemory) new
handed_back old mid new count why memory outcome lives is = inr (lets_go old mid new count new.room (subst (λ (own : IoFault). SettleOutcome old (Err own) mid) memory outcome) lives is)

-- where no flush was to follow, the buffer was called for one write alone
pub handed_once : (old new : WrittenView) (count : ℕ) (flushes : Bool) (result : Result (Unit {0}) IoFault) → GivesOutcome old count result new → HandsOnOnce old flushes result new
handed_once old new count flushes (Ok done) took = λ is. inr (took.1, took.3)
handed_once old new count flushes (Err why) took = tt

pub both_true : (lines ends : Bool) → lines ≡ true → ends ≡ true → (lines && ends) ≡ true
both_true true true first second = refl
both_true true false first second = absurd (cc)
both_true false ends first second = absurd (cc)

-- where both are, the second is
pub then_second : (lines ends : Bool) → (lines && ends) ≡ true → ends ≡ true
then_second true ends both = both
then_second false ends both = absurd (cc)
