-- A flush and a close of a text that owes nothing itself, from what its buffer answered.
use Rattle.std.proofs.Common.{◌≡◌, ℕ, ◌+◌, inl, inr, ◌⊎◌, ◌&&◌, Bool, true, false, IsTrue, List, [], ◌∷◌, ◌++◌, length, Option, None, Result, Ok, Err, refl, sym, ap, ◌∙◌, subst, arith}
use Rattle.py_flat.specs.declared.fault.IoFault.{IoFault}
use Rattle.py_flat.specs.declared.fault.IoFault.TheVariants as fault
use Rattle.py_flat.specs.declared.life.Life.{Life}
use Rattle.py_flat.specs.declared.life.Life.TheVariants as life
use Rattle.py_flat.specs.Bytes.{lay}
use Rattle.py_flat.specs.Causes.{counted}
use Rattle.py_flat.specs.FlatFile.{Abilities}
use Rattle.py_flat.specs.ExactStep.{is_closed}
use Rattle.py_flat.specs.AllowedStep.{settled, waited_for, raw_faulted, out_of_memory}
use Rattle.py_flat.specs.Calls.{FileReply, Done, Refused}
use Rattle.py_flat.specs.Calls as binary
use Rattle.py_plain_text.specs.TextFile.{TextFile}
use Rattle.py_plain_text.specs.TextCalls.{TextFileCall, Flush, Close}
use Rattle.py_plain_text.specs.TextRefusals.{refusal}
use Rattle.py_plain_text.specs.TextExact.{in_life}
use Rattle.py_plain_text.specs.TextAllowed.{SettledBy, Fails, TextFileStep}
use Rattle.py_raw.specs.RawStream.{StaysOpen}
use Rattle.py_stream.specs.Kinds.{says_wait, says_fault}
use Rattle.py_stream.specs.Replies.{done_reply}
use Rattle.py_stream.specs.Answers as stream
use Rattle.py_stream.specs.Buffer.{Buffer, flat_of, size_shown, refused_here, parts_when_closed, IsClosedWithRaw, AnswersAsBuffer}
use Rattle.py_read_text.specs.Knowing.{TextView, over_of, state_of, shown_file, place_of}
use Rattle.py_read_text.specs.Owing.{behind_own, Starves, StopsOwing, may_close, KeepsOpen, Closes}
use Rattle.py_read_text.specs.Answers.{IsReplyTo, IsComplete, IsShort, LifeMoves, WantsMemory, IsPassedOn, TextPasses, Answers}
use Rattle.py_read_text.specs.Reading.{KeepsPlace}
use Rattle.py_read_text.proofs.Results.{same_file}
use Rattle.py_read_text.proofs.Placing.{flush_flat, flush_place, close_flat, close_place, text_flushed, text_closed}
use Rattle.py_read_text.proofs.Answering.{Holds}
use Rattle.py_read_text.proofs.Owing.{joined_of, passes_behind, front_passes, owes_none, open_of, attached_in}
use Rattle.py_read_text.proofs.Fronts.{lays_alone, lays_owed}

-- What passes on, in the model: a close, or a flush.

abbrev pub Passing : Bool → TextFileCall
Passing true = Close
Passing false = Flush

-- the life that a fault leaves
abbrev pub faulted_life : Bool → Life
faulted_life true = life.Closed
faulted_life false = life.Failed

pub passes_accepted : (file : TextFile) (closes : Bool) → file.life ≡ life.Live → refusal file (Passing closes) ≡ None
passes_accepted file true live = rw live refl
passes_accepted file false live = rw live refl

-- told: the raw failed, or memory ran out, before the call wrote or read anything
pub fails_still : (file after : TextFile) (current : Life) → after.life ≡ current → after.bytes ≡ file.bytes → after.can ≡ file.can → after.settings ≡ file.settings → Fails file current file.bytes after
fails_still file after current ends bytes can settings = record { life_is = ends; bytes_are = bytes; can = can; settings = settings }

pub wait_step : (file after : TextFile) (closes : Bool) → file.life ≡ life.Live → after ≡ file → TextFileStep file (Passing closes) (Refused (fault.WouldBlock 0)) true false after
wait_step file after true live same = waited_for refl (rw live refl, (refl, same))
wait_step file after false live same = waited_for refl (rw live refl, (refl, same))

pub fault_step : (file after : TextFile) (closes : Bool) → file.life ≡ life.Live → Fails file (faulted_life closes) file.bytes after → TextFileStep file (Passing closes) (Refused fault.RawFault) false true after
fault_step file after true live fails = raw_faulted refl refl (rw live refl, (0, omega arith, fails))
fault_step file after false live fails = raw_faulted refl refl (rw live refl, (0, omega arith, fails))

pub starve_step : (file after : TextFile) (closes : Bool) → file.life ≡ life.Live → (after ≡ file) ⊎ ((file.can.writable ≡ true) × Fails file life.Failed file.bytes after) → TextFileStep file (Passing closes) (Refused fault.NoMemory) false false after
starve_step file after true live (inl same) = out_of_memory refl (inl (rw live refl, same))
starve_step file after true live (inr fails) = out_of_memory refl (inr (rw live refl, (fails.0, (0, omega arith, fails.1))))
starve_step file after false live (inl same) = out_of_memory refl (inl (rw live refl, same))
starve_step file after false live (inr fails) = out_of_memory refl (inr (rw live refl, (fails.0, (0, omega arith, fails.1))))

blocked_step : (file after : TextFile) (closes : Bool) (taken : ℕ) → taken ≡ 0 → file.life ≡ life.Live → after ≡ file → TextFileStep file (Passing closes) (Refused (fault.WouldBlock taken)) true false after
blocked_step file after closes taken none live same = subst (λ (count : ℕ). TextFileStep file (Passing closes) (Refused (fault.WouldBlock count)) true false after) (sym none) (wait_step file after closes live same)

-- What is the same of both.

abbrev with_buffer : TextView → Buffer → TextView
with_buffer text buffer = record text { buffer = buffer }

stays_at : (text : TextView) (after : Buffer) → KeepsPlace text (with_buffer text after)
stays_at text after = record { front = refl; at = refl; taken = refl; dirty = refl; settings = refl }

-- where the buffer stands where it stood, so does the place behind what the text owes, which is nothing
stands_still : (text : TextView) (after : Buffer) → after.place ≡ text.buffer.place → behind_own (over_of (with_buffer text after)) ≡ behind_own (over_of text)
stands_still text after place = ap (λ (at : ℕ). at + length {A = ℕ} []) place

abbrev pair_of : FileReply → TextFile → FileReply × TextFile
pair_of reply file = (reply, file)

counts_most : (short : Bool) (old new : ℕ) → (short ≡ false → new ≡ old) → (short ≡ true → new ≡ counted old 1) → (new ≡ old) ⊎ (new ≡ counted old 1)
counts_most true old new calm once = inr (once refl)
counts_most false old new calm once = inl (calm refl)

whole_reply : (result : Result (Unit {0}) IoFault) → IsShort (done_reply result) (says_wait (done_reply result))
whole_reply (Ok done) = refl
whole_reply (Err (fault.WouldBlock taken)) = refl
whole_reply (Err other) = refl

pub all_passed : (buffer : Buffer) → buffer.owed.bytes ≡ [] → buffer.raw.bytes ≡ (flat_of buffer).bytes
all_passed buffer none = sym (ap (λ (owed : List ℕ). lay buffer.raw.bytes buffer.owed.place owed) none)

-- a text whose buffer owes nothing passed all on
pub passed_on : (text : TextView) (short : Bool) → text.buffer.owed.bytes ≡ [] → IsPassedOn (state_of text short)
passed_on text short none = record { own = refl; none = none; holds = λ told. all_passed text.buffer none }

waits_so : (writes : Bool) → IsTrue (writes && true) → IsTrue writes
waits_so true is = refl
waits_so false is = absurd (cc)

-- Flushing.

pub accepts_flush : (buffer : Buffer) → buffer.life ≡ life.Live → buffer.exported ≡ false → refused_here buffer binary.Flush ≡ None
accepts_flush buffer live kept = rw kept (rw live refl)

flush_short : (result : Result (Unit {0}) IoFault) (short : Bool) → stream.IsShort binary.Flush (done_reply result) short → short ≡ says_wait (done_reply result)
flush_short (Ok done) short is = is
flush_short (Err why) short is = is

flushed_life : (size : Option ℕ) (result : Result (Unit {0}) IoFault) (before after : Life) → before ≡ life.Live → stream.LifeMoves size binary.Flush (done_reply result) before after → (after ≡ life.Live) ⊎ (after ≡ life.Failed)
flushed_life size (Ok done) before after live moves = inl (moves ∙ live)
flushed_life size (Err fault.RawFault) before after live moves = inr moves
flushed_life size (Err fault.NoMemory) before after live moves = inl (moves ∙ live)
flushed_life size (Err other) before after live moves = inl (moves ∙ live)

flush_life : (size : Option ℕ) (writes : Bool) (result : Result (Unit {0}) IoFault) (before after : Life) → stream.LifeMoves size binary.Flush (done_reply result) before after → LifeMoves writes Flush (done_reply result) before after
flush_life size writes (Ok done) before after moves = moves
flush_life size writes (Err fault.RawFault) before after moves = moves
flush_life size writes (Err fault.NoMemory) before after moves = inl moves
flush_life size writes (Err other) before after moves = moves

flush_reply : (before after : Buffer) (result : Result (Unit {0}) IoFault) → refused_here before binary.Flush ≡ None → AnswersAsBuffer before binary.Flush (done_reply result) after → IsReplyTo before.can.writable Flush (done_reply result)
flush_reply before after (Ok done) accepted answers = tt
flush_reply before after (Err (fault.WouldBlock taken)) accepted answers = (waits_so before.can.writable (answers.answer accepted), answers.full.0)
flush_reply before after (Err fault.RawFault) accepted answers = tt
flush_reply before after (Err fault.NoMemory) accepted answers = tt
flush_reply before after (Err other) accepted answers = absurd (answers.answer accepted)

flush_complete : (result : Result (Unit {0}) IoFault) → stream.IsAnswerTo binary.Flush (done_reply result) → IsComplete Flush (done_reply result) (says_wait (done_reply result))
flush_complete (Ok done) is = record { answer = tt; whole = refl }
flush_complete (Err fault.NoMemory) is = record { answer = tt; whole = refl }
flush_complete (Err other) is = absurd is

flush_wants : (before after : Buffer) (result : Result (Unit {0}) IoFault) → AnswersAsBuffer before binary.Flush (done_reply result) after → WantsMemory Flush (done_reply result) before
flush_wants before after (Err fault.NoMemory) answers = answers.wants refl refl
flush_wants before after (Err other) answers = tt
flush_wants before after (Ok done) answers = tt

flush_starves : (old : TextView) (after : Buffer) (result : Result (Unit {0}) IoFault) → AnswersAsBuffer old.buffer binary.Flush (done_reply result) after → Starves (over_of old) Flush (done_reply result) (over_of (with_buffer old after))
flush_starves old after (Err fault.NoMemory) answers = inl (record { life_is = answers.moves.life_is; settings = refl; place = refl })
flush_starves old after (Err other) answers = tt
flush_starves old after (Ok done) answers = tt

flush_stops : (old : TextView) (after : Buffer) (result : Result (Unit {0}) IoFault) → AnswersAsBuffer old.buffer binary.Flush (done_reply result) after → says_wait (done_reply result) ≡ true → StopsOwing false (over_of (with_buffer old after))
flush_stops old after (Err (fault.WouldBlock taken)) answers is = record { full = λ some. absurd (some refl); some = λ gives own. answers.full.1 }
flush_stops old after (Err other) answers is = absurd (cc)
flush_stops old after (Ok done) answers is = absurd (cc)

flush_passes : (old : TextView) (after : Buffer) (result : Result (Unit {0}) IoFault) → AnswersAsBuffer old.buffer binary.Flush (done_reply result) after → TextPasses (state_of old false) Flush (done_reply result) (state_of (with_buffer old after) (says_wait (done_reply result)))
flush_passes old after (Ok done) answers = passed_on (with_buffer old after) false answers.passes.0.none
flush_passes old after (Err why) answers = tt

flush_told : (old : TextView) (after : Buffer) (result : Result (Unit {0}) IoFault) → old.buffer.life ≡ life.Live → old.buffer.exported ≡ false → AnswersAsBuffer old.buffer binary.Flush (done_reply result) after → (flat_of after).bytes ≡ (flat_of old.buffer).bytes → TextFileStep (shown_file old) Flush (done_reply result) (says_wait (done_reply result)) (says_fault (done_reply result)) (shown_file (with_buffer old after))
flush_told old after (Ok done) live kept answers bytes =
    let same = same_file old (with_buffer old after) bytes answers.keeps.can answers.moves.life_is (stays_at old after) in
    settled (subst (λ (refused : Option IoFault). SettledBy (shown_file old) Flush refused Done (shown_file (with_buffer old after))) (sym (passes_accepted (shown_file old) false live)) (ap (pair_of Done) same))
flush_told old after (Err (fault.WouldBlock taken)) live kept answers bytes = blocked_step (shown_file old) (shown_file (with_buffer old after)) false taken answers.full.0 live (same_file old (with_buffer old after) bytes answers.keeps.can answers.moves.life_is (stays_at old after))
flush_told old after (Err fault.RawFault) live kept answers bytes = fault_step (shown_file old) (shown_file (with_buffer old after)) false live (fails_still (shown_file old) (shown_file (with_buffer old after)) life.Failed answers.moves.life_is bytes answers.keeps.can refl)
flush_told old after (Err fault.NoMemory) live kept answers bytes = starve_step (shown_file old) (shown_file (with_buffer old after)) false live (inl (same_file old (with_buffer old after) bytes answers.keeps.can answers.moves.life_is (stays_at old after)))
flush_told old after (Err other) live kept answers bytes = absurd (answers.answer (accepts_flush old.buffer live kept))

flush_so : (old : TextView) (after : Buffer) (result : Result (Unit {0}) IoFault) → old.buffer.life ≡ life.Live → Holds old → AnswersAsBuffer old.buffer binary.Flush (done_reply result) after → Answers (state_of old false) Flush (done_reply result) (state_of (with_buffer old after) (says_wait (done_reply result)))
flush_so old after result live is answers =
    let short : after.short ≡ says_wait (done_reply result) = flush_short result after.short answers.shorts in
    let accepted = passes_accepted (shown_file old) false live in
    let taken_here = accepts_flush old.buffer live is.kept in
    record {
      keeps = answers.keeps;
      refused = λ why here. let never = sym accepted ∙ here in absurd (cc);
      again = λ closes. absurd (cc);
      causes = record { waits = λ waited. answers.causes.waits (short ∙ waited); faults = answers.causes.faults };
      counted = λ exact.
          let counts = answers.counted exact in
          record {
            faults = counts.faults;
            ends = λ own. record {
              waits = λ whole has. counts.waits (short ∙ whole) refl;
              once = λ waited. counts.once (short ∙ waited) refl;
              most = counts_most after.short old.buffer.raw.waits after.raw.waits (λ calm. counts.waits calm refl) (λ waited. counts.once waited refl);
            };
          };
      shorts = whole_reply result;
      nothing = λ none. absurd (cc);
      moves = record { settings = refl; life_is = flush_life (size_shown old.buffer.buffering) old.buffer.can.writable result old.buffer.life after.life answers.moves.life_is; place = refl; written = tt };
      lines = tt;
      blames = tt;
      tells = tt;
      seeks = tt;
      joined = joined_of (with_buffer old after) (text_flushed old.buffer after old.held old.front old.at old.taken old.dirty old.settings result live answers is);
      owes = owes_none (over_of old) Flush (over_of (with_buffer old after)) tt (passes_behind old.buffer.raw after.raw old.buffer.owed.bytes after.owed.bytes [] (front_passes old.buffer after answers.owes));
      lays = λ told. lays_owed (over_of old) [] after.raw.bytes (joined_of old is) (lays_alone old.buffer after is.owes answers.lays told);
      starves = flush_starves old after result answers;
      answer = λ accepts. flush_reply old.buffer after result taken_here answers;
      complete = λ accepts calm sound. flush_complete result (answers.complete taken_here calm sound).0;
      wants = flush_wants old.buffer after result answers;
      closes = tt;
      stays = λ not. open_of old.buffer after live (flushed_life (size_shown old.buffer.buffering) result old.buffer.life after.life live answers.moves.life_is) (answers.stays refl);
      unclosed = λ some closed. answers.stays refl closed;
      shut = λ own. tt;
      spares = λ can none. let spared = answers.spares can none in record { bytes = spared.bytes; written = spared.written; owed = spared.owed };
      tied = record { owed = λ can. refl; life_is = λ can was had. refl };
      stands = λ stood. answers.stands;
      told = λ told. flush_told old after result live is.kept answers (flush_flat (flat_of old.buffer) (flat_of after) (done_reply result) after.short (says_fault (done_reply result)) (answers.told (rw is.kept refl) told));
      needs = λ gives. absurd (cc);
      brings = λ gives. absurd (cc);
      hides = λ waited gives. absurd (cc);
      stops = λ waited. flush_stops old after result answers waited;
      passes = flush_passes old after result answers;
      by_own = stands_still old after (flush_place (size_shown old.buffer.buffering) result old.buffer.life after.life old.buffer.place after.place live answers.moves.life_is answers.moves.place);
      kept = tt;
      holds = tt;
    }

pub flush_answers : (now old : TextView) (after : Buffer) (result : Result (Unit {0}) IoFault) → old ≡ now → now.buffer.life ≡ life.Live → Holds old → AnswersAsBuffer old.buffer binary.Flush (done_reply result) after → Answers (state_of now false) Flush (done_reply result) (state_of (record old { buffer = after }) (says_wait (done_reply result)))
flush_answers now old after result same live is answers =
    subst (λ (view : TextView). Answers (state_of view false) Flush (done_reply result) (state_of (record old { buffer = after }) (says_wait (done_reply result)))) same
    (flush_so old after result (ap (λ (view : TextView). view.buffer.life) same ∙ live) is answers)

-- Closing.

accepts_close : (buffer : Buffer) → buffer.life ≡ life.Live → buffer.exported ≡ false → refused_here buffer binary.Close ≡ None
accepts_close buffer live kept = rw kept (rw live refl)

close_short : (result : Result (Unit {0}) IoFault) (short : Bool) → stream.IsShort binary.Close (done_reply result) short → short ≡ says_wait (done_reply result)
close_short (Ok done) short is = is
close_short (Err why) short is = is

close_life : (size : Option ℕ) (writes : Bool) (result : Result (Unit {0}) IoFault) (before after : Life) → stream.LifeMoves size binary.Close (done_reply result) before after → LifeMoves writes Close (done_reply result) before after
close_life size writes (Ok done) before after moves = moves
close_life size writes (Err fault.RawFault) before after moves = moves
close_life size writes (Err fault.NoMemory) before after moves = inl moves
close_life size writes (Err other) before after moves = moves

close_reply : (before after : Buffer) (result : Result (Unit {0}) IoFault) → refused_here before binary.Close ≡ None → AnswersAsBuffer before binary.Close (done_reply result) after → IsReplyTo before.can.writable Close (done_reply result)
close_reply before after (Ok done) accepted answers = tt
close_reply before after (Err (fault.WouldBlock taken)) accepted answers = (waits_so before.can.writable (answers.answer accepted), answers.full.0)
close_reply before after (Err fault.RawFault) accepted answers = tt
close_reply before after (Err fault.NoMemory) accepted answers = tt
close_reply before after (Err other) accepted answers = absurd (answers.answer accepted)

close_complete : (result : Result (Unit {0}) IoFault) → stream.IsAnswerTo binary.Close (done_reply result) → IsComplete Close (done_reply result) (says_wait (done_reply result))
close_complete (Ok done) is = record { answer = tt; whole = refl }
close_complete (Err fault.NoMemory) is = record { answer = tt; whole = refl }
close_complete (Err other) is = absurd is

close_wants : (before after : Buffer) (result : Result (Unit {0}) IoFault) → AnswersAsBuffer before binary.Close (done_reply result) after → WantsMemory Close (done_reply result) before
close_wants before after (Err fault.NoMemory) answers = answers.wants refl refl
close_wants before after (Err other) answers = tt
close_wants before after (Ok done) answers = tt

close_closes : (before after : Buffer) (result : Result (Unit {0}) IoFault) → before.life ≡ life.Live → AnswersAsBuffer before binary.Close (done_reply result) after → Closes before.life Close before (done_reply result) after
close_closes before after (Ok done) live answers = λ lives. (answers.moves.life_is, λ closed. answers.shut refl (answers.passes live).none closed ∙ ap is_closed answers.moves.life_is)
close_closes before after (Err fault.RawFault) live answers = attached_in before after life.Closed answers.moves.life_is (λ gone. absurd (cc))
close_closes before after (Err why) live answers = tt

-- a close that is made to wait, or lacks memory, leaves the raw open
unclosed : (before after : Buffer) (reply : FileReply) → after.life ≡ before.life → parts_when_closed before binary.Close reply after ≡ false → AnswersAsBuffer before binary.Close reply after → IsClosedWithRaw before → StaysOpen before.raw after.raw
unclosed before after reply same whole answers closed = by_owed after.owed.bytes refl
  where
    by_owed : (owed : List ℕ) → after.owed.bytes ≡ owed → StaysOpen before.raw after.raw
    by_owed [] none = answers.shut whole none closed ∙ (ap is_closed same ∙ sym closed)
    by_owed (byte ∷ more) some = answers.unclosed (λ none. let never : byte ∷ more ≡ [] = sym some ∙ none in absurd (cc))

close_open : (before after : Buffer) (result : Result (Unit {0}) IoFault) → before.life ≡ life.Live → before.exported ≡ false → AnswersAsBuffer before binary.Close (done_reply result) after → may_close Close (done_reply result) ≡ false → KeepsOpen before after
close_open before after (Ok done) live kept answers is = absurd (cc)
close_open before after (Err fault.RawFault) live kept answers is = absurd (cc)
close_open before after (Err (fault.WouldBlock taken)) live kept answers is = open_of before after live (inl (answers.moves.life_is ∙ live)) (unclosed before after (Refused (fault.WouldBlock taken)) answers.moves.life_is refl answers)
close_open before after (Err fault.NoMemory) live kept answers is = open_of before after live (inl (answers.moves.life_is ∙ live)) (unclosed before after (Refused fault.NoMemory) answers.moves.life_is refl answers)
close_open before after (Err other) live kept answers is = absurd (answers.answer (accepts_close before live kept))

close_starves : (old : TextView) (after : Buffer) (result : Result (Unit {0}) IoFault) → AnswersAsBuffer old.buffer binary.Close (done_reply result) after → Starves (over_of old) Close (done_reply result) (over_of (with_buffer old after))
close_starves old after (Err fault.NoMemory) answers = inl (record { life_is = answers.moves.life_is; settings = refl; place = refl })
close_starves old after (Err other) answers = tt
close_starves old after (Ok done) answers = tt

close_stops : (old : TextView) (after : Buffer) (result : Result (Unit {0}) IoFault) → AnswersAsBuffer old.buffer binary.Close (done_reply result) after → says_wait (done_reply result) ≡ true → StopsOwing false (over_of (with_buffer old after))
close_stops old after (Err (fault.WouldBlock taken)) answers is = record { full = λ some. absurd (some refl); some = λ gives own. answers.full.1 }
close_stops old after (Err other) answers is = absurd (cc)
close_stops old after (Ok done) answers is = absurd (cc)

close_passes : (old : TextView) (after : Buffer) (result : Result (Unit {0}) IoFault) → old.buffer.life ≡ life.Live → AnswersAsBuffer old.buffer binary.Close (done_reply result) after → TextPasses (state_of old false) Close (done_reply result) (state_of (with_buffer old after) (says_wait (done_reply result)))
close_passes old after (Ok done) live answers = λ lives. passed_on (with_buffer old after) false (answers.passes live).none
close_passes old after (Err why) live answers = tt

closed_file : (old : TextView) (after : Buffer) → (flat_of after).bytes ≡ (flat_of old.buffer).bytes → after.can ≡ old.buffer.can → after.life ≡ life.Closed → shown_file (with_buffer old after) ≡ in_life (shown_file old) life.Closed
closed_file old after bytes can closed =
    ap (λ (own : List ℕ). let file : TextFile = record { bytes = own; place = place_of old; can = after.can; settings = old.settings; life = after.life } in file) bytes
    ∙ (ap (λ (own : Abilities). let file : TextFile = record { bytes = (flat_of old.buffer).bytes; place = place_of old; can = own; settings = old.settings; life = after.life } in file) can
    ∙ ap (λ (own : Life). let file : TextFile = record { bytes = (flat_of old.buffer).bytes; place = place_of old; can = old.buffer.can; settings = old.settings; life = own } in file) closed)

close_told : (old : TextView) (after : Buffer) (result : Result (Unit {0}) IoFault) → old.buffer.life ≡ life.Live → old.buffer.exported ≡ false → AnswersAsBuffer old.buffer binary.Close (done_reply result) after → (flat_of after).bytes ≡ (flat_of old.buffer).bytes → TextFileStep (shown_file old) Close (done_reply result) (says_wait (done_reply result)) (says_fault (done_reply result)) (shown_file (with_buffer old after))
close_told old after (Ok done) live kept answers bytes =
    settled (subst (λ (refused : Option IoFault). SettledBy (shown_file old) Close refused Done (shown_file (with_buffer old after))) (sym (passes_accepted (shown_file old) true live)) (ap (pair_of Done) (closed_file old after bytes answers.keeps.can answers.moves.life_is)))
close_told old after (Err (fault.WouldBlock taken)) live kept answers bytes = blocked_step (shown_file old) (shown_file (with_buffer old after)) true taken answers.full.0 live (same_file old (with_buffer old after) bytes answers.keeps.can answers.moves.life_is (stays_at old after))
close_told old after (Err fault.RawFault) live kept answers bytes = fault_step (shown_file old) (shown_file (with_buffer old after)) true live (fails_still (shown_file old) (shown_file (with_buffer old after)) life.Closed answers.moves.life_is bytes answers.keeps.can refl)
close_told old after (Err fault.NoMemory) live kept answers bytes = starve_step (shown_file old) (shown_file (with_buffer old after)) true live (inl (same_file old (with_buffer old after) bytes answers.keeps.can answers.moves.life_is (stays_at old after)))
close_told old after (Err other) live kept answers bytes = absurd (answers.answer (accepts_close old.buffer live kept))

close_so : (old : TextView) (after : Buffer) (result : Result (Unit {0}) IoFault) → old.buffer.life ≡ life.Live → Holds old → AnswersAsBuffer old.buffer binary.Close (done_reply result) after → Answers (state_of old false) Close (done_reply result) (state_of (with_buffer old after) (says_wait (done_reply result)))
close_so old after result live is answers =
    let short : after.short ≡ says_wait (done_reply result) = close_short result after.short answers.shorts in
    let accepted = passes_accepted (shown_file old) true live in
    let taken_here = accepts_close old.buffer live is.kept in
    record {
      keeps = answers.keeps;
      refused = λ why here. let never = sym accepted ∙ here in absurd (cc);
      again = λ closes. let never : false ≡ true = sym (ap is_closed live) ∙ closes in absurd (cc);
      causes = record { waits = λ waited. answers.causes.waits (short ∙ waited); faults = answers.causes.faults };
      counted = λ exact.
          let counts = answers.counted exact in
          record {
            faults = counts.faults;
            ends = λ own. record {
              waits = λ whole has. counts.waits (short ∙ whole) refl;
              once = λ waited. counts.once (short ∙ waited) refl;
              most = counts_most after.short old.buffer.raw.waits after.raw.waits (λ calm. counts.waits calm refl) (λ waited. counts.once waited refl);
            };
          };
      shorts = whole_reply result;
      nothing = λ none. absurd (cc);
      moves = record { settings = refl; life_is = close_life (size_shown old.buffer.buffering) old.buffer.can.writable result old.buffer.life after.life answers.moves.life_is; place = refl; written = tt };
      lines = tt;
      blames = tt;
      tells = tt;
      seeks = tt;
      joined = joined_of (with_buffer old after) (text_closed old.buffer after old.held old.front old.at old.taken old.dirty old.settings result live answers is);
      owes = owes_none (over_of old) Close (over_of (with_buffer old after)) tt (passes_behind old.buffer.raw after.raw old.buffer.owed.bytes after.owed.bytes [] (front_passes old.buffer after answers.owes));
      lays = λ told. lays_owed (over_of old) [] after.raw.bytes (joined_of old is) (lays_alone old.buffer after is.owes answers.lays told);
      starves = close_starves old after result answers;
      answer = λ accepts. close_reply old.buffer after result taken_here answers;
      complete = λ accepts calm sound. close_complete result (answers.complete taken_here calm sound).0;
      wants = close_wants old.buffer after result answers;
      closes = close_closes old.buffer after result live answers;
      stays = close_open old.buffer after result live is.kept answers;
      unclosed = λ some closed. answers.unclosed (λ none. some (ap (λ (bytes : List ℕ). bytes ++ []) none));
      shut = λ own. record { shut = answers.shut; parted = answers.parted };
      spares = λ can none. let spared = answers.spares can none in record { bytes = spared.bytes; written = spared.written; owed = spared.owed };
      tied = record { owed = λ can. refl; life_is = λ can was had. refl };
      stands = λ stood. answers.stands;
      told = λ told. close_told old after result live is.kept answers (close_flat (flat_of old.buffer) (flat_of after) (done_reply result) after.short (says_fault (done_reply result)) (answers.told (rw is.kept refl) told));
      needs = λ gives. absurd (cc);
      brings = λ gives. absurd (cc);
      hides = λ waited gives. absurd (cc);
      stops = λ waited. close_stops old after result answers waited;
      passes = close_passes old after result live answers;
      by_own = stands_still old after (close_place (size_shown old.buffer.buffering) result old.buffer.life after.life old.buffer.place after.place live answers.moves.life_is answers.moves.place);
      kept = tt;
      holds = tt;
    }

pub close_answers : (now old : TextView) (after : Buffer) (result : Result (Unit {0}) IoFault) → old ≡ now → now.buffer.life ≡ life.Live → Holds old → AnswersAsBuffer old.buffer binary.Close (done_reply result) after → Answers (state_of now false) Close (done_reply result) (state_of (record old { buffer = after }) (says_wait (done_reply result)))
close_answers now old after result same live is answers =
    subst (λ (view : TextView). Answers (state_of view false) Close (done_reply result) (state_of (record old { buffer = after }) (says_wait (done_reply result)))) same
    (close_so old after result (ap (λ (view : TextView). view.buffer.life) same ∙ live) is answers)
