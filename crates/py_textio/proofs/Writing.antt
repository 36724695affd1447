-- A text that is written: what each answer says of it.
use Rattle.std.proofs.Common.{◌≡◌, ◌≢◌, ℕ, ◌+◌, ◌<◌, ◌≤◌, inl, inr, ◌⊎◌, Bool, true, false, ◌&&◌, ◌||◌, IsTrue, List, [], ◌∷◌, ◌++◌, ◌-◌, length, take, Option, Some, None, Result, Ok, Err, is_none, refl, sym, ap, ◌∙◌, subst, arith, append_assoc, append-nil}
use Rattle.std.proofs.lemmas.List.{take_all, length-append, take-append-le}
use Rattle.std.proofs.lemmas.Bool.{lt-ltb}
use Rattle.py_flat.specs.declared.fault.IoFault.{IoFault}
use Rattle.py_flat.specs.declared.fault.IoFault.TheVariants as fault
use Rattle.py_flat.specs.declared.life.Life.{Life}
use Rattle.py_flat.specs.declared.life.Life.TheVariants as life
use Rattle.py_flat.specs.Bytes.{lay}
use Rattle.py_flat.specs.FlatFile.{Abilities}
use Rattle.py_flat.specs.AllowedStep.{settled, waited_for, raw_faulted, out_of_memory}
use Rattle.py_flat.specs.Calls.{FileReply, Count, Write, Refused}
use Rattle.py_flat.specs.Causes.{rose}
use Rattle.py_flat.specs.BinaryStep.{is_live}
use Rattle.py_plain_text.specs.TextFile.{TextFile, TextPlace, TextSettings, clean_at}
use Rattle.py_plain_text.specs.TextOver.{TextOver}
use Rattle.py_plain_text.specs.TextCalls.{WriteText}
use Rattle.py_flat.specs.Limits.{greatest_place}
use Rattle.py_flat.specs.Refusals.{too_far}
use Rattle.py_flat.proofs.Laying.{lay_behind}
use Rattle.py_flat.proofs.Settling.{blames}
use Rattle.py_plain.specs.Units.{Unknown}
use Rattle.py_plain_text.specs.TextRefusals.{refusal, encode_error}
use Rattle.py_plain_text.specs.TextWriting.{written_bytes, written_refusal}
use Rattle.py_plain_text.specs.TextExact.{after_writing}
use Rattle.py_plain_text.specs.TextAllowed.{SettledBy, Fails, does_work, reaches_raw, TextFileStep}
use Rattle.py_raw.proofs.Telling.{tells_still}
use Rattle.py_stream.specs.Kinds.{says_wait, says_fault}
use Rattle.py_stream.specs.Buffer.{Buffer, WhereShown, flat_of, AnswersAsBuffer}
use Rattle.py_read_text.specs.Knowing.{place_of}
use Rattle.py_read_text.proofs.Placing.{not_far}
use Rattle.py_read_text.specs.Owing.{all_owed, behind_own, IsJoined, PassesOwed, OwesOn, own_from, HasOwn, has_line_end, flushes_behind, GaveOwn, Starves, StopsOwing, KeepsOpen, all_from, LaysFront, LaysOwed}
use Rattle.py_read_text.proofs.Owing.{passes_then, passes_behind, owes_none, open_then, owing_open}
use Rattle.py_read_text.specs.Answers.{further, IsReplyTo, IsComplete, IsShort, LifeMoves, WriteMoves, StaysAhead, IsPassedOn, KeepsFew, HoldsBack, WritesAll, TextPasses, TextKeeps, TextHolds, Answers}
use Rattle.py_textio.specs.Written.{WrittenView, CallsBuffer, behind_owed, place_now, over_of, state_of, file_now, HandsOnBut, HandsOn, TookText, IsKept, StandsToWrite, GoesBack, BackOutcome, kept_of, LetsGo, HandOutcome, KeepsOwed, HandsOnOnce, TookPending}
use Rattle.py_textio.proofs.Ended.{ended-some}
use Rattle.py_textio.proofs.Refusing.{refused}
use Rattle.py_textio.proofs.Settling.{behind_so, clean_place, own_from_is, both_true, hands_itself}
use Rattle.py_textio.proofs.Working.{answers_work}
use Rattle.py_textio.proofs.Over.{calls_on, handed_file}
use Rattle.py_read_text.proofs.Calling.{fails_still}
use Rattle.py_textio.proofs.Stopping.{not_rose}
use Rattle.py_read_text.proofs.Fronts.{lays_none, lays_given}

-- what written is handed on
took_then : (old mid new : WrittenView) (bytes : List ℕ) (waited faulted : Bool) → TookText old bytes false false mid → LaysOwed (over_of old) (all_owed (over_of old) ++ bytes) (over_of new) → HandsOn mid waited faulted new → TookText old bytes waited faulted new
took_then old mid new bytes waited faulted took lays hands = record {
  calls = calls_on old.text.buffer mid.text.buffer new.text.buffer waited faulted took.calls hands.calls;
  bytes = λ told. hands.bytes (tells_still old.text.buffer.raw mid.text.buffer.raw took.calls.keeps.raw ∙ told) ∙ took.bytes told;
  place = hands.place ∙ took.place;
  settings = hands.settings ∙ took.settings;
  owes = passes_then old.text.buffer.raw mid.text.buffer.raw new.text.buffer.raw (all_owed (over_of old) ++ bytes) (all_owed (over_of mid)) (all_owed (over_of new)) took.calls.keeps.raw took.owes hands.owes;
  lays = lays;
  stays = open_then old.text.buffer mid.text.buffer new.text.buffer took.stays hands.stays;
}

-- what is owed after a text was taken
owes_took : (old new : WrittenView) (text : List ℕ) (waited faulted : Bool) → TookText old (written_bytes old.text.settings text) waited faulted new → OwesOn (over_of old) (WriteText text) (over_of new)
owes_took old new text waited faulted took = record { taken = written_bytes old.text.settings text; whole = inr refl; place = ap (λ (place : TextPlace). place.at) took.place; passes = took.owes }

-- what is owed after a text wasn't
owes_not : {given : List ℕ} → (old new : WrittenView) (text : List ℕ) (waited faulted : Bool) → HandsOnBut given old waited faulted new → OwesOn (over_of old) (WriteText text) (over_of new)
owes_not old new text waited faulted hands = owes_none (over_of old) (WriteText text) (over_of new) (omega (arith, ap (λ (place : TextPlace). place.at) hands.place)) hands.owes

-- a live text that may be written, by these characters
pub record MayWrite (old : WrittenView) (text : List ℕ) : Type 0 where
  pub live : old.life ≡ life.Live
  pub writes : old.text.buffer.can.writable ≡ true
  pub accepted : refusal (file_now old) (WriteText text) ≡ None

abbrev pub own_bytes : WrittenView → List ℕ → List ℕ
own_bytes old text = written_bytes old.text.settings text

-- told: the text that written
written_file : (old new : WrittenView) (bytes : List ℕ) (waited faulted : Bool) → TookText old bytes waited faulted new → new.life ≡ old.life → WhereShown old.text.buffer (file_now new ≡ after_writing (file_now old) bytes)
written_file old new bytes waited faulted took current = λ told.
    let file : TextFile = file_now old in
    let laid : List ℕ = lay file.bytes file.place.at bytes in
    let place : TextPlace = further (place_now old) (length bytes) in
    ap (λ (own : List ℕ). let now : TextFile = record { bytes = own; place = place_now new; can = new.text.buffer.can; settings = new.text.settings; life = new.life } in now) (took.bytes told)
    ∙ (ap (λ (own : TextPlace). let now : TextFile = record { bytes = laid; place = own; can = new.text.buffer.can; settings = new.text.settings; life = new.life } in now) took.place
    ∙ (ap (λ (own : Abilities). let now : TextFile = record { bytes = laid; place = place; can = own; settings = new.text.settings; life = new.life } in now) took.calls.keeps.can
    ∙ (ap (λ (own : TextSettings). let now : TextFile = record { bytes = laid; place = place; can = old.text.buffer.can; settings = own; life = new.life } in now) took.settings
    ∙ ap (λ (own : Life). let now : TextFile = record { bytes = laid; place = place; can = old.text.buffer.can; settings = old.text.settings; life = own } in now) current)))

works_writing : (file : TextFile) (text : List ℕ) → file.life ≡ life.Live → refusal file (WriteText text) ≡ None → IsTrue (does_work file (WriteText text))
works_writing file text live accepted = both (is_live file.life) (is_none (refusal file (WriteText text))) (ap is_live live) (ap is_none accepted)
  where
    both : (lives none : Bool) → lives ≡ true → none ≡ true → lives && (none && true) ≡ true
    both true true first second = refl
    both true false first second = absurd (cc)
    both false none first second = absurd (cc)

reaches_writing : (file : TextFile) (text : List ℕ) → file.life ≡ life.Live → refusal file (WriteText text) ≡ None → IsTrue (reaches_raw file (WriteText text))
reaches_writing file text live accepted = either (does_work file (WriteText text)) (works_writing file text live accepted)
  where
    either : (does : Bool) → does ≡ true → does || false ≡ true
    either true first = refl
    either false first = absurd (cc)

count_step : (file after : TextFile) (text : List ℕ) (count : ℕ) → refusal file (WriteText text) ≡ None → count ≡ length text → after ≡ after_writing file (written_bytes file.settings text) → TextFileStep file (WriteText text) (Count count) false false after
count_step file after text count accepted counts same =
    settled (subst (λ (refused : Option IoFault). SettledBy file (WriteText text) refused (Count count) after) (sym accepted) (rw (counts, same) refl))

-- A write for which the buffer was called: what each answer says of it by itself.
record Writes (old : WrittenView) (text : List ℕ) (reply : FileReply) (new : WrittenView) (short : Bool) : Type 0 where
  pub calls : CallsBuffer old.text.buffer short (says_fault reply) new.text.buffer
  pub stays : KeepsOpen old.text.buffer new.text.buffer
  pub shorts : IsShort reply short
  pub settings : new.text.settings ≡ old.text.settings
  pub life_is : LifeMoves true (WriteText text) reply old.life new.life
  pub written : WriteMoves (over_of old) (WriteText text) reply (over_of new)
  pub joined : IsJoined (over_of new)
  pub owes : OwesOn (over_of old) (WriteText text) (over_of new)
  pub lays : LaysOwed (over_of old) (all_owed (over_of old) ++ own_bytes old text) (over_of new)
  pub starves : Starves (over_of old) (WriteText text) reply (over_of new)
  pub stops : IsTrue short → StopsOwing false (over_of new)
  pub answer : IsReplyTo true (WriteText text) reply
  pub complete : rose old.text.buffer.raw.waits new.text.buffer.raw.waits ≡ false → rose old.text.buffer.raw.faults new.text.buffer.raw.faults ≡ false → IsComplete (WriteText text) reply short
  pub told : WhereShown old.text.buffer (TextFileStep (file_now old) (WriteText text) reply short (says_fault reply) (file_now new))
  pub passes : TextPasses (state_of old false) (WriteText text) reply (state_of new short)
  pub kept : TextKeeps (WriteText text) reply (state_of new short)
  pub holds : TextHolds (over_of old) (WriteText text) reply (over_of new)

answers_write : (old : WrittenView) (text : List ℕ) (reply : FileReply) (new : WrittenView) (short : Bool) → MayWrite old text → Writes old text reply new short → Answers (state_of old false) (WriteText text) reply (state_of new short)
answers_write old text reply new short may is =
    answers_work old (WriteText text) reply new short (record {
      accepted = may.accepted;
      once = refl;
      some = refl;
      busy = refl;
      writes = may.writes;
      calls = is.calls;
      shorts = is.shorts;
      settings = is.settings;
      life_is = is.life_is;
      place = tt;
      written = is.written;
      lines = tt;
      blames = tt;
      seeks = tt;
      joined = is.joined;
      owes = is.owes;
      lays = is.lays;
      starves = is.starves;
      closes = tt;
      stays = λ never. is.stays;
      unclosed = owing_open old.text.buffer (over_of new) is.stays;
      stops = is.stops;
      answer = is.answer;
      complete = is.complete;
      wants = tt;
      shut = λ none. tt;
      told = is.told;
      needs = λ gives. absurd (cc);
      hides = λ waits gives. absurd (cc);
      passes = is.passes;
      by_own = tt;
      kept = is.kept;
      holds = is.holds;
    })

pub wrote : (old new : WrittenView) (text : List ℕ) (count : ℕ) → MayWrite old text → TookText old (own_bytes old text) false false new → new.life ≡ life.Live → IsJoined (over_of new) → count ≡ length text → KeepsFew (state_of new false) → (old.text.settings.line_buffering ≡ true → has_line_end text ≡ true → IsPassedOn (state_of new false)) → TextHolds (over_of old) (WriteText text) (Count count) (over_of new) → Answers (state_of old false) (WriteText text) (Count count) (state_of new false)
wrote old new text count may took lives joined counts few passed holds =
    let current : new.life ≡ old.life = lives ∙ sym may.live in
    answers_write old text (Count count) new false may (record {
      calls = took.calls;
      shorts = refl;
      settings = took.settings;
      life_is = current;
      written = took.place;
      joined = joined;
      owes = owes_took old new text false false took;
      lays = took.lays;
      starves = tt;
      stays = took.stays;
      stops = λ short. absurd (cc);
      answer = counts;
      complete = λ calm sound. record { answer = counts; whole = refl };
      told = λ told. count_step (file_now old) (file_now new) text count may.accepted counts (written_file old new (own_bytes old text) false false took current told);
      passes = passed;
      kept = few;
      holds = holds;
    })

pub wrote_blocked : (old new : WrittenView) (text : List ℕ) (taken : ℕ) → MayWrite old text → TookText old (own_bytes old text) true false new → new.life ≡ life.Live → IsJoined (over_of new) → taken ≡ length (own_bytes old text) → StopsOwing false (over_of new) → Answers (state_of old false) (WriteText text) (Refused (fault.WouldBlock taken)) (state_of new true)
wrote_blocked old new text taken may took lives joined counts stops =
    let current : new.life ≡ old.life = lives ∙ sym may.live in
    answers_write old text (Refused (fault.WouldBlock taken)) new true may (record {
      calls = took.calls;
      shorts = refl;
      settings = took.settings;
      life_is = current;
      written = (counts, took.place ∙ ap (further (place_now old)) (sym counts));
      joined = joined;
      owes = owes_took old new text true false took;
      lays = took.lays;
      starves = tt;
      stays = took.stays;
      stops = λ short. stops;
      answer = refl;
      complete = λ calm sound. absurd (not_rose old.text.buffer.raw.waits new.text.buffer.raw.waits (took.calls.wait refl) calm);
      told = λ told. waited_for refl (works_writing (file_now old) text may.live may.accepted, (ap (λ (size : ℕ). Refused (fault.WouldBlock size)) counts, written_file old new (own_bytes old text) true false took current told));
      passes = tt;
      kept = tt;
      holds = tt;
    })

pub wrote_failed : (old new : WrittenView) (text : List ℕ) → MayWrite old text → TookText old (own_bytes old text) false true new → new.life ≡ life.Failed → IsJoined (over_of new) → Answers (state_of old false) (WriteText text) (Refused fault.RawFault) (state_of new false)
wrote_failed old new text may took failed joined =
    let bytes : List ℕ = own_bytes old text in
    answers_write old text (Refused fault.RawFault) new false may (record {
      calls = took.calls;
      shorts = refl;
      settings = took.settings;
      life_is = failed;
      written = inl (record { place = took.place; bytes = took.bytes });
      joined = joined;
      owes = owes_took old new text false true took;
      lays = took.lays;
      starves = tt;
      stays = took.stays;
      stops = λ short. absurd (cc);
      answer = tt;
      complete = λ calm sound. absurd (not_rose old.text.buffer.raw.faults new.text.buffer.raw.faults (took.calls.fault refl) sound);
      told = λ told. raw_faulted refl refl (reaches_writing (file_now old) text may.live may.accepted, (length bytes, omega arith, whole_fails old new bytes life.Failed failed (took.bytes told) took.calls.keeps.can took.settings));
      passes = tt;
      kept = tt;
      holds = tt;
    })
  where
    whole_fails : (old new : WrittenView) (bytes : List ℕ) (current : Life) → new.life ≡ current → (file_now new).bytes ≡ lay (file_now old).bytes (place_now old).at bytes → new.text.buffer.can ≡ old.text.buffer.can → new.text.settings ≡ old.text.settings → Fails (file_now old) current (lay (file_now old).bytes (place_now old).at (take (length bytes) bytes)) (file_now new)
    whole_fails old new bytes current is laid can settings = record { life_is = is; bytes_are = laid ∙ ap (lay (file_now old).bytes (place_now old).at) (sym (take_all (length bytes) bytes (omega arith))); can = can; settings = settings }

pub wrote_starved : (old new : WrittenView) (text : List ℕ) → MayWrite old text → TookText old (own_bytes old text) false false new → new.life ≡ life.Failed → HasOwn (over_of old) (WriteText text) → GaveOwn (flushes_behind old.text.settings (WriteText text)) (length (own_bytes old text)) (over_of old) (over_of new) → IsTrue old.text.buffer.raw.takes_memory → IsJoined (over_of new) → Answers (state_of old false) (WriteText text) (Refused fault.NoMemory) (state_of new false)
wrote_starved old new text may took failed has gave takes joined =
    let bytes : List ℕ = own_bytes old text in
    answers_write old text (Refused fault.NoMemory) new false may (record {
      calls = took.calls;
      shorts = refl;
      settings = took.settings;
      life_is = inr (refl, failed);
      written = inr (failed, record { place = took.place; bytes = took.bytes });
      joined = joined;
      owes = owes_took old new text false false took;
      lays = took.lays;
      starves = inr (inl (record { life_is = failed; takes = takes; has = has; gave = gave }));
      stays = took.stays;
      stops = λ short. absurd (cc);
      answer = tt;
      complete = λ calm sound. record { answer = tt; whole = refl };
      told = λ told. out_of_memory refl (inr (reaches_writing (file_now old) text may.live may.accepted, (may.writes, (length bytes, omega arith, record { life_is = failed; bytes_are = took.bytes told ∙ ap (lay (file_now old).bytes (place_now old).at) (sym (take_all (length bytes) bytes (omega arith))); can = took.calls.keeps.can; settings = took.settings }))));
      passes = tt;
      kept = tt;
      holds = tt;
    })

-- Nothing written.

or_false : (own : Bool) → own ≡ true → own || false ≡ true
or_false true is = refl
or_false false is = absurd (cc)

pub unwritten_failed : (old new : WrittenView) (text : List ℕ) → MayWrite old text → HandsOn old false true new → new.life ≡ life.Failed → StaysAhead (over_of old) (over_of new) → IsJoined (over_of new) → Answers (state_of old false) (WriteText text) (Refused fault.RawFault) (state_of new false)
unwritten_failed old new text may hands failed stays joined =
    answers_write old text (Refused fault.RawFault) new false may (record {
      calls = hands.calls;
      shorts = refl;
      settings = hands.settings;
      life_is = failed;
      written = inr stays;
      joined = joined;
      owes = owes_not old new text false true hands;
      lays = lays_given (over_of old) (own_bytes old text) (over_of new) hands.lays;
      starves = tt;
      stays = hands.stays;
      stops = λ short. absurd (cc);
      answer = tt;
      complete = λ calm sound. absurd (not_rose old.text.buffer.raw.faults new.text.buffer.raw.faults (hands.calls.fault refl) sound);
      told = λ told. raw_faulted refl refl (reaches_writing (file_now old) text may.live may.accepted, (0, omega arith, fails_still (file_now old) (file_now new) life.Failed failed (hands.bytes told) hands.calls.keeps.can hands.settings));
      passes = tt;
      kept = tt;
      holds = tt;
    })

pub unwritten_starved : (old new : WrittenView) (text : List ℕ) → MayWrite old text → HandsOnBut (own_bytes old text) old false false new → new.life ≡ life.Live → IsJoined (over_of new) → Answers (state_of old false) (WriteText text) (Refused fault.NoMemory) (state_of new false)
unwritten_starved old new text may hands lives joined =
    let current : new.life ≡ old.life = lives ∙ sym may.live in
    answers_write old text (Refused fault.NoMemory) new false may (record {
      calls = hands.calls;
      shorts = refl;
      settings = hands.settings;
      life_is = inl current;
      written = inl (current, hands.place);
      joined = joined;
      owes = owes_not old new text false false hands;
      lays = hands.lays;
      starves = inl (record { life_is = current; settings = hands.settings; place = hands.place });
      stays = hands.stays;
      stops = λ short. absurd (cc);
      answer = tt;
      complete = λ calm sound. record { answer = tt; whole = refl };
      told = λ told. out_of_memory refl (inl (or_false (reaches_raw (file_now old) (WriteText text)) (reaches_writing (file_now old) text may.live may.accepted), handed_file old new false false hands current told));
      passes = tt;
      kept = tt;
      holds = tt;
    })

-- What refuses a write.

blames_not : (run : Option (ℕ × ℕ)) (why : IoFault) → encode_error run ≡ Some why → blames why ≡ false
blames_not None why is = absurd (cc)
blames_not (Some run) why is = let same : fault.UnicodeEncodeError run.0 run.1 ≡ why = cc in ap blames (sym same)

waits_not : (run : Option (ℕ × ℕ)) (why : IoFault) → encode_error run ≡ Some why → says_wait (Refused why) ≡ false
waits_not None why is = absurd (cc)
waits_not (Some run) why is = let same : fault.UnicodeEncodeError run.0 run.1 ≡ why = cc in ap (λ (own : IoFault). says_wait (Refused own)) (sym same)

refuses_dirty : (file : TextFile) (text : List ℕ) → file.life ≡ life.Live → file.can.writable ≡ true → file.place.dirty ≡ true → refusal file (WriteText text) ≡ Some fault.SeekFirst
refuses_dirty file text live writes dirty = rw live (rw writes (rw dirty refl))

refuses_run : (file : TextFile) (text : List ℕ) (why : IoFault) → file.life ≡ life.Live → file.can.writable ≡ true → file.place.dirty ≡ false → encode_error (written_refusal file.settings text) ≡ Some why → refusal file (WriteText text) ≡ Some why
refuses_run file text why live writes clean is = rw live (rw writes (rw clean (rw is refl)))

write_refused : (file : TextFile) (text : List ℕ) → file.life ≡ life.Live → file.can.writable ≡ true → file.place.dirty ≡ false → written_refusal file.settings text ≡ None → refusal file (WriteText text) ≡ too_far (file.place.at + length (written_bytes file.settings text))
write_refused file text live writes clean whole = rw live (rw writes (rw clean (rw whole refl)))

pub write_dirty : (view : WrittenView) (text : List ℕ) → view.life ≡ life.Live → view.text.buffer.can.writable ≡ true → view.text.dirty ≡ true → IsJoined (over_of view) → Answers (state_of view false) (WriteText text) (Refused fault.SeekFirst) (state_of view false)
write_dirty view text live writes dirty joined = refused view false (WriteText text) fault.SeekFirst (refuses_dirty (file_now view) text live writes (dirty_so view.pending dirty)) refl refl joined
  where
    dirty_so : (pending : List ℕ) → view.text.dirty ≡ true → (behind_owed (place_of view.text) pending).dirty ≡ true
    dirty_so [] is = is
    dirty_so (byte ∷ more) is = is

clean_so : (view : WrittenView) (owed : List ℕ) → view.text.dirty ≡ false → (behind_owed (place_of view.text) owed).dirty ≡ false
clean_so view [] is = is
clean_so view (byte ∷ more) is = is

pub write_run : (view : WrittenView) (text : List ℕ) (why : IoFault) → view.life ≡ life.Live → view.text.buffer.can.writable ≡ true → view.text.dirty ≡ false → encode_error (written_refusal view.text.settings text) ≡ Some why → IsJoined (over_of view) → Answers (state_of view false) (WriteText text) (Refused why) (state_of view (says_wait (Refused why)))
write_run view text why live writes clean is joined = subst (λ (short : Bool). Answers (state_of view false) (WriteText text) (Refused why) (state_of view short)) (sym (waits_not (written_refusal view.text.settings text) why is)) (refused view false (WriteText text) why (refuses_run (file_now view) text why live writes (clean_so view view.pending clean) is) (blames_not (written_refusal view.text.settings text) why is) refl joined)

pub write_far : (view : WrittenView) (text : List ℕ) → view.life ≡ life.Live → view.text.buffer.can.writable ≡ true → view.text.dirty ≡ false → written_refusal view.text.settings text ≡ None → greatest_place < (place_now view).at + length (own_bytes view text) → IsJoined (over_of view) → Answers (state_of view false) (WriteText text) (Refused fault.TooFar) (state_of view false)
write_far view text live writes clean whole far joined =
    refused view false (WriteText text) fault.TooFar (write_refused (file_now view) text live writes (clean_so view view.pending clean) whole ∙ is_far) refl refl joined
  where
    is_far : too_far ((place_now view).at + length (own_bytes view text)) ≡ Some fault.TooFar
    is_far = rw (lt-ltb greatest_place ((place_now view).at + length (own_bytes view text)) far) refl

pub may_write : (view : WrittenView) (text : List ℕ) → view.life ≡ life.Live → view.text.buffer.can.writable ≡ true → view.text.dirty ≡ false → written_refusal view.text.settings text ≡ None → (place_now view).at + length (own_bytes view text) ≤ greatest_place → MayWrite view text
may_write view text live writes clean whole near = record {
  live = live;
  writes = writes;
  accepted = write_refused (file_now view) text live writes (clean_so view view.pending clean) whole ∙ not_far ((place_now view).at + length (own_bytes view text)) near;
}

-- What becomes of a write.

-- a text with bytes put behind those that it owes
abbrev pub with_bytes : WrittenView → List ℕ → ℕ → WrittenView
with_bytes view bytes room = record view { pending = view.pending ++ bytes; room = room }

put_bytes : (old mid : WrittenView) (bytes : List ℕ) (room : ℕ) → GoesBack old mid → TookText old bytes false false (with_bytes mid bytes room)
put_bytes old mid bytes room back = record {
  calls = back.hands.calls;
  bytes = λ told.
      let at : mid.text.buffer.place + length mid.pending ≡ (place_now old).at = sym (ap (λ (place : TextPlace). place.at) (clean_place mid.text mid.pending back.stands)) ∙ ap (λ (place : TextPlace). place.at) back.hands.place in
      sym (lay_behind (flat_of mid.text.buffer).bytes mid.text.buffer.place mid.pending bytes)
      ∙ (ap (λ (at : ℕ). lay (lay (flat_of mid.text.buffer).bytes mid.text.buffer.place mid.pending) at bytes) at
      ∙ ap (λ (all : List ℕ). lay all (place_now old).at bytes) (back.hands.bytes told));
  place =
      let size : mid.text.buffer.place + length (mid.pending ++ bytes) ≡ (mid.text.buffer.place + length mid.pending) + length bytes = omega (arith, length-append mid.pending bytes) in
      clean_place mid.text (mid.pending ++ bytes) back.stands
      ∙ (ap (λ (at : ℕ). clean_at at Unknown) size
      ∙ (ap (λ (place : TextPlace). further place (length bytes)) (sym (clean_place mid.text mid.pending back.stands)) ∙ ap (λ (place : TextPlace). further place (length bytes)) back.hands.place));
  settings = back.hands.settings;
  owes = subst (λ (all : List ℕ). PassesOwed old.text.buffer.raw (all_owed (over_of old) ++ bytes) mid.text.buffer.raw all) (append_assoc mid.text.buffer.owed.bytes mid.pending bytes) (passes_behind old.text.buffer.raw mid.text.buffer.raw (all_owed (over_of old)) (all_owed (over_of mid)) bytes back.hands.owes);
  lays = λ told. lays_none old.text.buffer.raw.bytes (all_from (over_of old)) _ mid.text.buffer.raw.bytes (back.raw_bytes told);
  stays = back.hands.stays;
}

-- where what is owed begins, and what that is, once bytes were put behind it
put_from : (old mid : WrittenView) (bytes : List ℕ) (room : ℕ) → GoesBack old mid → all_from (over_of (with_bytes mid bytes room)) ≡ all_from (over_of old)
put_from old mid bytes room back = omega (arith, ap (λ (place : TextPlace). place.at) (clean_place mid.text mid.pending back.stands), ap (λ (place : TextPlace). place.at) (clean_place mid.text (mid.pending ++ bytes) back.stands), ap (λ (place : TextPlace). place.at) back.hands.place, ap length back.owed, ap length back.pending, length-append mid.text.buffer.owed.bytes (mid.pending ++ bytes), length-append mid.pending bytes, length-append old.text.buffer.owed.bytes old.pending)

put_owed : (old mid : WrittenView) (bytes : List ℕ) (room : ℕ) → GoesBack old mid → all_owed (over_of (with_bytes mid bytes room)) ++ [] ≡ all_owed (over_of old) ++ bytes
put_owed old mid bytes room back =
    append-nil (mid.text.buffer.owed.bytes ++ (mid.pending ++ bytes))
    ∙ (sym (append_assoc mid.text.buffer.owed.bytes mid.pending bytes)
    ∙ (ap (λ (owed : List ℕ). (owed ++ mid.pending) ++ bytes) back.owed ∙ ap (λ (owed : List ℕ). (old.text.buffer.owed.bytes ++ owed) ++ bytes) back.pending))

-- what is laid on of what was owed, and of bytes that were put behind it
put_lays : (old mid : WrittenView) (bytes : List ℕ) (room : ℕ) (after : TextOver Buffer) → GoesBack old mid → LaysOwed (over_of (with_bytes mid bytes room)) (all_owed (over_of (with_bytes mid bytes room)) ++ []) after → LaysOwed (over_of old) (all_owed (over_of old) ++ bytes) after
put_lays old mid bytes room after back lays = λ told.
    subst (λ (own : List ℕ). LaysFront own (all_from (over_of old)) (all_owed (over_of old) ++ bytes) after.buffer.raw.bytes) (back.raw_bytes told)
    (subst (λ (owed : List ℕ). LaysFront mid.text.buffer.raw.bytes (all_from (over_of old)) owed after.buffer.raw.bytes) (put_owed old mid bytes room back)
    (subst (λ (from : ℕ). LaysFront mid.text.buffer.raw.bytes from (all_owed (over_of (with_bytes mid bytes room)) ++ []) after.buffer.raw.bytes) (put_from old mid bytes room back)
    (lays (tells_still old.text.buffer.raw mid.text.buffer.raw back.hands.calls.keeps.raw ∙ told))))

-- what was put behind what is owed is handed on
put_then : (old mid new : WrittenView) (bytes : List ℕ) (room : ℕ) (waited faulted : Bool) → GoesBack old mid → HandsOn (with_bytes mid bytes room) waited faulted new → TookText old bytes waited faulted new
put_then old mid new bytes room waited faulted back hands = took_then old (with_bytes mid bytes room) new bytes waited faulted (put_bytes old mid bytes room back) (put_lays old mid bytes room (over_of new) back hands.lays) hands

take_first : (first second : List ℕ) (count : ℕ) → count ≡ length second → take (length (first ++ second) - count) (first ++ second) ≡ first
take_first first second count is = ap (λ (size : ℕ). take size (first ++ second)) (omega (arith, length-append first second, is)) ∙ (take-append-le (length first) first second (omega arith) ∙ take_all (length first) first (omega arith))

let_go_so : (old mid new : WrittenView) (bytes : List ℕ) (room count : ℕ) → GoesBack old mid → count ≡ length bytes → LetsGo (with_bytes mid bytes room) count new → HandsOnBut bytes old false false new
let_go_so old mid new bytes room count back counts lets =
    let kept : kept_of (with_bytes mid bytes room) count ≡ mid.pending = take_first mid.pending bytes count counts in
    record {
      calls = calls_on old.text.buffer mid.text.buffer new.text.buffer false false back.hands.calls lets.calls;
      bytes = λ told.
          let still = tells_still old.text.buffer.raw mid.text.buffer.raw back.hands.calls.keeps.raw ∙ told in
          lets.bytes still ∙ (ap (lay (flat_of mid.text.buffer).bytes mid.text.buffer.place) kept ∙ back.hands.bytes told);
      place = lets.place ∙ (ap (λ (owed : List ℕ). clean_at (mid.text.buffer.place + length owed) Unknown) kept ∙ (sym (clean_place mid.text mid.pending back.stands) ∙ back.hands.place));
      settings = lets.settings ∙ back.hands.settings;
      owes = passes_then old.text.buffer.raw mid.text.buffer.raw new.text.buffer.raw (all_owed (over_of old)) (all_owed (over_of mid)) (all_owed (over_of new)) back.hands.calls.keeps.raw back.hands.owes
          (subst (λ (owed : List ℕ). PassesOwed mid.text.buffer.raw (mid.text.buffer.owed.bytes ++ owed) new.text.buffer.raw (all_owed (over_of new))) kept lets.owes);
      lays = put_lays old mid bytes room (over_of new) back lets.lays;
      stays = open_then old.text.buffer mid.text.buffer new.text.buffer back.hands.stays lets.stays;
    }

-- bytes that went on of a text that went back and had more put behind what it owed
gave_put : (old mid : WrittenView) (bytes : List ℕ) (room : ℕ) (flushes : Bool) (given : ℕ) (new : TextOver Buffer) → GoesBack old mid → GaveOwn flushes given (over_of (with_bytes mid bytes room)) new → GaveOwn flushes given (over_of old) new
gave_put old mid bytes room flushes given new back gave = by_gave gave
  where
    from : own_from (over_of old) ≡ own_from (over_of (with_bytes mid bytes room))
    from = omega (arith, own_from_is (with_bytes mid bytes room), own_from_is mid, ap (λ (place : TextPlace). place.at) back.hands.place, ap length back.pending)

    by_gave : GaveOwn flushes given (over_of (with_bytes mid bytes room)) new → GaveOwn flushes given (over_of old) new
    by_gave (inr took) = inr took
    by_gave (inl took) = inl (
      took.0,
      record {
        further = omega (arith, took.1.further, from);
        stands = λ tells. omega (arith, took.1.stands (back.hands.calls.keeps.raw.tells_place ∙ tells), from);
        answered = λ tells. omega (arith, took.1.answered (back.hands.calls.keeps.raw.tells_transfers ∙ tells), back.answered tells, ap length back.owed);
      },
    )

pub written_on : (old mid new : WrittenView) (text : List ℕ) (room count : ℕ) (why : IoFault) → MayWrite old text → GoesBack old mid → count ≡ length (own_bytes old text) → HandOutcome (with_bytes mid (own_bytes old text) room) count (old.text.settings.line_buffering && has_line_end text) (Err why) new → IsJoined (over_of new) → Answers (state_of old false) (WriteText text) (Refused why) (state_of new (says_wait (Refused why)))
written_on old mid new text room count (fault.WouldBlock taken) may back counts outcome joined =
    wrote_blocked old new text taken may (put_then old mid new (own_bytes old text) room true false back outcome.0) outcome.1 joined (outcome.2 ∙ counts) outcome.3
written_on old mid new text room count fault.RawFault may back counts outcome joined =
    wrote_failed old new text may (put_then old mid new (own_bytes old text) room false true back outcome.0) outcome.1 joined
written_on old mid new text room count fault.NoMemory may back counts (inl failed) joined =
    wrote_starved old new text may (put_then old mid new (own_bytes old text) room false false back failed.hands) failed.life_is (λ none. failed.some (ap (λ (owed : List ℕ). owed ++ own_bytes old text) back.pending ∙ none)) (subst (λ (given : ℕ). GaveOwn (old.text.settings.line_buffering && has_line_end text) given (over_of old) (over_of new)) counts (gave_put old mid (own_bytes old text) room (old.text.settings.line_buffering && has_line_end text) count (over_of new) back failed.gave)) (sym back.hands.calls.keeps.raw.takes_memory ∙ failed.takes) joined
written_on old mid new text room count fault.NoMemory may back counts (inr lets) joined =
    unwritten_starved old new text may (let_go_so old mid new (own_bytes old text) room count back counts lets) lets.lives joined
written_on old mid new text room count other may back counts outcome joined = absurd outcome

-- nothing was handed on
held_put : (old mid new : WrittenView) (bytes : List ℕ) (room : ℕ) → GoesBack old mid → new ≡ with_bytes mid bytes room → HoldsBack (over_of old) bytes (over_of new)
held_put old mid new bytes room back same = record {
  own = ap (λ (view : WrittenView). view.pending) same ∙ ap (λ (owed : List ℕ). owed ++ bytes) back.pending;
  rest = ap (λ (view : WrittenView). view.text.buffer.owed.bytes) same ∙ back.owed;
  buffer = λ stands. ap (λ (view : WrittenView). view.text.buffer) same ∙ back.still (omega (arith, stands, ap (λ (place : TextPlace). place.at) (behind_so (place_of old.text) old.pending)));
}

-- all was handed on by one write of a buffer that had stood there
wrote_put : (old mid new : WrittenView) (bytes : List ℕ) (room : ℕ) → GoesBack old mid → behind_own (over_of old) ≡ (place_now old).at → new.pending ≡ [] → TookPending (with_bytes mid bytes room) new → WritesAll (over_of old) bytes (over_of new)
wrote_put old mid new bytes room back stands none took =
    let still : mid.text.buffer ≡ old.text.buffer = back.still (omega (arith, stands, ap (λ (place : TextPlace). place.at) (behind_so (place_of old.text) old.pending))) in
    record {
      none = none;
      write = subst (λ (owed : List ℕ). AnswersAsBuffer old.text.buffer (Write (owed ++ bytes)) (Count (length (owed ++ bytes))) new.text.buffer) back.pending (subst (λ (buffer : Buffer). AnswersAsBuffer buffer (Write (mid.pending ++ bytes)) (Count (length (mid.pending ++ bytes))) new.text.buffer) still took);
    }

-- nothing was handed on that needn't be
holds_put : (old mid new : WrittenView) (text : List ℕ) (room count : ℕ) → GoesBack old mid → KeepsOwed (with_bytes mid (own_bytes old text) room) (old.text.settings.line_buffering && has_line_end text) (Ok tt) new → HandsOnOnce (with_bytes mid (own_bytes old text) room) (old.text.settings.line_buffering && has_line_end text) (Ok tt) new → TextHolds (over_of old) (WriteText text) (Count count) (over_of new)
holds_put old mid new text room count back keeps once = record {
  few = λ through flushes few.
      let less : length (mid.pending ++ own_bytes old text) < mid.text.settings.chunk_size = omega (arith, few, ap (λ (owed : List ℕ). length (owed ++ own_bytes old text)) back.pending, ap (λ (settings : TextSettings). settings.chunk_size) back.hands.settings) in
      held_put old mid new (own_bytes old text) room back (keeps (ap (λ (settings : TextSettings). settings.write_through) back.hands.settings ∙ through) flushes less);
  once = λ flushes stands. by_once stands (once flushes);
}
  where
    by_once : behind_own (over_of old) ≡ (place_now old).at → (new ≡ with_bytes mid (own_bytes old text) room) ⊎ ((new.pending ≡ []) × TookPending (with_bytes mid (own_bytes old text) room) new) → HoldsBack (over_of old) (own_bytes old text) (over_of new) ⊎ WritesAll (over_of old) (own_bytes old text) (over_of new)
    by_once stands (inl same) = inl (held_put old mid new (own_bytes old text) room back same)
    by_once stands (inr took) = inr (wrote_put old mid new (own_bytes old text) room back stands took.0 took.1)

pub written_all : (old mid new : WrittenView) (text : List ℕ) (room count chars : ℕ) → MayWrite old text → GoesBack old mid → chars ≡ length text → HandOutcome (with_bytes mid (own_bytes old text) room) count (old.text.settings.line_buffering && has_line_end text) (Ok tt) new → KeepsOwed (with_bytes mid (own_bytes old text) room) (old.text.settings.line_buffering && has_line_end text) (Ok tt) new → HandsOnOnce (with_bytes mid (own_bytes old text) room) (old.text.settings.line_buffering && has_line_end text) (Ok tt) new → IsJoined (over_of new) → Answers (state_of old false) (WriteText text) (Count chars) (state_of new false)
written_all old mid new text room count chars may back counts outcome keeps once joined =
    wrote old new text chars may (put_then old mid new (own_bytes old text) room false false back outcome.0) outcome.1 joined counts outcome.2 (λ lines ends. outcome.3 (both_true old.text.settings.line_buffering (has_line_end text) lines ends)) (holds_put old mid new text room chars back keeps once)

-- nothing of the bytes that are given was handed on
hands_given : (old new : WrittenView) (given : List ℕ) (waited faulted : Bool) → HandsOn old waited faulted new → HandsOnBut given old waited faulted new
hands_given old new given waited faulted hands = record { calls = hands.calls; bytes = hands.bytes; place = hands.place; settings = hands.settings; owes = hands.owes; lays = lays_given (over_of old) given (over_of new) hands.lays; stays = hands.stays }

-- a buffer that doesn't stand where what is owed begins was read ahead
ahead_so : (view : WrittenView) → view.text.at ≢ view.text.buffer.place → behind_own (over_of view) ≢ (place_now view).at
ahead_so view apart = λ same. apart (omega (arith, same, ap (λ (place : TextPlace). place.at) (behind_so (place_of view.text) view.pending)))

pub written_not : (old new : WrittenView) (text : List ℕ) (why : IoFault) → MayWrite old text → BackOutcome old (Err why) new → IsJoined (over_of new) → Answers (state_of old false) (WriteText text) (Refused why) (state_of new (says_wait (Refused why)))
written_not old new text fault.RawFault may outcome joined = unwritten_failed old new text may outcome.0 outcome.1 (record { ahead = ahead_so old outcome.2; still = outcome.3; place = outcome.0.place; bytes = outcome.0.bytes }) joined
written_not old new text fault.NoMemory may outcome joined = unwritten_starved old new text may (hands_given old new (own_bytes old text) false false outcome.0) outcome.1 joined
written_not old new text other may outcome joined = absurd outcome

pub put_is : (old mid put : WrittenView) (text : List ℕ) → GoesBack old mid → put ≡ record mid { pending = mid.pending ++ written_bytes mid.text.settings text; room = put.room } → put ≡ with_bytes mid (own_bytes old text) put.room
put_is old mid put text back is = is ∙ ap (λ (settings : TextSettings). with_bytes mid (written_bytes settings text) put.room) back.hands.settings

pub hand_at : (put other new : WrittenView) (count : ℕ) (flushes flush : Bool) (result : Result (Unit {0}) IoFault) → put ≡ other → flushes ≡ flush → HandOutcome put count flushes result new → HandOutcome other count flush result new
hand_at put other new count flushes flush result same is outcome = subst (λ (view : WrittenView). HandOutcome view count flush result new) same (subst (λ (own : Bool). HandOutcome put count own result new) is outcome)

pub keeps_at : (put other new : WrittenView) (flushes flush : Bool) (result : Result (Unit {0}) IoFault) → put ≡ other → flushes ≡ flush → KeepsOwed put flushes result new → KeepsOwed other flush result new
keeps_at put other new flushes flush result same is keeps = subst (λ (view : WrittenView). KeepsOwed view flush result new) same (subst (λ (own : Bool). KeepsOwed put own result new) is keeps)

pub once_at : (put other new : WrittenView) (flushes flush : Bool) (result : Result (Unit {0}) IoFault) → put ≡ other → flushes ≡ flush → HandsOnOnce put flushes result new → HandsOnOnce other flush result new
once_at put other new flushes flush result same is once = subst (λ (view : WrittenView). HandsOnOnce view flush result new) same (subst (λ (own : Bool). HandsOnOnce put own result new) is once)

some_long : (bytes : List ℕ) → bytes ≢ [] → 0 < length bytes
some_long [] some = absurd (some refl)
some_long (byte ∷ more) some = omega arith

-- a text with a line end has bytes to hand on
pub put_some : (old : WrittenView) (text : List ℕ) (count : ℕ) → count ≡ length (own_bytes old text) → written_refusal old.text.settings text ≡ None → has_line_end text ≡ true → 0 < count
put_some old text count counts whole ends = omega (arith, counts, some_long (own_bytes old text) (λ none. ended-some old.text.settings text whole ends none))

-- the room for a text's bytes couldn't be had
pub unput : (old mid new : WrittenView) (text : List ℕ) (why : IoFault) → MayWrite old text → GoesBack old mid → why ≡ fault.NoMemory → new ≡ record mid { room = new.room } → IsJoined (over_of mid) → Answers (state_of old false) (WriteText text) (Refused why) (state_of new (says_wait (Refused why)))
unput old mid new text why may back memory same joined =
    let lacks : WrittenView = record mid { room = new.room } in
    subst (λ (own : IoFault). Answers (state_of old false) (WriteText text) (Refused own) (state_of new (says_wait (Refused own)))) (sym memory)
    (subst (λ (view : WrittenView). Answers (state_of old false) (WriteText text) (Refused fault.NoMemory) (state_of view false)) (sym same)
    (unwritten_starved old lacks text may (record { calls = back.hands.calls; bytes = back.hands.bytes; place = back.hands.place; settings = back.hands.settings; owes = back.hands.owes; lays = λ told. lays_none old.text.buffer.raw.bytes (all_from (over_of old)) _ mid.text.buffer.raw.bytes (back.raw_bytes told); stays = back.hands.stays }) back.lives joined))

-- A text that is only kept.

-- a buffer that stands where what is owed begins needn't go back
goes_nowhere : (view : WrittenView) → view.life ≡ life.Live → StandsToWrite view.text → GoesBack view view
goes_nowhere view live stands = record {
  hands = hands_itself view;
  owed = refl;
  answered = λ _. refl;
  raw_bytes = λ told. refl;
  lives = live;
  pending = refl;
  stands = stands;
  still = λ there. refl;
}

never_both : (lines ends : Bool) → lines ≡ false → (lines && ends) ≡ true → ⊥
never_both false ends none both = absurd (cc)
never_both true ends none both = absurd (cc)

-- what is put behind what is owed stays there
pub kept_all : (old new : WrittenView) (text : List ℕ) (most chars : ℕ) → MayWrite old text → IsKept old most → length (own_bytes old text) ≤ most → chars ≡ length text → new ≡ with_bytes old (own_bytes old text) new.room → IsJoined (over_of new) → Answers (state_of old false) (WriteText text) (Count chars) (state_of new false)
kept_all old new text most chars may kept fits counts same joined =
    let put : WrittenView = with_bytes old (own_bytes old text) new.room in
    let few : KeepsFew (state_of put false) = record {
      few = omega (arith, kept.few, fits, length-append old.pending (own_bytes old text));
      none = λ through. let never : true ≡ false = sym through ∙ kept.through in absurd (cc);
    } in
    subst (λ (view : WrittenView). Answers (state_of old false) (WriteText text) (Count chars) (state_of view false)) (sym same)
    (written_all old old put text new.room 0 chars may (goes_nowhere old may.live kept.stands) counts
    (hands_itself put, may.live, few, λ flushes. absurd (never_both old.text.settings.line_buffering (has_line_end text) kept.lines flushes))
    (λ through flushes less. refl)
    (λ flushes. inl refl)
    (subst (λ (view : WrittenView). IsJoined (over_of view)) same joined))

-- the room for the bytes of a text that would be kept couldn't be had
pub unkept : (old new : WrittenView) (text : List ℕ) (most : ℕ) (why : IoFault) → MayWrite old text → IsKept old most → why ≡ fault.NoMemory → new ≡ record old { room = new.room } → IsJoined (over_of old) → Answers (state_of old false) (WriteText text) (Refused why) (state_of new (says_wait (Refused why)))
unkept old new text most why may kept memory same joined = unput old old new text why may (goes_nowhere old may.live kept.stands) memory same joined
