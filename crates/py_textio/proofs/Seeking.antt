-- A seek of a text: of one that owes bytes itself, behind what it handed on; and by which cookie it goes.
use Rattle.std.proofs.Common.{◌≡◌, ◌≢◌, SFits, ℕ, ℤ, zero, suc, pos, negsuc, nat_abs, ◌⊎◌, inl, inr, ◌&&◌, ◌||◌, not, ◌≤◌, ◌<◌, Bool, true, false, IsTrue, List, [], length, Option, Some, None, Result, Ok, Err, IfOk, if◌then◌else◌, refl, sym, ap, ◌∙◌, subst, arith}
use Rattle.py_flat.specs.declared.fault.IoFault.{IoFault}
use Rattle.py_flat.specs.declared.fault.IoFault.TheVariants as fault
use Rattle.py_flat.specs.declared.life.Life.{Life}
use Rattle.py_flat.specs.declared.life.Life.TheVariants as life
use Rattle.py_flat.specs.FlatFile.{Abilities}
use Rattle.py_flat.specs.Refusals.{or_else, refused_if, life_fault}
use Rattle.py_flat.specs.AllowedStep.{out_of_memory}
use Rattle.py_flat.specs.Calls.{FileReply, Refused}
use Rattle.py_plain_text.specs.TextFile.{TextPlace, TextSettings, TextFile}
use Rattle.py_plain_text.specs.Cookie.{Cookie, cookie_of, is_buildable, is_natural, parsed}
use Rattle.py_plain_text.proofs.PlainRefusals.{accepted_sound}
use Rattle.std.specs.Int.{w64}
use Rattle.py_flat.specs.Limits.{greatest_place}
use Rattle.py_flat.proofs.Settling.{blames}
use Rattle.py_plain_text.specs.TextCalls.{SeekText}
use Rattle.py_plain_text.specs.TextExact.{sought_cookie}
use Rattle.py_plain_text.specs.TextRefusals.{refusal, counts_on, are_zeros, whence_refusal, cookie_refusal, end_refusal, argument_refusal}
use Rattle.py_plain_text.specs.TextOver.{TextOver}
use Rattle.py_plain_text.specs.CookieView.{cookie_shown}
use Rattle.py_plain_text.specs.declared.text_cookie.TextIOCookie.{TextIOCookie}
use Rattle.py_plain_text.specs.declared.plain_place.PlainSettings.{PlainSettings}
use Rattle.py_plain_text.specs.declared.plain_place.PlainPlace.{PlainPlace}
use Rattle.py_plain_text.specs.PlainCookies.{text_at, sought_refusal}
use Rattle.py_plain_text.specs.TextAllowed.{Fails, TextFileStep}
use Rattle.py_raw.proofs.Telling.{tells_still}
use Rattle.py_stream.specs.Kinds.{says_wait}
use Rattle.py_stream.specs.Buffer.{Buffer, WhereShown, KeepsBuffer}
use Rattle.py_plain.specs.declared.encoding.Encoding.{Encoding}
use Rattle.py_plain_text.specs.Landing.{is_valid_cookie, skips, start_place, place_inside}
use Rattle.py_plain_text.specs.TextWriting.{writes_texts}
use Rattle.py_read_text.specs.TextState.{TextState}
use Rattle.py_read_text.specs.Knowing.{TextView, place_of, over_of as read_of, state_of as read_state}
use Rattle.py_read_text.specs.Owing.{behind_own, IsJoined, FailedWithOwn}
use Rattle.py_read_text.specs.Seeking.{Seeks, SeekOutcome, StaysOwing, StandsAtStart}
use Rattle.py_read_text.specs.Answers.{refused_here, LifeMoves, SeeksBy, TextPasses, Answers, cookie_reply}
use Rattle.py_read_text.proofs.Owing.{has_own}
use Rattle.py_read_text.proofs.Calling.{fails_still}
use Rattle.py_read_text.proofs.Landings.{Goes, reaches_so, wait_step, starve_step, fault_step, without_memory}
use Rattle.py_textio.specs.Written.{WrittenView, place_now, over_of, state_of, file_now, HandsOn, IsStuffed, IsWritten, SettleOutcome, with_taken, TellsPlace}
use Rattle.py_textio.specs.Seeking.{CanMove, CanSeekBy, AnswersSeeks}
use Rattle.py_textio.proofs.Refusing.{refused, own_life}
use Rattle.py_textio.proofs.Faults.{own_seek}
use Rattle.py_textio.proofs.Working.{answers_work}
use Rattle.py_textio.proofs.Over.{behind_still, handed_file, sought_on, busy_other, answers_over}
use Rattle.py_textio.proofs.Settling.{view_of, state_same, text_answers}
use Rattle.py_textio.proofs.Stopping.{Ends, Owes, ends_work, starved_not, starved_life}

-- What was handed on leaves what a seek goes by.

abbrev pub without_bytes : WrittenView → TextFile
without_bytes view = record (file_now view) { bytes = [] }

pub same_but_bytes : (old mid : WrittenView) → mid.text.buffer.can ≡ old.text.buffer.can → mid.life ≡ old.life → place_now mid ≡ place_now old → mid.text.settings ≡ old.text.settings → without_bytes mid ≡ without_bytes old
same_but_bytes old mid can current place settings =
    ap (λ (own : TextPlace). let file : TextFile = record { bytes = []; place = own; can = mid.text.buffer.can; settings = mid.text.settings; life = mid.life } in file) place
    ∙ (ap (λ (own : Abilities). let file : TextFile = record { bytes = []; place = place_now old; can = own; settings = mid.text.settings; life = mid.life } in file) can
    ∙ (ap (λ (own : TextSettings). let file : TextFile = record { bytes = []; place = place_now old; can = old.text.buffer.can; settings = own; life = mid.life } in file) settings
    ∙ ap (λ (own : Life). let file : TextFile = record { bytes = []; place = place_now old; can = old.text.buffer.can; settings = old.text.settings; life = own } in file) current))

-- a seek of a text goes by the same cookie once the text handed on what it owed
pub seeks_still : (old mid : WrittenView) (sought : List ℕ) (whence : ℤ) (goal : Cookie) → old.text.at ≡ old.text.buffer.place → mid.text.at ≡ mid.text.buffer.place → HandsOn old false false mid → mid.life ≡ old.life → Seeks (state_of old false) sought whence goal → Seeks (state_of mid false) sought whence goal
seeks_still old mid sought whence goal stood there hands current seeks =
    let raw = hands.calls.keeps.raw in
    let behind : behind_own (over_of mid) ≡ behind_own (over_of old) = behind_still old mid stood there hands.place in
    record {
      accepted = ap (λ (file : TextFile). refused_here file (SeekText sought whence)) (same_but_bytes old mid hands.calls.keeps.can current hands.place hands.settings) ∙ seeks.accepted;
      by = sought_on (over_of mid) (over_of old) sought whence goal (sym hands.place) (sym behind) seeks.by;
      told = λ told.
          let was = sym (tells_still old.text.buffer.raw mid.text.buffer.raw raw) ∙ told in
          let same = handed_file old mid false false hands current was in
          let goes = seeks.told was in
          (ap (λ (file : TextFile). refusal file (SeekText sought whence)) same ∙ goes.0, ap (λ (file : TextFile). sought_cookie file sought whence) same ∙ goes.1);
    }

-- Behind what was handed on.

-- what a seek passed on doesn't hang on what was before it
pub passes_seek : (before mid after : TextState) (sought : List ℕ) (whence : ℤ) (reply : FileReply) → TextPasses mid (SeekText sought whence) reply after → TextPasses before (SeekText sought whence) reply after
passes_seek before mid after sought whence reply passes = grind arith

-- a seek behind what a text that owed something handed on
pub seek_over : (old mid new : WrittenView) (goal : Cookie) (reply : FileReply) (short : Bool) → IsJoined (over_of old) → IsJoined (over_of mid) → old.text.buffer.can.writable ≡ true → old.life ≡ life.Live → old.text.at ≡ old.text.buffer.place → mid.text.at ≡ mid.text.buffer.place → old.pending ≢ [] → SettleOutcome old (Ok tt) mid → AnswersSeeks (state_of mid false) goal reply (state_of new short) → AnswersSeeks (state_of old false) goal reply (state_of new short)
seek_over old mid new goal reply short was is writes live stood there owes outcome answers sought whence seeks =
    let hands = outcome.0 in
    let next = seeks_still old mid sought whence goal stood there hands (outcome.2 ∙ sym live) seeks in
    let behind = answers sought whence next in
    answers_work old (SeekText sought whence) reply new short (answers_over old mid (SeekText sought whence) reply new short was is writes live outcome.2 stood there hands outcome.1 (busy_other old.pending (SeekText sought whence) owes) owes refl refl seeks.accepted next.accepted tt (passes_seek (state_of old false) (state_of mid false) (state_of new short) sought whence reply behind.passes) tt tt (λ gives. absurd (cc)) tt behind)

-- What stops the handing on.

seek_waits : (sought : List ℕ) (whence : ℤ) → Ends (SeekText sought whence) (Refused (fault.WouldBlock 0)) true
seek_waits sought whence = record { once = refl; some = refl; shorts = refl; settings = λ own. refl; place = λ own end. tt; written = λ before after. tt; answer = refl; calm = λ is fails. absurd (cc); passes = λ before after. tt; kept = λ after. tt; holds = λ before after. tt; lines = λ newline. tt; blames = λ settings own far. tt; seeks = λ before some. inl (refl, some); moves = λ from to. tt; closes = λ current before after kept. tt }

seek_faults : (sought : List ℕ) (whence : ℤ) → Ends (SeekText sought whence) (Refused fault.RawFault) false
seek_faults sought whence = record { once = refl; some = refl; shorts = refl; settings = λ own. refl; place = λ own end. tt; written = λ before after. tt; answer = tt; calm = λ is fails. absurd (cc); passes = λ before after. tt; kept = λ after. tt; holds = λ before after. tt; lines = λ newline. tt; blames = λ settings own far. tt; seeks = λ before some. inl refl; moves = λ from to. tt; closes = λ current before after kept. tt }

seek_starves : (sought : List ℕ) (whence : ℤ) → Ends (SeekText sought whence) (Refused fault.NoMemory) false
seek_starves sought whence = record { once = refl; some = refl; shorts = refl; settings = λ own. refl; place = λ own end. tt; written = λ before after. tt; answer = tt; calm = λ is fails. record { answer = tt; whole = refl }; passes = λ before after. tt; kept = λ after. tt; holds = λ before after. tt; lines = λ newline. tt; blames = λ settings own far. tt; seeks = λ before some. inl refl; moves = λ from to. tt; closes = λ current before after kept. tt }

pub goes_so : (old : WrittenView) (sought : List ℕ) (whence : ℤ) (goal : Cookie) → old.life ≡ life.Live → Seeks (state_of old false) sought whence goal → WhereShown old.text.buffer (Goes (file_now old) sought whence goal)
goes_so old sought whence goal live seeks told = let goes = seeks.told told in record { live = live; accepted = goes.0; is = goes.1 }

seek_blocked : (old new : WrittenView) (sought : List ℕ) (whence : ℤ) (goal : Cookie) → Owes old → Seeks (state_of old false) sought whence goal → HandsOn old true false new → new.text.at ≡ new.text.buffer.place → (new.pending ≢ []) × IsStuffed new.text.buffer → new.life ≡ life.Live → IsJoined (over_of new) → Answers (state_of old false) (SeekText sought whence) (Refused (fault.WouldBlock 0)) (state_of new true)
seek_blocked old new sought whence goal owes seeks hands there left lives joined =
    let current : new.life ≡ old.life = lives ∙ sym owes.live in
    answers_work old (SeekText sought whence) (Refused (fault.WouldBlock 0)) new true (ends_work old (SeekText sought whence) (Refused (fault.WouldBlock 0)) new true owes (seek_waits sought whence) seeks.accepted hands there (λ is. left) current joined tt tt
    (λ told. wait_step (file_now old) (file_now new) sought whence goal 0 (goes_so old sought whence goal owes.live seeks told) refl (inl (handed_file old new true false hands current told))))

seek_failed : (old new : WrittenView) (sought : List ℕ) (whence : ℤ) (goal : Cookie) → Owes old → Seeks (state_of old false) sought whence goal → HandsOn old false true new → new.text.at ≡ new.text.buffer.place → new.life ≡ life.Failed → IsJoined (over_of new) → Answers (state_of old false) (SeekText sought whence) (Refused fault.RawFault) (state_of new false)
seek_failed old new sought whence goal owes seeks hands there failed joined =
    answers_work old (SeekText sought whence) (Refused fault.RawFault) new false (ends_work old (SeekText sought whence) (Refused fault.RawFault) new false owes (seek_faults sought whence) seeks.accepted hands there (λ is. absurd (cc)) failed joined tt tt
    (λ told. fault_step (file_now old) (file_now new) sought whence goal (goes_so old sought whence goal owes.live seeks told) (fails_still (file_now old) (file_now new) life.Failed failed (hands.bytes told) hands.calls.keeps.can hands.settings)))

midway_seek : (file after : TextFile) (sought : List ℕ) (whence : ℤ) (goal : Cookie) → Goes file sought whence goal → file.can.writable ≡ true → Fails file life.Failed file.bytes after → TextFileStep file (SeekText sought whence) (Refused fault.NoMemory) false false after
midway_seek file after sought whence goal goes writes fails = out_of_memory refl (inr (reaches_so file sought whence goal goes, (writes, (0, omega arith, fails))))

seek_starved : (old new : WrittenView) (sought : List ℕ) (whence : ℤ) (goal : Cookie) → Owes old → Seeks (state_of old false) sought whence goal → HandsOn old false false new → new.text.at ≡ new.text.buffer.place → IsTrue old.text.buffer.raw.takes_memory → (new.life ≡ life.Live) ⊎ ((new.life ≡ life.Failed) × FailedWithOwn (over_of old) (over_of new)) → IsJoined (over_of new) → Answers (state_of old false) (SeekText sought whence) (Refused fault.NoMemory) (state_of new false)
seek_starved old new sought whence goal owes seeks hands there takes (inl lives) joined =
    let current : new.life ≡ old.life = lives ∙ sym owes.live in
    answers_work old (SeekText sought whence) (Refused fault.NoMemory) new false (ends_work old (SeekText sought whence) (Refused fault.NoMemory) new false owes (seek_starves sought whence) seeks.accepted hands there (λ is. absurd (cc)) (inl current) joined (starved_not old new (SeekText sought whence) hands current) tt
    (λ told. starve_step (file_now old) (file_now new) sought whence goal (goes_so old sought whence goal owes.live seeks told) (inl (handed_file old new false false hands current told))))
seek_starved old new sought whence goal owes seeks hands there takes (inr failed) joined =
    answers_work old (SeekText sought whence) (Refused fault.NoMemory) new false (ends_work old (SeekText sought whence) (Refused fault.NoMemory) new false owes (seek_starves sought whence) seeks.accepted hands there (λ is. absurd (cc)) (inr (refl, failed.0)) joined (inr (inl (record { life_is = failed.0; takes = takes; has = has_own (over_of old) (SeekText sought whence) owes.some; gave = inl failed.1 }))) tt
    (λ told. midway_seek (file_now old) (file_now new) sought whence goal (goes_so old sought whence goal owes.live seeks told) owes.writes (fails_still (file_now old) (file_now new) life.Failed failed.0 (hands.bytes told) hands.calls.keeps.can hands.settings)))

-- a seek whose handing on stopped
pub seek_stops : (old new : WrittenView) (goal : Cookie) (why : IoFault) → Owes old → new.text.at ≡ new.text.buffer.place → SettleOutcome old (Err why) new → IsJoined (over_of new) → AnswersSeeks (state_of old false) goal (Refused (with_taken why 0)) (state_of new (says_wait (Refused (with_taken why 0))))
seek_stops old new goal (fault.WouldBlock taken) owes there outcome joined sought whence seeks = seek_blocked old new sought whence goal owes seeks outcome.0 there (outcome.1, outcome.4) outcome.2 joined
seek_stops old new goal fault.RawFault owes there outcome joined sought whence seeks = seek_failed old new sought whence goal owes seeks outcome.0 there outcome.1 joined
seek_stops old new goal fault.NoMemory owes there outcome joined sought whence seeks = seek_starved old new sought whence goal owes seeks outcome.0 there outcome.1 (starved_life old new outcome.2) joined
seek_stops old new goal other owes there outcome joined sought whence seeks = absurd outcome

-- A text that owes nothing itself.

-- it seeks as the text that reads does
pub text_sought : (now : WrittenView) (old new : TextView) (pending : List ℕ) (room more : ℕ) (before after : Life) (goal : Cookie) (reply : FileReply) (short : Bool) → view_of old pending room before ≡ now → IsWritten old pending before → now.life ≡ life.Live → now.pending ≡ [] → after ≡ new.buffer.life → AnswersSeeks (read_state old false) goal reply (read_state new short) → AnswersSeeks (state_of now false) goal reply (state_of (view_of new pending more after) short)
text_sought now old new pending room more before after goal reply short same is live owes current answers sought whence seeks =
    let lives : before ≡ life.Live = ap (λ (view : WrittenView). view.life) same ∙ live in
    let none : pending ≡ [] = ap (λ (view : WrittenView). view.pending) same ∙ owes in
    let states = state_same old pending room before false none (lives ∙ sym (is.lives lives)) in
    let own = subst (λ (view : WrittenView). Seeks (state_of view false) sought whence goal) (sym same) seeks in
    text_answers now old new pending room more before after (SeekText sought whence) reply short same is live owes current
    (answers sought whence (subst (λ (state : TextState). Seeks state sought whence goal) (sym states) own))

-- where it is clean no character was taken, and it stands behind no item
clean_at_start : (goal : Cookie) (new : TextView) → StandsAtStart goal new → (new.taken ≡ 0) × (new.front ≡ None)
clean_at_start goal new start = (ap (λ (place : TextPlace). place.taken) start.place, ap (λ (place : TextPlace). place.front) start.place)

clean_as_was : (old new : TextView) → (old.dirty ≡ false → (old.taken ≡ 0) × (old.front ≡ None)) → place_of new ≡ place_of old → new.dirty ≡ false → (new.taken ≡ 0) × (new.front ≡ None)
clean_as_was old new was same clean =
    let had = was (sym (ap (λ (place : TextPlace). place.dirty) same) ∙ clean) in
    (ap (λ (place : TextPlace). place.taken) same ∙ had.0, ap (λ (place : TextPlace). place.front) same ∙ had.1)

clean_put : (goal : Cookie) (new : TextView) (skipped : Bool) → place_of new ≡ (if skipped then place_inside goal else start_place goal) → new.dirty ≡ false → (new.taken ≡ 0) × (new.front ≡ None)
clean_put goal new true there clean = let dirty : new.dirty ≡ true = ap (λ (place : TextPlace). place.dirty) there in let never = sym dirty ∙ clean in absurd (cc)
clean_put goal new false there clean = (ap (λ (place : TextPlace). place.taken) there, ap (λ (place : TextPlace). place.front) there)

clean_either : (old new : TextView) (goal : Cookie) → (old.dirty ≡ false → (old.taken ≡ 0) × (old.front ≡ None)) → (place_of new ≡ place_of old) ⊎ StandsAtStart goal new → new.dirty ≡ false → (new.taken ≡ 0) × (new.front ≡ None)
clean_either old new goal was (inl same) clean = clean_as_was old new was same clean
clean_either old new goal was (inr start) clean = clean_at_start goal new start

clean_waited : (old new : TextView) (goal : Cookie) → (old.dirty ≡ false → (old.taken ≡ 0) × (old.front ≡ None)) → StaysOwing old new ⊎ StandsAtStart goal new → new.dirty ≡ false → (new.taken ≡ 0) × (new.front ≡ None)
clean_waited old new goal was (inl stays) clean = clean_as_was old new was stays.0 clean
clean_waited old new goal was (inr start) clean = clean_at_start goal new start

clean_sought : (old new : TextView) (goal : Cookie) (result : Result (Unit {0}) IoFault) → (old.dirty ≡ false → (old.taken ≡ 0) × (old.front ≡ None)) → SeekOutcome old goal result new → new.dirty ≡ false → (new.taken ≡ 0) × (new.front ≡ None)
clean_sought old new goal (Ok done) was outcome clean = clean_put goal new (skips goal) outcome.1 clean
clean_sought old new goal (Err fault.CannotRestore) was outcome clean = clean_at_start goal new outcome.1
clean_sought old new goal (Err (fault.WouldBlock taken)) was outcome clean = clean_waited old new goal was outcome.2 clean
clean_sought old new goal (Err fault.RawFault) was outcome clean = clean_either old new goal was outcome.1 clean
clean_sought old new goal (Err fault.NoMemory) was outcome clean = clean_either old new goal was (without_memory old new goal outcome.1) clean
clean_sought old new goal (Err other) was outcome clean = absurd outcome

-- the buffer was called, and the settings stay
record SoughtOver (old new : TextView) : Type 0 where
  keeps : KeepsBuffer old.buffer new.buffer
  settings : new.settings ≡ old.settings

sought_over : (old new : TextView) (goal : Cookie) (result : Result (Unit {0}) IoFault) → SeekOutcome old goal result new → SoughtOver old new
sought_over old new goal (Ok done) outcome = record { keeps = outcome.0.calls.keeps; settings = outcome.0.settings }
sought_over old new goal (Err fault.CannotRestore) outcome = record { keeps = outcome.0.calls.keeps; settings = outcome.0.settings }
sought_over old new goal (Err (fault.WouldBlock taken)) outcome = record { keeps = outcome.0.calls.keeps; settings = outcome.0.settings }
sought_over old new goal (Err fault.RawFault) outcome = record { keeps = outcome.0.calls.keeps; settings = outcome.0.settings }
sought_over old new goal (Err fault.NoMemory) outcome = record { keeps = outcome.0.calls.keeps; settings = outcome.0.settings }
sought_over old new goal (Err other) outcome = absurd outcome

pub written_sought : (old new : TextView) (pending : List ℕ) (before after : Life) (goal : Cookie) (result : Result (Unit {0}) IoFault) → IsWritten old pending before → pending ≡ [] → after ≡ new.buffer.life → SeekOutcome old goal result new → IsJoined (read_of new) → IsWritten new pending after
written_sought old new pending before after goal result is none current outcome joined =
    let over = sought_over old new goal result outcome in
    let can : new.buffer.can.writable ≡ old.buffer.can.writable = ap (λ (own : Abilities). own.writable) over.keeps.can in
    record {
      kept = over.keeps.exported ∙ is.kept;
      asks = subst (λ (own : TextSettings). 0 < own.chunk_size) (sym over.settings) is.asks;
      clean = clean_sought old new goal result is.clean outcome;
      handler = λ writes. subst (λ (own : TextSettings). writes_texts own.handler ≡ true) (sym over.settings) (is.handler (sym can ∙ writes));
      lives = λ live. sym current ∙ live;
      stands = inl none;
      joined = joined;
      far = omega (arith, joined.far, ap length none);
      unwritten = λ unable. (none, current);
    }

-- What refuses.

seek_by : (file : TextFile) (sought : List ℕ) (whence : ℤ) (current : Life) (why : IoFault) → file.life ≡ current → life_fault current ≡ Some why → refused_here file (SeekText sought whence) ≡ Some why
seek_by file sought whence life.Live why is refuses = absurd (cc)
seek_by file sought whence life.Failed why is refuses = rw is refuses
seek_by file sought whence life.Closed why is refuses = rw is refuses
seek_by file sought whence life.Detached why is refuses = rw is refuses

-- a seek that the life refuses
pub unsought_by_life : (now : TextState) (text : WrittenView) (was : Bool) (sought : List ℕ) (whence : ℤ) (current : Life) (why : IoFault) → state_of text was ≡ now → text.life ≡ current → life_fault current ≡ Some why → IsJoined (over_of text) → Answers now (SeekText sought whence) (Refused why) (state_of text false)
unsought_by_life now text was sought whence current why same is refuses joined =
    subst (λ (before : TextState). Answers before (SeekText sought whence) (Refused why) (state_of text false)) same
    (refused text was (SeekText sought whence) why (seek_by (file_now text) sought whence current why is refuses) (own_life current why refuses) refl joined)

unmoved : (seekable appending : Bool) (counts : Bool) → (seekable && not appending) ≡ false → (not seekable || (appending || counts)) ≡ true
unmoved false appending counts is = refl
unmoved true true counts is = refl
unmoved true false counts is = absurd (cc)

unmovable : (file : TextFile) (sought : List ℕ) (whence : ℤ) → file.life ≡ life.Live → (file.can.seekable && not file.can.appending) ≡ false → refused_here file (SeekText sought whence) ≡ Some fault.Unsupported
unmovable file sought whence live can = rw live (rw (unmoved file.can.seekable file.can.appending (counts_on whence && not (are_zeros sought)) can) refl)

-- a seek over a buffer that can't be moved
pub unsought : (now : TextState) (text : WrittenView) (was : Bool) (sought : List ℕ) (whence : ℤ) → state_of text was ≡ now → text.life ≡ life.Live → (text.text.buffer.can.seekable && not text.text.buffer.can.appending) ≡ false → IsJoined (over_of text) → Answers now (SeekText sought whence) (Refused fault.Unsupported) (state_of text false)
unsought now text was sought whence same live can joined =
    subst (λ (before : TextState). Answers before (SeekText sought whence) (Refused fault.Unsupported) (state_of text false)) same
    (refused text was (SeekText sought whence) fault.Unsupported (unmovable (file_now text) sought whence live can) refl refl joined)

-- what an argument refuses
by_argument : (file : TextFile) (sought : List ℕ) (whence : ℤ) → file.life ≡ life.Live → file.can.seekable ≡ true → file.can.appending ≡ false → refused_here file (SeekText sought whence) ≡ or_else (refused_if (counts_on whence && not (are_zeros sought)) fault.Unsupported) (argument_refusal (record file { bytes = [] }) (SeekText sought whence))
by_argument file sought whence live seeks appends = rw live (rw seeks (rw appends refl))

-- the settings and the place that what refuses a seek is asked with, of which it hangs on the encoding alone
abbrev pub settings_for : TextFile → PlainSettings
settings_for file = record { encoding = file.settings.encoding; handler = file.settings.handler; newline = file.settings.newline }

abbrev pub any_place : PlainPlace
any_place = record { front = None; at = 0; taken = 0; dirty = false }

pub refused_as : (text : WrittenView) (sought : List ℕ) (whence : ℤ) (refusal : Option IoFault) → CanMove text → refusal ≡ sought_refusal (text_at [] (settings_for (file_now text)) any_place) sought whence → refused_here (file_now text) (SeekText sought whence) ≡ refusal
refused_as text sought whence why moves is = by_argument (file_now text) sought whence moves.live moves.seeks moves.appends ∙ sym is

unwaited : (why : IoFault) → blames why ≡ false → says_wait (Refused why) ≡ false
unwaited (fault.WouldBlock taken) own = absurd (cc)
unwaited why own = refl

pub unsought_so : (text : WrittenView) (sought : List ℕ) (whence : ℤ) (why : IoFault) → refused_here (file_now text) (SeekText sought whence) ≡ Some why → IsJoined (over_of text) → Answers (state_of text false) (SeekText sought whence) (Refused why) (state_of text (says_wait (Refused why)))
unsought_so text sought whence why here joined =
    let own = own_seek (file_now text) sought whence why here in
    subst (λ (short : Bool). Answers (state_of text false) (SeekText sought whence) (Refused why) (state_of text short)) (sym (unwaited why own))
    (refused text false (SeekText sought whence) why here own refl joined)

pub passes_sought : (text : WrittenView) (was : Bool) (sought : List ℕ) (whence : ℤ) (result : Result TextIOCookie IoFault) (after : TextState) → TextPasses (state_of text false) (SeekText sought whence) (cookie_reply result) after → TextPasses (state_of text was) (SeekText sought whence) (cookie_reply result) after
passes_sought text was sought whence result after passes = passes_seek (state_of text was) (state_of text false) after sought whence (cookie_reply result) passes

-- By which cookie.

from_start : (file : TextFile) (sought : List ℕ) (whence : ℤ) → whence ≢ pos 1 → whence ≢ pos 2 → sought_cookie file sought whence ≡ cookie_of sought
from_start file sought (pos (suc zero)) one two = absurd (one refl)
from_start file sought (pos (suc (suc zero))) one two = absurd (two refl)
from_start file sought whence one two = refl

by_start : (text : TextOver Buffer) (sought : List ℕ) (whence : ℤ) (goal : Cookie) → whence ≢ pos 1 → whence ≢ pos 2 → goal ≡ cookie_of sought → SeeksBy text sought whence goal
by_start text sought (pos (suc zero)) goal one two is = absurd (one refl)
by_start text sought (pos (suc (suc zero))) goal one two is = absurd (two refl)
by_start text sought whence goal one two is = is

free_here : (file : TextFile) (sought : List ℕ) (whence : ℤ) → whence ≢ pos 2 → refused_here file (SeekText sought whence) ≡ None → refusal file (SeekText sought whence) ≡ None
free_here file sought (pos (suc (suc zero))) two none = absurd (two refl)
free_here file sought whence two none = none

-- a seek by the cookie that was given
pub seeks_by_cookie : (text : WrittenView) (sought : List ℕ) (whence : ℤ) (goal : Cookie) → whence ≢ pos 1 → whence ≢ pos 2 → refused_here (file_now text) (SeekText sought whence) ≡ None → goal ≡ cookie_of sought → Seeks (state_of text false) sought whence goal
seeks_by_cookie text sought whence goal one two none is = record {
  accepted = none;
  by = by_start (over_of text) sought whence goal one two is;
  told = λ told. (free_here (file_now text) sought whence two none, from_start (file_now text) sought whence one two ∙ sym is);
}

-- a seek to where a text stands
pub seeks_here : (text : WrittenView) (sought : List ℕ) (here : TextIOCookie) → refused_here (file_now text) (SeekText sought (pos 1)) ≡ None → TellsPlace text here → Seeks (state_of text false) sought (pos 1) (cookie_shown here)
seeks_here text sought here none tells = record {
  accepted = none;
  by = tells.within;
  told = λ told. (none, sym (tells.told told));
}

-- an answered seek answers the cookie that it went by, which can be built
pub builds_by : (result : Result TextIOCookie IoFault) (goal : TextIOCookie) → IfOk result (λ cookie. cookie ≡ goal) → is_buildable (cookie_shown goal) ≡ true → IfOk result (λ cookie. is_buildable (cookie_shown cookie) ≡ true)
builds_by (Ok cookie) goal same builds = ap (λ (own : TextIOCookie). is_buildable (cookie_shown own)) same ∙ builds
builds_by (Err why) goal same builds = tt

near_fits : (start : ℤ) → is_natural start ≡ true → SFits w64 start → nat_abs start ≤ greatest_place
near_fits (pos n) natural fit = omega (arith, fit.sfits)
near_fits (negsuc n) natural fit = absurd (cc)

-- a cookie that was parsed is that of its bytes
parsed_as : (goal : Cookie) (bytes : List ℕ) (long : Bool) → Some goal ≡ (if long then None else Some (cookie_of bytes)) → goal ≡ cookie_of bytes
parsed_as goal bytes true is = absurd (cc)
parsed_as goal bytes false is = cc

pub parsed_so : (goal : TextIOCookie) (bytes : List ℕ) → Some (cookie_shown goal) ≡ parsed bytes → cookie_shown goal ≡ cookie_of bytes
parsed_so goal bytes is = parsed_as (cookie_shown goal) bytes _ is

-- one that nothing refuses can be gone by
pub sound_so : (text : WrittenView) (sought : List ℕ) (whence : ℤ) (goal : TextIOCookie) → sought_refusal (text_at [] (settings_for (file_now text)) any_place) sought whence ≡ None → cookie_shown goal ≡ cookie_of sought → SFits w64 (cookie_shown goal).start_pos → CanSeekBy (cookie_shown goal)
sound_so text sought whence goal none is fit =
    let sound = accepted_sound (text_at [] (settings_for (file_now text)) any_place) sought whence goal none is in
    record { near = near_fits (cookie_shown goal).start_pos sound.natural fit; flags = sound.flags }

first_none : (first later : Option IoFault) → or_else first later ≡ None → (first ≡ None) × (later ≡ None)
first_none (Some why) later none = absurd (cc)
first_none None later none = (refl, none)

unrefused : (test : Bool) (why : IoFault) → refused_if (not test) why ≡ None → test ≡ true
unrefused true why none = refl
unrefused false why none = absurd (cc)

valid_so : (file : TextFile) (sought : List ℕ) (whence : ℤ) → sought_refusal file sought whence ≡ None → is_valid_cookie file.settings.encoding (parsed sought) ≡ true
valid_so file sought whence none =
    let arguments = (first_none (refused_if (counts_on whence && not (are_zeros sought)) fault.Unsupported) _ none).1 in
    let behind = (first_none (whence_refusal whence) _ arguments).1 in
    unrefused _ fault.InvalidCookie (first_none (cookie_refusal file sought) (end_refusal file whence) behind).0

both_parts : (first second : Bool) → (first && second) ≡ true → first ≡ true
both_parts true second is = refl
both_parts false second is = absurd (cc)

buildable_by : (encoding : Encoding) (goal : Cookie) (long : Bool) → is_valid_cookie encoding (if long then None else Some goal) ≡ true → is_buildable goal ≡ true
buildable_by encoding goal true is = absurd (cc)
buildable_by encoding goal false is = both_parts (is_buildable goal) _ is

accepted_valid : (text : WrittenView) (sought : List ℕ) (whence : ℤ) → sought_refusal (text_at [] (settings_for (file_now text)) any_place) sought whence ≡ None → is_valid_cookie text.text.settings.encoding (parsed sought) ≡ true
accepted_valid text sought whence none = valid_so (text_at [] (settings_for (file_now text)) any_place) sought whence none

-- one that nothing refuses can be built
pub builds_so : (text : WrittenView) (sought : List ℕ) (whence : ℤ) (goal : TextIOCookie) → sought_refusal (text_at [] (settings_for (file_now text)) any_place) sought whence ≡ None → cookie_shown goal ≡ cookie_of sought → is_buildable (cookie_shown goal) ≡ true
builds_so text sought whence goal none is = ap is_buildable is ∙ buildable_by text.text.settings.encoding (cookie_of sought) _ (accepted_valid text sought whence none)

-- nor has it too many bytes
pub none_parsed : (text : WrittenView) (sought : List ℕ) (whence : ℤ) → sought_refusal (text_at [] (settings_for (file_now text)) any_place) sought whence ≡ None → None ≡ parsed sought → ⊥
none_parsed text sought whence none is =
    let valid : is_valid_cookie text.text.settings.encoding None ≡ true = ap (is_valid_cookie text.text.settings.encoding) is ∙ accepted_valid text sought whence none in
    absurd (cc)

-- what was asked with the text's own settings is what refuses the seek
pub record AsksFor (text : WrittenView) (sought : List ℕ) (whence : ℤ) (refusal : Option IoFault) : Type 0 where
  pub asked : refusal ≡ sought_refusal (text_at [] (settings_for (file_now text)) any_place) sought whence
  pub here : refused_here (file_now text) (SeekText sought whence) ≡ refusal

pub asks_so : (text : WrittenView) (sought : List ℕ) (whence counted : ℤ) (refusal : Option IoFault) → CanMove text → counted ≡ whence → ((settings : PlainSettings) (place : PlainPlace) → refusal ≡ sought_refusal (text_at [] settings place) sought counted) → AsksFor text sought whence refusal
asks_so text sought whence counted refusal moves same is =
    let asked = subst (λ (own : ℤ). refusal ≡ sought_refusal (text_at [] (settings_for (file_now text)) any_place) sought own) same (is (settings_for (file_now text)) any_place) in
    record { asked = asked; here = refused_as text sought whence refusal moves asked }

-- no seek hands the buffer back
lives_on : (writes : Bool) (sought : List ℕ) (whence : ℤ) (reply : FileReply) (before after : Life) → LifeMoves writes (SeekText sought whence) reply before after → before ≢ life.Detached → after ≢ life.Detached
lives_on writes sought whence (Refused fault.NoMemory) before after (inl same) was = λ gone. was (sym same ∙ gone)
lives_on writes sought whence (Refused fault.NoMemory) before after (inr failed) was = λ gone. let never : life.Failed ≡ life.Detached = sym failed.1 ∙ gone in absurd (cc)
lives_on writes sought whence (Refused fault.RawFault) before after is was = λ gone. let never : life.Failed ≡ life.Detached = sym is ∙ gone in absurd (cc)
lives_on writes sought whence reply before after is was = λ gone. was (sym is ∙ gone)

pub stays_attached : (old new : TextState) (sought : List ℕ) (whence : ℤ) (reply : FileReply) → Answers old (SeekText sought whence) reply new → old.text.life ≢ life.Detached → new.text.life ≢ life.Detached
stays_attached old new sought whence reply answers was = lives_on old.text.buffer.can.writable sought whence reply old.text.life new.text.life answers.moves.life_is was
