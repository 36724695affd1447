-- A detaching of a session: that of its text, whose buffer is taken apart, so that all that is owed is handed over in one piece.
use Rattle.std.proofs.Common.{◌≡◌, ◌≢◌, ℕ, ◌+◌, ◌-◌, ◌≤◌, ◌⊎◌, inl, inr, Bool, true, false, List, [], ◌++◌, length, take, drop, Option, Some, None, IfSome, option_map, if◌then◌else◌, refl, sym, ap, ◌∙◌, subst, arith}
use Rattle.std.proofs.lemmas.List.{length-append}
use Rattle.py_flat.specs.declared.fault.IoFault.{IoFault}
use Rattle.py_flat.specs.declared.fault.IoFault.TheVariants as fault
use Rattle.py_flat.specs.declared.life.Life.{Life}
use Rattle.py_flat.specs.declared.life.Life.TheVariants as life
use Rattle.py_flat.specs.Bytes.{lay}
use Rattle.py_flat.specs.Calls.{FileReply, Unwritten, Refused}
use Rattle.py_flat.specs.FlatFile.{Abilities, Buffering, Buffered}
use Rattle.py_flat.specs.AllowedStep.{settled}
use Rattle.py_flat.specs.BinaryStep.{StandAt}
use Rattle.py_flat.proofs.Laying.{lay_behind, lay_reads_back}
use Rattle.py_plain_text.specs.TextFile.{TextFile}
use Rattle.py_plain_text.specs.TextCalls.{TextFileCall, Detach, is_detach}
use Rattle.py_plain_text.specs.TextRefusals.{refusal}
use Rattle.py_plain_text.specs.TextExact.{in_life}
use Rattle.py_plain_text.specs.TextAllowed.{SettledBy, DetachesIn, TextFileStep}
use Rattle.py_raw.specs.RawStream.{Raw}
use Rattle.py_stream.specs.Writing.{OwesUpTo}
use Rattle.py_stream.specs.Buffer.{Buffer, WhereShown, flat_of}
use Rattle.py_read_text.specs.TextState.{TextState, file_of}
use Rattle.py_read_text.specs.Owing.{all_owed, IsJoined, JoinsAt}
use Rattle.py_read_text.specs.Answers.{Answers}
use Rattle.py_read_text.proofs.Living.{lives_on}
use Rattle.py_textio.specs.Handing as text
use Rattle.py_textio.specs.Handing.{HandsOver, RefusesDetach, handed_over}
use Rattle.py_open.specs.TextHanding.{place_owed, gone_text, left_by, HandsOwed, AnswersCall}
use Rattle.py_open.specs.TextSession.{IsTextSession, KeepsBeside, seen, IsSession}
use Rattle.py_open.proofs.TextKeeping.{not_detached, seen_stays}
use Rattle.py_open.proofs.Parting.{may_take, place_so}

-- What is handed over stands in the bytes.

-- bytes that were laid on, and others behind them or alone, are both laid on in one piece
laid_both : (bytes : List ℕ) (from : ℕ) (first : List ℕ) (place : ℕ) (own : List ℕ) (start : ℕ) → ((first ≡ []) × (start ≡ place)) ⊎ ((from + length first ≡ place) × (start ≡ from)) → lay (lay bytes from first) place own ≡ lay bytes start (first ++ own)
laid_both bytes from first place own start (inl none) = rw (none.0, none.1) refl
laid_both bytes from first place own start (inr is) = rw (← is.0, is.1) (lay_behind bytes from first own)

starts_at : (buffer : Buffer) (own : List ℕ) (at : ℕ) → at ≡ buffer.place + length own → OwesUpTo buffer.owed buffer.place → ((buffer.owed.bytes ≡ []) × (at - length (buffer.owed.bytes ++ own) ≡ buffer.place)) ⊎ ((buffer.owed.place + length buffer.owed.bytes ≡ buffer.place) × (at - length (buffer.owed.bytes ++ own) ≡ buffer.owed.place))
starts_at buffer own at stands (inl none) =
    let all : length (buffer.owed.bytes ++ own) ≡ length own = ap (λ (owed : List ℕ). length (owed ++ own)) none in
    inl (none, omega (arith, stands, all))
starts_at buffer own at stands (inr below) = inr (below, omega (arith, stands, below, length-append buffer.owed.bytes own))

-- the bytes of a text are its raw's, with all that it and its buffer owe laid on where that begins
pub laid_all : {from taken : ℕ} {current : Life} → (buffer : Buffer) (own : List ℕ) (at : ℕ) → JoinsAt buffer own from at taken current → lay (flat_of buffer).bytes buffer.place own ≡ lay buffer.raw.bytes (at - length (buffer.owed.bytes ++ own)) (buffer.owed.bytes ++ own)
laid_all buffer own at joined = by joined.stands
  where
    by : ((buffer.owed.bytes ≡ []) × (own ≡ [])) ⊎ (at ≡ buffer.place + length own) → lay (flat_of buffer).bytes buffer.place own ≡ lay buffer.raw.bytes (at - length (buffer.owed.bytes ++ own)) (buffer.owed.bytes ++ own)
    by (inl none) = rw (none.0, none.1) refl
    by (inr stands) = laid_both buffer.raw.bytes buffer.owed.place buffer.owed.bytes buffer.place own (at - length (buffer.owed.bytes ++ own)) (starts_at buffer own at stands joined.below)

all_reads : {from taken : ℕ} {current : Life} → (buffer : Buffer) (own : List ℕ) (at : ℕ) → JoinsAt buffer own from at taken current → take (length (buffer.owed.bytes ++ own)) (drop (at - length (buffer.owed.bytes ++ own)) (lay (flat_of buffer).bytes buffer.place own)) ≡ buffer.owed.bytes ++ own
all_reads buffer own at joined =
    ap (λ (bytes : List ℕ). take (length (buffer.owed.bytes ++ own)) (drop (at - length (buffer.owed.bytes ++ own)) bytes)) (laid_all buffer own at joined)
    ∙ lay_reads_back buffer.raw.bytes (at - length (buffer.owed.bytes ++ own)) (buffer.owed.bytes ++ own)

-- all that a text and its buffer owe stands in its bytes, at the place that is handed over, or where the raw can't seek at some place
all_stand : {from taken : ℕ} {current : Life} → (buffer : Buffer) (own : List ℕ) (at : ℕ) (seekable : Bool) → JoinsAt buffer own from at taken current → StandAt (buffer.owed.bytes ++ own) seekable (if seekable then Some (at - length (buffer.owed.bytes ++ own)) else None) (lay (flat_of buffer).bytes buffer.place own)
all_stand buffer own at true joined = all_reads buffer own at joined
all_stand buffer own at false joined = (at - length (buffer.owed.bytes ++ own), all_reads buffer own at joined)

-- The answer with all that is owed in place of the text's own.

-- another reply that hands over is answered alike, but for what the model says of it
says_all : (old new : TextState) (one all : List ℕ) (first at : Option ℕ) → Answers old Detach (Unwritten one first) new → WhereShown old.text.buffer (TextFileStep (file_of old) Detach (Unwritten all at) new.short false (file_of new)) → Answers old Detach (Unwritten all at) new
says_all old new one all first at answers told = record {
  keeps = answers.keeps;
  refused = λ why here. let wrong = (answers.refused why here).says in absurd (cc);
  again = λ closes. absurd (cc);
  causes = record { waits = answers.causes.waits; faults = answers.causes.faults };
  counted = λ exact.
      let counts = answers.counted exact in
      record {
        faults = counts.faults;
        ends = λ own. let ends = counts.ends own in record { waits = ends.waits; once = ends.once; most = ends.most };
      };
  shorts = answers.shorts;
  nothing = λ none. absurd (cc);
  moves = record { settings = answers.moves.settings; life_is = answers.moves.life_is; place = answers.moves.place; written = tt };
  lines = tt;
  blames = tt;
  tells = tt;
  seeks = tt;
  joined = answers.joined;
  owes = answers.owes;
  lays = answers.lays;
  starves = tt;
  answer = λ accepts. tt;
  complete = λ accepts calm sound. record { answer = tt; whole = answers.shorts };
  wants = tt;
  closes = tt;
  stays = λ is. answers.stays refl;
  unclosed = answers.unclosed;
  shut = λ none. tt;
  spares = answers.spares;
  tied = record { owed = answers.tied.owed; life_is = λ can was had. absurd (cc) };
  stands = answers.stands;
  told = told;
  needs = λ gives. absurd (cc);
  brings = λ gives. absurd (cc);
  hides = λ short gives. absurd (cc);
  stops = answers.stops;
  passes = answers.passes;
  by_own = answers.by_own;
  kept = tt;
  holds = tt;
}

-- The model's step.

-- of a live text nothing is left unwritten, by its buffer or by itself
live_told : (old : TextState) (buffer : Buffer) (own : List ℕ) (place : Option ℕ) → old.text.life ≡ life.Live → Answers old Detach (Unwritten own place) (handed_over old buffer own) → place ≡ text.place_handed old.text own → WhereShown old.text.buffer (TextFileStep (file_of old) Detach (Unwritten (buffer.owed.bytes ++ own) (place_owed (handed_over old buffer own).text)) false false (file_of (handed_over old buffer own)))
live_told old buffer own place live answers place_is told =
    let none : buffer.owed.bytes ≡ [] = (answers.passes live).none in
    let all : own ≡ buffer.owed.bytes ++ own = sym (ap (λ (owed : List ℕ). owed ++ own) none) in
    let at : place ≡ place_owed (handed_over old buffer own).text =
    place_is
    ∙ (ap (λ (owed : List ℕ). if old.text.buffer.can.seekable then Some (old.text.place.at - length owed) else None) all
    ∙ ap (λ (can : Abilities). if can.seekable then Some (old.text.place.at - length (buffer.owed.bytes ++ own)) else None) (sym answers.keeps.can)) in
    subst (λ (bytes : List ℕ). TextFileStep (file_of old) Detach (Unwritten bytes (place_owed (handed_over old buffer own).text)) false false (file_of (handed_over old buffer own))) all
    (subst (λ (own_at : Option ℕ). TextFileStep (file_of old) Detach (Unwritten own own_at) false false (file_of (handed_over old buffer own))) at
    (answers.told told))

accepts_failed : (file : TextFile) → file.life ≡ life.Failed → refusal file Detach ≡ None
accepts_failed file is = rw is refl

-- of a failed one what it and its buffer owed
failed_told : (old : TextState) → old.text.life ≡ life.Failed → IsJoined old.text → TextFileStep (file_of old) Detach (Unwritten (all_owed old.text) (place_owed old.text)) false false (in_life (file_of old) life.Detached)
failed_told old failed joined =
    let file : TextFile = file_of old in
    let accepts : refusal file Detach ≡ None = accepts_failed file failed in
    settled (subst (λ (refused : Option IoFault). SettledBy file Detach refused (Unwritten (all_owed old.text) (place_owed old.text)) (in_life file life.Detached)) (sym accepts)
    (subst (λ (current : Life). DetachesIn current file (Unwritten (all_owed old.text) (place_owed old.text)) (in_life file life.Detached)) (sym failed)
    (record {
      bytes = all_owed old.text;
      place = place_owed old.text;
      says = refl;
      stand = all_stand old.text.buffer old.text.owed old.text.place.at old.text.buffer.can.seekable joined;
      leaves = refl;
    })))

-- the buffer and the text's own bytes as they were
failed_so : (old : TextState) (buffer : Buffer) (own : List ℕ) → old.text.life ≡ life.Failed → IsJoined old.text → buffer ≡ old.text.buffer → own ≡ old.text.owed → TextFileStep (file_of old) Detach (Unwritten (buffer.owed.bytes ++ own) (place_owed (handed_over old buffer own).text)) false false (file_of (handed_over old buffer own))
failed_so old buffer own failed joined buffer_is own_is =
    subst (λ (now : Buffer). TextFileStep (file_of old) Detach (Unwritten (now.owed.bytes ++ own) (place_owed (handed_over old now own).text)) false false (file_of (handed_over old now own))) (sym buffer_is)
    (subst (λ (now : List ℕ). TextFileStep (file_of old) Detach (Unwritten (old.text.buffer.owed.bytes ++ now) (place_owed (handed_over old old.text.buffer now).text)) false false (file_of (handed_over old old.text.buffer now))) (sym own_is)
    (failed_told old failed joined))

own_then : (current : Life) (owed : List ℕ) → current ≡ life.Failed → text.owed_then current owed ≡ owed
own_then life.Failed owed is = refl
own_then life.Live owed is = absurd (cc)
own_then life.Closed owed is = absurd (cc)
own_then life.Detached owed is = absurd (cc)

all_told : (old : TextState) (buffer : Buffer) (own : List ℕ) (place : Option ℕ) (new : TextState) → IsTextSession old → HandsOver old buffer own place new → WhereShown old.text.buffer (TextFileStep (file_of old) Detach (Unwritten (buffer.owed.bytes ++ own) (place_owed (handed_over old buffer own).text)) false false (file_of (handed_over old buffer own)))
all_told old buffer own place new is hands told = by old.text.life refl
  where
    by : (current : Life) → old.text.life ≡ current → TextFileStep (file_of old) Detach (Unwritten (buffer.owed.bytes ++ own) (place_owed (handed_over old buffer own).text)) false false (file_of (handed_over old buffer own))
    by life.Live now = live_told old buffer own place now hands.answers hands.place_is told
    by life.Failed now = failed_so old buffer own now is.joined (hands.at_once now) (hands.unwritten_is ∙ own_then old.text.life old.text.owed now)
    by life.Closed now = let wrong = (hands.answers.refused fault.Closed (rw now refl)).says in absurd (cc)
    by life.Detached now = absurd (is.kept now)

-- How it comes out.

-- what is left of a text that wasn't detached before
left_gone : (was : Life) (state : TextState) → was ≢ life.Detached → left_by was life.Detached state ≡ gone_text state.text.buffer.can state.text.buffer.buffering state.text.settings state.text.buffer.raw
left_gone life.Detached state attached = absurd (attached refl)
left_gone was state attached = refl

handed_at : (old : TextState) (buffer : Buffer) (own : List ℕ) (place : Option ℕ) → buffer.can ≡ old.text.buffer.can → place ≡ text.place_handed old.text own → option_map (λ (at : ℕ). at - length buffer.owed.bytes) place ≡ place_owed (handed_over old buffer own).text
handed_at old buffer own place can place_is =
    place_so (handed_over old buffer own).text place (length buffer.owed.bytes) (place_is ∙ ap (λ (now : Abilities). if now.seekable then Some (old.text.place.at - length own) else None) (sym can)) refl

pub detach_answers : (old : TextState) (buffer : Buffer) (own : List ℕ) (place : Option ℕ) (new : TextState) (bytes : List ℕ) (at : Option ℕ) → IsTextSession old → HandsOver old buffer own place new → bytes ≡ buffer.owed.bytes ++ own → at ≡ option_map (λ (at : ℕ). at - length buffer.owed.bytes) place → AnswersCall old Detach (Unwritten bytes at) (gone_text old.text.buffer.can old.text.buffer.buffering old.text.settings buffer.raw)
detach_answers old buffer own place new bytes at is hands bytes_are at_is =
    let answered : TextState = handed_over old buffer own in
    let keeps = hands.answers.keeps in
    let place_now : at ≡ place_owed answered.text = at_is ∙ handed_at old buffer own place keeps.can hands.place_is in
    subst (λ (says : List ℕ). AnswersCall old Detach (Unwritten says at) (gone_text old.text.buffer.can old.text.buffer.buffering old.text.settings buffer.raw)) (sym bytes_are)
    (subst (λ (says : Option ℕ). AnswersCall old Detach (Unwritten (buffer.owed.bytes ++ own) says) (gone_text old.text.buffer.can old.text.buffer.buffering old.text.settings buffer.raw)) (sym place_now)
    (record {
      answered = answered;
      answers = says_all old answered own (buffer.owed.bytes ++ own) place (place_owed answered.text) hands.answers (all_told old buffer own place new is hands);
      hands = record { bytes_are = refl; place_is = refl; at_once = λ failed. (hands.at_once failed, hands.unwritten_is ∙ own_then old.text.life old.text.owed failed) };
      leaves =
          ap (λ (can : Abilities). gone_text can old.text.buffer.buffering old.text.settings buffer.raw) (sym keeps.can)
          ∙ (ap (λ (buffering : Buffering). gone_text buffer.can buffering old.text.settings buffer.raw) (sym keeps.buffering)
          ∙ sym (left_gone old.text.life answered is.kept));
      marks = refl;
    }))

-- A detaching that is done is of a session whose text has its buffer.

attached_old : (old : TextState) (buffer : Buffer) (own : List ℕ) (place : Option ℕ) (new : TextState) → HandsOver old buffer own place new → old.text.life ≢ life.Detached
attached_old old buffer own place new hands gone = let wrong = (hands.answers.refused fault.Detached (rw gone refl)).says in absurd (cc)

unclosed_old : (old : TextState) (buffer : Buffer) (own : List ℕ) (place : Option ℕ) (new : TextState) → HandsOver old buffer own place new → old.text.life ≢ life.Closed
unclosed_old old buffer own place new hands closed = let wrong = (hands.answers.refused fault.Closed (rw closed refl)).says in absurd (cc)

pub none_yet : {R : Type 0} (shows : R → Raw) (old : TextState) (appends : Bool) (size : ℕ) (raw : Option R) (buffer : Buffer) (own : List ℕ) (place : Option ℕ) (new : TextState) → IsSession shows old appends size raw → HandsOver old buffer own place new → raw ≡ None
none_yet shows old appends size None buffer own place new is hands = refl
none_yet shows old appends size (Some raw) buffer own place new is hands = absurd (attached_old old buffer own place new hands (ap (λ (state : TextState). state.text.life) is.0))

-- its buffer has its raw
text_attached : (old : TextState) (buffer : Buffer) (own : List ℕ) (place : Option ℕ) (new : TextState) → IsTextSession old → HandsOver old buffer own place new → buffer.life ≢ life.Detached
text_attached old buffer own place new is hands = (hands.answers.stays refl).attached is.attached

pub parts_attached : {R : Type 0} (shows : R → Raw) (old : TextState) (appends : Bool) (size : ℕ) (raw : Option R) (buffer : Buffer) (own : List ℕ) (place : Option ℕ) (new : TextState) → IsSession shows old appends size raw → HandsOver old buffer own place new → buffer.life ≢ life.Detached
parts_attached shows old appends size None buffer own place new is hands = text_attached old buffer own place new is.0 hands
parts_attached shows old appends size (Some raw) buffer own place new is hands = absurd (attached_old old buffer own place new hands (ap (λ (state : TextState). state.text.life) is.0))

-- what it owes stands before the place that was handed over
pub parts_before : (old : TextState) (buffer : Buffer) (own : List ℕ) (place : Option ℕ) (new : TextState) → HandsOver old buffer own place new → IfSome place (λ (at : ℕ). length buffer.owed.bytes ≤ at)
parts_before old buffer own place new hands =
    may_take (handed_over old buffer own).text own place (length buffer.owed.bytes) hands.answers.joined refl
    (hands.place_is ∙ ap (λ (now : Abilities). if now.seekable then Some (old.text.place.at - length own) else None) (sym hands.answers.keeps.can)) refl

-- the raw of what wasn't closed is open
open_still : (old : TextState) (buffer : Buffer) (own : List ℕ) (place : Option ℕ) (new : TextState) → IsTextSession old → HandsOver old buffer own place new → buffer.raw.closed ≡ false
open_still old buffer own place new is hands =
    let was = is.held.is_open (unclosed_old old buffer own place new hands) in
    ((hands.answers.stays refl).stays (was.raw ∙ sym was.buffer)).0 ∙ was.raw

-- what is left of a session that was detached
pub gone_session : {R : Type 0} (shows : R → Raw) (old : TextState) (appends : Bool) (size : ℕ) (was : Option R) (buffer : Buffer) (own : List ℕ) (place : Option ℕ) (new : TextState) (raw : R) → IsSession shows old appends size was → HandsOver old buffer own place new → shows raw ≡ buffer.raw → IsSession shows new appends size (Some raw)
gone_session shows old appends size None buffer own place new raw is hands raw_is =
    subst (λ (state : TextState). IsSession shows state appends size (Some raw)) (sym hands.left)
    (refl, ap (λ (own : Raw). own.closed) raw_is ∙ open_still old buffer own place new is.0 hands)
gone_session shows old appends size (Some other) buffer own place new raw is hands raw_is = absurd (attached_old old buffer own place new hands (ap (λ (state : TextState). state.text.life) is.0))

seen_gone : {R : Type 0} (shows : R → Raw) (old : TextState) (appends : Bool) (size : ℕ) (buffer : Buffer) (new : TextState) (raw : R) → KeepsBeside old.text.buffer appends size → new ≡ text.left_behind old.text → shows raw ≡ buffer.raw → gone_text old.text.buffer.can old.text.buffer.buffering old.text.settings buffer.raw ≡ seen shows new appends size (Some raw)
seen_gone shows old appends size buffer new raw beside left raw_is =
    ap (λ (appending : Bool). gone_text (record old.text.buffer.can { appending = appending }) old.text.buffer.buffering old.text.settings buffer.raw) beside.appends_is
    ∙ (ap (λ (buffering : Buffering). gone_text (record old.text.buffer.can { appending = appends }) buffering old.text.settings buffer.raw) beside.size_is
    ∙ (ap (λ (own : Raw). gone_text (record old.text.buffer.can { appending = appends }) (Buffered size) old.text.settings own) (sym raw_is)
    ∙ ap (λ (state : TextState). seen shows state appends size (Some raw)) (sym left)))

pub session_detached : {R : Type 0} (shows : R → Raw) (old : TextState) (appends : Bool) (size : ℕ) (was : Option R) (buffer : Buffer) (own : List ℕ) (place : Option ℕ) (new : TextState) (raw : R) (bytes : List ℕ) (at : Option ℕ) → IsSession shows old appends size was → HandsOver old buffer own place new → shows raw ≡ buffer.raw → bytes ≡ buffer.owed.bytes ++ own → at ≡ option_map (λ (at : ℕ). at - length buffer.owed.bytes) place → AnswersCall (seen shows old appends size was) Detach (Unwritten bytes at) (seen shows new appends size (Some raw))
session_detached shows old appends size None buffer own place new raw bytes at is hands raw_is bytes_are at_is =
    subst (λ (after : TextState). AnswersCall old Detach (Unwritten bytes at) after) (seen_gone shows old appends size buffer new raw is.1 hands.left raw_is)
    (detach_answers old buffer own place new bytes at is.0 hands bytes_are at_is)
session_detached shows old appends size (Some other) buffer own place new raw bytes at is hands raw_is bytes_are at_is = absurd (attached_old old buffer own place new hands (ap (λ (state : TextState). state.text.life) is.0))

-- A detaching that is refused.

left_same : (was current : Life) (state : TextState) → current ≢ life.Detached → left_by was current state ≡ state
left_same life.Detached current state attached = refl
left_same was life.Detached state attached = absurd (attached refl)
left_same was current state attached = refl

left_still : (was current : Life) (state : TextState) → was ≡ life.Detached → left_by was current state ≡ state
left_still life.Detached current state is = refl
left_still life.Live current state is = absurd (cc)
left_still life.Failed current state is = absurd (cc)
left_still life.Closed current state is = absurd (cc)

pub session_refuses : {R : Type 0} (shows : R → Raw) (old : TextState) (why : IoFault) (new : TextState) (appends : Bool) (size : ℕ) (raw : Option R) → IsSession shows old appends size raw → RefusesDetach old why new → AnswersCall (seen shows old appends size raw) Detach (Refused why) (seen shows new appends size raw)
session_refuses shows old why new appends size None is refuses = record {
  answered = new;
  answers = refuses.answers;
  hands = refuses.other;
  leaves = sym (left_same old.text.life new.text.life new (not_detached old.text.buffer.can.writable why old.text.life new.text.life refuses.answers.moves.life_is is.0.kept));
  marks = refl;
}
session_refuses shows old why new appends size (Some raw) is refuses = record {
  answered = seen shows new appends size (Some raw);
  answers = seen_stays shows old Detach (Refused why) new appends size raw refl is refuses.answers;
  hands = refuses.other;
  leaves = sym (left_still old.text.life new.text.life (seen shows new appends size (Some raw)) (ap (λ (state : TextState). state.text.life) is.0));
  marks = refl;
}

-- a call that isn't a detaching is one of the session as it is one of its text
hands_none : (before : TextState) (call : TextFileCall) (reply : FileReply) (answered : TextState) → is_detach call ≡ false → HandsOwed before call reply answered
hands_none before Detach reply answered other = absurd (cc)
hands_none before call reply answered other = tt

pub answers_call : (before : TextState) (call : TextFileCall) (reply : FileReply) (after : TextState) → is_detach call ≡ false → Answers before call reply after → AnswersCall before call reply after
answers_call before call reply after other answers = record { answered = after; answers = answers; hands = hands_none before call reply after other; leaves = sym (by before.text.life refl); marks = refl }
  where
    by : (was : Life) → before.text.life ≡ was → left_by before.text.life after.text.life after ≡ after
    by life.Detached is = left_still before.text.life after.text.life after is
    by life.Live is = left_same before.text.life after.text.life after (lives_on before call reply after other (λ gone. let never : life.Live ≡ life.Detached = sym is ∙ gone in absurd (cc)) answers)
    by life.Failed is = left_same before.text.life after.text.life after (lives_on before call reply after other (λ gone. let never : life.Failed ≡ life.Detached = sym is ∙ gone in absurd (cc)) answers)
    by life.Closed is = left_same before.text.life after.text.life after (lives_on before call reply after other (λ gone. let never : life.Closed ≡ life.Detached = sym is ∙ gone in absurd (cc)) answers)
