-- A call that ends where what is owed couldn't be handed on.
use Rattle.std.proofs.Common.{◌≡◌, ◌≢◌, ℕ, inl, inr, ◌⊎◌, Bool, true, false, IsTrue, List, [], ◌∷◌, Some, None, Err, refl, sym, ap, ◌∙◌, subst, arith}
use Rattle.py_flat.specs.declared.fault.IoFault.{IoFault}
use Rattle.py_flat.specs.declared.fault.IoFault.TheVariants as fault
use Rattle.py_flat.specs.declared.life.Life.{Life}
use Rattle.py_flat.specs.declared.life.Life.TheVariants as life
use Rattle.py_flat.specs.AllowedStep.{waited_for, out_of_memory}
use Rattle.py_flat.specs.Calls.{FileReply, NotReady, Refused}
use Rattle.py_flat.specs.Causes.{Rose, rose}
use Rattle.py_plain_text.specs.TextFile.{TextFile, TextPlace, TextSettings}
use Rattle.py_plain_text.specs.TextCalls.{TextFileCall, Close}
use Rattle.py_plain_text.specs.TextOver.{TextOver}
use Rattle.py_plain_text.specs.TextAllowed.{Fails, TextFileStep}
use Rattle.py_stream.specs.Kinds.{says_wait, says_fault}
use Rattle.py_stream.specs.Buffer.{Buffer, WhereShown}
use Rattle.py_held_text.specs.declared.wanted.Wanted.{Wanted}
use Rattle.py_held_text.specs.declared.wanted.Wanted.TheVariants.{Characters, Line}
use Rattle.py_read_text.specs.Owing.{all_owed, IsJoined, WriteMovesBy, FailedWithOwn, Starves, KeepsOpen, Closes, given_by}
use Rattle.py_read_text.proofs.Calling.{Passing, faulted_life, passes_accepted, fails_still, wait_step, fault_step, starve_step}
use Rattle.py_read_text.proofs.Owing.{owes_none, has_own, owing_open, joined_in}
use Rattle.py_read_text.specs.Knowing.{place_of}
use Rattle.py_read_text.specs.Answers.{refused_here, calls_nothing, passes_on, IsReplyTo, IsComplete, IsShort, PlaceMoves, ReadsOneLine, WriteMoves, LifeMoves, settings_after, closes_again, WantsMemory, TextPasses, TextKeeps, TextHolds, TextBlames, TextSeeks, Answers}
use Rattle.py_read_text.specs.Reading.{call_of, asks_none}
use Rattle.py_read_text.proofs.Steps.{accepts_here, works, waited_by}
use Rattle.py_read_text.proofs.Results.{faults_step, starves_step}
use Rattle.py_textio.specs.Written.{WrittenView, place_now, over_of, state_of, file_now, HandsOn, TakesNothing, IsStuffed, SettleOutcome, stopped_reply, with_taken}
use Rattle.py_textio.specs.Working.{Works}
use Rattle.py_textio.proofs.Working.{answers_work}
use Rattle.py_textio.proofs.Ended.{back-some}
use Rattle.py_textio.proofs.Over.{stays_put, moves_on, behind_still, reaches_place, handed_file}
use Rattle.py_read_text.proofs.Fronts.{lays_given}

pub not_rose : (before after : ℕ) → Rose before after → rose before after ≡ false → ⊥
not_rose before after is still = grind arith

-- calls of a live text that may end so: what each of them says of a reply that refuses, or isn't ready
pub record Ends (call : TextFileCall) (reply : FileReply) (short : Bool) : Type 0 where
  pub once : closes_again life.Live call ≡ false
  pub some : calls_nothing call ≡ false
  pub shorts : IsShort reply short
  pub settings : (own : TextSettings) → settings_after call reply own ≡ own
  pub place : (own : TextPlace) (end : ℕ) → PlaceMoves call short reply own end own
  pub written : (before after : _) → WriteMoves before call reply after
  pub answer : IsReplyTo true call reply
  pub calm : short ≡ false → says_fault reply ≡ false → IsComplete call reply short
  pub passes : (before after : _) → TextPasses before call reply after
  pub kept : (after : _) → TextKeeps call reply after
  pub holds : (before after : _) → TextHolds before call reply after
  pub lines : (newline : _) → ReadsOneLine newline call reply
  pub blames : (settings : TextSettings) (own : TextPlace) (far : ℕ) → TextBlames call reply settings own far
  pub seeks : (before : TextOver Buffer) → all_owed before ≢ [] → TextSeeks call reply before before.place
  pub moves : (from to : ℕ) → WriteMovesBy call 0 from to
  pub closes : (current : Life) (before after : Buffer) → KeepsOpen before after → Closes current call before reply after

-- a text that owes something, and whose buffer called for it
pub record Owes (old : WrittenView) : Type 0 where
  pub writes : old.text.buffer.can.writable ≡ true
  pub live : old.life ≡ life.Live
  pub some : old.pending ≢ []
  pub stood : old.text.at ≡ old.text.buffer.place

busy_so : (owed : List ℕ) (call : TextFileCall) → owed ≢ [] → passes_on owed call ≡ true
busy_so [] call some = absurd (some refl)
busy_so (byte ∷ more) call some = grind arith

pub ends_work : (old : WrittenView) (call : TextFileCall) (reply : FileReply) (new : WrittenView) (short : Bool) → Owes old → Ends call reply short → refused_here (file_now old) call ≡ None → HandsOn old short (says_fault reply) new → new.text.at ≡ new.text.buffer.place → (IsTrue short → (new.pending ≢ []) × IsStuffed new.text.buffer) → LifeMoves true call reply old.life new.life → IsJoined (over_of new) → Starves (over_of old) call reply (over_of new) → WantsMemory call reply old.text.buffer → WhereShown old.text.buffer (TextFileStep (file_now old) call reply short (says_fault reply) (file_now new)) → Works old call reply new short
ends_work old call reply new short owes ends accepted hands there left current joined starves wants told = record {
  accepted = accepted;
  once = ap (λ (own : Life). closes_again own call) owes.live ∙ ends.once;
  some = ends.some;
  busy = busy_so old.pending call owes.some;
  writes = owes.writes;
  calls = hands.calls;
  shorts = ends.shorts;
  settings = hands.settings ∙ sym (ends.settings old.text.settings);
  life_is = current;
  place = subst (λ (own : TextPlace). PlaceMoves call short reply (place_now old) new.text.buffer.place own) (sym hands.place) (ends.place (place_now old) new.text.buffer.place);
  written = ends.written (over_of old) (over_of new);
  lines = ends.lines old.text.settings.newline;
  blames = ends.blames old.text.settings (place_now old) new.text.buffer.place;
  seeks = subst (λ (own : TextPlace). TextSeeks call reply (over_of old) own) (sym hands.place) (ends.seeks (over_of old) (back-some old.text.buffer.owed.bytes old.pending owes.some));
  joined = joined;
  owes = owes_none (over_of old) call (over_of new) (ends.moves (place_now old).at (place_now new).at) hands.owes;
  lays = lays_given (over_of old) (given_by old.text.settings call) (over_of new) hands.lays;
  starves = starves;
  closes = ends.closes old.life old.text.buffer new.text.buffer hands.stays;
  stays = λ is. hands.stays;
  unclosed = owing_open old.text.buffer (over_of new) hands.stays;
  stops = λ is. record { full = λ some. (left is).1; some = λ gives none. absurd ((left is).0 none) };
  answer = ends.answer;
  complete = λ calm sound. by_short short (says_fault reply) refl refl calm sound;
  wants = wants;
  shut = λ none. absurd (owes.some none);
  told = told;
  needs = λ gives told. inl (omega (arith, there, reaches_place (place_of new.text) new.pending, ap (λ (place : TextPlace). place.at) hands.place));
  hides = λ is gives none. absurd ((left is).0 none);
  passes = ends.passes (state_of old false) (state_of new short);
  by_own = moves_on call (over_of old) (over_of new) (over_of new) (behind_still old new owes.stood there hands.place) (stays_put call (over_of new));
  kept = ends.kept (state_of new short);
  holds = ends.holds (over_of old) (over_of new);
}
  where
    by_short : (waited faulted : Bool) → short ≡ waited → says_fault reply ≡ faulted → rose old.text.buffer.raw.waits new.text.buffer.raw.waits ≡ false → rose old.text.buffer.raw.faults new.text.buffer.raw.faults ≡ false → IsComplete call reply short
    by_short true faulted is fails calm sound = absurd (not_rose old.text.buffer.raw.waits new.text.buffer.raw.waits (hands.calls.wait is) calm)
    by_short false true is fails calm sound = absurd (not_rose old.text.buffer.raw.faults new.text.buffer.raw.faults (hands.calls.fault fails) sound)
    by_short false false is fails calm sound = ends.calm is fails

-- running out of memory left a live text as it was
pub starved_not : (old new : WrittenView) (call : TextFileCall) → HandsOn old false false new → new.life ≡ old.life → Starves (over_of old) call (Refused fault.NoMemory) (over_of new)
starved_not old new call hands current = inl (record { life_is = current; settings = hands.settings; place = hands.place })

-- Readings.

some_asked : (asked : Wanted) → asks_none asked ≡ false → calls_nothing (call_of asked) ≡ false
some_asked asked some = grind arith

unready_ends : (asked : Wanted) → asks_none asked ≡ false → Ends (call_of asked) NotReady true
unready_ends (Characters None) some = record { once = refl; some = some_asked (Characters None) some; shorts = refl; settings = λ own. refl; place = λ own end. refl; written = λ before after. tt; answer = tt; calm = λ is. absurd (cc); passes = λ before after. tt; kept = λ after. tt; holds = λ before after. tt; lines = λ newline. tt; blames = λ settings own far. tt; seeks = λ before some. tt; moves = λ from to. tt; closes = λ current before after kept. tt }
unready_ends (Characters (Some size)) some = record { once = refl; some = some_asked (Characters (Some size)) some; shorts = refl; settings = λ own. refl; place = λ own end. refl; written = λ before after. tt; answer = tt; calm = λ is. absurd (cc); passes = λ before after. tt; kept = λ after. tt; holds = λ before after. tt; lines = λ newline. tt; blames = λ settings own far. tt; seeks = λ before some. tt; moves = λ from to. tt; closes = λ current before after kept. tt }
unready_ends (Line limit) some = record { once = refl; some = some_asked (Line limit) some; shorts = refl; settings = λ own. refl; place = λ own end. refl; written = λ before after. tt; answer = tt; calm = λ is. absurd (cc); passes = λ before after. tt; kept = λ after. tt; holds = λ before after. tt; lines = λ newline. tt; blames = λ settings own far. tt; seeks = λ before some. tt; moves = λ from to. tt; closes = λ current before after kept. tt }

fault_ends : (asked : Wanted) → asks_none asked ≡ false → Ends (call_of asked) (Refused fault.RawFault) false
fault_ends (Characters None) some = record { once = refl; some = some_asked (Characters None) some; shorts = refl; settings = λ own. refl; place = λ own end. refl; written = λ before after. tt; answer = tt; calm = λ is fails. absurd (cc); passes = λ before after. tt; kept = λ after. tt; holds = λ before after. tt; lines = λ newline. tt; blames = λ settings own far. tt; seeks = λ before some. tt; moves = λ from to. tt; closes = λ current before after kept. tt }
fault_ends (Characters (Some size)) some = record { once = refl; some = some_asked (Characters (Some size)) some; shorts = refl; settings = λ own. refl; place = λ own end. refl; written = λ before after. tt; answer = tt; calm = λ is fails. absurd (cc); passes = λ before after. tt; kept = λ after. tt; holds = λ before after. tt; lines = λ newline. tt; blames = λ settings own far. tt; seeks = λ before some. tt; moves = λ from to. tt; closes = λ current before after kept. tt }
fault_ends (Line limit) some = record { once = refl; some = some_asked (Line limit) some; shorts = refl; settings = λ own. refl; place = λ own end. refl; written = λ before after. tt; answer = tt; calm = λ is fails. absurd (cc); passes = λ before after. tt; kept = λ after. tt; holds = λ before after. tt; lines = λ newline. tt; blames = λ settings own far. tt; seeks = λ before some. tt; moves = λ from to. tt; closes = λ current before after kept. tt }

memory_ends : (asked : Wanted) → asks_none asked ≡ false → Ends (call_of asked) (Refused fault.NoMemory) false
memory_ends (Characters None) some = record { once = refl; some = some_asked (Characters None) some; shorts = refl; settings = λ own. refl; place = λ own end. refl; written = λ before after. tt; answer = tt; calm = λ is fails. record { answer = tt; whole = refl }; passes = λ before after. tt; kept = λ after. tt; holds = λ before after. tt; lines = λ newline. tt; blames = λ settings own far. tt; seeks = λ before some. tt; moves = λ from to. tt; closes = λ current before after kept. tt }
memory_ends (Characters (Some size)) some = record { once = refl; some = some_asked (Characters (Some size)) some; shorts = refl; settings = λ own. refl; place = λ own end. refl; written = λ before after. tt; answer = tt; calm = λ is fails. record { answer = tt; whole = refl }; passes = λ before after. tt; kept = λ after. tt; holds = λ before after. tt; lines = λ newline. tt; blames = λ settings own far. tt; seeks = λ before some. tt; moves = λ from to. tt; closes = λ current before after kept. tt }
memory_ends (Line limit) some = record { once = refl; some = some_asked (Line limit) some; shorts = refl; settings = λ own. refl; place = λ own end. refl; written = λ before after. tt; answer = tt; calm = λ is fails. record { answer = tt; whole = refl }; passes = λ before after. tt; kept = λ after. tt; holds = λ before after. tt; lines = λ newline. tt; blames = λ settings own far. tt; seeks = λ before some. tt; moves = λ from to. tt; closes = λ current before after kept. tt }

wants_nothing : (asked : Wanted) (reply : FileReply) (buffer : Buffer) → WantsMemory (call_of asked) reply buffer
wants_nothing (Characters size) reply buffer = tt
wants_nothing (Line limit) reply buffer = tt

same_life : (asked : Wanted) (reply : FileReply) → reply ≡ NotReady → (before after : Life) → after ≡ before → LifeMoves true (call_of asked) reply before after
same_life (Characters size) reply is before after same = rw is same
same_life (Line limit) reply is before after same = rw is same

failed_life : (asked : Wanted) (before after : Life) → after ≡ life.Failed → LifeMoves true (call_of asked) (Refused fault.RawFault) before after
failed_life (Characters size) before after is = is
failed_life (Line limit) before after is = is

midway_read : (file after : TextFile) (asked : Wanted) → file.life ≡ life.Live → file.can.readable ≡ true → file.can.writable ≡ true → Fails file life.Failed file.bytes after → TextFileStep file (call_of asked) (Refused fault.NoMemory) false false after
midway_read file after (Characters size) live can writes fails = out_of_memory refl (inr (rw live (rw can refl), (writes, (0, omega arith, fails))))
midway_read file after (Line limit) live can writes fails = out_of_memory refl (inr (rw live (rw can refl), (writes, (0, omega arith, fails))))

pub read_waits : (old new : WrittenView) (asked : Wanted) → Owes old → old.text.buffer.can.readable ≡ true → asks_none asked ≡ false → HandsOn old true false new → new.text.at ≡ new.text.buffer.place → (new.pending ≢ []) × IsStuffed new.text.buffer → new.life ≡ life.Live → IsJoined (over_of new) → Answers (state_of old false) (call_of asked) NotReady (state_of new true)
read_waits old new asked owes can some hands there left lives joined =
    let current : new.life ≡ old.life = lives ∙ sym owes.live in
    answers_work old (call_of asked) NotReady new true (ends_work old (call_of asked) NotReady new true owes (unready_ends asked some) (accepts_here (file_now old) asked owes.live can) hands there (λ is. left) (same_life asked NotReady refl old.life new.life current) joined tt (wants_nothing asked NotReady old.text.buffer)
    (λ told. waited_for refl (works (file_now old) asked owes.live can, waited_by (file_now old) asked NotReady (file_now new) (inl (refl, handed_file old new true false hands current told)))))

pub read_fails : (old new : WrittenView) (asked : Wanted) → Owes old → old.text.buffer.can.readable ≡ true → asks_none asked ≡ false → HandsOn old false true new → new.text.at ≡ new.text.buffer.place → new.life ≡ life.Failed → IsJoined (over_of new) → Answers (state_of old false) (call_of asked) (Refused fault.RawFault) (state_of new false)
read_fails old new asked owes can some hands there failed joined =
    answers_work old (call_of asked) (Refused fault.RawFault) new false (ends_work old (call_of asked) (Refused fault.RawFault) new false owes (fault_ends asked some) (accepts_here (file_now old) asked owes.live can) hands there (λ is. absurd (cc)) (failed_life asked old.life new.life failed) joined tt (wants_nothing asked (Refused fault.RawFault) old.text.buffer)
    (λ told. faults_step (file_now old) (file_now new) asked owes.live can failed (hands.bytes told) hands.calls.keeps.can hands.settings))

pub read_starves : (old new : WrittenView) (asked : Wanted) → Owes old → old.text.buffer.can.readable ≡ true → asks_none asked ≡ false → HandsOn old false false new → new.text.at ≡ new.text.buffer.place → IsTrue old.text.buffer.raw.takes_memory → (new.life ≡ life.Live) ⊎ ((new.life ≡ life.Failed) × FailedWithOwn (over_of old) (over_of new)) → IsJoined (over_of new) → Answers (state_of old false) (call_of asked) (Refused fault.NoMemory) (state_of new false)
read_starves old new asked owes can some hands there takes (inl lives) joined =
    let current : new.life ≡ old.life = lives ∙ sym owes.live in
    answers_work old (call_of asked) (Refused fault.NoMemory) new false (ends_work old (call_of asked) (Refused fault.NoMemory) new false owes (memory_ends asked some) (accepts_here (file_now old) asked owes.live can) hands there (λ is. absurd (cc)) (inl current) joined (starved_not old new (call_of asked) hands current) (wants_nothing asked (Refused fault.NoMemory) old.text.buffer)
    (λ told. starves_step (file_now old) (file_now new) asked owes.live can (handed_file old new false false hands current told)))
read_starves old new asked owes can some hands there takes (inr failed) joined =
    answers_work old (call_of asked) (Refused fault.NoMemory) new false (ends_work old (call_of asked) (Refused fault.NoMemory) new false owes (memory_ends asked some) (accepts_here (file_now old) asked owes.live can) hands there (λ is. absurd (cc)) (inr (refl, failed.0)) joined (inr (inl (record { life_is = failed.0; takes = takes; has = has_own (over_of old) (call_of asked) owes.some; gave = inl failed.1 }))) (wants_nothing asked (Refused fault.NoMemory) old.text.buffer)
    (λ told. midway_read (file_now old) (file_now new) asked owes.live can owes.writes (fails_still (file_now old) (file_now new) life.Failed failed.0 (hands.bytes told) hands.calls.keeps.can hands.settings)))

-- Flushing and closing.

accepted_here : (file : TextFile) (closes : Bool) → file.life ≡ life.Live → refused_here file (Passing closes) ≡ None
accepted_here file true live = passes_accepted file true live
accepted_here file false live = passes_accepted file false live

wait_ends : (closes : Bool) → Ends (Passing closes) (Refused (fault.WouldBlock 0)) true
wait_ends true = record { once = refl; some = refl; shorts = refl; settings = λ own. refl; place = λ own end. refl; written = λ before after. tt; answer = (refl, refl); calm = λ is fails. absurd (cc); passes = λ before after. tt; kept = λ after. tt; holds = λ before after. tt; lines = λ newline. tt; blames = λ settings own far. tt; seeks = λ before some. tt; moves = λ from to. tt; closes = λ current before after kept. tt }
wait_ends false = record { once = refl; some = refl; shorts = refl; settings = λ own. refl; place = λ own end. refl; written = λ before after. tt; answer = (refl, refl); calm = λ is fails. absurd (cc); passes = λ before after. tt; kept = λ after. tt; holds = λ before after. tt; lines = λ newline. tt; blames = λ settings own far. tt; seeks = λ before some. tt; moves = λ from to. tt; closes = λ current before after kept. tt }

passing_faults : (closes : Bool) → Ends (Passing closes) (Refused fault.RawFault) false
passing_faults true = record { once = refl; some = refl; shorts = refl; settings = λ own. refl; place = λ own end. refl; written = λ before after. tt; answer = tt; calm = λ is fails. absurd (cc); passes = λ before after. tt; kept = λ after. tt; holds = λ before after. tt; lines = λ newline. tt; blames = λ settings own far. tt; seeks = λ before some. tt; moves = λ from to. tt; closes = λ current before after kept. kept.attached }
passing_faults false = record { once = refl; some = refl; shorts = refl; settings = λ own. refl; place = λ own end. refl; written = λ before after. tt; answer = tt; calm = λ is fails. absurd (cc); passes = λ before after. tt; kept = λ after. tt; holds = λ before after. tt; lines = λ newline. tt; blames = λ settings own far. tt; seeks = λ before some. tt; moves = λ from to. tt; closes = λ current before after kept. tt }

passing_starves : (closes : Bool) → Ends (Passing closes) (Refused fault.NoMemory) false
passing_starves true = record { once = refl; some = refl; shorts = refl; settings = λ own. refl; place = λ own end. refl; written = λ before after. tt; answer = tt; calm = λ is fails. record { answer = tt; whole = refl }; passes = λ before after. tt; kept = λ after. tt; holds = λ before after. tt; lines = λ newline. tt; blames = λ settings own far. tt; seeks = λ before some. tt; moves = λ from to. tt; closes = λ current before after kept. tt }
passing_starves false = record { once = refl; some = refl; shorts = refl; settings = λ own. refl; place = λ own end. refl; written = λ before after. tt; answer = tt; calm = λ is fails. record { answer = tt; whole = refl }; passes = λ before after. tt; kept = λ after. tt; holds = λ before after. tt; lines = λ newline. tt; blames = λ settings own far. tt; seeks = λ before some. tt; moves = λ from to. tt; closes = λ current before after kept. tt }

passing_life : (closes : Bool) (before after : Life) → after ≡ faulted_life closes → LifeMoves true (Passing closes) (Refused fault.RawFault) before after
passing_life true before after is = is
passing_life false before after is = is

passing_waits : (closes : Bool) (before after : Life) → after ≡ before → LifeMoves true (Passing closes) (Refused (fault.WouldBlock 0)) before after
passing_waits true before after is = is
passing_waits false before after is = is

wants_raw : (closes : Bool) (buffer : Buffer) → IsTrue buffer.raw.takes_memory → WantsMemory (Passing closes) (Refused fault.NoMemory) buffer
wants_raw true buffer takes = takes
wants_raw false buffer takes = takes

wait_wants : (closes : Bool) (buffer : Buffer) → WantsMemory (Passing closes) (Refused (fault.WouldBlock 0)) buffer
wait_wants true buffer = tt
wait_wants false buffer = tt

fault_wants : (closes : Bool) (buffer : Buffer) → WantsMemory (Passing closes) (Refused fault.RawFault) buffer
fault_wants true buffer = tt
fault_wants false buffer = tt

pub passing_blocked : (old new : WrittenView) (closes : Bool) → Owes old → HandsOn old true false new → new.text.at ≡ new.text.buffer.place → (new.pending ≢ []) × IsStuffed new.text.buffer → new.life ≡ life.Live → IsJoined (over_of new) → Answers (state_of old false) (Passing closes) (Refused (fault.WouldBlock 0)) (state_of new true)
passing_blocked old new closes owes hands there left lives joined =
    let current : new.life ≡ old.life = lives ∙ sym owes.live in
    answers_work old (Passing closes) (Refused (fault.WouldBlock 0)) new true (ends_work old (Passing closes) (Refused (fault.WouldBlock 0)) new true owes (wait_ends closes) (accepted_here (file_now old) closes owes.live) hands there (λ is. left) (passing_waits closes old.life new.life current) joined tt (wait_wants closes old.text.buffer)
    (λ told. wait_step (file_now old) (file_now new) closes owes.live (handed_file old new true false hands current told)))

pub passing_failed : (old new : WrittenView) (closes : Bool) → Owes old → HandsOn old false true new → new.text.at ≡ new.text.buffer.place → new.life ≡ faulted_life closes → IsJoined (over_of new) → Answers (state_of old false) (Passing closes) (Refused fault.RawFault) (state_of new false)
passing_failed old new closes owes hands there failed joined =
    answers_work old (Passing closes) (Refused fault.RawFault) new false (ends_work old (Passing closes) (Refused fault.RawFault) new false owes (passing_faults closes) (accepted_here (file_now old) closes owes.live) hands there (λ is. absurd (cc)) (passing_life closes old.life new.life failed) joined tt (fault_wants closes old.text.buffer)
    (λ told. fault_step (file_now old) (file_now new) closes owes.live (fails_still (file_now old) (file_now new) (faulted_life closes) failed (hands.bytes told) hands.calls.keeps.can hands.settings)))

pub passing_starved : (old new : WrittenView) (closes : Bool) → Owes old → HandsOn old false false new → new.text.at ≡ new.text.buffer.place → IsTrue old.text.buffer.raw.takes_memory → (new.life ≡ life.Live) ⊎ ((new.life ≡ life.Failed) × FailedWithOwn (over_of old) (over_of new)) → IsJoined (over_of new) → Answers (state_of old false) (Passing closes) (Refused fault.NoMemory) (state_of new false)
passing_starved old new closes owes hands there takes (inl lives) joined =
    let current : new.life ≡ old.life = lives ∙ sym owes.live in
    answers_work old (Passing closes) (Refused fault.NoMemory) new false (ends_work old (Passing closes) (Refused fault.NoMemory) new false owes (passing_starves closes) (accepted_here (file_now old) closes owes.live) hands there (λ is. absurd (cc)) (inl current) joined (starved_not old new (Passing closes) hands current) (wants_raw closes old.text.buffer takes)
    (λ told. starve_step (file_now old) (file_now new) closes owes.live (inl (handed_file old new false false hands current told))))
passing_starved old new closes owes hands there takes (inr failed) joined =
    answers_work old (Passing closes) (Refused fault.NoMemory) new false (ends_work old (Passing closes) (Refused fault.NoMemory) new false owes (passing_starves closes) (accepted_here (file_now old) closes owes.live) hands there (λ is. absurd (cc)) (inr (refl, failed.0)) joined (inr (inl (record { life_is = failed.0; takes = takes; has = has_own (over_of old) (Passing closes) owes.some; gave = inl failed.1 }))) (wants_raw closes old.text.buffer takes)
    (λ told. starve_step (file_now old) (file_now new) closes owes.live (inr (owes.writes, fails_still (file_now old) (file_now new) life.Failed failed.0 (hands.bytes told) hands.calls.keeps.can hands.settings))))

-- By what stopped the handing on.

pub starved_life : (old new : WrittenView) → TakesNothing old new ⊎ ((new.life ≡ life.Failed) × (old.text.buffer.can.writable ≡ true) × FailedWithOwn (over_of old) (over_of new)) → (new.life ≡ life.Live) ⊎ ((new.life ≡ life.Failed) × FailedWithOwn (over_of old) (over_of new))
starved_life old new (inl nothing) = inl nothing.lives
starved_life old new (inr failed) = inr (failed.0, failed.2)

abbrev closed_of : WrittenView → WrittenView
closed_of view = record view { life = life.Closed }

pub read_stops : (old new : WrittenView) (asked : Wanted) (why : IoFault) → Owes old → old.text.buffer.can.readable ≡ true → asks_none asked ≡ false → new.text.at ≡ new.text.buffer.place → SettleOutcome old (Err why) new → IsJoined (over_of new) → Answers (state_of old false) (call_of asked) (stopped_reply why) (state_of new (says_wait (Refused why)))
read_stops old new asked (fault.WouldBlock taken) owes can some there outcome joined = read_waits old new asked owes can some outcome.0 there (outcome.1, outcome.4) outcome.2 joined
read_stops old new asked fault.RawFault owes can some there outcome joined = read_fails old new asked owes can some outcome.0 there outcome.1 joined
read_stops old new asked fault.NoMemory owes can some there outcome joined = read_starves old new asked owes can some outcome.0 there outcome.1 (starved_life old new outcome.2) joined
read_stops old new asked other owes can some there outcome joined = absurd outcome

pub passing_stops : (old new : WrittenView) (closes : Bool) (why : IoFault) → Owes old → (closes ≡ true → says_fault (Refused why) ≡ false) → new.text.at ≡ new.text.buffer.place → SettleOutcome old (Err why) new → IsJoined (over_of new) → Answers (state_of old false) (Passing closes) (Refused (with_taken why 0)) (state_of new (says_wait (Refused (with_taken why 0))))
passing_stops old new closes (fault.WouldBlock taken) owes sound there outcome joined = passing_blocked old new closes owes outcome.0 there (outcome.1, outcome.4) outcome.2 joined
passing_stops old new true fault.RawFault owes sound there outcome joined = let never : true ≡ false = sound refl in absurd (cc)
passing_stops old new false fault.RawFault owes sound there outcome joined = passing_failed old new false owes outcome.0 there outcome.1 joined
passing_stops old new closes fault.NoMemory owes sound there outcome joined = passing_starved old new closes owes outcome.0 there outcome.1 (starved_life old new outcome.2) joined
passing_stops old new closes other owes sound there outcome joined = absurd outcome

-- a close whose handing on the raw failed
pub close_fails : (old mid new : WrittenView) (why : IoFault) → Owes old → says_fault (Refused why) ≡ true → mid.text.at ≡ mid.text.buffer.place → SettleOutcome old (Err why) mid → IsJoined (over_of mid) → new ≡ record mid { life = life.Closed } → Answers (state_of old false) Close (Refused fault.RawFault) (state_of new false)
close_fails old mid new fault.RawFault owes fails there outcome joined is =
    subst (λ (view : WrittenView). Answers (state_of old false) Close (Refused fault.RawFault) (state_of view false)) (sym is)
    (passing_failed old (closed_of mid) true owes (record { calls = outcome.0.calls; bytes = outcome.0.bytes; place = outcome.0.place; settings = outcome.0.settings; owes = outcome.0.owes; lays = outcome.0.lays; stays = outcome.0.stays }) there refl (joined_in life.Closed (λ live. absurd (cc)) joined))
close_fails old mid new why owes fails there outcome joined is = absurd (cc)

-- a close that had to wait, or ran out of memory, before its buffer was asked to close
pub close_stops : (old new : WrittenView) (why : IoFault) → Owes old → says_fault (Refused why) ≡ false → new.text.at ≡ new.text.buffer.place → SettleOutcome old (Err why) new → IsJoined (over_of new) → Answers (state_of old false) Close (Refused (with_taken why 0)) (state_of new (says_wait (Refused (with_taken why 0))))
close_stops old new why owes sound there outcome joined = passing_stops old new true why owes (λ closes. sound) there outcome joined
