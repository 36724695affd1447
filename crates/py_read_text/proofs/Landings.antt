-- A seek of a text, as a step of the model and as a call of the one clause.
use Rattle.std.proofs.Common.{◌≡◌, ℕ, ℤ, inl, inr, ◌⊎◌, ◌&&◌, ◌||◌, Bool, true, false, not, is_none, IsTrue, List, [], None, Option, Result, Ok, Err, if◌then◌else◌, refl, sym, ap, ◌∙◌, subst, arith, append-nil}
use Rattle.py_flat.specs.declared.fault.IoFault.{IoFault}
use Rattle.py_flat.specs.declared.fault.IoFault.TheVariants as fault
use Rattle.py_flat.specs.declared.life.Life.TheVariants as life
use Rattle.py_flat.specs.Causes.{Rose, rose, counted}
use Rattle.py_flat.specs.Calls as reply
use Rattle.py_flat.specs.Calls.{FileReply, Refused}
use Rattle.py_flat.specs.BinaryStep.{is_live}
use Rattle.py_flat.specs.AllowedStep.{settled, waited_for, raw_faulted, out_of_memory}
use Rattle.py_plain_text.specs.TextFile.{TextFile, TextPlace}
use Rattle.py_plain_text.specs.Cookie.{Cookie, cookie_bytes}
use Rattle.py_plain_text.specs.Landing.{Stands, CantRestore, skips, start_place, place_inside, is_restorable, lands}
use Rattle.py_plain_text.specs.Telling.{placed}
use Rattle.py_plain_text.specs.TextCalls.{SeekText}
use Rattle.py_plain_text.specs.TextRefusals.{refusal}
use Rattle.py_plain_text.specs.TextExact.{sought_cookie, after_landing}
use Rattle.py_plain_text.specs.TextAllowed.{SettledBy, Fails, does_work, asks_end, reaches_raw, WaitedBy, TextFileStep}
use Rattle.py_flat.specs.FlatFile.{Abilities}
use Rattle.py_flat.specs.declared.life.Life.{Life}
use Rattle.py_plain_text.specs.TextFile.{TextSettings}
use Rattle.py_stream.specs.Kinds.{says_wait, says_fault}
use Rattle.py_stream.specs.Buffer.{WhereShown, flat_of}
use Rattle.py_read_text.specs.Knowing.{TextView, place_of, over_of, state_of, shown_file}
use Rattle.py_read_text.specs.Owing.{IsJoined, Starves}
use Rattle.py_read_text.specs.Answers.{refused_here, IsReplyTo, IsComplete, IsShort, LifeMoves, SeeksBy, PutAtStart, TextSeeks, TextPasses, Answers}
use Rattle.py_read_text.specs.Seeking.{Seeks, StandsAtStart, StaysOwing, SeeksOver, SeekOutcome, sought_reply}
use Rattle.py_read_text.proofs.Owing.{passes_behind, owes_none, open_called}
use Rattle.py_read_text.proofs.Fronts.{lays_owed}
use Rattle.py_read_text.proofs.Calling.{passed_on}

-- The steps.

-- an accepted seek of a live text, by a cookie
pub record Goes (file : TextFile) (sought : List ℕ) (whence : ℤ) (goal : Cookie) : Type 0 where
  pub live : file.life ≡ life.Live
  pub accepted : refusal file (SeekText sought whence) ≡ None
  pub is : sought_cookie file sought whence ≡ goal

landed_step : (file after : TextFile) (sought : List ℕ) (whence : ℤ) (goal : Cookie) (reply : FileReply) → Goes file sought whence goal → (reply, after) ≡ after_landing file goal (lands file goal) → TextFileStep file (SeekText sought whence) reply false false after
landed_step file after sought whence goal reply goes exact =
    settled (subst (λ (why : Option IoFault). SettledBy file (SeekText sought whence) why reply after) (sym goes.accepted)
    (exact ∙ ap (λ (cookie : Cookie). after_landing file cookie (lands file cookie)) (sym goes.is)))

-- where it lands
landed_at : (file : TextFile) (goal : Cookie) (skipped restored : Bool) → skips goal ≡ skipped → is_restorable file goal ≡ restored → lands file goal ≡ (if not skipped then Stands (start_place goal) else if restored then Stands (place_inside goal) else CantRestore (start_place goal))
landed_at file goal skipped restored skip restore =
    ap (λ (b : Bool). if not b then Stands (start_place goal) else if is_restorable file goal then Stands (place_inside goal) else CantRestore (start_place goal)) skip
    ∙ ap (λ (b : Bool). if not skipped then Stands (start_place goal) else if b then Stands (place_inside goal) else CantRestore (start_place goal)) restore

put_step : (file after : TextFile) (sought : List ℕ) (whence : ℤ) (goal : Cookie) → Goes file sought whence goal → (IsTrue (skips goal) → is_restorable file goal ≡ true) → after ≡ placed file (if skips goal then place_inside goal else start_place goal) → TextFileStep file (SeekText sought whence) (reply.Cookie (cookie_bytes goal)) false false after
put_step file after sought whence goal goes restores is = by_skips (skips goal) refl
  where
    by_skips : (skipped : Bool) → skips goal ≡ skipped → TextFileStep file (SeekText sought whence) (reply.Cookie (cookie_bytes goal)) false false after
    by_skips true skip =
        let lands_there = landed_at file goal true true skip (restores skip) in
        let there : after ≡ placed file (place_inside goal) = is ∙ ap (λ (b : Bool). placed file (if b then place_inside goal else start_place goal)) skip in
        landed_step file after sought whence goal (reply.Cookie (cookie_bytes goal)) goes
        (ap (λ (own : TextFile). let outcome : FileReply × TextFile = (reply.Cookie (cookie_bytes goal), own) in outcome) there ∙ ap (after_landing file goal) (sym lands_there))
    by_skips false skip =
        let lands_there = landed_at file goal false (is_restorable file goal) skip refl in
        let there : after ≡ placed file (start_place goal) = is ∙ ap (λ (b : Bool). placed file (if b then place_inside goal else start_place goal)) skip in
        landed_step file after sought whence goal (reply.Cookie (cookie_bytes goal)) goes
        (ap (λ (own : TextFile). let outcome : FileReply × TextFile = (reply.Cookie (cookie_bytes goal), own) in outcome) there ∙ ap (after_landing file goal) (sym lands_there))

unfit_step : (file after : TextFile) (sought : List ℕ) (whence : ℤ) (goal : Cookie) → Goes file sought whence goal → IsTrue (skips goal) → is_restorable file goal ≡ false → after ≡ placed file (start_place goal) → TextFileStep file (SeekText sought whence) (Refused fault.CannotRestore) false false after
unfit_step file after sought whence goal goes skip restore is =
    landed_step file after sought whence goal (Refused fault.CannotRestore) goes
    (ap (λ (own : TextFile). let outcome : FileReply × TextFile = (Refused fault.CannotRestore, own) in outcome) is ∙ ap (after_landing file goal) (sym (landed_at file goal true false skip restore)))

-- it may go to the raw
pub works_so : (file : TextFile) (sought : List ℕ) (whence : ℤ) (goal : Cookie) → Goes file sought whence goal → IsTrue (does_work file (SeekText sought whence))
works_so file sought whence goal goes =
    ap (λ (current : Life). is_live current && (is_none (refusal file (SeekText sought whence)) && true)) goes.live
    ∙ ap (λ (why : Option IoFault). is_none why && true) goes.accepted

pub reaches_so : (file : TextFile) (sought : List ℕ) (whence : ℤ) (goal : Cookie) → Goes file sought whence goal → IsTrue (reaches_raw file (SeekText sought whence))
reaches_so file sought whence goal goes = ap (λ (works : Bool). works || asks_end file (SeekText sought whence)) (works_so file sought whence goal goes)

-- as it was, or at the start of a cookie that skips
abbrev pub LeftAt : TextFile → Cookie → TextFile → Type 0
LeftAt file goal after = (after ≡ file) ⊎ (IsTrue (skips goal) × (after ≡ placed file (start_place goal)))

left_by : (file after : TextFile) (sought : List ℕ) (whence : ℤ) (goal : Cookie) → sought_cookie file sought whence ≡ goal → LeftAt file goal after → LeftAt file (sought_cookie file sought whence) after
left_by file after sought whence goal is left = subst (λ (cookie : Cookie). LeftAt file cookie after) (sym is) left

waits_left : (file after : TextFile) (sought : List ℕ) (whence : ℤ) → LeftAt file (sought_cookie file sought whence) after → WaitedBy file (SeekText sought whence) (Refused (fault.WouldBlock 0)) after
waits_left file after sought whence (inl same) = inl (refl, same)
waits_left file after sought whence (inr start) = inr (start.0, refl, start.1)

pub wait_step : (file after : TextFile) (sought : List ℕ) (whence : ℤ) (goal : Cookie) (taken : ℕ) → Goes file sought whence goal → taken ≡ 0 → LeftAt file goal after → TextFileStep file (SeekText sought whence) (Refused (fault.WouldBlock taken)) true false after
wait_step file after sought whence goal taken goes none left =
    subst (λ (count : ℕ). TextFileStep file (SeekText sought whence) (Refused (fault.WouldBlock count)) true false after) (sym none)
    (waited_for refl (works_so file sought whence goal goes, waits_left file after sought whence (left_by file after sought whence goal goes.is left)))

pub starve_step : (file after : TextFile) (sought : List ℕ) (whence : ℤ) (goal : Cookie) → Goes file sought whence goal → LeftAt file goal after → TextFileStep file (SeekText sought whence) (Refused fault.NoMemory) false false after
starve_step file after sought whence goal goes left = out_of_memory refl (inl (ap (λ (reaches : Bool). reaches || false) (reaches_so file sought whence goal goes), left_by file after sought whence goal goes.is left))

pub fault_step : (file after : TextFile) (sought : List ℕ) (whence : ℤ) (goal : Cookie) → Goes file sought whence goal → Fails file life.Failed file.bytes after → TextFileStep file (SeekText sought whence) (Refused fault.RawFault) false true after
fault_step file after sought whence goal goes fails = raw_faulted refl refl (reaches_so file sought whence goal goes, (0, omega arith, fails))

-- What a seek leaves of the text.

moved_file : (old new : TextView) (waited faulted : Bool) (place : TextPlace) → SeeksOver old waited faulted new → new.buffer.life ≡ old.buffer.life → place_of new ≡ place → WhereShown old.buffer (shown_file new ≡ placed (shown_file old) place)
moved_file old new waited faulted place over current there told =
    ap (λ (own : List ℕ). let file : TextFile = record { bytes = own; place = place_of new; can = new.buffer.can; settings = new.settings; life = new.buffer.life } in file) (over.calls.bytes told)
    ∙ (ap (λ (own : TextPlace). let file : TextFile = record { bytes = (flat_of old.buffer).bytes; place = own; can = new.buffer.can; settings = new.settings; life = new.buffer.life } in file) there
    ∙ (ap (λ (own : Abilities). let file : TextFile = record { bytes = (flat_of old.buffer).bytes; place = place; can = own; settings = new.settings; life = new.buffer.life } in file) over.calls.keeps.can
    ∙ (ap (λ (own : TextSettings). let file : TextFile = record { bytes = (flat_of old.buffer).bytes; place = place; can = old.buffer.can; settings = own; life = new.buffer.life } in file) over.settings
    ∙ ap (λ (own : Life). let file : TextFile = record { bytes = (flat_of old.buffer).bytes; place = place; can = old.buffer.can; settings = old.settings; life = own } in file) current)))

abbrev pub StaysOrStarts : TextView → Cookie → TextView → Type 0
StaysOrStarts old goal new = (place_of new ≡ place_of old) ⊎ StandsAtStart goal new

left_file : (old new : TextView) (waited faulted : Bool) (goal : Cookie) → SeeksOver old waited faulted new → new.buffer.life ≡ old.buffer.life → StaysOrStarts old goal new → WhereShown old.buffer (LeftAt (shown_file old) goal (shown_file new))
left_file old new waited faulted goal over current (inl same) told = inl (moved_file old new waited faulted (place_of old) over current same told)
left_file old new waited faulted goal over current (inr start) told = inr (start.skips, moved_file old new waited faulted (start_place goal) over current start.place told)

put_at_start : (old new : TextView) (sought : List ℕ) (whence : ℤ) (goal : Cookie) → SeeksBy (over_of old) sought whence goal → StandsAtStart goal new → PutAtStart (over_of old) sought whence (place_of new)
put_at_start old new sought whence goal by start = record { goal = goal; by = by; skips = start.skips; place = start.place }

left_at : (old new : TextView) (sought : List ℕ) (whence : ℤ) (goal : Cookie) → SeeksBy (over_of old) sought whence goal → StaysOrStarts old goal new → (place_of new ≡ place_of old) ⊎ PutAtStart (over_of old) sought whence (place_of new)
left_at old new sought whence goal by (inl same) = inl same
left_at old new sought whence goal by (inr start) = inr (put_at_start old new sought whence goal by start)

-- it stayed only while something was owed
while_owing : (old new : TextView) (goal : Cookie) → StaysOwing old new ⊎ StandsAtStart goal new → StaysOrStarts old goal new
while_owing old new goal (inl stays) = inl stays.0
while_owing old new goal (inr start) = inr start

waited_at : (old new : TextView) (sought : List ℕ) (whence : ℤ) (goal : Cookie) (taken : ℕ) → SeeksBy (over_of old) sought whence goal → StaysOwing old new ⊎ StandsAtStart goal new → TextSeeks (SeekText sought whence) (Refused (fault.WouldBlock taken)) (over_of old) (place_of new)
waited_at old new sought whence goal taken by (inl stays) = inl (stays.0, λ none. stays.1 (sym (append-nil old.buffer.owed.bytes) ∙ none))
waited_at old new sought whence goal taken by (inr start) = inr (put_at_start old new sought whence goal by start)

-- the parts of a seek that hang on what it answers
record SeekParts (old : TextView) (sought : List ℕ) (whence : ℤ) (waited : Bool) (reply : FileReply) (new : TextView) : Type 0 where
  over : SeeksOver old waited (says_fault reply) new
  shorts : IsShort reply waited
  answer : (writes : Bool) → IsReplyTo writes (SeekText sought whence) reply
  lives : (writes : Bool) → LifeMoves writes (SeekText sought whence) reply old.buffer.life new.buffer.life
  seeks : TextSeeks (SeekText sought whence) reply (over_of old) (place_of new)
  starves : Starves (over_of old) (SeekText sought whence) reply (over_of new)
  complete : waited ≡ false → says_fault reply ≡ false → IsComplete (SeekText sought whence) reply waited
  passes : TextPasses (state_of old false) (SeekText sought whence) reply (state_of new waited)
  told : WhereShown old.buffer (TextFileStep (shown_file old) (SeekText sought whence) reply waited (says_fault reply) (shown_file new))

goes_by : (old : TextView) (sought : List ℕ) (whence : ℤ) (goal : Cookie) → old.buffer.life ≡ life.Live → Seeks (state_of old false) sought whence goal → WhereShown old.buffer (Goes (shown_file old) sought whence goal)
goes_by old sought whence goal live seeks told = record { live = live; accepted = (seeks.told told).0; is = (seeks.told told).1 }

starved_so : (old new : TextView) (sought : List ℕ) (whence : ℤ) (goal : Cookie) → SeeksOver old false false new → (place_of new ≡ place_of old) ⊎ (IsTrue old.buffer.raw.takes_memory × StandsAtStart goal new) → Starves (over_of old) (SeekText sought whence) (Refused fault.NoMemory) (over_of new)
starved_so old new sought whence goal over (inl same) = inl (record { life_is = over.calls.life_is; settings = over.settings; place = same })
starved_so old new sought whence goal over (inr start) = inr (inr (record { seeks = refl; takes = start.0; life_is = over.calls.life_is; settings = over.settings }))

starved_at : (old new : TextView) (sought : List ℕ) (whence : ℤ) (goal : Cookie) → SeeksBy (over_of old) sought whence goal → (place_of new ≡ place_of old) ⊎ (IsTrue old.buffer.raw.takes_memory × StandsAtStart goal new) → TextSeeks (SeekText sought whence) (Refused fault.NoMemory) (over_of old) (place_of new)
starved_at old new sought whence goal by (inl same) = inl same
starved_at old new sought whence goal by (inr start) = inr (start.0, put_at_start old new sought whence goal by start.1)

pub without_memory : (old new : TextView) (goal : Cookie) → (place_of new ≡ place_of old) ⊎ (IsTrue old.buffer.raw.takes_memory × StandsAtStart goal new) → StaysOrStarts old goal new
without_memory old new goal (inl same) = inl same
without_memory old new goal (inr start) = inr start.1

fails_so : (old new : TextView) → SeeksOver old false true new → WhereShown old.buffer (Fails (shown_file old) life.Failed (shown_file old).bytes (shown_file new))
fails_so old new over told = record { life_is = over.calls.life_is; bytes_are = over.calls.bytes told; can = over.calls.keeps.can; settings = over.settings }

parts_of : (old new : TextView) (sought : List ℕ) (whence : ℤ) (goal : Cookie) (result : Result (Unit {0}) IoFault) → old.buffer.life ≡ life.Live → Seeks (state_of old false) sought whence goal → SeekOutcome old goal result new → SeekParts old sought whence (says_wait (sought_reply goal result)) (sought_reply goal result) new
parts_of old new sought whence goal (Ok done) live seeks outcome = record {
  over = outcome.0;
  shorts = refl;
  answer = λ writes. tt;
  lives = λ writes. outcome.0.calls.life_is;
  seeks = record { goal = goal; by = seeks.by; says = refl; place = outcome.1; inside = outcome.3 };
  starves = tt;
  complete = λ calm sound. record { answer = tt; whole = refl };
  passes = passed_on new false outcome.2;
  told = λ told. put_step (shown_file old) (shown_file new) sought whence goal (goes_by old sought whence goal live seeks told) (outcome.4 told) (moved_file old new false false (if skips goal then place_inside goal else start_place goal) outcome.0 outcome.0.calls.life_is outcome.1 told);
}
parts_of old new sought whence goal (Err fault.CannotRestore) live seeks outcome = record {
  over = outcome.0;
  shorts = refl;
  answer = λ writes. tt;
  lives = λ writes. outcome.0.calls.life_is;
  seeks = put_at_start old new sought whence goal seeks.by outcome.1;
  starves = tt;
  complete = λ calm sound. record { answer = tt; whole = refl };
  passes = passed_on new false outcome.2;
  told = λ told. unfit_step (shown_file old) (shown_file new) sought whence goal (goes_by old sought whence goal live seeks told) outcome.1.skips (outcome.3 told) (moved_file old new false false (start_place goal) outcome.0 outcome.0.calls.life_is outcome.1.place told);
}
parts_of old new sought whence goal (Err (fault.WouldBlock taken)) live seeks outcome = record {
  over = outcome.0;
  shorts = refl;
  answer = λ writes. outcome.1;
  lives = λ writes. outcome.0.calls.life_is;
  seeks = waited_at old new sought whence goal taken seeks.by outcome.2;
  starves = tt;
  complete = λ calm sound. absurd (cc);
  passes = tt;
  told = λ told. wait_step (shown_file old) (shown_file new) sought whence goal taken (goes_by old sought whence goal live seeks told) outcome.1 (left_file old new true false goal outcome.0 outcome.0.calls.life_is (while_owing old new goal outcome.2) told);
}
parts_of old new sought whence goal (Err fault.RawFault) live seeks outcome = record {
  over = outcome.0;
  shorts = refl;
  answer = λ writes. tt;
  lives = λ writes. outcome.0.calls.life_is;
  seeks = left_at old new sought whence goal seeks.by outcome.1;
  starves = tt;
  complete = λ calm sound. absurd (cc);
  passes = tt;
  told = λ told. fault_step (shown_file old) (shown_file new) sought whence goal (goes_by old sought whence goal live seeks told) (fails_so old new outcome.0 told);
}
parts_of old new sought whence goal (Err fault.NoMemory) live seeks outcome = record {
  over = outcome.0;
  shorts = refl;
  answer = λ writes. tt;
  lives = λ writes. inl outcome.0.calls.life_is;
  seeks = starved_at old new sought whence goal seeks.by outcome.1;
  starves = starved_so old new sought whence goal outcome.0 outcome.1;
  complete = λ calm sound. record { answer = tt; whole = refl };
  passes = tt;
  told = λ told. starve_step (shown_file old) (shown_file new) sought whence goal (goes_by old sought whence goal live seeks told) (left_file old new false false goal outcome.0 outcome.0.calls.life_is (without_memory old new goal outcome.1) told);
}
parts_of old new sought whence goal (Err other) live seeks outcome = absurd outcome

-- The one clause.

counts_most : (waited : Bool) (old new : ℕ) → new ≡ (if waited then counted old 1 else old) → (new ≡ old) ⊎ (new ≡ counted old 1)
counts_most true old new is = inr is
counts_most false old new is = inl is

-- a count that rose in this call, though it is told that it didn't
never_rose : (old new : ℕ) (flag : Bool) → (IsTrue flag → Rose old new) → rose old new ≡ false → flag ≡ false
never_rose old new true rises still = absurd (grind (arith, rises refl, still))
never_rose old new false rises still = refl

seeks_so : (old new : TextView) (sought : List ℕ) (whence : ℤ) (waited : Bool) (reply : FileReply) → old.buffer.life ≡ life.Live → refused_here (shown_file old) (SeekText sought whence) ≡ None → IsJoined (over_of old) → IsJoined (over_of new) → SeekParts old sought whence waited reply new → Answers (state_of old false) (SeekText sought whence) reply (state_of new waited)
seeks_so old new sought whence waited reply live accepted was is parts =
    let calls = parts.over.calls in
    record {
      keeps = calls.keeps;
      refused = λ why here. let never = sym accepted ∙ here in absurd (cc);
      again = λ closes. absurd (cc);
      causes = record { waits = calls.wait; faults = calls.fault };
      counted = λ exact.
          let counts = calls.waits exact in
          record {
            faults = λ sound. calls.faults exact sound;
            ends = λ own. record {
              waits = λ whole has. counts ∙ ap (λ (own : Bool). if own then counted old.buffer.raw.waits 1 else old.buffer.raw.waits) whole;
              once = λ waits. counts ∙ ap (λ (own : Bool). if own then counted old.buffer.raw.waits 1 else old.buffer.raw.waits) waits;
              most = counts_most waited old.buffer.raw.waits new.buffer.raw.waits counts;
            };
          };
      shorts = parts.shorts;
      nothing = λ none. absurd (cc);
      moves = record { settings = parts.over.settings; life_is = parts.lives old.buffer.can.writable; place = tt; written = tt };
      lines = tt;
      blames = tt;
      tells = tt;
      seeks = parts.seeks;
      joined = is;
      owes = owes_none (over_of old) (SeekText sought whence) (over_of new) tt (passes_behind old.buffer.raw new.buffer.raw old.buffer.owed.bytes new.buffer.owed.bytes [] calls.passes);
      lays = λ told. lays_owed (over_of old) [] new.buffer.raw.bytes was (calls.lays was.below told);
      starves = parts.starves;
      answer = λ accepts. parts.answer old.buffer.can.writable;
      complete = λ accepts calm sound. parts.complete (never_rose old.buffer.raw.waits new.buffer.raw.waits waited calls.wait calm) (never_rose old.buffer.raw.faults new.buffer.raw.faults (says_fault reply) calls.fault sound);
      wants = tt;
      closes = tt;
      stays = λ opens. open_called old.buffer new.buffer (says_fault reply) live calls.life_is calls.stays;
      unclosed = λ some closed. calls.stays closed;
      shut = λ own. tt;
      spares = calls.spares;
      tied = record { owed = λ can. refl; life_is = λ can was had. refl };
      stands = calls.stands;
      told = parts.told;
      needs = λ gives. absurd (cc);
      brings = λ gives. absurd (cc);
      hides = λ waits gives. absurd (cc);
      stops = λ waits. record { full = λ some. absurd (some refl); some = λ reads own. absurd (cc) };
      passes = parts.passes;
      by_own = tt;
      kept = tt;
      holds = tt;
    }

-- a seek that came to this is a call of the one clause
pub seek_answers : (old new : TextView) (sought : List ℕ) (whence : ℤ) (goal : Cookie) (result : Result (Unit {0}) IoFault) → old.buffer.life ≡ life.Live → IsJoined (over_of old) → IsJoined (over_of new) → Seeks (state_of old false) sought whence goal → SeekOutcome old goal result new → Answers (state_of old false) (SeekText sought whence) (sought_reply goal result) (state_of new (says_wait (sought_reply goal result)))
seek_answers old new sought whence goal result live was is seeks outcome = seeks_so old new sought whence (says_wait (sought_reply goal result)) (sought_reply goal result) live seeks.accepted was is (parts_of old new sought whence goal result live seeks outcome)
