-- A text that is given other settings.
use Rattle.std.proofs.Common.{◌≡◌, ℕ, ◌+◌, ◌<◌, ◌≤◌, inl, inr, ◌⊎◌, Bool, true, false, not, ◌&&◌, ◌||◌, if◌then◌else◌, List, [], ◌∷◌, length, Option, Some, None, is_some, unwrap_or, IfSome, refl, sym, ap, ◌∙◌, subst}
use Rattle.py_flat.specs.declared.fault.IoFault.{IoFault}
use Rattle.py_flat.specs.declared.fault.IoFault.TheVariants as fault
use Rattle.py_flat.specs.declared.life.Life.{Life}
use Rattle.py_flat.specs.declared.life.Life.TheVariants as life
use Rattle.py_flat.specs.Calls.{FileReply, Done, Refused}
use Rattle.py_flat.specs.FlatFile.{Abilities}
use Rattle.py_flat.specs.Limits.{greatest_place}
use Rattle.py_flat.specs.Refusals.{or_else, refused_if, life_fault}
use Rattle.py_flat.specs.AllowedStep.{settled}
use Rattle.py_flat.proofs.Settling.{blames}
use Rattle.py_plain.specs.declared.handler.Handler.{Handler}
use Rattle.py_plain.specs.Units.{Order, Unknown}
use Rattle.py_plain.specs.Handlers.{reads_texts}
use Rattle.py_plain_text.specs.TextFile.{TextFile, TextPlace, TextSettings}
use Rattle.py_plain_text.specs.TextOver.{TextOver}
use Rattle.py_plain_text.specs.TextWriting.{writes_texts}
use Rattle.py_plain_text.specs.TextCalls.{Reconfigure, Changes, changes_reading, changed}
use Rattle.py_plain_text.specs.TextRefusals.{refusal, fits_handler, handler_refusal, changes_refusal}
use Rattle.py_plain_text.specs.TextExact.{after_changes}
use Rattle.py_plain_text.specs.TextAllowed.{SettledBy, TextFileStep}
use Rattle.py_raw.proofs.Telling.{keeps_same}
use Rattle.py_stream.specs.Buffer.{Buffer}
use Rattle.py_read_text.specs.TextState.{TextState, file_of}
use Rattle.py_read_text.specs.Owing.{all_owed, IsJoined}
use Rattle.py_read_text.specs.Knowing.{TextView, place_of, over_of as read_of, IsSetTo}
use Rattle.py_read_text.specs.Answers.{Answers}
use Rattle.py_read_text.proofs.Owing.{passes_none, owes_none, open_still}
use Rattle.py_read_text.proofs.Fronts.{lays_still}
use Rattle.py_textio.specs.Written.{WrittenView, behind_owed, place_now, over_of, state_of, file_now, StandsToWrite, IsWritten}
use Rattle.py_textio.proofs.Refusing.{refused, own_life}

-- What refuses.

-- bytes that are owed change nothing but the byte of a place
pub dirty_behind : (place : TextPlace) (owed : List ℕ) → (behind_owed place owed).dirty ≡ place.dirty
dirty_behind place [] = refl
dirty_behind place (byte ∷ more) = refl

order_behind : (place : TextPlace) (owed : List ℕ) → (behind_owed place owed).order ≡ place.order
order_behind place [] = refl
order_behind place (byte ∷ more) = refl

changes_by : (file : TextFile) (changes : Changes) (current : Life) (why : IoFault) → file.life ≡ current → life_fault current ≡ Some why → refusal file (Reconfigure changes) ≡ Some why
changes_by file changes life.Live why is refuses = absurd (cc)
changes_by file changes life.Failed why is refuses = rw is refuses
changes_by file changes life.Closed why is refuses = rw is refuses
changes_by file changes life.Detached why is refuses = rw is refuses

-- settings that the life refuses
pub unset_by_life : (now : TextState) (text : WrittenView) (was : Bool) (changes : Changes) (current : Life) (why : IoFault) → state_of text was ≡ now → text.life ≡ current → life_fault current ≡ Some why → IsJoined (over_of text) → Answers now (Reconfigure changes) (Refused why) (state_of text false)
unset_by_life now text was changes current why same is refuses joined =
    subst (λ (before : TextState). Answers before (Reconfigure changes) (Refused why) (state_of text false)) same
    (refused text was (Reconfigure changes) why (changes_by (file_now text) changes current why is refuses) (own_life current why refuses) refl joined)

own_if : (fits : Bool) (why : IoFault) → refused_if (not fits) fault.UnknownHandler ≡ Some why → blames why ≡ false
own_if true why is = absurd (cc)
own_if false why is = let same : fault.UnknownHandler ≡ why = cc in ap blames (sym same)

own_handler : (can : Abilities) (handler : Option Handler) (why : IoFault) → handler_refusal can handler ≡ Some why → blames why ≡ false
own_handler can None why is = absurd (cc)
own_handler can (Some handler) why is = own_if (fits_handler can handler) why is

own_given : (reading dirty : Bool) (can : Abilities) (handler : Option Handler) (why : IoFault) → or_else (if reading then refused_if dirty fault.SeekFirst else None) (handler_refusal can handler) ≡ Some why → blames why ≡ false
own_given true true can handler why is = let same : fault.SeekFirst ≡ why = cc in ap blames (sym same)
own_given true false can handler why is = own_handler can handler why is
own_given false dirty can handler why is = own_handler can handler why is

same_refusal : (file : TextFile) (changes : Changes) → file.life ≡ life.Live → refusal file (Reconfigure changes) ≡ changes_refusal file changes
same_refusal file changes live = rw live refl

-- settings that are refused by what was read, or by the handler
pub unset : (text : WrittenView) (changes : Changes) (why : IoFault) → text.life ≡ life.Live → changes_refusal (file_now text) changes ≡ Some why → IsJoined (over_of text) → Answers (state_of text false) (Reconfigure changes) (Refused why) (state_of text false)
unset text changes why live is joined =
    refused text false (Reconfigure changes) why (same_refusal (file_now text) changes live ∙ is) (own_given (changes_reading changes) (place_now text).dirty text.text.buffer.can changes.handler why is) refl joined

-- What isn't refused.

unread_by : (reading dirty : Bool) (later : Option IoFault) → or_else (if reading then refused_if dirty fault.SeekFirst else None) later ≡ None → reading ≡ true → dirty ≡ false
unread_by true true later is reads = absurd (cc)
unread_by true false later is reads = refl
unread_by false dirty later is reads = absurd (cc)

pub accepts_clean : (view : WrittenView) (changes : Changes) → changes_refusal (file_now view) changes ≡ None → changes_reading changes ≡ true → view.text.dirty ≡ false
accepts_clean view changes is reads = sym (dirty_behind (place_of view.text) view.pending) ∙ unread_by (changes_reading changes) (place_now view).dirty (handler_refusal view.text.buffer.can changes.handler) is reads

later_none : (first later : Option IoFault) → or_else first later ≡ None → later ≡ None
later_none None later is = is
later_none (Some why) later is = absurd (cc)

fits_both : (readable writable reads writes : Bool) → refused_if (not ((not readable || reads) && (not writable || writes))) fault.UnknownHandler ≡ None → (readable ≡ true → reads ≡ true) × (writable ≡ true → writes ≡ true)
fits_both true true true true is = (λ can. refl, λ can. refl)
fits_both true true true false is = absurd (cc)
fits_both true true false writes is = absurd (cc)
fits_both true false true writes is = (λ can. refl, λ can. absurd (cc))
fits_both true false false writes is = absurd (cc)
fits_both false true reads true is = (λ can. absurd (cc), λ can. refl)
fits_both false true reads false is = absurd (cc)
fits_both false false reads writes is = (λ can. absurd (cc), λ can. absurd (cc))

handler_fits : (can : Abilities) (given : Option Handler) → handler_refusal can given ≡ None → (can.readable ≡ true → IfSome given (λ handler. reads_texts handler ≡ true)) × (can.writable ≡ true → IfSome given (λ handler. writes_texts handler ≡ true))
handler_fits can None is = (λ can. tt, λ can. tt)
handler_fits can (Some handler) is = fits_both can.readable can.writable (reads_texts handler) (writes_texts handler) is

pub accepts_handler : (view : WrittenView) (changes : Changes) → changes_refusal (file_now view) changes ≡ None → (view.text.buffer.can.readable ≡ true → IfSome changes.handler (λ handler. reads_texts handler ≡ true)) × (view.text.buffer.can.writable ≡ true → IfSome changes.handler (λ handler. writes_texts handler ≡ true))
accepts_handler view changes is = handler_fits view.text.buffer.can changes.handler (later_none _ (handler_refusal view.text.buffer.can changes.handler) is)

-- What holds of every text.

writes_on : (given : Option Handler) (old : Handler) → IfSome given (λ handler. writes_texts handler ≡ true) → writes_texts old ≡ true → writes_texts (unwrap_or given old) ≡ true
writes_on None old new was = was
writes_on (Some handler) old new was = new

stands_on : (old new : TextView) (pending : List ℕ) (settings : TextSettings) → IsSetTo settings old new → (pending ≡ []) ⊎ StandsToWrite old → (pending ≡ []) ⊎ StandsToWrite new
stands_on old new pending settings sets (inl none) = inl none
stands_on old new pending settings sets (inr stands) = inr (record { taken = sets.taken ∙ stands.0.taken; dirty = sets.dirty ∙ stands.0.dirty }, sets.at ∙ (stands.1 ∙ sym (ap (λ (buffer : Buffer). buffer.place) sets.buffer)), sets.front ∙ stands.2)

pub set_written : (old new : TextView) (pending : List ℕ) (current : Life) (changes : Changes) → IsSetTo (changed old.settings changes) old new → (old.buffer.can.writable ≡ true → IfSome changes.handler (λ handler. writes_texts handler ≡ true)) → IsJoined (read_of new) → IsWritten old pending current → IsWritten new pending current
set_written old new pending current changes sets writes joined is =
    let can : (able : new.buffer.can.writable ≡ true) → old.buffer.can.writable ≡ true = λ able. sym (ap (λ (buffer : Buffer). buffer.can.writable) sets.buffer) ∙ able in
    record {
      kept = ap (λ (buffer : Buffer). buffer.exported) sets.buffer ∙ is.kept;
      asks = subst (λ (settings : TextSettings). 0 < settings.chunk_size) (sym sets.settings) is.asks;
      clean = λ dirty. let was = is.clean (sym sets.dirty ∙ dirty) in (sets.taken ∙ was.0, sets.front ∙ was.1);
      handler = λ able. ap (λ (settings : TextSettings). writes_texts settings.handler) sets.settings ∙ writes_on changes.handler old.settings.handler (writes (can able)) (is.handler (can able));
      lives = λ lives. ap (λ (buffer : Buffer). buffer.life) sets.buffer ∙ is.lives lives;
      stands = stands_on old new pending (changed old.settings changes) sets is.stands;
      joined = joined;
      far = subst (λ (buffer : Buffer). buffer.place + length pending ≤ greatest_place) (sym sets.buffer) is.far;
      unwritten = λ unable. let was = is.unwritten (sym (ap (λ (buffer : Buffer). buffer.can.writable) sets.buffer) ∙ unable) in (was.0, was.1 ∙ sym (ap (λ (buffer : Buffer). buffer.life) sets.buffer));
    }

-- The step.

either : (anew : Bool) (order : Order) → order ≡ Unknown → (if anew then Unknown else order) ≡ order
either true order is = sym is
either false order is = refl

-- a text with other settings, as it is seen
abbrev pub with_changes : TextOver Buffer → Changes → TextOver Buffer
with_changes text changes = record text { settings = changed text.settings changes }

abbrev pub changed_state : WrittenView → Changes → TextState
changed_state view changes = record { text = with_changes (over_of view) changes; short = false }

set_step : (view : WrittenView) (changes : Changes) → view.life ≡ life.Live → changes_refusal (file_now view) changes ≡ None → TextFileStep (file_now view) (Reconfigure changes) Done false false (file_of (changed_state view changes))
set_step view changes live accepted =
    let file : TextFile = file_now view in
    let order : file.place.order ≡ Unknown = order_behind (place_of view.text) view.pending in
    let place : file.place ≡ (after_changes file changes).place = ap (λ (own : Order). let all : TextPlace = record file.place { order = own } in all) (sym (either (is_some changes.encoding) file.place.order order)) in
    settled (subst (λ (refused : Option IoFault). SettledBy file (Reconfigure changes) refused Done (file_of (changed_state view changes))) (sym (same_refusal file changes live ∙ accepted))
    (ap (λ (own : TextPlace). let after : FileReply × TextFile = (Done, record file { settings = changed file.settings changes; place = own }) in after) place))

set_answers : (view : WrittenView) (changes : Changes) → view.life ≡ life.Live → changes_refusal (file_now view) changes ≡ None → IsJoined (over_of view) → Answers (state_of view false) (Reconfigure changes) Done (changed_state view changes)
set_answers view changes live accepted joined = record {
  keeps = record { raw = keeps_same view.text.buffer.raw; can = refl; buffering = refl; exported = refl };
  refused = λ why here. let never = sym (same_refusal (file_now view) changes live ∙ accepted) ∙ here in absurd (cc);
  again = λ closes. absurd (cc);
  causes = record { waits = λ short. absurd (cc); faults = λ fails. absurd (cc) };
  counted = λ exact. record { faults = λ sound. refl; ends = λ own. record { waits = λ whole has. refl; once = λ short. absurd (cc); most = inl refl } };
  shorts = refl;
  nothing = λ none. refl;
  moves = record { settings = refl; life_is = refl; place = refl; written = tt };
  lines = tt;
  blames = tt;
  tells = tt;
  seeks = tt;
  joined = joined;
  lays = lays_still (over_of view) _;
  unclosed = λ some closed. refl;
  owes = owes_none (over_of view) (Reconfigure changes) (with_changes (over_of view) changes) tt (passes_none view.text.buffer.raw (all_owed (over_of view)));
  starves = tt;
  closes = tt;
  stays = λ is. open_still view.text.buffer;
  stops = λ short. absurd (cc);
  answer = λ accepts. refl;
  complete = λ accepts calm sound. record { answer = refl; whole = refl };
  wants = tt;
  shut = λ own. tt;
  spares = λ can none. record { bytes = λ told. refl; written = λ told. refl; owed = none };
  tied = record { owed = λ can. refl; life_is = λ can was had. was };
  stands = λ stood. stood;
  told = λ told. set_step view changes live accepted;
  needs = λ gives. absurd (cc);
  brings = λ gives. absurd (cc);
  hides = λ short. absurd (cc);
  passes = tt;
  by_own = tt;
  kept = tt;
  holds = tt;
}

over_set : (old new : WrittenView) (changes : Changes) → IsSetTo (changed old.text.settings changes) old.text new.text → new.pending ≡ old.pending → new.life ≡ old.life → over_of new ≡ with_changes (over_of old) changes
over_set old new changes sets pending current = rw (sets.buffer, sets.front, sets.at, sets.taken, sets.dirty, sets.settings, pending, current) refl

-- other settings
pub set_so : (old new : WrittenView) (changes : Changes) → old.life ≡ life.Live → changes_refusal (file_now old) changes ≡ None → IsSetTo (changed old.text.settings changes) old.text new.text → new.pending ≡ old.pending → new.life ≡ old.life → IsJoined (over_of old) → Answers (state_of old false) (Reconfigure changes) Done (state_of new false)
set_so old new changes live accepted sets pending current joined =
    subst (λ (text : TextOver Buffer). let after : TextState = record { text = text; short = false } in Answers (state_of old false) (Reconfigure changes) Done after) (sym (over_set old new changes sets pending current)) (set_answers old changes live accepted joined)

-- of a text as it is seen
pub set_now : (now old new : WrittenView) (changes : Changes) → old ≡ now → now.life ≡ life.Live → changes_refusal (file_now now) changes ≡ None → IsSetTo (changed old.text.settings changes) old.text new.text → new.pending ≡ old.pending → new.life ≡ old.life → IsJoined (over_of now) → Answers (state_of now false) (Reconfigure changes) Done (state_of new false)
set_now now old new changes same live accepted sets pending current joined =
    set_so now new changes live accepted (subst (λ (view : WrittenView). IsSetTo (changed view.text.settings changes) view.text new.text) same sets)
    (pending ∙ ap (λ (view : WrittenView). view.pending) same) (current ∙ ap (λ (view : WrittenView). view.life) same) joined
