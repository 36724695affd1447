-- Where a text tells that it stands.
use Rattle.std.proofs.Common.{◌≡◌, ◌≢◌, ℕ, ◌+◌, ◌≤◌, inl, Bool, true, false, nat_eq, List, [], ◌∷◌, length, find, Option, Some, None, if◌then◌else◌, pos, refl, sym, ap, ◌∙◌, subst, arith}
use Rattle.std.proofs.lemmas.Bool.{cond-true}
use Rattle.py_flat.specs.declared.fault.IoFault.{IoFault}
use Rattle.py_flat.specs.declared.fault.IoFault.TheVariants as fault
use Rattle.py_flat.specs.declared.life.Life.{Life}
use Rattle.py_flat.specs.declared.life.Life.TheVariants as life
use Rattle.py_flat.specs.Calls.{FileReply, Cookie, Refused}
use Rattle.py_flat.specs.Limits.{greatest_place}
use Rattle.py_flat.specs.Refusals.{life_fault}
use Rattle.py_flat.specs.AllowedStep.{settled}
use Rattle.py_plain.specs.Units.{Order}
use Rattle.py_plain_text.specs.declared.text_cookie.TextIOCookie.{TextIOCookie}
use Rattle.py_plain_text.specs.Cookie as cookie
use Rattle.py_plain_text.specs.Cookie.{boundary_cookie, cookie_bytes, is_buildable, flags_of}
use Rattle.py_plain_text.specs.CookieView.{cookie_shown}
use Rattle.py_plain_text.specs.Landing.{start_of, fed_by}
use Rattle.py_plain_text.specs.Telling.{gives_rest, boundaries, told_at, told}
use Rattle.py_plain_text.specs.TextFile.{Front, TextFile}
use Rattle.py_plain_text.specs.TextOver.{TextOver}
use Rattle.py_plain_text.specs.TextCalls.{Tell}
use Rattle.py_plain_text.specs.TextRefusals.{refusal}
use Rattle.py_plain_text.specs.TextAllowed.{SettledBy, TextFileStep}
use Rattle.py_plain_text.proofs.Building.{FieldsFit, cookie_back}
use Rattle.py_plain_text.proofs.Inside.{same_way}
use Rattle.py_plain_text.proofs.Told.{gives_here}
use Rattle.py_telling.specs.declared.told.Told.{Told}
use Rattle.py_telling.specs.Spots.{Spot, spot_cookie}
use Rattle.py_telling.specs.ToldView.{spot_shown, told_shown}
use Rattle.py_raw.proofs.Telling.{keeps_same}
use Rattle.py_stream.specs.Buffer.{Buffer, WhereShown}
use Rattle.py_read_text.specs.TextState.{TextState, file_of}
use Rattle.py_read_text.specs.Owing.{all_owed, behind_own, begins, begins_at, IsJoined}
use Rattle.py_read_text.specs.Knowing.{TextView, over_of as read_of, shown_file}
use Rattle.py_read_text.specs.Answers.{TellsWithin, Answers}
use Rattle.py_read_text.proofs.Owing.{passes_none, owes_none, open_still}
use Rattle.py_read_text.proofs.Fronts.{lays_still}
use Rattle.py_textio.specs.Written.{WrittenView, over_of, state_of, file_now, IsWritten, TellsPlace}
use Rattle.py_textio.proofs.Refusing.{refused, own_life}
use Rattle.py_textio.proofs.Settling.{view_of, state_same, stands_so}

-- The cookie.

-- the cookie of a spot: where it begins, how many bytes it feeds, and that it can be built
record IsCookieOf (spot : Spot) (told : cookie.Cookie) : Type 0 where
  start : start_of told ≡ spot.start
  fed : fed_by told ≤ spot.length
  builds : is_buildable told ≡ true
  flags : told.dec_flags ≡ pos 0

cookie_of : (spot : Spot) → IsCookieOf spot (spot_cookie spot)
cookie_of spot = by_none (nat_eq spot.skipped 0)
  where
    by_none : (none : Bool) → IsCookieOf spot (if none then boundary_cookie spot.start 0 else record { start_pos = pos spot.start; dec_flags = pos 0; bytes_to_feed = pos spot.length; chars_to_skip = pos spot.skipped; need_eof = true; bytes_to_skip = pos spot.skipped })
    by_none true = record { start = refl; fed = omega arith; builds = refl; flags = refl }
    by_none false = record { start = refl; fed = omega arith; builds = refl; flags = refl }

builds_so : (shown : Told) (told : TextIOCookie) → cookie_shown told ≡ told_shown shown → is_buildable (cookie_shown told) ≡ true
builds_so shown told is = ap is_buildable is ∙ (cookie_of (spot_shown shown)).builds

flags_so : (shown : Told) (told : TextIOCookie) → cookie_shown told ≡ told_shown shown → (cookie_shown told).dec_flags ≡ pos 0
flags_so shown told is = ap (λ (own : cookie.Cookie). own.dec_flags) is ∙ (cookie_of (spot_shown shown)).flags

near_so : (shown : Told) (told : TextIOCookie) → cookie_shown told ≡ told_shown shown → shown.start ≤ greatest_place → start_of (cookie_shown told) ≤ greatest_place
near_so shown told is near = omega (arith, near, ap start_of is, (cookie_of (spot_shown shown)).start)

-- it stands within what was taken
tells_within : (text : TextOver Buffer) (shown : Told) (told : TextIOCookie) → FieldsFit (cookie_shown told) → cookie_shown told ≡ told_shown shown → begins_at text.place ≤ shown.start → shown.start + shown.length ≤ behind_own text → shown.length ≤ 4 → TellsWithin (cookie_bytes (cookie_shown told)) text
tells_within text shown told fit is forth within few =
    let own = cookie_of (spot_shown shown) in
    record {
      told = cookie_shown told;
      bytes_are = ap (λ (parsed : cookie.Cookie). Some parsed) (cookie_back (cookie_shown told) fit);
      builds = builds_so shown told is;
      forth = omega (arith, forth, ap start_of is, own.start);
      within = omega (arith, within, ap start_of is, ap fed_by is, own.start, own.fed);
      few = omega (arith, few, ap fed_by is, own.fed);
    }

-- What a text tells.

-- one from which no character was taken since it was placed is told by its byte
told_clean : (file : TextFile) → file.place.front ≡ None → file.place.taken ≡ 0 → boundary_cookie file.place.at (flags_of file.place.order) ≡ told file
told_clean file front none =
    let found : find (gives_rest file) (boundaries file) ≡ Some file.place.at = cond-true (gives_rest file file.place.at) _ _ (gives_here file front none) in
    sym (ap (told_at file) found ∙ ap (λ (order : Order). boundary_cookie file.place.at (flags_of order)) (same_way (nat_eq file.place.at file.place.at) file.place.order))

pub none_pending : (size : ℕ) (pending : List ℕ) → size ≡ length pending → true ≡ nat_eq size 0 → pending ≡ []
none_pending size [] is tested = refl
none_pending size (byte ∷ more) is tested = absurd (grind arith)

-- one that owes nothing itself tells what the text that reads does
pub tells_read : (now : WrittenView) (text : TextView) (pending : List ℕ) (room : ℕ) (current : Life) (shown : Told) (told_here : TextIOCookie) → view_of text pending room current ≡ now → now.life ≡ life.Live → IsWritten text pending current → pending ≡ [] → FieldsFit (cookie_shown told_here) → cookie_shown told_here ≡ told_shown shown → WhereShown text.buffer (told_shown shown ≡ told (shown_file text)) → begins text.front text.at ≤ shown.start → shown.start + shown.length ≤ text.buffer.place → shown.length ≤ 4 → TellsPlace now told_here
tells_read now text pending room current shown told_here same live is none fit shows told_is forth within few =
    let lives : current ≡ life.Live = ap (λ (view : WrittenView). view.life) same ∙ live in
    let states = state_same text pending room current false none (lives ∙ sym (is.lives lives)) in
    subst (λ (view : WrittenView). TellsPlace view told_here) same (record {
      told = λ tells. shows ∙ (told_is tells ∙ ap (λ (state : TextState). told (file_of state)) states);
      within = subst (λ (state : TextState). TellsWithin (cookie_bytes (cookie_shown told_here)) state.text) states (tells_within (read_of text) shown told_here fit shows forth (omega (arith, within)) few);
      builds = builds_so shown told_here shows;
      flags = flags_so shown told_here shows;
      near = near_so shown told_here shows (omega (arith, within, is.far));
    })

-- one that owes some stands clean behind them
abbrev behind_them : ℕ → Told
behind_them start = record { start = start; length = 0; skipped = 0 }

tells_behind : (text : TextView) (pending : List ℕ) (room : ℕ) (current : Life) (start : ℕ) (told_here : TextIOCookie) → IsWritten text pending current → pending ≢ [] → FieldsFit (cookie_shown told_here) → cookie_shown told_here ≡ told_shown (behind_them start) → start ≡ text.at + length pending → TellsPlace (view_of text pending room current) told_here
tells_behind text [] room current start told_here is some fit shows there = absurd (some refl)
tells_behind text (byte ∷ more) room current start told_here is some fit shows there =
    let stands = stands_so text (byte ∷ more) current is some in
    let view : WrittenView = view_of text (byte ∷ more) room current in
    record {
      told = λ tells. shows ∙ (ap (λ (at : ℕ). told_shown (behind_them at)) there ∙ told_clean (file_now view) stands.2 stands.0.taken);
      within = tells_within (over_of view) (behind_them start) told_here fit shows (subst (λ (front : Option Front). begins front (text.at + length (byte ∷ more)) ≤ start) (sym stands.2) (omega (arith, there))) (omega (arith, there, stands.1)) (omega arith);
      builds = builds_so (behind_them start) told_here shows;
      flags = flags_so (behind_them start) told_here shows;
      near = near_so (behind_them start) told_here shows (omega (arith, there, stands.1, is.far));
    }

pub tells_owed : (now : WrittenView) (text : TextView) (pending : List ℕ) (room : ℕ) (current : Life) (start : ℕ) (told_here : TextIOCookie) → view_of text pending room current ≡ now → IsWritten text pending current → pending ≢ [] → FieldsFit (cookie_shown told_here) → cookie_shown told_here ≡ told_shown (behind_them start) → start ≡ text.at + length pending → TellsPlace now told_here
tells_owed now text pending room current start told_here same is some fit shows there =
    subst (λ (view : WrittenView). TellsPlace view told_here) same (tells_behind text pending room current start told_here is some fit shows there)

-- What refuses.

tell_by : (file : TextFile) (current : Life) (why : IoFault) → file.life ≡ current → life_fault current ≡ Some why → refusal file Tell ≡ Some why
tell_by file life.Live why is refuses = absurd (cc)
tell_by file life.Failed why is refuses = rw is refuses
tell_by file life.Closed why is refuses = rw is refuses
tell_by file life.Detached why is refuses = rw is refuses

-- a tell that the life refuses
pub untold_by_life : (now : TextState) (text : WrittenView) (was : Bool) (current : Life) (why : IoFault) → state_of text was ≡ now → text.life ≡ current → life_fault current ≡ Some why → IsJoined (over_of text) → Answers now Tell (Refused why) (state_of text false)
untold_by_life now text was current why same is refuses joined =
    subst (λ (before : TextState). Answers before Tell (Refused why) (state_of text false)) same
    (refused text was Tell why (tell_by (file_now text) current why is refuses) (own_life current why refuses) refl joined)

unmovable : (file : TextFile) → file.life ≡ life.Live → file.can.seekable ≡ false → refusal file Tell ≡ Some fault.Unsupported
unmovable file live can = rw live (rw can refl)

-- a tell of a buffer that can't be moved
pub untold : (now : TextState) (text : WrittenView) (was : Bool) → state_of text was ≡ now → text.life ≡ life.Live → text.text.buffer.can.seekable ≡ false → IsJoined (over_of text) → Answers now Tell (Refused fault.Unsupported) (state_of text false)
untold now text was same live can joined =
    subst (λ (before : TextState). Answers before Tell (Refused fault.Unsupported) (state_of text false)) same
    (refused text was Tell fault.Unsupported (unmovable (file_now text) live can) refl refl joined)

-- The step.

accepts_tell : (file : TextFile) → file.life ≡ life.Live → file.can.seekable ≡ true → refusal file Tell ≡ None
accepts_tell file live can = rw live (rw can refl)

tell_step : (file : TextFile) (told_here : cookie.Cookie) → file.life ≡ life.Live → file.can.seekable ≡ true → told_here ≡ told file → TextFileStep file Tell (Cookie (cookie_bytes told_here)) false false file
tell_step file told_here live can is =
    settled (subst (λ (why : Option IoFault). SettledBy file Tell why (Cookie (cookie_bytes told_here)) file) (sym (accepts_tell file live can))
    (ap (λ (own : cookie.Cookie). let pair : FileReply × TextFile = (Cookie (cookie_bytes own), file) in pair) is))

-- where a live text stands
pub tell_answers : (now : TextState) (text : WrittenView) (was : Bool) (told_here : TextIOCookie) → state_of text was ≡ now → text.life ≡ life.Live → text.text.buffer.can.seekable ≡ true → IsJoined (over_of text) → TellsPlace text told_here → Answers now Tell (Cookie (cookie_bytes (cookie_shown told_here))) (state_of text false)
tell_answers now text was told_here same live can joined tells =
    subst (λ (before : TextState). Answers before Tell (Cookie (cookie_bytes (cookie_shown told_here))) (state_of text false)) same
    (record {
      keeps = record { raw = keeps_same text.text.buffer.raw; can = refl; buffering = refl; exported = refl };
      refused = λ why here. let never = sym (accepts_tell (file_now text) live can) ∙ here in absurd (cc);
      again = λ closes. absurd (cc);
      causes = record { waits = λ short. absurd (cc); faults = λ fails. absurd (cc) };
      counted = λ exact. record { faults = λ sound. refl; ends = λ own. record { waits = λ whole has. refl; once = λ short. absurd (cc); most = inl refl } };
      shorts = refl;
      nothing = λ none. refl;
      moves = record { settings = refl; life_is = refl; place = refl; written = tt };
      lines = tt;
      blames = tt;
      tells = tells.within;
      seeks = tt;
      joined = joined;
      owes = owes_none (over_of text) Tell (over_of text) tt (passes_none text.text.buffer.raw (all_owed (over_of text)));
      lays = lays_still (over_of text) _;
      starves = tt;
      closes = tt;
      stays = λ is. open_still text.text.buffer;
      unclosed = λ some closed. refl;
      stops = λ short. absurd (cc);
      answer = λ accepts. tt;
      complete = λ accepts calm sound. record { answer = tt; whole = refl };
      wants = tt;
      shut = λ own. tt;
      spares = λ unable none. record { bytes = λ told. refl; written = λ told. refl; owed = none };
      tied = record { owed = λ unable. refl; life_is = λ unable was had. was };
      stands = λ stood. stood;
      told = λ told. tell_step (file_now text) (cookie_shown told_here) live can (tells.told told);
      needs = λ gives. absurd (cc);
      brings = λ gives. absurd (cc);
      hides = λ short. absurd (cc);
      passes = tt;
      by_own = tt;
      kept = tt;
      holds = tt;
    })
