-- A text that is given other settings.
use Rattle.std.proofs.Common.{◌≡◌, ℕ, ◌+◌, ◌-◌, ◌<◌, ◌≤◌, Bool, true, false, ◌||◌, List, length, Option, Some, None, is_some, unwrap_or, refl, sym, ap, ◌∙◌, subst, arith}
use Rattle.std.proofs.lemmas.List.{length-append}
use Rattle.py_flat.specs.Bytes.{left_at}
use Rattle.py_plain.specs.declared.encoding.Encoding.{Encoding}
use Rattle.py_plain.specs.declared.handler.Handler.{Handler}
use Rattle.py_plain.specs.declared.newlines.Newlines.{Newlines}
use Rattle.py_plain_text.specs.TextFile.{Front, TextSettings}
use Rattle.py_plain_text.specs.TextCalls.{Changes, changes_reading, changed}
use Rattle.py_stream.specs.Buffer.{Buffer, flat_of}
use Rattle.py_held_text.specs.Held.{HeldView, nothing_held, base_of, whole_of, held_anew, left_with}
use Rattle.py_text.specs.declared.coder.Coder.{Coder}
use Rattle.py_read_text.specs.Knowing.{TextView, from_place, with_given, front_of, KnowsTold, IsText, IsSetTo}
use Rattle.py_read_text.proofs.Beginning.{knows_anew}
use Rattle.py_read_text.proofs.Holding.{clean_as}

-- settings by which a text is read otherwise
abbrev pub set_to : TextSettings → Coder → Newlines → TextSettings
set_to settings coder newline = record settings { encoding = coder.encoding; handler = coder.errors; newline = newline }

abbrev held_by : Coder → Newlines → (at : ℕ) → List ℕ → (room : ℕ) → HeldView
held_by coder newline at since room = record (nothing_held coder newline at room) { bytes = since }

anew_is : (held new : HeldView) (coder : Coder) (newline : Newlines) (at : ℕ) → held.place + length held.bytes ≡ at + length (whole_of held) → new ≡ held_anew coder newline held → length held.back ≤ held.place → new ≡ held_by coder newline at (whole_of held) held.room
anew_is held new coder newline at stands anew behind =
    let there : base_of held ≡ at = omega (arith, stands, behind, length-append held.back held.bytes) in
    anew ∙ ap (λ (place : ℕ). held_by coder newline place (whole_of held) held.room) there

-- a text of which nothing was taken, read anew
pub text_anew : (buffer : Buffer) (held new : HeldView) (front : Option Front) (at taken : ℕ) (dirty : Bool) (coder reading : Coder) (newline : Newlines) (settings : TextSettings) → taken ≡ 0 → dirty ≡ false → new ≡ held_anew reading newline held → length held.back ≤ held.place → (buffer.can.readable ≡ true → reading ≡ coder) → IsText buffer held front at taken dirty settings → IsText buffer new front at taken dirty (set_to settings coder newline)
text_anew buffer held new front at taken dirty coder reading newline settings none clean anew behind same is =
    let since : List ℕ = whole_of held in
    let reaches : at + length since ≡ buffer.place = is.whole none in
    let after : TextSettings = set_to settings coder newline in
    let bytes : List ℕ = (flat_of buffer).bytes in
    let new_is = anew_is held new reading newline at (is.stands ∙ sym reaches) anew behind in
    subst (λ (own : HeldView). IsText buffer own front at taken dirty after) (sym new_is) (clean_as buffer (held_by reading newline at since held.room) front at taken dirty after (is.clean clean) none clean (record {
      reads_by = λ can. record { encoding = ap (λ (own : Coder). own.encoding) (same can); handler = ap (λ (own : Coder). own.errors) (same can); newline = refl };
      asks = is.asks;
      buffered = is.buffered;
      kept = is.kept;
      owes = is.owes;
      ahead = is.ahead;
      stands = reaches;
      far = is.far;
      forth = omega arith;
      from = omega arith;
      few = omega arith;
      has = record { among = omega arith; marked = tt };
      inside = refl;
      clean = λ clean. refl;
      still = λ can. refl;
      whole = λ zero. reaches;
      told = λ told live reads.
          let knows = is.told told live reads in
          subst (λ (own : Coder). KnowsTold after bytes buffer.place None at 0 (held_by own newline at since held.room)) (sym (same reads))
          (knows_anew after bytes buffer.place at held.room since reaches (knows.whole none) knows.within);
    }))

-- Settings by which a text is read alike.

-- all of them but how it is written, and in which chunks it is read
abbrev written_by : TextSettings → (lines through : Bool) → (size : ℕ) → TextSettings
written_by settings lines through size = record settings { line_buffering = lines; write_through = through; chunk_size = size }

front_by : (settings : TextSettings) (bytes : List ℕ) (front : Option Front) (lines through : Bool) (size : ℕ) → front_of (written_by settings lines through size) bytes front ≡ front_of settings bytes front
front_by settings bytes None lines through size = refl
front_by settings bytes (Some front) lines through size = refl

knows_by : (settings : TextSettings) (bytes : List ℕ) (far : ℕ) (front : Option Front) (at taken : ℕ) (held : HeldView) (lines through : Bool) (size : ℕ) → KnowsTold settings bytes far front at taken held → KnowsTold (written_by settings lines through size) bytes far front at taken held
knows_by settings bytes far front at taken held lines through size knows =
    let same = front_by settings bytes front lines through size in
    let spot = knows.spot in
    record {
      item = knows.item;
      stands = knows.stands ∙ ap (λ (cs : List ℕ). length cs - taken) (sym same);
      given = knows.given;
      count = knows.count;
      within = knows.within;
      left = ap (λ (cs : List ℕ). with_given cs (left_with (from_place settings at) (left_at bytes at))) same ∙ knows.left;
      shows = λ more own. omega (arith, knows.shows more own, ap length same);
      sound = knows.sound;
      whole = knows.whole;
      spot = record { order = spot.order; lies = spot.lies; gone = spot.gone; bases = spot.bases; items = spot.items; behind = spot.behind; moved = spot.moved; ended = spot.ended };
    }

pub text_by : (buffer : Buffer) (held : HeldView) (front : Option Front) (at taken : ℕ) (dirty : Bool) (settings : TextSettings) (lines through : Bool) (size : ℕ) → 0 < size → IsText buffer held front at taken dirty settings → IsText buffer held front at taken dirty (written_by settings lines through size)
text_by buffer held front at taken dirty settings lines through size asks is = record {
  reads_by = λ reads. let by = is.reads_by reads in record { encoding = by.encoding; handler = by.handler; newline = by.newline };
  asks = asks;
  buffered = is.buffered;
  kept = is.kept;
  owes = is.owes;
  ahead = is.ahead;
  stands = is.stands;
  far = is.far;
  forth = is.forth;
  from = is.from;
  few = is.few;
  has = is.has;
  inside = is.inside;
  clean = is.clean;
  still = is.still;
  whole = is.whole;
  told = λ told live reads. knows_by settings (flat_of buffer).bytes buffer.place front at taken held lines through size (is.told told live reads);
}

-- Settings that are given.

-- settings of which those that are read by stay
unread : (settings : TextSettings) (changes : Changes) → changes_reading changes ≡ false → changed settings changes ≡ record settings { line_buffering = unwrap_or changes.line_buffering settings.line_buffering; write_through = unwrap_or changes.write_through settings.write_through }
unread settings changes none = by_given changes.encoding changes.handler changes.newline none
  where
    by_given : (encoding : Option Encoding) (handler : Option Handler) (newline : Option Newlines) → is_some encoding || (is_some handler || is_some newline) ≡ false → changed settings (record changes { encoding = encoding; handler = handler; newline = newline }) ≡ record settings { line_buffering = unwrap_or changes.line_buffering settings.line_buffering; write_through = unwrap_or changes.write_through settings.write_through }
    by_given None None None none = refl
    by_given (Some encoding) handler newline none = absurd (cc)
    by_given None (Some handler) newline none = absurd (cc)
    by_given None None (Some newline) none = absurd (cc)

abbrev pub written_as : TextView → (line_buffering write_through : Bool) → TextView
written_as view line_buffering write_through = record view { settings = record view.settings { line_buffering = line_buffering; write_through = write_through } }

-- none of those that are read by was given
pub set_unread : (old mid new : TextView) (changes : Changes) (lines through : Bool) → changes_reading changes ≡ false → mid ≡ old → new ≡ written_as mid lines through → lines ≡ unwrap_or changes.line_buffering old.settings.line_buffering → through ≡ unwrap_or changes.write_through old.settings.write_through → IsSetTo (changed old.settings changes) old new
set_unread old mid new changes lines through none same is lines_are through_is =
    let whole : new ≡ written_as old lines through = is ∙ ap (λ (view : TextView). written_as view lines through) same in
    record {
      buffer = ap (λ (view : TextView). view.buffer) whole;
      front = ap (λ (view : TextView). view.front) whole;
      at = ap (λ (view : TextView). view.at) whole;
      taken = ap (λ (view : TextView). view.taken) whole;
      dirty = ap (λ (view : TextView). view.dirty) whole;
      settings = ap (λ (view : TextView). view.settings) whole ∙ (rw (lines_are, through_is) refl ∙ sym (unread old.settings changes none));
    }

-- some of them were
pub set_read : (old mid new : TextView) (changes : Changes) (coder : Coder) (newline : Newlines) (lines through : Bool) → IsSetTo (set_to old.settings coder newline) old mid → new ≡ written_as mid lines through → coder.encoding ≡ unwrap_or changes.encoding old.settings.encoding → coder.errors ≡ unwrap_or changes.handler old.settings.handler → newline ≡ unwrap_or changes.newline old.settings.newline → lines ≡ unwrap_or changes.line_buffering old.settings.line_buffering → through ≡ unwrap_or changes.write_through old.settings.write_through → IsSetTo (changed old.settings changes) old new
set_read old mid new changes coder newline lines through sets is encoding handler rule lines_are through_is = record {
  buffer = ap (λ (view : TextView). view.buffer) is ∙ sets.buffer;
  front = ap (λ (view : TextView). view.front) is ∙ sets.front;
  at = ap (λ (view : TextView). view.at) is ∙ sets.at;
  taken = ap (λ (view : TextView). view.taken) is ∙ sets.taken;
  dirty = ap (λ (view : TextView). view.dirty) is ∙ sets.dirty;
  settings = ap (λ (view : TextView). view.settings) is ∙ (ap (λ (settings : TextSettings). let own : TextSettings = record settings { line_buffering = lines; write_through = through } in own) sets.settings ∙ rw (encoding, handler, rule, lines_are, through_is) refl);
}
