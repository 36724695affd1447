-- What holds of every text stays so.
use Rattle.std.proofs.Common.{◌≡◌, ◌⊎◌, inl, inr, true, ℕ, ◌+◌, ◌-◌, ◌≤◌, Bool, false, ◌||◌, IsTrue, List, [], length, Option, Some, None, refl, sym, ap, subst, ◌∙◌, arith}
use Rattle.std.specs.Bool.{⊤}
use Rattle.std.proofs.lemmas.List.{length-append, length-drop}
use Rattle.py_flat.specs.declared.life.Life.TheVariants as life
use Rattle.py_flat.specs.Bytes.{left_at}
use Rattle.py_flat.specs.FlatFile.{Abilities}
use Rattle.py_flat.specs.Refusals.{is_unbuffered}
use Rattle.py_flat.specs.BinaryStep.{IsFrontOf}
use Rattle.py_plain_text.specs.TextFile.{Front, TextSettings}
use Rattle.py_raw.specs.RawStream.{tells}
use Rattle.py_raw.proofs.Telling.{tells_still}
use Rattle.py_stream.specs.Buffer.{Buffer, WhereShown, flat_of}
use Rattle.py_held_text.specs.Held.{HeldView, base_of, base_behind, whole_of}
use Rattle.py_read_text.specs.Knowing.{StandsInside, KnowsTold, IsText}
use Rattle.py_read_text.specs.Owing.{begins}
use Rattle.py_read_text.specs.Reading.{Follows, Calls, GaveTold}
use Rattle.py_read_text.proofs.Following.{follows_room}
use Rattle.py_read_text.proofs.Spots.{spot_follows}
use Rattle.py_read_text.proofs.Knowing.{knows_follows, knows_part, knows_given, with_part, whole_part, without_front, given_none, front_given, has_given}

-- a text was put no further on than it goes on behind its front
pub begins_before : (front : Option Front) (at taken left : ℕ) → StandsInside front at taken left → begins front at ≤ at
begins_before None at taken left inside = omega arith
begins_before (Some front) at taken left inside = omega (arith, inside.behind)

-- what is in hand was looked at
pub text_follows : (buffer : Buffer) (old new : HeldView) (front : Option Front) (at taken : ℕ) (dirty : Bool) (settings : TextSettings) (Behind : List ℕ → Type 0) → Follows Behind old new → WhereShown buffer ((more : List ℕ) → IsFrontOf more (left_at (flat_of buffer).bytes buffer.place) → Behind more) → IsText buffer old front at taken dirty settings → IsText buffer new front at taken dirty settings
text_follows buffer old new front at taken dirty settings Behind follows may is = record {
  reads_by = λ reads. record { encoding = follows.settings.encoding ∙ (is.reads_by reads).encoding; handler = follows.settings.handler ∙ (is.reads_by reads).handler; newline = follows.settings.newline ∙ (is.reads_by reads).newline };
  asks = is.asks;
  buffered = is.buffered;
  kept = is.kept;
  owes = is.owes;
  ahead = is.ahead;
  stands = follows.stands ∙ is.stands;
  far = is.far;
  forth = omega (arith, is.forth, follows.forth);
  from = omega (arith, is.from, follows.base);
  few = omega (arith, is.forth, is.few, follows.forth, follows.few, begins_before front at taken old.front is.inside);
  has = follows.has is.has;
  inside = subst (StandsInside front at taken) (sym follows.front) is.inside;
  clean = is.clean;
  still = is.still;
  whole = λ none. ap (λ (xs : List ℕ). at + length xs) follows.whole ∙ is.whole none;
  told = λ told live reads. knows_follows settings (flat_of buffer).bytes buffer.place front at taken Behind old new follows (may told) (is.told told live reads);
}

-- the room changes nothing
in_room : (settings : TextSettings) (bytes : List ℕ) (far : ℕ) (front : Option Front) (at taken : ℕ) (held : HeldView) (room : ℕ) → KnowsTold settings bytes far front at taken held → KnowsTold settings bytes far front at taken (record held { room = room })
in_room settings bytes far front at taken held room told = record { item = told.item; stands = told.stands; given = told.given; count = told.count; within = told.within; left = told.left; shows = told.shows; sound = told.sound; whole = told.whole; spot = spot_follows settings bytes far at (λ more. ⊤) held (record held { room = room }) (follows_room (λ more. ⊤) held room) tt told.spot }

pub text_room : (buffer : Buffer) (held : HeldView) (front : Option Front) (at taken room : ℕ) (dirty : Bool) (settings : TextSettings) → IsText buffer held front at taken dirty settings → IsText buffer (record held { room = room }) front at taken dirty settings
text_room buffer held front at taken room dirty settings is = record {
  reads_by = λ reads. let by = is.reads_by reads in record { encoding = by.encoding; handler = by.handler; newline = by.newline };
  asks = is.asks;
  buffered = is.buffered;
  kept = is.kept;
  owes = is.owes;
  ahead = is.ahead;
  stands = is.stands;
  far = is.far;
  forth = is.forth;
  from = is.from;
  few = is.few;
  has = record { among = is.has.among; marked = is.has.marked };
  inside = is.inside;
  clean = is.clean;
  still = is.still;
  whole = is.whole;
  told = λ told live reads. in_room settings (flat_of buffer).bytes buffer.place front at taken held room (is.told told live reads);
}

-- a text that stood where its buffer stands, or whose buffer owed nothing, goes on so where no byte came
ahead_still : (at : ℕ) (before after : Buffer) → {waited faulted : Bool} → Calls before waited faulted after → after.place ≡ before.place → (at ≡ before.place) ⊎ ((before.owed.bytes ≡ []) × (before.can.readable ≡ true)) → (at ≡ after.place) ⊎ ((after.owed.bytes ≡ []) × (after.can.readable ≡ true))
ahead_still at before after reads place (inl there) = inl (there ∙ sym place)
ahead_still at before after reads place (inr none) = inr (reads.none none.0, ap (λ (abilities : Abilities). abilities.readable) reads.keeps.can ∙ none.1)

-- where bytes came nothing is owed
ahead_now : (at : ℕ) (before after : Buffer) → {waited faulted : Bool} → Calls before waited faulted after → before.can.readable ≡ true → (at ≡ before.place) ⊎ ((before.owed.bytes ≡ []) × (before.can.readable ≡ true)) → (after.place ≡ before.place) ⊎ (after.owed.bytes ≡ []) → (at ≡ after.place) ⊎ ((after.owed.bytes ≡ []) × (after.can.readable ≡ true))
ahead_now at before after reads can was (inl same) = ahead_still at before after reads same was
ahead_now at before after reads can was (inr none) = inr (none, ap (λ (abilities : Abilities). abilities.readable) reads.keeps.can ∙ can)

-- the buffer was read from, and no byte came
pub text_read_nothing : (before after : Buffer) (held : HeldView) (front : Option Front) (at taken : ℕ) (dirty : Bool) (settings : TextSettings) (waited faulted : Bool) → before.life ≡ life.Live → Calls before waited faulted after → after.place ≡ before.place → IsText before held front at taken dirty settings → IsText after held front at taken dirty settings
text_read_nothing before after held front at taken dirty settings waited faulted live reads place is = record {
  reads_by = λ can. is.reads_by (sym (ap (λ (abilities : Abilities). abilities.readable) reads.keeps.can) ∙ can);
  asks = is.asks;
  buffered = ap is_unbuffered reads.keeps.buffering ∙ is.buffered;
  kept = reads.keeps.exported ∙ is.kept;
  owes = reads.owes is.owes;
  ahead = ahead_still at before after reads place is.ahead;
  stands = is.stands ∙ sym place;
  far = reads.far;
  forth = is.forth;
  from = is.from;
  few = is.few;
  has = is.has;
  inside = is.inside;
  clean = is.clean;
  still = λ can. is.still (sym (ap (λ (abilities : Abilities). abilities.readable) reads.keeps.can) ∙ can);
  whole = λ none. is.whole none ∙ sym place;
  told = λ told lives can.
      let was : IsTrue (tells before.raw) = sym (tells_still before.raw after.raw reads.keeps.raw) ∙ told in
      let knows = is.told was live (sym (ap (λ (abilities : Abilities). abilities.readable) reads.keeps.can) ∙ can) in
      subst (λ (bytes : List ℕ). KnowsTold settings bytes after.place front at taken held) (sym (reads.bytes was)) (subst (λ (far : ℕ). KnowsTold settings (flat_of before).bytes far front at taken held) (sym place) knows);
}

-- bytes came, and were put behind those in hand
pub text_brought : (before after : Buffer) (held : HeldView) (part : List ℕ) (room : ℕ) (front : Option Front) (at taken : ℕ) (dirty : Bool) (settings : TextSettings) → before.life ≡ life.Live → before.can.readable ≡ true → Calls before false false after → after.place ≡ before.place + length part → WhereShown before (GaveTold before part) → IsText before held front at taken dirty settings → IsText after (with_part held part room) front at taken dirty settings
text_brought before after held part room front at taken dirty settings live reading reads place gave is = record {
  reads_by = λ can. let by = is.reads_by (sym (ap (λ (abilities : Abilities). abilities.readable) reads.keeps.can) ∙ can) in record { encoding = by.encoding; handler = by.handler; newline = by.newline };
  asks = is.asks;
  buffered = ap is_unbuffered reads.keeps.buffering ∙ is.buffered;
  kept = reads.keeps.exported ∙ is.kept;
  owes = reads.owes is.owes;
  ahead = ahead_now at before after reads reading is.ahead reads.first;
  stands = omega (arith, is.stands, place, length-append held.bytes part);
  far = reads.far;
  forth = is.forth;
  from = is.from;
  few = is.few;
  has = record { among = is.has.among; marked = is.has.marked };
  inside = is.inside;
  clean = is.clean;
  still = λ can. is.still (sym (ap (λ (abilities : Abilities). abilities.readable) reads.keeps.can) ∙ can);
  whole = λ none. omega (arith, is.whole none, place, ap length (whole_part held part), length-append (whole_of held) part);
  told = λ told lives can.
      let was : IsTrue (tells before.raw) = sym (tells_still before.raw after.raw reads.keeps.raw) ∙ told in
      let knows = is.told was live (sym (ap (λ (abilities : Abilities). abilities.readable) reads.keeps.can) ∙ can) in
      let forth : at ≤ before.place = omega (arith, is.forth, is.stands) in
      subst (λ (bytes : List ℕ). KnowsTold settings bytes after.place front at taken (with_part held part room)) (sym (reads.bytes was))
      (subst (λ (far : ℕ). KnowsTold settings (flat_of before).bytes far front at taken (with_part held part room)) (sym place) (knows_part settings (flat_of before).bytes before.place front at taken held part room forth (gave was).front knows));
}

-- the base only moves forth with what is given
from_given : (held : HeldView) (at count room : ℕ) → at ≤ base_of held → at ≤ base_of (without_front held count room)
from_given held at count room from = omega (arith, from, length-drop (base_behind count held.front held.given held.mark).passed held.back)

-- of what is left of a front some was given
given_inside : (front : Option Front) (at taken count left new : ℕ) → new ≡ left - count → StandsInside front at taken left → StandsInside front at (taken + count) new
given_inside None at taken count left new is inside = omega (arith, is, inside)
given_inside (Some front) at taken count left new is inside = record {
  behind = inside.behind;
  short = inside.short;
  skips = inside.skips;
  count = inside.count;
  few = inside.few;
  left_is = omega (arith, is, inside.left_is);
}

-- a text that isn't dirty once characters may have been asked for wasn't
pub clean_before : (dirty asks : Bool) → (dirty || asks) ≡ false → dirty ≡ false
clean_before true asks is = absurd (cc)
clean_before false asks is = refl

-- characters were given
pub text_given : (buffer : Buffer) (held : HeldView) (front : Option Front) (at taken count room : ℕ) (dirty now : Bool) (settings : TextSettings) → (now ≡ false → dirty ≡ false) → count ≤ length held.known → IsText buffer held front at taken dirty settings → IsText buffer (without_front held count room) front at (taken + count) now settings
text_given buffer held front at taken count room dirty now settings stays within is = record {
  reads_by = λ reads. let by = is.reads_by reads in record { encoding = by.encoding; handler = by.handler; newline = by.newline };
  asks = is.asks;
  buffered = is.buffered;
  kept = is.kept;
  owes = is.owes;
  ahead = is.ahead;
  stands = is.stands;
  far = is.far;
  forth = is.forth;
  from = from_given held at count room is.from;
  few = omega (arith, is.few, within, length-drop count held.known);
  has = has_given held count room within is.has;
  inside = given_inside front at taken count held.front (without_front held count room).front (front_given held count room is.has) is.inside;
  clean = λ none. is.clean (stays none);
  still = is.still;
  whole = λ none. ap (λ (xs : List ℕ). at + length xs) (given_none held count room (omega (arith, none))) ∙ is.whole (omega (arith, none));
  told = λ told live reads. knows_given settings (flat_of buffer).bytes buffer.place front at taken held count room within is.has (is.told told live reads);
}

pub given_so : (buffer : Buffer) (held new : HeldView) (front : Option Front) (at taken count : ℕ) (dirty now : Bool) (settings : TextSettings) → (now ≡ false → dirty ≡ false) → count ≤ length held.known → new ≡ without_front held count new.room → IsText buffer held front at taken dirty settings → IsText buffer new front at (taken + count) now settings
given_so buffer held new front at taken count dirty now settings stays within given is = subst (λ (own : HeldView). IsText buffer own front at (taken + count) now settings) (sym given) (text_given buffer held front at taken count new.room dirty now settings stays within is)

-- of a clean text, which has no front
pub clean_as : (buffer : Buffer) (held : HeldView) (front : Option Front) (at taken : ℕ) (dirty : Bool) (settings : TextSettings) → front ≡ None → taken ≡ 0 → dirty ≡ false → IsText buffer held None at 0 false settings → IsText buffer held front at taken dirty settings
clean_as buffer held front at taken dirty settings none zero clean is =
    subst (λ (own : Option Front). IsText buffer held own at taken dirty settings) (sym none)
    (subst (λ (own : ℕ). IsText buffer held None at own dirty settings) (sym zero)
    (subst (λ (own : Bool). IsText buffer held None at 0 own settings) (sym clean) is))
