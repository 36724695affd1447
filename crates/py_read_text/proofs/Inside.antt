-- A text that was put inside an item.
use Rattle.std.proofs.Common.{◌≡◌, ◌⊎◌, inl, inr, ℕ, zero, suc, ◌+◌, ◌-◌, ◌≤◌, pos, not, nat_eq, Bool, true, IsTrue, String, List, [], length, take, drop, Option, Some, refl, sym, ap, subst, ◌∙◌, arith}
use Rattle.std.proofs.lemmas.Bool.{false≢true}
use Rattle.std.proofs.lemmas.List.{length-drop}
use Rattle.std.proofs.Math.Seq.{take-append_seam}
use Rattle.std.specs.declared.alloc.Global.{Global}
use Rattle.py_flat.specs.declared.life.Life.TheVariants as life
use Rattle.py_flat.specs.FlatFile.{Abilities}
use Rattle.py_flat.specs.Bytes.{left_at}
use Rattle.py_flat.specs.BinaryStep.{IsFrontOf}
use Rattle.py_plain.specs.declared.encoding.Encoding.{Encoding}
use Rattle.py_plain.specs.declared.handler.Handler.{Handler}
use Rattle.py_plain.specs.Units.{Order, Unknown}
use Rattle.py_plain.specs.Handlers.{treatment, reads_texts}
use Rattle.py_plain.specs.Items.{Walk, walk_from, characters_of}
use Rattle.py_plain_text.specs.TextFile.{Front, TextSettings, TextFile, clean_at}
use Rattle.py_plain_text.specs.Cookie.{Cookie, order_of}
use Rattle.py_plain_text.specs.Landing.{Landed, start_of, fed_by, skipped_by, skips, place_inside}
use Rattle.py_plain_text.specs.Telling.{placed}
use Rattle.py_plain_text.specs.CookieLaws.{alone_at, IsFront, FrontStands, StandsInText}
use Rattle.py_plain_text.specs.TextExact.{after_landing}
use Rattle.py_plain_text.proofs.Inside.{landed}
use Rattle.py_plain_text.proofs.Standing.{opened_stands, seek_stands}
use Rattle.py_raw.specs.RawStream.{tells}
use Rattle.py_raw.proofs.Telling.{tells_still}
use Rattle.py_stream.specs.Buffer.{Buffer, flat_of}
use Rattle.py_blocks.specs.declared.fronts.TextFront.{TextFront}
use Rattle.py_codec.specs.Answers.{text_of}
use Rattle.py_text.specs.declared.coder.Coder.{Coder}
use Rattle.py_held_text.specs.Held.{HeldView, cleared}
use Rattle.py_held_text.proofs.Bases.{front-from}
use Rattle.py_read_text.specs.Knowing.{front_of, FrontIs, KnowsTold, IsText}
use Rattle.py_read_text.specs.Seeking.{Fits, LandsInside}
use Rattle.py_read_text.proofs.Placing.{cleared_so, text_cleared}
use Rattle.py_read_text.proofs.Beginning.{knows_front}

-- the front that a text is put behind
abbrev front_fed : Cookie → List ℕ → TextFront → Front
front_fed goal fed skipped = record { start = start_of goal; length = length fed; skipped = skipped.chars }

front_same : (encoding : Encoding) (handler : Handler) (goal : Cookie) (fed : List ℕ) (text : String Global) (skipped : TextFront) → Fits encoding handler goal fed text skipped → record { start = start_of goal; length = fed_by goal; skipped = skipped_by goal } ≡ front_fed goal fed skipped
front_same encoding handler goal fed text skipped fits = rw (fits.size, fits.skips) refl

skips_some : (goal : Cookie) → skips goal ≡ true → 1 ≤ skipped_by goal
skips_some goal some = by_count (skipped_by goal) some
  where
    by_count : (count : ℕ) → not (nat_eq count 0) ≡ true → 1 ≤ count
    by_count zero is = absurd (cc)
    by_count (suc count) is = omega arith

-- a text that stands behind it stands behind an item
front_is : (before : Buffer) (encoding : Encoding) (handler : Handler) (goal : Cookie) (text : String Global) (skipped : TextFront) (fed : List ℕ) (after : Buffer) (settings : TextSettings) → IsTrue (tells before.raw) → goal.dec_flags ≡ pos 0 → skips goal ≡ true → reads_texts handler ≡ true → settings.encoding ≡ encoding → settings.handler ≡ handler → LandsInside before encoding handler goal text skipped fed after → FrontIs settings (flat_of before).bytes (Some (front_fed goal fed skipped)) (start_of goal + length fed)
front_is before encoding handler goal text skipped fed after settings told flags some reads encoding_is handler_is lands file encoding_as handler_as bytes order there =
    let seen : TextFile = record file { can = before.can } in
    let own_handler : file.settings.handler ≡ handler = handler_as ∙ handler_is in
    let clean : TextFile = placed seen (clean_at 0 Unknown) in
    let restored = lands.restores told clean (encoding_as ∙ encoding_is) own_handler refl bytes in
    let stands = subst (λ (own : Landed). StandsInText (after_landing clean goal own).1) (landed clean goal some restored) (seek_stands clean (opened_stands seen (λ can. ap reads_texts own_handler ∙ reads) 0 Unknown) goal) in
    let front : IsFront (placed seen (place_inside goal)) (record { start = start_of goal; length = fed_by goal; skipped = skipped_by goal }) = stands.front in
    let walk : alone_at file (start_of goal) (fed_by goal) ≡ alone_at (placed seen (place_inside goal)) (start_of goal) (fed_by goal) = ap (λ (own : Order). walk_from file.settings.encoding (treatment file.settings.handler file.settings.encoding) true own (start_of goal) 0 (take (fed_by goal) (drop (start_of goal) file.bytes))) (order ∙ sym (ap order_of flags)) in
    subst (λ (own : Front). FrontStands file (Some own)) (front_same encoding handler goal fed text skipped lands.fits) (record {
      item = front.item;
      stands = record {
        some = front.stands.some;
        few = front.stands.few;
        within = front.stands.within;
        items = ap (λ (own : Walk). own.items) walk ∙ front.stands.items;
        ending = ap (λ (own : Walk). own.ending) walk ∙ front.stands.ending;
        whole = front.stands.whole;
      };
      skips = front.skips;
      behind = there ∙ ap (λ (count : ℕ). start_of goal + count) lands.fits.size;
    })

-- its characters past those skipped are known
front_read : (encoding : Encoding) (handler : Handler) (goal : Cookie) (text : String Global) (skipped : TextFront) (fed bytes : List ℕ) (settings : TextSettings) → settings.encoding ≡ encoding → settings.handler ≡ handler → IsFrontOf fed (left_at bytes (start_of goal)) → Fits encoding handler goal fed text skipped → front_of settings bytes (Some (front_fed goal fed skipped)) ≡ drop skipped.chars (text_of text)
front_read encoding handler goal text skipped fed bytes settings encoding_is handler_is front fits =
    let there : take (length fed) (left_at bytes (start_of goal)) ≡ fed = ap (take (length fed)) (sym front.1) ∙ take-append_seam fed front.0 in
    ap (drop skipped.chars)
    (ap (λ (own : List ℕ). characters_of (walk_from settings.encoding (treatment settings.handler settings.encoding) true Unknown (start_of goal) 0 own).items) there
    ∙ (ap (λ (own : Encoding). characters_of (walk_from own (treatment settings.handler own) true Unknown (start_of goal) 0 fed).items) encoding_is
    ∙ (ap (λ (own : Handler). characters_of (walk_from encoding (treatment own encoding) true Unknown (start_of goal) 0 fed).items) handler_is
    ∙ sym (fits.alone (start_of goal)))))

fed_reads : (before : Buffer) (fed : List ℕ) → 1 ≤ length fed → (fed ≡ []) ⊎ (before.can.readable ≡ true) → before.can.readable ≡ true
fed_reads before fed some (inl none) = absurd (omega (arith, some, ap length none))
fed_reads before fed some (inr reads) = reads

-- a text that was put behind an item, of which the characters past those skipped are known
pub text_inside : (before after : Buffer) (held : HeldView) (front : Option Front) (at taken : ℕ) (dirty : Bool) (settings : TextSettings) (goal : Cookie) (text : String Global) (skipped : TextFront) (fed : List ℕ) (room : ℕ) → IsText before held front at taken dirty settings → before.life ≡ life.Live → goal.dec_flags ≡ pos 0 → skips goal ≡ true → reads_texts held.handler ≡ true → LandsInside before held.encoding held.handler goal text skipped fed after → IsText after (record (cleared held (start_of goal + length fed) room) { known = drop skipped.chars (text_of text); front = length (drop skipped.chars (text_of text)) }) (Some (record { start = start_of goal; length = length fed; skipped = skipped.chars })) (start_of goal + length fed) 0 true settings
text_inside before after held front at taken dirty settings goal text skipped fed room is live flags some reads lands =
    let cs : List ℕ = drop skipped.chars (text_of text) in
    let place : ℕ = start_of goal + length fed in
    let there : place ≡ after.place = sym lands.stands.place in
    let was = text_cleared before after held front at taken dirty place room settings lands.calls.keeps (inl lands.stands.none) lands.calls.far there is in
    let readable = fed_reads before fed lands.fits.some lands.stands.reads in
    let by = is.reads_by readable in
    let left : length cs ≡ length (text_of text) - skipped.chars = length-drop skipped.chars (text_of text) in
    record {
      reads_by = λ can. record { encoding = by.encoding; handler = by.handler; newline = by.newline };
      asks = was.asks;
      buffered = was.buffered;
      kept = was.kept;
      owes = was.owes;
      ahead = was.ahead;
      stands = was.stands;
      far = was.far;
      forth = was.forth;
      from = was.from;
      few = omega (arith, left, lands.fits.most);
      has = record { among = omega arith; marked = tt };
      inside = record {
        behind = refl;
        short = lands.stands.few;
        skips = omega (arith, skips_some goal some, lands.fits.skips);
        count = length cs;
        few = omega (arith, left, lands.fits.front.within, lands.fits.most);
        left_is = omega arith;
      };
      clean = λ clean. absurd (cc);
      still = λ can. absurd (false≢true (sym can ∙ (ap (λ (abilities : Abilities). abilities.readable) lands.calls.keeps.can ∙ readable)));
      whole = was.whole;
      told = λ told lives can.
          let were : IsTrue (tells before.raw) = sym (tells_still before.raw after.raw lands.calls.keeps.raw) ∙ told in
          let bytes : List ℕ = (flat_of before).bytes in
          let knows = knows_front settings bytes place place room [] (Some (front_fed goal fed skipped)) cs (omega arith) refl (omega arith)
          (front_is before held.encoding held.handler goal text skipped fed after settings were flags some reads (sym by.encoding) (sym by.handler) lands)
          (front_read held.encoding held.handler goal text skipped fed bytes settings (sym by.encoding) (sym by.handler) (lands.stands.told were) lands.fits) in
          subst (λ (far : ℕ). KnowsTold settings (flat_of after).bytes far (Some (front_fed goal fed skipped)) place 0 (front-from (cleared held place room) cs)) there
          (subst (λ (own : List ℕ). KnowsTold settings own place (Some (front_fed goal fed skipped)) place 0 (front-from (cleared held place room) cs)) (sym (lands.calls.bytes were))
          (subst (λ (own : HeldView). KnowsTold settings bytes place (Some (front_fed goal fed skipped)) place 0 (front-from own cs)) (cleared_so held settings place room by) knows));
    }

-- the same of a text of which room was taken before, by the numbers that the call has
pub put_inside : (before after : Buffer) (held given new : HeldView) (front : Option Front) (at taken : ℕ) (dirty : Bool) (settings : TextSettings) (coder : Coder) (goal : Cookie) (text : String Global) (skipped : TextFront) (fed : List ℕ) (start size count : ℕ) → IsText before held front at taken dirty settings → before.life ≡ life.Live → goal.dec_flags ≡ pos 0 → skips goal ≡ true → reads_texts coder.errors ≡ true → coder.encoding ≡ held.encoding → coder.errors ≡ held.handler → LandsInside before coder.encoding coder.errors goal text skipped fed after → given ≡ record held { room = given.room } → start ≡ start_of goal → size ≡ length fed → count ≡ length fed → new ≡ record (cleared given (start + size) new.room) { known = drop skipped.chars (text_of text); front = length (drop skipped.chars (text_of text)) } → IsText after new (Some (record { start = start; length = count; skipped = skipped.chars })) (start + size) 0 true settings
put_inside before after held given new front at taken dirty settings coder goal text skipped fed start size count is live flags some reads encoding handler lands given_is start_is size_is count_is new_is =
    let cs : List ℕ = drop skipped.chars (text_of text) in
    let own = subst (λ (one : Encoding). LandsInside before one held.handler goal text skipped fed after) encoding (subst (λ (one : Handler). LandsInside before coder.encoding one goal text skipped fed after) handler lands) in
    let stands = text_inside before after held front at taken dirty settings goal text skipped fed new.room is live flags some (ap reads_texts (sym handler) ∙ reads) own in
    subst (λ (one : HeldView). IsText after one (Some (record { start = start; length = count; skipped = skipped.chars })) (start + size) 0 true settings) (sym (new_is ∙ ap (λ (one : HeldView). front-from (cleared one (start + size) new.room) cs) given_is))
    (subst (λ (one : ℕ). IsText after (front-from (cleared held (one + size) new.room) cs) (Some (record { start = one; length = count; skipped = skipped.chars })) (one + size) 0 true settings) (sym start_is)
    (subst (λ (one : ℕ). IsText after (front-from (cleared held (start_of goal + one) new.room) cs) (Some (record { start = start_of goal; length = count; skipped = skipped.chars })) (start_of goal + one) 0 true settings) (sym size_is)
    (subst (λ (one : ℕ). IsText after (front-from (cleared held (start_of goal + length fed) new.room) cs) (Some (record { start = start_of goal; length = one; skipped = skipped.chars })) (start_of goal + length fed) 0 true settings) (sym count_is) stands)))
