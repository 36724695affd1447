-- Where the plain text lands.
use Rattle.std.proofs.Common.{◌≡◌, ◌⊎◌, inl, inr, ℕ, ◌+◌, ◌-◌, ◌≤◌, pos, Bool, true, false, not, ◌&&◌, nat_eq, nat_lt, nat_le, List, [], ◌∷◌, length as len, drop, take, Some, None, encode_utf8_all, if◌then◌else◌, refl, sym, ap, ◌∙◌, arith}
use Rattle.std.proofs.lemmas.Bool.{cond-true, eq-eqb}
use Rattle.std.proofs.lemmas.Bool.Decides.{nat_tests}
use Rattle.std.proofs.lemmas.List.{length-drop}
use Rattle.std.proofs.Math.IntN.{nat_abs}
use Rattle.py_plain.specs.declared.encoding.Encoding.{Encoding}
use Rattle.py_plain.specs.declared.decoded.FirstItem.{FirstItem as Seen}
use Rattle.py_plain.specs.declared.decoded.FirstItem.TheVariants as seen
use Rattle.py_plain.specs.Units.{Order, Unknown}
use Rattle.py_plain.specs.Handlers.{Treatment, treatment}
use Rattle.py_plain.specs.Items.{Item, Walk, Ending, AtEnd, AtRange, AtCut, ends, FirstItem, Given, RefusedRange, Unfinished, first_item, used_behind, onto_walk, walk_from}
use Rattle.py_plain.specs.Decoding.{Gives}
use Rattle.py_plain.proofs.Walks.{walk-given}
use Rattle.py_plain_text.specs.declared.plain_place.PlainSettings.{PlainSettings}
use Rattle.py_plain_text.specs.declared.plain_place.PlainPlace.{PlainPlace}
use Rattle.py_plain_text.specs.TextFile.{TextFile}
use Rattle.py_plain_text.specs.Cookie.{Cookie, order_of}
use Rattle.py_plain_text.specs.Landing.{Stands, CantRestore, start_of, fed_by, skipped_by, skips, start_place, only_item, feeds_some, skips_within, fed_walk, is_restorable, place_inside, lands}
use Rattle.py_plain_text.specs.PlainCookies.{text_at}
use Rattle.py_plain_text.proofs.PlainItems.{gives_given}
use Rattle.py_plain_text.proofs.Short.{item_few}

-- One item.

-- the walk over some bytes by themselves
abbrev pub alone : PlainSettings → (last : Bool) → ℕ → List ℕ → Walk
alone settings last place bytes = walk_from settings.encoding (treatment settings.handler settings.encoding) last Unknown place 0 bytes

abbrev pub first_alone : PlainSettings → (last : Bool) → ℕ → List ℕ → FirstItem
first_alone settings last place bytes = first_item settings.encoding (treatment settings.handler settings.encoding) last Unknown place bytes

walk_none : (encoding : Encoding) (treat : Treatment) (last : Bool) (order : Order) (place : ℕ) (bytes : List ℕ) → len bytes ≡ 0 → walk_from encoding treat last order place 0 bytes ≡ ends order AtEnd
walk_none encoding treat last order place [] none = refl
walk_none encoding treat last order place (byte ∷ rest) none = absurd (omega (arith, none))

-- an item of all the bytes
pub only_whole : (settings : PlainSettings) (last : Bool) (place : ℕ) (bytes after : List ℕ) (used : ℕ) → 1 ≤ used → used ≡ len bytes → Gives (first_alone settings last place bytes) [] after (seen.Given used) → Some after ≡ only_item (len bytes) (alone settings last place bytes).items (alone settings last place bytes).ending
only_whole settings last place [] after used some all gives = absurd (omega (arith, some, all))
only_whole settings last place (byte ∷ rest) after used some all gives =
    let treat : Treatment = treatment settings.handler settings.encoding in
    let size : ℕ = len (byte ∷ rest) in
    let given = gives_given (first_alone settings last place (byte ∷ rest)) used [] after gives in
    let none : walk_from settings.encoding treat last Unknown (place + used) 0 (drop (used - 1) rest) ≡ ends Unknown AtEnd = walk_none settings.encoding treat last Unknown (place + used) (drop (used - 1) rest) (omega (arith, all, length-drop (used - 1) rest)) in
    let walked : alone settings last place (byte ∷ rest) ≡ onto_walk Unknown place (Given given.0 used) (ends Unknown AtEnd) =
    walk-given settings.encoding treat last Unknown place byte rest given.0 used some given.1
    ∙ ap (λ (w : Walk). onto_walk Unknown place (Given given.0 used) w) none in
    ap (λ (cs : List ℕ). Some cs) given.2
    ∙ sym (ap (λ (w : Walk). only_item size w.items w.ending) walked ∙ cond-true (nat_eq used size) (Some given.0) None (eq-eqb used size all))

only_more : (size : ℕ) (item : Item) (items : List Item) (ending : Ending) → nat_eq item.length size ≡ false → None ≡ only_item size (item ∷ items) ending
only_more size item [] AtEnd isnt = ap (λ (b : Bool). if b then Some item.characters else None) (sym isnt)
only_more size item [] (AtRange start end) isnt = refl
only_more size item [] (AtCut start) isnt = refl
only_more size item (more ∷ items) ending isnt = refl

not_all : (m n : ℕ) → (m ≡ n → ⊥) → nat_eq m n ≡ false
not_all m n isnt = grind (arith, nat_tests)

-- an item of some of the bytes
pub only_part : (settings : PlainSettings) (last : Bool) (place : ℕ) (bytes after : List ℕ) (used : ℕ) → 1 ≤ len bytes → 1 ≤ used → (used ≡ len bytes → ⊥) → Gives (first_alone settings last place bytes) [] after (seen.Given used) → None ≡ only_item (len bytes) (alone settings last place bytes).items (alone settings last place bytes).ending
only_part settings last place [] after used bytes some isnt gives = absurd (omega (arith, bytes))
only_part settings last place (byte ∷ rest) after used bytes some isnt gives =
    let treat : Treatment = treatment settings.handler settings.encoding in
    let size : ℕ = len (byte ∷ rest) in
    let given = gives_given (first_alone settings last place (byte ∷ rest)) used [] after gives in
    let behind : Walk = walk_from settings.encoding treat last Unknown (place + used) 0 (drop (used - 1) rest) in
    let item : Item = record { start = place; length = used; order = Unknown; characters = given.0 } in
    only_more size item behind.items behind.ending (not_all used size isnt)
    ∙ sym (ap (λ (w : Walk). only_item size w.items w.ending) (walk-given settings.encoding treat last Unknown place byte rest given.0 used some given.1))

begins_none : (settings : PlainSettings) (last : Bool) (place : ℕ) (bytes : List ℕ) (first : FirstItem) → first_alone settings last place bytes ≡ first → 1 ≤ len bytes → ((walk : Walk) → (onto_walk Unknown place first walk).items ≡ []) → None ≡ only_item (len bytes) (alone settings last place bytes).items (alone settings last place bytes).ending
begins_none settings last place [] first is some nothing = absurd (omega (arith, some))
begins_none settings last place (byte ∷ rest) first is some nothing =
    let treat : Treatment = treatment settings.handler settings.encoding in
    let here : FirstItem = first_alone settings last place (byte ∷ rest) in
    let behind : Walk = walk_from settings.encoding treat last Unknown (place + 1) (used_behind here) rest in
    let none : (onto_walk Unknown place here behind).items ≡ [] = ap (λ (f : FirstItem). (onto_walk Unknown place f behind).items) is ∙ nothing behind in
    sym (ap (λ (items : List Item). only_item (len (byte ∷ rest)) items (onto_walk Unknown place here behind).ending) none)

first_none : (settings : PlainSettings) (last : Bool) (place : ℕ) (bytes after : List ℕ) (came : Seen) (first : FirstItem) → first_alone settings last place bytes ≡ first → 1 ≤ len bytes → Gives first [] after came → ((size : ℕ) × (came ≡ seen.RefusedRange size)) ⊎ (came ≡ seen.Unfinished) → None ≡ only_item (len bytes) (alone settings last place bytes).items (alone settings last place bytes).ending
first_none settings last place bytes after came (Given characters used) is some gives (inl range) = let both : seen.Given used ≡ seen.RefusedRange range.0 = sym gives.1 ∙ range.1 in absurd (cc)
first_none settings last place bytes after came (Given characters used) is some gives (inr cut) = let both : seen.Given used ≡ seen.Unfinished = sym gives.1 ∙ cut in absurd (cc)
first_none settings last place bytes after came (RefusedRange size) is some gives kind = begins_none settings last place bytes (RefusedRange size) is some (λ walk. refl)
first_none settings last place bytes after came Unfinished is some gives kind = begins_none settings last place bytes Unfinished is some (λ walk. refl)

-- no item
pub only_none : (settings : PlainSettings) (last : Bool) (place : ℕ) (bytes after : List ℕ) (came : Seen) → 1 ≤ len bytes → Gives (first_alone settings last place bytes) [] after came → ((size : ℕ) × (came ≡ seen.RefusedRange size)) ⊎ (came ≡ seen.Unfinished) → None ≡ only_item (len bytes) (alone settings last place bytes).items (alone settings last place bytes).ending
only_none settings last place bytes after came some gives kind = first_none settings last place bytes after came (first_alone settings last place bytes) refl some gives kind

-- it has few characters
pub only_few : (settings : PlainSettings) (last : Bool) (place : ℕ) (bytes after : List ℕ) (used : ℕ) → Gives (first_alone settings last place bytes) [] after (seen.Given used) → len after ≤ 1040
only_few settings last place bytes after used gives =
    let given = gives_given (first_alone settings last place bytes) used [] after gives in
    omega (arith, ap len given.2, (item_few settings.handler settings.encoding last Unknown place bytes given.0 used given.1).characters)

-- A cookie that skips.

-- what its bytes decode to
pub fed_alone : (settings : PlainSettings) (bytes : List ℕ) (place : PlainPlace) (cookie : Cookie) (slice : List ℕ) → cookie.dec_flags ≡ pos 0 → slice ≡ take (fed_by cookie) (drop (start_of cookie) bytes) → fed_walk (text_at bytes settings place) cookie ≡ alone settings cookie.need_eof (start_of cookie) slice
fed_alone settings bytes place cookie slice flags same =
    let treat : Treatment = treatment settings.handler settings.encoding in
    ap (λ (o : Order). walk_from settings.encoding treat cookie.need_eof o (start_of cookie) 0 (take (fed_by cookie) (drop (start_of cookie) bytes))) (ap order_of flags)
    ∙ ap (λ (bs : List ℕ). alone settings cookie.need_eof (start_of cookie) bs) (sym same)

pub restorable_is : (settings : PlainSettings) (bytes : List ℕ) (place : PlainPlace) (cookie : Cookie) (slice characters : List ℕ) (within : Bool) → cookie.dec_flags ≡ pos 0 → slice ≡ take (fed_by cookie) (drop (start_of cookie) bytes) → len slice ≡ fed_by cookie → feeds_some (text_at bytes settings place) cookie ≡ true → Some characters ≡ only_item (len slice) (alone settings cookie.need_eof (start_of cookie) slice).items (alone settings cookie.need_eof (start_of cookie) slice).ending → within ≡ skips_within cookie (Some characters) → within ≡ is_restorable (text_at bytes settings place) cookie
restorable_is settings bytes place cookie slice characters within flags same size feeds only is =
    let file : TextFile = text_at bytes settings place in
    let walk : Walk = alone settings cookie.need_eof (start_of cookie) slice in
    let one : only_item (fed_by cookie) (fed_walk file cookie).items (fed_walk file cookie).ending ≡ Some characters =
    ap (λ (w : Walk). only_item (fed_by cookie) w.items w.ending) (fed_alone settings bytes place cookie slice flags same)
    ∙ (ap (λ (n : ℕ). only_item n walk.items walk.ending) (sym size) ∙ sym only) in
    is ∙ sym (ap (λ (b : Bool). b && skips_within cookie (only_item (fed_by cookie) (fed_walk file cookie).items (fed_walk file cookie).ending)) feeds ∙ ap (skips_within cookie) one)

-- where it can't be restored
pub cant_restore : (file : TextFile) (cookie : Cookie) → skips cookie ≡ true → is_restorable file cookie ≡ false → lands file cookie ≡ CantRestore (start_place cookie)
cant_restore file cookie skipped isnt =
    ap (λ (b : Bool). if not b then Stands (start_place cookie) else if is_restorable file cookie then Stands (place_inside cookie) else CantRestore (start_place cookie)) skipped
    ∙ ap (λ (b : Bool). if b then Stands (place_inside cookie) else CantRestore (start_place cookie)) isnt

pub skips_some : (cookie : Cookie) (skipped : ℕ) → skipped ≡ skipped_by cookie → (skipped ≡ 0 → ⊥) → skips cookie ≡ true
skips_some cookie skipped is some = ap not (not_all (skipped_by cookie) 0 (λ none. some (is ∙ none)))

-- a place inside an item, by its numbers
pub place_is : (cookie : Cookie) (start length skipped : ℕ) → cookie.dec_flags ≡ pos 0 → start ≡ start_of cookie → length ≡ fed_by cookie → skipped ≡ skipped_by cookie → place_inside cookie ≡ record { front = Some (record { start = start; length = length; skipped = skipped }); at = start + length; order = Unknown; taken = 0; dirty = true }
place_is cookie start length skipped flags one two three = rw (flags, one, two, three) refl

pub feeds_is : (settings : PlainSettings) (bytes : List ℕ) (place : PlainPlace) (cookie : Cookie) (start fed : ℕ) → start ≡ start_of cookie → fed ≡ fed_by cookie → (nat_le 1 fed && (nat_le fed 4 && nat_eq (len (take fed (drop start bytes))) fed)) ≡ true → feeds_some (text_at bytes settings place) cookie ≡ true
feeds_is settings bytes place cookie start fed one two is =
    ap (λ (n : ℕ). nat_le 1 n && (nat_le n 4 && nat_eq (len (take n (drop (start_of cookie) bytes))) n)) (sym two)
    ∙ (ap (λ (n : ℕ). nat_le 1 fed && (nat_le fed 4 && nat_eq (len (take fed (drop n bytes))) fed)) (sym one) ∙ is)

pub skips_is : (cookie : Cookie) (now characters : List ℕ) (skipped size : ℕ) (result : Bool) → result ≡ (nat_lt skipped (len now) && nat_eq (len (encode_utf8_all (take skipped now))) size) → now ≡ characters → skipped ≡ skipped_by cookie → size ≡ nat_abs cookie.bytes_to_skip → result ≡ skips_within cookie (Some characters)
skips_is cookie now characters skipped size result is one two three =
    is
    ∙ (ap (λ (cs : List ℕ). nat_lt skipped (len cs) && nat_eq (len (encode_utf8_all (take skipped cs))) size) one
    ∙ (ap (λ (n : ℕ). nat_lt n (len characters) && nat_eq (len (encode_utf8_all (take n characters))) size) two
    ∙ ap (λ (n : ℕ). nat_lt (skipped_by cookie) (len characters) && nat_eq (len (encode_utf8_all (take (skipped_by cookie) characters))) n) three))

-- the bytes fed, as the program cuts them out
pub slice_is : (bytes : List ℕ) (cookie : Cookie) (start fed : ℕ) → start ≡ start_of cookie → fed ≡ fed_by cookie → take ((start + fed) - start) (drop start bytes) ≡ take (fed_by cookie) (drop (start_of cookie) bytes)
slice_is bytes cookie start fed one two =
    ap (λ (n : ℕ). take n (drop start bytes)) (omega (arith, two))
    ∙ ap (λ (n : ℕ). take (fed_by cookie) (drop n bytes)) one
