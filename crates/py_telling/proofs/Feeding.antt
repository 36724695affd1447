-- The bytes that a cookie feeds, where they are one item.
use Rattle.std.proofs.Common.{◌≡◌, ℕ, zero, suc, ◌+◌, ◌<◌, ◌≤◌, Bool, true, false, nat_eq, List, [], ◌∷◌, length as len, drop, take, Option, Some, None, encode_utf8_all, refl, sym, ap, ◌∙◌, arith, append-nil}
use Rattle.std.proofs.lemmas.Bool.{eq-eqb, cond-true, cond-false}
use Rattle.std.proofs.lemmas.Bool.Decides.{nat_tests}
use Rattle.std.proofs.lemmas.List.{length-drop, length-take-le}
use Rattle.py_plain.specs.declared.encoding.Encoding.{Encoding}
use Rattle.py_plain.specs.declared.handler.Handler.{Handler}
use Rattle.py_plain.specs.Units.{Order}
use Rattle.py_plain.specs.Handlers.{Treatment, treatment, reads_texts}
use Rattle.py_plain.specs.Items.{Item, Ending, AtEnd, AtRange, AtCut, Walk, Given, characters_of, first_item, onto_walk}
use Rattle.py_plain.specs.Pieces.{walk_at}
use Rattle.py_plain.proofs.Looking.{reading}
use Rattle.py_plain_text.specs.Landing.{only_item}
use Rattle.py_plain_text.proofs.Standing.{only_back, final_by}
use Rattle.py_telling.specs.declared.seen_item.SeenItem.TheVariants as seen
use Rattle.py_telling.specs.Seen.{StandFor, Shows}
use Rattle.py_telling.specs.Restoring.{IsCount}
use Rattle.py_telling.proofs.Ranges.{ascii_encoded}
use Rattle.py_telling.proofs.Walking.{step_by, none_left, IsNoItem, ended_by, seen_character, seen_replaced}

-- One item.

-- the one item that some bytes are
abbrev one_in : Encoding → Handler → Bool → Order → ℕ → List ℕ → Option (List ℕ)
one_in encoding handler last order place bytes =
    let walk = walk_at encoding (treatment handler encoding) last order place bytes in
    only_item (len bytes) walk.items walk.ending

whole_one : (encoding : Encoding) (handler : Handler) (last : Bool) (order : Order) (place : ℕ) (bytes cs : List ℕ) (used : ℕ) → 1 ≤ used → used ≡ len bytes → first_item encoding (treatment handler encoding) last order place bytes ≡ Given cs used → one_in encoding handler last order place bytes ≡ Some cs
whole_one encoding handler last order place bytes cs used some whole is =
    let treat : Treatment = treatment handler encoding in
    ap (λ (w : Walk). only_item (len bytes) w.items w.ending)
    (step_by encoding treat last order place bytes cs used (omega (arith, some, whole)) some is
    ∙ ap (onto_walk order place (Given cs used)) (none_left encoding treat last order (place + used) (drop used bytes) (omega (arith, whole, length-drop used bytes))))
    ∙ cond-true (nat_eq used (len bytes)) (Some cs) None (eq-eqb used (len bytes) whole)

other_only : (size : ℕ) (item : Item) (items : List Item) (ending : Ending) → nat_eq item.length size ≡ false → only_item size (item ∷ items) ending ≡ None
other_only size item [] AtEnd isnt = cond-false (nat_eq item.length size) (Some item.characters) None isnt
other_only size item [] (AtRange start end) isnt = refl
other_only size item [] (AtCut start) isnt = refl
other_only size item (next ∷ items) ending isnt = refl

part_one : (encoding : Encoding) (handler : Handler) (last : Bool) (order : Order) (place : ℕ) (bytes cs : List ℕ) (used : ℕ) → 0 < len bytes → 1 ≤ used → (used ≡ len bytes → ⊥) → first_item encoding (treatment handler encoding) last order place bytes ≡ Given cs used → one_in encoding handler last order place bytes ≡ None
part_one encoding handler last order place bytes cs used inside some part is =
    let treat : Treatment = treatment handler encoding in
    let isnt : nat_eq used (len bytes) ≡ false = grind (arith, nat_tests) in
    let behind : Walk = walk_at encoding treat last order (place + used) (drop used bytes) in
    ap (λ (w : Walk). only_item (len bytes) w.items w.ending) (step_by encoding treat last order place bytes cs used inside some is)
    ∙ other_only (len bytes) (record { start = place; length = used; order = order; characters = cs }) behind.items behind.ending isnt

no_only : (size : ℕ) (ending : Ending) → only_item size [] ending ≡ None
no_only size ending = refl

-- How many characters it has.

first_skipped : (c skipped : ℕ) → skipped < 1 → len (encode_utf8_all (take skipped (c ∷ []))) ≡ skipped
first_skipped c zero less = refl
first_skipped c (suc skipped) less = absurd (omega (arith, less))

stand_skipped : (count skipped : ℕ) (cs : List ℕ) → StandFor count cs → skipped < count → len (encode_utf8_all (take skipped cs)) ≡ skipped
stand_skipped count zero cs stand less = refl
stand_skipped count (suc skipped) cs stand less =
    ascii_encoded (suc skipped) cs (stand.ascii (omega (arith, less))) ∙ length-take-le (suc skipped) cs (omega (arith, less, stand.long))

abbrev Counted : ℕ → Encoding → Handler → Bool → Order → ℕ → List ℕ → Type 0
Counted count encoding handler last order place bytes = IsCount count (one_in encoding handler last order place bytes)

pub count_character : (encoding : Encoding) (handler : Handler) (last : Bool) (order : Order) (place : ℕ) (bytes : List ℕ) (c used : ℕ) → 1 ≤ used → used ≡ len bytes → Shows (first_item encoding (treatment handler encoding) last order place bytes) (seen.Character c used) → Counted 1 encoding handler last order place bytes
count_character encoding handler last order place bytes c used some whole shows =
    rw (whole_one encoding handler last order place bytes (c ∷ []) used some whole (seen_character (first_item encoding (treatment handler encoding) last order place bytes) c used shows))
    (refl, first_skipped c)

pub count_replaced : (encoding : Encoding) (handler : Handler) (last : Bool) (order : Order) (place : ℕ) (bytes : List ℕ) (count used : ℕ) → 1 ≤ used → used ≡ len bytes → Shows (first_item encoding (treatment handler encoding) last order place bytes) (seen.Replaced count used) → Counted count encoding handler last order place bytes
count_replaced encoding handler last order place bytes count used some whole shows =
    let stands = seen_replaced (first_item encoding (treatment handler encoding) last order place bytes) count used shows in
    rw (whole_one encoding handler last order place bytes stands.characters used some whole stands.is)
    (stands.stand.long, λ skipped less. stand_skipped count skipped stands.characters stands.stand less)

pub count_part : (encoding : Encoding) (handler : Handler) (last : Bool) (order : Order) (place : ℕ) (bytes : List ℕ) (c used : ℕ) → 0 < len bytes → 1 ≤ used → (used ≡ len bytes → ⊥) → Shows (first_item encoding (treatment handler encoding) last order place bytes) (seen.Character c used) → Counted 0 encoding handler last order place bytes
count_part encoding handler last order place bytes c used inside some part shows =
    rw (part_one encoding handler last order place bytes (c ∷ []) used inside some part (seen_character (first_item encoding (treatment handler encoding) last order place bytes) c used shows)) refl

pub count_part_replaced : (encoding : Encoding) (handler : Handler) (last : Bool) (order : Order) (place : ℕ) (bytes : List ℕ) (count used : ℕ) → 0 < len bytes → 1 ≤ used → (used ≡ len bytes → ⊥) → Shows (first_item encoding (treatment handler encoding) last order place bytes) (seen.Replaced count used) → Counted 0 encoding handler last order place bytes
count_part_replaced encoding handler last order place bytes count used inside some part shows =
    let stands = seen_replaced (first_item encoding (treatment handler encoding) last order place bytes) count used shows in
    rw (part_one encoding handler last order place bytes stands.characters used inside some part stands.is) refl

pub count_none : (encoding : Encoding) (handler : Handler) (last : Bool) (order : Order) (place : ℕ) (bytes : List ℕ) → IsNoItem (first_item encoding (treatment handler encoding) last order place bytes) → Counted 0 encoding handler last order place bytes
count_none encoding handler last order place bytes none =
    let walk : Walk = walk_at encoding (treatment handler encoding) last order place bytes in
    let is : one_in encoding handler last order place bytes ≡ None = ap (λ (items : List Item). only_item (len bytes) items walk.ending) (ended_by encoding (treatment handler encoding) last order place bytes none) in
    rw is refl

-- Where nothing comes behind them.

-- an item of which fewer are skipped than it has
some_counted : (count skipped : ℕ) (characters : Option (List ℕ)) → IsCount count characters → skipped < count → (cs : List ℕ) × ((characters ≡ Some cs) × (skipped < len cs))
some_counted count skipped None none less = absurd (omega (arith, none, less))
some_counted count skipped (Some cs) counted less = (cs, (refl, omega (arith, less, counted.0)))

-- its characters are all that its walk has
within_one : (size skipped : ℕ) (item : Item) (cs : List ℕ) → item.length ≡ size → only_item size (item ∷ []) AtEnd ≡ Some cs → skipped < len cs → skipped < len (characters_of (item ∷ []))
within_one size skipped item cs whole is less =
    let same : Some item.characters ≡ Some cs = sym (cond-true (nat_eq item.length size) (Some item.characters) None (eq-eqb item.length size whole)) ∙ is in
    let characters : item.characters ≡ cs = cc in
    omega (arith, less, ap len characters, ap len (append-nil item.characters))

-- what is skipped of the one item that some bytes are lies within the characters that they are where nothing comes behind them
pub skipped_within : (encoding : Encoding) (handler : Handler) → reads_texts handler ≡ true → (last : Bool) (order : Order) (place : ℕ) (bytes : List ℕ) (count skipped : ℕ) → Counted count encoding handler last order place bytes → skipped < count → skipped < len (characters_of (walk_at encoding (treatment handler encoding) true order place bytes).items)
skipped_within encoding handler reads last order place bytes count skipped counted less =
    let treat : Treatment = treatment handler encoding in
    let walk : Walk = walk_at encoding treat last order place bytes in
    let some = some_counted count skipped (only_item (len bytes) walk.items walk.ending) counted less in
    let only = only_back (len bytes) walk.items walk.ending some.0 some.1.0 in
    let final = final_by encoding treat (reading handler encoding reads) last order place bytes (only.0 ∷ []) only.1.0 only.1.1 in
    let is : only_item (len bytes) (only.0 ∷ []) AtEnd ≡ Some some.0 =
    sym (ap (λ (items : List Item). only_item (len bytes) items walk.ending) only.1.0
    ∙ ap (only_item (len bytes) (only.0 ∷ [])) only.1.1)
    ∙ some.1.0 in
    let within = within_one (len bytes) skipped only.0 some.0 only.1.2 is some.1.1 in
    omega (arith, within, ap (λ (items : List Item). len (characters_of items)) final.items_are)
