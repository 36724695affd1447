-- One item of some bytes after the other, as the program walks them.
use Rattle.std.proofs.Common.{◌≡◌, ℕ, zero, suc, ◌+◌, ◌-◌, ◌<◌, ◌≤◌, Bool, true, false, ◌&&◌, nat_eq, nat_lt, if◌then◌else◌, List, [], ◌∷◌, length as len, drop, refl, sym, ap, ◌∙◌, arith}
use Rattle.std.proofs.lemmas.Bool.{lt-ltb, le-ltb, eq-eqb, cond-true, cond-false}
use Rattle.std.proofs.lemmas.Bool.Decides.{nat_tests}
use Rattle.std.proofs.lemmas.List.{length-drop, drop-drop}
use Rattle.py_flat.specs.Lines.{lf, cr}
use Rattle.py_plain.specs.declared.encoding.Encoding.{Encoding}
use Rattle.py_plain.specs.declared.handler.Handler.{Handler}
use Rattle.py_plain.specs.declared.newlines.Newlines.{Newlines}
use Rattle.py_plain.specs.Units.{Order, Unknown}
use Rattle.py_plain.specs.Handlers.{Treatment, treatment}
use Rattle.py_plain.specs.Items.{Item, AtEnd, Walk, ends, FirstItem, Given, RefusedRange, Unfinished, first_item, onto_walk}
use Rattle.py_plain.specs.NewlineRule.{ends_held}
use Rattle.py_plain.specs.Pieces.{walk_at}
use Rattle.py_plain.proofs.Walks.{walk-given}
use Rattle.py_telling.specs.declared.seen_item.SeenItem.TheVariants as seen
use Rattle.py_telling.specs.Seen.{HaveNoLineEnd, StandFor, Shows}
use Rattle.py_telling.proofs.Counting.{none_and}
use Rattle.py_telling.specs.Spots.{Spot, at_byte, is_universal, holds, adds, lf_in, behind_lf, spot_behind, items_from}

-- The items from one of the bytes on.

pub step_by : (encoding : Encoding) (treat : Treatment) (last : Bool) (order : Order) (place : ℕ) (bytes cs : List ℕ) (used : ℕ) → 0 < len bytes → 1 ≤ used → first_item encoding treat last order place bytes ≡ Given cs used → walk_at encoding treat last order place bytes ≡ onto_walk order place (Given cs used) (walk_at encoding treat last order (place + used) (drop used bytes))
step_by encoding treat last order place [] cs used inside some is = absurd (omega (arith, inside))
step_by encoding treat last order place (byte ∷ rest) cs zero inside some is = absurd (omega (arith, some))
step_by encoding treat last order place (byte ∷ rest) cs (suc used) inside some is =
    let one : suc used - 1 ≡ used = omega arith in
    walk-given encoding treat last order place byte rest cs (suc used) some is
    ∙ ap (λ (k : ℕ). onto_walk order place (Given cs (suc used)) (walk_at encoding treat last order (place + suc used) (drop k rest))) one

-- an item that is read at a place
abbrev pub item_at : ℕ → List ℕ → ℕ → Item
item_at place cs used = record { start = place; length = used; order = Unknown; characters = cs }

pub items_step : (encoding : Encoding) (handler : Handler) (last : Bool) (place at : ℕ) (bytes cs : List ℕ) (used : ℕ) → at < len bytes → 1 ≤ used → first_item encoding (treatment handler encoding) last Unknown (place + at) (drop at bytes) ≡ Given cs used → items_from encoding handler last place at bytes ≡ item_at (place + at) cs used ∷ items_from encoding handler last place (at + used) bytes
items_step encoding handler last place at bytes cs used inside some is =
    let treat : Treatment = treatment handler encoding in
    let far : place + at + used ≡ place + (at + used) = omega arith in
    let behind : drop used (drop at bytes) ≡ drop (at + used) bytes = drop-drop used at bytes ∙ ap (λ (k : ℕ). drop k bytes) (omega arith) in
    ap (λ (w : Walk). w.items) (step_by encoding treat last Unknown (place + at) (drop at bytes) cs used (omega (arith, inside, length-drop at bytes)) some is)
    ∙ (ap (λ (p : ℕ). item_at (place + at) cs used ∷ (walk_at encoding treat last Unknown p (drop used (drop at bytes))).items) far
    ∙ ap (λ (bs : List ℕ). item_at (place + at) cs used ∷ (walk_at encoding treat last Unknown (place + (at + used)) bs).items) behind)

pub none_left : (encoding : Encoding) (treat : Treatment) (last : Bool) (order : Order) (place : ℕ) (bytes : List ℕ) → len bytes ≡ 0 → walk_at encoding treat last order place bytes ≡ ends order AtEnd
none_left encoding treat last order place [] none = refl
none_left encoding treat last order place (byte ∷ rest) none = absurd (omega (arith, none))

pub items_past : (encoding : Encoding) (handler : Handler) (last : Bool) (place at : ℕ) (bytes : List ℕ) → len bytes ≤ at → items_from encoding handler last place at bytes ≡ []
items_past encoding handler last place at bytes past = ap (λ (w : Walk). w.items) (none_left encoding (treatment handler encoding) last Unknown (place + at) (drop at bytes) (omega (arith, past, length-drop at bytes)))

-- what ends a walk
abbrev pub IsNoItem : FirstItem → Type 0
IsNoItem (Given characters used) = ⊥
IsNoItem first = Unit {0}

no_item : (order : Order) (place : ℕ) (first : FirstItem) (walk : Walk) → IsNoItem first → (onto_walk order place first walk).items ≡ []
no_item order place (Given characters used) walk none = absurd none
no_item order place (RefusedRange size) walk none = refl
no_item order place Unfinished walk none = refl

pub ended_by : (encoding : Encoding) (treat : Treatment) (last : Bool) (order : Order) (place : ℕ) (bytes : List ℕ) → IsNoItem (first_item encoding treat last order place bytes) → (walk_at encoding treat last order place bytes).items ≡ []
ended_by encoding treat last order place [] none = refl
ended_by encoding treat last order place (byte ∷ rest) none = no_item order place (first_item encoding treat last order place (byte ∷ rest)) _ none

-- What is seen.

pub seen_character : (first : FirstItem) (c used : ℕ) → Shows first (seen.Character c used) → first ≡ Given (c ∷ []) used
seen_character (Given characters size) c used shows = rw (shows.0, shows.1) refl
seen_character (RefusedRange size) c used shows = absurd shows
seen_character Unfinished c used shows = absurd shows

-- characters that stand for a range
pub record Stands (first : FirstItem) (count used : ℕ) : Type 0 where
  pub characters : List ℕ
  pub is : first ≡ Given characters used
  pub stand : StandFor count characters

pub seen_replaced : (first : FirstItem) (count used : ℕ) → Shows first (seen.Replaced count used) → Stands first count used
seen_replaced (Given characters size) count used shows = record { characters = characters; is = ap (Given characters) shows.1; stand = shows.0 }
seen_replaced (RefusedRange size) count used shows = absurd shows
seen_replaced Unfinished count used shows = absurd shows

pub seen_refused : (first : FirstItem) → Shows first seen.Refused → IsNoItem first
seen_refused (Given characters size) shows = absurd shows
seen_refused (RefusedRange size) shows = tt
seen_refused Unfinished shows = absurd shows

pub seen_unfinished : (first : FirstItem) → Shows first seen.Unfinished → IsNoItem first
seen_unfinished (Given characters size) shows = absurd shows
seen_unfinished (RefusedRange size) shows = absurd shows
seen_unfinished Unfinished shows = tt

-- what comes first of some bytes, from one of them on
abbrev pub first_from : Encoding → Handler → Bool → (place at : ℕ) → List ℕ → FirstItem
first_from encoding handler last place at bytes = first_item encoding (treatment handler encoding) last Unknown (place + at) (drop at bytes)

pub items_ended : (encoding : Encoding) (handler : Handler) (last : Bool) (place at : ℕ) (bytes : List ℕ) → IsNoItem (first_from encoding handler last place at bytes) → items_from encoding handler last place at bytes ≡ []
items_ended encoding handler last place at bytes none = ended_by encoding (treatment handler encoding) last Unknown (place + at) (drop at bytes) none

pub nothing : (cs : List ℕ) → len cs ≡ 0 → cs ≡ []
nothing [] none = refl
nothing (c ∷ cs) none = absurd (omega (arith, none))

-- The LF behind a CR.

-- an item that gives none is passed
pub lf_passed : (encoding : Encoding) (handler : Handler) (last : Bool) (here place at : ℕ) (bytes : List ℕ) (count used : ℕ) → at < len bytes → 1 ≤ used → count ≡ 0 → Shows (first_from encoding handler last place at bytes) (seen.Replaced count used) → behind_lf here (items_from encoding handler last place (at + used) bytes) ≡ behind_lf here (items_from encoding handler last place at bytes)
lf_passed encoding handler last here place at bytes count used inside some empty shows =
    let stands = seen_replaced (first_from encoding handler last place at bytes) count used shows in
    let none : stands.characters ≡ [] = nothing stands.characters (stands.stand.long ∙ empty) in
    sym (
    ap (behind_lf here) (items_step encoding handler last place at bytes stands.characters used inside some stands.is)
    ∙ ap (λ (cs : List ℕ). lf_in here (place + at + used) cs (behind_lf here (items_from encoding handler last place (at + used) bytes))) none)

pub lf_found : (encoding : Encoding) (handler : Handler) (last : Bool) (here place at : ℕ) (bytes : List ℕ) (c used : ℕ) → at < len bytes → 1 ≤ used → c ≡ lf → Shows (first_from encoding handler last place at bytes) (seen.Character c used) → behind_lf here (items_from encoding handler last place at bytes) ≡ place + (at + used)
lf_found encoding handler last here place at bytes c used inside some is shows =
    ap (behind_lf here) (items_step encoding handler last place at bytes (c ∷ []) used inside some (seen_character (first_from encoding handler last place at bytes) c used shows))
    ∙ (cond-true (nat_eq c lf) (place + at + used) here (eq-eqb c lf is)
    ∙ omega arith)

pub lf_missed : (encoding : Encoding) (handler : Handler) (last : Bool) (here place at : ℕ) (bytes : List ℕ) (c used : ℕ) → at < len bytes → 1 ≤ used → (c ≡ lf → ⊥) → Shows (first_from encoding handler last place at bytes) (seen.Character c used) → behind_lf here (items_from encoding handler last place at bytes) ≡ here
lf_missed encoding handler last here place at bytes c used inside some isnt shows =
    let other : nat_eq c lf ≡ false = grind (arith, nat_tests) in
    ap (behind_lf here) (items_step encoding handler last place at bytes (c ∷ []) used inside some (seen_character (first_from encoding handler last place at bytes) c used shows))
    ∙ cond-false (nat_eq c lf) (place + at + used) here other

other_first : (here end behind : ℕ) (cs : List ℕ) → HaveNoLineEnd cs → 1 ≤ len cs → lf_in here end cs behind ≡ here
other_first here end behind [] unbroken some = absurd (omega (arith, some))
other_first here end behind (c ∷ cs) unbroken some =
    let isnt = unbroken.0 in
    let other : nat_eq c lf ≡ false = grind (arith, nat_tests) in
    cond-false (nat_eq c lf) end here other

pub lf_replaced : (encoding : Encoding) (handler : Handler) (last : Bool) (here place at : ℕ) (bytes : List ℕ) (count used : ℕ) → at < len bytes → 1 ≤ used → 1 ≤ count → Shows (first_from encoding handler last place at bytes) (seen.Replaced count used) → behind_lf here (items_from encoding handler last place at bytes) ≡ here
lf_replaced encoding handler last here place at bytes count used inside some more shows =
    let stands = seen_replaced (first_from encoding handler last place at bytes) count used shows in
    ap (behind_lf here) (items_step encoding handler last place at bytes stands.characters used inside some stands.is)
    ∙ other_first here (place + at + used) (behind_lf here (items_from encoding handler last place (at + used) bytes)) stands.characters stands.stand.unbroken (omega (arith, more, stands.stand.long))

pub lf_ended : (encoding : Encoding) (handler : Handler) (last : Bool) (here place at : ℕ) (bytes : List ℕ) → IsNoItem (first_from encoding handler last place at bytes) → behind_lf here (items_from encoding handler last place at bytes) ≡ here
lf_ended encoding handler last here place at bytes none = ap (behind_lf here) (items_ended encoding handler last place at bytes none)

-- The spot.

-- by an item that doesn't reach so far
pub spot_step : (newline : Newlines) (left : ℕ) (held : Bool) (here : ℕ) (item : Item) (items : List Item) → 1 ≤ left → adds held item.characters ≤ left → spot_behind newline left held here (item ∷ items) ≡ spot_behind newline (left - adds held item.characters) (holds newline held item.characters) (item.start + item.length) items
spot_step newline left held here item items some within =
    let isnt : nat_eq left 0 ≡ false = grind (arith, nat_tests) in
    let inside : Spot = record { start = item.start; length = item.length; skipped = left } in
    let behind : Spot = spot_behind newline (left - adds held item.characters) (holds newline held item.characters) (item.start + item.length) items in
    cond-false (nat_eq left 0) (at_byte (if held then behind_lf here (item ∷ items) else here)) (if nat_lt left (adds held item.characters) then inside else behind) isnt
    ∙ cond-false (nat_lt left (adds held item.characters)) inside behind (le-ltb left (adds held item.characters) within)

pub spot_inside : (newline : Newlines) (left : ℕ) (held : Bool) (here : ℕ) (item : Item) (items : List Item) → 1 ≤ left → left < adds held item.characters → spot_behind newline left held here (item ∷ items) ≡ record { start = item.start; length = item.length; skipped = left }
spot_inside newline left held here item items some less =
    let isnt : nat_eq left 0 ≡ false = grind (arith, nat_tests) in
    let inside : Spot = record { start = item.start; length = item.length; skipped = left } in
    let behind : Spot = spot_behind newline (left - adds held item.characters) (holds newline held item.characters) (item.start + item.length) items in
    cond-false (nat_eq left 0) (at_byte (if held then behind_lf here (item ∷ items) else here)) (if nat_lt left (adds held item.characters) then inside else behind) isnt
    ∙ cond-true (nat_lt left (adds held item.characters)) inside behind (lt-ltb left (adds held item.characters) less)

-- a character
pub spot_character : (encoding : Encoding) (handler : Handler) (newline : Newlines) (last : Bool) (place at : ℕ) (bytes : List ℕ) (left : ℕ) (held : Bool) (c used : ℕ) → at < len bytes → 1 ≤ used → 1 ≤ left → Shows (first_from encoding handler last place at bytes) (seen.Character c used) → spot_behind newline (left - adds held (c ∷ [])) (holds newline held (c ∷ [])) (place + (at + used)) (items_from encoding handler last place (at + used) bytes) ≡ spot_behind newline left held (place + at) (items_from encoding handler last place at bytes)
spot_character encoding handler newline last place at bytes left held c used inside some more shows =
    let item : Item = item_at (place + at) (c ∷ []) used in
    let items : List Item = items_from encoding handler last place (at + used) bytes in
    let far : place + at + used ≡ place + (at + used) = omega arith in
    sym (
    ap (spot_behind newline left held (place + at)) (items_step encoding handler last place at bytes (c ∷ []) used inside some (seen_character (first_from encoding handler last place at bytes) c used shows))
    ∙ (spot_step newline left held (place + at) item items more (omega (arith, more))
    ∙ ap (λ (p : ℕ). spot_behind newline (left - adds held (c ∷ [])) (holds newline held (c ∷ [])) p items) far))

-- characters of which none is a line end
pub adds_all : (held : Bool) (cs : List ℕ) → HaveNoLineEnd cs → adds held cs ≡ len cs
adds_all held [] unbroken = omega arith
adds_all true (c ∷ cs) unbroken =
    let isnt = unbroken.0 in
    let other : nat_eq c lf ≡ false = grind (arith, nat_tests) in
    ap (λ (b : Bool). suc (len cs) - (if b then 1 else 0)) other ∙ omega arith
adds_all false (c ∷ cs) unbroken = omega arith

ends_unheld : (cs : List ℕ) → HaveNoLineEnd cs → ends_held false cs ≡ false
ends_unheld [] unbroken = refl
ends_unheld (c ∷ cs) unbroken =
    let isnt = unbroken.1 in
    let other : nat_eq c cr ≡ false = grind (arith, nat_tests) in
    ap (λ (b : Bool). ends_held b cs) other ∙ ends_unheld cs unbroken.2

all_and : (a b : Bool) → b ≡ true → (a && b) ≡ a
all_and true b all = all
all_and false b all = refl

pub holds_none : (newline : Newlines) (held : Bool) (count : ℕ) (cs : List ℕ) → len cs ≡ count → HaveNoLineEnd cs → holds newline held cs ≡ (held && nat_eq count 0)
holds_none newline held count [] long unbroken =
    let is : nat_eq count 0 ≡ true = eq-eqb count 0 (sym long) in
    sym (all_and held (nat_eq count 0) is)
holds_none newline held count (c ∷ cs) long unbroken =
    let isnt : nat_eq count 0 ≡ false = grind (arith, nat_tests) in
    none_and (is_universal newline) (ends_held false (c ∷ cs)) (ends_unheld (c ∷ cs) unbroken)
    ∙ sym (none_and held (nat_eq count 0) isnt)

-- a range whose characters are all given
pub spot_replaced : (encoding : Encoding) (handler : Handler) (newline : Newlines) (last : Bool) (place at : ℕ) (bytes : List ℕ) (left : ℕ) (held : Bool) (count used : ℕ) → at < len bytes → 1 ≤ used → 1 ≤ left → count ≤ left → Shows (first_from encoding handler last place at bytes) (seen.Replaced count used) → spot_behind newline (left - count) (held && nat_eq count 0) (place + (at + used)) (items_from encoding handler last place (at + used) bytes) ≡ spot_behind newline left held (place + at) (items_from encoding handler last place at bytes)
spot_replaced encoding handler newline last place at bytes left held count used inside some more within shows =
    let stands = seen_replaced (first_from encoding handler last place at bytes) count used shows in
    let cs : List ℕ = stands.characters in
    let items : List Item = items_from encoding handler last place (at + used) bytes in
    let far : place + at + used ≡ place + (at + used) = omega arith in
    let all : adds held cs ≡ count = adds_all held cs stands.stand.unbroken ∙ stands.stand.long in
    sym (
    ap (spot_behind newline left held (place + at)) (items_step encoding handler last place at bytes cs used inside some stands.is)
    ∙ (spot_step newline left held (place + at) (item_at (place + at) cs used) items more (omega (arith, all, within))
    ∙ (ap (λ (p : ℕ). spot_behind newline (left - adds held cs) (holds newline held cs) p items) far
    ∙ (ap (λ (n : ℕ). spot_behind newline (left - n) (holds newline held cs) (place + (at + used)) items) all
    ∙ ap (λ (b : Bool). spot_behind newline (left - count) b (place + (at + used)) items) (holds_none newline held count cs stands.stand.long stands.stand.unbroken)))))

-- a range inside of whose characters the spot is
pub spot_within : (encoding : Encoding) (handler : Handler) (newline : Newlines) (last : Bool) (place at : ℕ) (bytes : List ℕ) (left : ℕ) (held : Bool) (count used : ℕ) → at < len bytes → 1 ≤ used → 1 ≤ left → left < count → Shows (first_from encoding handler last place at bytes) (seen.Replaced count used) → record { start = place + at; length = used; skipped = left } ≡ spot_behind newline left held (place + at) (items_from encoding handler last place at bytes)
spot_within encoding handler newline last place at bytes left held count used inside some more less shows =
    let stands = seen_replaced (first_from encoding handler last place at bytes) count used shows in
    let cs : List ℕ = stands.characters in
    let items : List Item = items_from encoding handler last place (at + used) bytes in
    let all : adds held cs ≡ count = adds_all held cs stands.stand.unbroken ∙ stands.stand.long in
    sym (
    ap (spot_behind newline left held (place + at)) (items_step encoding handler last place at bytes cs used inside some stands.is)
    ∙ spot_inside newline left held (place + at) (item_at (place + at) cs used) items more (omega (arith, all, less)))

-- no item comes
pub spot_ended : (newline : Newlines) (left : ℕ) (held : Bool) (here : ℕ) (items : List Item) → items ≡ [] → at_byte here ≡ spot_behind newline left held here items
spot_ended newline left held here items none = sym (ap (spot_behind newline left held here) none)

same_way : (held : Bool) (here : ℕ) → at_byte here ≡ at_byte (if held then here else here)
same_way true here = refl
same_way false here = refl

-- all were given
pub spot_reached : (newline : Newlines) (left : ℕ) (held : Bool) (here : ℕ) (items : List Item) → left ≡ 0 → spot_behind newline left held here items ≡ at_byte (if held then behind_lf here items else here)
spot_reached newline left held here [] none = same_way held here
spot_reached newline left held here (item ∷ items) none =
    cond-true (nat_eq left 0) (at_byte (if held then behind_lf here (item ∷ items) else here)) (if nat_lt left (adds held item.characters) then record { start = item.start; length = item.length; skipped = left } else spot_behind newline (left - adds held item.characters) (holds newline held item.characters) (item.start + item.length) items) (eq-eqb left 0 none)
