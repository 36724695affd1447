-- A decoding in pieces is the decoding of the pieces joined.
use Rattle.std.proofs.Common.{◌≡◌, ℕ, zero, suc, ◌+◌, ◌-◌, ◌≤◌, Bool, true, false, nat_eq, List, [], ◌∷◌, ◌++◌, length as len, take, drop, Option, Some, None, IsSome, IfSome, refl, sym, ap, ◌∙◌, arith}
use Rattle.std.specs.List.{concat}
use Rattle.std.proofs.lemmas.List.{append_assoc, take-append-le}
use Rattle.py_plain.specs.declared.encoding.Encoding.{Encoding}
use Rattle.py_plain.specs.declared.unit.Unit.{Unit as Read}
use Rattle.py_plain.specs.declared.unit.Unit.TheVariants.{Character, Malformed, Cut}
use Rattle.py_plain.specs.Units.{Order, first_unit}
use Rattle.py_plain.specs.UnitLaws.{IsWithin}
use Rattle.py_plain.specs.Handlers.{Treatment, Handled, Replaced, Refuses}
use Rattle.py_plain.specs.Items.{Item, Ending, AtEnd, AtRange, AtCut, Walk, FirstItem, Given, RefusedRange, Unfinished, item_handled, item_of, first_item, used_behind, onto_walk, walk_from}
use Rattle.py_plain.specs.Pieces.{LooksAtRange, walk_at, items_before, place_behind, unused, unless_refused, in_two, in_pieces}
use Rattle.py_plain.proofs.AnyUnits.{unit_some, unit_within_any, StaysIf, stays}

-- How the decoding of a front goes on.

-- a decoding of a front, and then of what it left and the rest
abbrev on_from : Encoding → Treatment → Bool → ℕ → (front rest : List ℕ) → Walk → Walk
on_from encoding treat last place front rest walk = items_before walk.items (unless_refused walk.order walk.ending (walk_at encoding treat last walk.order (place_behind place front walk.ending) (unused place front walk.ending ++ rest)))

-- a cut sequence stands no earlier than some place
abbrev IsPast : ℕ → Ending → Type 0
IsPast place (AtCut start) = place ≤ start
IsPast place _ = Unit {0}

past_before : (place : ℕ) (ending : Ending) → IsPast (place + 1) ending → IsPast place ending
past_before place AtEnd past = tt
past_before place (AtRange start end) past = tt
past_before place (AtCut start) past = omega (arith, past)

past_onto : (order : Order) (place : ℕ) (first : FirstItem) (walk : Walk) → IsPast (place + 1) walk.ending → IsPast place (onto_walk order place first walk).ending
past_onto order place (Given characters used) walk past = past_before place walk.ending past
past_onto order place (RefusedRange size) walk past = tt
past_onto order place Unfinished walk past = omega arith

past : (encoding : Encoding) (treat : Treatment) (order : Order) (place skip : ℕ) (front : List ℕ) → IsPast place (walk_from encoding treat false order place skip front).ending
past encoding treat order place skip [] = tt
past encoding treat order place (suc skip) (byte ∷ tail) = past_before place _ (past encoding treat order (place + 1) skip tail)
past encoding treat order place zero (byte ∷ tail) =
    let first : FirstItem = first_item encoding treat false order place (byte ∷ tail) in
    past_onto order place first (walk_from encoding treat false order (place + 1) (used_behind first) tail) (past encoding treat order (place + 1) (used_behind first) tail)

-- after a byte more, the decoding goes on as it did
on_behind : (encoding : Encoding) (treat : Treatment) (last : Bool) (place byte : ℕ) (tail rest : List ℕ) (items : List Item) (order : Order) (ending : Ending) → IsPast (place + 1) ending → on_from encoding treat last place (byte ∷ tail) rest (record { items = items; order = order; ending = ending }) ≡ on_from encoding treat last (place + 1) tail rest (record { items = items; order = order; ending = ending })
on_behind encoding treat last place byte tail rest items order AtEnd past =
    let far : place + suc (len tail) ≡ place + 1 + len tail = omega arith in
    ap (λ (p : ℕ). items_before items (walk_at encoding treat last order p rest)) far
on_behind encoding treat last place byte tail rest items order (AtRange start end) past = refl
on_behind encoding treat last place byte tail rest items order (AtCut start) past =
    let far : start - place ≡ suc (start - (place + 1)) = omega (arith, past) in
    ap (λ (k : ℕ). items_before items (walk_at encoding treat last order start (drop k (byte ∷ tail) ++ rest))) far

-- The law of two pieces.

-- what is to be shown of a front after the first `skip` of its bytes
abbrev IsOne : Encoding → Treatment → Bool → Order → (front rest : List ℕ) → (place skip : ℕ) → Type 0
IsOne encoding treat last order front rest place skip = on_from encoding treat last place front rest (walk_from encoding treat false order place skip front) ≡ walk_from encoding treat last order place skip (front ++ rest)

-- a byte that is passed over
one_skipped : (encoding : Encoding) (treat : Treatment) (last : Bool) (order : Order) (place skip byte : ℕ) (tail rest : List ℕ) → IsOne encoding treat last order tail rest (place + 1) skip → on_from encoding treat last place (byte ∷ tail) rest (walk_from encoding treat false order (place + 1) skip tail) ≡ walk_from encoding treat last order (place + 1) skip (tail ++ rest)
one_skipped encoding treat last order place skip byte tail rest one =
    let walk : Walk = walk_from encoding treat false order (place + 1) skip tail in
    on_behind encoding treat last place byte tail rest walk.items walk.order walk.ending (past encoding treat order (place + 1) skip tail) ∙ one

-- the decoding of some bytes by the item that they begin with
abbrev begun : Encoding → Treatment → Bool → Order → ℕ → List ℕ → FirstItem → Walk
begun encoding treat last order place tail first = onto_walk order place first (walk_from encoding treat last order (place + 1) (used_behind first) tail)

one_given : (encoding : Encoding) (treat : Treatment) (last : Bool) (order : Order) (place byte : ℕ) (tail rest characters : List ℕ) (used : ℕ) → IsOne encoding treat last order tail rest (place + 1) (used - 1) → on_from encoding treat last place (byte ∷ tail) rest (begun encoding treat false order place tail (Given characters used)) ≡ begun encoding treat last order place (tail ++ rest) (Given characters used)
one_given encoding treat last order place byte tail rest characters used one =
    ap (onto_walk order place (Given characters used)) (one_skipped encoding treat last order place (used - 1) byte tail rest one)

one_handled : (encoding : Encoding) (treat : Treatment) (last : Bool) (order : Order) (place byte size : ℕ) (tail rest : List ℕ) (handled : Handled) → size ≤ suc (len tail) → ((characters : List ℕ) (used : ℕ) → handled ≡ Replaced characters used → used ≤ size) → ((skip : ℕ) → skip ≤ len tail → IsOne encoding treat last order tail rest (place + 1) skip) → on_from encoding treat last place (byte ∷ tail) rest (begun encoding treat false order place tail (item_handled size handled)) ≡ begun encoding treat last order place (tail ++ rest) (item_handled size handled)
one_handled encoding treat last order place byte size tail rest (Replaced characters used) fits within one =
    one_given encoding treat last order place byte tail rest characters used (one (used - 1) (omega (arith, within characters used refl)))
one_handled encoding treat last order place byte size tail rest Refuses fits within one = refl

-- a unit that stays is the unit of the longer bytes
stayed : (unit : Read) (longer : Option Read) → IsSome longer → IfSome longer (λ later. later ≡ unit) → longer ≡ Some unit
stayed unit None some same = absurd (cc)
stayed unit (Some later) some same = ap (λ (u : Read). Some u) same

-- a front by the unit that it begins with
one_unit : (encoding : Encoding) (treat : Treatment) (last : Bool) (order : Order) (place byte : ℕ) (tail rest : List ℕ) (unit : Option Read) → LooksAtRange treat → IsSome unit → StaysIf unit (first_unit encoding order (nat_eq place 0) (byte ∷ (tail ++ rest))) → IfSome unit (λ first. IsWithin first (suc (len tail))) → ((skip : ℕ) → skip ≤ len tail → IsOne encoding treat last order tail rest (place + 1) skip) → on_from encoding treat last place (byte ∷ tail) rest (begun encoding treat false order place tail (item_of treat false place (byte ∷ tail) unit)) ≡ walk_at encoding treat last order place (byte ∷ (tail ++ rest))
one_unit encoding treat last order place byte tail rest None looks some stays within one = absurd (cc)
one_unit encoding treat last order place byte tail rest (Some (Character c n)) looks some stays within one =
    let same = stayed (Character c n) _ (unit_some encoding order (nat_eq place 0) (byte ∷ (tail ++ rest)) (omega arith)) stays in
    one_given encoding treat last order place byte tail rest (c ∷ []) n (one (n - 1) (omega (arith, within.1)))
    ∙ ap (λ (unit : Option Read). begun encoding treat last order place (tail ++ rest) (item_of treat last place (byte ∷ (tail ++ rest)) unit)) (sym same)
one_unit encoding treat last order place byte tail rest (Some (Malformed n)) looks some stays within one =
    let same = stayed (Malformed n) _ (unit_some encoding order (nat_eq place 0) (byte ∷ (tail ++ rest)) (omega arith)) stays in
    let front : take n ((byte ∷ tail) ++ rest) ≡ take n (byte ∷ tail) = take-append-le n (byte ∷ tail) rest within.1 in
    one_handled encoding treat last order place byte n tail rest (treat place (byte ∷ tail) n) within.1 (looks.within place n (byte ∷ tail)) one
    ∙ ap (λ (handled : Handled). begun encoding treat last order place (tail ++ rest) (item_handled n handled)) (looks.same place n (byte ∷ tail) (byte ∷ (tail ++ rest)) (sym front))
    ∙ ap (λ (unit : Option Read). begun encoding treat last order place (tail ++ rest) (item_of treat last place (byte ∷ (tail ++ rest)) unit)) (sym same)
one_unit encoding treat last order place byte tail rest (Some (Cut n)) looks some stays within one =
    let here : place - place ≡ 0 = omega arith in
    ap (λ (k : ℕ). walk_at encoding treat last order place (drop k (byte ∷ tail) ++ rest)) here

one : (encoding : Encoding) (treat : Treatment) (last : Bool) (order : Order) (front rest : List ℕ) (place skip : ℕ) → LooksAtRange treat → skip ≤ len front → IsOne encoding treat last order front rest place skip
one encoding treat last order [] rest place zero looks fits =
    let here : place + 0 ≡ place = omega arith in
    ap (λ (p : ℕ). walk_at encoding treat last order p rest) here
one encoding treat last order [] rest place (suc skip) looks fits = absurd (omega (arith, fits))
one encoding treat last order (byte ∷ tail) rest place (suc skip) looks fits =
    one_skipped encoding treat last order place skip byte tail rest (one encoding treat last order tail rest (place + 1) skip looks (omega (arith, fits)))
one encoding treat last order (byte ∷ tail) rest place zero looks fits =
    one_unit encoding treat last order place byte tail rest (first_unit encoding order (nat_eq place 0) (byte ∷ tail)) looks (unit_some encoding order (nat_eq place 0) (byte ∷ tail) (omega arith)) (stays encoding order (nat_eq place 0) (byte ∷ tail) rest) (unit_within_any encoding order (nat_eq place 0) (byte ∷ tail)) (λ skip within. one encoding treat last order tail rest (place + 1) skip looks within)

pub two : (encoding : Encoding) (treat : Treatment) → LooksAtRange treat → (last : Bool) (order : Order) (place : ℕ) (front rest : List ℕ) → in_two encoding treat last order place front rest ≡ walk_at encoding treat last order place (front ++ rest)
two encoding treat looks last order place front rest = one encoding treat last order front rest place 0 looks (omega arith)

-- Any number of pieces.

pub many : (encoding : Encoding) (treat : Treatment) → LooksAtRange treat → (order : Order) (place : ℕ) (kept : List ℕ) (pieces : List (List ℕ)) (final : List ℕ) → in_pieces encoding treat order place kept pieces final ≡ walk_at encoding treat true order place (kept ++ (concat pieces ++ final))
many encoding treat looks order place kept [] final = refl
many encoding treat looks order place kept (piece ∷ pieces) final =
    let front : List ℕ = kept ++ piece in
    let first : Walk = walk_at encoding treat false order place front in
    let rest : List ℕ = concat pieces ++ final in
    ap (λ (behind : Walk). items_before first.items (unless_refused first.order first.ending behind)) (many encoding treat looks first.order (place_behind place front first.ending) (unused place front first.ending) pieces final)
    ∙ (two encoding treat looks true order place front rest
    ∙ ap (walk_at encoding treat true order place) (append_assoc kept piece rest ∙ ap (λ (xs : List ℕ). kept ++ xs) (sym (append_assoc piece (concat pieces) final))))
