-- A walk at another place has the same items, which start there.
use Rattle.std.proofs.Common.{◌≡◌, ℕ, zero, suc, ◌+◌, Bool, List, [], ◌∷◌, ◌++◌, refl, sym, ap, ◌∙◌, arith}
use Rattle.py_plain.specs.declared.encoding.Encoding.{Encoding}
use Rattle.py_plain.specs.Units.{Order, Unknown}
use Rattle.py_plain.specs.Handlers.{Treatment}
use Rattle.py_plain.specs.Items.{Item, AtRange, Walk, FirstItem, Given, RefusedRange, Unfinished, first_item, used_behind, ends, onto_walk, walk_from}
use Rattle.py_plain.specs.Pieces.{walk_at, items_before}
use Rattle.py_incremental.proofs.Moving.{IgnoresPlace, moved, first_anywhere}

-- items that start further on
abbrev pub shift-items : ℕ → List Item → List Item
shift-items by [] = []
shift-items by (item ∷ items) = record item { start = by + item.start } ∷ shift-items by items

abbrev pub shifted : ℕ → Walk → Walk
shifted by walk = record { items = shift-items by walk.items; order = walk.order; ending = moved by walk.ending }

shift-both : (by : ℕ) (one other : List Item) → shift-items by (one ++ other) ≡ shift-items by one ++ shift-items by other
shift-both by [] other = refl
shift-both by (item ∷ items) other =
    let first : Item = record item { start = by + item.start } in
    ap (λ (is : List Item). first ∷ is) (shift-both by items other)

onto-shifted : (order : Order) (by place : ℕ) (first : FirstItem) (walk : Walk) → onto_walk order (by + place) first (shifted by walk) ≡ shifted by (onto_walk order place first walk)
onto-shifted order by place (Given characters used) walk = refl
onto-shifted order by place (RefusedRange size) walk =
    let same : by + place + size ≡ by + (place + size) = omega arith in
    ap (λ (end : ℕ). ends order (AtRange (by + place) end)) same
onto-shifted order by place Unfinished walk = refl

walk-shifted : (encoding : Encoding) (treat : Treatment) (last : Bool) (order : Order) (by place skip : ℕ) (bytes : List ℕ) → IgnoresPlace treat → walk_from encoding treat last order (by + place) skip bytes ≡ shifted by (walk_from encoding treat last order place skip bytes)
walk-shifted encoding treat last order by place skip [] ignores = refl
walk-shifted encoding treat last order by place (suc skip) (byte ∷ rest) ignores =
    let far : by + place + 1 ≡ by + (place + 1) = omega arith in
    ap (λ (p : ℕ). walk_from encoding treat last order p skip rest) far ∙ walk-shifted encoding treat last order by (place + 1) skip rest ignores
walk-shifted encoding treat last order by place zero (byte ∷ rest) ignores =
    let first : FirstItem = first_item encoding treat last order place (byte ∷ rest) in
    let far : by + place + 1 ≡ by + (place + 1) = omega arith in
    ap (λ (item : FirstItem). onto_walk order (by + place) item (walk_from encoding treat last order (by + place + 1) (used_behind item) rest)) (first_anywhere encoding treat last order (by + place) place (byte ∷ rest) ignores)
    ∙ (ap (λ (p : ℕ). onto_walk order (by + place) first (walk_from encoding treat last order p (used_behind first) rest)) far
    ∙ (ap (onto_walk order (by + place) first) (walk-shifted encoding treat last order by (place + 1) (used_behind first) rest ignores)
    ∙ onto-shifted order by place first (walk_from encoding treat last order (place + 1) (used_behind first) rest)))

-- where some items stand before a walk they do so at any place
pub passes-there : (encoding : Encoding) (treat : Treatment) → IgnoresPlace treat → (last : Bool) (place used : ℕ) (bytes rest : List ℕ) (items : List Item) → walk_at encoding treat last Unknown 0 bytes ≡ items_before items (walk_at encoding treat last Unknown used rest) → walk_at encoding treat last Unknown place bytes ≡ items_before (shift-items place items) (walk_at encoding treat last Unknown (place + used) rest)
passes-there encoding treat ignores last place used bytes rest items is =
    let here : place ≡ place + 0 = omega arith in
    let behind : Walk = walk_at encoding treat last Unknown used rest in
    let there : Walk = shifted place behind in
    ap (λ (p : ℕ). walk_at encoding treat last Unknown p bytes) here
    ∙ (walk-shifted encoding treat last Unknown place 0 0 bytes ignores
    ∙ (ap (shifted place) is
    ∙ (ap (λ (own : List Item). record there { items = own }) (shift-both place items behind.items)
    ∙ ap (items_before (shift-items place items)) (sym (walk-shifted encoding treat last Unknown place used 0 rest ignores)))))
