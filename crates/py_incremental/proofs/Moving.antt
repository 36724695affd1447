-- A walk at another place is the same walk, moved.
use Rattle.std.proofs.Common.{◌≡◌, ℕ, zero, suc, ◌+◌, Bool, true, false, nat_eq, List, [], ◌∷◌, ◌++◌, Option, Some, None, refl, ap, subst, ◌∙◌, arith}
use Rattle.py_plain.specs.declared.encoding.Encoding.{Encoding}
use Rattle.py_plain.specs.declared.unit.Unit.{Unit as Read}
use Rattle.py_plain.specs.declared.unit.Unit.TheVariants.{Character, Malformed, Cut}
use Rattle.py_plain.specs.Units.{Order, first_unit}
use Rattle.py_plain.specs.Handlers.{Treatment}
use Rattle.py_plain.specs.Items.{FirstItem, Given, RefusedRange, Unfinished, item_handled, item_of, first_item, used_behind, Ending, AtEnd, AtRange, AtCut, Walk, onto_walk, walk_from, characters_of}
use Rattle.py_incremental.proofs.Cuts.{unit_anywhere}

-- a treatment that doesn't look at the place
abbrev pub IgnoresPlace : Treatment → Type 0
IgnoresPlace treat = (here there : ℕ) (rest : List ℕ) (size : ℕ) → treat here rest size ≡ treat there rest size

-- an ending whose places count from further on
abbrev pub moved : ℕ → Ending → Ending
moved by AtEnd = AtEnd
moved by (AtRange start end) = AtRange (by + start) (by + end)
moved by (AtCut start) = AtCut (by + start)

-- an ending that is moved twice is moved by the sum
pub moved_twice : (by more : ℕ) (ending : Ending) → moved by (moved more ending) ≡ moved (by + more) ending
moved_twice by more AtEnd = refl
moved_twice by more (AtRange start end) =
    let starts : by + (more + start) ≡ by + more + start = omega arith in
    let ends : by + (more + end) ≡ by + more + end = omega arith in
    ap (λ (s : ℕ). AtRange s (by + (more + end))) starts ∙ ap (AtRange (by + more + start)) ends
moved_twice by more (AtCut start) =
    let starts : by + (more + start) ≡ by + more + start = omega arith in
    ap AtCut starts

-- an ending that is moved by nothing stays where it is
pub moved_none : (ending : Ending) → ending ≡ moved 0 ending
moved_none AtEnd = refl
moved_none (AtRange start end) =
    let starts : start ≡ 0 + start = omega arith in
    let ends : end ≡ 0 + end = omega arith in
    ap (λ (s : ℕ). AtRange s end) starts ∙ ap (AtRange (0 + start)) ends
moved_none (AtCut start) =
    let starts : start ≡ 0 + start = omega arith in
    ap AtCut starts

-- a walk has some characters, and then those of another walk, whose places count from further on
pub record IsBehind (text : List ℕ) (by : ℕ) (walk behind : Walk) : Type 0 where
  pub characters : characters_of walk.items ≡ text ++ characters_of behind.items
  pub order : walk.order ≡ behind.order
  pub ending : walk.ending ≡ moved by behind.ending

item_anywhere : (treat : Treatment) (last : Bool) (here there : ℕ) (bytes : List ℕ) (unit : Option Read) → IgnoresPlace treat → item_of treat last here bytes unit ≡ item_of treat last there bytes unit
item_anywhere treat last here there bytes None ignores = refl
item_anywhere treat last here there bytes (Some (Character c n)) ignores = refl
item_anywhere treat last here there bytes (Some (Malformed n)) ignores = ap (item_handled n) (ignores here there bytes n)
item_anywhere treat true here there bytes (Some (Cut n)) ignores = ap (item_handled n) (ignores here there bytes n)
item_anywhere treat false here there bytes (Some (Cut n)) ignores = refl

-- the first item is the same at any place
pub first_anywhere : (encoding : Encoding) (treat : Treatment) (last : Bool) (order : Order) (here there : ℕ) (bytes : List ℕ) → IgnoresPlace treat → first_item encoding treat last order here bytes ≡ first_item encoding treat last order there bytes
first_anywhere encoding treat last order here there bytes ignores =
    ap (λ (unit : Option Read). item_of treat last here bytes unit) (unit_anywhere encoding order (nat_eq here 0) (nat_eq there 0) bytes)
    ∙ item_anywhere treat last here there bytes (first_unit encoding order (nat_eq there 0) bytes) ignores

moved_onto : (order : Order) (by place : ℕ) (first : FirstItem) (walk other : Walk) → IsBehind [] by walk other → IsBehind [] by (onto_walk order (by + place) first walk) (onto_walk order place first other)
moved_onto order by place (Given characters used) walk other behind = record { characters = ap (λ (cs : List ℕ). characters ++ cs) behind.characters; order = behind.order; ending = behind.ending }
moved_onto order by place (RefusedRange size) walk other behind =
    let ends : by + place + size ≡ by + (place + size) = omega arith in
    record { characters = refl; order = refl; ending = ap (AtRange (by + place)) ends }
moved_onto order by place Unfinished walk other behind = record { characters = refl; order = refl; ending = refl }

-- a walk from a place further on has the same characters, and its ending is moved
pub walk_moved : (encoding : Encoding) (treat : Treatment) (last : Bool) (order : Order) (by place skip : ℕ) (bytes : List ℕ) → IgnoresPlace treat → IsBehind [] by (walk_from encoding treat last order (by + place) skip bytes) (walk_from encoding treat last order place skip bytes)
walk_moved encoding treat last order by place skip [] ignores = record { characters = refl; order = refl; ending = refl }
walk_moved encoding treat last order by place (suc skip) (byte ∷ rest) ignores =
    let far : by + (place + 1) ≡ by + place + 1 = omega arith in
    subst (λ (p : ℕ). IsBehind [] by (walk_from encoding treat last order p skip rest) (walk_from encoding treat last order (place + 1) skip rest)) far
    (walk_moved encoding treat last order by (place + 1) skip rest ignores)
walk_moved encoding treat last order by place zero (byte ∷ rest) ignores =
    let first : FirstItem = first_item encoding treat last order place (byte ∷ rest) in
    let far : by + (place + 1) ≡ by + place + 1 = omega arith in
    let behind = subst (λ (p : ℕ). IsBehind [] by (walk_from encoding treat last order p (used_behind first) rest) (walk_from encoding treat last order (place + 1) (used_behind first) rest)) far
    (walk_moved encoding treat last order by (place + 1) (used_behind first) rest ignores) in
    subst (λ (item : FirstItem). IsBehind [] by (onto_walk order (by + place) item (walk_from encoding treat last order (by + place + 1) (used_behind item) rest)) (onto_walk order place first (walk_from encoding treat last order (place + 1) (used_behind first) rest)))
    (first_anywhere encoding treat last order place (by + place) (byte ∷ rest) ignores)
    (moved_onto order by place first _ _ behind)
