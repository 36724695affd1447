-- Each item is what its own bytes decode to alone.
use Rattle.std.proofs.Common.{◌≡◌, ℕ, zero, suc, ◌+◌, ◌-◌, ◌≤◌, inl, inr, Bool, true, false, cond, nat_eq, List, [], ◌∷◌, length as len, take, drop, Option, Some, None, IsSome, IfSome, refl, ap, subst, ◌∙◌, arith}
use Rattle.std.specs.List.{All}
use Rattle.std.proofs.lemmas.List.{length-take}
use Rattle.std.proofs.lemmas.List.Elements.{All-nil, All-cons, All-weaker}
use Rattle.py_plain.specs.declared.encoding.Encoding.{Encoding}
use Rattle.py_plain.specs.declared.handler.Handler.{Handler}
use Rattle.py_plain.specs.declared.unit.Unit.{Unit as Read}
use Rattle.py_plain.specs.declared.unit.Unit.TheVariants.{Character, Malformed, Cut}
use Rattle.py_plain.specs.Units.{Order, first_unit}
use Rattle.py_plain.specs.UnitLaws.{IsWithin}
use Rattle.py_plain.specs.Handlers.{Treatment, Handled, Replaced, Refuses, treatment, reads_texts}
use Rattle.py_plain.specs.Items.{Item, AtEnd, Walk, ends, FirstItem, Given, RefusedRange, Unfinished, item_handled, item_of, first_item, used_behind, onto_walk, walk_from}
use Rattle.py_plain.specs.Pieces.{LooksAtRange}
use Rattle.py_plain.specs.Alone.{DecodesAlone}
use Rattle.py_plain.proofs.AnyUnits.{unit_some, unit_within_any}
use Rattle.py_plain.proofs.Fronts.{IsRefused, FrontIsIf, unit_front}
use Rattle.py_plain.proofs.Looking.{UsesItsBytes, reading, using}
use Rattle.py_plain.proofs.Walks.{walk-given}

-- The bytes that an item used, as the first item of those bytes alone.

-- a range whose item gives characters is replaced by them
pub handled_given : (size : ℕ) (handled : Handled) (characters : List ℕ) (used : ℕ) → item_handled size handled ≡ Given characters used → handled ≡ Replaced characters used
handled_given size (Replaced cs n) characters used is = cc
handled_given size Refuses characters used is = absurd (cc)

pub cut_given : (last : Bool) (size : ℕ) (handled : Handled) (characters : List ℕ) (used : ℕ) → cond last (item_handled size handled) Unfinished ≡ Given characters used → handled ≡ Replaced characters used
cut_given true size handled characters used is = handled_given size handled characters used is
cut_given false size handled characters used is = absurd (cc)

-- an item has a byte
item_some : (treat : Treatment) (last : Bool) (place left : ℕ) (bytes : List ℕ) (unit : Option Read) (characters : List ℕ) (used : ℕ) → UsesItsBytes treat → IfSome unit (λ whole. IsWithin whole left) → item_of treat last place bytes unit ≡ Given characters used → 1 ≤ used
item_some treat last place left bytes None characters used uses within is = absurd (cc)
item_some treat last place left bytes (Some (Character c n)) characters used uses within is = let same : n ≡ used = cc in omega (arith, within.0)
item_some treat last place left bytes (Some (Malformed n)) characters used uses within is =
    uses.some place n bytes characters used within.0 (handled_given n (treat place bytes n) characters used is)
item_some treat last place left bytes (Some (Cut n)) characters used uses within is =
    uses.some place n bytes characters used within.0 (cut_given last n (treat place bytes n) characters used is)

-- a refused range that is all there is, is treated
refused_item : (treat : Treatment) (place count : ℕ) (bytes : List ℕ) (unit : Read) → IsRefused count unit → item_of treat true place bytes (Some unit) ≡ item_handled count (treat place bytes count)
refused_item treat place count bytes unit refused =
    elim refused [
      | inl malformed ↦ ap (λ (u : Read). item_of treat true place bytes (Some u)) malformed
      | inr cut ↦ ap (λ (u : Read). item_of treat true place bytes (Some u)) cut
    ]

range_alone : (treat : Treatment) (place size : ℕ) (bytes : List ℕ) (front : Read) (characters : List ℕ) (used : ℕ) → LooksAtRange treat → UsesItsBytes treat → 1 ≤ used → (1 ≤ used → used ≤ size → IsRefused used front) → treat place bytes size ≡ Replaced characters used → item_of treat true place (take used bytes) (Some front) ≡ Given characters used
range_alone treat place size bytes front characters used looks uses some refused is =
    refused_item treat place used (take used bytes) front (refused some (looks.within place size bytes characters used is))
    ∙ ap (λ (handled : Handled). item_handled used handled) (uses.alone place size bytes characters used is)

item_alone : (treat : Treatment) (last : Bool) (place : ℕ) (bytes : List ℕ) (unit front : Option Read) (characters : List ℕ) (used : ℕ) → LooksAtRange treat → UsesItsBytes treat → 1 ≤ used → IsSome front → FrontIsIf unit used front → item_of treat last place bytes unit ≡ Given characters used → item_of treat true place (take used bytes) front ≡ Given characters used
item_alone treat last place bytes unit None characters used looks uses more some front is = absurd (cc)
item_alone treat last place bytes None (Some part) characters used looks uses more some front is = absurd (cc)
item_alone treat last place bytes (Some (Character c n)) (Some part) characters used looks uses more some front is =
    let same : used ≡ n = cc in
    ap (λ (u : Read). item_of treat true place (take used bytes) (Some u)) (front same) ∙ is
item_alone treat last place bytes (Some (Malformed n)) (Some part) characters used looks uses more some front is =
    range_alone treat place n bytes part characters used looks uses more front (handled_given n (treat place bytes n) characters used is)
item_alone treat last place bytes (Some (Cut n)) (Some part) characters used looks uses more some front is =
    range_alone treat place n bytes part characters used looks uses more front (cut_given last n (treat place bytes n) characters used is)

-- The decoding of the bytes that an item used, alone.

dropped : (count : ℕ) (bytes : List ℕ) → drop count (take count bytes) ≡ []
dropped zero bytes = refl
dropped (suc count) [] = refl
dropped (suc count) (byte ∷ rest) = dropped count rest

-- an item that was read
abbrev item_read : Order → (place : ℕ) (characters : List ℕ) (used : ℕ) → Item
item_read order place characters used = record { start = place; length = used; order = order; characters = characters }

-- the walk whose only item is this
abbrev only : Order → (place : ℕ) (characters : List ℕ) (used : ℕ) → Walk
only order place characters used = onto_walk order place (Given characters used) (ends order AtEnd)

given_alone : (encoding : Encoding) (treat : Treatment) (order : Order) (place byte : ℕ) (rest characters : List ℕ) (used : ℕ) → 1 ≤ used → first_item encoding treat true order place (take used (byte ∷ rest)) ≡ Given characters used → walk_from encoding treat true order place 0 (take used (byte ∷ rest)) ≡ only order place characters used
given_alone encoding treat order place byte rest characters zero some is = absurd (omega (arith, some))
given_alone encoding treat order place byte rest characters (suc used) some is =
    let one : suc used - 1 ≡ used = omega arith in
    let none : drop (suc used - 1) (take used rest) ≡ [] = ap (λ (k : ℕ). drop k (take used rest)) one ∙ dropped used rest in
    walk-given encoding treat true order place byte (take used rest) characters (suc used) some is
    ∙ ap (λ (bytes : List ℕ). onto_walk order place (Given characters (suc used)) (walk_from encoding treat true order (place + suc used) 0 bytes)) none

first_alone : (encoding : Encoding) (treat : Treatment) (last : Bool) (order : Order) (place byte : ℕ) (rest characters : List ℕ) (used : ℕ) → LooksAtRange treat → UsesItsBytes treat → first_item encoding treat last order place (byte ∷ rest) ≡ Given characters used → walk_from encoding treat true order place 0 (take used (byte ∷ rest)) ≡ only order place characters used
first_alone encoding treat last order place byte rest characters used looks uses is =
    let bytes = byte ∷ rest in
    let at_start = nat_eq place 0 in
    let some = item_some treat last place (len bytes) bytes (first_unit encoding order at_start bytes) characters used uses (unit_within_any encoding order at_start bytes) is in
    let front_some = unit_some encoding order at_start (take used bytes) (omega (arith, length-take used bytes)) in
    given_alone encoding treat order place byte rest characters used some
    (item_alone treat last place bytes (first_unit encoding order at_start bytes) (first_unit encoding order at_start (take used bytes)) characters used looks uses some front_some (unit_front encoding order at_start bytes used some) is)

-- Each item of a walk.

-- an item is all that a walk has
abbrev IsOnly : Item → Walk → Type 0
IsOnly item walk = (walk.items ≡ item ∷ []) × (walk.ending ≡ AtEnd)

-- an item stands past a place, and is what its bytes decode to
abbrev Stands : Encoding → Treatment → ℕ → List ℕ → Item → Type 0
Stands encoding treat place bytes item = (place ≤ item.start) × DecodesAlone encoding treat place bytes item

stands_before : (encoding : Encoding) (treat : Treatment) (place byte : ℕ) (rest : List ℕ) (item : Item) → Stands encoding treat (place + 1) rest item → Stands encoding treat place (byte ∷ rest) item
stands_before encoding treat place byte rest item stands =
    let far : suc (item.start - (place + 1)) ≡ item.start - place = omega (arith, stands.0) in (
      omega (arith, stands.0),
      subst (λ (k : ℕ). IsOnly item (walk_from encoding treat true item.order item.start 0 (take item.length (drop k (byte ∷ rest))))) far stands.1,
    )

stands_here : (encoding : Encoding) (treat : Treatment) (order : Order) (place : ℕ) (bytes characters : List ℕ) (used : ℕ) → walk_from encoding treat true order place 0 (take used bytes) ≡ only order place characters used → Stands encoding treat place bytes (item_read order place characters used)
stands_here encoding treat order place bytes characters used is =
    let here : 0 ≡ place - place = omega arith in (
      omega arith,
      subst (λ (k : ℕ). IsOnly (item_read order place characters used) (walk_from encoding treat true order place 0 (take used (drop k bytes)))) here
          (ap (λ (w : Walk). w.items) is, ap (λ (w : Walk). w.ending) is),
    )

onto_stands : (encoding : Encoding) (treat : Treatment) (order : Order) (place byte : ℕ) (rest : List ℕ) (first : FirstItem) (walk : Walk) → ((characters : List ℕ) (used : ℕ) → first ≡ Given characters used → Stands encoding treat place (byte ∷ rest) (item_read order place characters used)) → All (Stands encoding treat (place + 1) rest) walk.items → All (Stands encoding treat place (byte ∷ rest)) (onto_walk order place first walk).items
onto_stands encoding treat order place byte rest (Given characters used) walk here behind =
    All-cons (Stands encoding treat place (byte ∷ rest)) (item_read order place characters used) walk.items (here characters used refl)
    (All-weaker (Stands encoding treat (place + 1) rest) (Stands encoding treat place (byte ∷ rest)) (stands_before encoding treat place byte rest) walk.items behind)
onto_stands encoding treat order place byte rest (RefusedRange size) walk here behind = All-nil (Stands encoding treat place (byte ∷ rest))
onto_stands encoding treat order place byte rest Unfinished walk here behind = All-nil (Stands encoding treat place (byte ∷ rest))

each_stands : (encoding : Encoding) (treat : Treatment) (last : Bool) (order : Order) (place skip : ℕ) (bytes : List ℕ) → LooksAtRange treat → UsesItsBytes treat → All (Stands encoding treat place bytes) (walk_from encoding treat last order place skip bytes).items
each_stands encoding treat last order place skip [] looks uses = All-nil (Stands encoding treat place [])
each_stands encoding treat last order place (suc skip) (byte ∷ rest) looks uses =
    All-weaker (Stands encoding treat (place + 1) rest) (Stands encoding treat place (byte ∷ rest)) (stands_before encoding treat place byte rest) _ (each_stands encoding treat last order (place + 1) skip rest looks uses)
each_stands encoding treat last order place zero (byte ∷ rest) looks uses =
    let first : FirstItem = first_item encoding treat last order place (byte ∷ rest) in
    onto_stands encoding treat order place byte rest first (walk_from encoding treat last order (place + 1) (used_behind first) rest)
    (λ characters used is. stands_here encoding treat order place (byte ∷ rest) characters used (first_alone encoding treat last order place byte rest characters used looks uses is))
    (each_stands encoding treat last order (place + 1) (used_behind first) rest looks uses)

-- each item of a decoding is what its own bytes decode to alone and finally
pub each_alone : (handler : Handler) (encoding : Encoding) → reads_texts handler ≡ true → (last : Bool) (order : Order) (place : ℕ) (bytes : List ℕ) → All (DecodesAlone encoding (treatment handler encoding) place bytes) (walk_from encoding (treatment handler encoding) last order place 0 bytes).items
each_alone handler encoding reads last order place bytes =
    let treat = treatment handler encoding in
    All-weaker (Stands encoding treat place bytes) (DecodesAlone encoding treat place bytes) (λ item stands. stands.1) _ (each_stands encoding treat last order place 0 bytes (reading handler encoding reads) (using handler encoding reads))
