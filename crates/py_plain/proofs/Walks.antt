-- The plain decoding, one item at a time.
use Rattle.std.proofs.Common.{◌≡◌, ℕ, zero, suc, ◌+◌, ◌-◌, ◌<◌, ◌≤◌, Bool, nat_eq, List, [], ◌∷◌, ◌++◌, length as len, get_or, drop, Some, IfSome, refl, sym, ap, subst, ◌∙◌, arith}
use Rattle.std.proofs.lemmas.List.{drop_more, drop-drop, append_assoc}
use Rattle.py_plain.specs.declared.encoding.Encoding.{Encoding}
use Rattle.py_plain.specs.declared.handler.Handler.{Handler}
use Rattle.py_plain.specs.declared.unit.Unit.TheVariants.{Character}
use Rattle.py_plain.specs.Units.{Order, first_unit}
use Rattle.py_plain.specs.UnitLaws.{IsWithin}
use Rattle.py_plain.specs.Handlers.{Treatment, treatment}
use Rattle.py_plain.specs.Items.{Item, Walk, FirstItem, Given, RefusedRange, Unfinished, item_of, first_item, used_behind, onto_walk, walk_from, decoding, characters_of, refusal_of}
use Rattle.py_plain.proofs.AnyUnits.{unit_within_any}

-- the characters of some items and of more after them
pub characters-append : (items more : List Item) → characters_of (items ++ more) ≡ characters_of items ++ characters_of more
characters-append [] more = refl
characters-append (item ∷ items) more =
    ap (λ (cs : List ℕ). item.characters ++ cs) (characters-append items more) ∙ sym (append_assoc item.characters (characters_of items) (characters_of more))

-- passing over bytes is to stand after them
pub walk-skip : (encoding : Encoding) (treat : Treatment) (last : Bool) (order : Order) (place skip : ℕ) (bytes : List ℕ) → walk_from encoding treat last order place skip bytes ≡ walk_from encoding treat last order (place + skip) 0 (drop skip bytes)
walk-skip encoding treat last order place zero bytes = ap (λ p. walk_from encoding treat last order p 0 bytes) (omega arith)
walk-skip encoding treat last order place (suc skip) [] = refl
walk-skip encoding treat last order place (suc skip) (byte ∷ rest) =
    walk-skip encoding treat last order (place + 1) skip rest ∙ ap (λ p. walk_from encoding treat last order p 0 (drop skip rest)) (omega arith)

onto-order : (order : Order) (place : ℕ) (first : FirstItem) (walk : Walk) → walk.order ≡ order → (onto_walk order place first walk).order ≡ order
onto-order order place (Given characters used) walk is = is
onto-order order place (RefusedRange size) walk is = refl
onto-order order place Unfinished walk is = refl

-- none of these encodings has a mark: a walk ends in the order that it began in
pub walk-order : (encoding : Encoding) (treat : Treatment) (last : Bool) (order : Order) (place skip : ℕ) (bytes : List ℕ) → (walk_from encoding treat last order place skip bytes).order ≡ order
walk-order encoding treat last order place skip [] = refl
walk-order encoding treat last order place (suc skip) (byte ∷ rest) = walk-order encoding treat last order (place + 1) skip rest
walk-order encoding treat last order place zero (byte ∷ rest) =
    let first : FirstItem = first_item encoding treat last order place (byte ∷ rest) in
    onto-order order place first (walk_from encoding treat last order (place + 1) (used_behind first) rest) (walk-order encoding treat last order (place + 1) (used_behind first) rest)

-- a walk over bytes whose first item is characters goes on after the bytes of that item
pub walk-given : (encoding : Encoding) (treat : Treatment) (last : Bool) (order : Order) (place : ℕ) (byte : ℕ) (rest cs : List ℕ) (used : ℕ) → 1 ≤ used → first_item encoding treat last order place (byte ∷ rest) ≡ Given cs used → walk_from encoding treat last order place 0 (byte ∷ rest) ≡ onto_walk order place (Given cs used) (walk_from encoding treat last order (place + used) 0 (drop (used - 1) rest))
walk-given encoding treat last order place byte rest cs used some first =
    ap (λ item. onto_walk order place item (walk_from encoding treat last order (place + 1) (used_behind item) rest)) first
    ∙ ap (λ w. onto_walk order place (Given cs used) w) (walk-skip encoding treat last order (place + 1) (used - 1) rest ∙ ap (λ p. walk_from encoding treat last order p 0 (drop (used - 1) rest)) (omega arith))

-- a walk over bytes that begin with a character goes on after it
pub walk-character : (encoding : Encoding) (treat : Treatment) (last : Bool) (order : Order) (place : ℕ) (bytes : List ℕ) (c n : ℕ) → first_unit encoding order (nat_eq place 0) bytes ≡ Some (Character c n) → walk_from encoding treat last order place 0 bytes ≡ onto_walk order place (Given (c ∷ []) n) (walk_from encoding treat last order (place + n) 0 (drop n bytes))
walk-character encoding treat last order place [] c n is =
    let within = subst (λ unit. IfSome unit (λ u. IsWithin u 0)) is (unit_within_any encoding order (nat_eq place 0) []) in
    absurd (omega (arith, within.0, within.1))
walk-character encoding treat last order place (byte ∷ rest) c n is =
    let within = subst (λ unit. IfSome unit (λ u. IsWithin u (suc (len rest)))) is (unit_within_any encoding order (nat_eq place 0) (byte ∷ rest)) in
    let behind : suc (n - 1) ≡ n = omega (arith, within.0) in
    walk-given encoding treat last order place byte rest (c ∷ []) n within.0 (ap (λ unit. item_of treat last place (byte ∷ rest) unit) is)
    ∙ ap (λ k. onto_walk order place (Given (c ∷ []) n) (walk_from encoding treat last order (place + n) 0 (drop k (byte ∷ rest)))) behind

-- the decoding from a place on begins with the item there
pub decoding-given : (encoding : Encoding) (treat : Treatment) (last : Bool) (order : Order) (bytes : List ℕ) (place : ℕ) (cs : List ℕ) (used : ℕ) → place < len bytes → 1 ≤ used → first_item encoding treat last order place (drop place bytes) ≡ Given cs used → decoding encoding treat last order bytes place ≡ onto_walk order place (Given cs used) (decoding encoding treat last order bytes (place + used))
decoding-given encoding treat last order bytes place cs used inside some first =
    let split = drop_more bytes place 0 inside in
    let behind : drop (used - 1) (drop (place + 1) bytes) ≡ drop (place + used) bytes = drop-drop (used - 1) (place + 1) bytes ∙ ap (λ k. drop k bytes) (omega arith) in
    ap (λ bs. walk_from encoding treat last order place 0 bs) split
    ∙ walk-given encoding treat last order place (get_or bytes place 0) (drop (place + 1) bytes) cs used some (ap (λ bs. first_item encoding treat last order place bs) (sym split) ∙ first)
    ∙ ap (λ bs. onto_walk order place (Given cs used) (walk_from encoding treat last order (place + used) 0 bs)) behind

-- what is out at a place, and what comes from there on, are the whole decoding
pub record Continues (encoding : Encoding) (handler : Handler) (last : Bool) (order : Order) (bytes : List ℕ) (from place : ℕ) (out : List ℕ) : Type 0 where
  pub characters : out ++ characters_of (decoding encoding (treatment handler encoding) last order bytes place).items ≡ characters_of (decoding encoding (treatment handler encoding) last order bytes from).items
  pub refusal : refusal_of (decoding encoding (treatment handler encoding) last order bytes place).ending ≡ refusal_of (decoding encoding (treatment handler encoding) last order bytes from).ending

-- the characters of one item more are out
pub Continues-next : (encoding : Encoding) (handler : Handler) (last : Bool) (order : Order) (bytes : List ℕ) (from place : ℕ) (out : List ℕ) (cs : List ℕ) (used : ℕ) → place < len bytes → 1 ≤ used → first_item encoding (treatment handler encoding) last order place (drop place bytes) ≡ Given cs used → Continues encoding handler last order bytes from place out → Continues encoding handler last order bytes from (place + used) (out ++ cs)
Continues-next encoding handler last order bytes from place out cs used inside some first before =
    let treat = treatment handler encoding in
    let step = decoding-given encoding treat last order bytes place cs used inside some first in
    record {
      characters = append_assoc out cs (characters_of (decoding encoding treat last order bytes (place + used)).items) ∙ ap (λ w. out ++ characters_of w.items) (sym step) ∙ before.characters;
      refusal = ap (λ w. refusal_of w.ending) (sym step) ∙ before.refusal;
    }
