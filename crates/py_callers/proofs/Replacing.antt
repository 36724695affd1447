-- A decoding that replaces what is no UTF-8 comes to its end.
use Rattle.std.proofs.Common.{inl, inr, length, ◌⊎◌, ◌≡◌, ℕ, zero, suc, ◌+◌, Bool, true, false, List, [], ◌∷◌, Option, Some, None, Err, nat_eq, refl}
use Rattle.py_flat.specs.declared.fault.IoFault.{IoFault}
use Rattle.py_flat.specs.declared.fault.IoFault.TheVariants as fault
use Rattle.py_plain.specs.declared.encoding.Encoding.TheVariants.{Utf8}
use Rattle.py_plain.specs.declared.handler.Handler.TheVariants.{Replace}
use Rattle.py_plain.specs.declared.unit.Unit.{Unit as First}
use Rattle.py_plain.specs.declared.unit.Unit.TheVariants.{Character, Malformed, Cut}
use Rattle.py_plain.specs.Units.{Order, Unknown, first_unit, order_after}
use Rattle.py_plain.specs.Handlers.{treatment}
use Rattle.py_plain.specs.Items.{characters_of, FirstItem, Given, RefusedRange, Unfinished, item_of, used_behind, Ending, AtEnd, AtRange, AtCut, Walk, onto_walk, walk_from}
use Rattle.py_codec.specs.Decoding.{ended, decoding_of}

-- whether nothing was refused
abbrev is_through : Ending → Bool
is_through (AtRange start end) = false
is_through ending = true

abbrev gives : FirstItem → Bool
gives (RefusedRange length) = false
gives first = true

item_given : (unit : Option First) (place : ℕ) (rest : List ℕ) → gives (item_of (treatment Replace Utf8) true place rest unit) ≡ true
item_given None place rest = refl
item_given (Some (Character character length)) place rest = refl
item_given (Some (Malformed length)) place rest = refl
item_given (Some (Cut length)) place rest = refl

onto_through : (order : Order) (place : ℕ) (first : FirstItem) (walk : Walk) → gives first ≡ true → is_through walk.ending ≡ true → is_through (onto_walk order place first walk).ending ≡ true
onto_through order place (Given characters used) walk given through = through
onto_through order place (RefusedRange length) walk given through = cc
onto_through order place Unfinished walk given through = refl

replacing_ends : (order : Order) (place skip : ℕ) (bytes : List ℕ) → is_through (walk_from Utf8 (treatment Replace Utf8) true order place skip bytes).ending ≡ true
replacing_ends order place skip [] = refl
replacing_ends order place (suc skip) (byte ∷ rest) = replacing_ends order (place + 1) skip rest
replacing_ends order place zero (byte ∷ rest) =
    let unit : Option First = first_unit Utf8 order (nat_eq place 0) (byte ∷ rest) in
    let first : FirstItem = item_of (treatment Replace Utf8) true place (byte ∷ rest) unit in
    onto_through order place first (walk_from Utf8 (treatment Replace Utf8) true (order_after Utf8 order unit) (place + 1) (used_behind first) rest) (item_given unit place (byte ∷ rest)) (replacing_ends (order_after Utf8 order unit) (place + 1) (used_behind first) rest)

-- what a walk in which nothing was refused answers is no refusal
through_refuses_nothing : (characters : List ℕ) (total : ℕ) (refusal : (start end : ℕ) → IoFault) (ending : Ending) (why : IoFault) → is_through ending ≡ true → ended characters total refusal ending ≡ Err why → ⊥
through_refuses_nothing characters total refusal AtEnd why through e = cc
through_refuses_nothing characters total refusal (AtCut start) why through e = cc
through_refuses_nothing characters total refusal (AtRange start end) why through e = cc

-- a decoding by the handler `replace` is refused only when out of memory
pub only_memory : (bytes : List ℕ) (why : IoFault) → (why ≡ fault.NoMemory) ⊎ (decoding_of (walk_from Utf8 (treatment Replace Utf8) true Unknown 0 0 bytes) (length bytes) fault.UnicodeDecodeError ≡ Err why) → why ≡ fault.NoMemory
only_memory bytes why (inl is) = is
only_memory bytes why (inr is) =
    let walk : Walk = walk_from Utf8 (treatment Replace Utf8) true Unknown 0 0 bytes in
    absurd (through_refuses_nothing (characters_of walk.items) (length bytes) fault.UnicodeDecodeError walk.ending why (replacing_ends Unknown 0 0 bytes) is)
