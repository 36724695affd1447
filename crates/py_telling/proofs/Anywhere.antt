-- Bytes decode to the same characters, up to the same refusal, wherever they stand.
use Rattle.std.proofs.Common.{◌≡◌, ℕ, zero, suc, ◌+◌, Bool, true, false, nat_eq, List, [], ◌∷◌, ◌++◌, Option, Some, None, is_some, refl, sym, ap, subst, ◌∙◌}
use Rattle.py_plain.specs.declared.encoding.Encoding.{Encoding}
use Rattle.py_plain.specs.declared.encoding.Encoding.TheVariants.{Utf8, Latin1, Ascii, Utf16Le, Utf16Be}
use Rattle.py_plain.specs.declared.handler.Handler.{Handler}
use Rattle.py_plain.specs.declared.handler.Handler.TheVariants.{Strict, Ignore, Replace, XmlCharRefReplace, BackslashReplace, SurrogatePass, SurrogateEscape}
use Rattle.py_plain.specs.declared.unit.Unit.{Unit as Read}
use Rattle.py_plain.specs.declared.unit.Unit.TheVariants.{Character, Malformed, Cut}
use Rattle.py_plain.specs.Units.{Order, first_unit}
use Rattle.py_plain.specs.Handlers.{Treatment, treatment}
use Rattle.py_plain.specs.Items.{FirstItem, Given, RefusedRange, Unfinished, item_handled, item_of, first_item, used_behind, Walk, onto_walk, walk_from, characters_of, refusal_of}

-- a treatment that doesn't look at the place
abbrev IgnoresPlace : Treatment → Type 0
IgnoresPlace treat = (here there : ℕ) (rest : List ℕ) (size : ℕ) → treat here rest size ≡ treat there rest size

ignores : (handler : Handler) (encoding : Encoding) → IgnoresPlace (treatment handler encoding)
ignores Strict encoding here there rest size = refl
ignores Ignore encoding here there rest size = refl
ignores Replace encoding here there rest size = refl
ignores XmlCharRefReplace encoding here there rest size = refl
ignores BackslashReplace encoding here there rest size = refl
ignores SurrogatePass encoding here there rest size = refl
ignores SurrogateEscape encoding here there rest size = refl

unit_anywhere : (encoding : Encoding) (order : Order) (here there : Bool) (bytes : List ℕ) → first_unit encoding order here bytes ≡ first_unit encoding order there bytes
unit_anywhere Utf8 order here there bytes = refl
unit_anywhere Latin1 order here there bytes = refl
unit_anywhere Ascii order here there bytes = refl
unit_anywhere Utf16Le order here there bytes = refl
unit_anywhere Utf16Be order here there bytes = refl

item_anywhere : (treat : Treatment) (last : Bool) (here there : ℕ) (bytes : List ℕ) (unit : Option Read) → IgnoresPlace treat → item_of treat last here bytes unit ≡ item_of treat last there bytes unit
item_anywhere treat last here there bytes None ignoring = refl
item_anywhere treat last here there bytes (Some (Character c n)) ignoring = refl
item_anywhere treat last here there bytes (Some (Malformed n)) ignoring = ap (item_handled n) (ignoring here there bytes n)
item_anywhere treat true here there bytes (Some (Cut n)) ignoring = ap (item_handled n) (ignoring here there bytes n)
item_anywhere treat false here there bytes (Some (Cut n)) ignoring = refl

-- two decodings have the same characters, and a range is refused by both or by none
pub record IsAlike (walk other : Walk) : Type 0 where
  pub characters : characters_of walk.items ≡ characters_of other.items
  pub refused : is_some (refusal_of walk.ending) ≡ is_some (refusal_of other.ending)

onto_anywhere : (order : Order) (here there : ℕ) (first : FirstItem) (walk other : Walk) → IsAlike walk other → IsAlike (onto_walk order here first walk) (onto_walk order there first other)
onto_anywhere order here there (Given characters used) walk other same = record { characters = ap (λ (cs : List ℕ). characters ++ cs) same.characters; refused = same.refused }
onto_anywhere order here there (RefusedRange size) walk other same = record { characters = refl; refused = refl }
onto_anywhere order here there Unfinished walk other same = record { characters = refl; refused = refl }

walk_anywhere : (encoding : Encoding) (treat : Treatment) (last : Bool) (order : Order) (here there skip : ℕ) (bytes : List ℕ) → IgnoresPlace treat → IsAlike (walk_from encoding treat last order here skip bytes) (walk_from encoding treat last order there skip bytes)
walk_anywhere encoding treat last order here there skip [] ignoring = record { characters = refl; refused = refl }
walk_anywhere encoding treat last order here there (suc skip) (byte ∷ rest) ignoring = walk_anywhere encoding treat last order (here + 1) (there + 1) skip rest ignoring
walk_anywhere encoding treat last order here there zero (byte ∷ rest) ignoring =
    let first : FirstItem = first_item encoding treat last order there (byte ∷ rest) in
    let same : first_item encoding treat last order here (byte ∷ rest) ≡ first =
    ap (λ (unit : Option Read). item_of treat last here (byte ∷ rest) unit) (unit_anywhere encoding order (nat_eq here 0) (nat_eq there 0) (byte ∷ rest))
    ∙ item_anywhere treat last here there (byte ∷ rest) (first_unit encoding order (nat_eq there 0) (byte ∷ rest)) ignoring in
    let other : Walk = walk_from encoding treat last order there 0 (byte ∷ rest) in
    subst (λ (item : FirstItem). IsAlike (onto_walk order here item (walk_from encoding treat last order (here + 1) (used_behind item) rest)) other) (sym same)
    (onto_anywhere order here there first (walk_from encoding treat last order (here + 1) (used_behind first) rest) (walk_from encoding treat last order (there + 1) (used_behind first) rest)
    (walk_anywhere encoding treat last order (here + 1) (there + 1) (used_behind first) rest ignoring))

pub alike_anywhere : (handler : Handler) (encoding : Encoding) (last : Bool) (order : Order) (here there : ℕ) (bytes : List ℕ) → IsAlike (walk_from encoding (treatment handler encoding) last order here 0 bytes) (walk_from encoding (treatment handler encoding) last order there 0 bytes)
alike_anywhere handler encoding last order here there bytes = walk_anywhere encoding (treatment handler encoding) last order here there 0 bytes (ignores handler encoding)
