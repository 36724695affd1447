-- The bytes of a character in any encoding are one unit, and a unit that is a character has its bytes.
use Rattle.std.proofs.Common.{◌≡◌, ℕ, ◌<◌, inl, inr, Bool, true, false, cond, nat_lt, List, [], ◌∷◌, ◌++◌, length as len, take, Some, None, Option, refl, sym, ap, subst, ◌∙◌, arith}
use Rattle.std.specs.Char.{IsScalar, encode_utf8}
use Rattle.std.proofs.lemmas.Bool.{cond-true, cond-false, cases_Bool, ltb-true, lt-ltb}
use Rattle.std.proofs.lemmas.List.Elements.{All-head}
use Rattle.py_plain.specs.declared.encoding.Encoding.{Encoding}
use Rattle.py_plain.specs.declared.encoding.Encoding.TheVariants.{Utf8, Latin1, Ascii, Utf16Le, Utf16Be}
use Rattle.py_plain.specs.declared.unit.Unit.{Unit as Read}
use Rattle.py_plain.specs.declared.unit.Unit.TheVariants.{Character, Malformed}
use Rattle.py_plain.specs.Utf8.{utf8_unit}
use Rattle.py_plain.specs.Utf16.{utf16_unit}
use Rattle.py_plain.specs.OneByte.{is_ascii, latin1_unit, ascii_unit}
use Rattle.py_plain.specs.Units.{Order, first_unit}
use Rattle.py_plain.specs.UnitLaws.{AreBytes}
use Rattle.py_plain.specs.Encode.{utf16_bytes, own_bytes}
use Rattle.py_plain.proofs.UnitLaws.{scalar_below, character_own, one_unit}
use Rattle.py_plain.proofs.Utf16Laws.{own_utf16, utf16_own}

-- what some bytes begin with whose front is all the bytes of a character
abbrev IsUnit : (List ℕ → Option Read) → (c : ℕ) (rest bytes : List ℕ) → Type 0
IsUnit unit c rest bytes = unit (bytes ++ rest) ≡ Some (Character c (len bytes))

unit_some_of : (unit : List ℕ → Option Read) (c : ℕ) (rest own bytes : List ℕ) → Some own ≡ Some bytes → IsUnit unit c rest own → IsUnit unit c rest bytes
unit_some_of unit c rest own bytes is here =
    let same : own ≡ bytes = cc in
    subst (IsUnit unit c rest) same here

unit_if : (unit : List ℕ → Option Read) (c : ℕ) (rest bytes : List ℕ) (b : Bool) → cond b (Some (c ∷ [])) None ≡ Some bytes → (b ≡ true → IsUnit unit c rest (c ∷ [])) → IsUnit unit c rest bytes
unit_if unit c rest bytes true is here = unit_some_of unit c rest (c ∷ []) bytes is (here refl)
unit_if unit c rest bytes false is here = absurd (cc)

ascii_unit-below : (byte : ℕ) (rest : List ℕ) → byte < 0x80 → ascii_unit (byte ∷ rest) ≡ Some (Character byte 1)
unfolding is_ascii
ascii_unit-below byte rest below = ap (λ (u : Read). Some u) (cond-true (is_ascii byte) (Character byte 1) (Malformed 1) (lt-ltb byte 0x80 below))

is_ascii-true : (byte : ℕ) → is_ascii byte ≡ true → byte < 0x80
unfolding is_ascii
is_ascii-true byte is = ltb-true byte 0x80 is

-- the bytes of a character are one unit, whatever stands after them
pub own_unit : (encoding : Encoding) (order : Order) (at_start : Bool) (c : ℕ) (bytes rest : List ℕ) → IsScalar c → own_bytes encoding c ≡ Some bytes → first_unit encoding order at_start (bytes ++ rest) ≡ Some (Character c (len bytes))
own_unit Utf8 order at_start c bytes rest scalar is = unit_some_of utf8_unit c rest (encode_utf8 c) bytes is (one_unit c rest scalar)
own_unit Latin1 order at_start c bytes rest scalar is = unit_if latin1_unit c rest bytes (nat_lt c 0x100) is (λ below. refl)
own_unit Ascii order at_start c bytes rest scalar is = unit_if ascii_unit c rest bytes (nat_lt c 0x80) is (λ below. ascii_unit-below c rest (ltb-true c 0x80 below))
own_unit Utf16Le order at_start c bytes rest scalar is = unit_some_of (utf16_unit false) c rest (utf16_bytes false c) bytes is (own_utf16 false c rest scalar)
own_unit Utf16Be order at_start c bytes rest scalar is = unit_some_of (utf16_unit true) c rest (utf16_bytes true c) bytes is (own_utf16 true c rest scalar)

-- what a unit that is a character says of the bytes
abbrev pub IsOwn : Encoding → (c n : ℕ) → List ℕ → Type 0
IsOwn encoding c n bytes = IsScalar c × (own_bytes encoding c ≡ Some (take n bytes))

one_own : (encoding : Encoding) (byte c n : ℕ) (rest : List ℕ) → Character byte 1 ≡ Character c n → byte < 0x100 → own_bytes encoding byte ≡ Some (byte ∷ []) → IsOwn encoding c n (byte ∷ rest)
one_own encoding byte c n rest is below own =
    let same : byte ≡ c = cc in
    let one : 1 ≡ n = cc in
    subst (λ k. IsOwn encoding c k (byte ∷ rest)) one (subst (λ k. IsOwn encoding k 1 (byte ∷ rest)) same (scalar_below byte (omega arith), own))

-- a unit that is a character is the character whose bytes stand there
pub unit_own : (encoding : Encoding) (order : Order) (at_start : Bool) (bytes : List ℕ) (c n : ℕ) → AreBytes bytes → first_unit encoding order at_start bytes ≡ Some (Character c n) → IsOwn encoding c n bytes
unit_own Utf8 order at_start bytes c n are is =
    let own = character_own bytes c n is in (own.0, ap (λ (bs : List ℕ). Some bs) (sym own.1))
unit_own Latin1 order at_start [] c n are is = absurd (cc)
unit_own Latin1 order at_start (byte ∷ rest) c n are is =
    let below = All-head (λ b. b < 0x100) byte rest are in
    one_own Latin1 byte c n rest (cc) below (cond-true (nat_lt byte 0x100) (Some (byte ∷ [])) None (lt-ltb byte 0x100 below))
unit_own Ascii order at_start [] c n are is = absurd (cc)
unit_own Ascii order at_start (byte ∷ rest) c n are is =
    let below = All-head (λ b. b < 0x100) byte rest are in
    let unit : cond (is_ascii byte) (Character byte 1) (Malformed 1) ≡ Character c n = cc in
    elim (cases_Bool (is_ascii byte)) [
      | inl ascii ↦ one_own Ascii byte c n rest (sym (cond-true (is_ascii byte) (Character byte 1) (Malformed 1) ascii) ∙ unit) below (cond-true (nat_lt byte 0x80) (Some (byte ∷ [])) None (lt-ltb byte 0x80 (is_ascii-true byte ascii)))
      | inr other ↦ let read : Malformed 1 ≡ Character c n = sym (cond-false (is_ascii byte) (Character byte 1) (Malformed 1) other) ∙ unit in absurd (cc)
    ]
unit_own Utf16Le order at_start bytes c n are is =
    let own = utf16_own false bytes c n are is in (own.0, ap (λ (bs : List ℕ). Some bs) own.1)
unit_own Utf16Be order at_start bytes c n are is =
    let own = utf16_own true bytes c n are is in (own.0, ap (λ (bs : List ℕ). Some bs) own.1)
