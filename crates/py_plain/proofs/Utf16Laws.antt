-- What a unit of UTF-16 says of the bytes that it stands for.
use Rattle.std.proofs.Common.{◌≡◌, ℕ, ◌+◌, ◌-◌, ◌*◌, ◌/◌, ◌%◌, ◌<◌, ◌≤◌, ◌⊎◌, inl, inr, Bool, true, false, cond, nat_lt, List, [], ◌∷◌, ◌++◌, length as len, take, Some, refl, sym, ap, subst, ◌∙◌, arith}
use Rattle.std.specs.Char.{IsScalar}
use Rattle.std.proofs.lemmas.Bool.{cond-true, cond-false, cond_both, cases_Bool, ltb-false, lt-ltb, le-ltb}
use Rattle.std.proofs.lemmas.List.{append_assoc, length-append}
use Rattle.std.proofs.lemmas.List.Elements.{All-head, All-tail}
use lib.Utf8.{scalar_cases}
use Rattle.py_plain.specs.declared.unit.Unit.{Unit as Read}
use Rattle.py_plain.specs.declared.unit.Unit.TheVariants.{Character, Malformed}
use Rattle.py_plain.specs.Utf16.{code_unit, is_high, is_low, joined, behind_high, unit_of, utf16_unit}
use Rattle.py_plain.specs.Encode.{unit_bytes, utf16_bytes}
use Rattle.py_plain.specs.UnitLaws.{AreBytes}
use Rattle.py_plain.proofs.Rows.{is_within-below, is_within-above, is_within-false}
use Rattle.py_plain.proofs.UnitLaws.{scalar_below, scalar_above}
use Rattle.py_plain.proofs.Surrogates.{is_high-in, is_low-in, is_high-true, is_low-true}

-- Surrogates.

is_high-false : (unit : ℕ) → is_high unit ≡ false → (unit < 0xD800) ⊎ (0xDBFF < unit)
unfolding is_high
is_high-false unit is = is_within-false 0xD800 0xDBFF unit is

is_low-false : (unit : ℕ) → is_low unit ≡ false → (unit < 0xDC00) ⊎ (0xDFFF < unit)
unfolding is_low
is_low-false unit is = is_within-false 0xDC00 0xDFFF unit is

not_high : (unit : ℕ) → (unit < 0xD800) ⊎ (0xDBFF < unit) → is_high unit ≡ false
unfolding is_high
not_high unit out = elim out [ inl below ↦ is_within-below 0xD800 0xDBFF unit below | inr above ↦ is_within-above 0xD800 0xDBFF unit above ]

not_low : (unit : ℕ) → (unit < 0xDC00) ⊎ (0xDFFF < unit) → is_low unit ≡ false
unfolding is_low
not_low unit out = elim out [ inl below ↦ is_within-below 0xDC00 0xDFFF unit below | inr above ↦ is_within-above 0xDC00 0xDFFF unit above ]

-- Code units and their bytes.

-- two bytes are read as the unit that they were written for
read_unit : (big : Bool) (unit : ℕ) (rest : List ℕ) → utf16_unit big (unit_bytes big unit ++ rest) ≡ Some (unit_of big unit rest)
read_unit true unit rest =
    let same : unit / 256 * 256 + unit % 256 ≡ unit = omega arith in
    ap (λ (read : ℕ). Some (unit_of true read rest)) same
read_unit false unit rest =
    let same : unit / 256 * 256 + unit % 256 ≡ unit = omega arith in
    ap (λ (read : ℕ). Some (unit_of false read rest)) same

-- after the first of a pair, two bytes are read as the unit that they were written for: its second, or an unpaired one
read_behind : (big : Bool) (high unit : ℕ) (rest : List ℕ) → behind_high big high (unit_bytes big unit ++ rest) ≡ cond (is_low unit) (Character (joined high unit) 4) (Malformed 2)
read_behind true high unit rest =
    let same : unit / 256 * 256 + unit % 256 ≡ unit = omega arith in
    ap (λ (read : ℕ). cond (is_low read) (Character (joined high read) 4) (Malformed 2)) same
read_behind false high unit rest =
    let same : unit / 256 * 256 + unit % 256 ≡ unit = omega arith in
    ap (λ (read : ℕ). cond (is_low read) (Character (joined high read) 4) (Malformed 2)) same

-- bytes are written for the unit that they are read as
written_unit : (big : Bool) (first second : ℕ) → first < 0x100 → second < 0x100 → unit_bytes big (code_unit big first second) ≡ first ∷ second ∷ []
written_unit true first second one two =
    let greater : (first * 256 + second) / 256 ≡ first = omega arith in
    let lesser : (first * 256 + second) % 256 ≡ second = omega arith in
    ap (λ (byte : ℕ). byte ∷ (first * 256 + second) % 256 ∷ []) greater ∙ ap (λ (byte : ℕ). first ∷ byte ∷ []) lesser
written_unit false first second one two =
    let greater : (second * 256 + first) / 256 ≡ second = omega arith in
    let lesser : (second * 256 + first) % 256 ≡ first = omega arith in
    ap (λ (byte : ℕ). byte ∷ (second * 256 + first) / 256 ∷ []) lesser ∙ ap (λ (byte : ℕ). first ∷ byte ∷ []) greater

code_unit_below : (big : Bool) (first second : ℕ) → first < 0x100 → second < 0x100 → code_unit big first second < 0x10000
code_unit_below true first second one two = omega arith
code_unit_below false first second one two = omega arith

unit_length : (big : Bool) (unit : ℕ) → len (unit_bytes big unit) ≡ 2
unit_length true unit = refl
unit_length false unit = refl

-- The bytes of a character are one unit.

alone : (big : Bool) (unit : ℕ) (rest : List ℕ) → (unit < 0xD800) ⊎ (0xE000 ≤ unit) → unit_of big unit rest ≡ Character unit 2
alone big unit rest ranges =
    let high : is_high unit ≡ false = not_high unit (elim ranges [ inl below ↦ inl below | inr above ↦ inr (omega arith) ]) in
    let low : is_low unit ≡ false = not_low unit (elim ranges [ inl below ↦ inl (omega arith) | inr above ↦ inr (omega arith) ]) in
    cond-false (is_high unit) (behind_high big unit rest) _ high ∙ cond-false (is_low unit) (Malformed 2) (Character unit 2) low

paired : (big : Bool) (high low : ℕ) (rest : List ℕ) → is_high high ≡ true → is_low low ≡ true → unit_of big high (unit_bytes big low ++ rest) ≡ Character (joined high low) 4
paired big high low rest is_high is_low =
    cond-true _ (behind_high big high (unit_bytes big low ++ rest)) _ is_high
    ∙ (read_behind big high low rest ∙ cond-true _ (Character (joined high low) 4) (Malformed 2) is_low)

short : (big : Bool) (c : ℕ) (rest : List ℕ) → (c < 0xD800) ⊎ (0xE000 ≤ c) → utf16_unit big (unit_bytes big c ++ rest) ≡ Some (Character c (len (unit_bytes big c)))
short big c rest ranges =
    read_unit big c rest
    ∙ (ap (λ (unit : Read). Some unit) (alone big c rest ranges)
    ∙ ap (λ (n : ℕ). Some (Character c n)) (sym (unit_length big c)))

-- a character past the first 65536 as a pair
long : (big : Bool) (c high low : ℕ) (rest : List ℕ) → 0x10000 ≤ c → c < 0x110000 → high ≡ 0xD800 + (c - 0x10000) / 0x400 → low ≡ 0xDC00 + (c - 0x10000) % 0x400 → utf16_unit big ((unit_bytes big high ++ unit_bytes big low) ++ rest) ≡ Some (Character c (len (unit_bytes big high ++ unit_bytes big low)))
long big c high low rest from below high_is low_is =
    let same : joined high low ≡ c = omega arith in
    let four : len (unit_bytes big high ++ unit_bytes big low) ≡ 4 = omega (arith, length-append (unit_bytes big high) (unit_bytes big low), unit_length big high, unit_length big low) in
    ap (utf16_unit big) (append_assoc (unit_bytes big high) (unit_bytes big low) rest)
    ∙ (read_unit big high (unit_bytes big low ++ rest)
    ∙ (ap (λ (unit : Read). Some unit) (paired big high low rest (is_high-in high (omega arith) (omega arith)) (is_low-in low (omega arith) (omega arith)))
    ∙ (ap (λ (read : ℕ). Some (Character read 4)) same
    ∙ ap (λ (n : ℕ). Some (Character c n)) (sym four))))

pub own_utf16 : (big : Bool) (c : ℕ) (rest : List ℕ) → IsScalar c → utf16_unit big (utf16_bytes big c ++ rest) ≡ Some (Character c (len (utf16_bytes big c)))
own_utf16 big c rest scalar =
    let ranges = scalar_cases c scalar in
    cond_both (nat_lt c 0x10000) (unit_bytes big c) (unit_bytes big (0xD800 + (c - 0x10000) / 0x400) ++ unit_bytes big (0xDC00 + (c - 0x10000) % 0x400)) (λ bytes. utf16_unit big (bytes ++ rest) ≡ Some (Character c (len bytes)))
    (λ below. short big c rest (elim ranges [ inl low ↦ inl low | inr high ↦ inr high.0 ]))
    (λ above. let from : 0x10000 ≤ c = ltb-false c 0x10000 above in long big c _ _ rest from (elim ranges [ inl low ↦ omega arith | inr high ↦ high.1 ]) refl refl)

-- A unit that is a character has that character's bytes.

-- what a unit that is a character says of the bytes
abbrev IsOwn : Bool → (c n : ℕ) → List ℕ → Type 0
IsOwn big c n bytes = IsScalar c × (utf16_bytes big c ≡ take n bytes)

same_own : (big : Bool) (c d n m : ℕ) (bytes : List ℕ) → c ≡ d → n ≡ m → IsOwn big c n bytes → IsOwn big d m bytes
same_own big c d n m bytes same far own = subst (λ k. IsOwn big d k bytes) far (subst (λ k. IsOwn big k n bytes) same own)

alone_own : (big : Bool) (first second : ℕ) (rest : List ℕ) → first < 0x100 → second < 0x100 → is_high (code_unit big first second) ≡ false → is_low (code_unit big first second) ≡ false → IsOwn big (code_unit big first second) 2 (first ∷ second ∷ rest)
alone_own big first second rest one two high low =
    let unit = code_unit big first second in
    let below = code_unit_below big first second one two in
    let scalar : IsScalar unit =
    elim (is_high-false unit high) [
      | inl under ↦ scalar_below unit under
      | inr past ↦ elim (is_low-false unit low) [ inl under ↦ absurd (omega arith) | inr over ↦ scalar_above unit (omega arith) (omega arith) ]
    ] in
    (scalar, cond-true (nat_lt unit 0x10000) (unit_bytes big unit) _ (lt-ltb unit 0x10000 below) ∙ written_unit big first second one two)

paired_own : (big : Bool) (first second third fourth : ℕ) (rest : List ℕ) → first < 0x100 → second < 0x100 → third < 0x100 → fourth < 0x100 → is_high (code_unit big first second) ≡ true → is_low (code_unit big third fourth) ≡ true → IsOwn big (joined (code_unit big first second) (code_unit big third fourth)) 4 (first ∷ second ∷ third ∷ fourth ∷ rest)
paired_own big first second third fourth rest one two three four is_high is_low =
    let high = code_unit big first second in
    let low = code_unit big third fourth in
    let highs = is_high-true high is_high in
    let lows = is_low-true low is_low in
    let c = joined high low in
    let from : 0x10000 ≤ c = omega arith in
    let high_is : 0xD800 + (c - 0x10000) / 0x400 ≡ high = omega arith in
    let low_is : 0xDC00 + (c - 0x10000) % 0x400 ≡ low = omega arith in (
      scalar_above c (omega arith) (omega arith),
      cond-false (nat_lt c 0x10000) (unit_bytes big c) _ (le-ltb c 0x10000 from)
          ∙ (ap (λ (unit : ℕ). unit_bytes big unit ++ unit_bytes big (0xDC00 + (c - 0x10000) % 0x400)) high_is
          ∙ (ap (λ (unit : ℕ). unit_bytes big high ++ unit_bytes big unit) low_is
          ∙ (ap (λ (bytes : List ℕ). bytes ++ unit_bytes big low) (written_unit big first second one two)
          ∙ ap (λ (bytes : List ℕ). first ∷ second ∷ bytes) (written_unit big third fourth three four)))),
    )

-- the second of a pair, or none
behind_own : (big : Bool) (first second : ℕ) (rest : List ℕ) (c n : ℕ) → first < 0x100 → second < 0x100 → AreBytes rest → is_high (code_unit big first second) ≡ true → behind_high big (code_unit big first second) rest ≡ Character c n → IsOwn big c n (first ∷ second ∷ rest)
behind_own big first second [] c n one two bytes is_high is = absurd (cc)
behind_own big first second (third ∷ []) c n one two bytes is_high is = absurd (cc)
behind_own big first second (third ∷ fourth ∷ rest) c n one two bytes is_high is =
    let three = All-head (λ byte. byte < 0x100) third (fourth ∷ rest) bytes in
    let four = All-head (λ byte. byte < 0x100) fourth rest (All-tail (λ byte. byte < 0x100) third (fourth ∷ rest) bytes) in
    let high = code_unit big first second in
    let low = code_unit big third fourth in
    elim (cases_Bool (is_low low)) [
      | inl is_low ↦
          let read : Character (joined high low) 4 ≡ Character c n = sym (cond-true _ (Character (joined high low) 4) (Malformed 2) is_low) ∙ is in
          same_own big (joined high low) c 4 n _ (cc) (cc) (paired_own big first second third fourth rest one two three four is_high is_low)
      | inr not_low ↦
          let read : Malformed 2 ≡ Character c n = sym (cond-false _ (Character (joined high low) 4) (Malformed 2) not_low) ∙ is in
          absurd (cc)
    ]

unit_own : (big : Bool) (first second : ℕ) (rest : List ℕ) (c n : ℕ) → first < 0x100 → second < 0x100 → AreBytes rest → unit_of big (code_unit big first second) rest ≡ Character c n → IsOwn big c n (first ∷ second ∷ rest)
unit_own big first second rest c n one two bytes is =
    let unit = code_unit big first second in
    let others : Read = cond (is_low unit) (Malformed 2) (Character unit 2) in
    elim (cases_Bool (is_high unit)) [
      | inl high ↦ behind_own big first second rest c n one two bytes high (sym (cond-true (is_high unit) (behind_high big unit rest) others high) ∙ is)
      | inr not_high ↦ elim (cases_Bool (is_low unit)) [
        | inl low ↦
            let read : Malformed 2 ≡ Character c n = sym (cond-true (is_low unit) (Malformed 2) (Character unit 2) low) ∙ (sym (cond-false (is_high unit) (behind_high big unit rest) others not_high) ∙ is) in
            absurd (cc)
        | inr not_low ↦
            let read : Character unit 2 ≡ Character c n = sym (cond-false (is_low unit) (Malformed 2) (Character unit 2) not_low) ∙ (sym (cond-false (is_high unit) (behind_high big unit rest) others not_high) ∙ is) in
            same_own big unit c 2 n _ (cc) (cc) (alone_own big first second rest one two not_high not_low)
      ]
    ]

pub utf16_own : (big : Bool) (bytes : List ℕ) (c n : ℕ) → AreBytes bytes → utf16_unit big bytes ≡ Some (Character c n) → IsOwn big c n bytes
utf16_own big [] c n bytes is = absurd (cc)
utf16_own big (first ∷ []) c n bytes is = absurd (cc)
utf16_own big (first ∷ second ∷ rest) c n bytes is =
    let behind = All-tail (λ byte. byte < 0x100) first (second ∷ rest) bytes in
    let read : unit_of big (code_unit big first second) rest ≡ Character c n = cc in
    unit_own big first second rest c n (All-head (λ byte. byte < 0x100) first (second ∷ rest) bytes) (All-head (λ byte. byte < 0x100) second rest behind) (All-tail (λ byte. byte < 0x100) second rest behind) read
