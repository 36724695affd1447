-- What the front of a unit is by itself, in any encoding.
use Rattle.std.proofs.Common.{◌≡◌, ℕ, zero, suc, ◌+◌, ◌-◌, ◌*◌, ◌<◌, ◌≤◌, ◌⊎◌, inl, inr, Bool, true, false, cond, List, [], ◌∷◌, length as len, take, Some, Option, IfSome, refl, sym, ap, subst, arith}
use Rattle.std.proofs.Math.Seq.{take-nil}
use Rattle.py_plain.specs.declared.encoding.Encoding.{Encoding}
use Rattle.py_plain.specs.declared.encoding.Encoding.TheVariants.{Utf8, Latin1, Ascii, Utf16Le, Utf16Be}
use Rattle.py_plain.specs.declared.unit.Unit.{Unit as Read}
use Rattle.py_plain.specs.declared.unit.Unit.TheVariants.{Character, Malformed, Cut}
use Rattle.py_plain.specs.Utf8.{Lead, Alone, Leads, Never, is_within, lead, sequence, unit_after}
use Rattle.py_plain.specs.Utf16.{code_unit, is_high, is_low, joined, behind_high, unit_of, utf16_unit}
use Rattle.py_plain.specs.OneByte.{is_ascii}
use Rattle.py_plain.specs.Units.{Order, first_unit}
use Rattle.py_plain.proofs.UnitLaws.{Uses, sequence-uses}

-- all of some bytes are no character
abbrev pub IsRefused : ℕ → Read → Type 0
IsRefused count front = (front ≡ Malformed count) ⊎ (front ≡ Cut count)

-- what the first bytes of a unit are by themselves: all bytes of a character are that character, and any of a range
-- that is no character are such a range
abbrev pub FrontIs : Read → ℕ → Read → Type 0
FrontIs (Character c n) count front = count ≡ n → front ≡ Character c n
FrontIs (Malformed n) count front = 1 ≤ count → count ≤ n → IsRefused count front
FrontIs (Cut n) count front = 1 ≤ count → count ≤ n → IsRefused count front

-- a cut front, by how many bytes the unit has
cut_front : (count : ℕ) (unit : Read) → ((c : ℕ) → unit ≡ Character c count → ⊥) → FrontIs unit count (Cut count)
cut_front count (Character c n) longer = λ same. absurd (longer c (ap (λ (k : ℕ). Character c k) (sym same)))
cut_front count (Malformed n) longer = λ from to. inr refl
cut_front count (Cut n) longer = λ from to. inr refl

whole_malformed : (count n : ℕ) → n ≤ count → FrontIs (Malformed n) count (Malformed n)
whole_malformed count n past = λ from to. let same : n ≡ count = omega arith in inl (ap (λ (k : ℕ). Malformed k) same)

whole_cut : (count n : ℕ) → n ≤ count → FrontIs (Cut n) count (Cut n)
whole_cut count n past = λ from to. let same : n ≡ count = omega arith in inr (ap (λ (k : ℕ). Cut k) same)

front_if : (b : Bool) (count : ℕ) (unit other front other_front : Read) → FrontIs unit count front → FrontIs other count other_front → FrontIs (cond b unit other) count (cond b front other_front)
front_if true count unit other front other_front one two = one
front_if false count unit other front other_front one two = two

-- a cut front of a unit that is a longer character, or no character
cut_if : (b : Bool) (c n m count : ℕ) → count < n → FrontIs (cond b (Character c n) (Malformed m)) count (Cut count)
cut_if true c n m count below = λ same. absurd (omega arith)
cut_if false c n m count below = λ from to. inr refl

-- UTF-8.

uses_more : (length follow left c n : ℕ) (unit : Read) → Uses length follow left unit → unit ≡ Character c n → n ≡ length + follow
uses_more length follow left c n unit uses is = (subst (Uses length follow left) is uses).0

sequence_front : (length follow low high bits : ℕ) (rest : List ℕ) (count : ℕ) → FrontIs (sequence length follow low high bits rest) (length + count) (sequence length follow low high bits (take count rest))
sequence_front length zero low high bits rest count = λ same. refl
sequence_front length (suc follow) low high bits [] count =
    subst (λ (front : List ℕ). FrontIs (Cut length) (length + count) (sequence length (suc follow) low high bits front)) (sym (take-nil count)) (whole_cut (length + count) length (omega arith))
sequence_front length (suc follow) low high bits (byte ∷ rest) zero =
    let here : length + 0 ≡ length = omega arith in
    subst (λ (k : ℕ). FrontIs (sequence length (suc follow) low high bits (byte ∷ rest)) k (Cut length)) (sym here)
    (cut_front length (sequence length (suc follow) low high bits (byte ∷ rest)) (λ c is. omega (arith, uses_more length (suc follow) (suc (len rest)) c length _ (sequence-uses length (suc follow) low high bits (byte ∷ rest)) is)))
sequence_front length (suc follow) low high bits (byte ∷ rest) (suc count) =
    let far : length + 1 + count ≡ length + suc count = omega arith in
    let bits_more = bits * 64 + (byte - 0x80) in
    front_if (is_within low high byte) (length + suc count) _ (Malformed length) _ (Malformed length)
    (subst (λ (k : ℕ). FrontIs (sequence (length + 1) follow 0x80 0xBF bits_more rest) k (sequence (length + 1) follow 0x80 0xBF bits_more (take count rest))) far (sequence_front (length + 1) follow 0x80 0xBF bits_more rest count))
    (whole_malformed (length + suc count) length (omega arith))

after_front : (byte : ℕ) (at : Lead) (rest : List ℕ) (count : ℕ) → FrontIs (unit_after byte at rest) (suc count) (unit_after byte at (take count rest))
after_front byte Alone rest count = λ same. refl
after_front byte (Leads follow low high bits) rest count =
    let here : 1 + count ≡ suc count = omega arith in
    subst (λ (k : ℕ). FrontIs (sequence 1 follow low high bits rest) k (sequence 1 follow low high bits (take count rest))) here (sequence_front 1 follow low high bits rest count)
after_front byte Never rest count = whole_malformed (suc count) 1 (omega arith)

-- UTF-16.

high_front : (big : Bool) (high : ℕ) (rest : List ℕ) (count : ℕ) → FrontIs (behind_high big high rest) (suc (suc count)) (behind_high big high (take count rest))
high_front big high [] count =
    subst (λ (front : List ℕ). FrontIs (Cut 2) (suc (suc count)) (behind_high big high front)) (sym (take-nil count)) (whole_cut (suc (suc count)) 2 (omega arith))
high_front big high (first ∷ []) zero = λ from to. inr refl
high_front big high (first ∷ []) (suc count) =
    subst (λ (front : List ℕ). FrontIs (Cut 3) (suc (suc (suc count))) (behind_high big high (first ∷ front))) (sym (take-nil count)) (whole_cut (suc (suc (suc count))) 3 (omega arith))
high_front big high (first ∷ second ∷ rest) zero =
    let low = code_unit big first second in
    cut_if (is_low low) (joined high low) 4 2 2 (omega arith)
high_front big high (first ∷ second ∷ rest) (suc zero) =
    let low = code_unit big first second in
    cut_if (is_low low) (joined high low) 4 2 3 (omega arith)
high_front big high (first ∷ second ∷ rest) (suc (suc count)) =
    front_if (is_low (code_unit big first second)) _ _ (Malformed 2) _ (Malformed 2) (λ same. refl) (whole_malformed _ 2 (omega arith))

two_front : (big : Bool) (unit : ℕ) (rest : List ℕ) (count : ℕ) → FrontIs (unit_of big unit rest) (suc (suc count)) (unit_of big unit (take count rest))
two_front big unit rest count =
    front_if (is_high unit) (suc (suc count)) (behind_high big unit rest) (cond (is_low unit) (Malformed 2) (Character unit 2)) (behind_high big unit (take count rest)) (cond (is_low unit) (Malformed 2) (Character unit 2)) (high_front big unit rest count)
    (front_if (is_low unit) (suc (suc count)) (Malformed 2) (Character unit 2) (Malformed 2) (Character unit 2) (whole_malformed (suc (suc count)) 2 (omega arith)) (λ same. refl))

-- a character of two bytes or more
abbrev Longer : Read → Type 0
Longer (Character c n) = 2 ≤ n
Longer _ = Unit {0}

longer_if : (b : Bool) (one two : Read) → Longer one → Longer two → Longer (cond b one two)
longer_if true one two first second = first
longer_if false one two first second = second

high_longer : (big : Bool) (high : ℕ) (rest : List ℕ) → Longer (behind_high big high rest)
high_longer big high [] = tt
high_longer big high (first ∷ []) = tt
high_longer big high (first ∷ second ∷ rest) = longer_if (is_low (code_unit big first second)) _ (Malformed 2) (omega arith) tt

longer : (big : Bool) (unit : ℕ) (rest : List ℕ) → Longer (unit_of big unit rest)
longer big unit rest = longer_if (is_high unit) _ _ (high_longer big unit rest) (longer_if (is_low unit) (Malformed 2) (Character unit 2) tt (omega arith))

two_longer : (big : Bool) (unit : ℕ) (rest : List ℕ) (c : ℕ) → unit_of big unit rest ≡ Character c 1 → ⊥
two_longer big unit rest c is = omega (arith, (subst Longer is (longer big unit rest)))

-- where there are a unit and a front of it: what its first bytes are by themselves
abbrev pub FrontIsIf : Option Read → ℕ → Option Read → Type 0
FrontIsIf unit count front = IfSome unit (λ whole. IfSome front (λ part. FrontIs whole count part))

utf16_front : (big : Bool) (bytes : List ℕ) (count : ℕ) → 1 ≤ count → FrontIsIf (utf16_unit big bytes) count (utf16_unit big (take count bytes))
utf16_front big [] count some = tt
utf16_front big (first ∷ rest) zero some = absurd (omega (arith, some))
utf16_front big (first ∷ []) (suc count) some =
    subst (λ (front : List ℕ). FrontIsIf (Some (Cut 1)) (suc count) (utf16_unit big (first ∷ front))) (sym (take-nil count)) (whole_cut (suc count) 1 (omega arith))
utf16_front big (first ∷ second ∷ rest) (suc zero) some =
    cut_front 1 (unit_of big (code_unit big first second) rest) (two_longer big (code_unit big first second) rest)
utf16_front big (first ∷ second ∷ rest) (suc (suc count)) some = two_front big (code_unit big first second) rest count

pub unit_front : (encoding : Encoding) (order : Order) (at_start : Bool) (bytes : List ℕ) (count : ℕ) → 1 ≤ count → FrontIsIf (first_unit encoding order at_start bytes) count (first_unit encoding order at_start (take count bytes))
unit_front Utf8 order at_start [] count some = tt
unit_front Utf8 order at_start (byte ∷ rest) zero some = absurd (omega (arith, some))
unit_front Utf8 order at_start (byte ∷ rest) (suc count) some = after_front byte (lead byte) rest count
unit_front Latin1 order at_start [] count some = tt
unit_front Latin1 order at_start (byte ∷ rest) zero some = absurd (omega (arith, some))
unit_front Latin1 order at_start (byte ∷ rest) (suc count) some = λ same. refl
unit_front Ascii order at_start [] count some = tt
unit_front Ascii order at_start (byte ∷ rest) zero some = absurd (omega (arith, some))
unit_front Ascii order at_start (byte ∷ rest) (suc count) some =
    front_if (is_ascii byte) (suc count) (Character byte 1) (Malformed 1) (Character byte 1) (Malformed 1) (λ same. refl) (whole_malformed (suc count) 1 (omega arith))
unit_front Utf16Le order at_start bytes count some = utf16_front false bytes count some
unit_front Utf16Be order at_start bytes count some = utf16_front true bytes count some
