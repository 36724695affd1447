-- What a unit of UTF-8 says of the bytes that it stands for.
use Rattle.std.proofs.Common.{◌≡◌, ℕ, zero, suc, ◌+◌, ◌-◌, ◌*◌, ◌/◌, ◌<◌, ◌≤◌, ◌⊎◌, inl, inr, cond, List, [], ◌∷◌, ◌++◌, length as len, take, Some, refl, sym, ap, subst, ◌∙◌, arith}
use Rattle.std.specs.Char.{IsScalar, encode_utf8}
use Rattle.std.proofs.lemmas.Bool.{cond-true, cond-false, cond_both, lt-ltb, le-ltb, le-leb, and_from, cases_lt}
use lib.Utf8.{scalar_cases}
use Rattle.py_plain.specs.declared.unit.Unit.{Unit as Read}
use Rattle.py_plain.specs.declared.unit.Unit.TheVariants.{Character, Malformed, Cut}
use Rattle.py_plain.specs.Utf8.{Lead, Alone, Leads, Never, is_within, lead, sequence, unit_after, utf8_unit}
use Rattle.py_plain.specs.Spelling.{Spells, least, greatest}
use Rattle.py_plain.specs.UnitLaws.{IsUtf8Long}
use Rattle.py_plain.proofs.Rows.{is_within-true, lead-ascii, lead-C2, lead-E0, lead-E1, lead-ED, lead-EE, lead-F0, lead-F1, lead-F4}
use Rattle.py_plain.proofs.Encoded.{upper, tail, continuing, IsSpelled, spelled, FirstFits, sequence-spells, encode-1, encode-2, encode-3, encode-4}

-- what holds of what a byte says, row by row
by_rows : (P : Lead → Type 0) (byte : ℕ) → (byte ≤ 0x7F → P Alone) → (0xC2 ≤ byte → byte ≤ 0xDF → P (Leads 1 0x80 0xBF (byte - 0xC0))) → (0xE0 ≤ byte → byte ≤ 0xE0 → P (Leads 2 0xA0 0xBF (byte - 0xE0))) → (0xE1 ≤ byte → byte ≤ 0xEC → P (Leads 2 0x80 0xBF (byte - 0xE0))) → (0xED ≤ byte → byte ≤ 0xED → P (Leads 2 0x80 0x9F (byte - 0xE0))) → (0xEE ≤ byte → byte ≤ 0xEF → P (Leads 2 0x80 0xBF (byte - 0xE0))) → (0xF0 ≤ byte → byte ≤ 0xF0 → P (Leads 3 0x90 0xBF (byte - 0xF0))) → (0xF1 ≤ byte → byte ≤ 0xF3 → P (Leads 3 0x80 0xBF (byte - 0xF0))) → (0xF4 ≤ byte → byte ≤ 0xF4 → P (Leads 3 0x80 0x8F (byte - 0xF0))) → P Never → P (lead byte)
unfolding lead
by_rows P byte ascii c2 e0 e1 ed ee f0 f1 f4 never =
    let row : (low high : ℕ) (at others : Lead) → (low ≤ byte → byte ≤ high → P at) → P others → P (cond (is_within low high byte) at others) =
    λ low high at others here there. cond_both (is_within low high byte) at others P (λ within. let range = is_within-true low high byte within in here range.0 range.1) (λ without. there) in
    row _ _ _ _ (λ from to. ascii to) (row _ _ _ _ c2 (row _ _ _ _ e0 (row _ _ _ _ e1 (row _ _ _ _ ed (row _ _ _ _ ee (row _ _ _ _ f0 (row _ _ _ _ f1 (row _ _ _ _ f4 never))))))))

-- Characters.

pub scalar_below : (c : ℕ) → c < 0xD800 → IsScalar c
scalar_below c below = cond-true _ _ _ (lt-ltb c 0xD800 below)

pub scalar_above : (c : ℕ) → 0xE000 ≤ c → c < 0x110000 → IsScalar c
scalar_above c from below = cond-false _ _ _ (le-ltb c 0xD800 (omega arith)) ∙ and_from _ _ (le-leb 0xE000 c from) (lt-ltb c 0x110000 below)

scalar_spelled : (follow low high bits : ℕ) (rest : List ℕ) (c : ℕ) → Spells follow low high bits → IsSpelled follow low high bits rest c → IsScalar c
scalar_spelled follow low high bits rest c spells is =
    elim spells.scalars [ inl below ↦ scalar_below c (omega (arith, is.to)) | inr above ↦ scalar_above c (omega (arith, is.from, above.0)) (omega (arith, is.to, above.1)) ]

-- what a unit that is a character says of the bytes
abbrev IsOwn : (c n : ℕ) → List ℕ → Type 0
IsOwn c n bytes = IsScalar c × (take n bytes ≡ encode_utf8 c)

own_at : (c n m : ℕ) (bytes : List ℕ) → n ≡ m → IsScalar c → take m bytes ≡ encode_utf8 c → IsOwn c n bytes
own_at c n m bytes same scalar is = (scalar, ap (λ k. take k bytes) same ∙ is)

own-2 : (byte : ℕ) (rest : List ℕ) (c n : ℕ) → 0xC2 ≤ byte → Spells 1 0x80 0xBF (byte - 0xC0) → byte ≤ 0xDF → sequence 1 1 0x80 0xBF (byte - 0xC0) rest ≡ Character c n → IsOwn c n (byte ∷ rest)
own-2 byte rest c n from spells to is =
    let whole = spelled 1 1 0x80 0xBF (byte - 0xC0) rest c n (omega arith) (omega arith) is in
    let ranges : (0x80 ≤ c) × (c < 0x800) = (omega (arith, whole.0.from), omega (arith, whole.0.to)) in
    own_at c n 2 (byte ∷ rest) whole.1 (scalar_spelled 1 0x80 0xBF (byte - 0xC0) rest c spells whole.0)
    (ap (λ bs. byte ∷ bs) whole.0.rest_is ∙ sym (encode-2 c byte ranges.0 ranges.1 (omega (arith, whole.0.bits_are))))

own-3 : (byte low high : ℕ) (rest : List ℕ) (c n : ℕ) → 0xE0 ≤ byte → Spells 2 low high (byte - 0xE0) → 0x800 ≤ least 2 low (byte - 0xE0) → greatest 2 high (byte - 0xE0) < 0x10000 → sequence 1 2 low high (byte - 0xE0) rest ≡ Character c n → IsOwn c n (byte ∷ rest)
own-3 byte low high rest c n from spells least_is greatest_is is =
    let whole = spelled 1 2 low high (byte - 0xE0) rest c n spells.from spells.to is in
    own_at c n 3 (byte ∷ rest) whole.1 (scalar_spelled 2 low high (byte - 0xE0) rest c spells whole.0)
    (ap (λ bs. byte ∷ bs) whole.0.rest_is ∙ sym (encode-3 c byte (omega (arith, whole.0.from)) (omega (arith, whole.0.to)) (omega (arith, whole.0.bits_are))))

own-4 : (byte low high : ℕ) (rest : List ℕ) (c n : ℕ) → 0xF0 ≤ byte → Spells 3 low high (byte - 0xF0) → 0x10000 ≤ least 3 low (byte - 0xF0) → sequence 1 3 low high (byte - 0xF0) rest ≡ Character c n → IsOwn c n (byte ∷ rest)
own-4 byte low high rest c n from spells least_is is =
    let whole = spelled 1 3 low high (byte - 0xF0) rest c n spells.from spells.to is in
    own_at c n 4 (byte ∷ rest) whole.1 (scalar_spelled 3 low high (byte - 0xF0) rest c spells whole.0)
    (ap (λ bs. byte ∷ bs) whole.0.rest_is ∙ sym (encode-4 c byte (omega (arith, whole.0.from)) (omega (arith, whole.0.bits_are))))

own : (byte : ℕ) (rest : List ℕ) (c n : ℕ) → unit_after byte (lead byte) rest ≡ Character c n → IsOwn c n (byte ∷ rest)
own byte rest c n = by_rows (λ l. unit_after byte l rest ≡ Character c n → IsOwn c n (byte ∷ rest)) byte
    (λ to is.
    let same : byte ≡ c = cc in
    let one : n ≡ 1 = cc in
    own_at c n 1 (byte ∷ rest) one (scalar_below c (omega arith)) (ap (λ b. b ∷ []) same ∙ sym (encode-1 c (omega arith))))
    (λ from to is. own-2 byte rest c n from (record { short = omega arith; from = omega arith; to = omega arith; scalars = inl (omega arith) }) to is)
    (λ from to is. own-3 byte 0xA0 0xBF rest c n from (record { short = omega arith; from = omega arith; to = omega arith; scalars = inl (omega arith) }) (omega arith) (omega arith) is)
    (λ from to is. own-3 byte 0x80 0xBF rest c n (omega arith) (record { short = omega arith; from = omega arith; to = omega arith; scalars = inl (omega arith) }) (omega arith) (omega arith) is)
    (λ from to is. own-3 byte 0x80 0x9F rest c n (omega arith) (record { short = omega arith; from = omega arith; to = omega arith; scalars = inl (omega arith) }) (omega arith) (omega arith) is)
    (λ from to is. own-3 byte 0x80 0xBF rest c n (omega arith) (record { short = omega arith; from = omega arith; to = omega arith; scalars = inr (omega arith, omega arith) }) (omega arith) (omega arith) is)
    (λ from to is. own-4 byte 0x90 0xBF rest c n from (record { short = omega arith; from = omega arith; to = omega arith; scalars = inr (omega arith, omega arith) }) (omega arith) is)
    (λ from to is. own-4 byte 0x80 0xBF rest c n (omega arith) (record { short = omega arith; from = omega arith; to = omega arith; scalars = inr (omega arith, omega arith) }) (omega arith) is)
    (λ from to is. own-4 byte 0x80 0x8F rest c n (omega arith) (record { short = omega arith; from = omega arith; to = omega arith; scalars = inr (omega arith, omega arith) }) (omega arith) is)
    (λ is. absurd (cc))

-- a unit that is a character is the character whose bytes stand there
pub character_own : (bytes : List ℕ) (c n : ℕ) → utf8_unit bytes ≡ Some (Character c n) → IsOwn c n bytes
character_own [] c n is = absurd (cc)
character_own (byte ∷ rest) c n is =
    let unit : unit_after byte (lead byte) rest ≡ Character c n = cc in
    own byte rest c n unit

-- the unit of some bytes whose first begins a sequence that becomes a character
unit_at : (bytes : List ℕ) (byte : ℕ) (rest : List ℕ) (at : Lead) (c n : ℕ) → bytes ≡ byte ∷ rest → lead byte ≡ at → unit_after byte at rest ≡ Character c n → utf8_unit bytes ≡ Some (Character c n)
unit_at bytes byte rest at c n bytes_are lead_is is = ap utf8_unit bytes_are ∙ ap (λ l. Some (unit_after byte l rest)) lead_is ∙ ap (λ u. Some u) is

length-tail : (count c : ℕ) → len (tail count c) ≡ count
length-tail zero c = refl
length-tail (suc count) c = ap (λ n. suc n) (length-tail count c)

-- a first byte whose row is known, before the other bytes of a character
spelled_at : (byte follow low high bits c : ℕ) (rest : List ℕ) → encode_utf8 c ≡ byte ∷ tail follow c → lead byte ≡ Leads follow low high bits → upper follow c ≡ bits → FirstFits follow low high c → utf8_unit (encode_utf8 c ++ rest) ≡ Some (Character c (len (encode_utf8 c)))
spelled_at byte follow low high bits c rest bytes_are lead_is bits_are fits =
    unit_at (encode_utf8 c ++ rest) byte (tail follow c ++ rest) (Leads follow low high bits) c (1 + follow) (ap (λ bs. bs ++ rest) bytes_are) lead_is (sequence-spells 1 follow low high bits c rest bits_are fits)
    ∙ ap (λ n. Some (Character c n)) (sym (ap (λ bs. len bs) bytes_are ∙ omega (arith, length-tail follow c)))

spelled-1 : (c : ℕ) (rest : List ℕ) → c < 0x80 → utf8_unit (encode_utf8 c ++ rest) ≡ Some (Character c (len (encode_utf8 c)))
spelled-1 c rest below =
    unit_at (encode_utf8 c ++ rest) c rest Alone c 1 (ap (λ bs. bs ++ rest) (encode-1 c below)) (lead-ascii c (omega arith) (omega arith)) refl
    ∙ ap (λ n. Some (Character c n)) (sym (ap (λ bs. len bs) (encode-1 c below)))

spelled-2 : (c : ℕ) (rest : List ℕ) → 0x80 ≤ c → c < 0x800 → utf8_unit (encode_utf8 c ++ rest) ≡ Some (Character c (len (encode_utf8 c)))
spelled-2 c rest from below =
    let byte = upper 1 c + 0xC0 in
    spelled_at byte 1 0x80 0xBF (byte - 0xC0) c rest (encode-2 c byte from below refl) (lead-C2 byte (omega arith) (omega arith)) (omega arith) (omega arith, omega arith)

spelled-3 : (c : ℕ) (rest : List ℕ) → 0x800 ≤ c → c < 0x10000 → (c < 0xD800) ⊎ (0xE000 ≤ c) → utf8_unit (encode_utf8 c ++ rest) ≡ Some (Character c (len (encode_utf8 c)))
spelled-3 c rest from below scalar =
    let byte = upper 2 c + 0xE0 in
    let at : (low high : ℕ) → lead byte ≡ Leads 2 low high (byte - 0xE0) → low ≤ continuing (c / 64) → continuing (c / 64) ≤ high → utf8_unit (encode_utf8 c ++ rest) ≡ Some (Character c (len (encode_utf8 c))) =
    λ low high row first last. spelled_at byte 2 low high (byte - 0xE0) c rest (encode-3 c byte from below refl) row (omega arith) (first, last) in
    elim (cases_lt c 0x1000) [
      | inl e0 ↦ at 0xA0 0xBF (lead-E0 byte (omega arith) (omega arith)) (omega arith) (omega arith)
      | inr past_e0 ↦ elim (cases_lt c 0xD000) [
        | inl e1 ↦ at 0x80 0xBF (lead-E1 byte (omega arith) (omega arith)) (omega arith) (omega arith)
        | inr past_e1 ↦ elim scalar [
          | inl ed ↦ at 0x80 0x9F (lead-ED byte (omega arith) (omega arith)) (omega arith) (omega arith)
          | inr ee ↦ at 0x80 0xBF (lead-EE byte (omega arith) (omega arith)) (omega arith) (omega arith)
        ]
      ]
    ]

spelled-4 : (c : ℕ) (rest : List ℕ) → 0x10000 ≤ c → c < 0x110000 → utf8_unit (encode_utf8 c ++ rest) ≡ Some (Character c (len (encode_utf8 c)))
spelled-4 c rest from below =
    let byte = upper 3 c + 0xF0 in
    let at : (low high : ℕ) → lead byte ≡ Leads 3 low high (byte - 0xF0) → low ≤ continuing (c / 64 / 64) → continuing (c / 64 / 64) ≤ high → utf8_unit (encode_utf8 c ++ rest) ≡ Some (Character c (len (encode_utf8 c))) =
    λ low high row first last. spelled_at byte 3 low high (byte - 0xF0) c rest (encode-4 c byte from refl) row (omega arith) (first, last) in
    elim (cases_lt c 0x40000) [
      | inl f0 ↦ at 0x90 0xBF (lead-F0 byte (omega arith) (omega arith)) (omega arith) (omega arith)
      | inr past_f0 ↦ elim (cases_lt c 0x100000) [
        | inl f1 ↦ at 0x80 0xBF (lead-F1 byte (omega arith) (omega arith)) (omega arith) (omega arith)
        | inr f4 ↦ at 0x80 0x8F (lead-F4 byte (omega arith) (omega arith)) (omega arith) (omega arith)
      ]
    ]

-- the bytes of a character are one unit, whatever stands after them
pub one_unit : (c : ℕ) (rest : List ℕ) → IsScalar c → utf8_unit (encode_utf8 c ++ rest) ≡ Some (Character c (len (encode_utf8 c)))
one_unit c rest scalar =
    let ranges = scalar_cases c scalar in
    elim (cases_lt c 0x80) [
      | inl one ↦ spelled-1 c rest one
      | inr past_one ↦ elim (cases_lt c 0x800) [
        | inl two ↦ spelled-2 c rest past_one two
        | inr past_two ↦ elim (cases_lt c 0x10000) [
          | inl three ↦ spelled-3 c rest past_two three (elim ranges [ inl low ↦ inl low | inr high ↦ inr high.0 ])
          | inr four ↦ spelled-4 c rest four (elim ranges [ inl low ↦ omega arith | inr high ↦ high.1 ])
        ]
      ]
    ]

-- How many bytes a unit uses.

-- the bytes of a unit that began before `left` more, of which `follow` are wanted: a character uses them all, a cut one all that is left
abbrev pub Uses : (length follow left : ℕ) → Read → Type 0
Uses length follow left (Character c n) = (n ≡ length + follow) × (n ≤ length + left)
Uses length follow left (Malformed n) = (length ≤ n) × (n < length + follow) × (n ≤ length + left)
Uses length follow left (Cut n) = (length ≤ n) × (n < length + follow) × (n ≡ length + left)

Uses-later : (length follow left : ℕ) (unit : Read) → Uses (length + 1) follow left unit → Uses length (suc follow) (suc left) unit
Uses-later length follow left (Character c n) uses = (omega (arith, uses.0), omega (arith, uses.1))
Uses-later length follow left (Malformed n) uses = (omega (arith, uses.0), omega (arith, uses.1), omega (arith, uses.2))
Uses-later length follow left (Cut n) uses = (omega (arith, uses.0), omega (arith, uses.1), omega (arith, uses.2))

pub sequence-uses : (length follow low high bits : ℕ) (rest : List ℕ) → Uses length follow (len rest) (sequence length follow low high bits rest)
sequence-uses length zero low high bits rest = (omega arith, omega arith)
sequence-uses length (suc follow) low high bits [] = (omega arith, omega arith, omega arith)
sequence-uses length (suc follow) low high bits (byte ∷ rest) =
    cond_both (is_within low high byte) (sequence (length + 1) follow 0x80 0xBF (bits * 64 + (byte - 0x80)) rest) (Malformed length) (Uses length (suc follow) (suc (len rest)))
    (λ within. Uses-later length follow (len rest) _ (sequence-uses (length + 1) follow 0x80 0xBF (bits * 64 + (byte - 0x80)) rest))
    (λ without. (omega arith, omega arith, omega arith))

uses_of : (follow left : ℕ) (unit : Read) → follow ≤ 3 → Uses 1 follow left unit → IsUtf8Long unit (suc left)
uses_of follow left (Character c n) short uses = (omega (arith, uses.0), omega (arith, uses.0), omega (arith, uses.1))
uses_of follow left (Malformed n) short uses = (uses.0, omega (arith, uses.1), omega (arith, uses.2))
uses_of follow left (Cut n) short uses = (uses.0, omega (arith, uses.1), omega (arith, uses.2))

pub unit_uses : (byte : ℕ) (rest : List ℕ) → IsUtf8Long (unit_after byte (lead byte) rest) (len (byte ∷ rest))
unit_uses byte rest =
    let leads : (follow low high bits : ℕ) → follow ≤ 3 → IsUtf8Long (sequence 1 follow low high bits rest) (suc (len rest)) =
    λ follow low high bits short. uses_of follow (len rest) _ short (sequence-uses 1 follow low high bits rest) in
    by_rows (λ l. IsUtf8Long (unit_after byte l rest) (suc (len rest))) byte
    (λ to. (omega arith, omega arith, omega arith)) (λ from to. leads 1 _ _ _ (omega arith)) (λ from to. leads 2 _ _ _ (omega arith)) (λ from to. leads 2 _ _ _ (omega arith)) (λ from to. leads 2 _ _ _ (omega arith)) (λ from to. leads 2 _ _ _ (omega arith)) (λ from to. leads 3 _ _ _ (omega arith)) (λ from to. leads 3 _ _ _ (omega arith)) (λ from to. leads 3 _ _ _ (omega arith)) (omega arith, omega arith, omega arith)

pub unit_within : (bytes : List ℕ) (unit : Read) → utf8_unit bytes ≡ Some unit → IsUtf8Long unit (len bytes)
unit_within [] unit is = absurd (cc)
unit_within (byte ∷ rest) unit is =
    let same : unit_after byte (lead byte) rest ≡ unit = cc in
    subst (λ u. IsUtf8Long u (suc (len rest))) same (unit_uses byte rest)
