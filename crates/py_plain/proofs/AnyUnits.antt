-- What the first unit of some bytes says in any encoding: that there is one, how long it is, and that it stays.
use Rattle.std.proofs.Common.{◌≡◌, ℕ, zero, suc, ◌+◌, ◌-◌, ◌*◌, ◌<◌, Bool, true, false, cond, List, [], ◌∷◌, ◌++◌, length as len, Option, IsSome, IfSome, refl, arith}
use Rattle.std.proofs.lemmas.Bool.{cond_both}
use Rattle.py_plain.specs.declared.encoding.Encoding.{Encoding}
use Rattle.py_plain.specs.declared.encoding.Encoding.TheVariants.{Utf8, Latin1, Ascii, Utf16Le, Utf16Be}
use Rattle.py_plain.specs.declared.unit.Unit.{Unit as Read}
use Rattle.py_plain.specs.declared.unit.Unit.TheVariants.{Character, Malformed, Cut}
use Rattle.py_plain.specs.Utf8.{Lead, Alone, Leads, Never, is_within, lead, sequence, unit_after}
use Rattle.py_plain.specs.Utf16.{code_unit, is_high, is_low, joined, behind_high, unit_of, utf16_unit}
use Rattle.py_plain.specs.OneByte.{is_ascii}
use Rattle.py_plain.specs.Units.{Order, first_unit}
use Rattle.py_plain.specs.UnitLaws.{IsUtf8Long, IsWithin}
use Rattle.py_plain.proofs.UnitLaws.{unit_uses}

-- Where there are bytes there is a unit.

pub unit_some : (encoding : Encoding) (order : Order) (at_start : Bool) (bytes : List ℕ) → 0 < len bytes → IsSome (first_unit encoding order at_start bytes)
unit_some encoding order at_start [] more = absurd (omega arith)
unit_some Utf8 order at_start (byte ∷ rest) more = refl
unit_some Latin1 order at_start (byte ∷ rest) more = refl
unit_some Ascii order at_start (byte ∷ rest) more = refl
unit_some Utf16Le order at_start (byte ∷ []) more = refl
unit_some Utf16Le order at_start (byte ∷ second ∷ rest) more = refl
unit_some Utf16Be order at_start (byte ∷ []) more = refl
unit_some Utf16Be order at_start (byte ∷ second ∷ rest) more = refl

-- How long a unit is.

-- a unit that is as long as UTF-8 allows is as long as any encoding may have it
within_any : (unit : Read) (left : ℕ) → IsUtf8Long unit left → IsWithin unit left
within_any (Character c n) left long = (long.0, long.2)
within_any (Malformed n) left long = (long.0, long.2)
within_any (Cut n) left long = (long.0, long.2)

ascii_within : (byte left : ℕ) → IsWithin (cond (is_ascii byte) (Character byte 1) (Malformed 1)) (suc left)
ascii_within byte left =
    cond_both (is_ascii byte) (Character byte 1) (Malformed 1) (λ unit. IsWithin unit (suc left)) (λ yes. (omega arith, omega arith)) (λ no. (omega arith, omega arith))

high_within : (big : Bool) (high : ℕ) (rest : List ℕ) → IsWithin (behind_high big high rest) (suc (suc (len rest)))
high_within big high [] = (omega arith, omega arith)
high_within big high (first ∷ []) = (omega arith, omega arith)
high_within big high (first ∷ second ∷ rest) =
    cond_both (is_low (code_unit big first second)) (Character (joined high (code_unit big first second)) 4) (Malformed 2) (λ unit. IsWithin unit (suc (suc (suc (suc (len rest)))))) (λ yes. (omega arith, omega arith)) (λ no. (omega arith, omega arith))

two_within : (big : Bool) (unit : ℕ) (rest : List ℕ) → IsWithin (unit_of big unit rest) (suc (suc (len rest)))
two_within big unit rest =
    cond_both (is_high unit) (behind_high big unit rest) (cond (is_low unit) (Malformed 2) (Character unit 2)) (λ read. IsWithin read (suc (suc (len rest))))
    (λ high. high_within big unit rest)
    (λ alone. cond_both (is_low unit) (Malformed 2) (Character unit 2) (λ read. IsWithin read (suc (suc (len rest)))) (λ yes. (omega arith, omega arith)) (λ no. (omega arith, omega arith)))

utf16_within : (big : Bool) (bytes : List ℕ) → IfSome (utf16_unit big bytes) (λ unit. IsWithin unit (len bytes))
utf16_within big [] = tt
utf16_within big (first ∷ []) = (omega arith, omega arith)
utf16_within big (first ∷ second ∷ rest) = two_within big (code_unit big first second) rest

-- a unit has a byte, and no more than there are; a cut one has them all
pub unit_within_any : (encoding : Encoding) (order : Order) (at_start : Bool) (bytes : List ℕ) → IfSome (first_unit encoding order at_start bytes) (λ unit. IsWithin unit (len bytes))
unit_within_any Utf8 order at_start [] = tt
unit_within_any Utf8 order at_start (byte ∷ rest) = within_any (unit_after byte (lead byte) rest) (len (byte ∷ rest)) (unit_uses byte rest)
unit_within_any Latin1 order at_start [] = tt
unit_within_any Latin1 order at_start (byte ∷ rest) = (omega arith, omega arith)
unit_within_any Ascii order at_start [] = tt
unit_within_any Ascii order at_start (byte ∷ rest) = ascii_within byte (len rest)
unit_within_any Utf16Le order at_start bytes = utf16_within false bytes
unit_within_any Utf16Be order at_start bytes = utf16_within true bytes

-- What a front begins with stays so whatever comes after it, unless its end cuts it.

-- what may come of bytes that are a unit, once more come after them
abbrev pub Stays : Read → Read → Type 0
Stays (Cut n) longer = Unit {0}
Stays unit longer = longer ≡ unit

-- where some bytes are a unit: what may come of it once more bytes come after them
abbrev pub StaysIf : Option Read → Option Read → Type 0
StaysIf unit longer = IfSome unit (λ first. IfSome longer (λ later. Stays first later))

stays_if : (b : Bool) (first longer other : Read) → Stays first longer → Stays other other → Stays (cond b first other) (cond b longer other)
stays_if true first longer other stays same = stays
stays_if false first longer other stays same = same

stays_self : (unit : Read) → Stays unit unit
stays_self (Character c n) = refl
stays_self (Malformed n) = refl
stays_self (Cut n) = tt

sequence_stays : (length follow low high bits : ℕ) (rest more : List ℕ) → Stays (sequence length follow low high bits rest) (sequence length follow low high bits (rest ++ more))
sequence_stays length zero low high bits rest more = refl
sequence_stays length (suc follow) low high bits [] more = tt
sequence_stays length (suc follow) low high bits (byte ∷ rest) more =
    stays_if (is_within low high byte) _ _ (Malformed length) (sequence_stays (length + 1) follow 0x80 0xBF (bits * 64 + (byte - 0x80)) rest more) refl

after_stays : (byte : ℕ) (at : Lead) (rest more : List ℕ) → Stays (unit_after byte at rest) (unit_after byte at (rest ++ more))
after_stays byte Alone rest more = refl
after_stays byte (Leads follow low high bits) rest more = sequence_stays 1 follow low high bits rest more
after_stays byte Never rest more = refl

high_stays : (big : Bool) (high : ℕ) (rest more : List ℕ) → Stays (behind_high big high rest) (behind_high big high (rest ++ more))
high_stays big high [] more = tt
high_stays big high (first ∷ []) more = tt
high_stays big high (first ∷ second ∷ rest) more = stays_self (behind_high big high (first ∷ second ∷ rest))

two_stays : (big : Bool) (unit : ℕ) (rest more : List ℕ) → Stays (unit_of big unit rest) (unit_of big unit (rest ++ more))
two_stays big unit rest more =
    stays_if (is_high unit) (behind_high big unit rest) (behind_high big unit (rest ++ more)) (cond (is_low unit) (Malformed 2) (Character unit 2)) (high_stays big unit rest more) (stays_self (cond (is_low unit) (Malformed 2) (Character unit 2)))

utf16_stays : (big : Bool) (bytes more : List ℕ) → StaysIf (utf16_unit big bytes) (utf16_unit big (bytes ++ more))
utf16_stays big [] more = tt
utf16_stays big (first ∷ []) [] = tt
utf16_stays big (first ∷ []) (second ∷ more) = tt
utf16_stays big (first ∷ second ∷ rest) more = two_stays big (code_unit big first second) rest more

pub stays : (encoding : Encoding) (order : Order) (at_start : Bool) (bytes more : List ℕ) → StaysIf (first_unit encoding order at_start bytes) (first_unit encoding order at_start (bytes ++ more))
stays Utf8 order at_start [] more = tt
stays Utf8 order at_start (byte ∷ rest) more = after_stays byte (lead byte) rest more
stays Latin1 order at_start [] more = tt
stays Latin1 order at_start (byte ∷ rest) more = refl
stays Ascii order at_start [] more = tt
stays Ascii order at_start (byte ∷ rest) more = stays_self (cond (is_ascii byte) (Character byte 1) (Malformed 1))
stays Utf16Le order at_start bytes more = utf16_stays false bytes more
stays Utf16Be order at_start bytes more = utf16_stays true bytes more
