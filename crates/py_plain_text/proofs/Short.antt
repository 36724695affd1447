-- An item has few bytes and characters, by any handler.
use Rattle.std.proofs.Common.{◌≡◌, ℕ, zero, suc, ◌+◌, ◌*◌, ◌≤◌, Bool, true, false, nat_eq, List, [], ◌∷◌, length as len, take, if◌then◌else◌, Option, Some, None, IfSome, refl, subst, arith}
use Rattle.std.proofs.lemmas.List.{length-append, length-take}
use Rattle.py_plain.specs.declared.encoding.Encoding.{Encoding}
use Rattle.py_plain.specs.declared.encoding.Encoding.TheVariants.{Utf8, Latin1, Ascii, Utf16Le, Utf16Be}
use Rattle.py_plain.specs.declared.handler.Handler.{Handler}
use Rattle.py_plain.specs.declared.handler.Handler.TheVariants.{Strict, Ignore, Replace, XmlCharRefReplace, BackslashReplace, SurrogatePass, SurrogateEscape}
use Rattle.py_plain.specs.declared.unit.Unit.{Unit as Read}
use Rattle.py_plain.specs.declared.unit.Unit.TheVariants.{Character, Malformed, Cut}
use Rattle.py_plain.specs.Units.{Order, first_unit}
use Rattle.py_plain.specs.Escapes.{surrogate_pass}
use Rattle.py_plain.specs.Handlers.{Treatment, Replaced, Refuses, treatment, escaped, front_past_ascii, passed, number_length, spelled_number, is_surrogate}
use Rattle.py_plain.specs.Items.{Walk, FirstItem, Given, RefusedRange, Unfinished, item_of, first_item, used_behind, onto_walk, walk_from, characters_of}
use Rattle.py_plain.proofs.Items.{handled_given, cut_given}
use Rattle.py_plain.proofs.Looking.{front_within}
use Rattle.py_plain_text.proofs.Unbroken.{IsSmall, hex_long, replaced_short, unit_small}

-- few bytes, and not many characters
pub record IsFew (given : List ℕ) (used : ℕ) : Type 0 where
  pub bytes : used ≤ 4
  pub characters : len given ≤ 260

escaped_few : (bytes characters : List ℕ) (used : ℕ) → len bytes ≤ 4 → escaped bytes ≡ Replaced characters used → used ≤ 4
escaped_few [] characters used few is = absurd (cc)
escaped_few (byte ∷ rest) characters used few is = let same : len (byte ∷ rest) ≡ used = cc in omega (arith, few, same)

passed_by : (size number : ℕ) (characters : List ℕ) (used : ℕ) → size ≤ 4 → (surrogate : Bool) → (if surrogate then Replaced (surrogate_pass number) size else Refuses) ≡ Replaced characters used → IsFew characters used
passed_by size number characters used few true is =
    let same : surrogate_pass number ≡ characters = cc in
    let all : size ≡ used = cc in
    record { bytes = omega (arith, few, all); characters = subst (λ (t : List ℕ). len t ≤ 260) same (omega (arith, hex_long 4 number)) }
passed_by size number characters used few false is = absurd (cc)

passed_few : (size : ℕ) (number : Option ℕ) (characters : List ℕ) (used : ℕ) → size ≤ 4 → passed size number ≡ Replaced characters used → IsFew characters used
passed_few size None characters used few is = absurd (cc)
passed_few size (Some number) characters used few is = passed_by size number characters used few (is_surrogate number) is

number_short : (encoding : Encoding) → number_length encoding ≤ 4
number_short Utf8 = omega arith
number_short Latin1 = omega arith
number_short Ascii = omega arith
number_short Utf16Le = omega arith
number_short Utf16Be = omega arith

replaced_few : (handler : Handler) (encoding : Encoding) (place size : ℕ) (rest characters : List ℕ) (used : ℕ) → size ≤ 4 → treatment handler encoding place rest size ≡ Replaced characters used → IsFew characters used
replaced_few Strict encoding place size rest characters used few is = absurd (cc)
replaced_few Ignore encoding place size rest characters used few is =
    let all : size ≡ used = cc in
    record { bytes = omega (arith, few, all); characters = replaced_short Ignore encoding place size rest characters used refl few is }
replaced_few Replace encoding place size rest characters used few is =
    let all : size ≡ used = cc in
    record { bytes = omega (arith, few, all); characters = replaced_short Replace encoding place size rest characters used refl few is }
replaced_few XmlCharRefReplace encoding place size rest characters used few is = absurd (cc)
replaced_few BackslashReplace encoding place size rest characters used few is =
    let all : size ≡ used = cc in
    record { bytes = omega (arith, few, all); characters = replaced_short BackslashReplace encoding place size rest characters used refl few is }
replaced_few SurrogatePass encoding place size rest characters used few is = passed_few (number_length encoding) (spelled_number encoding rest) characters used (number_short encoding) is
replaced_few SurrogateEscape encoding place size rest characters used few is = record {
  bytes = escaped_few (front_past_ascii (take size rest)) characters used (omega (arith, few, length-take size rest, front_within (take size rest))) is;
  characters = replaced_short SurrogateEscape encoding place size rest characters used refl few is;
}

unit_few : (handler : Handler) (encoding : Encoding) (last : Bool) (place : ℕ) (rest characters : List ℕ) (used : ℕ) (unit : Option Read) → IfSome unit IsSmall → item_of (treatment handler encoding) last place rest unit ≡ Given characters used → IsFew characters used
unit_few handler encoding last place rest characters used None small is = absurd (cc)
unit_few handler encoding last place rest characters used (Some (Character c n)) small is =
    let same : n ≡ used = cc in
    let alone : c ∷ [] ≡ characters = cc in
    record { bytes = omega (arith, same, small); characters = subst (λ (t : List ℕ). len t ≤ 260) alone (omega arith) }
unit_few handler encoding last place rest characters used (Some (Malformed n)) small is =
    replaced_few handler encoding place n rest characters used small (handled_given n (treatment handler encoding place rest n) characters used is)
unit_few handler encoding last place rest characters used (Some (Cut n)) small is =
    replaced_few handler encoding place n rest characters used small (cut_given last n (treatment handler encoding place rest n) characters used is)

-- what stands first of some bytes
pub item_few : (handler : Handler) (encoding : Encoding) (last : Bool) (order : Order) (place : ℕ) (rest characters : List ℕ) (used : ℕ) → first_item encoding (treatment handler encoding) last order place rest ≡ Given characters used → IsFew characters used
item_few handler encoding last order place rest characters used is =
    unit_few handler encoding last place rest characters used (first_unit encoding order (nat_eq place 0) rest) (unit_small encoding order (nat_eq place 0) rest) is

onto_few : (handler : Handler) (encoding : Encoding) (order : Order) (place : ℕ) (bytes : List ℕ) (count : ℕ) (first : FirstItem) → first_item encoding (treatment handler encoding) true order place bytes ≡ first → (walk : Walk) → len (characters_of walk.items) ≤ 260 * count → len (characters_of (onto_walk order place first walk).items) ≤ 260 * suc count
onto_few handler encoding order place bytes count (Given characters used) is walk few =
    omega (arith, few, (item_few handler encoding true order place bytes characters used is).characters, length-append characters (characters_of walk.items))
onto_few handler encoding order place bytes count (RefusedRange size) is walk few = omega arith
onto_few handler encoding order place bytes count Unfinished is walk few = omega arith

-- the characters of some bytes
pub walk_few : (handler : Handler) (encoding : Encoding) (order : Order) (place skip : ℕ) (bytes : List ℕ) → len (characters_of (walk_from encoding (treatment handler encoding) true order place skip bytes).items) ≤ 260 * len bytes
walk_few handler encoding order place skip [] = omega arith
walk_few handler encoding order place (suc skip) (byte ∷ rest) = omega (arith, walk_few handler encoding order (place + 1) skip rest)
walk_few handler encoding order place zero (byte ∷ rest) =
    let treat : Treatment = treatment handler encoding in
    let first : FirstItem = first_item encoding treat true order place (byte ∷ rest) in
    onto_few handler encoding order place (byte ∷ rest) (len rest) first refl (walk_from encoding treat true order (place + 1) (used_behind first) rest) (walk_few handler encoding order (place + 1) (used_behind first) rest)
