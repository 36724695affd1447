-- The items of a walk stand for all bytes up to where it came.
use Rattle.std.proofs.Common.{◌≡◌, ℕ, zero, suc, ◌+◌, ◌-◌, ◌≤◌, Bool, true, false, cond, nat_eq, nat_lt, nat_le, List, [], ◌∷◌, ◌++◌, length as len, take, drop, Option, Some, None, IfSome, refl, sym, ap, subst, ◌∙◌, arith}
use Rattle.std.proofs.Math.Seq.{take-add}
use Rattle.std.proofs.lemmas.List.{drop-drop}
use Rattle.std.proofs.lemmas.Bool.{and_parts, ltb-true, leb-true}
use Rattle.py_plain.specs.declared.encoding.Encoding.{Encoding}
use Rattle.py_plain.specs.declared.encoding.Encoding.TheVariants.{Utf8, Latin1, Ascii, Utf16Le, Utf16Be}
use Rattle.py_plain.specs.declared.handler.Handler.{Handler}
use Rattle.py_plain.specs.declared.handler.Handler.TheVariants.{Strict, Ignore, Replace, XmlCharRefReplace, BackslashReplace, SurrogatePass, SurrogateEscape}
use Rattle.py_plain.specs.declared.unit.Unit.{Unit as Read}
use Rattle.py_plain.specs.declared.unit.Unit.TheVariants.{Character, Malformed, Cut}
use Rattle.py_plain.specs.Units.{Order, Unknown, first_unit}
use Rattle.py_plain.specs.UnitLaws.{IsWithin}
use Rattle.py_plain.specs.Handlers.{Treatment, Handled, Replaced, Refuses, spelled_number, number_length, three_bytes, two_bytes, is_surrogate, passed, treatment, reads_texts}
use Rattle.py_plain.specs.Escapes.{surrogate_pass}
use Rattle.py_plain.specs.Items.{FirstItem, Given, RefusedRange, Unfinished, item_handled, item_of, first_item, used_behind, Ending, AtEnd, AtRange, AtCut, Walk, ends, onto_walk, walk_from}
use Rattle.py_plain.proofs.AnyUnits.{unit_within_any}
use Rattle.py_plain.proofs.Looking.{reading, using}
use Rattle.py_codec.specs.declared.handler_ref.HandlerRef.{HandlerRef}
use Rattle.py_codec.specs.declared.handler_ref.HandlerRef.TheVariants.{Builtin, Custom}
use Rattle.py_codec.specs.ErrorHandler.{DecodeMeaning, DecodeAnswer, ReplacedBy, DecodeRefused}
use Rattle.py_codec.specs.Treating.{is_restart, handled_by, treatment_by}
use Rattle.py_codec.specs.Decoding.{walk_by}
use Rattle.py_codec.specs.Laws.{came_past, bytes_of_items}

-- What stands for a range uses a byte at least, and no more than there are.

-- where a place and the bytes left at it are `total` in all, a treatment uses a byte at least, and no more than are
-- left
abbrev UsesWithin : (total : ℕ) → Treatment → Type 0
UsesWithin total treat = (place size : ℕ) (rest characters : List ℕ) (used : ℕ) → place + len rest ≡ total → 1 ≤ size → size ≤ len rest → treat place rest size ≡ Replaced characters used → (1 ≤ used) × (used ≤ len rest)

reads_within : (total : ℕ) (handler : Handler) (encoding : Encoding) → reads_texts handler ≡ true → UsesWithin total (treatment handler encoding)
reads_within total handler encoding reads place size rest characters used all some fits is = (
  (using handler encoding reads).some place size rest characters used some is,
  omega (arith, (reading handler encoding reads).within place size rest characters used is, fits),
)

three_there : (bytes : List ℕ) (number : ℕ) → three_bytes bytes ≡ Some number → 3 ≤ len bytes
three_there [] number is = absurd (cc)
three_there (first ∷ []) number is = absurd (cc)
three_there (first ∷ second ∷ []) number is = absurd (cc)
three_there (first ∷ second ∷ third ∷ rest) number is = omega arith

two_there : (big : Bool) (bytes : List ℕ) (number : ℕ) → two_bytes big bytes ≡ Some number → 2 ≤ len bytes
two_there big [] number is = absurd (cc)
two_there big (first ∷ []) number is = absurd (cc)
two_there big (first ∷ second ∷ rest) number is = omega arith

-- a number that is spelled has its bytes
number_there : (encoding : Encoding) (bytes : List ℕ) (number : ℕ) → spelled_number encoding bytes ≡ Some number → (1 ≤ number_length encoding) × (number_length encoding ≤ len bytes)
number_there Utf8 bytes number is = (omega arith, three_there bytes number is)
number_there Latin1 bytes number is = absurd (cc)
number_there Ascii bytes number is = absurd (cc)
number_there Utf16Le bytes number is = (omega arith, two_there false bytes number is)
number_there Utf16Be bytes number is = (omega arith, two_there true bytes number is)

cond_replaced : (b : Bool) (characters : List ℕ) (used : ℕ) (given : List ℕ) (count : ℕ) → cond b (Replaced characters used) Refuses ≡ Replaced given count → (b ≡ true) × (used ≡ count)
cond_replaced true characters used given count is = (refl, cc)
cond_replaced false characters used given count is = absurd (cc)

passed_within : (size left : ℕ) (spelled : Option ℕ) (characters : List ℕ) (used : ℕ) → ((number : ℕ) → spelled ≡ Some number → (1 ≤ size) × (size ≤ left)) → passed size spelled ≡ Replaced characters used → (1 ≤ used) × (used ≤ left)
passed_within size left None characters used there is = absurd (cc)
passed_within size left (Some number) characters used there is =
    let same = (cond_replaced (is_surrogate number) (surrogate_pass number) size characters used is).1 in
    let range = there number refl in
    (omega (arith, same, range.0), omega (arith, same, range.1))

builtin_within : (total : ℕ) (handler : Handler) (encoding : Encoding) → UsesWithin total (treatment handler encoding)
builtin_within total Strict encoding = reads_within total Strict encoding refl
builtin_within total Ignore encoding = reads_within total Ignore encoding refl
builtin_within total Replace encoding = reads_within total Replace encoding refl
builtin_within total XmlCharRefReplace encoding = λ place size rest characters used all some fits is. absurd (cc)
builtin_within total BackslashReplace encoding = reads_within total BackslashReplace encoding refl
builtin_within total SurrogatePass encoding = λ place size rest characters used all some fits is. passed_within (number_length encoding) (len rest) (spelled_number encoding rest) characters used (number_there encoding rest) is
builtin_within total SurrogateEscape encoding = reads_within total SurrogateEscape encoding refl

answer_within : (total place left : ℕ) (answer : DecodeAnswer) (characters : List ℕ) (used : ℕ) → place + left ≡ total → handled_by place total answer ≡ Replaced characters used → (1 ≤ used) × (used ≤ left)
answer_within total place left (ReplacedBy given restart) characters used all is =
    let parts = cond_replaced (is_restart place total restart) given (restart - place) characters used is in
    let bounds = and_parts (nat_lt place restart) (nat_le restart total) parts.0 in
    let past = ltb-true place restart bounds.0 in
    let inside = leb-true restart total bounds.1 in
    (omega (arith, parts.1, past), omega (arith, parts.1, past, inside, all))
answer_within total place left DecodeRefused characters used all is = absurd (cc)

within_by : {H : Type 0} (meaning : H → DecodeMeaning) (errors : HandlerRef H) (encoding : Encoding) (bytes : List ℕ) → UsesWithin (len bytes) (treatment_by meaning errors encoding bytes)
within_by meaning (Builtin handler) encoding bytes = builtin_within (len bytes) handler encoding
within_by meaning (Custom handler) encoding bytes = λ place size rest characters used all some fits is. answer_within (len bytes) place (len rest) (meaning handler encoding bytes place (place + size)) characters used all is

-- The first item uses a byte at least, and no more than there are.

handled_within : (n left : ℕ) (handled : Handled) (characters : List ℕ) (used : ℕ) → (handled ≡ Replaced characters used → (1 ≤ used) × (used ≤ left)) → item_handled n handled ≡ Given characters used → (1 ≤ used) × (used ≤ left)
handled_within n left (Replaced given count) characters used within is =
    let texts : given ≡ characters = cc in
    let counts : count ≡ used = cc in
    within (ap (λ (cs : List ℕ). Replaced cs count) texts ∙ ap (Replaced characters) counts)
handled_within n left Refuses characters used within is = absurd (cc)

item_within : (total : ℕ) (treat : Treatment) (last : Bool) (place : ℕ) (bytes : List ℕ) (unit : Option Read) (characters : List ℕ) (used : ℕ) → UsesWithin total treat → place + len bytes ≡ total → IfSome unit (λ u. IsWithin u (len bytes)) → item_of treat last place bytes unit ≡ Given characters used → (1 ≤ used) × (used ≤ len bytes)
item_within total treat last place bytes None characters used uses all within is = absurd (cc)
item_within total treat last place bytes (Some (Character c n)) characters used uses all within is =
    let same : n ≡ used = cc in
    (omega (arith, within.0, same), omega (arith, within.1, same))
item_within total treat last place bytes (Some (Malformed n)) characters used uses all within is =
    handled_within n (len bytes) (treat place bytes n) characters used (uses place n bytes characters used all within.0 within.1) is
item_within total treat true place bytes (Some (Cut n)) characters used uses all within is =
    handled_within n (len bytes) (treat place bytes n) characters used (uses place n bytes characters used all within.0 (omega (arith, within.1))) is
item_within total treat false place bytes (Some (Cut n)) characters used uses all within is = absurd (cc)

-- The items of a walk over the bytes after a place.

pub record Covers (bytes : List ℕ) (from : ℕ) (walk : Walk) : Type 0 where
  pub past : from ≤ came_past bytes walk.ending
  pub covered : bytes_of_items 0 bytes walk.items ≡ take (came_past bytes walk.ending - from) (drop from bytes)

covers_none : (bytes : List ℕ) (from : ℕ) (order : Order) (ending : Ending) → came_past bytes ending ≡ from → Covers bytes from (ends order ending)
covers_none bytes from order ending here =
    let none : 0 ≡ came_past bytes ending - from = omega (arith, here) in
    record { past = omega (arith, here); covered = ap (λ (k : ℕ). take k (drop from bytes)) none }

covers_given : (order : Order) (bytes : List ℕ) (place used : ℕ) (characters : List ℕ) (walk : Walk) → Covers bytes (place + used) walk → Covers bytes place (onto_walk order place (Given characters used) walk)
covers_given order bytes place used characters walk behind =
    let stop : ℕ = came_past bytes walk.ending in
    let here : place - 0 ≡ place = omega arith in
    let size : used + (stop - (place + used)) ≡ stop - place = omega (arith, behind.past) in
    record {
      past = omega (arith, behind.past);
      covered = ap (λ (k : ℕ). take used (drop k bytes) ++ bytes_of_items 0 bytes walk.items) here
          ∙ (ap (λ (bs : List ℕ). take used (drop place bytes) ++ bs) (behind.covered ∙ ap (take (stop - (place + used))) (sym (drop-drop used place bytes)))
          ∙ (sym (take-add used (stop - (place + used)) (drop place bytes)) ∙ ap (λ (k : ℕ). take k (drop place bytes)) size));
    }

covers_onto : (order : Order) (bytes : List ℕ) (place left : ℕ) (first : FirstItem) (walk : Walk) → ((characters : List ℕ) (used : ℕ) → first ≡ Given characters used → (1 ≤ used) × (used ≤ left)) → (used_behind first ≤ left - 1 → Covers bytes (place + 1 + used_behind first) walk) → Covers bytes place (onto_walk order place first walk)
covers_onto order bytes place left (Given characters used) walk within behind =
    let range = within characters used refl in
    let far : place + 1 + (used - 1) ≡ place + used = omega (arith, range.0) in
    covers_given order bytes place used characters walk (subst (λ (p : ℕ). Covers bytes p walk) far (behind (omega (arith, range.1))))
covers_onto order bytes place left (RefusedRange size) walk within behind = covers_none bytes place order (AtRange place (place + size)) refl
covers_onto order bytes place left Unfinished walk within behind = covers_none bytes place order (AtCut place) refl

covers : (encoding : Encoding) (treat : Treatment) (last : Bool) (order : Order) (bytes : List ℕ) (place skip : ℕ) (tail : List ℕ) → UsesWithin (len bytes) treat → place + len tail ≡ len bytes → skip ≤ len tail → Covers bytes (place + skip) (walk_from encoding treat last order place skip tail)
covers encoding treat last order bytes place skip [] uses all fits = covers_none bytes (place + skip) order AtEnd (omega (arith, all, fits))
covers encoding treat last order bytes place (suc skip) (byte ∷ rest) uses all fits =
    let far : place + 1 + skip ≡ place + suc skip = omega arith in
    subst (λ (p : ℕ). Covers bytes p (walk_from encoding treat last order (place + 1) skip rest)) far
    (covers encoding treat last order bytes (place + 1) skip rest uses (omega (arith, all)) (omega (arith, fits)))
covers encoding treat last order bytes place zero (byte ∷ rest) uses all fits =
    let at_start = nat_eq place 0 in
    let first : FirstItem = first_item encoding treat last order place (byte ∷ rest) in
    let here : place ≡ place + 0 = omega arith in
    subst (λ (p : ℕ). Covers bytes p (onto_walk order place first (walk_from encoding treat last order (place + 1) (used_behind first) rest))) here
    (covers_onto order bytes place (len (byte ∷ rest)) first (walk_from encoding treat last order (place + 1) (used_behind first) rest)
    (λ characters used is. item_within (len bytes) treat last place (byte ∷ rest) (first_unit encoding order at_start (byte ∷ rest)) characters used uses all (unit_within_any encoding order at_start (byte ∷ rest)) is)
    (λ inside. covers encoding treat last order bytes (place + 1) (used_behind first) rest uses (omega (arith, all)) (omega (arith, inside))))

pub none_lost : {H : Type 0} (meaning : H → DecodeMeaning) (errors : HandlerRef H) (encoding : Encoding) (last : Bool) (bytes : List ℕ) → bytes_of_items 0 bytes (walk_by meaning errors encoding last bytes).items ≡ take (came_past bytes (walk_by meaning errors encoding last bytes).ending) bytes
none_lost meaning errors encoding last bytes =
    let all = covers encoding (treatment_by meaning errors encoding bytes) last Unknown bytes 0 0 bytes (within_by meaning errors encoding bytes) (omega arith) (omega arith) in
    let stop : ℕ = came_past bytes (walk_by meaning errors encoding last bytes).ending in
    let here : stop - 0 ≡ stop = omega arith in
    all.covered ∙ ap (λ (k : ℕ). take k bytes) here
