-- Where a walk is cut: the bytes from there on are a unit that their end cuts, and at most three.
use Rattle.std.proofs.Common.{◌≡◌, ℕ, zero, suc, ◌+◌, ◌-◌, ◌≤◌, Bool, true, false, cond, nat_eq, List, [], ◌∷◌, length as len, drop, Option, Some, None, IsSome, IfSome, refl, ap, subst, ◌∙◌, arith}
use Rattle.std.proofs.lemmas.Bool.{cond_both}
use Rattle.py_plain.specs.declared.encoding.Encoding.{Encoding}
use Rattle.py_plain.specs.declared.encoding.Encoding.TheVariants.{Utf8, Latin1, Ascii, Utf16Le, Utf16Be}
use Rattle.py_plain.specs.declared.unit.Unit.{Unit as Read}
use Rattle.py_plain.specs.declared.unit.Unit.TheVariants.{Character, Malformed, Cut}
use Rattle.py_plain.specs.Utf8.{lead, unit_after}
use Rattle.py_plain.specs.Utf16.{code_unit, is_high, is_low, joined, behind_high, unit_of, utf16_unit}
use Rattle.py_plain.specs.OneByte.{is_ascii}
use Rattle.py_plain.specs.Units.{Order, first_unit}
use Rattle.py_plain.specs.UnitLaws.{IsUtf8Long, IsWithin}
use Rattle.py_plain.specs.Handlers.{Treatment, Handled, Replaced, Refuses}
use Rattle.py_plain.specs.Items.{FirstItem, Given, RefusedRange, Unfinished, item_handled, item_of, first_item, used_behind, AtCut, Walk, ends, onto_walk, walk_from}
use Rattle.py_plain.proofs.UnitLaws.{unit_uses}
use Rattle.py_plain.proofs.AnyUnits.{unit_some, unit_within_any}

-- no unit looks at where it stands
pub unit_anywhere : (encoding : Encoding) (order : Order) (here there : Bool) (bytes : List ℕ) → first_unit encoding order here bytes ≡ first_unit encoding order there bytes
unit_anywhere Utf8 order here there bytes = refl
unit_anywhere Latin1 order here there bytes = refl
unit_anywhere Ascii order here there bytes = refl
unit_anywhere Utf16Le order here there bytes = refl
unit_anywhere Utf16Be order here there bytes = refl

-- A cut unit has at most three bytes.

-- a unit is no cut sequence, or one of at most three bytes
abbrev IsShort : Read → Type 0
IsShort (Cut n) = n ≤ 3
IsShort unit = Unit {0}

long_short : (unit : Read) (left : ℕ) → IsUtf8Long unit left → IsShort unit
long_short (Character c n) left long = tt
long_short (Malformed n) left long = tt
long_short (Cut n) left long = long.1

high_short : (big : Bool) (high : ℕ) (rest : List ℕ) → IsShort (behind_high big high rest)
high_short big high [] = omega arith
high_short big high (first ∷ []) = omega arith
high_short big high (first ∷ second ∷ rest) =
    cond_both (is_low (code_unit big first second)) (Character (joined high (code_unit big first second)) 4) (Malformed 2) IsShort (λ yes. tt) (λ no. tt)

two_short : (big : Bool) (unit : ℕ) (rest : List ℕ) → IsShort (unit_of big unit rest)
two_short big unit rest =
    cond_both (is_high unit) (behind_high big unit rest) (cond (is_low unit) (Malformed 2) (Character unit 2)) IsShort
    (λ high. high_short big unit rest)
    (λ alone. cond_both (is_low unit) (Malformed 2) (Character unit 2) IsShort (λ yes. tt) (λ no. tt))

utf16_short : (big : Bool) (bytes : List ℕ) → IfSome (utf16_unit big bytes) IsShort
utf16_short big [] = tt
utf16_short big (first ∷ []) = omega arith
utf16_short big (first ∷ second ∷ rest) = two_short big (code_unit big first second) rest

unit_short : (encoding : Encoding) (order : Order) (at_start : Bool) (bytes : List ℕ) → IfSome (first_unit encoding order at_start bytes) IsShort
unit_short Utf8 order at_start [] = tt
unit_short Utf8 order at_start (byte ∷ rest) = long_short (unit_after byte (lead byte) rest) (len (byte ∷ rest)) (unit_uses byte rest)
unit_short Latin1 order at_start [] = tt
unit_short Latin1 order at_start (byte ∷ rest) = tt
unit_short Ascii order at_start [] = tt
unit_short Ascii order at_start (byte ∷ rest) = cond_both (is_ascii byte) (Character byte 1) (Malformed 1) IsShort (λ yes. tt) (λ no. tt)
unit_short Utf16Le order at_start bytes = utf16_short false bytes
unit_short Utf16Be order at_start bytes = utf16_short true bytes

-- A walk is cut only while more may come, and only by a cut unit.

-- bytes that are cut
pub record AreCut (encoding : Encoding) (order : Order) (bytes : List ℕ) : Type 0 where
  pub size : ℕ
  pub unit : (at_start : Bool) → first_unit encoding order at_start bytes ≡ Some (Cut size)

-- a walk over bytes at a place is cut
pub record IsCutAt (encoding : Encoding) (order : Order) (last : Bool) (place : ℕ) (bytes : List ℕ) (start : ℕ) : Type 0 where
  pub more : last ≡ false
  pub past : place ≤ start
  pub cut : AreCut encoding order (drop (start - place) bytes)

handled_finished : (n : ℕ) (handled : Handled) → item_handled n handled ≡ Unfinished → ⊥
handled_finished n (Replaced characters used) is = absurd (cc)
handled_finished n Refuses is = absurd (cc)

-- an item that isn't finished is a cut unit
pub record IsCut (last : Bool) (unit : Option Read) : Type 0 where
  pub more : last ≡ false
  pub size : ℕ
  pub unit_is : unit ≡ Some (Cut size)

item_cut : (treat : Treatment) (last : Bool) (place : ℕ) (bytes : List ℕ) (unit : Option Read) → IsSome unit → item_of treat last place bytes unit ≡ Unfinished → IsCut last unit
item_cut treat last place bytes None some is = absurd (cc)
item_cut treat last place bytes (Some (Character c n)) some is = absurd (cc)
item_cut treat last place bytes (Some (Malformed n)) some is = absurd (handled_finished n (treat place bytes n) is)
item_cut treat true place bytes (Some (Cut n)) some is = absurd (handled_finished n (treat place bytes n) is)
item_cut treat false place bytes (Some (Cut n)) some is = record { more = refl; size = n; unit_is = refl }

cut_behind : (encoding : Encoding) (order : Order) (last : Bool) (place byte : ℕ) (rest : List ℕ) (start : ℕ) → IsCutAt encoding order last (place + 1) rest start → IsCutAt encoding order last place (byte ∷ rest) start
cut_behind encoding order last place byte rest start cut =
    let far : suc (start - (place + 1)) ≡ start - place = omega (arith, cut.past) in
    record { more = cut.more; past = omega (arith, cut.past); cut = subst (λ (k : ℕ). AreCut encoding order (drop k (byte ∷ rest))) far cut.cut }

cut_here : (encoding : Encoding) (order : Order) (at_start : Bool) (last : Bool) (place byte : ℕ) (rest : List ℕ) → IsCut last (first_unit encoding order at_start (byte ∷ rest)) → IsCutAt encoding order last place (byte ∷ rest) place
cut_here encoding order at_start last place byte rest cut =
    let here : 0 ≡ place - place = omega arith in
    let are : AreCut encoding order (byte ∷ rest) = record { size = cut.size; unit = λ there. unit_anywhere encoding order there at_start (byte ∷ rest) ∙ cut.unit_is } in
    record { more = cut.more; past = omega arith; cut = subst (λ (k : ℕ). AreCut encoding order (drop k (byte ∷ rest))) here are }

cut_onto : (encoding : Encoding) (order : Order) (at_start : Bool) (last : Bool) (place byte : ℕ) (rest : List ℕ) (first : FirstItem) (walk : Walk) (start : ℕ) → (first ≡ Unfinished → IsCut last (first_unit encoding order at_start (byte ∷ rest))) → (walk.ending ≡ AtCut start → IsCutAt encoding order last (place + 1) rest start) → (onto_walk order place first walk).ending ≡ AtCut start → IsCutAt encoding order last place (byte ∷ rest) start
cut_onto encoding order at_start last place byte rest (Given characters used) walk start here behind is = cut_behind encoding order last place byte rest start (behind is)
cut_onto encoding order at_start last place byte rest (RefusedRange size) walk start here behind is = absurd (cc)
cut_onto encoding order at_start last place byte rest Unfinished walk start here behind is =
    let same : place ≡ start = cc in
    subst (IsCutAt encoding order last place (byte ∷ rest)) same (cut_here encoding order at_start last place byte rest (here refl))

-- a walk that ends at a cut sequence ends so while more may come, and the bytes from there on are a cut unit
pub walk_cut : (encoding : Encoding) (treat : Treatment) (last : Bool) (order : Order) (place skip : ℕ) (bytes : List ℕ) (start : ℕ) → (walk_from encoding treat last order place skip bytes).ending ≡ AtCut start → IsCutAt encoding order last place bytes start
walk_cut encoding treat last order place skip [] start is = absurd (cc)
walk_cut encoding treat last order place (suc skip) (byte ∷ rest) start is = cut_behind encoding order last place byte rest start (walk_cut encoding treat last order (place + 1) skip rest start is)
walk_cut encoding treat last order place zero (byte ∷ rest) start is =
    let at_start = nat_eq place 0 in
    let first : FirstItem = first_item encoding treat last order place (byte ∷ rest) in
    cut_onto encoding order at_start last place byte rest first (walk_from encoding treat last order (place + 1) (used_behind first) rest) start
    (λ unfinished. item_cut treat last place (byte ∷ rest) (first_unit encoding order at_start (byte ∷ rest)) (unit_some encoding order at_start (byte ∷ rest) (omega arith)) unfinished)
    (λ ends. walk_cut encoding treat last order (place + 1) (used_behind first) rest start ends)
    is

-- What a cut leaves.

-- a walk over bytes of which the first unit is known
abbrev begun : Encoding → Treatment → Order → ℕ → List ℕ → Option Read → Walk
begun encoding treat order byte rest unit =
    let first = item_of treat false 0 (byte ∷ rest) unit in
    onto_walk order 0 first (walk_from encoding treat false order 1 (used_behind first) rest)

-- bytes that are cut are at least one and at most three
pub cut_size : (encoding : Encoding) (order : Order) (bytes : List ℕ) → AreCut encoding order bytes → (1 ≤ len bytes) × (len bytes ≤ 3)
cut_size encoding order bytes cut =
    let within = subst (λ (unit : Option Read). IfSome unit (λ u. IsWithin u (len bytes))) (cut.unit true) (unit_within_any encoding order true bytes) in
    let short = subst (λ (unit : Option Read). IfSome unit IsShort) (cut.unit true) (unit_short encoding order true bytes) in
    (omega (arith, within.0, within.1), omega (arith, within.1, short))

-- a walk over bytes that are cut stops before them, while more may come
pub cut_again : (encoding : Encoding) (treat : Treatment) (order : Order) (bytes : List ℕ) → AreCut encoding order bytes → walk_from encoding treat false order 0 0 bytes ≡ ends order (AtCut 0)
cut_again encoding treat order [] cut = absurd (omega (arith, (cut_size encoding order [] cut).0))
cut_again encoding treat order (byte ∷ rest) cut =
    ap (λ (unit : Option Read). begun encoding treat order byte rest unit) (cut.unit true)
