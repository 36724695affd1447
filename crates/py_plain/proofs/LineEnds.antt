-- Where the first line of some bytes ends, and that it ends where the first line of their characters does.
use Rattle.std.proofs.Common.{◌≡◌, ◌≢◌, ℕ, zero, suc, ◌+◌, ◌-◌, ◌<◌, ◌≤◌, Bool, true, false, not, nat_eq, ◌&&◌, ◌||◌, if◌then◌else◌, List, [], ◌∷◌, ◌++◌, length, take, drop, get_or, Ok, Err, refl, sym, ap, subst, ◌∙◌, arith, append_assoc, append-nil}
use Rattle.std.specs.Bool.{⊤}
use Rattle.std.specs.List.{starts_with}
use Rattle.std.proofs.lemmas.Bool.{eqb-true, and_parts}
use Rattle.std.proofs.lemmas.Bool.Decides.{nat_tests}
use Rattle.std.proofs.lemmas.List.{length-append, length-take-le, length-drop, take_all, take_more, take-append-drop, drop_more, drop-drop, get_or-drop}
use Rattle.std.proofs.Math.Seq.{split_at, take-add}
use Rattle.memchr.specs.Find.{Nowhere, NoneBefore, Passes, is_byte, is_byte2}
use Rattle.py_flat.specs.Lines.{LineEnd, Lf, Cr, CrLf, AnyEnd, lf, cr, begins_with_lf, ends_line, ends_pair, line_after, has_end_after}
use Rattle.py_plain.specs.NewlineRule.{ends_held}
use Rattle.py_plain.specs.FindNewline.{kept_back, byte_place}

-- whether a line ends with an element
abbrev pub here : LineEnd → Bool → ℕ → List ℕ → Bool
here end after_cr c next = ends_line end c next || ends_pair end after_cr c

-- no line ends with any of some elements, which others stand behind
abbrev pub Passed : LineEnd → Bool → List ℕ → List ℕ → Type 0
Passed end after_cr [] ys = ⊤
Passed end after_cr (x ∷ xs) ys = (here end after_cr x (xs ++ ys) ≡ false) × Passed end (nat_eq x cr) xs ys

-- then the first line goes on behind them
pub line_passed : (end : LineEnd) (after_cr : Bool) (xs ys : List ℕ) → Passed end after_cr xs ys → line_after end after_cr (xs ++ ys) ≡ xs ++ line_after end (ends_held after_cr xs) ys
line_passed end after_cr [] ys passed = refl
line_passed end after_cr (x ∷ xs) ys passed =
    ap (λ (b : Bool). x ∷ (if b then [] else line_after end (nat_eq x cr) (xs ++ ys))) passed.0
    ∙ ap (λ (t : List ℕ). x ∷ t) (line_passed end (nat_eq x cr) xs ys passed.1)

pub end_passed : (end : LineEnd) (after_cr : Bool) (xs ys : List ℕ) → Passed end after_cr xs ys → has_end_after end after_cr (xs ++ ys) ≡ has_end_after end (ends_held after_cr xs) ys
end_passed end after_cr [] ys passed = refl
end_passed end after_cr (x ∷ xs) ys passed =
    ap (λ (b : Bool). b || has_end_after end (nat_eq x cr) (xs ++ ys)) passed.0
    ∙ end_passed end (nat_eq x cr) xs ys passed.1

pub held_behind : (held : Bool) (xs ys : List ℕ) → ends_held held (xs ++ ys) ≡ ends_held (ends_held held xs) ys
held_behind held [] ys = refl
held_behind held (x ∷ xs) ys = held_behind (nat_eq x cr) xs ys

pub passed_both : (end : LineEnd) (after_cr : Bool) (xs ys zs : List ℕ) → Passed end after_cr xs (ys ++ zs) → Passed end (ends_held after_cr xs) ys zs → Passed end after_cr (xs ++ ys) zs
passed_both end after_cr [] ys zs first second = second
passed_both end after_cr (x ∷ xs) ys zs first second = (
  ap (here end after_cr x) (append_assoc xs ys zs) ∙ first.0,
  passed_both end (nat_eq x cr) xs ys zs first.1 second,
)

-- no line ends with what is no LF and no CR
none_of : (a b d : Bool) → (a || b) ≡ false → ((a || (b && d)) || false) ≡ false
none_of true b d none = absurd (cc)
none_of false true d none = absurd (cc)
none_of false false d none = refl

behind_cr : (after_cr a : Bool) → a ≡ false → (false || (after_cr && a)) ≡ false
behind_cr true a none = none
behind_cr false a none = refl

pub neither : (end : LineEnd) (after_cr : Bool) (c : ℕ) (next : List ℕ) → nat_eq c lf ≡ false → nat_eq c cr ≡ false → here end after_cr c next ≡ false
neither Lf after_cr c next no_lf no_cr = ap (λ (b : Bool). b || false) no_lf
neither Cr after_cr c next no_lf no_cr = ap (λ (b : Bool). b || false) no_cr
neither CrLf after_cr c next no_lf no_cr = behind_cr after_cr (nat_eq c lf) no_lf
neither AnyEnd after_cr c next no_lf no_cr = none_of (nat_eq c lf) (nat_eq c cr) (not (begins_with_lf next)) (ap (λ (b : Bool). b || nat_eq c cr) no_lf ∙ no_cr)

-- a test finds each element that ends a line
abbrev pub Finds : (ℕ → Bool) → LineEnd → Type 0
Finds test end = (after_cr : Bool) (c : ℕ) (next : List ℕ) → test c ≡ false → here end after_cr c next ≡ false

pub lf_finds : Finds (is_byte lf) Lf
lf_finds after_cr c next none = ap (λ (b : Bool). b || false) none

pub cr_finds : Finds (is_byte cr) Cr
cr_finds after_cr c next none = ap (λ (b : Bool). b || false) none

pub pair_finds : Finds (is_byte lf) CrLf
pair_finds after_cr c next none = behind_cr after_cr (nat_eq c lf) none

pub any_finds : Finds (is_byte2 lf cr) AnyEnd
any_finds after_cr c next none = none_of (nat_eq c lf) (nat_eq c cr) (not (begins_with_lf next)) none

-- a test that isn't true is false
not_true : (test : Bool) → test ≢ true → test ≡ false
not_true true isnt = absurd (isnt refl)
not_true false isnt = refl

-- a search passed some bytes
pub passed_before : (test : ℕ → Bool) (end : LineEnd) → Finds test end → (after_cr : Bool) (xs : List ℕ) (count : ℕ) (ys : List ℕ) → Nowhere (Passes test xs) 0 count → Passed end after_cr (take count xs) ys
passed_before test end finds after_cr xs zero ys none = tt
passed_before test end finds after_cr [] (suc count) ys none = tt
passed_before test end finds after_cr (x ∷ xs) (suc count) ys none = (
  finds after_cr x (take count xs ++ ys) (not_true (test x) (none 0 (omega arith) (omega arith))),
  passed_before test end finds (nat_eq x cr) xs count ys (λ k low high. none (suc k) (omega arith) (omega arith)),
)

-- where a line ends with an element behind those that were passed
pub found_place : (end : LineEnd) (front : List ℕ) (c : ℕ) (rest : List ℕ) → Passed end false front (c ∷ rest) → here end (ends_held false front) c rest ≡ true → byte_place end (front ++ (c ∷ rest)) ≡ Ok (length front + 1)
found_place end front c rest passed ends =
    let whole : List ℕ = front ++ (c ∷ rest) in
    let has : has_end_after end false whole ≡ true = end_passed end false front (c ∷ rest) passed ∙ ap (λ (b : Bool). b || has_end_after end (nat_eq c cr) rest) ends in
    let line : line_after end false whole ≡ front ++ (c ∷ []) = line_passed end false front (c ∷ rest) passed ∙ ap (λ (b : Bool). front ++ (c ∷ (if b then [] else line_after end (nat_eq c cr) rest))) ends in
    ap (λ (b : Bool). if b then Ok (length (line_after end false whole)) else Err (length whole - kept_back end whole)) has
    ∙ ap (λ (n : ℕ). Ok n) (ap length line ∙ length-append front (c ∷ []))

-- where all were passed
pub none_place : (end : LineEnd) (bytes : List ℕ) → Passed end false bytes [] → byte_place end bytes ≡ Err (length bytes - kept_back end bytes)
none_place end bytes passed =
    let none : has_end_after end false bytes ≡ false = ap (has_end_after end false) (sym (append-nil bytes)) ∙ end_passed end false bytes [] passed in
    ap (λ (b : Bool). if b then Ok (length (line_after end false bytes)) else Err (length bytes - kept_back end bytes)) none

-- a search found none
pub none_found : (test : ℕ → Bool) (end : LineEnd) → Finds test end → (bytes : List ℕ) → Nowhere (Passes test bytes) 0 (length bytes) → byte_place end bytes ≡ Err (length bytes - kept_back end bytes)
none_found test end finds bytes none = none_place end bytes (subst (λ (t : List ℕ). Passed end false t []) (take_all (length bytes) bytes (omega arith)) (passed_before test end finds false bytes (length bytes) [] none))

-- a search found one that ends a line wherever it stands
pub one_found : (end : LineEnd) (bytes : List ℕ) (at : ℕ) → at < length bytes → Passed end false (take at bytes) (get_or bytes at 0 ∷ drop (suc at) bytes) → here end (ends_held false (take at bytes)) (get_or bytes at 0) (drop (suc at) bytes) ≡ true → byte_place end bytes ≡ Ok (at + 1)
one_found end bytes at inside passed ends =
    ap (byte_place end) (split_at bytes at 0 inside)
    ∙ (found_place end (take at bytes) (get_or bytes at 0) (drop (suc at) bytes) passed ends
    ∙ ap (λ (n : ℕ). Ok n) (omega (arith, length-take-le at bytes (omega arith))))

-- One byte that is searched.

pub lf_ends : (after_cr : Bool) (next : List ℕ) → here Lf after_cr lf next ≡ true
lf_ends after_cr next = refl

pub cr_ends : (after_cr : Bool) (next : List ℕ) → here Cr after_cr cr next ≡ true
cr_ends after_cr next = refl

-- what a search for a byte found that ends lines by itself
byte_at : (end : LineEnd) (byte : ℕ) → Finds (is_byte byte) end → ((after_cr : Bool) (next : List ℕ) → here end after_cr byte next ≡ true) → (bytes : List ℕ) (at : ℕ) → NoneBefore (Passes (is_byte byte) bytes) 0 (length bytes) at → Passes (is_byte byte) bytes at → Ok (at + 1) ≡ byte_place end bytes
byte_at end byte finds ends bytes at none is =
    let front : List ℕ = take at bytes in
    let next : List ℕ = drop (suc at) bytes in
    let ends_here : here end (ends_held false front) (get_or bytes at 0) next ≡ true = ap (λ (c : ℕ). here end (ends_held false front) c next) (eqb-true (get_or bytes at 0) byte is) ∙ ends (ends_held false front) next in
    sym (one_found end bytes at none.high (passed_before (is_byte byte) end finds false bytes at (get_or bytes at 0 ∷ next) none.before) ends_here)

pub byte_found : (end : LineEnd) (searched byte : ℕ) → Finds (is_byte byte) end → ((after_cr : Bool) (next : List ℕ) → here end after_cr byte next ≡ true) → searched ≡ byte → (bytes : List ℕ) (at : ℕ) → NoneBefore (Passes (is_byte searched) bytes) 0 (length bytes) at → Passes (is_byte searched) bytes at → Ok (at + 1) ≡ byte_place end bytes
byte_found end searched byte finds ends same bytes at none is =
    byte_at end byte finds ends bytes at (subst (λ (b : ℕ). NoneBefore (Passes (is_byte b) bytes) 0 (length bytes) at) same none) (subst (λ (b : ℕ). Passes (is_byte b) bytes at) same is)

pub byte_missed : (end : LineEnd) (searched byte : ℕ) → Finds (is_byte byte) end → searched ≡ byte → (bytes : List ℕ) → Nowhere (Passes (is_byte searched) bytes) 0 (length bytes) → Err (length bytes - kept_back end bytes) ≡ byte_place end bytes
byte_missed end searched byte finds same bytes none =
    sym (none_found (is_byte byte) end finds bytes (subst (λ (b : ℕ). Nowhere (Passes (is_byte b) bytes) 0 (length bytes)) same none))

pub all_left : (n : ℕ) → n ≡ n - 0
all_left n = omega arith

-- A CR LF that is searched by its LF.

-- whether the last of some elements is a CR
pub last_held : (held : Bool) (xs : List ℕ) → 1 ≤ length xs → nat_eq (get_or xs (length xs - 1) 0) cr ≡ ends_held held xs
last_held held [] some = absurd (omega (arith, some))
last_held held (x ∷ []) some = refl
last_held held (x ∷ y ∷ ys) some =
    let at : length (x ∷ y ∷ ys) - 1 ≡ suc (length (y ∷ ys) - 1) = omega arith in
    ap (λ (n : ℕ). nat_eq (get_or (x ∷ y ∷ ys) n 0) cr) at ∙ last_held (nat_eq x cr) (y ∷ ys) (omega arith)

-- no line ends before a place
pub record IsPassed (bytes : List ℕ) (from : ℕ) : Type 0 where
  pub within : from ≤ length bytes
  pub passed : Passed CrLf false (take from bytes) (drop from bytes)

-- nor before an LF
pub record IsBefore (bytes : List ℕ) (at : ℕ) : Type 0 where
  pub within : at < length bytes
  pub is : get_or bytes at 0 ≡ lf
  pub passed : Passed CrLf false (take at bytes) (get_or bytes at 0 ∷ drop (suc at) bytes)

-- what a search from such a place on found
pub pair_before : (bytes rest : List ℕ) (from at : ℕ) → IsPassed bytes from → rest ≡ drop from bytes → NoneBefore (Passes (is_byte lf) rest) 0 (length rest) at → Passes (is_byte lf) rest at → IsBefore bytes (from + at)
pair_before bytes rest from at before is_rest none is =
    let within : from + at < length bytes = omega (arith, none.high, before.within, ap length is_rest, length-drop from bytes) in
    let same : get_or rest at 0 ≡ get_or bytes (from + at) 0 = ap (λ (t : List ℕ). get_or t at 0) is_rest ∙ get_or-drop from bytes at 0 in
    let next : List ℕ = get_or bytes (from + at) 0 ∷ drop (suc (from + at)) bytes in
    let next_is : (from + at) + 1 ≡ suc (from + at) = omega arith in
    let front : take (from + at) bytes ≡ take from bytes ++ take at rest = take-add from at bytes ∙ ap (λ (t : List ℕ). take from bytes ++ take at t) (sym is_rest) in
    let behind : drop from bytes ≡ take at rest ++ next = sym is_rest ∙ (sym (take-append-drop at rest) ∙ ap (λ (t : List ℕ). take at rest ++ t) (ap (drop at) is_rest ∙ (drop-drop at from bytes ∙ (drop_more bytes (from + at) 0 within ∙ ap (λ (n : ℕ). get_or bytes (from + at) 0 ∷ drop n bytes) next_is)))) in
    record {
      within = within;
      is = sym same ∙ eqb-true (get_or rest at 0) lf is;
      passed = subst (λ (t : List ℕ). Passed CrLf false t next) (sym front)
          (passed_both CrLf false (take from bytes) (take at rest) next
          (subst (Passed CrLf false (take from bytes)) behind before.passed)
          (passed_before (is_byte lf) CrLf pair_finds (ends_held false (take from bytes)) rest at next none.before));
    }

-- a CR stands before it
pub pair_found : (bytes front : List ℕ) (at : ℕ) → IsBefore bytes at → front ≡ take at bytes → ends_held false front ≡ true → Ok (at + 1) ≡ byte_place CrLf bytes
pair_found bytes front at before is_front held =
    let ends : here CrLf (ends_held false (take at bytes)) (get_or bytes at 0) (drop (suc at) bytes) ≡ true =
    ap (λ (t : List ℕ). here CrLf (ends_held false t) (get_or bytes at 0) (drop (suc at) bytes)) (sym is_front)
    ∙ (ap (λ (b : Bool). here CrLf b (get_or bytes at 0) (drop (suc at) bytes)) held
    ∙ ap (λ (c : ℕ). here CrLf true c (drop (suc at) bytes)) before.is) in
    sym (one_found CrLf bytes at before.within before.passed ends)

-- or none does
pub pair_passed : (bytes front : List ℕ) (at : ℕ) → IsBefore bytes at → front ≡ take at bytes → ends_held false front ≡ false → IsPassed bytes (at + 1)
pair_passed bytes front at before is_front held =
    let goes_on : here CrLf (ends_held false (take at bytes)) (get_or bytes at 0) ([] ++ drop (at + 1) bytes) ≡ false =
    ap (λ (t : List ℕ). here CrLf (ends_held false t) (get_or bytes at 0) (drop (at + 1) bytes)) (sym is_front)
    ∙ ap (λ (b : Bool). here CrLf b (get_or bytes at 0) (drop (at + 1) bytes)) held in
    let next : suc at ≡ at + 1 = omega arith in
    record {
      within = omega (arith, before.within);
      passed = subst (λ (t : List ℕ). Passed CrLf false t (drop (at + 1) bytes)) (sym (take_more bytes at 0 before.within))
          (passed_both CrLf false (take at bytes) (get_or bytes at 0 ∷ []) (drop (at + 1) bytes)
          (subst (λ (n : ℕ). Passed CrLf false (take at bytes) (get_or bytes at 0 ∷ drop n bytes)) next before.passed)
          (goes_on, tt));
    }

-- no LF stands behind such a place
pub pair_missed : (bytes rest : List ℕ) (from : ℕ) → IsPassed bytes from → rest ≡ drop from bytes → Nowhere (Passes (is_byte lf) rest) 0 (length rest) → (kept : ℕ) → kept_back CrLf bytes ≡ kept → Err (length bytes - kept) ≡ byte_place CrLf bytes
pair_missed bytes rest from before is_rest none kept is_kept =
    let passed_rest : Passed CrLf (ends_held false (take from bytes)) rest [] = subst (λ (t : List ℕ). Passed CrLf (ends_held false (take from bytes)) t []) (take_all (length rest) rest (omega arith)) (passed_before (is_byte lf) CrLf pair_finds (ends_held false (take from bytes)) rest (length rest) [] none) in
    let behind : drop from bytes ≡ rest ++ [] = sym is_rest ∙ sym (append-nil rest) in
    let whole : take from bytes ++ rest ≡ bytes = ap (λ (t : List ℕ). take from bytes ++ t) is_rest ∙ take-append-drop from bytes in
    let passed : Passed CrLf false bytes [] = subst (λ (t : List ℕ). Passed CrLf false t []) whole (passed_both CrLf false (take from bytes) rest [] (subst (Passed CrLf false (take from bytes)) behind before.passed) passed_rest) in
    sym (none_place CrLf bytes passed ∙ ap (λ (n : ℕ). Err (length bytes - n)) is_kept)

pub kept_if : (bytes : List ℕ) (held : Bool) → ends_held false bytes ≡ held → kept_back CrLf bytes ≡ (if held then 1 else 0)
kept_if bytes held is = ap (λ (b : Bool). if b then 1 else 0) is

-- all that stands behind a place
pub all_behind : (from : ℕ) (bytes : List ℕ) → take (length bytes - from) (drop from bytes) ≡ drop from bytes
all_behind from bytes = take_all (length bytes - from) (drop from bytes) (omega (arith, length-drop from bytes))

-- A CR LF, CR or LF.

eq_swapped : (a b : ℕ) → nat_eq a b ≡ nat_eq b a
eq_swapped a b = grind (arith, nat_tests)

and_true : (a : Bool) → (a && true) ≡ a
and_true true = refl
and_true false = refl

-- some bytes begin with a CR LF
pair_first : (c : ℕ) (rest : List ℕ) → starts_with nat_eq (c ∷ rest) (cr ∷ lf ∷ []) ≡ (nat_eq c cr && begins_with_lf rest)
pair_first c [] = ap (λ (b : Bool). b && false) (eq_swapped cr c)
pair_first c (d ∷ ds) = ap (λ (b : Bool). b && (nat_eq lf d && true)) (eq_swapped cr c) ∙ ap (λ (b : Bool). nat_eq c cr && b) (and_true (nat_eq lf d) ∙ eq_swapped lf d)

-- what a search among some bytes found
pub record IsAny (bytes : List ℕ) (at : ℕ) : Type 0 where
  pub within : at < length bytes
  pub is : (nat_eq (get_or bytes at 0) lf || nat_eq (get_or bytes at 0) cr) ≡ true
  pub passed : Passed AnyEnd false (take at bytes) (get_or bytes at 0 ∷ drop (suc at) bytes)

pub any_at : (bytes : List ℕ) (at : ℕ) → NoneBefore (Passes (is_byte2 lf cr) bytes) 0 (length bytes) at → Passes (is_byte2 lf cr) bytes at → IsAny bytes at
any_at bytes at none is = record {
  within = none.high;
  is = is;
  passed = passed_before (is_byte2 lf cr) AnyEnd any_finds false bytes at (get_or bytes at 0 ∷ drop (suc at) bytes) none.before;
}

-- whether a CR LF stands there
pair_there : (bytes : List ℕ) (at : ℕ) → at < length bytes → starts_with nat_eq (take (length bytes - at) (drop at bytes)) (cr ∷ lf ∷ []) ≡ (nat_eq (get_or bytes at 0) cr && begins_with_lf (drop (suc at) bytes))
pair_there bytes at within =
    let next_is : at + 1 ≡ suc at = omega arith in
    ap (λ (t : List ℕ). starts_with nat_eq t (cr ∷ lf ∷ [])) (all_behind at bytes ∙ (drop_more bytes at 0 within ∙ ap (λ (n : ℕ). get_or bytes at 0 ∷ drop n bytes) next_is))
    ∙ pair_first (get_or bytes at 0) (drop (suc at) bytes)

goes_on : (a b d : Bool) → a ≡ false → d ≡ true → ((a || (b && not d)) || false) ≡ false
goes_on true b d none next = absurd (cc)
goes_on false b false none next = absurd (cc)
goes_on false true true none next = refl
goes_on false false true none next = refl

ends_now : (a b d : Bool) → (a || b) ≡ true → (b && d) ≡ false → ((a || (b && not d)) || false) ≡ true
ends_now true b d is none = refl
ends_now false true true is none = absurd (cc)
ends_now false true false is none = refl
ends_now false false d is none = absurd (cc)

begins_some : (xs : List ℕ) → begins_with_lf xs ≡ true → (1 ≤ length xs) × (get_or xs 0 0 ≡ lf)
begins_some [] is = absurd (cc)
begins_some (x ∷ xs) is = (omega arith, eqb-true x lf is)

pub any_missed : (bytes : List ℕ) → Nowhere (Passes (is_byte2 lf cr) bytes) 0 (length bytes) → Err (length bytes) ≡ byte_place AnyEnd bytes
any_missed bytes none = ap (λ (n : ℕ). Err n) (all_left (length bytes)) ∙ sym (none_found (is_byte2 lf cr) AnyEnd any_finds bytes none)

pub any_found : (bytes : List ℕ) (at : ℕ) → IsAny bytes at → starts_with nat_eq (take (length bytes - at) (drop at bytes)) (cr ∷ lf ∷ []) ≡ false → Ok (at + 1) ≡ byte_place AnyEnd bytes
any_found bytes at any alone =
    sym (one_found AnyEnd bytes at any.within any.passed (ends_now (nat_eq (get_or bytes at 0) lf) (nat_eq (get_or bytes at 0) cr) (begins_with_lf (drop (suc at) bytes)) any.is (sym (pair_there bytes at any.within) ∙ alone)))

pub any_pair : (bytes : List ℕ) (at : ℕ) → IsAny bytes at → starts_with nat_eq (take (length bytes - at) (drop at bytes)) (cr ∷ lf ∷ []) ≡ true → Ok (at + 2) ≡ byte_place AnyEnd bytes
any_pair bytes at any first =
    let c : ℕ = get_or bytes at 0 in
    let next : ℕ = at + 1 in
    let rest : List ℕ = drop next bytes in
    let next_is : suc at ≡ next = omega arith in
    let both = and_parts (nat_eq c cr) (begins_with_lf (drop (suc at) bytes)) (sym (pair_there bytes at any.within) ∙ first) in
    let begins : begins_with_lf rest ≡ true = ap (λ (n : ℕ). begins_with_lf (drop n bytes)) (sym next_is) ∙ both.1 in
    let some = begins_some rest begins in
    let within : next < length bytes = omega (arith, some.0, length-drop next bytes) in
    let is_lf : get_or bytes next 0 ≡ lf = ap (λ (n : ℕ). get_or bytes n 0) (omega arith) ∙ (sym (get_or-drop next bytes 0 0) ∙ some.1) in
    let no_lf : nat_eq c lf ≡ false = ap (λ (n : ℕ). nat_eq n lf) (eqb-true c cr both.0) in
    let after : Passed AnyEnd false (take next bytes) rest =
    subst (λ (t : List ℕ). Passed AnyEnd false t rest) (sym (take_more bytes at 0 any.within))
    (passed_both AnyEnd false (take at bytes) (c ∷ []) rest
    (subst (λ (n : ℕ). Passed AnyEnd false (take at bytes) (c ∷ drop n bytes)) next_is any.passed)
    (goes_on (nat_eq c lf) (nat_eq c cr) (begins_with_lf rest) no_lf begins, tt)) in
    let next_next : next + 1 ≡ suc next = omega arith in
    let behind : rest ≡ get_or bytes next 0 ∷ drop (suc next) bytes = drop_more bytes next 0 within ∙ ap (λ (n : ℕ). get_or bytes next 0 ∷ drop n bytes) next_next in
    let ends : here AnyEnd (ends_held false (take next bytes)) (get_or bytes next 0) (drop (suc next) bytes) ≡ true = ap (λ (n : ℕ). here AnyEnd (ends_held false (take next bytes)) n (drop (suc next) bytes)) is_lf in
    ap (λ (n : ℕ). Ok n) (omega arith) ∙ sym (one_found AnyEnd bytes next within (subst (Passed AnyEnd false (take next bytes)) behind after) ends)
