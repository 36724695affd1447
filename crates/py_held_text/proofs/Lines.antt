-- The first line of a text, of which a front was searched, and were an LF to come.
use Rattle.std.proofs.Common.{◌≡◌, ◌⊎◌, ℕ, ◌+◌, ◌-◌, ◌<◌, ◌≤◌, inl, inr, Bool, true, false, not, nat_eq, ◌&&◌, ◌||◌, if◌then◌else◌, List, [], ◌∷◌, ◌++◌, length, drop, None, Result, Ok, Err, refl, sym, ap, subst, ◌∙◌, arith, true≢false, eqb-true, append_assoc, append-nil, chars, encode_utf8_all}
use Rattle.std.specs.Str.{IsUtf8}
use Rattle.std.proofs.lemmas.Bool.{or_parts}
use Rattle.std.proofs.lemmas.List.{length-append}
use Rattle.std.proofs.lemmas.Str.{encodes-append, encodes-chars, encode_ascii, length-le-encodes}
use Rattle.py_flat.proofs.Cutting.{first_line_is_front}
use Rattle.py_flat.specs.Lines.{LineEnd, Lf, Cr, CrLf, AnyEnd, lf, cr, begins_with_lf, ends_line, ends_pair, line_after, has_end_after}
use Rattle.py_plain.specs.declared.newlines.Newlines.{Newlines}
use Rattle.py_plain.specs.declared.newlines.Newlines.TheVariants as rule
use Rattle.py_plain.specs.NewlineRule.{line_end, ends_held}
use Rattle.py_plain.specs.FindNewline.{kept_back, newline_place}
use Rattle.py_held_text.specs.LineSearch.{IsBegin, IsSearched, may_go_on}
use Rattle.py_held_text.proofs.Parts.{cut, spelled-both}
use Rattle.py_plain.proofs.LineEnds.{here, Passed, line_passed, end_passed, held_behind}
use Rattle.py_plain.proofs.CharacterEnds.{held_same}

and-true : (a : Bool) → a ≡ (a && true)
and-true true = refl
and-true false = refl

-- an element that ends no line ends none with others behind
ends-none : (end : LineEnd) (c : ℕ) (xs ys : List ℕ) → ends_line end c xs ≡ false → ends_line end c (xs ++ ys) ≡ false
ends-none Lf c xs ys none = none
ends-none Cr c xs ys none = none
ends-none CrLf c xs ys none = refl
ends-none AnyEnd c (x ∷ xs) ys none = none
ends-none AnyEnd c [] ys none =
    let both = or_parts (nat_eq c lf) (nat_eq c cr && true) none in
    let no_cr : nat_eq c cr ≡ false = and-true (nat_eq c cr) ∙ both.1 in
    ap (λ (b : Bool). b || (nat_eq c cr && not (begins_with_lf ys))) both.0 ∙ ap (λ (b : Bool). b && not (begins_with_lf ys)) no_cr

-- no line ends in some elements: none ends with any of them, whatever stands behind
pub passed-none : (end : LineEnd) (after_cr : Bool) (xs ys : List ℕ) → has_end_after end after_cr xs ≡ false → Passed end after_cr xs ys
passed-none end after_cr [] ys none = tt
passed-none end after_cr (x ∷ xs) ys none =
    let both = or_parts (here end after_cr x xs) (has_end_after end (nat_eq x cr) xs) none in
    let first = or_parts (ends_line end x xs) (ends_pair end after_cr x) both.0 in (
      ap (λ (b : Bool). b || ends_pair end after_cr x) (ends-none end x xs ys first.0) ∙ first.1,
      passed-none end (nat_eq x cr) xs ys both.1,
    )

-- Where a search goes on.

none-kept : (b : Bool) → ◌≡◌ {A = ℕ} (if b then 1 else 0) 0 → b ≡ false
none-kept true is = absurd (cc)
none-kept false is = refl

-- behind elements of which none is kept back a line goes on as one that begins there
after-none : (end : LineEnd) (xs ys : List ℕ) → kept_back end xs ≡ 0 → line_after end (ends_held false xs) ys ≡ line_after end false ys
after-none end xs [] kept = refl
after-none Lf xs (y ∷ ys) kept = refl
after-none Cr xs (y ∷ ys) kept = refl
after-none AnyEnd xs (y ∷ ys) kept = refl
after-none CrLf xs (y ∷ ys) kept = ap (λ (b : Bool). line_after CrLf b (y ∷ ys)) (none-kept (ends_held false xs) kept)

has-after-none : (end : LineEnd) (xs ys : List ℕ) → kept_back end xs ≡ 0 → has_end_after end (ends_held false xs) ys ≡ has_end_after end false ys
has-after-none end xs [] kept = refl
has-after-none Lf xs (y ∷ ys) kept = refl
has-after-none Cr xs (y ∷ ys) kept = refl
has-after-none AnyEnd xs (y ∷ ys) kept = refl
has-after-none CrLf xs (y ∷ ys) kept = ap (λ (b : Bool). has_end_after CrLf b (y ∷ ys)) (none-kept (ends_held false xs) kept)

-- a CR that is the last
last-cr : (held : Bool) (x : ℕ) (xs : List ℕ) → ends_held held (x ∷ xs) ≡ true → (front : List ℕ) × (x ∷ xs ≡ front ++ cr ∷ [])
last-cr held x [] is = ([], ap (λ (n : ℕ). n ∷ []) (eqb-true x cr is))
last-cr held x (y ∷ ys) is = let more = last-cr (nat_eq x cr) y ys is in (x ∷ more.0, ap (λ (t : List ℕ). x ∷ t) more.1)

ends-cr : (xs : List ℕ) → ends_held false xs ≡ true → (front : List ℕ) × (xs ≡ front ++ cr ∷ [])
ends-cr [] is = absurd (cc)
ends-cr (x ∷ xs) is = last-cr false x xs is

passed-pair : (after_cr : Bool) (front more : List ℕ) → has_end_after CrLf after_cr (front ++ cr ∷ []) ≡ false → Passed CrLf after_cr front more
passed-pair after_cr [] more none = tt
passed-pair after_cr (x ∷ xs) more none =
    let both = or_parts (here CrLf after_cr x (xs ++ cr ∷ [])) (has_end_after CrLf (nat_eq x cr) (xs ++ cr ∷ [])) none in
    (both.0, passed-pair (nat_eq x cr) xs more both.1)

cr-anew : (after_cr : Bool) (more : List ℕ) → line_after CrLf after_cr (cr ∷ more) ≡ line_after CrLf false (cr ∷ more)
cr-anew true more = refl
cr-anew false more = refl

cr-ends-anew : (after_cr : Bool) (more : List ℕ) → has_end_after CrLf after_cr (cr ∷ more) ≡ has_end_after CrLf false (cr ∷ more)
cr-ends-anew true more = refl
cr-ends-anew false more = refl

-- where no line ends in some characters, all but those that are kept back needn't be searched again
pub record IsPast (end : LineEnd) (cs : List ℕ) (bytes : ℕ) : Type 0 where
  pub front : List ℕ
  pub kept : List ℕ
  pub whole : cs ≡ front ++ kept
  pub bytes_are : bytes ≡ length (encode_utf8_all front)
  pub line : (more : List ℕ) → line_after end false (cs ++ more) ≡ front ++ line_after end false (kept ++ more)
  pub ends : (more : List ℕ) → has_end_after end false (cs ++ more) ≡ has_end_after end false (kept ++ more)

past-all : (end : LineEnd) (cs : List ℕ) → has_end_after end false cs ≡ false → kept_back end cs ≡ 0 → IsPast end cs (length (encode_utf8_all cs) - kept_back end cs)
past-all end cs none kept = record {
  front = cs;
  kept = [];
  whole = sym (append-nil cs);
  bytes_are = omega (arith, kept);
  line = λ more. line_passed end false cs more (passed-none end false cs more none) ∙ ap (λ (t : List ℕ). cs ++ t) (after-none end cs more kept);
  ends = λ more. end_passed end false cs more (passed-none end false cs more none) ∙ has-after-none end cs more kept;
}

past-cr : (cs : List ℕ) → has_end_after CrLf false cs ≡ false → ends_held false cs ≡ true → IsPast CrLf cs (length (encode_utf8_all cs) - 1)
past-cr cs none held =
    let parts = ends-cr cs held in
    let front : List ℕ = parts.0 in
    let is : cs ≡ front ++ cr ∷ [] = parts.1 in
    let spelled : encode_utf8_all cs ≡ encode_utf8_all front ++ encode_utf8_all (cr ∷ []) = ap encode_utf8_all is ∙ encodes-append front (cr ∷ []) in
    let one : encode_utf8_all (cr ∷ []) ≡ cr ∷ [] = ap (λ (t : List ℕ). t ++ []) (encode_ascii cr (omega arith)) in
    record {
      front = front;
      kept = cr ∷ [];
      whole = is;
      bytes_are = omega (arith, ap (λ (t : List ℕ). length t) spelled, ap (λ (t : List ℕ). length t) one, length-append (encode_utf8_all front) (encode_utf8_all (cr ∷ [])));
      line = λ more.
          ap (λ (t : List ℕ). line_after CrLf false (t ++ more)) is
          ∙ (ap (line_after CrLf false) (append_assoc front (cr ∷ []) more)
          ∙ (line_passed CrLf false front (cr ∷ more) (passed-pair false front (cr ∷ more) (ap (has_end_after CrLf false) (sym is) ∙ none))
          ∙ ap (λ (t : List ℕ). front ++ t) (cr-anew (ends_held false front) more)));
      ends = λ more.
          ap (λ (t : List ℕ). has_end_after CrLf false (t ++ more)) is
          ∙ (ap (has_end_after CrLf false) (append_assoc front (cr ∷ []) more)
          ∙ (end_passed CrLf false front (cr ∷ more) (passed-pair false front (cr ∷ more) (ap (has_end_after CrLf false) (sym is) ∙ none))
          ∙ cr-ends-anew (ends_held false front) more));
    }

past-pair : (cs : List ℕ) (held : Bool) → ends_held false cs ≡ held → has_end_after CrLf false cs ≡ false → IsPast CrLf cs (length (encode_utf8_all cs) - (if held then 1 else 0))
past-pair cs true held none = past-cr cs none held
past-pair cs false held none =
    let kept : kept_back CrLf cs ≡ 0 = ap (λ (b : Bool). if b then 1 else 0) held in
    subst (λ (n : ℕ). IsPast CrLf cs (length (encode_utf8_all cs) - n)) kept (past-all CrLf cs none kept)

pub past : (end : LineEnd) (cs : List ℕ) → has_end_after end false cs ≡ false → IsPast end cs (length (encode_utf8_all cs) - kept_back end cs)
past Lf cs none = past-all Lf cs none refl
past Cr cs none = past-all Cr cs none refl
past AnyEnd cs none = past-all AnyEnd cs none refl
past CrLf cs none = past-pair cs (ends_held false cs) refl none

-- Were an LF to come.

-- a line has all of some characters and ends with a CR that may begin a pair
record GoesOn (end : LineEnd) (after_cr : Bool) (cs : List ℕ) : Type 0 where
  is : end ≡ AnyEnd
  held : ends_held after_cr cs ≡ true
  all : line_after end after_cr cs ≡ cs

-- the line is the same were an LF to come, or it goes on
abbrev Settles : LineEnd → Bool → List ℕ → Type 0
Settles end after_cr cs = (line_after end after_cr (cs ++ lf ∷ []) ≡ line_after end after_cr cs) ⊎ GoesOn end after_cr cs

abbrev rest-by : ℕ → Bool → List ℕ → List ℕ
rest-by c ends rest = c ∷ (if ends then [] else rest)

if-same : (b : Bool) → ◌≡◌ {A = List ℕ} (if b then [] else []) []
if-same true = refl
if-same false = refl

settles-last : (after_cr : Bool) (c : ℕ) (a b : Bool) → nat_eq c lf ≡ a → nat_eq c cr ≡ b → ((a || (b && true)) || false) ≡ true → Settles AnyEnd after_cr (c ∷ [])
settles-last after_cr c true b is_lf is_cr ends =
    inl (ap (λ (t : Bool). c ∷ (if (t || (nat_eq c cr && false)) || false then [] else line_after AnyEnd (nat_eq c cr) (lf ∷ []))) is_lf ∙ ap (λ (t : Bool). c ∷ (if (t || (nat_eq c cr && true)) || false then [] else [])) (sym is_lf))
settles-last after_cr c false true is_lf is_cr ends =
    inr (record { is = refl; held = is_cr; all = ap (λ (t : List ℕ). c ∷ t) (if-same (here AnyEnd after_cr c [])) })
settles-last after_cr c false false is_lf is_cr ends = absurd (cc)

settles-here : (end : LineEnd) (after_cr : Bool) (c : ℕ) (cs : List ℕ) → here end after_cr c cs ≡ true → Settles end after_cr (c ∷ cs)
settles-here Lf after_cr c cs ends = inl (ap (λ (b : Bool). rest-by c b (line_after Lf (nat_eq c cr) (cs ++ lf ∷ []))) ends ∙ ap (λ (b : Bool). rest-by c b (line_after Lf (nat_eq c cr) cs)) (sym ends))
settles-here Cr after_cr c cs ends = inl (ap (λ (b : Bool). rest-by c b (line_after Cr (nat_eq c cr) (cs ++ lf ∷ []))) ends ∙ ap (λ (b : Bool). rest-by c b (line_after Cr (nat_eq c cr) cs)) (sym ends))
settles-here CrLf after_cr c cs ends = inl (ap (λ (b : Bool). rest-by c b (line_after CrLf (nat_eq c cr) (cs ++ lf ∷ []))) ends ∙ ap (λ (b : Bool). rest-by c b (line_after CrLf (nat_eq c cr) cs)) (sym ends))
settles-here AnyEnd after_cr c (d ∷ ds) ends = inl (ap (λ (b : Bool). rest-by c b (line_after AnyEnd (nat_eq c cr) ((d ∷ ds) ++ lf ∷ []))) ends ∙ ap (λ (b : Bool). rest-by c b (line_after AnyEnd (nat_eq c cr) (d ∷ ds))) (sym ends))
settles-here AnyEnd after_cr c [] ends = settles-last after_cr c (nat_eq c lf) (nat_eq c cr) refl refl ends

here-none : (end : LineEnd) (after_cr : Bool) (c : ℕ) (xs ys : List ℕ) → here end after_cr c xs ≡ false → here end after_cr c (xs ++ ys) ≡ false
here-none end after_cr c xs ys none =
    let first = or_parts (ends_line end c xs) (ends_pair end after_cr c) none in
    ap (λ (b : Bool). b || ends_pair end after_cr c) (ends-none end c xs ys first.0) ∙ first.1

settles-behind : (end : LineEnd) (after_cr : Bool) (c : ℕ) (cs : List ℕ) → here end after_cr c cs ≡ false → Settles end (nat_eq c cr) cs → Settles end after_cr (c ∷ cs)
settles-behind end after_cr c cs none (inl same) =
    inl (ap (λ (b : Bool). rest-by c b (line_after end (nat_eq c cr) (cs ++ lf ∷ []))) (here-none end after_cr c cs (lf ∷ []) none)
    ∙ (ap (λ (t : List ℕ). c ∷ t) same
    ∙ ap (λ (b : Bool). rest-by c b (line_after end (nat_eq c cr) cs)) (sym none)))
settles-behind end after_cr c cs none (inr goes) =
    inr (record { is = goes.is; held = goes.held; all = ap (λ (b : Bool). rest-by c b (line_after end (nat_eq c cr) cs)) none ∙ ap (λ (t : List ℕ). c ∷ t) goes.all })

settles-by : (end : LineEnd) (after_cr : Bool) (c : ℕ) (cs : List ℕ) (ends : Bool) → here end after_cr c cs ≡ ends → (ends || has_end_after end (nat_eq c cr) cs) ≡ true → (has_end_after end (nat_eq c cr) cs ≡ true → Settles end (nat_eq c cr) cs) → Settles end after_cr (c ∷ cs)
settles-by end after_cr c cs true is has behind = settles-here end after_cr c cs is
settles-by end after_cr c cs false is has behind = settles-behind end after_cr c cs is (behind has)

settles : (end : LineEnd) (after_cr : Bool) (cs : List ℕ) → has_end_after end after_cr cs ≡ true → Settles end after_cr cs
settles end after_cr [] has = absurd (cc)
settles end after_cr (c ∷ cs) has = settles-by end after_cr c cs (here end after_cr c cs) refl has (settles end (nat_eq c cr) cs)

-- a line that has all and ends with a CR has an LF behind it too
tail-by : (c : ℕ) (b : Bool) (rest : List ℕ) (d : ℕ) (ds : List ℕ) → rest-by c b rest ≡ c ∷ d ∷ ds → (b ≡ false) × (rest ≡ d ∷ ds)
tail-by c true rest d ds is = absurd (cc)
tail-by c false rest d ds is = (refl, cc)

longer : (after_cr : Bool) (c : ℕ) (cs : List ℕ) → line_after AnyEnd after_cr (c ∷ cs) ≡ c ∷ cs → ends_held after_cr (c ∷ cs) ≡ true → line_after AnyEnd after_cr ((c ∷ cs) ++ lf ∷ []) ≡ (c ∷ cs) ++ lf ∷ []
longer after_cr c [] all held =
    let is : c ≡ cr = eqb-true c cr held in
    subst (λ (n : ℕ). line_after AnyEnd after_cr (n ∷ lf ∷ []) ≡ n ∷ lf ∷ []) (sym is) refl
longer after_cr c (d ∷ ds) all held =
    let parts = tail-by c (here AnyEnd after_cr c (d ∷ ds)) (line_after AnyEnd (nat_eq c cr) (d ∷ ds)) d ds all in
    ap (λ (b : Bool). rest-by c b (line_after AnyEnd (nat_eq c cr) ((d ∷ ds) ++ lf ∷ []))) (here-none AnyEnd after_cr c (d ∷ ds) (lf ∷ []) parts.0)
    ∙ ap (λ (t : List ℕ). c ∷ t) (longer (nat_eq c cr) d ds parts.1 held)

-- What a search found.

pub found-at : (b : Bool) (size n m : ℕ) → ◌≡◌ {A = Result ℕ ℕ} (Ok size) (if b then Ok n else Err m) → (b ≡ true) × (size ≡ n)
found-at true size n m is = (refl, cc)
found-at false size n m is = absurd (cc)

pub missed-at : (b : Bool) (size n m : ℕ) → ◌≡◌ {A = Result ℕ ℕ} (Err size) (if b then Ok n else Err m) → (b ≡ false) × (size ≡ m)
missed-at true size n m is = absurd (cc)
missed-at false size n m is = (refl, cc)

-- the first line is a front
line-begins : (end : LineEnd) (cs : List ℕ) → (more : List ℕ) × (line_after end false cs ++ more ≡ cs)
line-begins end cs = first_line_is_front end None cs

-- the line behind what was searched
pub found-line : (end : LineEnd) (cs : List ℕ) (searched size : ℕ) (was : IsSearched end cs searched) → size ≡ length (encode_utf8_all (line_after end false was.rest)) → IsBegin cs (line_after end false cs) (searched + size)
found-line end cs searched size was is =
    let line : List ℕ = line_after end false was.rest in
    let behind = line-begins end was.rest in
    let all : line_after end false cs ≡ was.front ++ line =
    ap (line_after end false) (sym (append-nil cs)) ∙ (was.line [] ∙ ap (λ (t : List ℕ). was.front ++ line_after end false t) (append-nil was.rest)) in
    subst (λ (t : List ℕ). IsBegin cs t (searched + size)) (sym all) (record {
      rest = behind.0;
      whole = was.whole ∙ (ap (λ (t : List ℕ). was.front ++ t) (sym behind.1) ∙ sym (append_assoc was.front line behind.0));
      bytes_are = omega (arith, was.bytes_are, is, spelled-both was.front line);
    })

open-line : (end : LineEnd) (xs : List ℕ) → has_end_after end false xs ≡ false → line_after end false (xs ++ []) ≡ xs ++ []
open-line end xs none = line_passed end false xs [] (passed-none end false xs [] none)

-- a line that isn't ended is all
pub line-open : (end : LineEnd) (xs : List ℕ) → has_end_after end false xs ≡ false → line_after end false xs ≡ xs
line-open end xs none = ap (line_after end false) (sym (append-nil xs)) ∙ (open-line end xs none ∙ append-nil xs)

-- where no line ends, the first is all
pub all-line : (end : LineEnd) (cs : List ℕ) (searched : ℕ) (was : IsSearched end cs searched) → has_end_after end false was.rest ≡ false → (line_after end false cs ≡ cs) × (line_after end false (cs ++ lf ∷ []) ≡ cs ++ lf ∷ [])
all-line end cs searched was none = (
  ap (line_after end false) (sym (append-nil cs)) ∙ (was.line [] ∙ (ap (λ (t : List ℕ). was.front ++ t) (open-line end was.rest none) ∙ (sym (append_assoc was.front was.rest []) ∙ (append-nil (was.front ++ was.rest) ∙ sym was.whole)))),
  was.line (lf ∷ [])
      ∙ (ap (λ (t : List ℕ). was.front ++ t) (line_passed end false was.rest (lf ∷ []) (passed-none end false was.rest (lf ∷ []) none) ∙ ap (λ (t : List ℕ). was.rest ++ lf ∷ t) (if-same (here end (ends_held false was.rest) lf [])))
      ∙ (sym (append_assoc was.front was.rest (lf ∷ []))
      ∙ ap (λ (t : List ℕ). t ++ lf ∷ []) (sym was.whole))),
)

-- it lacks one more were an LF to come
pub misses : (end : LineEnd) (cs : List ℕ) → line_after end false (cs ++ lf ∷ []) ≡ cs ++ lf ∷ [] → length cs < length (line_after end false (cs ++ lf ∷ []))
misses end cs is = omega (arith, ap (λ (t : List ℕ). length t) is, length-append cs (lf ∷ []))

-- what was searched grows
pub searched-on : (end : LineEnd) (cs : List ℕ) (searched further : ℕ) (was : IsSearched end cs searched) → IsPast end was.rest further → IsSearched end cs (searched + further)
searched-on end cs searched further was past = record {
  front = was.front ++ past.front;
  rest = past.kept;
  whole = was.whole ∙ (ap (λ (t : List ℕ). was.front ++ t) past.whole ∙ sym (append_assoc was.front past.front past.kept));
  bytes_are = omega (arith, was.bytes_are, past.bytes_are, spelled-both was.front past.front);
  line = λ more. was.line more ∙ (ap (λ (t : List ℕ). was.front ++ t) (past.line more) ∙ sym (append_assoc was.front past.front (line_after end false (past.kept ++ more))));
  ends = λ more. was.ends more ∙ past.ends more;
}

held-some : (one other : Bool) (xs : List ℕ) → 1 ≤ length xs → ends_held one xs ≡ ends_held other xs
held-some one other [] some = absurd (omega (arith, some))
held-some one other (x ∷ xs) some = refl

has-some : (end : LineEnd) (xs : List ℕ) → has_end_after end false xs ≡ true → 1 ≤ length xs
has-some end [] is = absurd (cc)
has-some end (x ∷ xs) is = omega arith

-- the last of all is the last of what wasn't searched
held-rest : (end : LineEnd) (cs : List ℕ) (searched : ℕ) (was : IsSearched end cs searched) → has_end_after end false was.rest ≡ true → ends_held false cs ≡ ends_held false was.rest
held-rest end cs searched was has =
    ap (ends_held false) was.whole ∙ (held_behind false was.front was.rest ∙ held-some (ends_held false was.front) false was.rest (has-some end was.rest has))

may : (cs : List ℕ) (newline : Newlines) → line_end newline ≡ AnyEnd → ends_held false cs ≡ true → may_go_on newline cs ≡ true
may cs rule.Universal is held = absurd (cc)
may cs rule.Passthrough is held = held
may cs rule.Lf is held = absurd (cc)
may cs rule.Cr is held = absurd (cc)
may cs rule.Crlf is held = absurd (cc)

-- a line in hand, unless it may go on: an LF behind changes nothing
settled : (newline : Newlines) (cs : List ℕ) (searched size : ℕ) (was : IsSearched (line_end newline) cs searched) → has_end_after (line_end newline) false was.rest ≡ true → Settles (line_end newline) false was.rest → size ≡ length (encode_utf8_all (line_after (line_end newline) false was.rest)) → (searched + size ≡ length (encode_utf8_all cs) → may_go_on newline cs ≡ false) → line_after (line_end newline) false (cs ++ lf ∷ []) ≡ line_after (line_end newline) false cs
settled newline cs searched size was has (inl same) is stays =
    was.line (lf ∷ [])
    ∙ (ap (λ (t : List ℕ). was.front ++ t) same
    ∙ (ap (λ (t : List ℕ). was.front ++ line_after (line_end newline) false t) (sym (append-nil was.rest))
    ∙ (sym (was.line [])
    ∙ ap (line_after (line_end newline) false) (append-nil cs))))
settled newline cs searched size was has (inr goes) is stays =
    let all : searched + size ≡ length (encode_utf8_all cs) =
    omega (arith, was.bytes_are, is, ap (λ (t : List ℕ). length (encode_utf8_all t)) goes.all, spelled-both was.front was.rest, ap (λ (t : List ℕ). length (encode_utf8_all t)) was.whole) in
    absurd (true≢false (sym (may cs newline goes.is (held-rest (line_end newline) cs searched was has ∙ goes.held)) ∙ stays all))

-- the line of a search that found one, and that doesn't go on
pub in-hand : (newline : Newlines) (cs : List ℕ) (searched size : ℕ) (was : IsSearched (line_end newline) cs searched) → Ok size ≡ newline_place newline was.rest → (searched + size ≡ length (encode_utf8_all cs) → may_go_on newline cs ≡ false) → IsBegin cs (line_after (line_end newline) false (cs ++ lf ∷ [])) (searched + size)
in-hand newline cs searched size was is stays =
    let end : LineEnd = line_end newline in
    let found = found-at (has_end_after end false was.rest) size (length (encode_utf8_all (line_after end false was.rest))) (length (encode_utf8_all was.rest) - kept_back end was.rest) is in
    let same = settled newline cs searched size was found.0 (settles end false was.rest found.0) found.1 stays in
    subst (λ (t : List ℕ). IsBegin cs t (searched + size)) (sym same) (found-line end cs searched size was found.1)

passes : (newline : Newlines) (cs : List ℕ) → may_go_on newline cs ≡ true → (line_end newline ≡ AnyEnd) × (ends_held false cs ≡ true)
passes rule.Universal cs is = absurd (cc)
passes rule.Passthrough cs is = (refl, is)
passes rule.Lf cs is = absurd (cc)
passes rule.Cr cs is = absurd (cc)
passes rule.Crlf cs is = absurd (cc)

longer-all : (cs : List ℕ) → line_after AnyEnd false cs ≡ cs → ends_held false cs ≡ true → line_after AnyEnd false (cs ++ lf ∷ []) ≡ cs ++ lf ∷ []
longer-all [] all held = absurd (cc)
longer-all (c ∷ cs) all held = longer false c cs all held

none-behind : (xs ys : List ℕ) → length (encode_utf8_all ys) ≡ 0 → xs ≡ xs ++ ys
none-behind xs [] none = sym (append-nil xs)
none-behind xs (y ∷ ys) none = absurd (omega (arith, none, length-le-encodes (y ∷ ys)))

-- a line that has all and may go on
pub goes-on : (newline : Newlines) (cs : List ℕ) (searched size : ℕ) (was : IsSearched (line_end newline) cs searched) → Ok size ≡ newline_place newline was.rest → searched + size ≡ length (encode_utf8_all cs) → may_go_on newline cs ≡ true → length cs < length (line_after (line_end newline) false (cs ++ lf ∷ []))
goes-on newline cs searched size was is reaches may =
    let end : LineEnd = line_end newline in
    let found = found-at (has_end_after end false was.rest) size (length (encode_utf8_all (line_after end false was.rest))) (length (encode_utf8_all was.rest) - kept_back end was.rest) is in
    let begin : IsBegin cs (line_after end false cs) (searched + size) = found-line end cs searched size was found.1 in
    let line : List ℕ = line_after end false cs in
    let none : length (encode_utf8_all begin.rest) ≡ 0 = omega (arith, reaches, begin.bytes_are, spelled-both line begin.rest, ap (λ (t : List ℕ). length (encode_utf8_all t)) begin.whole) in
    let all : line ≡ cs = none-behind line begin.rest none ∙ sym begin.whole in
    let any = passes newline cs may in
    misses end cs (subst (λ (e : LineEnd). line_after e false cs ≡ cs → line_after e false (cs ++ lf ∷ []) ≡ cs ++ lf ∷ []) (sym any.0) (λ same. longer-all cs same any.1) all)

-- a search that found none
pub not-in-hand : (newline : Newlines) (cs : List ℕ) (searched further : ℕ) (was : IsSearched (line_end newline) cs searched) → Err further ≡ newline_place newline was.rest → (length cs < length (line_after (line_end newline) false (cs ++ lf ∷ []))) × IsSearched (line_end newline) cs (searched + further)
not-in-hand newline cs searched further was is =
    let end : LineEnd = line_end newline in
    let missed = missed-at (has_end_after end false was.rest) further (length (encode_utf8_all (line_after end false was.rest))) (length (encode_utf8_all was.rest) - kept_back end was.rest) is in (
      misses end cs (all-line end cs searched was missed.0).1,
      searched-on end cs searched further was (subst (IsPast end was.rest) (sym missed.1) (past end was.rest missed.0)),
    )

-- the first line of all
pub last-found : (newline : Newlines) (cs : List ℕ) (searched size : ℕ) (was : IsSearched (line_end newline) cs searched) → Ok size ≡ newline_place newline was.rest → IsBegin cs (line_after (line_end newline) false cs) (searched + size)
last-found newline cs searched size was is =
    let end : LineEnd = line_end newline in
    let found = found-at (has_end_after end false was.rest) size (length (encode_utf8_all (line_after end false was.rest))) (length (encode_utf8_all was.rest) - kept_back end was.rest) is in
    found-line end cs searched size was found.1

pub last-missed : (newline : Newlines) (cs : List ℕ) (searched further total : ℕ) (was : IsSearched (line_end newline) cs searched) → Err further ≡ newline_place newline was.rest → total ≡ length (encode_utf8_all cs) → IsBegin cs (line_after (line_end newline) false cs) total
last-missed newline cs searched further total was is all =
    let end : LineEnd = line_end newline in
    let missed = missed-at (has_end_after end false was.rest) further (length (encode_utf8_all (line_after end false was.rest))) (length (encode_utf8_all was.rest) - kept_back end was.rest) is in
    subst (λ (t : List ℕ). IsBegin cs t total) (sym (all-line end cs searched was missed.0).0) (record { rest = []; whole = sym (append-nil cs); bytes_are = all })

-- a search in the rest of a text
pub rest-place : {end : LineEnd} (newline : Newlines) (text behind : List ℕ) (searched : ℕ) (place : Result ℕ ℕ) → IsUtf8 text → (was : IsSearched end (chars text) searched) → behind ≡ drop searched text → place ≡ newline_place newline (chars behind) → place ≡ newline_place newline was.rest
rest-place newline text behind searched place utf8 was is found =
    found ∙ ap (newline_place newline) (ap chars is ∙ (cut text was.front was.rest searched utf8 was.whole was.bytes_are).rest_chars)

-- what begins a text has no more bytes than it
pub begin-within : (text front : List ℕ) (bytes : ℕ) → IsUtf8 text → IsBegin (chars text) front bytes → bytes ≤ length text
begin-within text front bytes utf8 begin = (cut text front begin.rest bytes utf8 begin.whole begin.bytes_are).within

-- so does a place that was searched
pub searched-within : {end : LineEnd} (text : List ℕ) (searched : ℕ) → IsUtf8 text → IsSearched end (chars text) searched → searched ≤ length text
searched-within text searched utf8 was = (cut text was.front was.rest searched utf8 was.whole was.bytes_are).within

-- a text has its characters' bytes
pub text-bytes : (text : List ℕ) → IsUtf8 text → length text ≡ length (encode_utf8_all (chars text))
text-bytes text utf8 = ap (λ (t : List ℕ). length t) (sym (encodes-chars text utf8))

-- by the rule of CR LF, CR and LF that is what tells
pub goes-last : (newline : Newlines) (text bytes : List ℕ) (held : Bool) → newline ≡ rule.Passthrough → IsUtf8 text → bytes ≡ text → held ≡ ends_held false bytes → held ≡ may_go_on newline (chars text)
goes-last newline text bytes held is utf8 are found =
    found ∙ (ap (ends_held false) (are ∙ sym (encodes-chars text utf8)) ∙ (held_same false (chars text) ∙ ap (λ (n : Newlines). may_go_on n (chars text)) (sym is)))

-- whether a line ends in all is told by what wasn't searched
pub ends-found : (newline : Newlines) (cs : List ℕ) (searched size : ℕ) (was : IsSearched (line_end newline) cs searched) → Ok size ≡ newline_place newline was.rest → has_end_after (line_end newline) false cs ≡ true
ends-found newline cs searched size was is =
    let end : LineEnd = line_end newline in
    ap (has_end_after end false) (sym (append-nil cs))
    ∙ (was.ends [] ∙ (ap (has_end_after end false) (append-nil was.rest)
    ∙ (found-at (has_end_after end false was.rest) size (length (encode_utf8_all (line_after end false was.rest))) (length (encode_utf8_all was.rest) - kept_back end was.rest) is).0))

pub ends-missed : (newline : Newlines) (cs : List ℕ) (searched further : ℕ) (was : IsSearched (line_end newline) cs searched) → Err further ≡ newline_place newline was.rest → has_end_after (line_end newline) false cs ≡ false
ends-missed newline cs searched further was is =
    let end : LineEnd = line_end newline in
    ap (has_end_after end false) (sym (append-nil cs))
    ∙ (was.ends [] ∙ (ap (has_end_after end false) (append-nil was.rest)
    ∙ (missed-at (has_end_after end false was.rest) further (length (encode_utf8_all (line_after end false was.rest))) (length (encode_utf8_all was.rest) - kept_back end was.rest) is).0))
