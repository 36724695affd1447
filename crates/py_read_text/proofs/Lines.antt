-- When the known characters hold the first line, whatever comes behind them.
use Rattle.std.proofs.Common.{◌≡◌, ℕ, suc, ◌≤◌, ◌<◌, Bool, true, false, ◌||◌, nat_eq, if◌then◌else◌, List, [], ◌∷◌, ◌++◌, length, take, refl, sym, ap, ◌∙◌, arith}
use Rattle.std.proofs.Math.Bool.{or-true}
use Rattle.py_flat.specs.Lines.{LineEnd, Lf, Cr, CrLf, AnyEnd, lf, cr, ends_line, ends_pair, line_after, has_end_after}
use Rattle.py_flat.specs.BinaryStep.{IsFrontOf}

-- whether a line ends at a character that another stands behind doesn't hang on what comes behind that
same_look : (end : LineEnd) (c d : ℕ) (xs ys : List ℕ) → ends_line end c (d ∷ xs) ≡ ends_line end c (d ∷ ys)
same_look Lf c d xs ys = refl
same_look Cr c d xs ys = refl
same_look CrLf c d xs ys = refl
same_look AnyEnd c d xs ys = refl

-- a line that would end before an LF ends there whatever comes
ends_anyway : (end : LineEnd) (c : ℕ) (more : List ℕ) → ends_line end c (lf ∷ []) ≡ true → ends_line end c more ≡ true
ends_anyway Lf c more is = is
ends_anyway Cr c more is = is
ends_anyway CrLf c more is = is
ends_anyway AnyEnd c more is = grind arith

-- the line that there would be, were an LF to come
abbrev pub with_lf : LineEnd → Bool → List ℕ → List ℕ
with_lf end after_cr cs = line_after end after_cr (cs ++ lf ∷ [])

-- a line that lies among the first characters ends there whatever comes behind them
pub record IsLine (end : LineEnd) (after_cr : Bool) (cs : List ℕ) (more : List ℕ) : Type 0 where
  pub line : line_after end after_cr (cs ++ more) ≡ take (length (with_lf end after_cr cs)) cs
  pub ended : has_end_after end after_cr (cs ++ more) ≡ true

line_at : (here_lf here pair behind : Bool) (c : ℕ) (long line tail : List ℕ) → here_lf ≡ here
    → length (c ∷ (if here_lf || pair then [] else line)) ≤ suc (length tail)
    → (length line ≤ length tail → long ≡ take (length line) tail)
    → c ∷ (if here || pair then [] else long) ≡ take (length (c ∷ (if here_lf || pair then [] else line))) (c ∷ tail)
line_at true here pair behind c long line tail same fits later = rw (sym same) refl
line_at false here true behind c long line tail same fits later = rw (sym same) refl
line_at false here false behind c long line tail same fits later = rw (sym same) (ap (λ (cs : List ℕ). c ∷ cs) (later (omega (arith, fits))))

ended_at : (here_lf here pair behind : Bool) (c : ℕ) (line tail : List ℕ) → here_lf ≡ here
    → length (c ∷ (if here_lf || pair then [] else line)) ≤ suc (length tail)
    → (length line ≤ length tail → behind ≡ true)
    → ((here || pair) || behind) ≡ true
ended_at true here pair behind c line tail same fits later = rw (sym same) refl
ended_at false here true behind c line tail same fits later = rw (sym same) refl
ended_at false here false behind c line tail same fits later = rw (sym same) (later (omega (arith, fits)))

or-false-right : (b : Bool) → (b || false) ≡ b
or-false-right true = refl
or-false-right false = refl

-- one character that is a line whatever comes
alone_at : (here_lf pair : Bool) (c : ℕ) (line : List ℕ) → 1 ≤ length line → length (c ∷ (if here_lf || pair then [] else line)) ≤ 1 → (here_lf || pair) ≡ true
alone_at true pair c line some fits = refl
alone_at false true c line some fits = refl
alone_at false false c line some fits = absurd (omega (arith, some, fits))

here_anyway : (end : LineEnd) (pair : Bool) (c : ℕ) (more : List ℕ) → (ends_line end c (lf ∷ []) || pair) ≡ true → (ends_line end c more || pair) ≡ true
here_anyway end true c more is = or-true (ends_line end c more)
here_anyway end false c more is = or-false-right (ends_line end c more) ∙ ends_anyway end c more (sym (or-false-right (ends_line end c (lf ∷ []))) ∙ is)

alone : (end : LineEnd) (after_cr : Bool) (c : ℕ) (more : List ℕ) → length (with_lf end after_cr (c ∷ [])) ≤ 1 → IsLine end after_cr (c ∷ []) more
alone end after_cr c more fits =
    let here = alone_at (ends_line end c (lf ∷ [])) (ends_pair end after_cr c) c (line_after end (nat_eq c cr) (lf ∷ [])) (omega arith) fits in
    let anyway = here_anyway end (ends_pair end after_cr c) c more here in
    record {
      line = ap (λ (ends : Bool). c ∷ (if ends then [] else line_after end (nat_eq c cr) more)) anyway ∙ sym (ap (λ (ends : Bool). take (length (c ∷ (if ends then [] else line_after end (nat_eq c cr) (lf ∷ [])))) (c ∷ [])) here);
      ended = ap (λ (ends : Bool). ends || has_end_after end (nat_eq c cr) more) anyway;
    }

-- the first line of some characters, where it is one whatever comes behind
pub is_line : (end : LineEnd) (after_cr : Bool) (cs more : List ℕ) → length (with_lf end after_cr cs) ≤ length cs → IsLine end after_cr cs more
is_line end after_cr [] more fits = absurd (grind arith)
is_line end after_cr (c ∷ []) more fits = alone end after_cr c more fits
is_line end after_cr (c ∷ (d ∷ ds)) more fits =
    let look = same_look end c d (ds ++ lf ∷ []) (ds ++ more) in
    record {
      line = line_at (ends_line end c (d ∷ (ds ++ lf ∷ []))) (ends_line end c (d ∷ (ds ++ more))) (ends_pair end after_cr c) true c (line_after end (nat_eq c cr) (d ∷ (ds ++ more))) (with_lf end (nat_eq c cr) (d ∷ ds)) (d ∷ ds) look fits (λ less. (is_line end (nat_eq c cr) (d ∷ ds) more less).line);
      ended = ended_at (ends_line end c (d ∷ (ds ++ lf ∷ []))) (ends_line end c (d ∷ (ds ++ more))) (ends_pair end after_cr c) (has_end_after end (nat_eq c cr) (d ∷ (ds ++ more))) c (with_lf end (nat_eq c cr) (d ∷ ds)) (d ∷ ds) look fits (λ less. (is_line end (nat_eq c cr) (d ∷ ds) more less).ended);
    }

front_at : (here_lf here pair : Bool) (c : ℕ) (line long tail : List ℕ) → here_lf ≡ here
    → suc (length tail) < length (c ∷ (if here_lf || pair then [] else line))
    → (length tail < length line → IsFrontOf tail long)
    → IsFrontOf (c ∷ tail) (c ∷ (if here || pair then [] else long))
front_at true here pair c line long tail same open_line later = absurd (omega (arith, open_line))
front_at false here true c line long tail same open_line later = absurd (omega (arith, open_line))
front_at false here false c line long tail same open_line later =
    let front = later (omega (arith, open_line)) in
    rw (sym same) (front.0, ap (λ (cs : List ℕ). c ∷ cs) front.1)

-- characters that the first line may go past are a front of it, whatever comes behind
pub is_open : (end : LineEnd) (after_cr : Bool) (cs more : List ℕ) → length cs < length (with_lf end after_cr cs) → IsFrontOf cs (line_after end after_cr (cs ++ more))
is_open end after_cr [] more open_line = (line_after end after_cr more, refl)
is_open end after_cr (c ∷ []) more open_line = ((if ends_line end c more || ends_pair end after_cr c then [] else line_after end (nat_eq c cr) more), refl)
is_open end after_cr (c ∷ (d ∷ ds)) more open_line =
    front_at (ends_line end c (d ∷ (ds ++ lf ∷ []))) (ends_line end c (d ∷ (ds ++ more))) (ends_pair end after_cr c) c (with_lf end (nat_eq c cr) (d ∷ ds)) (line_after end (nat_eq c cr) (d ∷ (ds ++ more))) (d ∷ ds) (same_look end c d (ds ++ lf ∷ []) (ds ++ more)) open_line
    (λ more_open. is_open end (nat_eq c cr) (d ∷ ds) more more_open)
