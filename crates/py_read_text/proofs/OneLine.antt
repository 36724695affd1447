-- What is given of a line is one line.
use Rattle.std.proofs.Common.{◌≡◌, ℕ, zero, suc, Bool, true, false, nat_eq, ◌||◌, if◌then◌else◌, List, [], ◌∷◌, length, take, Option, Some, None, refl, sym, ap, ◌∙◌, subst, arith}
use Rattle.std.proofs.lemmas.List.{length-take, take_all}
use Rattle.py_flat.specs.Calls.{Text}
use Rattle.py_flat.specs.Lines.{LineEnd, Lf, Cr, CrLf, AnyEnd, cr, ends_line, ends_pair, line_after, first_line}
use Rattle.py_plain.specs.declared.newlines.Newlines.{Newlines}
use Rattle.py_plain.specs.NewlineRule.{line_end}
use Rattle.py_held_text.specs.declared.wanted.Wanted.{Wanted}
use Rattle.py_held_text.specs.declared.wanted.Wanted.TheVariants.{Characters, Line}
use Rattle.py_held_text.specs.Finding.{answer_of}
use Rattle.py_read_text.specs.Answers.{ReadsOneLine}
use Rattle.py_read_text.specs.Reading.{call_of}

either_none : (b : Bool) → ◌≡◌ {A = List ℕ} (if b then [] else []) []
either_none true = refl
either_none false = refl

-- whether a line ends with a character is told by that one and the next
by_next : (end : LineEnd) (c d : ℕ) (xs ys : List ℕ) → ends_line end c (d ∷ xs) ≡ ends_line end c (d ∷ ys)
by_next Lf c d xs ys = refl
by_next Cr c d xs ys = refl
by_next CrLf c d xs ys = refl
by_next AnyEnd c d xs ys = refl

-- a character alone is a line
alone : (end : LineEnd) (after_cr : Bool) (c : ℕ) (cs : List ℕ) → cs ≡ [] → line_after end after_cr (c ∷ cs) ≡ c ∷ cs
alone end after_cr c cs none = subst (λ (own : List ℕ). line_after end after_cr (c ∷ own) ≡ c ∷ own) (sym none) (ap (λ (t : List ℕ). c ∷ t) (either_none (ends_line end c [] || ends_pair end after_cr c)))

onto_line : (end : LineEnd) (after_cr : Bool) (c n : ℕ) (cs : List ℕ) (here : Bool) → (ends_line end c cs || ends_pair end after_cr c) ≡ here → line_after end (nat_eq c cr) (take n (line_after end (nat_eq c cr) cs)) ≡ take n (line_after end (nat_eq c cr) cs)
    → line_after end after_cr (c ∷ take n (if here then [] else line_after end (nat_eq c cr) cs)) ≡ c ∷ take n (if here then [] else line_after end (nat_eq c cr) cs)
onto_line end after_cr c n cs true is more = alone end after_cr c (take n []) (take_all n [] (omega arith))
onto_line end after_cr c zero cs false is more = alone end after_cr c [] refl
onto_line end after_cr c (suc n) [] false is more = alone end after_cr c [] refl
onto_line end after_cr c (suc n) (d ∷ ds) false is more =
    let behind : List ℕ = take (suc n) (line_after end (nat_eq c cr) (d ∷ ds)) in
    ap (λ (ends : Bool). c ∷ (if ends || ends_pair end after_cr c then [] else line_after end (nat_eq c cr) behind)) (by_next end c d _ ds)
    ∙ (ap (λ (ends : Bool). c ∷ (if ends then [] else line_after end (nat_eq c cr) behind)) is ∙ ap (λ (t : List ℕ). c ∷ t) more)

-- the first of a line are one line
front_of_line : (end : LineEnd) (after_cr : Bool) (n : ℕ) (cs : List ℕ) → line_after end after_cr (take n (line_after end after_cr cs)) ≡ take n (line_after end after_cr cs)
front_of_line end after_cr zero cs = refl
front_of_line end after_cr (suc n) [] = refl
front_of_line end after_cr (suc n) (c ∷ cs) = onto_line end after_cr c n cs (ends_line end c cs || ends_pair end after_cr c) refl (front_of_line end (nat_eq c cr) n cs)

-- the first line of a first line is that one
first_again : (end : LineEnd) (limit : Option ℕ) (cs : List ℕ) → first_line end limit (first_line end limit cs) ≡ first_line end limit cs
first_again end None cs =
    let line : List ℕ = line_after end false cs in
    subst (λ (own : List ℕ). line_after end false own ≡ own) (take_all (length line) line (omega arith)) (front_of_line end false (length line) cs)
first_again end (Some size) cs =
    let line : List ℕ = line_after end false cs in
    ap (take size) (front_of_line end false size cs) ∙ take_all size (take size line) (omega (arith, length-take size line))

-- an answer of some characters, were they all that is left, is one line
pub reads_one : (asked : Wanted) (rule own : Newlines) (cs part : List ℕ) → rule ≡ own → answer_of asked rule cs ≡ part → ReadsOneLine own (call_of asked) (Text part)
reads_one (Characters size) rule own cs part same is = tt
reads_one (Line limit) rule own cs part same is = subst (λ (newline : Newlines). first_line (line_end newline) limit part ≡ part) same (subst (λ (line : List ℕ). first_line (line_end rule) limit line ≡ line) is (first_again (line_end rule) limit cs))
