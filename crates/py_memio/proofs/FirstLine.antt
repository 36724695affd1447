-- The first line of some characters, by the place of the first LF among those that a limit allows.
use Rattle.std.proofs.Common.{◌≡◌, ℕ, zero, suc, ◌+◌, ◌≤◌, Bool, true, false, not, ◌||◌, cond, nat_eq, nat_lt, position, if◌then◌else◌, List, [], ◌∷◌, length, take, Option, Some, None, MatchOption, refl, sym, ap, ◌∙◌, arith}
use Rattle.std.specs.List.{position_or_len}
use Rattle.std.proofs.lemmas.Bool.{ltb-false}
use Rattle.std.proofs.lemmas.List.{take_all}
use Rattle.py_flat.specs.Lines.{Lf, lf, cr, line_after, first_line}

front_at : (here : Bool) (c n : ℕ) (long short : List ℕ) → take n long ≡ short → take (suc n) (c ∷ (if here || false then [] else long)) ≡ c ∷ (if here || false then [] else short)
front_at true c n long short same = ap (λ (t : List ℕ). c ∷ t) (take_all n [] (omega arith))
front_at false c n long short same = ap (λ (t : List ℕ). c ∷ t) same

-- the front of a first line is the first line of the front
front_of_line : (after_cr : Bool) (n : ℕ) (cs : List ℕ) → take n (line_after Lf after_cr cs) ≡ line_after Lf after_cr (take n cs)
front_of_line after_cr zero cs = refl
front_of_line after_cr (suc n) [] = refl
front_of_line after_cr (suc n) (c ∷ cs) = front_at (nat_eq c lf) c n (line_after Lf (nat_eq c cr) cs) (line_after Lf (nat_eq c cr) (take n cs)) (front_of_line (nat_eq c cr) n cs)

-- the first line is that of what the limit allows
line_within : (limit : Option ℕ) (cs within : List ℕ) → MatchOption limit (within ≡ cs) (λ n. within ≡ take n cs) → first_line Lf limit cs ≡ line_after Lf false within
line_within None cs within is = ap (line_after Lf false) (sym is)
line_within (Some n) cs within is = front_of_line false n cs ∙ ap (line_after Lf false) (sym is)

-- where the first LF stands, or the end where there is none
abbrev feed_or_end : List ℕ → ℕ
feed_or_end cs = position_or_len (λ c. nat_eq c lf) cs

to_feed_at : (here : Bool) (c n : ℕ) (line cs : List ℕ) → line ≡ take (n + 1) cs → c ∷ (if here || false then [] else line) ≡ take (cond (not here) (1 + n) 0 + 1) (c ∷ cs)
to_feed_at true c n line cs same = refl
to_feed_at false c n line cs same =
    let size : suc (n + 1) ≡ (1 + n) + 1 = omega arith in
    ap (λ (t : List ℕ). c ∷ t) same ∙ ap (λ (k : ℕ). take k (c ∷ cs)) size

-- the first line goes to the first LF
to_feed : (after_cr : Bool) (cs : List ℕ) → line_after Lf after_cr cs ≡ take (feed_or_end cs + 1) cs
to_feed after_cr [] = refl
to_feed after_cr (c ∷ cs) = to_feed_at (nat_eq c lf) c (feed_or_end cs) (line_after Lf (nat_eq c cr) cs) cs (to_feed (nat_eq c cr) cs)

found_at : (found : Bool) (feed at : ℕ) → cond found (Some feed) None ≡ Some at → feed ≡ at
found_at true feed at is = cc
found_at false feed at is = absurd (cc)

not_found : (found : Bool) (feed : ℕ) → cond found (Some feed) None ≡ None → found ≡ false
not_found true feed is = absurd (cc)
not_found false feed is = refl

-- an LF was found among what the limit allows
pub line_to_feed : (limit : Option ℕ) (cs within : List ℕ) (at : ℕ) → MatchOption limit (within ≡ cs) (λ n. within ≡ take n cs) → position (λ c. nat_eq c lf) within ≡ Some at → take (at + 1) within ≡ first_line Lf limit cs
line_to_feed limit cs within at allowed found =
    let feed = found_at (nat_lt (feed_or_end within) (length within)) (feed_or_end within) at found in
    sym (line_within limit cs within allowed ∙ to_feed false within ∙ ap (λ n. take (n + 1) within) feed)

-- no LF was found: the line is all that the limit allows
pub line_to_end : (limit : Option ℕ) (cs within : List ℕ) → MatchOption limit (within ≡ cs) (λ n. within ≡ take n cs) → position (λ c. nat_eq c lf) within ≡ None → within ≡ first_line Lf limit cs
line_to_end limit cs within allowed none =
    let past : length within ≤ feed_or_end within = ltb-false _ _ (not_found (nat_lt (feed_or_end within) (length within)) (feed_or_end within) none) in
    sym (line_within limit cs within allowed ∙ to_feed false within ∙ take_all (feed_or_end within + 1) within (omega arith))
