-- Lines that end in LF: where the first of a list ends, and how a list is cut into them.
use Rattle.std.proofs.Common.{◌≡◌, ◌≢◌, ℕ, zero, suc, ◌+◌, ◌<◌, ◌≤◌, Bool, true, false, nat_eq, nat_lt, ◌||◌, if◌then◌else◌, List, [], ◌∷◌, ◌++◌, length, take, drop, get_or, Option, Some, None, refl, sym, ap, subst, ◌∙◌, arith, add-zero, zero-add, append_assoc, append-nil}
use Rattle.std.proofs.lemmas.Bool.{eqb-true, le-ltb, lt-ltb}
use Rattle.std.proofs.lemmas.Bool.Decides.{nat_tests}
use Rattle.std.proofs.lemmas.List.{length-append, length-take, take_all, take-take, take_more, get_or-take}
use Rattle.std.proofs.Math.Seq.{split_at}
use Rattle.memchr.specs.Find.{Nowhere, NoneBefore, Passes, is_byte}
use Rattle.py_flat.specs.Lines.{Lf, lf, cr, line_after, has_end_after, onto_first, lines_of, until_above, lines_within, joined}
use Rattle.py_flat.specs.BinaryStep.{IsFrontOf}
use Rattle.py_flat.proofs.Cutting.{joined_lines}
use Rattle.py_lines.specs.Collecting.{LinesView, lines_and_part, lines_collected, lines_wanted, IsOneLine, AreCut, HintLeaves, LinesAreOpen}

-- The first line.

behind_at : (here behind : Bool) (c : ℕ) (long short : List ℕ) → ((here || false) || behind) ≡ false → (behind ≡ false → long ≡ short) → c ∷ (if here || false then [] else long) ≡ c ∷ short
behind_at true behind c long short none same = absurd (cc)
behind_at false behind c long short none same = ap (λ (t : List ℕ). c ∷ t) (same none)

same_after : (after_cr : Bool) (ys : List ℕ) → line_after Lf after_cr ys ≡ line_after Lf false ys
same_after after_cr [] = refl
same_after after_cr (c ∷ cs) = refl

-- where no line ends in a list, the first line goes on after it
pub line_behind : (after_cr : Bool) (xs ys : List ℕ) → has_end_after Lf after_cr xs ≡ false → line_after Lf after_cr (xs ++ ys) ≡ xs ++ line_after Lf false ys
line_behind after_cr [] ys none = same_after after_cr ys
line_behind after_cr (c ∷ cs) ys none = behind_at (nat_eq c lf) (has_end_after Lf (nat_eq c cr) cs) c (line_after Lf (nat_eq c cr) (cs ++ ys)) (cs ++ line_after Lf false ys) none (line_behind (nat_eq c cr) cs ys)

none_at : (here behind : Bool) → here ≢ true → behind ≡ false → ((here || false) || behind) ≡ false
none_at true behind other none = absurd (other refl)
none_at false behind other none = none

-- where a search passed some bytes, no line ends in them
none_passed : (after_cr : Bool) (xs : List ℕ) (n : ℕ) → Nowhere (Passes (is_byte lf) xs) 0 n → has_end_after Lf after_cr (take n xs) ≡ false
none_passed after_cr xs zero none = refl
none_passed after_cr [] (suc n) none = refl
none_passed after_cr (c ∷ cs) (suc n) none = none_at (nat_eq c lf) (has_end_after Lf (nat_eq c cr) (take n cs)) (none 0 (omega arith) (omega arith)) (none_passed (nat_eq c cr) cs n (λ k low high. none (suc k) (omega arith) (omega arith)))

pub none_in : (xs : List ℕ) → Nowhere (Passes (is_byte lf) xs) 0 (length xs) → has_end_after Lf false xs ≡ false
none_in xs none = ap (has_end_after Lf false) (sym (take_all (length xs) xs (omega arith))) ∙ none_passed false xs (length xs) none

-- the first LF of a list stands at a place: no line ends before it
pub record EndsAt (bytes : List ℕ) (at : ℕ) : Type 0 where
  pub within : at < length bytes
  pub none : has_end_after Lf false (take at bytes) ≡ false
  pub line : take (at + 1) bytes ≡ take at bytes ++ (lf ∷ [])
  pub parts : bytes ≡ take at bytes ++ (lf ∷ drop (suc at) bytes)

-- what a search among the first bytes found
pub found_in : (bytes : List ℕ) (n at : ℕ) → NoneBefore (Passes (is_byte lf) (take n bytes)) 0 (length (take n bytes)) at → Passes (is_byte lf) (take n bytes) at → (at < n) × EndsAt bytes at
found_in bytes n at none here =
    let low : at < n = omega (arith, length-take n bytes, none.high) in
    let within : at < length bytes = omega (arith, length-take n bytes, none.high) in
    let is : get_or bytes at 0 ≡ lf = sym (get_or-take n bytes at 0 low) ∙ eqb-true (get_or (take n bytes) at 0) lf here in (
      low,
      record {
        within = within;
        none = ap (has_end_after Lf false) (sym (take-take at n bytes (omega arith))) ∙ none_passed false (take n bytes) at none.before;
        line = take_more bytes at 0 within ∙ ap (λ (c : ℕ). take at bytes ++ (c ∷ [])) is;
        parts = split_at bytes at 0 within ∙ ap (λ (c : ℕ). take at bytes ++ (c ∷ drop (suc at) bytes)) is;
      },
    )

-- The lines of a list.

-- some bytes before the first of some lines
abbrev pub onto : List ℕ → List (List ℕ) → List (List ℕ)
onto [] lines = lines
onto (c ∷ cs) lines = onto_first c (onto cs lines)

pub onto_line : (part line : List ℕ) (lines : List (List ℕ)) → onto part (line ∷ lines) ≡ (part ++ line) ∷ lines
onto_line [] line lines = refl
onto_line (c ∷ cs) line lines = ap (onto_first c) (onto_line cs line lines)

onto_none : (c : ℕ) (cs : List ℕ) → onto (c ∷ cs) [] ≡ (c ∷ cs) ∷ []
onto_none c [] = refl
onto_none c (d ∷ ds) = ap (onto_first c) (onto_none d ds)

line_here : (c : ℕ) (cs : List ℕ) → nat_eq c lf ≡ true → lines_of (c ∷ cs) ≡ (c ∷ []) ∷ lines_of cs
line_here c cs ends = ap (λ (b : Bool). if b then (c ∷ []) ∷ lines_of cs else onto_first c (lines_of cs)) ends

line_onto : (c : ℕ) (cs : List ℕ) → nat_eq c lf ≡ false → lines_of (c ∷ cs) ≡ onto_first c (lines_of cs)
line_onto c cs none = ap (λ (b : Bool). if b then (c ∷ []) ∷ lines_of cs else onto_first c (lines_of cs)) none

none_here : (here behind : Bool) → ((here || false) || behind) ≡ false → (here ≡ false) × (behind ≡ false)
none_here true behind none = absurd (cc)
none_here false behind none = (refl, none)

-- bytes in which no line ends begin the first line of what comes after
pub lines_onto : (after_cr : Bool) (part more : List ℕ) → has_end_after Lf after_cr part ≡ false → lines_of (part ++ more) ≡ onto part (lines_of more)
lines_onto after_cr [] more none = refl
lines_onto after_cr (c ∷ cs) more none =
    let parts = none_here (nat_eq c lf) (has_end_after Lf (nat_eq c cr) cs) none in
    line_onto c (cs ++ more) parts.0 ∙ ap (onto_first c) (lines_onto (nat_eq c cr) cs more parts.1)

-- bytes in which no line ends, then one line with its end, are one line with its end
pub one_behind : (part rest : List ℕ) → has_end_after Lf false part ≡ false → IsOneLine rest → IsOneLine (part ++ rest)
one_behind part rest none one = λ more.
    ap lines_of (append_assoc part rest more)
    ∙ (lines_onto false part (rest ++ more) none
    ∙ (ap (onto part) (one more)
    ∙ onto_line part rest (lines_of more)))

lf_is_line : IsOneLine (lf ∷ [])
lf_is_line = λ more. refl

-- what a search found is one line
pub one_to_end : (bytes : List ℕ) (at : ℕ) → EndsAt bytes at → IsOneLine (take (at + 1) bytes)
one_to_end bytes at ends = subst IsOneLine (sym ends.line) (one_behind (take at bytes) (lf ∷ []) ends.none lf_is_line)

none_both_at : (here first both : Bool) → ((here || false) || first) ≡ false → (first ≡ false → both ≡ false) → ((here || false) || both) ≡ false
none_both_at true first both none more = absurd (cc)
none_both_at false first both none more = more none

same_end_after : (after_cr : Bool) (ys : List ℕ) → has_end_after Lf after_cr ys ≡ has_end_after Lf false ys
same_end_after after_cr [] = refl
same_end_after after_cr (c ∷ cs) = refl

-- where no line ends in either of two lists, none does in both
none_in_both : (after_cr : Bool) (xs ys : List ℕ) → has_end_after Lf after_cr xs ≡ false → has_end_after Lf false ys ≡ false → has_end_after Lf after_cr (xs ++ ys) ≡ false
none_in_both after_cr [] ys first second = same_end_after after_cr ys ∙ second
none_in_both after_cr (c ∷ cs) ys first second = none_both_at (nat_eq c lf) (has_end_after Lf (nat_eq c cr) cs) (has_end_after Lf (nat_eq c cr) (cs ++ ys)) first (λ none. none_in_both (nat_eq c cr) cs ys none second)

-- Lines that are ended, and a part after them.

pub joined_both : (lines more : List (List ℕ)) → joined (lines ++ more) ≡ joined lines ++ joined more
joined_both [] more = refl
joined_both (line ∷ lines) more = ap (λ (t : List ℕ). line ++ t) (joined_both lines more) ∙ sym (append_assoc line (joined lines) (joined more))

-- the bytes of some lines and one line after them
pub joined_more : (lines : List (List ℕ)) (line : List ℕ) → joined (lines ++ (line ∷ [])) ≡ joined lines ++ line
joined_more lines line = joined_both lines (line ∷ []) ∙ ap (λ (t : List ℕ). joined lines ++ t) (append-nil line)

-- a line after lines that are ended
pub cut_more : (lines : List (List ℕ)) (line part : List ℕ) → AreCut lines part → IsOneLine line → AreCut (lines ++ (line ∷ [])) []
cut_more lines line part cut one = record {
  ended = λ more.
      ap (λ (t : List ℕ). lines_of (t ++ more)) (joined_more lines line)
      ∙ (ap lines_of (append_assoc (joined lines) line more)
      ∙ (cut.ended (line ++ more)
      ∙ (ap (λ (t : List (List ℕ)). lines ++ t) (one more)
      ∙ sym (append_assoc lines (line ∷ []) (lines_of more)))));
  unended = refl;
}

-- more bytes in which no line ends
pub cut_with : (lines same : List (List ℕ)) (part more both : List ℕ) → AreCut lines part → has_end_after Lf false more ≡ false → same ≡ lines → both ≡ part ++ more → AreCut same both
cut_with lines same part more both cut none same_lines with_more =
    subst (λ (t : List (List ℕ)). AreCut t both) (sym same_lines)
    (subst (AreCut lines) (sym with_more) (record { ended = cut.ended; unended = none_in_both false part more cut.unended none }))

one_of_part : (c : ℕ) (cs : List ℕ) → has_end_after Lf false (c ∷ cs) ≡ false → lines_of (c ∷ cs) ≡ (c ∷ cs) ∷ []
one_of_part c cs none = ap lines_of (sym (append-nil (c ∷ cs))) ∙ (lines_onto false (c ∷ cs) [] none ∙ onto_none c cs)

lines_of_part : (part : List ℕ) (lines : List (List ℕ)) → has_end_after Lf false part ≡ false → lines ++ lines_of part ≡ lines_and_part lines part
lines_of_part [] lines none = append-nil lines
lines_of_part (c ∷ cs) lines none = ap (λ (t : List (List ℕ)). lines ++ t) (one_of_part c cs none)

-- the lines of all bytes
pub lines_of_cut : (lines : List (List ℕ)) (part : List ℕ) → AreCut lines part → lines_of (joined lines ++ part) ≡ lines_and_part lines part
lines_of_cut lines part cut = cut.ended part ∙ lines_of_part part lines cut.unended

pub joined_with_part : (lines : List (List ℕ)) (part : List ℕ) → joined (lines_and_part lines part) ≡ joined lines ++ part
joined_with_part lines [] = sym (append-nil (joined lines))
joined_with_part lines (c ∷ cs) = joined_more lines (c ∷ cs)

-- Lines within a hint.

allowed_at : (hint total : ℕ) (rest : List (List ℕ)) → total ≤ hint → (if nat_lt hint total then [] else rest) ≡ rest
allowed_at hint total rest fits = ap (λ (b : Bool). if b then [] else rest) (le-ltb hint total fits)

above_at : (hint total : ℕ) (rest : List (List ℕ)) → hint < total → (if nat_lt hint total then [] else rest) ≡ []
above_at hint total rest above = ap (λ (b : Bool). if b then [] else rest) (lt-ltb hint total above)

-- lines that aren't above the hint are among those within it
until_passes : (hint total : ℕ) (lines more : List (List ℕ)) → total + length (joined lines) ≤ hint → until_above hint total (lines ++ more) ≡ lines ++ until_above hint (total + length (joined lines)) more
until_passes hint total [] more fits = ap (λ (n : ℕ). until_above hint n more) (sym (add-zero total))
until_passes hint total (line ∷ lines) more fits =
    let size : length (line ++ joined lines) ≡ length line + length (joined lines) = length-append line (joined lines) in
    let here : ℕ = total + length line in
    let same : here + length (joined lines) ≡ total + length (line ++ joined lines) = omega arith in
    ap (λ (t : List (List ℕ)). line ∷ t)
    (allowed_at hint here (until_above hint here (lines ++ more)) (omega arith)
    ∙ (until_passes hint here lines more (omega arith)
    ∙ ap (λ (n : ℕ). lines ++ until_above hint n more) same))

pub until_first : (hint : ℕ) (lines more : List (List ℕ)) → length (joined lines) ≤ hint → until_above hint 0 (lines ++ more) ≡ lines ++ until_above hint (length (joined lines)) more
until_first hint lines more fits =
    let none : 0 + length (joined lines) ≡ length (joined lines) = zero-add (length (joined lines)) in
    until_passes hint 0 lines more (omega arith) ∙ ap (λ (n : ℕ). lines ++ until_above hint n more) none

until_ends : (hint total : ℕ) (line : List ℕ) (more : List (List ℕ)) → hint < total + length line → until_above hint total (line ∷ more) ≡ line ∷ []
until_ends hint total line more above = ap (λ (t : List (List ℕ)). line ∷ t) (above_at hint (total + length line) (until_above hint (total + length line) more) above)

pub within_some : (hint : ℕ) (bytes : List ℕ) → lines_within (Some (suc hint)) bytes ≡ until_above (suc hint) 0 (lines_of bytes)
within_some hint bytes =
    let some : nat_eq (suc hint) 0 ≡ false = grind (arith, nat_tests) in
    ap (λ (b : Bool). if b then lines_of bytes else until_above (suc hint) 0 (lines_of bytes)) some

-- the line that goes above the hint is the last
pub within_ends : (hint : ℕ) (lines : List (List ℕ)) (line : List ℕ) → AreCut (lines ++ (line ∷ [])) [] → length (joined lines) ≤ suc hint → suc hint < length (joined lines) + length line → (more : List ℕ) → lines_within (Some (suc hint)) (joined (lines ++ (line ∷ [])) ++ more) ≡ lines ++ (line ∷ [])
within_ends hint lines line cut fits above more =
    within_some hint (joined (lines ++ (line ∷ [])) ++ more)
    ∙ (ap (until_above (suc hint) 0) (cut.ended more ∙ append_assoc lines (line ∷ []) (lines_of more))
    ∙ (until_first (suc hint) lines (line ∷ lines_of more) fits
    ∙ ap (λ (t : List (List ℕ)). lines ++ t) (until_ends (suc hint) (length (joined lines)) line (lines_of more) above)))

onto_until : (hint total c : ℕ) (line : List ℕ) (lines : List (List ℕ)) → until_above hint total ((c ∷ line) ∷ lines) ≡ onto_first c (until_above hint (total + 1) (line ∷ lines))
onto_until hint total c line lines =
    let same : total + length (c ∷ line) ≡ (total + 1) + length line = omega arith in
    ap (λ (n : ℕ). (c ∷ line) ∷ (if nat_lt hint n then [] else until_above hint n lines)) same

-- what a hint leaves of the lines of some bytes is the lines of its own bytes
abbrev IsCutUntil : ℕ → ℕ → List (List ℕ) → Type 0
IsCutUntil hint total lines = lines_of (joined (until_above hint total lines)) ≡ until_above hint total lines

cut_behind : (above : Bool) (c : ℕ) (rest : List (List ℕ)) → nat_eq c lf ≡ true → lines_of (joined rest) ≡ rest → lines_of (joined ((c ∷ []) ∷ (if above then [] else rest))) ≡ (c ∷ []) ∷ (if above then [] else rest)
cut_behind true c rest ends same = line_here c [] ends
cut_behind false c rest ends same = line_here c (joined rest) ends ∙ ap (λ (t : List (List ℕ)). (c ∷ []) ∷ t) same

cut_alone : (above : Bool) (c : ℕ) → nat_eq c lf ≡ false → lines_of (joined ((c ∷ []) ∷ (if above then [] else []))) ≡ (c ∷ []) ∷ (if above then [] else [])
cut_alone true c none = line_onto c [] none
cut_alone false c none = line_onto c [] none

cut_onto : (hint total c : ℕ) (lines : List (List ℕ)) → nat_eq c lf ≡ false → ((from : ℕ) → IsCutUntil hint from lines) → IsCutUntil hint total (onto_first c lines)
cut_onto hint total c [] none cut = cut_alone (nat_lt hint (total + 1)) c none
cut_onto hint total c (line ∷ lines) none cut =
    let until : List (List ℕ) = until_above hint (total + 1) (line ∷ lines) in
    let same : until_above hint total ((c ∷ line) ∷ lines) ≡ onto_first c until = onto_until hint total c line lines in
    ap (λ (t : List (List ℕ)). lines_of (joined t)) same
    ∙ (line_onto c (joined until) none
    ∙ (ap (onto_first c) (cut (total + 1))
    ∙ sym same))

cut_step : (hint total c : ℕ) (cs : List ℕ) (ends : Bool) → nat_eq c lf ≡ ends → ((from : ℕ) → IsCutUntil hint from (lines_of cs)) → IsCutUntil hint total (lines_of (c ∷ cs))
cut_step hint total c cs true ends cut = subst (IsCutUntil hint total) (sym (line_here c cs ends)) (cut_behind (nat_lt hint (total + 1)) c (until_above hint (total + 1) (lines_of cs)) ends (cut (total + 1)))
cut_step hint total c cs false none cut = subst (IsCutUntil hint total) (sym (line_onto c cs none)) (cut_onto hint total c (lines_of cs) none cut)

cut_until : (hint total : ℕ) (bytes : List ℕ) → IsCutUntil hint total (lines_of bytes)
cut_until hint total [] = refl
cut_until hint total (c ∷ cs) = cut_step hint total c cs (nat_eq c lf) refl (λ from. cut_until hint from cs)

within_is_cut : (hint : Option ℕ) (bytes : List ℕ) → lines_of (joined (lines_within hint bytes)) ≡ lines_within hint bytes
within_is_cut None bytes = ap lines_of (joined_lines bytes)
within_is_cut (Some zero) bytes = ap lines_of (joined_lines bytes)
within_is_cut (Some (suc hint)) bytes = subst (λ (lines : List (List ℕ)). lines_of (joined lines) ≡ lines) (sym (within_some hint bytes)) (cut_until (suc hint) 0 bytes)

-- lines that a hint leaves of some bytes are told by their bytes
pub lines_left : (hint : Option ℕ) (bytes : List ℕ) (lines : List (List ℕ)) → lines_of (joined lines) ≡ lines → joined (lines_within hint bytes) ≡ joined lines → lines_within hint bytes ≡ lines
lines_left hint bytes lines cut same = sym (within_is_cut hint bytes) ∙ (ap lines_of same ∙ cut)

-- a part in which no line ends is a front of what a hint leaves with more after it
first_goes_on : (hint total : ℕ) (line x : List ℕ) (lines : List (List ℕ)) → IsFrontOf line (joined (until_above hint total ((line ++ x) ∷ lines)))
first_goes_on hint total line x lines =
    let rest : List ℕ = joined (if nat_lt hint (total + length (line ++ x)) then [] else until_above hint (total + length (line ++ x)) lines) in
    (x ++ rest, sym (append_assoc line x rest))

part_in_lines : (hint total : ℕ) (part : List ℕ) (lines : List (List ℕ)) → IsFrontOf part (joined (until_above hint total (onto part lines)))
part_in_lines hint total [] lines = (joined (until_above hint total lines), refl)
part_in_lines hint total (c ∷ cs) [] = subst (λ (t : List (List ℕ)). IsFrontOf (c ∷ cs) (joined (until_above hint total t))) (ap (λ (t : List ℕ). t ∷ []) (append-nil (c ∷ cs)) ∙ sym (onto_none c cs)) (first_goes_on hint total (c ∷ cs) [] [])
part_in_lines hint total (c ∷ cs) (line ∷ lines) = subst (λ (t : List (List ℕ)). IsFrontOf (c ∷ cs) (joined (until_above hint total t))) (sym (onto_line (c ∷ cs) line lines)) (first_goes_on hint total (c ∷ cs) line lines)

behind_front : (first part whole : List ℕ) → IsFrontOf part whole → IsFrontOf (first ++ part) (first ++ whole)
behind_front first part whole (more, e) = (more, append_assoc first part more ∙ ap (λ (t : List ℕ). first ++ t) e)

within_goes_on_by : (hint : ℕ) (lines : List (List ℕ)) (part : List ℕ) → AreCut lines part → length (joined lines) ≤ hint → (more : List ℕ) → IsFrontOf (joined lines ++ part) (joined (until_above hint 0 (lines_of ((joined lines ++ part) ++ more))))
within_goes_on_by hint lines part cut fits more =
    let rest : List (List ℕ) = until_above hint (length (joined lines)) (lines_of (part ++ more)) in
    let same : until_above hint 0 (lines_of ((joined lines ++ part) ++ more)) ≡ lines ++ rest = ap (until_above hint 0) (ap lines_of (append_assoc (joined lines) part more) ∙ cut.ended (part ++ more)) ∙ until_first hint lines (lines_of (part ++ more)) fits in
    let front : IsFrontOf part (joined rest) = subst (λ (t : List (List ℕ)). IsFrontOf part (joined (until_above hint (length (joined lines)) t))) (sym (lines_onto false part more cut.unended)) (part_in_lines hint (length (joined lines)) part (lines_of more)) in
    subst (IsFrontOf (joined lines ++ part)) (sym (ap joined same ∙ joined_both lines rest)) (behind_front (joined lines) part (joined rest) front)

within_goes_on : (hint left : Option ℕ) (lines : List (List ℕ)) (part : List ℕ) → AreCut lines part → HintLeaves hint (length (joined lines)) left → (more : List ℕ) → IsFrontOf (joined lines ++ part) (joined (lines_within hint ((joined lines ++ part) ++ more)))
within_goes_on None left lines part cut leaves more = (more, sym (joined_lines ((joined lines ++ part) ++ more)))
within_goes_on (Some zero) left lines part cut leaves more = (more, sym (joined_lines ((joined lines ++ part) ++ more)))
within_goes_on (Some (suc hint)) left lines part cut leaves more =
    let whole : List ℕ = (joined lines ++ part) ++ more in
    subst (λ (t : List (List ℕ)). IsFrontOf (joined lines ++ part) (joined t)) (sym (within_some hint whole)) (within_goes_on_by (suc hint) lines part cut leaves.0 more)

none_until : (above : Bool) (line : List ℕ) → line ++ joined (if above then [] else []) ≡ line
none_until true line = append-nil line
none_until false line = append-nil line

part_alone : (hint total : ℕ) (part : List ℕ) → has_end_after Lf false part ≡ false → joined (until_above hint total (lines_of part)) ≡ part
part_alone hint total [] none = refl
part_alone hint total (c ∷ cs) none = ap (λ (t : List (List ℕ)). joined (until_above hint total t)) (one_of_part c cs none) ∙ none_until (nat_lt hint (total + length (c ∷ cs))) (c ∷ cs)

within_alone : (hint left : Option ℕ) (lines : List (List ℕ)) (part : List ℕ) → AreCut lines part → HintLeaves hint (length (joined lines)) left → joined (lines_within hint (joined lines ++ part)) ≡ joined lines ++ part
within_alone None left lines part cut leaves = joined_lines (joined lines ++ part)
within_alone (Some zero) left lines part cut leaves = joined_lines (joined lines ++ part)
within_alone (Some (suc hint)) left lines part cut leaves =
    let rest : List (List ℕ) = until_above (suc hint) (length (joined lines)) (lines_of part) in
    ap joined (within_some hint (joined lines ++ part) ∙ (ap (until_above (suc hint) 0) (cut.ended part) ∙ until_first (suc hint) lines (lines_of part) leaves.0))
    ∙ (joined_both lines rest
    ∙ ap (λ (t : List ℕ). joined lines ++ t) (part_alone (suc hint) (length (joined lines)) part cut.unended))

-- lines that a hint allows, and a part, are what it leaves of them, and a front of what it leaves with more after them
pub lines_go_on : (view : LinesView) → AreCut view.lines view.part → LinesAreOpen view → (more : List ℕ) → IsFrontOf (lines_collected view) (lines_wanted view (lines_collected view ++ more))
lines_go_on view cut stays more = within_goes_on view.hint view.left view.lines view.part cut stays more

pub lines_alone : (view : LinesView) → AreCut view.lines view.part → LinesAreOpen view → lines_wanted view (lines_collected view) ≡ lines_collected view
lines_alone view cut stays = within_alone view.hint view.left view.lines view.part cut stays
