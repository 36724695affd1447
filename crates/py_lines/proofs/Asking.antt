-- A collector that wants more wants some of whatever comes.
use Rattle.std.proofs.Common.{◌≡◌, ◌≢◌, ℕ, zero, suc, ◌+◌, ◌<◌, Bool, true, false, nat_eq, nat_lt, if◌then◌else◌, List, [], ◌∷◌, ◌++◌, length, Option, Some, None, refl, sym, ap, subst, ◌∙◌, arith, append_assoc}
use Rattle.std.proofs.lemmas.List.{length-append}
use Rattle.py_flat.specs.Lines.{Lf, lf, first_line, onto_first, lines_of, until_above, lines_within, joined}
use Rattle.py_flat.proofs.Cutting.{joined_lines, first_line_holds_some}
use Rattle.py_lines.specs.Collecting.{LineView, LinesView, LineIsOpen, LinesAreOpen, AreCut, HintLeaves, limit_left, lines_collected, lines_wanted}
use Rattle.py_lines.proofs.Lines.{onto, onto_line, lines_onto, joined_both, within_some, until_first}

-- something has a length
pub some_length : (xs : List ℕ) → xs ≢ [] → 0 < length xs
some_length [] some = absurd (some refl)
some_length (x ∷ xs) some = omega arith

-- a list becomes longer where something is appended
longer_by : (xs ys : List ℕ) → ys ≢ [] → length xs < length (xs ++ ys)
longer_by xs ys some = omega (arith, length-append xs ys, some_length ys some)

-- a line that its limit leaves open
pub line_asks : (view : LineView) (more : List ℕ) → LineIsOpen view → limit_left view.limit (length view.line) ≢ Some 0 → more ≢ [] → length view.line < length (first_line Lf view.limit (view.line ++ more))
line_asks view more stays left some =
    let behind : List ℕ = first_line Lf (limit_left view.limit (length view.line)) more in
    let longer : length view.line < length (view.line ++ behind) = longer_by view.line behind (first_line_holds_some Lf (limit_left view.limit (length view.line)) more some left) in
    subst (λ (line : List ℕ). length view.line < length line) (sym (stays more)) longer

-- lines within a hint: the first is always among them, with what stands before it
first_longer : (hint total c : ℕ) (part line : List ℕ) (lines : List (List ℕ)) → length part < length (joined (until_above hint total (onto part ((c ∷ line) ∷ lines))))
first_longer hint total c part line lines =
    let whole : List ℕ = part ++ (c ∷ line) in
    let rest : List ℕ = joined (if nat_lt hint (total + length whole) then [] else until_above hint (total + length whole) lines) in
    subst (λ (t : List (List ℕ)). length part < length (joined (until_above hint total t))) (sym (onto_line part (c ∷ line) lines)) (omega (arith, length-append whole rest, length-append part (c ∷ line)))

onto_longer : (hint total c : ℕ) (part : List ℕ) (lines : List (List ℕ)) → length part < length (joined (until_above hint total (onto part (onto_first c lines))))
onto_longer hint total c part [] = first_longer hint total c part [] []
onto_longer hint total c part (line ∷ lines) = first_longer hint total c part line lines

begin_longer : (hint total c : ℕ) (part : List ℕ) (ends : Bool) (lines : List (List ℕ)) → length part < length (joined (until_above hint total (onto part (if ends then (c ∷ []) ∷ lines else onto_first c lines))))
begin_longer hint total c part true lines = first_longer hint total c part [] lines
begin_longer hint total c part false lines = onto_longer hint total c part lines

until_longer : (hint total : ℕ) (part more : List ℕ) → more ≢ [] → length part < length (joined (until_above hint total (onto part (lines_of more))))
until_longer hint total part [] some = absurd (some refl)
until_longer hint total part (c ∷ cs) some = begin_longer hint total c part (nat_eq c lf) (lines_of cs)

all_longer : (collected more : List ℕ) → more ≢ [] → length collected < length (joined (lines_of (collected ++ more)))
all_longer collected more some = subst (λ (all : List ℕ). length collected < length all) (sym (joined_lines (collected ++ more))) (longer_by collected more some)

within_longer : (hint left : Option ℕ) (lines : List (List ℕ)) (part more : List ℕ) → AreCut lines part → HintLeaves hint (length (joined lines)) left → more ≢ [] → length (joined lines ++ part) < length (joined (lines_within hint ((joined lines ++ part) ++ more)))
within_longer None left lines part more cut leaves some = all_longer (joined lines ++ part) more some
within_longer (Some zero) left lines part more cut leaves some = all_longer (joined lines ++ part) more some
within_longer (Some (suc hint)) left lines part more cut leaves some =
    let whole : List ℕ = (joined lines ++ part) ++ more in
    let total : ℕ = length (joined lines) in
    let rest : List (List ℕ) = until_above (suc hint) total (lines_of (part ++ more)) in
    let same : lines_within (Some (suc hint)) whole ≡ lines ++ rest =
    within_some hint whole ∙ (ap (until_above (suc hint) 0) (ap lines_of (append_assoc (joined lines) part more) ∙ cut.ended (part ++ more)) ∙ until_first (suc hint) lines (lines_of (part ++ more)) leaves.0) in
    let longer : length part < length (joined rest) = subst (λ (t : List (List ℕ)). length part < length (joined (until_above (suc hint) total t))) (sym (lines_onto false part more cut.unended)) (until_longer (suc hint) total part more some) in
    subst (λ (all : List ℕ). length (joined lines ++ part) < length all) (sym (ap joined same ∙ joined_both lines rest)) (omega (arith, longer, length-append (joined lines) part, length-append (joined lines) (joined rest)))

-- lines that their hint leaves open
pub lines_ask : (view : LinesView) (more : List ℕ) → AreCut view.lines view.part → LinesAreOpen view → more ≢ [] → length (lines_collected view) < length (lines_wanted view (lines_collected view ++ more))
lines_ask view more cut stays some = within_longer view.hint view.left view.lines view.part more cut stays some
