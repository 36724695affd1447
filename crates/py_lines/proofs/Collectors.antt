-- What a collector has taken of a stream, and what of it is wanted whatever comes after.
use Rattle.std.proofs.Common.{◌≡◌, ◌≢◌, ℕ, zero, suc, ◌+◌, ◌-◌, ◌<◌, ◌≤◌, Bool, true, false, nat_eq, nat_lt, List, [], ◌∷◌, ◌++◌, length, take, drop, Option, Some, None, refl, sym, ap, subst, inl, inr, ◌∙◌, arith, add-one, append_assoc, append-nil}
use Rattle.std.specs.Option.{option_eq}
use Rattle.std.proofs.lemmas.Bool.{cases_lt, eqb-true, eq-eqb, ltb-true, ltb-false}
use Rattle.std.proofs.lemmas.List.{take_all, take-append-drop, length-append, length-drop, length-take-le, length_push}
use Rattle.std.proofs.Math.Seq.{take-add, take-append-add}
use Rattle.py_flat.specs.Lines.{Lf, lf, line_after, has_end_after, first_line, lines_of, lines_within, joined}
use Rattle.py_flat.specs.Bytes.{first_of}
use Rattle.py_flat.specs.BinaryStep.{IsFrontOf}
use Rattle.py_lines.specs.Collecting.{LineView, line_wanted, limit_left, LineIsOpen, WithinLimit, FitsLimit, HasEnough, WantsMore, EndsIn, LinesView, all_lines, lines_collected, lines_wanted, IsOneLine, AreCut, HintLeaves, LinesAreOpen, AreEnough, AreEnoughIf, EndsLine}
use Rattle.py_lines.proofs.Asking.{line_asks, lines_ask}
use Rattle.py_lines.proofs.Lines.{line_behind, EndsAt, joined_more, joined_with_part, lines_of_cut, cut_more, within_ends, lines_go_on, lines_alone}

-- One line.

first_of_none : (limit : Option ℕ) → first_of limit [] ≡ []
first_of_none None = refl
first_of_none (Some zero) = refl
first_of_none (Some (suc n)) = refl

first_of_all : (limit : Option ℕ) (part : List ℕ) → WithinLimit limit (length part) → first_of limit part ≡ part
first_of_all None part fits = refl
first_of_all (Some size) part fits = take_all size part fits

within_along : (limit : Option ℕ) (m n : ℕ) → m ≡ n → WithinLimit limit m → WithinLimit limit n
within_along limit m n e fits = rw e at fits

-- what a collector keeps of its limit is what that leaves
pub left_of : (left limit : Option ℕ) (line : List ℕ) (size : ℕ) (view : LineView) → left ≡ limit_left limit size → size ≡ length line → record { line = line; limit = limit } ≡ view → limit_left view.limit (length view.line) ≡ left
left_of left limit line size view kept sized is = ap (λ (v : LineView). limit_left v.limit (length v.line)) (sym is) ∙ (ap (limit_left limit) (sym sized) ∙ sym kept)

-- and no line is longer than its limit
pub within_of : (limit : Option ℕ) (line : List ℕ) (size : ℕ) (view : LineView) → WithinLimit limit size → size ≡ length line → record { line = line; limit = limit } ≡ view → WithinLimit view.limit (length view.line)
within_of limit line size view within sized is = subst (λ (v : LineView). WithinLimit v.limit (length v.line)) is (within_along limit size (length line) sized within)

-- a test tells how many bytes are left
pub left_is : (left : Option ℕ) (count : ℕ) → option_eq nat_eq left (Some count) ≡ true → left ≡ Some count
left_is None count is = absurd (cc)
left_is (Some n) count is = ap (λ (k : ℕ). Some k) (eqb-true n count is)

pub left_isnt : (left : Option ℕ) (count : ℕ) → option_eq nat_eq left (Some count) ≡ false → left ≢ Some count
left_isnt left count isnt = λ e. let is : option_eq nat_eq left (Some count) ≡ true = ap (λ (o : Option ℕ). option_eq nat_eq o (Some count)) e ∙ eq-eqb count count refl in cc

within_less : (limit : Option ℕ) (m n : ℕ) → m ≤ n → WithinLimit limit n → WithinLimit limit m
within_less None m n less fits = tt
within_less (Some size) m n less fits = omega arith

pub fits_less : (view : LineView) (m n : ℕ) → m ≤ n → FitsLimit view n → FitsLimit view m
fits_less view m n less fits = within_less view.limit (length view.line + m) (length view.line + n) (omega arith) fits

-- where no line ends in a part that the limit allows, the first line goes on after it
first_behind : (limit : Option ℕ) (part more : List ℕ) → has_end_after Lf false part ≡ false → WithinLimit limit (length part) → first_line Lf limit (part ++ more) ≡ part ++ first_line Lf (limit_left limit (length part)) more
first_behind None part more none fits = line_behind false part more none
first_behind (Some size) part more none fits =
    let parts : size ≡ length part + (size - length part) = omega arith in
    ap (take size) (line_behind false part more none)
    ∙ (ap (λ (n : ℕ). take n (part ++ line_after Lf false more)) parts
    ∙ take-append-add part (line_after Lf false more) (size - length part))

left_twice : (limit : Option ℕ) (m n : ℕ) → limit_left (limit_left limit m) n ≡ limit_left limit (m + n)
left_twice None m n = refl
left_twice (Some size) m n = ap (λ (k : ℕ). Some k) (omega arith)

-- as many bytes as a limit leaves fit behind those that were taken
fits_behind : (limit : Option ℕ) (m n : ℕ) → WithinLimit limit m → WithinLimit (limit_left limit m) (0 + n) → WithinLimit limit (m + n)
fits_behind None m n within fits = tt
fits_behind (Some size) m n within fits = omega (arith, within, fits)

left_fits : (limit : Option ℕ) (m n : ℕ) → WithinLimit limit (m + n) → WithinLimit (limit_left limit m) n
left_fits None m n fits = tt
left_fits (Some size) m n fits = omega arith

module _ (limit : Option ℕ) (line : List ℕ) (stays : LineIsOpen (record { line = line; limit = limit })) where
  -- a part in which no line ends leaves the line open
  open_behind : (part : List ℕ) → has_end_after Lf false part ≡ false → WithinLimit limit (length line + length part) → LineIsOpen (record { line = line ++ part; limit = limit })
  open_behind part none fits = λ more.
      let left : Option ℕ = limit_left limit (length line) in
      let same : limit_left left (length part) ≡ limit_left limit (length (line ++ part)) = left_twice limit (length line) (length part) ∙ ap (limit_left limit) (sym (length-append line part)) in
      ap (first_line Lf limit) (append_assoc line part more)
      ∙ (stays (part ++ more)
      ∙ (ap (λ (t : List ℕ). line ++ t) (first_behind left part more none (left_fits limit (length line) (length part) fits))
      ∙ (sym (append_assoc line part (first_line Lf (limit_left left (length part)) more))
      ∙ ap (λ (o : Option ℕ). (line ++ part) ++ first_line Lf o more) same)))

  -- the line is all of itself
  open_alone : first_line Lf limit line ≡ line
  open_alone =
      ap (first_line Lf limit) (sym (append-nil line))
      ∙ (stays []
      ∙ (ap (λ (t : List ℕ). line ++ t) (first_of_none (limit_left limit (length line)))
      ∙ append-nil line))

  -- a line that nothing has ended goes on with the bytes that come
  open_goes_on : (more : List ℕ) → IsFrontOf line (first_line Lf limit (line ++ more))
  open_goes_on more = (first_line Lf (limit_left limit (length line)) more, sym (stays more))

  -- a line that is as long as its limit goes no further
  full_ends : limit_left limit (length line) ≡ Some 0 → (more : List ℕ) → first_line Lf limit (line ++ more) ≡ line
  full_ends full more =
      stays more
      ∙ (ap (λ (o : Option ℕ). line ++ first_line Lf o more) full
      ∙ append-nil line)

  -- the line goes up to its end
  line_to_end : (front more : List ℕ) → has_end_after Lf false front ≡ false → WithinLimit limit (length line + suc (length front)) → first_line Lf limit (line ++ (front ++ (lf ∷ more))) ≡ line ++ (front ++ (lf ∷ []))
  line_to_end front more none fits =
      let left : Option ℕ = limit_left limit (length line) in
      stays (front ++ (lf ∷ more))
      ∙ ap (λ (t : List ℕ). line ++ t)
      (ap (first_of left) (line_behind false front (lf ∷ more) none)
      ∙ first_of_all left (front ++ (lf ∷ [])) (within_along left _ _ (sym (add-one (length front)) ∙ sym (length_push front lf)) (left_fits limit (length line) (suc (length front)) fits)))

-- what a collector of a line has after some bytes of a piece
abbrev pub took : LineView → List ℕ → LineView
took view bytes = record view { line = view.line ++ bytes }

-- the line ends in the piece
pub line_has_end : (view new : LineView) (bytes : List ℕ) (at : ℕ) → LineIsOpen view → EndsAt bytes at → FitsLimit view (at + 1) → new ≡ took view (take (at + 1) bytes) → HasEnough (line_wanted view) view.line bytes (at + 1) new.line
line_has_end view new bytes at stays ends fits is =
    let front : List ℕ = take at bytes in
    let behind : List ℕ = drop (suc at) bytes in
    let fits_end : WithinLimit view.limit (length view.line + suc (length front)) = within_along view.limit _ _ (omega (arith, length-take-le at bytes (omega (arith, ends.within)))) fits in
    subst (λ (v : LineView). HasEnough (line_wanted view) view.line bytes (at + 1) v.line) (sym is) (record {
      fits = omega (arith, ends.within);
      takes = refl;
      exact = λ more.
          ap (λ (t : List ℕ). first_line Lf view.limit (view.line ++ t)) (ap (λ (t : List ℕ). t ++ more) ends.parts ∙ append_assoc front (lf ∷ behind) more)
          ∙ (line_to_end view.limit view.line stays front (behind ++ more) ends.none fits_end
          ∙ ap (λ (t : List ℕ). view.line ++ t) (sym ends.line));
      alone =
          ap (λ (t : List ℕ). first_line Lf view.limit (view.line ++ t)) ends.line
          ∙ (line_to_end view.limit view.line stays front [] ends.none fits_end
          ∙ ap (λ (t : List ℕ). view.line ++ t) (sym ends.line));
    })

-- the line is as long as it may be
pub line_is_full : (view new : LineView) (bytes : List ℕ) (used : ℕ) → LineIsOpen view → used ≤ length bytes → has_end_after Lf false (take used bytes) ≡ false → FitsLimit view used → new ≡ took view (take used bytes) → limit_left new.limit (length new.line) ≡ Some 0 → HasEnough (line_wanted view) view.line bytes used new.line
line_is_full view new bytes used stays within none fits is full =
    let front : List ℕ = take used bytes in
    let line : List ℕ = view.line ++ front in
    let opened : LineIsOpen (took view front) = open_behind view.limit view.line stays front none (within_along view.limit _ _ (omega (arith, length-take-le used bytes within)) fits) in
    let full_here : limit_left view.limit (length line) ≡ Some 0 = subst (λ (v : LineView). limit_left v.limit (length v.line) ≡ Some 0) is full in
    subst (λ (v : LineView). HasEnough (line_wanted view) view.line bytes used v.line) (sym is) (record {
      fits = within;
      takes = refl;
      exact = λ more.
          ap (λ (t : List ℕ). first_line Lf view.limit (view.line ++ t)) (ap (λ (t : List ℕ). t ++ more) (sym (take-append-drop used bytes)) ∙ append_assoc front (drop used bytes) more)
          ∙ (ap (first_line Lf view.limit) (sym (append_assoc view.line front (drop used bytes ++ more)))
          ∙ full_ends view.limit line opened full_here (drop used bytes ++ more));
      alone = open_alone view.limit line opened;
    })

-- the line goes on after the piece
line_goes_behind : (view : LineView) (bytes : List ℕ) → LineIsOpen view → has_end_after Lf false bytes ≡ false → FitsLimit view (length bytes) → limit_left view.limit (length (view.line ++ bytes)) ≢ Some 0 → LineIsOpen (took view bytes) × WantsMore (line_wanted view) view.line bytes (view.line ++ bytes)
line_goes_behind view bytes stays none fits left =
    let line : List ℕ = view.line ++ bytes in
    let opened : LineIsOpen (took view bytes) = open_behind view.limit view.line stays bytes none fits in (
      opened,
      record {
        takes = refl;
        goes_on = open_goes_on view.limit line opened;
        asks = λ more some. line_asks (took view bytes) more opened left some;
        alone = open_alone view.limit line opened;
      },
    )

-- as many bytes as the limit leaves make the line as long as it may be
pub full_after : (view : LineView) (bytes : List ℕ) (used : ℕ) → used ≤ length bytes → limit_left view.limit (length view.line) ≡ Some used → limit_left view.limit (length (view.line ++ take used bytes)) ≡ Some 0
full_after view bytes used within left =
    ap (limit_left view.limit) (length-append view.line (take used bytes) ∙ ap (λ (n : ℕ). length view.line + n) (length-take-le used bytes within))
    ∙ (sym (left_twice view.limit (length view.line) used)
    ∙ (ap (λ (o : Option ℕ). limit_left o used) left
    ∙ ap (λ (n : ℕ). Some n) (let none : used - used ≡ 0 = omega arith in none)))

-- fewer leave something
left_more : (limit : Option ℕ) (m n : ℕ) → WithinLimit limit (m + n) → limit_left limit m ≢ Some n → limit_left limit (m + n) ≢ Some 0
left_more None m n fits left none = absurd (cc)
left_more (Some size) m n fits left none = let zero : size - (m + n) ≡ 0 = cc in left (ap (λ (k : ℕ). Some k) (omega (arith, fits, zero)))

-- the line goes on after a piece that the limit allows, and leaves something after
pub line_goes_on : (view : LineView) (bytes : List ℕ) (allowed : ℕ) → LineIsOpen view → allowed ≤ length bytes → (allowed < length bytes → limit_left view.limit (length view.line + allowed) ≡ Some 0) → has_end_after Lf false (take allowed bytes) ≡ false → FitsLimit view allowed → limit_left view.limit (length view.line) ≢ Some allowed → EndsIn view bytes None
line_goes_on view bytes allowed stays within short none fits left =
    let some : limit_left view.limit (length view.line + allowed) ≢ Some 0 = left_more view.limit (length view.line) allowed fits left in
    let all : allowed ≡ length bytes = elim (cases_lt allowed (length bytes)) [
      | inl less ↦ absurd (some (short less))
      | inr rest ↦ omega (arith, rest, within)
    ] in
    let all_fit : FitsLimit view (length bytes) = subst (FitsLimit view) all fits in
    let goes = line_goes_behind view bytes stays (ap (has_end_after Lf false) (sym (take_all allowed bytes (omega (arith, all)))) ∙ none) all_fit
    (λ full. some (ap (λ (n : ℕ). limit_left view.limit (length view.line + n)) all ∙ (ap (limit_left view.limit) (sym (length-append view.line bytes)) ∙ full))) in
    (goes.1, goes.0, all_fit)

-- before a line has any byte, its limit leaves all of itself
pub none_taken : (limit : Option ℕ) → limit_left limit 0 ≡ limit
none_taken None = refl
none_taken (Some size) = ap (λ (left : ℕ). Some left) (omega arith)

-- as many bytes fit as that allows
pub none_fits : (limit : Option ℕ) (count : ℕ) → WithinLimit limit count → FitsLimit (record { line = []; limit = limit }) count
none_fits limit count fits = within_along limit count (0 + count) (omega arith) fits

-- and nothing ended it
pub none_open : (limit : Option ℕ) → LineIsOpen (record { line = []; limit = limit })
none_open limit = λ more. ap (λ (left : Option ℕ). first_line Lf left more) (sym (none_taken limit))

-- where such a line ends in a piece, there a line ends that was begun before and may take as many bytes
pub ends_behind : (view : LineView) (bytes : List ℕ) (end : Option ℕ) → LineIsOpen view → WithinLimit view.limit (length view.line) → EndsIn (record { line = []; limit = limit_left view.limit (length view.line) }) bytes end → EndsIn view bytes end
ends_behind view bytes (Some used) stays within ends = (
  record {
    fits = ends.0.fits;
    takes = refl;
    exact = λ more. stays (bytes ++ more) ∙ ap (λ (t : List ℕ). view.line ++ t) (ends.0.exact more);
    alone = stays (take used bytes) ∙ ap (λ (t : List ℕ). view.line ++ t) ends.0.alone;
  },
  fits_behind view.limit (length view.line) used within ends.1,
)
ends_behind view bytes None stays within ends =
    let left : Option ℕ = limit_left view.limit (length view.line) in
    let line : List ℕ = view.line ++ bytes in
    let same : limit_left left (length bytes) ≡ limit_left view.limit (length line) = left_twice view.limit (length view.line) (length bytes) ∙ ap (limit_left view.limit) (sym (length-append view.line bytes)) in
    let whole : (more : List ℕ) → first_line Lf view.limit (line ++ more) ≡ view.line ++ first_line Lf left (bytes ++ more) = λ more. ap (first_line Lf view.limit) (append_assoc view.line bytes more) ∙ stays (bytes ++ more) in
    let opened : LineIsOpen (took view bytes) = λ more.
    whole more
    ∙ (ap (λ (t : List ℕ). view.line ++ t) (ends.1 more)
    ∙ (sym (append_assoc view.line bytes (first_line Lf (limit_left left (length bytes)) more))
    ∙ ap (λ (o : Option ℕ). line ++ first_line Lf o more) same)) in (
      record {
        takes = refl;
        goes_on = open_goes_on view.limit line opened;
        asks = λ more some. omega (arith, length-append view.line bytes, length-append view.line (first_line Lf left (bytes ++ more)), ends.0.asks more some, ap length (whole more));
        alone = open_alone view.limit line opened;
      },
      opened,
      fits_behind view.limit (length view.line) (length bytes) within ends.2,
    )

-- Lines.

-- what is handed out is all bytes that were collected, cut into their lines
pub handed_all : (view : LinesView) (lines : List (List ℕ)) → lines ≡ all_lines view → joined lines ≡ lines_collected view
handed_all view lines is = ap joined is ∙ joined_with_part view.lines view.part

pub handed_cut : (view : LinesView) (lines : List (List ℕ)) → AreCut view.lines view.part → lines ≡ all_lines view → lines_of (joined lines) ≡ lines
handed_cut view lines cut is = ap lines_of (handed_all view lines is) ∙ (lines_of_cut view.lines view.part cut ∙ sym is)

-- a line that was ended stands after the others
pub cut_pushed : (lines new : List (List ℕ)) (part line pushed : List ℕ) → AreCut lines part → IsOneLine line → pushed ≡ line → new ≡ lines ++ (pushed ∷ []) → part ≡ [] → AreCut new part
cut_pushed lines new part line pushed cut one is behind none =
    subst (λ (t : List (List ℕ)). AreCut t part) (sym (behind ∙ ap (λ (l : List ℕ). lines ++ (l ∷ [])) is))
    (subst (AreCut (lines ++ (line ∷ []))) (sym none) (cut_more lines line part cut one))

-- the lines are enough with one that is longer than what the hint leaves, and else the hint allows more
enough_by : (above : Bool) (hint : ℕ) (lines : List (List ℕ)) (line part : List ℕ) (left size : ℕ) → AreCut (lines ++ (line ∷ [])) [] → length (joined lines) ≤ suc hint → left ≡ suc hint - length (joined lines) → size ≡ length line → nat_lt left size ≡ above → AreEnoughIf above (record { lines = lines ++ (line ∷ []); part = part; hint = Some (suc hint); left = Some (left - size) })
enough_by true hint lines line part left size cut fits left_is size_is above = within_ends hint lines line cut fits (omega (arith, ltb-true left size above))
enough_by false hint lines line part left size cut fits left_is size_is above =
    let total : length (joined (lines ++ (line ∷ []))) ≡ length (joined lines) + length line = ap length (joined_more lines line) ∙ length-append (joined lines) line in
    let fits_line : size ≤ left = ltb-false left size above in (
      omega arith,
      ap (λ (n : ℕ). Some n) (omega arith),
    )

pub enough_after : (hint kept : Option ℕ) (lines : List (List ℕ)) (line part : List ℕ) (left size : ℕ) → AreCut (lines ++ (line ∷ [])) [] → HintLeaves hint (length (joined lines)) kept → kept ≡ Some left → size ≡ length line → AreEnoughIf (nat_lt left size) (record { lines = lines ++ (line ∷ []); part = part; hint = hint; left = Some (left - size) })
enough_after None kept lines line part left size cut leaves is size_is = let no : None ≡ Some left = sym leaves ∙ is in absurd (cc)
enough_after (Some zero) kept lines line part left size cut leaves is size_is = let no : None ≡ Some left = sym leaves ∙ is in absurd (cc)
enough_after (Some (suc hint)) kept lines line part left size cut leaves is size_is =
    let same : Some left ≡ Some (suc hint - length (joined lines)) = sym is ∙ leaves.1 in
    enough_by (nat_lt left size) hint lines line part left size cut leaves.0 (cc) size_is refl

-- lines and a number left that equal some others are enough for the hint where those are, and open where those are
pub enough_along : (enough : Bool) (lines same : List (List ℕ)) (part : List ℕ) (hint : Option ℕ) (left now : ℕ) → same ≡ lines → now ≡ left → AreEnoughIf enough (record { lines = lines; part = part; hint = hint; left = Some left }) → AreEnoughIf enough (record { lines = same; part = part; hint = hint; left = Some now })
enough_along enough lines same part hint left now is left_is h =
    subst (λ (t : List (List ℕ)). AreEnoughIf enough (record { lines = t; part = part; hint = hint; left = Some now })) (sym is)
    (subst (λ (n : ℕ). AreEnoughIf enough (record { lines = lines; part = part; hint = hint; left = Some n })) (sym left_is) h)

-- A piece, of which a front was collected.

collected_more : (before bytes rest : List ℕ) (used at : ℕ) (old new : LinesView) (enough : Bool) → lines_collected old ≡ before ++ take used bytes → rest ≡ take (at + 1) (drop used bytes) → EndsLine old rest enough new → lines_collected new ≡ before ++ take (used + (at + 1)) bytes
collected_more before bytes rest used at old new enough collected is ended =
    ap (λ (t : List ℕ). joined new.lines ++ t) ended.part
    ∙ (append-nil (joined new.lines)
    ∙ (ap joined ended.lines
    ∙ (joined_more old.lines (old.part ++ rest)
    ∙ (sym (append_assoc (joined old.lines) old.part rest)
    ∙ (ap (λ (t : List ℕ). t ++ rest) collected
    ∙ (append_assoc before (take used bytes) rest
    ∙ ap (λ (t : List ℕ). before ++ t) (ap (λ (t : List ℕ). take used bytes ++ t) is ∙ sym (take-add used (at + 1) bytes))))))))

-- a front of a piece was collected, under a hint
pub record CollectsFront (old : LinesView) (bytes : List ℕ) (used : ℕ) (view : LinesView) : Type 0 where
  pub within : used ≤ length bytes
  pub hint : view.hint ≡ old.hint
  pub collected : lines_collected view ≡ lines_collected old ++ take used bytes

-- once a front of a piece was collected, ending a line with the bytes after it collects the front up to the end of that line
pub front_ended : (old view new : LinesView) (bytes rest : List ℕ) (used at : ℕ) (enough : Bool) → CollectsFront old bytes used view → EndsAt (drop used bytes) at → rest ≡ take (at + 1) (drop used bytes) → EndsLine view rest enough new → CollectsFront old bytes (used + (at + 1)) new
front_ended old view new bytes rest used at enough front ends is ended = record {
  within = omega (arith, length-drop used bytes, ends.within, front.within);
  hint = ended.hint ∙ front.hint;
  collected = collected_more (lines_collected old) bytes rest used at view new enough front.collected is ended;
}

-- the lines are enough
pub lines_are_enough : (old view : LinesView) (bytes : List ℕ) (used : ℕ) → CollectsFront old bytes used view → view.part ≡ [] → AreEnough view → HasEnough (lines_wanted old) (lines_collected old) bytes used (lines_collected view)
lines_are_enough old view bytes used front none enough =
    let before : List ℕ = lines_collected old in
    let whole : lines_collected view ≡ joined view.lines = ap (λ (t : List ℕ). joined view.lines ++ t) none ∙ append-nil (joined view.lines) in
    let given : (more : List ℕ) → lines_wanted old (lines_collected view ++ more) ≡ lines_collected view = λ more.
    ap (λ (h : Option ℕ). joined (lines_within h (lines_collected view ++ more))) (sym front.hint)
    ∙ (ap (λ (t : List ℕ). joined (lines_within view.hint (t ++ more))) whole
    ∙ (ap joined (enough more)
    ∙ sym whole)) in
    record {
      fits = front.within;
      takes = front.collected;
      exact = λ more.
          ap (lines_wanted old)
          (ap (λ (t : List ℕ). before ++ (t ++ more)) (sym (take-append-drop used bytes))
          ∙ (ap (λ (t : List ℕ). before ++ t) (append_assoc (take used bytes) (drop used bytes) more)
          ∙ (sym (append_assoc before (take used bytes) (drop used bytes ++ more))
          ∙ ap (λ (t : List ℕ). t ++ (drop used bytes ++ more)) (sym front.collected))))
          ∙ given (drop used bytes ++ more);
      alone = ap (lines_wanted old) (sym (append-nil (lines_collected view))) ∙ given [];
    }

-- all was kept, and the hint allows more
pub lines_want_more : (old view new : LinesView) (bytes rest : List ℕ) (used : ℕ) → CollectsFront old bytes used view → rest ≡ drop used bytes → LinesAreOpen view → new ≡ record view { part = view.part ++ rest } → AreCut new.lines new.part → WantsMore (lines_wanted old) (lines_collected old) bytes (lines_collected new)
lines_want_more old view new bytes rest used front is stays new_is cut =
    let before : List ℕ = lines_collected old in
    let same : new.hint ≡ old.hint = ap (λ (v : LinesView). v.hint) new_is ∙ front.hint in
    let opened : LinesAreOpen new = subst LinesAreOpen (sym new_is) stays in
    record {
      takes =
          ap lines_collected new_is
          ∙ (sym (append_assoc (joined view.lines) view.part rest)
          ∙ (ap (λ (t : List ℕ). t ++ rest) front.collected
          ∙ (append_assoc before (take used bytes) rest
          ∙ ap (λ (t : List ℕ). before ++ t) (ap (λ (t : List ℕ). take used bytes ++ t) is ∙ take-append-drop used bytes))));
      goes_on = λ more. subst (λ (h : Option ℕ). IsFrontOf (lines_collected new) (joined (lines_within h (lines_collected new ++ more)))) same (lines_go_on new cut opened more);
      asks = λ more some. subst (λ (h : Option ℕ). length (lines_collected new) < length (joined (lines_within h (lines_collected new ++ more)))) same (lines_ask new more cut opened some);
      alone = subst (λ (h : Option ℕ). joined (lines_within h (lines_collected new)) ≡ lines_collected new) same (lines_alone new cut opened);
    }
