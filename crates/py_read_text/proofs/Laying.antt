-- A front of some bytes laid on, and then more of them.
use Rattle.std.proofs.Common.{◌≡◌, ℕ, ◌+◌, ◌<◌, ◌≤◌, ◌⊎◌, inl, inr, min, List, [], ◌∷◌, ◌++◌, length, take, drop, refl, sym, ◌∙◌, ap, arith, append_assoc, append-nil, length-append, length-drop, length-take, add-zero}
use Rattle.std.proofs.lemmas.Bool.{cases_lt}
use Rattle.std.proofs.Math.Seq.{take-add}
use Rattle.std.proofs.lemmas.List.{length-take-le, take_all, take-append-le, take-take, take_min, take-append-drop, drop-append-le, drop_at, drop_all}
use Rattle.py_flat.specs.Bytes.{filled_to, lay}
use Rattle.py_flat.proofs.Laying.{length-filled_to, lay_parts, filled_laid, drop_laid}

-- what stands before what is left, where all is laid on by laying what is left: all but that
filled_so : (bytes : List ℕ) (from : ℕ) (all : List ℕ) (passed : ℕ) (mid : List ℕ) → 0 < length all → passed ≤ length all → lay mid (from + passed) (drop passed all) ≡ lay bytes from all → filled_to mid (from + passed) ≡ filled_to bytes from ++ take passed all
filled_so bytes from all passed mid some most flat = by_left (cases_lt passed (length all))
  where
    by_left : (passed < length all) ⊎ (length all ≤ passed) → filled_to mid (from + passed) ≡ filled_to bytes from ++ take passed all
    by_left (inl less) =
        let e = filled_laid mid (from + passed) (drop passed all) 0 (omega (arith, length-drop passed all, less)) (omega arith) in
        let here : filled_to (lay mid (from + passed) (drop passed all)) (from + passed) ≡ filled_to mid (from + passed) = rw (add-zero (from + passed)) at e ∙ append-nil (filled_to mid (from + passed)) in
        sym here ∙ (ap (λ (own : List ℕ). filled_to own (from + passed)) flat ∙ filled_laid bytes from all passed some most)
    by_left (inr none) =
        let same : mid ≡ lay bytes from all = ap (lay mid (from + passed)) (sym (drop_all passed all none)) ∙ flat in
        ap (λ (own : List ℕ). filled_to own (from + passed)) same ∙ filled_laid bytes from all passed some most

filled_any : (bytes : List ℕ) (from : ℕ) (all : List ℕ) (passed : ℕ) (mid : List ℕ) → passed ≤ length all → lay mid (from + passed) (drop passed all) ≡ lay bytes from all → filled_to mid (from + passed) ≡ filled_to bytes from ++ take passed all
filled_any bytes from [] passed mid most flat =
    let same : mid ≡ bytes = ap (lay mid (from + passed)) (sym (drop_all passed [] (omega arith))) ∙ flat in
    let here : from + passed ≡ from = omega (arith, most) in
    ap (λ (own : List ℕ). filled_to own (from + passed)) same ∙ (ap (filled_to bytes) here ∙ (sym (append-nil (filled_to bytes from)) ∙ ap (λ (own : List ℕ). filled_to bytes from ++ own) (sym (take_all passed [] (omega arith)))))
filled_any bytes from (byte ∷ more) passed mid most flat = filled_so bytes from (byte ∷ more) passed mid (omega arith) most flat

-- some bytes laid on behind the first of those that were, or of others that are laid on by what is left of them: a front of all is laid on
laid_some : (bytes : List ℕ) (from : ℕ) (whole : List ℕ) (passed first : ℕ) (some mid : List ℕ) (second : ℕ) → some ≡ take second (drop passed whole) → 0 < length some → mid ≡ lay bytes from (take first whole) → first ≤ length whole → filled_to mid (from + passed) ≡ filled_to bytes from ++ take passed whole → (count : ℕ) × (lay mid (from + passed) some ≡ lay bytes from (take count whole))
laid_some bytes from whole passed first some mid second is has laid fits filled =
    by_order (cases_lt (length front) first)
  where
    front : List ℕ
    front = take passed whole ++ some

    front_is : front ≡ take (passed + second) whole
    front_is = ap (λ (own : List ℕ). take passed whole ++ own) is ∙ sym (take-add passed second whole)

    parts : lay mid (from + passed) some ≡ filled_to bytes from ++ (front ++ drop (from + passed + length some) mid)
    parts = lay_parts mid (from + passed) some has ∙ (ap (λ (own : List ℕ). own ++ (some ++ drop (from + passed + length some) mid)) filled ∙ (append_assoc (filled_to bytes from) (take passed whole) _ ∙ ap (λ (own : List ℕ). filled_to bytes from ++ own) (sym (append_assoc (take passed whole) some _))))

    within : length (take passed whole) ≤ passed
    within = omega (arith, length-take passed whole)

    longer : passed ≤ length whole
    longer = omega (arith, ap length is, length-take second (drop passed whole), length-drop passed whole, has)

    size : length front ≡ passed + length some
    size = omega (arith, length-append (take passed whole) some, length-take-le passed whole longer)

    at : from + passed + length some ≡ from + length front
    at = omega (arith, size)

    by_order : (length front < first) ⊎ (first ≤ length front) → (count : ℕ) × (lay mid (from + passed) some ≡ lay bytes from (take count whole))
    by_order (inr over) = (passed + second, parts ∙ (ap (λ (own : List ℕ). filled_to bytes from ++ (front ++ own)) back ∙ (sym (lay_parts bytes from front (omega (arith, size, has))) ∙ ap (lay bytes from) front_is)))
      where
        back : drop (from + passed + length some) mid ≡ drop (from + length front) bytes
        back = ap (λ (own : ℕ). drop own mid) at ∙ (ap (drop (from + length front)) laid ∙ drop_laid bytes from (take first whole) (length front) (omega (arith, length-take first whole, over)))
    by_order (inl under) = (first, parts ∙ (ap (λ (own : List ℕ). filled_to bytes from ++ (front ++ own)) back ∙ sym whole_parts))
      where
        laid_front : List ℕ
        laid_front = take first whole

        rest : List ℕ
        rest = drop (length front) laid_front

        tail : List ℕ
        tail = drop (from + length laid_front) bytes

        front_again : take (length front) laid_front ≡ front
        front_again = take-take (length front) first whole (omega (arith, under)) ∙ (ap (λ (own : List ℕ). take (length own) whole) front_is ∙ (short ∙ sym front_is))
          where
            short : take (length (take (passed + second) whole)) whole ≡ take (passed + second) whole
            short = ap (λ (own : ℕ). take own whole) (length-take (passed + second) whole) ∙ take_min (passed + second) whole

        joined : laid_front ≡ front ++ rest
        joined = sym (take-append-drop (length front) laid_front) ∙ ap (λ (own : List ℕ). own ++ rest) front_again

        whole_parts : lay bytes from laid_front ≡ filled_to bytes from ++ (front ++ (rest ++ tail))
        whole_parts = lay_parts bytes from laid_front (omega (arith, length-take first whole, fits, under)) ∙ (ap (λ (own : List ℕ). filled_to bytes from ++ (own ++ tail)) joined ∙ ap (λ (own : List ℕ). filled_to bytes from ++ own) (append_assoc front rest tail))

        back : drop (from + passed + length some) mid ≡ rest ++ tail
        back = ap (λ (own : ℕ). drop own mid) at ∙ (ap (drop (from + length front)) (laid ∙ (whole_parts ∙ sym (append_assoc (filled_to bytes from) front (rest ++ tail)))) ∙ drop_at (filled_to bytes from ++ front) (rest ++ tail) (from + length front) (omega (arith, length-append (filled_to bytes from) front, length-filled_to bytes from)))

-- a front of some bytes was laid on, so that laying what is left of them lays on all; then a front is laid on of what is left and of more
-- bytes behind that: a front of all is laid on
pub lays_then : (bytes : List ℕ) (from : ℕ) (all given : List ℕ) (passed first second : ℕ) (mid : List ℕ) → passed ≤ length all → mid ≡ lay bytes from (take first all) → lay mid (from + passed) (drop passed all) ≡ lay bytes from all → (count : ℕ) × (lay mid (from + passed) (take second (drop passed all ++ given)) ≡ lay bytes from (take count (all ++ given)))
lays_then bytes from all given passed first second mid most laid flat = by_some (take second (drop passed all ++ given)) refl
  where
    whole : List ℕ
    whole = all ++ given

    kept : ℕ
    kept = min first (length all)

    laid_kept : mid ≡ lay bytes from (take kept whole)
    laid_kept = laid ∙ ap (lay bytes from) (sym (take-append-le kept all given (omega arith) ∙ take_min first all))

    behind : drop passed all ++ given ≡ drop passed whole
    behind = sym (drop-append-le passed all given most)

    fits : kept ≤ length whole
    fits = omega (arith, length-append all given)

    filled : filled_to mid (from + passed) ≡ filled_to bytes from ++ take passed whole
    filled = filled_any bytes from all passed mid most flat ∙ ap (λ (own : List ℕ). filled_to bytes from ++ own) (sym (take-append-le passed all given most))

    by_some : (some : List ℕ) → take second (drop passed all ++ given) ≡ some → (count : ℕ) × (lay mid (from + passed) some ≡ lay bytes from (take count whole))
    by_some [] is = (kept, laid_kept)
    by_some (byte ∷ more) is = laid_some bytes from whole passed kept (byte ∷ more) mid second (sym is ∙ ap (take second) behind) (omega arith) laid_kept fits filled
