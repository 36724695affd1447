-- Characters that were given of those that are known, with what comes behind them.
use Rattle.std.proofs.Common.{◌≡◌, ℕ, ◌+◌, ◌-◌, ◌≤◌, Bool, true, false, nat_lt, List, ◌++◌, length, take, drop, refl, sym, ap, ◌∙◌, arith}
use Rattle.std.proofs.lemmas.Bool.{ltb-true, ltb-false}
use Rattle.std.proofs.lemmas.List.{append-nil, append_assoc, take-append-drop, drop-append-le, drop-drop}

-- what stands behind a place that they come no further than
pub given-to-mark : (known rest : List ℕ) (mark count : ℕ) → count ≤ length known → count ≤ mark → drop mark (known ++ rest) ≡ drop (mark - count) (drop count known ++ rest)
given-to-mark known rest mark count within before =
    let whole : count + (mark - count) ≡ mark = omega (arith, before) in
    ap (λ (n : ℕ). drop n (known ++ rest)) (sym whole)
    ∙ (sym (drop-drop (mark - count) count (known ++ rest))
    ∙ ap (drop (mark - count)) (drop-append-le count known rest within))

-- what stands behind a place that they come past
pub given-past-mark : (known rest : List ℕ) (mark count : ℕ) → count ≤ length known → mark ≤ count → drop mark (known ++ rest) ≡ take (count - mark) (drop mark known) ++ (drop count known ++ rest)
given-past-mark known rest mark count within past =
    let whole : mark + (count - mark) ≡ count = omega (arith, past) in
    let behind : List ℕ = drop mark known in
    drop-append-le mark known rest (omega (arith, within, past))
    ∙ (ap (λ (xs : List ℕ). xs ++ rest) (sym (take-append-drop (count - mark) behind))
    ∙ (append_assoc (take (count - mark) behind) (drop (count - mark) behind) rest
    ∙ ap (λ (xs : List ℕ). take (count - mark) behind ++ (xs ++ rest)) (drop-drop (count - mark) mark known ∙ ap (λ (n : ℕ). drop n known) whole)))

-- those of them that stand behind a front come behind what was given before
pub given-behind : (gone known rest : List ℕ) (front count : ℕ) → count ≤ length known → gone ++ drop front (known ++ rest) ≡ (gone ++ take (count - front) (drop front known)) ++ drop (front - count) (drop count known ++ rest)
given-behind gone known rest front count within = by-front (nat_lt front count) refl
  where
    left : List ℕ
    left = drop count known ++ rest

    by-front : (past : Bool) → nat_lt front count ≡ past → gone ++ drop front (known ++ rest) ≡ (gone ++ take (count - front) (drop front known)) ++ drop (front - count) left
    by-front true is =
        let none : front - count ≡ 0 = omega (arith, ltb-true front count is) in
        ap (λ (xs : List ℕ). gone ++ xs) (given-past-mark known rest front count within (omega (arith, ltb-true front count is)))
        ∙ (sym (append_assoc gone (take (count - front) (drop front known)) left)
        ∙ ap (λ (n : ℕ). (gone ++ take (count - front) (drop front known)) ++ drop n left) (sym none))
    by-front false is =
        let none : count - front ≡ 0 = omega (arith, ltb-false front count is) in
        ap (λ (xs : List ℕ). gone ++ xs) (given-to-mark known rest front count within (ltb-false front count is))
        ∙ (ap (λ (xs : List ℕ). xs ++ drop (front - count) left) (sym (append-nil gone))
        ∙ ap (λ (n : ℕ). (gone ++ take n (drop front known)) ++ drop (front - count) left) (sym none))
