-- What the newline rule gives of characters and of an item behind them.
use Rattle.std.proofs.Common.{◌≡◌, ◌⊎◌, inl, inr, ℕ, suc, ◌+◌, ◌-◌, ◌≤◌, Bool, true, false, ◌&&◌, nat_eq, if◌then◌else◌, List, [], ◌∷◌, ◌++◌, length as len, refl, sym, ap, ◌∙◌, arith, append_assoc, append-nil}
use Rattle.std.proofs.lemmas.Bool.{and_parts, false≢true}
use Rattle.std.proofs.lemmas.Bool.Decides.{nat_tests}
use Rattle.std.proofs.lemmas.List.{length-append}
use Rattle.py_flat.specs.Lines.{lf, cr, begins_with_lf}
use Rattle.py_plain.specs.declared.newlines.Newlines.{Newlines}
use Rattle.py_plain.specs.declared.newlines.Newlines.TheVariants as rule
use Rattle.py_plain.specs.NewlineRule.{released, universal, ends_held, read_so_far, holds_after, translated}
use Rattle.py_plain.proofs.LineEnds.{held_behind}
use Rattle.py_plain_text.proofs.Unbroken.{Unbroken}
use Rattle.py_plain_text.proofs.Translated.{universal_both, joins, apart, onto_cr, unbroken_stay, none_read, one_read}
use Rattle.py_telling.specs.Spots.{is_universal, holds, adds}

-- two tests of which the second fails
pub none_and : (a b : Bool) → b ≡ false → (a && b) ≡ false
none_and true b none = none
none_and false b none = refl

-- whether a CR is held behind some characters
abbrev pub held_behind_all : Newlines → List ℕ → Bool
held_behind_all newline before = holds_after newline false before

pub none_held : (newline : Newlines) → held_behind_all newline [] ≡ false
none_held rule.Universal = refl
none_held rule.Passthrough = refl
none_held rule.Lf = refl
none_held rule.Cr = refl
none_held rule.Crlf = refl

-- a character is one with a CR that is held
joins_is : (newline : Newlines) (before : List ℕ) (c : ℕ) → joins newline before c ≡ (held_behind_all newline before && nat_eq c lf)
joins_is rule.Universal before c = refl
joins_is rule.Passthrough before c = refl
joins_is rule.Lf before c = refl
joins_is rule.Cr before c = refl
joins_is rule.Crlf before c = refl

-- whether a CR is held behind more
pub holds_more : (newline : Newlines) (before cs : List ℕ) → held_behind_all newline (before ++ cs) ≡ holds newline (held_behind_all newline before) cs
holds_more newline before [] = ap (held_behind_all newline) (append-nil before)
holds_more rule.Universal before (c ∷ cs) = held_behind false before (c ∷ cs)
holds_more rule.Passthrough before (c ∷ cs) = refl
holds_more rule.Lf before (c ∷ cs) = refl
holds_more rule.Cr before (c ∷ cs) = refl
holds_more rule.Crlf before (c ∷ cs) = refl

-- Items.

-- one character, or such as hold no line end
abbrev pub Kind : List ℕ → Type 0
Kind cs = ((c : ℕ) × (cs ≡ c ∷ [])) ⊎ Unbroken cs

-- how many are given with one character more
one_grows : (newline : Newlines) (before : List ℕ) (c : ℕ) (joined : Bool) → joins newline before c ≡ joined → len (translated newline (before ++ (c ∷ []))) ≡ len (translated newline before) + adds (held_behind_all newline before) (c ∷ [])
one_grows newline before c true is =
    let none : adds (held_behind_all newline before) (c ∷ []) ≡ 0 = ap (λ (b : Bool). 1 - (if b then 1 else 0)) (sym (joins_is newline before c) ∙ is) in
    ap len (onto_cr newline before c is) ∙ omega (arith, none)
one_grows newline before c false is =
    let one : adds (held_behind_all newline before) (c ∷ []) ≡ 1 = ap (λ (b : Bool). 1 - (if b then 1 else 0)) (sym (joins_is newline before c) ∙ is) in
    ap len (apart newline before c [] is) ∙ (length-append (translated newline before) (translated newline (c ∷ [])) ∙ omega (arith, one, one_read newline c))

unbroken_adds : (held : Bool) (cs : List ℕ) → Unbroken cs → adds held cs ≡ len cs
unbroken_adds held [] unbroken = omega arith
unbroken_adds held (c ∷ cs) unbroken =
    let above = unbroken.0 in
    let other : nat_eq c lf ≡ false = grind (arith, nat_tests) in
    ap (λ (b : Bool). suc (len cs) - (if b then 1 else 0)) (none_and held (nat_eq c lf) other) ∙ omega arith

unbroken_grows : (newline : Newlines) (before cs : List ℕ) → Unbroken cs → len (translated newline (before ++ cs)) ≡ len (translated newline before) + len cs
unbroken_grows newline before [] unbroken = ap (λ (t : List ℕ). len (translated newline t)) (append-nil before) ∙ omega arith
unbroken_grows newline before (c ∷ cs) unbroken =
    let above = unbroken.0 in
    let other : nat_eq c lf ≡ false = grind (arith, nat_tests) in
    let alone : joins newline before c ≡ false = joins_is newline before c ∙ none_and (held_behind_all newline before) (nat_eq c lf) other in
    let same : translated newline (c ∷ cs) ≡ c ∷ cs =
    ap (translated newline) (sym (append-nil (c ∷ cs)))
    ∙ (unbroken_stay newline (c ∷ cs) [] unbroken
    ∙ (ap (λ (t : List ℕ). (c ∷ cs) ++ t) (none_read newline)
    ∙ append-nil (c ∷ cs))) in
    ap len (apart newline before c cs alone)
    ∙ (length-append (translated newline before) (translated newline (c ∷ cs))
    ∙ ap (λ (t : List ℕ). len (translated newline before) + len t) same)

-- how many are given with an item more
pub grows : (newline : Newlines) (before cs : List ℕ) → Kind cs → len (translated newline (before ++ cs)) ≡ len (translated newline before) + adds (held_behind_all newline before) cs
grows newline before cs (inl single) =
    ap (λ (t : List ℕ). len (translated newline (before ++ t))) single.1
    ∙ (one_grows newline before single.0 (joins newline before single.0) refl
    ∙ ap (λ (t : List ℕ). len (translated newline before) + adds (held_behind_all newline before) t) (sym single.1))
grows newline before cs (inr unbroken) =
    unbroken_grows newline before cs unbroken ∙ ap (λ (n : ℕ). len (translated newline before) + n) (sym (unbroken_adds (held_behind_all newline before) cs unbroken))

unbroken_unheld : (cs : List ℕ) → Unbroken cs → ends_held false cs ≡ false
unbroken_unheld [] unbroken = refl
unbroken_unheld (c ∷ cs) unbroken =
    let above = unbroken.0 in
    let other : nat_eq c cr ≡ false = grind (arith, nat_tests) in
    ap (λ (b : Bool). ends_held b cs) other ∙ unbroken_unheld cs unbroken.1

-- a CR that is held is one that was held before nothing, or was added
one_added : (newline : Newlines) (held : Bool) (c : ℕ) → holds newline held (c ∷ []) ≡ true → adds held (c ∷ []) ≡ 1
one_added newline held c is =
    let same = and_parts (is_universal newline) (nat_eq c cr) is in
    let read = same.1 in
    let other : nat_eq c lf ≡ false = grind (arith, nat_tests) in
    ap (λ (b : Bool). 1 - (if b then 1 else 0)) (none_and held (nat_eq c lf) other)

unbroken_held : (newline : Newlines) (held : Bool) (cs : List ℕ) → Unbroken cs → holds newline held cs ≡ true → (held ≡ true) × (len cs ≡ 0)
unbroken_held newline held [] unbroken is = (is, refl)
unbroken_held newline held (c ∷ cs) unbroken is =
    let none = none_and (is_universal newline) (ends_held false (c ∷ cs)) (unbroken_unheld (c ∷ cs) unbroken) in
    absurd (false≢true (sym none ∙ is))

pub held_added : (newline : Newlines) (held : Bool) (cs : List ℕ) → Kind cs → holds newline held cs ≡ true → ((held ≡ true) × (len cs ≡ 0)) ⊎ (adds held cs ≡ 1)
held_added newline held cs (inl single) is = inr (ap (adds held) single.1 ∙ one_added newline held single.0 (ap (holds newline held) (sym single.1) ∙ is))
held_added newline held cs (inr unbroken) is = inl (unbroken_held newline held cs unbroken is)

-- no CR is held behind more than one character
pub many_unheld : (newline : Newlines) (held : Bool) (cs : List ℕ) → Kind cs → 2 ≤ len cs → holds newline held cs ≡ true → ⊥
many_unheld newline held cs (inl single) many is = omega (arith, many, ap len single.1)
many_unheld newline held cs (inr unbroken) many is = omega (arith, many, (unbroken_held newline held cs unbroken is).1)

-- no item adds more than it has
pub adds_within : (held : Bool) (cs : List ℕ) → adds held cs ≤ len cs
adds_within held cs = omega arith

-- Characters in two parts.

-- whether an LF comes that is one with a CR that is held
abbrev pub joint : Newlines → (before cs : List ℕ) → Bool
joint newline before cs = held_behind_all newline before && begins_with_lf cs

pub parted : (newline : Newlines) (before cs : List ℕ) → joint newline before cs ≡ false → translated newline (before ++ cs) ≡ translated newline before ++ translated newline cs
parted newline before [] is =
    ap (translated newline) (append-nil before)
    ∙ (sym (append-nil (translated newline before))
    ∙ ap (λ (t : List ℕ). translated newline before ++ t) (sym (none_read newline)))
parted newline before (c ∷ cs) is = apart newline before c cs (joins_is newline before c ∙ is)

-- an LF is never held
lf_unheld : (newline : Newlines) (before : List ℕ) (c : ℕ) → nat_eq c lf ≡ true → held_behind_all newline (before ++ (c ∷ [])) ≡ false
lf_unheld newline before c is =
    let other : nat_eq c cr ≡ false = grind (arith, nat_tests) in
    holds_more newline before (c ∷ []) ∙ none_and (is_universal newline) (nat_eq c cr) other

pub joined : (newline : Newlines) (before cs : List ℕ) → joint newline before cs ≡ true → len (translated newline (before ++ cs)) + 1 ≡ len (translated newline before) + len (translated newline cs)
joined newline before [] is = absurd (false≢true (and_parts (held_behind_all newline before) false is).1)
joined newline before (c ∷ cs) is =
    let read : nat_eq c lf ≡ true = (and_parts (held_behind_all newline before) (nat_eq c lf) is).1 in
    let one : List ℕ = c ∷ [] in
    let whole : len (translated newline (before ++ (c ∷ cs))) ≡ len (translated newline before) + len (translated newline cs) =
    ap (λ (t : List ℕ). len (translated newline t)) (sym (append_assoc before one cs))
    ∙ (ap len (parted newline (before ++ one) cs (ap (λ (b : Bool). b && begins_with_lf cs) (lf_unheld newline before c read)))
    ∙ (length-append (translated newline (before ++ one)) (translated newline cs)
    ∙ ap (λ (t : List ℕ). len t + len (translated newline cs)) (onto_cr newline before c (joins_is newline before c ∙ is)))) in
    let behind : len (translated newline (c ∷ cs)) ≡ len (translated newline one) + len (translated newline cs) =
    ap len (parted newline one cs (ap (λ (b : Bool). b && begins_with_lf cs) (lf_unheld newline [] c read)))
    ∙ length-append (translated newline one) (translated newline cs) in
    omega (arith, whole, behind, one_read newline c)

-- What is surely given.

so_far_both : (newline : Newlines) (xs ys : List ℕ) → len (read_so_far newline false xs) ≤ len (read_so_far newline false (xs ++ ys))
so_far_both rule.Universal xs ys = omega (arith, ap len (universal_both false xs ys), length-append (universal false xs) (universal (ends_held false xs) ys))
so_far_both rule.Passthrough xs ys = omega (arith, length-append xs ys)
so_far_both rule.Lf xs ys = omega (arith, length-append xs ys)
so_far_both rule.Cr xs ys = omega (arith, length-append xs ys)
so_far_both rule.Crlf xs ys = omega (arith, length-append xs ys)

pub so_far_within : (newline : Newlines) (xs ys : List ℕ) → len (read_so_far newline false xs) ≤ len (translated newline (xs ++ ys))
so_far_within newline xs ys = omega (arith, so_far_both newline xs ys, length-append (read_so_far newline false (xs ++ ys)) (released (held_behind_all newline (xs ++ ys))))

-- what is given of characters behind which nothing comes, and a CR that is held
pub so_far_long : (newline : Newlines) (xs : List ℕ) → len (translated newline xs) ≡ len (read_so_far newline false xs) + len (released (held_behind_all newline xs))
so_far_long newline xs = length-append (read_so_far newline false xs) (released (held_behind_all newline xs))
