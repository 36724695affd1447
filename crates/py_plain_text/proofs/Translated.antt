-- The newline rule over characters that are cut in two.
use Rattle.std.proofs.Common.{◌≡◌, ℕ, ◌≤◌, Bool, true, false, ◌&&◌, ◌||◌, nat_eq, if◌then◌else◌, List, [], ◌∷◌, ◌++◌, length as len, refl, sym, ap, ◌∙◌, arith, append_assoc, append-nil}
use Rattle.std.proofs.lemmas.Bool.{and_parts}
use Rattle.std.proofs.lemmas.Bool.Decides.{nat_tests}
use Rattle.py_flat.specs.Lines.{lf, cr}
use Rattle.py_plain.specs.declared.newlines.Newlines.{Newlines}
use Rattle.py_plain.specs.declared.newlines.Newlines.TheVariants as rule
use Rattle.py_plain.specs.NewlineRule.{released, passes, universal, ends_held, translated}
use Rattle.py_plain.proofs.LineEnds.{held_behind}
use Rattle.py_plain.proofs.Translating.{finished}
use Rattle.py_plain_text.proofs.Unbroken.{Unbroken}

-- what the universal rule gives of characters in two parts
pub universal_both : (held : Bool) (xs ys : List ℕ) → universal held (xs ++ ys) ≡ universal held xs ++ universal (ends_held held xs) ys
universal_both held [] ys = refl
universal_both held (x ∷ xs) ys =
    let first : List ℕ = passes held x in
    ap (λ (t : List ℕ). released held ++ (first ++ t)) (universal_both (nat_eq x cr) xs ys)
    ∙ (ap (λ (t : List ℕ). released held ++ t) (sym (append_assoc first (universal (nat_eq x cr) xs) (universal (ends_held (nat_eq x cr) xs) ys)))
    ∙ sym (append_assoc (released held) (first ++ universal (nat_eq x cr) xs) (universal (ends_held (nat_eq x cr) xs) ys)))

finished_both : (held : Bool) (xs ys : List ℕ) → finished held (xs ++ ys) ≡ universal held xs ++ finished (ends_held held xs) ys
finished_both held xs ys =
    ap (λ (t : List ℕ). t ++ released (ends_held held (xs ++ ys))) (universal_both held xs ys)
    ∙ (ap (λ (h : Bool). (universal held xs ++ universal (ends_held held xs) ys) ++ released h) (held_behind held xs ys)
    ∙ append_assoc (universal held xs) (universal (ends_held held xs) ys) (released (ends_held (ends_held held xs) ys)))

-- a held CR is released before a character that isn't one with it
release_first : (held : Bool) (c : ℕ) (ys : List ℕ) → (held && nat_eq c lf) ≡ false → finished held (c ∷ ys) ≡ released held ++ finished false (c ∷ ys)
release_first held c ys alone =
    let behind : List ℕ = universal (nat_eq c cr) ys in
    let last : List ℕ = released (ends_held (nat_eq c cr) ys) in
    ap (λ (b : Bool). (released held ++ ((if nat_eq c cr || b then [] else c ∷ []) ++ behind)) ++ last) alone
    ∙ append_assoc (released held) (passes false c ++ behind) last

-- whether a character is one with a CR before it
abbrev pub joins : Newlines → List ℕ → ℕ → Bool
joins rule.Universal xs c = ends_held false xs && nat_eq c lf
joins _ xs c = false

same_apart : (xs ys : List ℕ) → (xs ++ ys) ++ [] ≡ (xs ++ []) ++ (ys ++ [])
same_apart xs ys =
    append-nil (xs ++ ys)
    ∙ (ap (λ (t : List ℕ). t ++ ys) (sym (append-nil xs))
    ∙ ap (λ (t : List ℕ). (xs ++ []) ++ t) (sym (append-nil ys)))

-- characters that aren't joined are read each by themselves
pub apart : (newline : Newlines) (xs : List ℕ) (c : ℕ) (ys : List ℕ) → joins newline xs c ≡ false → translated newline (xs ++ (c ∷ ys)) ≡ translated newline xs ++ translated newline (c ∷ ys)
apart rule.Universal xs c ys alone =
    let held : Bool = ends_held false xs in
    finished_both false xs (c ∷ ys)
    ∙ (ap (λ (t : List ℕ). universal false xs ++ t) (release_first held c ys alone)
    ∙ sym (append_assoc (universal false xs) (released held) (finished false (c ∷ ys))))
apart rule.Passthrough xs c ys alone = same_apart xs (c ∷ ys)
apart rule.Lf xs c ys alone = same_apart xs (c ∷ ys)
apart rule.Cr xs c ys alone = same_apart xs (c ∷ ys)
apart rule.Crlf xs c ys alone = same_apart xs (c ∷ ys)

-- an LF that is joined gives nothing
pub onto_cr : (newline : Newlines) (xs : List ℕ) (c : ℕ) → joins newline xs c ≡ true → translated newline (xs ++ (c ∷ [])) ≡ translated newline xs
onto_cr rule.Universal xs c is =
    let parts = and_parts (ends_held false xs) (nat_eq c lf) is in
    let one : nat_eq c cr ≡ false = grind (arith, nat_tests, parts.1) in
    finished_both false xs (c ∷ [])
    ∙ (ap (λ (h : Bool). universal false xs ++ finished h (c ∷ [])) parts.0
    ∙ (ap (λ (b : Bool). universal false xs ++ ((lf ∷ ((if nat_eq c cr || b then [] else c ∷ []) ++ [])) ++ released (nat_eq c cr))) parts.1
    ∙ (ap (λ (b : Bool). universal false xs ++ ((lf ∷ ((if b || true then [] else c ∷ []) ++ [])) ++ released b)) one
    ∙ ap (λ (h : Bool). universal false xs ++ released h) (sym parts.0))))
onto_cr rule.Passthrough xs c is = absurd (cc)
onto_cr rule.Lf xs c is = absurd (cc)
onto_cr rule.Cr xs c is = absurd (cc)
onto_cr rule.Crlf xs c is = absurd (cc)

not_cr : (c : ℕ) → 14 ≤ c → nat_eq c cr ≡ false
not_cr c above = grind (arith, nat_tests)

finished_unbroken : (cs ys : List ℕ) → Unbroken cs → finished false (cs ++ ys) ≡ cs ++ finished false ys
finished_unbroken [] ys known = refl
finished_unbroken (c ∷ cs) ys known =
    ap (λ (b : Bool). ((if b || false then [] else c ∷ []) ++ universal b (cs ++ ys)) ++ released (ends_held b (cs ++ ys))) (not_cr c known.0)
    ∙ ap (λ (t : List ℕ). c ∷ t) (finished_unbroken cs ys known.1)

-- characters without a line end stay as they are
pub unbroken_stay : (newline : Newlines) (cs ys : List ℕ) → Unbroken cs → translated newline (cs ++ ys) ≡ cs ++ translated newline ys
unbroken_stay rule.Universal cs ys known = finished_unbroken cs ys known
unbroken_stay rule.Passthrough cs ys known = append_assoc cs ys []
unbroken_stay rule.Lf cs ys known = append_assoc cs ys []
unbroken_stay rule.Cr cs ys known = append_assoc cs ys []
unbroken_stay rule.Crlf cs ys known = append_assoc cs ys []

-- nothing is read of nothing, and one character of one
pub none_read : (newline : Newlines) → translated newline [] ≡ []
none_read rule.Universal = refl
none_read rule.Passthrough = refl
none_read rule.Lf = refl
none_read rule.Cr = refl
none_read rule.Crlf = refl

one_of : (b : Bool) (c : ℕ) → len (((if b || false then [] else c ∷ []) ++ []) ++ released b) ≡ 1
one_of true c = refl
one_of false c = refl

pub one_read : (newline : Newlines) (c : ℕ) → len (translated newline (c ∷ [])) ≡ 1
one_read rule.Universal c = one_of (nat_eq c cr) c
one_read rule.Passthrough c = refl
one_read rule.Lf c = refl
one_read rule.Cr c = refl
one_read rule.Crlf c = refl
