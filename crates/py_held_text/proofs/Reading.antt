-- What the newline rule gives of characters in two parts, how many those are, and how many bytes they have.
use Rattle.std.proofs.Common.{◌≡◌, ℕ, ◌+◌, ◌≤◌, Bool, true, false, nat_eq, ◌&&◌, ◌||◌, if◌then◌else◌, List, [], ◌∷◌, ◌++◌, length, encode_utf8_all, refl, sym, ap, ◌∙◌, arith, append_assoc, append-nil, eqb-true}
use Rattle.std.specs.Char.{encode_utf8}
use Rattle.std.proofs.lemmas.List.{length-append}
use Rattle.std.proofs.lemmas.Str.{encode_ascii}
use Rattle.py_flat.specs.Lines.{lf, cr}
use Rattle.py_plain.specs.declared.newlines.Newlines.{Newlines}
use Rattle.py_plain.specs.declared.newlines.Newlines.TheVariants as rule
use Rattle.py_plain.specs.NewlineRule.{released, passes, universal, ends_held, read_so_far, holds_after, read_all}
use Rattle.py_text.proofs.Joining.{read-both, holds-both}
use Rattle.py_held_text.proofs.Parts.{spelled-both}

-- the first part while more may come, and then the last
pub all-both : (newline : Newlines) (held : Bool) (xs ys : List ℕ) → read_all newline held (xs ++ ys) ≡ read_so_far newline held xs ++ read_all newline (holds_after newline held xs) ys
all-both newline held xs ys =
    let behind : Bool = holds_after newline held xs in
    ap (λ (t : List ℕ). t ++ released (holds_after newline held (xs ++ ys))) (read-both newline held xs ys)
    ∙ (ap (λ (b : Bool). (read_so_far newline held xs ++ read_so_far newline behind ys) ++ released b) (holds-both newline held xs ys)
    ∙ append_assoc (read_so_far newline held xs) (read_so_far newline behind ys) (released (holds_after newline behind ys)))

-- a CR is held behind characters as a rule holds one
pub holds-still : (newline : Newlines) (held : Bool) (cs : List ℕ) → holds_after newline (holds_after newline held cs) [] ≡ holds_after newline held cs
holds-still newline held cs = sym (holds-both newline held cs []) ∙ ap (holds_after newline held) (append-nil cs)

-- How many characters.

abbrev pub one-if : Bool → ℕ
one-if b = if b then 1 else 0

pub released-length : (held : Bool) → length (released held) ≡ one-if held
released-length true = refl
released-length false = refl

pass-few : (b other : Bool) (c : ℕ) → length (if b || other then [] else c ∷ []) + one-if b ≤ 1
pass-few true other c = omega arith
pass-few false true c = omega arith
pass-few false false c = omega arith

universal-few : (held : Bool) (cs : List ℕ) → length (universal held cs) + one-if (ends_held held cs) ≤ one-if held + length cs
universal-few held [] = omega arith
universal-few held (c ∷ cs) =
    let behind : List ℕ = universal (nat_eq c cr) cs in
    omega (arith, universal-few (nat_eq c cr) cs, released-length held, pass-few (nat_eq c cr) (held && nat_eq c lf) c, length-append (released held) (passes held c ++ behind), length-append (passes held c) behind)

-- a rule gives no more characters than there are, with the CR that is held before them and the one behind
pub read-few : (newline : Newlines) (held : Bool) (cs : List ℕ) → length (read_so_far newline held cs) + one-if (holds_after newline held cs) ≤ one-if held + length cs
read-few rule.Universal held cs = universal-few held cs
read-few rule.Passthrough held cs = omega arith
read-few rule.Lf held cs = omega arith
read-few rule.Cr held cs = omega arith
read-few rule.Crlf held cs = omega arith

-- How many bytes.

abbrev spelled : List ℕ → ℕ
spelled cs = length (encode_utf8_all cs)

released-spelled : (held : Bool) → spelled (released held) ≡ one-if held
released-spelled true = ap (λ (t : List ℕ). length (t ++ [])) (encode_ascii lf (omega arith))
released-spelled false = refl

one-byte : (c n : ℕ) → nat_eq c n ≡ true → n ≤ 127 → length (encode_utf8 c) ≡ 1
one-byte c n is low = ap (λ (k : ℕ). length (encode_utf8 k)) (eqb-true c n is) ∙ ap (λ (t : List ℕ). length t) (encode_ascii n (omega (arith, low)))

pass-spelled : (c : ℕ) (a held b : Bool) → nat_eq c cr ≡ a → nat_eq c lf ≡ b → spelled (if a || (held && b) then [] else c ∷ []) + 1 ≡ length (encode_utf8 c) + length (if a || (held && b) then [] else c ∷ [])
pass-spelled c true held b is_cr is_lf = omega (arith, one-byte c cr is_cr (omega arith))
pass-spelled c false true true is_cr is_lf = omega (arith, one-byte c lf is_lf (omega arith))
pass-spelled c false true false is_cr is_lf = ap (λ (t : List ℕ). length t + 1) (append-nil (encode_utf8 c))
pass-spelled c false false b is_cr is_lf = ap (λ (t : List ℕ). length t + 1) (append-nil (encode_utf8 c))

-- the universal rule takes as many bytes away as characters: those of line ends, which have one byte each
pub universal-spelled : (held : Bool) (cs : List ℕ) → spelled (universal held cs) + length cs ≡ spelled cs + length (universal held cs)
universal-spelled held [] = refl
universal-spelled held (c ∷ cs) =
    let behind : List ℕ = universal (nat_eq c cr) cs in
    let rest : List ℕ = passes held c ++ behind in
    omega (arith, universal-spelled (nat_eq c cr) cs, released-length held, released-spelled held, pass-spelled c (nat_eq c cr) held (nat_eq c lf) refl refl, length-append (released held) rest, length-append (passes held c) behind, spelled-both (released held) rest, spelled-both (passes held c) behind, length-append (encode_utf8 c) (encode_utf8_all cs))
