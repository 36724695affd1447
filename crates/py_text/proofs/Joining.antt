-- The newline rule over pieces, one after another.
use Rattle.std.proofs.Common.{◌≡◌, ℕ, Bool, true, false, List, [], ◌∷◌, ◌++◌, refl, sym, ap, ◌∙◌, append_assoc, append-nil}
use Rattle.py_flat.specs.Lines.{joined}
use Rattle.py_plain.specs.declared.newlines.Newlines.{Newlines}
use Rattle.py_plain.specs.declared.newlines.Newlines.TheVariants as rule
use Rattle.py_plain.specs.NewlineRule.{released, read_so_far, holds_after, translated}
use Rattle.py_plain.proofs.LineEnds.{held_behind}
use Rattle.py_plain_text.proofs.Translated.{universal_both}
use Rattle.py_text.specs.NewlinePieces.{NewlineView, fresh, text_with, after_piece, after_pieces, texts_of}

-- what any rule gives of characters in two parts
pub read-both : (newline : Newlines) (held : Bool) (xs ys : List ℕ) → read_so_far newline held (xs ++ ys) ≡ read_so_far newline held xs ++ read_so_far newline (holds_after newline held xs) ys
read-both rule.Universal held xs ys = universal_both held xs ys
read-both rule.Passthrough held xs ys = refl
read-both rule.Lf held xs ys = refl
read-both rule.Cr held xs ys = refl
read-both rule.Crlf held xs ys = refl

-- whether any rule holds a CR after characters in two parts
pub holds-both : (newline : Newlines) (held : Bool) (xs ys : List ℕ) → holds_after newline held (xs ++ ys) ≡ holds_after newline (holds_after newline held xs) ys
holds-both rule.Universal held xs ys = held_behind held xs ys
holds-both rule.Passthrough held xs ys = refl
holds-both rule.Lf held xs ys = refl
holds-both rule.Cr held xs ys = refl
holds-both rule.Crlf held xs ys = refl

-- no characters give none
pub read-none : (newline : Newlines) (held : Bool) → read_so_far newline held [] ≡ []
read-none rule.Universal held = refl
read-none rule.Passthrough held = refl
read-none rule.Lf held = refl
read-none rule.Cr held = refl
read-none rule.Crlf held = refl

-- what stands after some pieces has their rule
pub same-rule : (view : NewlineView) (pieces : List (List ℕ)) → (after_pieces view pieces).newline ≡ view.newline
same-rule view [] = refl
same-rule view (piece ∷ pieces) = same-rule (after_piece view false piece) pieces

-- the texts of some pieces are what the rule gives of the pieces joined
pub texts-joined : (view : NewlineView) (pieces : List (List ℕ)) → texts_of view pieces ≡ read_so_far view.newline view.held (joined pieces)
texts-joined view [] = sym (read-none view.newline view.held)
texts-joined view (piece ∷ pieces) =
    ap (λ (t : List ℕ). t ++ texts_of (after_piece view false piece) pieces) (append-nil (read_so_far view.newline view.held piece))
    ∙ (ap (λ (t : List ℕ). read_so_far view.newline view.held piece ++ t) (texts-joined (after_piece view false piece) pieces)
    ∙ sym (read-both view.newline view.held piece (joined pieces)))

-- nothing is held at first
pub holds-none : (newline : Newlines) → holds_after newline false [] ≡ false
holds-none rule.Universal = refl
holds-none rule.Passthrough = refl
holds-none rule.Lf = refl
holds-none rule.Cr = refl
holds-none rule.Crlf = refl

-- a CR is held after some pieces exactly where it is after them joined
pub holds-joined : (newline : Newlines) (held : Bool) (pieces : List (List ℕ)) → holds_after newline held [] ≡ held → (after_pieces (record { newline = newline; held = held }) pieces).held ≡ holds_after newline held (joined pieces)
holds-joined newline held [] kept = sym kept
holds-joined newline held (piece ∷ pieces) kept =
    holds-joined newline (holds_after newline held piece) pieces (sym (holds-both newline held piece []) ∙ ap (holds_after newline held) (append-nil piece))
    ∙ sym (holds-both newline held piece (joined pieces))

-- a rule, and whether it holds a CR
abbrev with-rule : Newlines → Bool → NewlineView
with-rule newline held = record { newline = newline; held = held }

-- what stands after some pieces
view-is : (newline : Newlines) (pieces : List (List ℕ)) → after_pieces (fresh newline) pieces ≡ record { newline = newline; held = holds_after newline false (joined pieces) }
view-is newline pieces =
    ap (λ (n : Newlines). with-rule n (after_pieces (fresh newline) pieces).held) (same-rule (fresh newline) pieces)
    ∙ ap (with-rule newline) (holds-joined newline false pieces (holds-none newline))

-- a piece's text, and a last one's, are those of the rule after what was held
pub joined-whole : (newline : Newlines) (pieces : List (List ℕ)) (final : List ℕ) → texts_of (fresh newline) pieces ++ text_with (after_pieces (fresh newline) pieces) true final ≡ translated newline (joined pieces ++ final)
joined-whole newline pieces final =
    let view : NewlineView = after_pieces (fresh newline) pieces in
    let now : Bool = holds_after newline false (joined pieces) in
    let is : view ≡ record { newline = newline; held = now } = view-is newline pieces in
    ap (λ (v : NewlineView). texts_of (fresh newline) pieces ++ text_with v true final) is
    ∙ (ap (λ (t : List ℕ). t ++ (read_so_far newline now final ++ released (holds_after newline now final))) (texts-joined (fresh newline) pieces)
    ∙ (sym (append_assoc (read_so_far newline false (joined pieces)) (read_so_far newline now final) (released (holds_after newline now final)))
    ∙ (ap (λ (t : List ℕ). t ++ released (holds_after newline now final)) (sym (read-both newline false (joined pieces) final))
    ∙ ap (λ (h : Bool). read_so_far newline false (joined pieces ++ final) ++ released h) (sym (holds-both newline false (joined pieces) final)))))

-- after a last piece a rule has read nothing
pub ends-fresh : (newline : Newlines) (pieces : List (List ℕ)) (final : List ℕ) → after_piece (after_pieces (fresh newline) pieces) true final ≡ fresh newline
ends-fresh newline pieces final = ap (λ (n : Newlines). with-rule n false) (same-rule (fresh newline) pieces)
