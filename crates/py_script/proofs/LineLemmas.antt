-- Words of a line, one after the other.
use Rattle.std.proofs.Common.{◌≡◌, ℕ, ◌+◌, ◌<◌, List, [], ◌∷◌, ◌++◌, map, length, get_or, take, refl, sym, ap, ◌∙◌, append_assoc}
use Rattle.std.proofs.lemmas.List.{take_more, map-append}
use Rattle.py_script.specs.Words.{spaced}
use Rattle.py_script.specs.ReplyLine.{hex_of}

-- words after words
pub spaced-append : (words more : List (List ℕ)) → spaced (words ++ more) ≡ spaced words ++ spaced more
spaced-append [] more = refl
spaced-append (word ∷ words) more = ap (λ rest. (32 ∷ word) ++ rest) (spaced-append words more) ∙ sym (append_assoc (32 ∷ word) (spaced words) (spaced more))

-- one more line, as hex
pub hex_lines_more : (front : List ℕ) (lines : List (List ℕ)) (i : ℕ) (line : List ℕ) → i < length lines → line ≡ get_or lines i line → (front ++ spaced (map hex_of (take i lines))) ++ spaced (hex_of line ∷ []) ≡ front ++ spaced (map hex_of (take (i + 1) lines))
hex_lines_more front lines i line within here =
    append_assoc front (spaced (map hex_of (take i lines))) (spaced (hex_of line ∷ []))
    ∙ ap (λ rest. front ++ rest) (sym (spaced-append (map hex_of (take i lines)) (hex_of line ∷ [])))
    ∙ ap (λ words. front ++ spaced words) (sym (map-append hex_of (take i lines) (line ∷ [])))
    ∙ ap (λ some. front ++ spaced (map hex_of some)) (ap (λ last. take i lines ++ last ∷ []) here ∙ sym (take_more lines i line within))
