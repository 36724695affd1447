-- A unit of UTF-16 that is a character by itself is what that character is written as.
use Rattle.std.proofs.Common.{◌≡◌, ℕ, ◌+◌, ◌*◌, ◌/◌, ◌%◌, ◌<◌, ◌≤◌, Bool, true, false, nat_lt, List, [], ◌∷◌, length, take, drop, get_or, Some, ap, ◌∙◌, arith}
use Rattle.std.proofs.lemmas.Bool.{cond-true, lt-ltb}
use Rattle.std.proofs.lemmas.List.{drop_more}
use Rattle.py_plain.specs.Utf16.{code_unit}
use Rattle.py_plain.specs.Encode.{own_bytes, unit_bytes, utf16_bytes}
use Rattle.py_blocks.specs.Runs.{utf16}

utf16_bytes-below : (big : Bool) (c : ℕ) → c < 0x10000 → utf16_bytes big c ≡ unit_bytes big c
utf16_bytes-below big c below = cond-true (nat_lt c 0x10000) _ _ (lt-ltb c 0x10000 below)

pub own_unit : (big : Bool) (first second : ℕ) → first < 256 → second < 256 → own_bytes (utf16 big) (code_unit big first second) ≡ Some (first ∷ second ∷ [])
own_unit true first second low high =
    ap (λ (b : List ℕ). Some b) (utf16_bytes-below true (first * 256 + second) (omega arith)
    ∙ ap (λ b. b ∷ (first * 256 + second) % 256 ∷ []) (omega arith)
    ∙ ap (λ b. first ∷ b ∷ []) (omega arith))
own_unit false first second low high =
    ap (λ (b : List ℕ). Some b) (utf16_bytes-below false (second * 256 + first) (omega arith)
    ∙ ap (λ b. b ∷ (second * 256 + first) / 256 ∷ []) (omega arith)
    ∙ ap (λ b. first ∷ b ∷ []) (omega arith))

-- two bytes at a place
pub take-two : (bytes : List ℕ) (at : ℕ) → at + 2 ≤ length bytes → take 2 (drop at bytes) ≡ get_or bytes at 0 ∷ get_or bytes (at + 1) 0 ∷ []
take-two bytes at inside =
    ap (take 2) (drop_more bytes at 0 (omega arith) ∙ ap (λ b. get_or bytes at 0 ∷ b) (drop_more bytes (at + 1) 0 (omega arith)))
