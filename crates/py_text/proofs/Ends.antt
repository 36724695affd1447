-- Whether a text has a line end, by its bytes.
use Rattle.std.proofs.Common.{◌≡◌, ℕ, suc, ◌+◌, ◌≤◌, ◌/◌, Bool, true, false, nat_eq, ltb, cond, ◌||◌, List, [], ◌∷◌, length, chars, Option, Some, None, is_some, refl, sym, ap, ◌∙◌, arith}
use lib.Utf8.{encode, next}
use Rattle.std.specs.List.{list_any}
use Rattle.std.specs.Str.{IsUtf8, encode_utf8_all}
use Rattle.std.proofs.lemmas.Bool.Decides.{nat_tests}
use Rattle.std.proofs.lemmas.List.Folds.{list_any-append, list_any_at}
use Rattle.std.proofs.lemmas.Str.{encodes-chars}
use Rattle.memchr.specs.Find.{Nowhere, Passes, is_byte2, IsFirstByte}
use Rattle.py_flat.specs.Lines.{lf, cr}
use Rattle.py_text.proofs.Copying.{not-true}

-- an LF or a CR
abbrev pub ends : ℕ → Bool
ends c = nat_eq c lf || nat_eq c cr

ends-high : (b : ℕ) → 128 ≤ b → ends b ≡ false
ends-high b above = grind (arith, nat_tests)

or-none : (a : Bool) → (a || false) ≡ a
or-none true = refl
or-none false = refl

-- a list whose first number is no line end
first-high : (b : ℕ) (bytes : List ℕ) → 128 ≤ b → list_any ends bytes ≡ false → list_any ends (b ∷ bytes) ≡ false
first-high b bytes above none = ap (λ (t : Bool). t || list_any ends bytes) (ends-high b above) ∙ none

next-high : (c : ℕ) → 128 ≤ next c
next-high c = omega arith

encode-cases : (c : ℕ) (one two three : Bool) → ltb c 128 ≡ one → list_any ends (cond one (c ∷ []) (cond two ((192 + c / 64) ∷ next c ∷ []) (cond three ((224 + c / 4096) ∷ next (c / 64) ∷ next c ∷ []) ((240 + c / 262144) ∷ next (c / 4096) ∷ next (c / 64) ∷ next c ∷ [])))) ≡ ends c
encode-cases c true two three is = or-none (ends c)
encode-cases c false true three is =
    first-high (192 + c / 64) (next c ∷ []) (omega arith) (first-high (next c) [] (next-high c) refl)
    ∙ sym (ends-high c (grind (arith, nat_tests)))
encode-cases c false false true is =
    first-high (224 + c / 4096) (next (c / 64) ∷ next c ∷ []) (omega arith) (first-high (next (c / 64)) (next c ∷ []) (next-high (c / 64)) (first-high (next c) [] (next-high c) refl))
    ∙ sym (ends-high c (grind (arith, nat_tests)))
encode-cases c false false false is =
    first-high (240 + c / 262144) (next (c / 4096) ∷ next (c / 64) ∷ next c ∷ []) (omega arith) (first-high (next (c / 4096)) (next (c / 64) ∷ next c ∷ []) (next-high (c / 4096)) (first-high (next (c / 64)) (next c ∷ []) (next-high (c / 64)) (first-high (next c) [] (next-high c) refl)))
    ∙ sym (ends-high c (grind (arith, nat_tests)))

encode-ends : (c : ℕ) → list_any ends (encode c) ≡ ends c
unfolding encode
encode-ends c = encode-cases c (ltb c 128) (ltb c 2048) (ltb c 65536) refl

-- the bytes of characters have a line end where the characters do
encodes-ends : (cs : List ℕ) → list_any ends (encode_utf8_all cs) ≡ list_any ends cs
encodes-ends [] = refl
encodes-ends (c ∷ cs) =
    list_any-append ends (encode c) (encode_utf8_all cs)
    ∙ (ap (λ (t : Bool). t || list_any ends (encode_utf8_all cs)) (encode-ends c)
    ∙ ap (λ (t : Bool). ends c || t) (encodes-ends cs))

text-ends : (text : List ℕ) → IsUtf8 text → list_any ends text ≡ list_any ends (chars text)
text-ends text utf8 = ap (list_any ends) (sym (encodes-chars text utf8)) ∙ encodes-ends (chars text)

-- a search that found nothing
none-any : (bytes : List ℕ) → Nowhere (Passes (is_byte2 lf cr) bytes) 0 (length bytes) → list_any ends bytes ≡ false
none-any [] none = refl
none-any (b ∷ bytes) none =
    ap (λ (t : Bool). t || list_any ends bytes) (not-true (ends b) (none 0 (omega arith) (omega arith)))
    ∙ none-any bytes (λ k low high. none (suc k) (omega arith) (omega arith))

searched : (bytes : List ℕ) (found : Option ℕ) → IsFirstByte (is_byte2 lf cr) bytes found → is_some found ≡ list_any ends bytes
searched bytes None none = sym (none-any bytes none)
searched bytes (Some at) first = sym (list_any_at ends bytes at 0 first.0.high first.1)

-- a search among the bytes of a text
pub has-end : (bytes text : List ℕ) (found : Option ℕ) → IsUtf8 text → bytes ≡ text → IsFirstByte (is_byte2 lf cr) bytes found → is_some found ≡ list_any ends (chars text)
has-end bytes text found utf8 are first = searched bytes found first ∙ (ap (list_any ends) are ∙ text-ends text utf8)
