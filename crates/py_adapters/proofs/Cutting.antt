-- A list that ends with an element, without its last and without the line end that it ends with.
use Rattle.std.proofs.Common.{◌≡◌, ℕ, Bool, true, false, nat_eq, List, [], ◌∷◌, ◌++◌, length, String, refl, sym, ap, ◌∙◌, arith, if◌then◌else◌}
use Rattle.std.specs.Prelude.{◌&&◌, ◌||◌, chars, string_bytes, encode_utf8, encode_utf8_all}
use Rattle.std.specs.declared.alloc.Global.{Global}
use Rattle.std.proofs.lemmas.List.{append-nil}
use Rattle.std.proofs.lemmas.Str.{IsUtf8-string_bytes, chars_from_encodes, encodes-append, encodes-chars}
use Rattle.py_flat.specs.Lines.{Lf, Cr, CrLf, AnyEnd, lf, cr}
use Rattle.py_adapters.specs.Lines.{without_end}
use Rattle.py_adapters.specs.LineSteps.{ends_in, without_last}

onto : (test : Bool) (c : ℕ) (xs ys : List ℕ) → c ∷ (if test then xs else ys) ≡ (if test then c ∷ xs else c ∷ ys)
onto true c xs ys = refl
onto false c xs ys = refl

-- a list that ends with an element
pub chops : (end : ℕ) (front : List ℕ) (last : ℕ) → without_last end (front ++ last ∷ []) ≡ (if nat_eq last end then front else front ++ last ∷ [])
chops end [] last = refl
chops end (c ∷ []) last = onto (nat_eq last end) c [] (last ∷ [])
chops end (c ∷ d ∷ cs) last = ap (λ (left : List ℕ). c ∷ left) (chops end (d ∷ cs) last) ∙ onto (nat_eq last end) c (d ∷ cs) ((d ∷ cs) ++ last ∷ [])

pub ends_with : (end : ℕ) (front : List ℕ) (last : ℕ) → ends_in end (front ++ last ∷ []) ≡ nat_eq last end
ends_with end [] last = refl
ends_with end (c ∷ []) last = refl
ends_with end (c ∷ d ∷ cs) last = ends_with end (d ∷ cs) last

-- what the rules LF and CR cut
pub lf_cut : (cs : List ℕ) → without_last lf cs ≡ without_end Lf cs
lf_cut [] = refl
lf_cut (c ∷ []) = refl
lf_cut (c ∷ d ∷ cs) = ap (λ (left : List ℕ). c ∷ left) (lf_cut (d ∷ cs))

pub cr_cut : (cs : List ℕ) → without_last cr cs ≡ without_end Cr cs
cr_cut [] = refl
cr_cut (c ∷ []) = refl
cr_cut (c ∷ d ∷ cs) = ap (λ (left : List ℕ). c ∷ left) (cr_cut (d ∷ cs))

any_of_one : (c : ℕ) (is_lf : Bool) → without_last cr (if is_lf then [] else c ∷ []) ≡ (if is_lf || nat_eq c cr then [] else c ∷ [])
any_of_one c true = refl
any_of_one c false = refl

any_of_pair : (c d : ℕ) (is_lf is_cr : Bool) → nat_eq c cr ≡ is_cr → without_last cr (c ∷ (if is_lf then [] else d ∷ [])) ≡ (if is_cr && is_lf then [] else c ∷ (if is_lf || nat_eq d cr then [] else d ∷ []))
any_of_pair c d true true is = ap (λ (b : Bool). if b then [] else c ∷ []) is
any_of_pair c d true false is = ap (λ (b : Bool). if b then [] else c ∷ []) is
any_of_pair c d false true is = refl
any_of_pair c d false false is = refl

-- and what that of any line end does
pub any_cut : (cs : List ℕ) → without_last cr (without_last lf cs) ≡ without_end AnyEnd cs
any_cut [] = refl
any_cut (c ∷ []) = any_of_one c (nat_eq c lf)
any_cut (c ∷ d ∷ []) = any_of_pair c d (nat_eq d lf) (nat_eq c cr) refl
any_cut (c ∷ d ∷ e ∷ cs) = ap (λ (left : List ℕ). c ∷ left) (any_cut (d ∷ e ∷ cs))

-- that of CR LF: another end than LF
pub pair_none : (cs : List ℕ) → ends_in lf cs ≡ false → without_last lf cs ≡ without_end CrLf cs
pair_none [] not = refl
pair_none (c ∷ []) not = ap (λ (b : Bool). if b then [] else c ∷ []) not
pair_none (c ∷ d ∷ []) not = grind (arith, not)
pair_none (c ∷ d ∷ e ∷ cs) not = ap (λ (left : List ℕ). c ∷ left) (pair_none (d ∷ e ∷ cs) not)

stays : (end : ℕ) (cs : List ℕ) → ends_in end cs ≡ false → without_last end cs ≡ cs
stays end [] not = refl
stays end (c ∷ []) not = ap (λ (b : Bool). if b then [] else c ∷ []) not
stays end (c ∷ d ∷ cs) not = ap (λ (left : List ℕ). c ∷ left) (stays end (d ∷ cs) not)

-- an LF behind another than a CR
put_back : (cs : List ℕ) → ends_in lf cs ≡ true → ends_in cr (without_last lf cs) ≡ false → without_last lf cs ++ lf ∷ [] ≡ without_end CrLf cs
put_back [] is not = absurd (grind (arith, is))
put_back (c ∷ []) is not = grind (arith, is)
put_back (c ∷ d ∷ []) is not = grind (arith, is, not)
put_back (c ∷ d ∷ e ∷ cs) is not = ap (λ (left : List ℕ). c ∷ left) (put_back (d ∷ e ∷ cs) is not)

pub pair_half : (cs : List ℕ) → ends_in lf cs ≡ true → ends_in cr (without_last lf cs) ≡ false → without_last cr (without_last lf cs) ++ lf ∷ [] ≡ without_end CrLf cs
pair_half cs is not = ap (λ (left : List ℕ). left ++ lf ∷ []) (stays cr (without_last lf cs) not) ∙ put_back cs is not

-- CR LF
pub pair_both : (cs : List ℕ) → ends_in lf cs ≡ true → ends_in cr (without_last lf cs) ≡ true → without_last cr (without_last lf cs) ≡ without_end CrLf cs
pair_both [] is too = absurd (grind (arith, is))
pair_both (c ∷ []) is too = absurd (grind (arith, is, too))
pair_both (c ∷ d ∷ []) is too = grind (arith, is, too)
pair_both (c ∷ d ∷ e ∷ cs) is too = ap (λ (left : List ℕ). c ∷ left) (pair_both (d ∷ e ∷ cs) is too)

-- a text that ends with a character
pub ended : (front whole : String Global) (c : ℕ) → string_bytes whole ≡ string_bytes front ++ encode_utf8 c → chars (string_bytes whole) ≡ chars (string_bytes front) ++ c ∷ []
ended front whole c bytes =
    let old = encodes-chars (string_bytes front) (IsUtf8-string_bytes front) in
    let one = append-nil (encode_utf8 c) in
    let all : encode_utf8_all (chars (string_bytes front) ++ c ∷ []) ≡ string_bytes whole = encodes-append (chars (string_bytes front)) (c ∷ []) ∙ ap (λ t. t ++ encode_utf8_all (c ∷ [])) old ∙ ap (λ t. string_bytes front ++ t) one ∙ sym bytes in
    sym (chars_from_encodes (chars (string_bytes front) ++ c ∷ []) (string_bytes whole) (IsUtf8-string_bytes whole) all)

by_test : (test : Bool) (end : ℕ) (front : List ℕ) (last : ℕ) → nat_eq last end ≡ test → without_last end (front ++ last ∷ []) ≡ (if test then front else front ++ last ∷ [])
by_test test end front last is = chops end front last ∙ ap (λ (b : Bool). if b then front else front ++ last ∷ []) is

-- whether a text ends with a character
pub tells : (end : ℕ) (front whole : String Global) (last : ℕ) → string_bytes whole ≡ string_bytes front ++ encode_utf8 last → ends_in end (chars (string_bytes whole)) ≡ nat_eq last end
tells end front whole last bytes = ap (ends_in end) (ended front whole last bytes) ∙ ends_with end (chars (string_bytes front)) last

-- a text that ends with another character keeps it
pub kept : (end : ℕ) (front whole back : String Global) (last : ℕ) → string_bytes whole ≡ string_bytes front ++ encode_utf8 last → string_bytes back ≡ string_bytes front ++ encode_utf8 last → nat_eq last end ≡ false → chars (string_bytes back) ≡ without_last end (chars (string_bytes whole))
kept end front whole back last bytes again is = ended front back last again ∙ sym (ap (without_last end) (ended front whole last bytes) ∙ by_test false end (chars (string_bytes front)) last is)

-- one that ends with that is cut before it
pub cut : (end : ℕ) (front whole : String Global) (last : ℕ) → string_bytes whole ≡ string_bytes front ++ encode_utf8 last → nat_eq last end ≡ true → chars (string_bytes front) ≡ without_last end (chars (string_bytes whole))
cut end front whole last bytes is = sym (ap (without_last end) (ended front whole last bytes) ∙ by_test true end (chars (string_bytes front)) last is)

no_items : (items : List ℕ) → length items ≡ 0 → items ≡ []
no_items [] is = refl
no_items (x ∷ xs) is = absurd (omega (arith, is))

-- a text of no bytes has no characters
pub no_characters : (text : String Global) → length (string_bytes text) ≡ 0 → [] ≡ chars (string_bytes text)
no_characters text is = chars_from_encodes [] (string_bytes text) (IsUtf8-string_bytes text) (sym (no_items (string_bytes text) is))
