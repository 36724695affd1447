-- The universal rule over a run of a text in which no CR stands, and what stands behind it.
use Rattle.std.proofs.Common.{◌≡◌, ◌≢◌, ℕ, zero, suc, ◌+◌, ◌<◌, Bool, true, false, nat_eq, ◌||◌, if◌then◌else◌, List, [], ◌∷◌, ◌++◌, length, take, drop, get_or, chars, refl, sym, ap, subst, ◌∙◌, arith, append-nil, append_assoc, ◌&&◌}
use Rattle.std.specs.Bool.{⊤}
use Rattle.std.specs.Char.{encode_utf8}
use Rattle.std.specs.Str.{IsUtf8, IsCharBoundary, encode_utf8_all}
use Rattle.std.proofs.lemmas.Bool.{false≢true, eqb-true}
use Rattle.std.proofs.lemmas.List.{take_all, drop_more, take-append-drop}
use Rattle.std.proofs.lemmas.Str.{IsCharBoundary-before_ascii, IsCharBoundary-after_ascii, IsUtf8-take, IsUtf8-drop, chars-append, chars-nil, chars_past_char, encode_ascii, encodes-chars}
use Rattle.memchr.specs.Find.{Nowhere, NoneBefore, Passes, is_byte}
use Rattle.py_flat.specs.Lines.{lf, cr}
use Rattle.py_plain.specs.NewlineRule.{released, universal, ends_held}
use Rattle.py_text.specs.NewlinePieces.{IsCopied}

-- a number isn't in a list
abbrev pub Lacks : ℕ → List ℕ → Type 0
Lacks n [] = ⊤
Lacks n (b ∷ bs) = (nat_eq b n ≡ false) × Lacks n bs

-- a test that isn't true is false
pub not-true : (test : Bool) → test ≢ true → test ≡ false
not-true true isnt = absurd (isnt refl)
not-true false isnt = refl

-- the end of a list lacks what the list lacks
pub lacks-right : (n : ℕ) (xs ys : List ℕ) → Lacks n (xs ++ ys) → Lacks n ys
lacks-right n [] ys lacks = lacks
lacks-right n (x ∷ xs) ys lacks = lacks-right n xs ys lacks.1

-- a search passed some bytes
pub lacks-passed : (n : ℕ) (xs : List ℕ) (count : ℕ) → Nowhere (Passes (is_byte n) xs) 0 count → Lacks n (take count xs)
lacks-passed n xs zero none = tt
lacks-passed n [] (suc count) none = tt
lacks-passed n (x ∷ xs) (suc count) none = (not-true (nat_eq x n) (none 0 (omega arith) (omega arith)), lacks-passed n xs count (λ k low high. none (suc k) (omega arith) (omega arith)))

-- a character whose bytes lack a CR is none
not-cr : (c : ℕ) (rest : List ℕ) → Lacks cr (encode_utf8 c ++ rest) → nat_eq c cr ≡ false
not-cr c rest lacks = not-true (nat_eq c cr) (λ is. false≢true (sym (subst (λ (bs : List ℕ). Lacks cr (bs ++ rest)) (ap encode_utf8 (eqb-true c cr is) ∙ encode_ascii cr (omega arith)) lacks).0))

-- the universal rule changes nothing before the first CR
pub copied : (cs rest : List ℕ) → Lacks cr (encode_utf8_all cs) → (universal false (cs ++ rest) ≡ cs ++ universal false rest) × (ends_held false (cs ++ rest) ≡ ends_held false rest)
copied [] rest lacks = (refl, refl)
copied (c ∷ cs) rest lacks =
    let isnt : nat_eq c cr ≡ false = not-cr c (encode_utf8_all cs) lacks in
    let more = copied cs rest (lacks-right cr (encode_utf8 c) (encode_utf8_all cs) lacks) in (
      ap (λ (b : Bool). (if b || false then [] else c ∷ []) ++ universal b (cs ++ rest)) isnt ∙ ap (λ (t : List ℕ). c ∷ t) more.0,
      ap (λ (b : Bool). ends_held b (cs ++ rest)) isnt ∙ more.1,
    )

-- the first CR of a text stands at a place
pub record IsFirstCr (text : List ℕ) (at : ℕ) : Type 0 where
  pub none : NoneBefore (Passes (is_byte cr) text) 0 (length text) at
  pub here : Passes (is_byte cr) text at

-- a search among the bytes of a text found it
pub first-cr : (bytes text : List ℕ) (at : ℕ) → bytes ≡ text → NoneBefore (Passes (is_byte cr) bytes) 0 (length bytes) at → Passes (is_byte cr) bytes at → IsFirstCr text at
first-cr bytes text at same none here = subst (λ (t : List ℕ). IsFirstCr t at) same (record { none = none; here = here })

-- a text may be cut before a byte of ASCII
pub ascii-boundary : (text : List ℕ) (at n : ℕ) → at < length text → get_or text at 0 ≡ n → n < 128 → IsCharBoundary text at
ascii-boundary text at n inside is low = IsCharBoundary-before_ascii text at inside (subst (λ (b : ℕ). b < 128) (sym is) low)

-- a text that begins with a byte of ASCII begins with its character
pub begins-with : (text left : List ℕ) (n : ℕ) → IsUtf8 text → n < 128 → text ≡ n ∷ left → chars text ≡ n ∷ chars left
begins-with text left n utf8 low is = chars_past_char text left n utf8 (is ∙ ap (λ (bs : List ℕ). bs ++ left) (sym (encode_ascii n low)))

-- a text is cut at its first CR
pub cut-at : (text run left : List ℕ) (at : ℕ) → IsUtf8 text → IsFirstCr text at → run ≡ take at text → left ≡ drop 1 (drop at text) → IsCopied (chars text) (chars run) true (chars left)
cut-at text run left at utf8 first run_is left_is =
    let is : get_or text at 0 ≡ cr = eqb-true (get_or text at 0) cr first.here in
    let boundary : IsCharBoundary text at = ascii-boundary text at cr first.none.high is (omega arith) in
    let run_utf8 : IsUtf8 run = subst IsUtf8 (sym run_is) (IsUtf8-take text at utf8 boundary) in
    let rest : List ℕ = drop at text in
    let more : rest ≡ get_or text at 0 ∷ drop (at + 1) text = drop_more text at 0 first.none.high in
    let behind : rest ≡ cr ∷ left = more ∙ (ap (λ (c : ℕ). c ∷ drop (at + 1) text) is ∙ ap (λ (t : List ℕ). cr ∷ t) (sym (left_is ∙ ap (drop 1) more))) in
    let whole : chars text ≡ chars run ++ (cr ∷ chars left) =
    ap chars (sym (take-append-drop at text) ∙ ap (λ (t : List ℕ). t ++ rest) (sym run_is))
    ∙ (chars-append run rest run_utf8
    ∙ ap (λ (t : List ℕ). chars run ++ t) (begins-with rest left cr (IsUtf8-drop text at utf8 boundary) (omega arith) behind)) in
    let lacks : Lacks cr (encode_utf8_all (chars run)) = subst (Lacks cr) (sym (encodes-chars run run_utf8 ∙ run_is)) (lacks-passed cr text at first.none.before) in
    let same = copied (chars run) (cr ∷ chars left) lacks in
    record { gives = ap (universal false) whole ∙ same.0; holds = ap (ends_held false) whole ∙ same.1 }

-- a text without a CR is copied whole
pub all-copied : (bytes text : List ℕ) → IsUtf8 text → bytes ≡ text → Nowhere (Passes (is_byte cr) bytes) 0 (length bytes) → IsCopied (chars text) (chars text) false (chars [])
all-copied bytes text utf8 are passed =
    let none : Nowhere (Passes (is_byte cr) text) 0 (length text) = subst (λ (t : List ℕ). Nowhere (Passes (is_byte cr) t) 0 (length t)) are passed in
    let lacks : Lacks cr (encode_utf8_all (chars text)) = subst (Lacks cr) (take_all (length text) text (omega arith) ∙ sym (encodes-chars text utf8)) (lacks-passed cr text (length text) none) in
    let whole : chars text ≡ chars text ++ chars [] = sym (ap (λ (t : List ℕ). chars text ++ t) chars-nil ∙ append-nil (chars text)) in
    let same = copied (chars text) (chars []) lacks in
    record { gives = ap (universal false) whole ∙ same.0; holds = ap (ends_held false) whole ∙ same.1 }

-- an LF after a CR is one with it
pub behind-lf : (text left : List ℕ) → IsUtf8 text → text ≡ lf ∷ left → (lf ∷ universal false (chars left) ≡ universal true (chars text)) × (ends_held false (chars left) ≡ ends_held true (chars text))
behind-lf text left utf8 is =
    let same : chars text ≡ lf ∷ chars left = begins-with text left lf utf8 (omega arith) is in
    (ap (universal true) (sym same), ap (ends_held true) (sym same))

-- any other character after a CR stands as after an LF
behind-other : (cs : List ℕ) → encode_utf8_all cs ≢ [] → get_or (encode_utf8_all cs) 0 0 ≢ lf → (lf ∷ universal false cs ≡ universal true cs) × (ends_held false cs ≡ ends_held true cs)
behind-other [] some other = absurd (some refl)
behind-other (c ∷ cs) some other =
    let isnt : nat_eq c lf ≡ false = not-true (nat_eq c lf) (λ is. other (ap (λ (bs : List ℕ). get_or (bs ++ encode_utf8_all cs) 0 0) (ap encode_utf8 (eqb-true c lf is) ∙ encode_ascii lf (omega arith)))) in (
      ap (λ (b : Bool). lf ∷ ((if nat_eq c cr || b then [] else c ∷ []) ++ universal (nat_eq c cr) cs)) (sym isnt),
      refl,
    )

-- a text after a CR that begins with no LF
pub behind-no-lf : (bytes text : List ℕ) → IsUtf8 text → text ≢ [] → bytes ≡ text → get_or bytes 0 0 ≢ lf → (lf ∷ universal false (chars text) ≡ universal true (chars text)) × (ends_held false (chars text) ≡ ends_held true (chars text))
behind-no-lf bytes text utf8 some are other =
    let same : encode_utf8_all (chars text) ≡ text = encodes-chars text utf8 in
    behind-other (chars text) (λ none. some (sym same ∙ none)) (λ is. other (ap (λ (bs : List ℕ). get_or bs 0 0) (are ∙ sym same) ∙ is))

-- what stands from the first CR on may be cut behind it
pub after-cr : (text rest : List ℕ) (at : ℕ) → IsUtf8 text → IsFirstCr text at → rest ≡ drop at text → IsCharBoundary rest 1
after-cr text rest at utf8 first rest_is =
    let is : get_or text at 0 ≡ cr = eqb-true (get_or text at 0) cr first.here in
    let boundary : IsCharBoundary text at = ascii-boundary text at cr first.none.high is (omega arith) in
    let more : drop at text ≡ cr ∷ drop (at + 1) text = drop_more text at 0 first.none.high ∙ ap (λ (c : ℕ). c ∷ drop (at + 1) text) is in
    let behind : rest ≡ cr ∷ drop (at + 1) text = rest_is ∙ more in
    IsCharBoundary-after_ascii rest 0 (subst IsUtf8 (sym rest_is) (IsUtf8-drop text at utf8 boundary)) (subst (λ (t : List ℕ). 0 < length t) (sym behind) (omega arith)) (subst (λ (t : List ℕ). get_or t 0 0 < 128) (sym behind) (omega arith))

-- a list that isn't empty has a first
some-first : (text : List ℕ) → text ≢ [] → 0 < length text
some-first [] some = absurd (some refl)
some-first (c ∷ cs) some = omega arith

-- a text that begins with an LF may be cut behind it
pub lf-cut : (bytes text : List ℕ) → IsUtf8 text → text ≢ [] → bytes ≡ text → get_or bytes 0 0 ≡ lf → IsCharBoundary text 1
lf-cut bytes text utf8 some same here =
    let is : get_or text 0 0 ≡ lf = ap (λ (t : List ℕ). get_or t 0 0) (sym same) ∙ here in
    IsCharBoundary-after_ascii text 0 utf8 (some-first text some) (subst (λ (b : ℕ). b < 128) (sym is) (omega arith))

-- it is the LF and what stands behind it
pub lf-first : (bytes text left : List ℕ) → text ≢ [] → bytes ≡ text → get_or bytes 0 0 ≡ lf → left ≡ drop 1 text → text ≡ lf ∷ left
lf-first bytes text left some same here left_is =
    let is : get_or text 0 0 ≡ lf = ap (λ (t : List ℕ). get_or t 0 0) (sym same) ∙ here in
    drop_more text 0 0 (some-first text some) ∙ (ap (λ (c : ℕ). c ∷ drop 1 text) is ∙ ap (λ (t : List ℕ). lf ∷ t) (sym left_is))

-- an LF is given for a CR that was held
pub given-before : (before after : List ℕ) (held : Bool) (left whole : List ℕ) → held ≡ true → after ≡ before ++ lf ∷ [] → lf ∷ universal false left ≡ universal true whole → after ++ universal false left ≡ before ++ universal held whole
given-before before after held left whole holds is gives =
    ap (λ (t : List ℕ). t ++ universal false left) is
    ∙ (append_assoc before (lf ∷ []) (universal false left)
    ∙ ap (λ (t : List ℕ). before ++ t) (gives ∙ ap (λ (h : Bool). universal h whole) (sym holds)))

-- an LF is given after the last piece for a CR that is held
pub given-last : (before after : List ℕ) (last held : Bool) → last ≡ true → held ≡ true → after ≡ before ++ lf ∷ [] → after ≡ before ++ released (last && held)
given-last before after last held ends holds is =
    is ∙ (ap (λ (h : Bool). before ++ released (true && h)) (sym holds) ∙ ap (λ (l : Bool). before ++ released (l && held)) (sym ends))

-- a run is out, and what stands behind it is left
pub goes-on : (out after run mid left whole : List ℕ) (held : Bool) → after ≡ out ++ run → out ++ universal false mid ≡ whole → IsCopied mid run held left → after ++ universal held left ≡ whole
goes-on out after run mid left whole held is so_far copies =
    ap (λ (t : List ℕ). t ++ universal held left) is
    ∙ (append_assoc out run (universal held left)
    ∙ (ap (λ (t : List ℕ). out ++ t) (sym copies.gives) ∙ so_far))

-- nothing is left, and what is out is all
pub none-left : (out left whole : List ℕ) (held : Bool) → left ≡ [] → out ++ universal held (chars left) ≡ whole → out ≡ whole
none-left out left whole held none is =
    sym (append-nil out) ∙ (ap (λ (t : List ℕ). out ++ universal held t) (sym (ap chars none ∙ chars-nil)) ∙ is)

-- nothing that is left changes whether a CR is held
pub none-held : (left : List ℕ) (held whole : Bool) → left ≡ [] → ends_held held (chars left) ≡ whole → held ≡ whole
none-held left held whole none is = ap (ends_held held) (sym (ap chars none ∙ chars-nil)) ∙ is
