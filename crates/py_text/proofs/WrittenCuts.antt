-- A text that is cut at its first LF, and whether a text has a line end.
use Rattle.std.proofs.Common.{◌≡◌, ℕ, ◌+◌, Bool, true, false, nat_eq, ◌||◌, List, [], ◌∷◌, ◌++◌, length, take, drop, get_or, chars, refl, sym, ap, subst, ◌∙◌, arith, append-nil}
use Rattle.std.specs.Char.{encode_utf8}
use Rattle.std.specs.List.{list_any}
use Rattle.std.specs.Str.{IsUtf8, IsCharBoundary, encode_utf8_all}
use Rattle.std.proofs.lemmas.Bool.{false≢true, eqb-true}
use Rattle.std.proofs.lemmas.List.{take_all, drop_more, take-append-drop}
use Rattle.std.proofs.lemmas.Str.{IsCharBoundary-after_ascii, IsUtf8-take, IsUtf8-drop, chars-append, encode_ascii, encodes-chars}
use Rattle.memchr.specs.Find.{Nowhere, NoneBefore, Passes, is_byte}
use Rattle.py_flat.specs.Lines.{lf}
use Rattle.py_text.proofs.Copying.{Lacks, not-true, lacks-right, lacks-passed, ascii-boundary, begins-with}
use Rattle.py_text.specs.WrittenCuts.{IsCutAtLf}

-- a character whose bytes lack an LF is none
not-lf : (c : ℕ) (rest : List ℕ) → Lacks lf (encode_utf8 c ++ rest) → nat_eq c lf ≡ false
not-lf c rest lacks = not-true (nat_eq c lf) (λ is. false≢true (sym (subst (λ (bs : List ℕ). Lacks lf (bs ++ rest)) (ap encode_utf8 (eqb-true c lf is) ∙ encode_ascii lf (omega arith)) lacks).0))

-- characters whose bytes lack an LF have none
none-plain : (cs : List ℕ) → Lacks lf (encode_utf8_all cs) → list_any (λ c. nat_eq c lf) cs ≡ false
none-plain [] lacks = refl
none-plain (c ∷ cs) lacks =
    ap (λ (b : Bool). b || list_any (λ c. nat_eq c lf) cs) (not-lf c (encode_utf8_all cs) lacks)
    ∙ none-plain cs (lacks-right lf (encode_utf8 c) (encode_utf8_all cs) lacks)

-- the first LF of a text stands at a place
pub record IsFirstLf (text : List ℕ) (at : ℕ) : Type 0 where
  pub none : NoneBefore (Passes (is_byte lf) text) 0 (length text) at
  pub here : Passes (is_byte lf) text at

-- a search among the bytes of a text found it
pub first-lf : (bytes text : List ℕ) (at : ℕ) → bytes ≡ text → NoneBefore (Passes (is_byte lf) bytes) 0 (length bytes) at → Passes (is_byte lf) bytes at → IsFirstLf text at
first-lf bytes text at same none here = subst (λ (t : List ℕ). IsFirstLf t at) same (record { none = none; here = here })

-- what is known of a text at its first LF
record IsSplit (text run left : List ℕ) : Type 0 where
  run_utf8 : IsUtf8 run
  rest_utf8 : IsUtf8 (lf ∷ left)
  bytes : text ≡ run ++ lf ∷ left

split-at : (text : List ℕ) (at : ℕ) → IsUtf8 text → IsFirstLf text at → IsSplit text (take at text) (drop (at + 1) text)
split-at text at utf8 first =
    let is : get_or text at 0 ≡ lf = eqb-true (get_or text at 0) lf first.here in
    let boundary : IsCharBoundary text at = ascii-boundary text at lf first.none.high is (omega arith) in
    let more : drop at text ≡ lf ∷ drop (at + 1) text = drop_more text at 0 first.none.high ∙ ap (λ (c : ℕ). c ∷ drop (at + 1) text) is in
    record {
      run_utf8 = IsUtf8-take text at utf8 boundary;
      rest_utf8 = subst IsUtf8 more (IsUtf8-drop text at utf8 boundary);
      bytes = sym (take-append-drop at text) ∙ ap (λ (t : List ℕ). take at text ++ t) more;
    }

-- a text is cut at its first LF
pub cut-at : (text run rest left : List ℕ) (at : ℕ) → IsUtf8 text → IsFirstLf text at → run ≡ take at text → rest ≡ drop at text → left ≡ drop 1 rest → IsCutAtLf (chars text) (chars run) true (chars left)
cut-at text run rest left at utf8 first run_is rest_is left_is =
    let parts = split-at text at utf8 first in
    let is : get_or text at 0 ≡ lf = eqb-true (get_or text at 0) lf first.here in
    let more : drop at text ≡ lf ∷ drop (at + 1) text = drop_more text at 0 first.none.high ∙ ap (λ (c : ℕ). c ∷ drop (at + 1) text) is in
    let left_at : left ≡ drop (at + 1) text = left_is ∙ ap (drop 1) (rest_is ∙ more) in
    let run_utf8 : IsUtf8 run = subst IsUtf8 (sym run_is) parts.run_utf8 in
    let lacks : Lacks lf (encode_utf8_all (chars run)) = subst (Lacks lf) (sym (encodes-chars run run_utf8 ∙ run_is)) (lacks-passed lf text at first.none.before) in
    record {
      whole = ap chars (parts.bytes ∙ ap (λ (t : List ℕ). t ++ (lf ∷ drop (at + 1) text)) (sym run_is))
          ∙ (chars-append run (lf ∷ drop (at + 1) text) run_utf8
          ∙ (ap (λ (t : List ℕ). chars run ++ t) (begins-with (lf ∷ drop (at + 1) text) (drop (at + 1) text) lf parts.rest_utf8 (omega arith) refl)
          ∙ ap (λ (t : List ℕ). chars run ++ (lf ∷ chars t)) (sym left_at)));
      plain = none-plain (chars run) lacks;
    }

-- what stands from the first LF on may be cut behind it
pub after-lf : (text rest : List ℕ) (at : ℕ) → IsUtf8 text → IsFirstLf text at → rest ≡ drop at text → IsCharBoundary rest 1
after-lf text rest at utf8 first rest_is =
    let parts = split-at text at utf8 first in
    let is : get_or text at 0 ≡ lf = eqb-true (get_or text at 0) lf first.here in
    let more : rest ≡ lf ∷ drop (at + 1) text = rest_is ∙ (drop_more text at 0 first.none.high ∙ ap (λ (c : ℕ). c ∷ drop (at + 1) text) is) in
    subst (λ (t : List ℕ). IsCharBoundary t 1) (sym more) (IsCharBoundary-after_ascii (lf ∷ drop (at + 1) text) 0 parts.rest_utf8 (omega arith) (omega arith))

-- a text without an LF stays whole
pub all-plain : (bytes text : List ℕ) → IsUtf8 text → bytes ≡ text → Nowhere (Passes (is_byte lf) bytes) 0 (length bytes) → IsCutAtLf (chars text) (chars text) false (chars [])
all-plain bytes text utf8 are passed =
    let none : Nowhere (Passes (is_byte lf) text) 0 (length text) = subst (λ (t : List ℕ). Nowhere (Passes (is_byte lf) t) 0 (length t)) are passed in
    let lacks : Lacks lf (encode_utf8_all (chars text)) = subst (Lacks lf) (take_all (length text) text (omega arith) ∙ sym (encodes-chars text utf8)) (lacks-passed lf text (length text) none) in
    record { whole = sym (append-nil (chars text)); plain = none-plain (chars text) lacks }
