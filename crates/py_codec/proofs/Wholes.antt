-- A text is written whole, or it has no bytes.
use Rattle.std.proofs.Common.{◌≡◌, ℕ, ◌≤◌, ◌==◌, Bool, true, false, List, [], ◌∷◌, ◌++◌, length, MatchBool, None, sym, ap, ◌∙◌, arith}
use Rattle.std.specs.Str.{IsUtf8, chars, encode_utf8_all}
use Rattle.std.proofs.lemmas.Bool.Decides.{nat_tests}
use Rattle.std.proofs.lemmas.List.{append-nil, nil_from_length}
use Rattle.std.proofs.lemmas.Str.{chars-nil, encodes-chars}
use Rattle.py_plain.specs.declared.encoding.Encoding.{Encoding}
use Rattle.py_plain.specs.Encode.{own_bytes, joined_bytes, text_bytes, run_length}
use Rattle.py_plain.proofs.TextBytes.{text_bytes-append}
use Rattle.py_blocks.specs.Writing.{Wrote, Stops}
use Rattle.py_codec.specs.Substituting.{IsAppended}
use Rattle.py_codec.proofs.RunLengths.{run-none}

-- a text that begins with a run has no bytes
text_bytes-run : (encoding : Encoding) (text : List ℕ) → 1 ≤ run_length encoding text → text_bytes encoding text ≡ None
text_bytes-run encoding [] some = absurd (omega arith)
text_bytes-run encoding (c ∷ text) some = ap (λ own. joined_bytes own (text_bytes encoding text)) (run-none (own_bytes encoding c) (run_length encoding text) some)

is_zero-true : (n : ℕ) → true ≡ (n == 0) → n ≡ 0
is_zero-true n is = grind (arith, nat_tests)

is_zero-false : (n : ℕ) → false ≡ (n == 0) → 1 ≤ n
is_zero-false n is = grind (arith, nat_tests)

-- what is left where the writing stopped is a run, unless it is empty
left_run : (encoding : Encoding) (left : List ℕ) → IsUtf8 left → Stops encoding (chars left) → 1 ≤ length left → 1 ≤ run_length encoding (chars left)
left_run encoding left utf8 stops some =
    let ended : run_length encoding (chars left) ≡ 0 → ⊥ = λ none. omega (arith, ap length (sym (encodes-chars left utf8) ∙ ap encode_utf8_all (stops none))) in
    omega (arith, ended)

-- the bytes of a text were appended, if nothing is left; or it has none
pub whole_or_none : {encoding : Encoding} {text before after left : List ℕ} {count : ℕ} (whole : Bool) → IsUtf8 left → Stops encoding (chars left) → whole ≡ (length left == 0) → Wrote encoding text before after count (chars left) → MatchBool whole (IsAppended (text_bytes encoding text) before after) (text_bytes encoding text ≡ None)
whole_or_none {encoding} {left = left} true utf8 stops is wrote =
    let none : chars left ≡ [] = ap chars (nil_from_length left (is_zero-true (length left) is)) ∙ chars-nil in
    record {
      written = wrote.written;
      is = ap (λ cs. text_bytes encoding cs) (wrote.split ∙ ap (λ cs. wrote.front ++ cs) none ∙ append-nil wrote.front) ∙ wrote.own;
      appended = wrote.appended;
    }
whole_or_none {encoding} {left = left} false utf8 stops is wrote =
    let lacks = text_bytes-run encoding (chars left) (left_run encoding left utf8 stops (is_zero-false (length left) is)) in
    ap (λ cs. text_bytes encoding cs) wrote.split
    ∙ text_bytes-append encoding wrote.front (chars left)
    ∙ ap (λ more. joined_bytes (text_bytes encoding wrote.front) more) lacks
    ∙ ap (λ own. joined_bytes own None) wrote.own
