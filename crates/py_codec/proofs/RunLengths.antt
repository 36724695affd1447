-- How long the run is that a text begins with.
use Rattle.std.proofs.Common.{◌≡◌, ℕ, suc, ◌+◌, ◌≤◌, true, false, List, [], ◌∷◌, length, Option, Some, None, is_some, refl, sym, ap, ◌∙◌, arith}
use Rattle.py_plain.specs.declared.encoding.Encoding.{Encoding}
use Rattle.py_plain.specs.Encode.{own_bytes, suc_unless, run_length}

suc_unless-none : (own : Option (List ℕ)) (count : ℕ) → is_some own ≡ false → suc_unless own count ≡ suc count
suc_unless-none None count none = refl
suc_unless-none (Some bytes) count none = absurd (cc)

suc_unless-some : (own : Option (List ℕ)) (count : ℕ) → is_some own ≡ true → suc_unless own count ≡ 0
suc_unless-some None count some = absurd (cc)
suc_unless-some (Some bytes) count some = refl

suc_unless-within : (own : Option (List ℕ)) (count : ℕ) → suc_unless own count ≤ suc count
suc_unless-within None count = omega arith
suc_unless-within (Some bytes) count = omega arith

-- a character without bytes makes the run behind it one longer
pub run_length-next : (encoding : Encoding) (c : ℕ) (left behind : List ℕ) → left ≡ c ∷ behind → false ≡ is_some (own_bytes encoding c) → run_length encoding left ≡ run_length encoding behind + 1
run_length-next encoding c left behind is none = ap (run_length encoding) is ∙ suc_unless-none (own_bytes encoding c) (run_length encoding behind) (sym none) ∙ omega arith

-- where the first character has bytes, no run begins
pub run_length-ends : (encoding : Encoding) (c : ℕ) (left behind : List ℕ) → left ≡ c ∷ behind → true ≡ is_some (own_bytes encoding c) → run_length encoding left ≡ 0
run_length-ends encoding c left behind is some = ap (run_length encoding) is ∙ suc_unless-some (own_bytes encoding c) (run_length encoding behind) (sym some)

-- the run that a text begins with is no longer than the text
pub run_length-within : (encoding : Encoding) (text : List ℕ) → run_length encoding text ≤ length text
run_length-within encoding [] = omega arith
run_length-within encoding (c ∷ text) = omega (arith, suc_unless-within (own_bytes encoding c) (run_length encoding text), run_length-within encoding text)

-- a character that a run begins with has no bytes
pub run-none : (own : Option (List ℕ)) (count : ℕ) → 1 ≤ suc_unless own count → own ≡ None
run-none None count some = refl
run-none (Some bytes) count some = absurd (omega arith)
