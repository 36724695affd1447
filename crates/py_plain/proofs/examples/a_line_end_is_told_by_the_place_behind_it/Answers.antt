use Rattle.std.proofs.Common.{◌≡◌, ℕ, ◌-◌, [], ◌∷◌, ◌++◌, length, Ok, Err, encode_utf8_all, ap, arith}
use Rattle.std.specs.Char.{encode_utf8}
use Rattle.std.proofs.lemmas.List.{length-append}
use Rattle.std.proofs.lemmas.Str.{length-encode}
use Rattle.py_plain.proofs.examples.a_line_end_is_told_by_the_place_behind_it.Goals as goal

-- the euro sign has three bytes, and a character of ASCII one
euro : length (encode_utf8 0x20AC) ≡ 3
euro = length-encode 0x20AC

with_one : (c : ℕ) → length (encode_utf8 c) ≡ 1 → length (encode_utf8_all (0x20AC ∷ c ∷ [])) ≡ 4
with_one c one = omega (arith, euro, one, length-append (encode_utf8 0x20AC) (encode_utf8 c ++ []), length-append (encode_utf8 c) [])

pub returns-clause-in_bytes : goal.returns-clause-in_bytes
returns-clause-in_bytes c = ap (λ (n : ℕ). Ok n) (with_one 10 (length-encode 10))

pub returns-clause-nowhere : goal.returns-clause-nowhere
returns-clause-nowhere c = ap (λ (n : ℕ). Err (n - 0)) (with_one 13 (length-encode 13))

pub returns-clause-nowhere_but_a_cr : goal.returns-clause-nowhere_but_a_cr
returns-clause-nowhere_but_a_cr c = ap (λ (n : ℕ). Err (n - 1)) (with_one 13 (length-encode 13))
