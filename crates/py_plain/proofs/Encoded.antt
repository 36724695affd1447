-- A sequence that spells a character and the bytes of that character are the same.
use Rattle.std.proofs.Common.{◌≡◌, ℕ, zero, suc, ◌+◌, ◌-◌, ◌*◌, ◌/◌, ◌%◌, ◌<◌, ◌≤◌, List, [], ◌∷◌, ◌++◌, take, refl, sym, ap, ◌∙◌, arith}
use Rattle.std.specs.Char.{encode_utf8}
use Rattle.std.proofs.lemmas.Bool.{cond-true, cond-false, cond_both, lt-ltb, le-ltb}
use Rattle.py_plain.specs.declared.unit.Unit.TheVariants.{Character, Malformed}
use Rattle.py_plain.specs.Utf8.{is_within, sequence}
use Rattle.py_plain.specs.Spelling.{least, greatest}
use Rattle.py_plain.proofs.Rows.{is_within-in, is_within-true}
use Rattle.py_plain.proofs.Spells.{least-grows, greatest-grows}

-- what a continuation byte for six bits of a character is
abbrev pub continuing : ℕ → ℕ
continuing bits = 128 + bits % 64

-- a character without its last six bits, n times
abbrev pub upper : ℕ → ℕ → ℕ
upper zero c = c
upper (suc count) c = upper count c / 64

-- the last n bytes of a character
abbrev pub tail : ℕ → ℕ → List ℕ
tail zero c = []
tail (suc count) c = continuing (upper count c) ∷ tail count c

-- what a sequence that became a character says of it
pub record IsSpelled (follow low high bits : ℕ) (rest : List ℕ) (c : ℕ) : Type 0 where
  pub from : least follow low bits ≤ c
  pub to : c ≤ greatest follow high bits
  pub bits_are : upper follow c ≡ bits
  pub rest_is : take follow rest ≡ tail follow c

IsSpelled-next : (follow low high bits byte : ℕ) (rest : List ℕ) (c : ℕ) → 0x80 ≤ low → high ≤ 0xBF → low ≤ byte → byte ≤ high → IsSpelled follow 0x80 0xBF (bits * 64 + (byte - 0x80)) rest c → IsSpelled (suc follow) low high bits (byte ∷ rest) c
IsSpelled-next follow low high bits byte rest c continues ends from to spelled =
    let down = least-grows follow 0x80 (bits * 64 + (low - 0x80)) (bits * 64 + (byte - 0x80)) (omega arith) in
    let up = greatest-grows follow 0xBF (bits * 64 + (byte - 0x80)) (bits * 64 + (high - 0x80)) (omega arith) in
    let first : byte ≡ continuing (upper follow c) = omega (arith, spelled.bits_are) in
    record {
      from = omega (arith, spelled.from);
      to = omega (arith, spelled.to);
      bits_are = omega (arith, spelled.bits_are);
      rest_is = ap (λ b. b ∷ take follow rest) first ∙ ap (λ bs. continuing (upper follow c) ∷ bs) spelled.rest_is;
    }

-- a sequence that became a character
pub spelled : (length follow low high bits : ℕ) (rest : List ℕ) (c n : ℕ) → 0x80 ≤ low → high ≤ 0xBF → sequence length follow low high bits rest ≡ Character c n → IsSpelled follow low high bits rest c × (n ≡ length + follow)
spelled length zero low high bits rest c n continues ends is =
    let same : bits ≡ c = cc in
    let all : length ≡ n = cc in
    (record { from = omega arith; to = omega arith; bits_are = sym same; rest_is = refl }, omega arith)
spelled length (suc follow) low high bits [] c n continues ends is = absurd (cc)
spelled length (suc follow) low high bits (byte ∷ rest) c n continues ends is =
    cond_both (is_within low high byte) (sequence (length + 1) follow 0x80 0xBF (bits * 64 + (byte - 0x80)) rest) (Malformed length) (λ u. u ≡ Character c n → IsSpelled (suc follow) low high bits (byte ∷ rest) c × (n ≡ length + suc follow))
    (λ within e.
    let range = is_within-true low high byte within in
    let later = spelled (length + 1) follow 0x80 0xBF (bits * 64 + (byte - 0x80)) rest c n (omega arith) (omega arith) e in
    (IsSpelled-next follow low high bits byte rest c continues ends range.0 range.1 later.0, omega (arith, later.1)))
    (λ without e. absurd (cc)) is

-- the first of the bytes that follow lies where it has to
abbrev pub FirstFits : (follow low high c : ℕ) → Type 0
FirstFits zero low high c = Unit {0}
FirstFits (suc follow) low high c = (low ≤ continuing (upper follow c)) × (continuing (upper follow c) ≤ high)

FirstFits-later : (follow c : ℕ) → FirstFits follow 0x80 0xBF c
FirstFits-later zero c = tt
FirstFits-later (suc follow) c = (omega arith, omega arith)

-- the bytes of a character are a sequence that becomes it
pub sequence-spells : (length follow low high bits c : ℕ) (rest : List ℕ) → upper follow c ≡ bits → FirstFits follow low high c → sequence length follow low high bits (tail follow c ++ rest) ≡ Character c (length + follow)
sequence-spells length zero low high bits c rest is fits = ap (λ b. Character b length) (sym is) ∙ ap (λ n. Character c n) (omega arith)
sequence-spells length (suc follow) low high bits c rest is fits =
    let byte = continuing (upper follow c) in
    cond-true _ (sequence (length + 1) follow 0x80 0xBF (bits * 64 + (byte - 0x80)) (tail follow c ++ rest)) (Malformed length) (is_within-in low high byte fits.0 fits.1)
    ∙ sequence-spells (length + 1) follow 0x80 0xBF (bits * 64 + (byte - 0x80)) c rest (omega (arith, is)) (FirstFits-later follow c)
    ∙ ap (λ n. Character c n) (omega arith)

-- Characters by their number of bytes.

pub encode-1 : (c : ℕ) → c < 0x80 → encode_utf8 c ≡ c ∷ []
unfolding encode_utf8
encode-1 c below = cond-true _ _ _ (lt-ltb c 0x80 below)

pub encode-2 : (c byte : ℕ) → 0x80 ≤ c → c < 0x800 → upper 1 c + 0xC0 ≡ byte → encode_utf8 c ≡ byte ∷ tail 1 c
unfolding encode_utf8
encode-2 c byte from below is =
    cond-false _ _ _ (le-ltb c 0x80 from) ∙ cond-true _ _ _ (lt-ltb c 0x800 below) ∙ ap (λ b. b ∷ continuing c ∷ []) (omega (arith, is))

pub encode-3 : (c byte : ℕ) → 0x800 ≤ c → c < 0x10000 → upper 2 c + 0xE0 ≡ byte → encode_utf8 c ≡ byte ∷ tail 2 c
unfolding encode_utf8
encode-3 c byte from below is =
    cond-false _ _ _ (le-ltb c 0x80 (omega arith)) ∙ cond-false _ _ _ (le-ltb c 0x800 from) ∙ cond-true _ _ _ (lt-ltb c 0x10000 below) ∙ ap (λ b. b ∷ continuing (c / 64) ∷ continuing c ∷ []) (omega (arith, is))

pub encode-4 : (c byte : ℕ) → 0x10000 ≤ c → upper 3 c + 0xF0 ≡ byte → encode_utf8 c ≡ byte ∷ tail 3 c
unfolding encode_utf8
encode-4 c byte from is =
    let second : c / 4096 ≡ c / 64 / 64 = omega arith in
    let first : 240 + c / 262144 ≡ byte = omega (arith, is) in
    cond-false _ _ _ (le-ltb c 0x80 (omega arith)) ∙ cond-false _ _ _ (le-ltb c 0x800 (omega arith)) ∙ cond-false _ _ _ (le-ltb c 0x10000 from)
    ∙ ap (λ b. b ∷ continuing (c / 4096) ∷ continuing (c / 64) ∷ continuing c ∷ []) first
    ∙ ap (λ b. byte ∷ continuing b ∷ continuing (c / 64) ∷ continuing c ∷ []) second
