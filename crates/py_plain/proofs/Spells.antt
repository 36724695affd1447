-- A sequence whose every end is a character: what one more byte leaves of it.
use Rattle.std.proofs.Common.{◌≡◌, ℕ, zero, suc, ◌+◌, ◌-◌, ◌*◌, ◌<◌, ◌≤◌, inl, inr, true, arith}
use Rattle.py_plain.specs.Utf8.{is_within}
use Rattle.py_plain.proofs.Rows.{is_within-true}
use native.Mathlib.Numerals.{unary_clauses}
use Rattle.py_plain.specs.Spelling.{Spells, least, greatest}

-- the ends grow with the bits
pub least-grows : (follow low a b : ℕ) → a ≤ b → least follow low a ≤ least follow low b
least-grows zero low a b le = le
least-grows (suc follow) low a b le = least-grows follow 0x80 (a * 64 + (low - 0x80)) (b * 64 + (low - 0x80)) (omega arith)

pub greatest-grows : (follow high a b : ℕ) → a ≤ b → greatest follow high a ≤ greatest follow high b
greatest-grows zero high a b le = le
greatest-grows (suc follow) high a b le = greatest-grows follow 0xBF (a * 64 + (high - 0x80)) (b * 64 + (high - 0x80)) (omega arith)

-- the greatest end is no less than the bits
pub bits-le-greatest : (follow bits : ℕ) → bits ≤ greatest follow 0xBF bits
bits-le-greatest zero bits = omega arith
bits-le-greatest (suc follow) bits = omega (arith, bits-le-greatest follow (bits * 64 + (0xBF - 0x80)))

-- a byte that fits leaves a sequence that still spells characters alone
pub Spells-next : (follow low high bits byte : ℕ) → Spells (suc follow) low high bits → low ≤ byte → byte ≤ high → Spells follow 0x80 0xBF (bits * 64 + (byte - 0x80))
Spells-next follow low high bits byte spells from to = record {
  short = omega arith;
  from = omega arith;
  to = omega arith;
  scalars =
      let down = least-grows follow 0x80 (bits * 64 + (low - 0x80)) (bits * 64 + (byte - 0x80)) (omega arith) in
      let up = greatest-grows follow 0xBF (bits * 64 + (byte - 0x80)) (bits * 64 + (high - 0x80)) (omega arith) in
      elim spells.scalars [ inl below ↦ inl (omega arith) | inr above ↦ inr (omega arith, omega arith) ];
}

-- what stands after the first byte: the byte fits, the joined bits are a number below all that UTF-8 can spell, and what is left still spells
pub Spells-joined : (follow low high bits byte : ℕ) → Spells follow low high bits → 0 < follow → is_within low high byte ≡ true → (0x80 ≤ byte) × (bits * 64 + (byte - 0x80) < 0x110000) × Spells (follow - 1) 0x80 0xBF (bits * 64 + (byte - 0x80))
Spells-joined zero low high bits byte spells more is = absurd (omega arith)
Spells-joined (suc follow) low high bits byte spells more is =
    let range = is_within-true low high byte is in
    let next = Spells-next follow low high bits byte spells range.0 range.1 in
    let above = bits-le-greatest follow (bits * 64 + (byte - 0x80)) in
    (omega arith, elim next.scalars [ inl below ↦ omega arith | inr high ↦ omega arith ], simp unary_clauses next)
