-- Which characters a sequence of UTF-8 may still spell: those of its row of the Unicode Standard's Table 3-7.
use Rattle.std.specs.Prelude.{ℕ, zero, suc, ◌+◌, ◌-◌, ◌*◌, ◌<◌, ◌≤◌, ◌⊎◌}
use Rattle.py_plain.specs.Utf8.{Lead, Alone, Leads, Never}
use Rattle.py_plain.specs.declared.utf8.Lead.{Lead as Seen}
use Rattle.py_plain.specs.declared.utf8.Lead.TheVariants as seen

-- the program's word for what a byte says, as the definition's
abbrev pub lead_shown : Seen → Lead
lead_shown seen.Alone = Alone
lead_shown (seen.Leads follow low high bits) = Leads follow low high bits
lead_shown seen.Never = Never

-- the least and the greatest character of `bits` so far, where `follow` more bytes come, the next from `low` or up to `high`
abbrev pub least : (follow low bits : ℕ) → ℕ
least zero low bits = bits
least (suc follow) low bits = least follow 0x80 (bits * 64 + (low - 0x80))

abbrev pub greatest : (follow high bits : ℕ) → ℕ
greatest zero high bits = bits
greatest (suc follow) high bits = greatest follow 0xBF (bits * 64 + (high - 0x80))

-- all that a sequence may still become are characters, and its bytes are continuation bytes
pub record Spells (follow low high bits : ℕ) : Type 0 where
  pub short : follow ≤ 3
  pub from : 0x80 ≤ low
  pub to : high ≤ 0xBF
  pub scalars : (greatest follow high bits < 0xD800) ⊎ ((0xE000 ≤ least follow low bits) × (greatest follow high bits < 0x110000))

-- what a first byte begins can become nothing but a character
abbrev pub SpellsBy : ℕ → Lead → Type 0
SpellsBy byte Alone = byte ≤ 0x7F
SpellsBy byte (Leads follow low high bits) = Spells follow low high bits
SpellsBy byte Never = Unit {0}
