-- The rows of Table 3-7 one by one: what a first byte says that lies in a row, and in none.
use Rattle.std.proofs.Common.{◌≡◌, ℕ, ◌-◌, ◌<◌, ◌≤◌, ◌⊎◌, inl, inr, true, false, cond, ◌∙◌, arith}
use Rattle.std.proofs.lemmas.Bool.{le-leb, lt-leb, leb-true, leb-false, and_from, and_left, and_right, and_parts, and_cases, cond-true, cond-false}
use Rattle.py_plain.specs.Utf8.{Lead, Alone, Leads, Never, is_within, lead}

pub is_within-in : (low high byte : ℕ) → low ≤ byte → byte ≤ high → is_within low high byte ≡ true
unfolding is_within
is_within-in low high byte from to = and_from _ _ (le-leb low byte from) (le-leb byte high to)

pub is_within-below : (low high byte : ℕ) → byte < low → is_within low high byte ≡ false
unfolding is_within
is_within-below low high byte below = and_left _ _ (lt-leb low byte below)

pub is_within-above : (low high byte : ℕ) → high < byte → is_within low high byte ≡ false
unfolding is_within
is_within-above low high byte above = and_right _ _ (lt-leb byte high above)

pub is_within-true : (low high byte : ℕ) → is_within low high byte ≡ true → (low ≤ byte) × (byte ≤ high)
unfolding is_within
is_within-true low high byte is =
    let both = and_parts _ _ is in (leb-true low byte both.0, leb-true byte high both.1)

pub is_within-false : (low high byte : ℕ) → is_within low high byte ≡ false → (byte < low) ⊎ (high < byte)
unfolding is_within
is_within-false low high byte is =
    elim (and_cases _ _ is) [ inl below ↦ inl (leb-false low byte below) | inr above ↦ inr (leb-false byte high above) ]

-- a byte outside a row is looked for in the rows after it
past : (low high byte : ℕ) (row others : Lead) → (byte < low) ⊎ (high < byte) → cond (is_within low high byte) row others ≡ others
past low high byte row others out =
    elim out [ inl below ↦ cond-false _ row others (is_within-below low high byte below) | inr above ↦ cond-false _ row others (is_within-above low high byte above) ]

in_row : (low high byte : ℕ) (row others : Lead) → low ≤ byte → byte ≤ high → cond (is_within low high byte) row others ≡ row
in_row low high byte row others from to = cond-true _ row others (is_within-in low high byte from to)

pub lead-ascii : (byte : ℕ) → 0x00 ≤ byte → byte ≤ 0x7F → lead byte ≡ Alone
unfolding lead
lead-ascii byte from to = in_row 0x00 0x7F byte _ _ from to

pub lead-C2 : (byte : ℕ) → 0xC2 ≤ byte → byte ≤ 0xDF → lead byte ≡ Leads 1 0x80 0xBF (byte - 0xC0)
unfolding lead
lead-C2 byte from to =
    past 0x00 0x7F byte _ _ (inr (omega arith))
    ∙ in_row 0xC2 0xDF byte _ _ from to

pub lead-E0 : (byte : ℕ) → 0xE0 ≤ byte → byte ≤ 0xE0 → lead byte ≡ Leads 2 0xA0 0xBF (byte - 0xE0)
unfolding lead
lead-E0 byte from to =
    past 0x00 0x7F byte _ _ (inr (omega arith))
    ∙ past 0xC2 0xDF byte _ _ (inr (omega arith))
    ∙ in_row 0xE0 0xE0 byte _ _ from to

pub lead-E1 : (byte : ℕ) → 0xE1 ≤ byte → byte ≤ 0xEC → lead byte ≡ Leads 2 0x80 0xBF (byte - 0xE0)
unfolding lead
lead-E1 byte from to =
    past 0x00 0x7F byte _ _ (inr (omega arith))
    ∙ past 0xC2 0xDF byte _ _ (inr (omega arith))
    ∙ past 0xE0 0xE0 byte _ _ (inr (omega arith))
    ∙ in_row 0xE1 0xEC byte _ _ from to

pub lead-ED : (byte : ℕ) → 0xED ≤ byte → byte ≤ 0xED → lead byte ≡ Leads 2 0x80 0x9F (byte - 0xE0)
unfolding lead
lead-ED byte from to =
    past 0x00 0x7F byte _ _ (inr (omega arith))
    ∙ past 0xC2 0xDF byte _ _ (inr (omega arith))
    ∙ past 0xE0 0xE0 byte _ _ (inr (omega arith))
    ∙ past 0xE1 0xEC byte _ _ (inr (omega arith))
    ∙ in_row 0xED 0xED byte _ _ from to

pub lead-EE : (byte : ℕ) → 0xEE ≤ byte → byte ≤ 0xEF → lead byte ≡ Leads 2 0x80 0xBF (byte - 0xE0)
unfolding lead
lead-EE byte from to =
    past 0x00 0x7F byte _ _ (inr (omega arith))
    ∙ past 0xC2 0xDF byte _ _ (inr (omega arith))
    ∙ past 0xE0 0xE0 byte _ _ (inr (omega arith))
    ∙ past 0xE1 0xEC byte _ _ (inr (omega arith))
    ∙ past 0xED 0xED byte _ _ (inr (omega arith))
    ∙ in_row 0xEE 0xEF byte _ _ from to

pub lead-F0 : (byte : ℕ) → 0xF0 ≤ byte → byte ≤ 0xF0 → lead byte ≡ Leads 3 0x90 0xBF (byte - 0xF0)
unfolding lead
lead-F0 byte from to =
    past 0x00 0x7F byte _ _ (inr (omega arith))
    ∙ past 0xC2 0xDF byte _ _ (inr (omega arith))
    ∙ past 0xE0 0xE0 byte _ _ (inr (omega arith))
    ∙ past 0xE1 0xEC byte _ _ (inr (omega arith))
    ∙ past 0xED 0xED byte _ _ (inr (omega arith))
    ∙ past 0xEE 0xEF byte _ _ (inr (omega arith))
    ∙ in_row 0xF0 0xF0 byte _ _ from to

pub lead-F1 : (byte : ℕ) → 0xF1 ≤ byte → byte ≤ 0xF3 → lead byte ≡ Leads 3 0x80 0xBF (byte - 0xF0)
unfolding lead
lead-F1 byte from to =
    past 0x00 0x7F byte _ _ (inr (omega arith))
    ∙ past 0xC2 0xDF byte _ _ (inr (omega arith))
    ∙ past 0xE0 0xE0 byte _ _ (inr (omega arith))
    ∙ past 0xE1 0xEC byte _ _ (inr (omega arith))
    ∙ past 0xED 0xED byte _ _ (inr (omega arith))
    ∙ past 0xEE 0xEF byte _ _ (inr (omega arith))
    ∙ past 0xF0 0xF0 byte _ _ (inr (omega arith))
    ∙ in_row 0xF1 0xF3 byte _ _ from to

pub lead-F4 : (byte : ℕ) → 0xF4 ≤ byte → byte ≤ 0xF4 → lead byte ≡ Leads 3 0x80 0x8F (byte - 0xF0)
unfolding lead
lead-F4 byte from to =
    past 0x00 0x7F byte _ _ (inr (omega arith))
    ∙ past 0xC2 0xDF byte _ _ (inr (omega arith))
    ∙ past 0xE0 0xE0 byte _ _ (inr (omega arith))
    ∙ past 0xE1 0xEC byte _ _ (inr (omega arith))
    ∙ past 0xED 0xED byte _ _ (inr (omega arith))
    ∙ past 0xEE 0xEF byte _ _ (inr (omega arith))
    ∙ past 0xF0 0xF0 byte _ _ (inr (omega arith))
    ∙ past 0xF1 0xF3 byte _ _ (inr (omega arith))
    ∙ in_row 0xF4 0xF4 byte _ _ from to

pub lead-continuation : (byte : ℕ) → 0x80 ≤ byte → byte ≤ 0xC1 → lead byte ≡ Never
unfolding lead
lead-continuation byte from to =
    past 0x00 0x7F byte _ _ (inr (omega arith))
    ∙ past 0xC2 0xDF byte _ _ (inl (omega arith))
    ∙ past 0xE0 0xE0 byte _ _ (inl (omega arith))
    ∙ past 0xE1 0xEC byte _ _ (inl (omega arith))
    ∙ past 0xED 0xED byte _ _ (inl (omega arith))
    ∙ past 0xEE 0xEF byte _ _ (inl (omega arith))
    ∙ past 0xF0 0xF0 byte _ _ (inl (omega arith))
    ∙ past 0xF1 0xF3 byte _ _ (inl (omega arith))
    ∙ past 0xF4 0xF4 byte _ _ (inl (omega arith))

pub lead-above : (byte : ℕ) → 0xF5 ≤ byte → lead byte ≡ Never
unfolding lead
lead-above byte from =
    past 0x00 0x7F byte _ _ (inr (omega arith))
    ∙ past 0xC2 0xDF byte _ _ (inr (omega arith))
    ∙ past 0xE0 0xE0 byte _ _ (inr (omega arith))
    ∙ past 0xE1 0xEC byte _ _ (inr (omega arith))
    ∙ past 0xED 0xED byte _ _ (inr (omega arith))
    ∙ past 0xEE 0xEF byte _ _ (inr (omega arith))
    ∙ past 0xF0 0xF0 byte _ _ (inr (omega arith))
    ∙ past 0xF1 0xF3 byte _ _ (inr (omega arith))
    ∙ past 0xF4 0xF4 byte _ _ (inr (omega arith))

-- all rows
pub ruleset rows = (lead-ascii, lead-C2, lead-E0, lead-E1, lead-ED, lead-EE, lead-F0, lead-F1, lead-F4, lead-continuation, lead-above)
