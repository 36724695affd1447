-- The ranges of the surrogates: what a code unit is that lies in one, and outside both.
use Rattle.std.proofs.Common.{◌≡◌, ℕ, ◌<◌, ◌≤◌, ◌⊎◌, inl, inr, true, false, arith}
use Rattle.py_plain.specs.Utf16.{is_high, is_low}
use Rattle.py_plain.specs.Handlers.{is_surrogate}
use Rattle.py_plain.proofs.Rows.{is_within-in, is_within-below, is_within-above, is_within-true, is_within-false}

pub is_high-in : (unit : ℕ) → 0xD800 ≤ unit → unit ≤ 0xDBFF → is_high unit ≡ true
unfolding is_high
is_high-in unit from to = is_within-in 0xD800 0xDBFF unit from to

pub is_high-below : (unit : ℕ) → unit < 0xD800 → is_high unit ≡ false
unfolding is_high
is_high-below unit below = is_within-below 0xD800 0xDBFF unit below

pub is_high-above : (unit : ℕ) → 0xDBFF < unit → is_high unit ≡ false
unfolding is_high
is_high-above unit above = is_within-above 0xD800 0xDBFF unit above

pub is_low-in : (unit : ℕ) → 0xDC00 ≤ unit → unit ≤ 0xDFFF → is_low unit ≡ true
unfolding is_low
is_low-in unit from to = is_within-in 0xDC00 0xDFFF unit from to

pub is_low-below : (unit : ℕ) → unit < 0xDC00 → is_low unit ≡ false
unfolding is_low
is_low-below unit below = is_within-below 0xDC00 0xDFFF unit below

pub is_low-above : (unit : ℕ) → 0xDFFF < unit → is_low unit ≡ false
unfolding is_low
is_low-above unit above = is_within-above 0xDC00 0xDFFF unit above

pub is_high-true : (unit : ℕ) → is_high unit ≡ true → (0xD800 ≤ unit) × (unit ≤ 0xDBFF)
unfolding is_high
is_high-true unit is = is_within-true 0xD800 0xDBFF unit is

pub is_low-true : (unit : ℕ) → is_low unit ≡ true → (0xDC00 ≤ unit) × (unit ≤ 0xDFFF)
unfolding is_low
is_low-true unit is = is_within-true 0xDC00 0xDFFF unit is

-- a unit of neither range is no surrogate
pub neither : (unit : ℕ) → is_high unit ≡ false → is_low unit ≡ false → (unit < 0xD800) ⊎ (0xDFFF < unit)
unfolding is_high is_low
neither unit high low =
    elim (is_within-false 0xD800 0xDBFF unit high) [
      | inl below ↦ inl below
      | inr above ↦ elim (is_within-false 0xDC00 0xDFFF unit low) [ inl between ↦ absurd (omega arith) | inr past ↦ inr past ]
    ]

pub is_surrogate-in : (number : ℕ) → 0xD800 ≤ number → number ≤ 0xDFFF → is_surrogate number ≡ true
unfolding is_surrogate
is_surrogate-in number from to = is_within-in 0xD800 0xDFFF number from to

pub is_surrogate-below : (number : ℕ) → number < 0xD800 → is_surrogate number ≡ false
unfolding is_surrogate
is_surrogate-below number below = is_within-below 0xD800 0xDFFF number below

pub is_surrogate-above : (number : ℕ) → 0xDFFF < number → is_surrogate number ≡ false
unfolding is_surrogate
is_surrogate-above number above = is_within-above 0xD800 0xDFFF number above

-- each range
pub ruleset high = (is_high-in, is_high-below, is_high-above)

pub ruleset low = (is_low-in, is_low-below, is_low-above)

pub ruleset surrogate = (is_surrogate-in, is_surrogate-below, is_surrogate-above)
