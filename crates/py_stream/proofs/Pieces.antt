-- What a raw takes of a piece that isn't empty.
use Rattle.std.proofs.Common.{◌≡◌, ℕ, zero, suc, ◌<◌, List, [], length, refl, ap, arith}

-- it takes some of it, where it takes none only of nothing
pub some_taken : (piece : List ℕ) (count : ℕ) → 0 < length piece → (count ≡ 0 → piece ≡ []) → 0 < count
some_taken piece zero some none = absurd (omega (arith, some, ap length (none refl)))
some_taken piece (suc count) some none = omega arith
