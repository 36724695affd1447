-- The mark that stands once more was decoded: the one that there was, or a new one.
use Rattle.std.proofs.Common.{◌≡◌, ℕ, zero, suc, ◌≤◌, Bool, true, false, true≢false, ◌||◌, nat_eq, Option, Some, IfSome, refl, if◌then◌else◌, arith}
use Rattle.py_held_text.specs.declared.base.Mark.{Mark}

-- what holds of the one and of the other holds of it
pub either-mark : (Holds : Mark → Type 0) (stays : Bool) (mark : Option Mark) (new : Mark) → IfSome mark Holds → (stays ≡ false → Holds new) → IfSome (if stays then mark else Some new) Holds
either-mark Holds true mark new old fresh = old
either-mark Holds false mark new old fresh = fresh refl

-- no mark was set inside a CR LF
pub no-cut : (cut none next : Bool) → ((cut || none) || next) ≡ false → cut ≡ false
no-cut true none next sets = sets
no-cut false none next sets = refl

-- nor was one set at the base
pub not-base : (cut : Bool) (back : ℕ) (next : Bool) → ((cut || nat_eq back 0) || next) ≡ false → 1 ≤ back
not-base true back next sets = absurd (true≢false sets)
not-base false zero next sets = absurd (true≢false sets)
not-base false (suc back) next sets = omega arith
