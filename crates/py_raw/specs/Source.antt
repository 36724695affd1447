-- What a source shows, and what a read of it may do.
use Rattle.std.specs.Prelude.{◌≡◌, ◌≢◌, ℕ, ◌≤◌, Bool, IsTrue, List, [], length, take, drop, Result, Ok, Err}
use Rattle.py_flat.specs.Causes.{Rose}
use Rattle.py_raw.specs.declared.source.Failed.{Failed}

-- what is left means something only where the source tells it; one that counts exactly counts a fault only where a read
-- answers that it failed
pub record SourceView : Type 0 where
  pub tells : Bool
  pub left : List ℕ
  pub faults : ℕ
  pub counts_exactly : Bool

pub record SourceKeeps (old new : SourceView) : Type 0 where
  pub tells : new.tells ≡ old.tells
  pub faults : old.faults ≤ new.faults
  pub counts_exactly : new.counts_exactly ≡ old.counts_exactly

-- of a source that counts exactly, no fault was counted
abbrev pub NoSourceFault : SourceView → SourceView → Type 0
NoSourceFault old new = IsTrue old.counts_exactly → new.faults ≡ old.faults

-- told: the next `count` bytes were read; 0 into a buffer that isn't empty only at the end
pub record SourceTold (old : SourceView) (before : List ℕ) (count : ℕ) (after : List ℕ) (new : SourceView) : Type 0 where
  pub within : count ≤ length old.left
  pub given : take count after ≡ take count old.left
  pub left : new.left ≡ drop count old.left
  pub end : count ≡ 0 → before ≢ [] → old.left ≡ []

pub record SourceRead (old : SourceView) (before : List ℕ) (count : ℕ) (after : List ℕ) (new : SourceView) : Type 0 where
  pub fits : count ≤ length before
  pub told : IsTrue old.tells → SourceTold old before count after new

-- a failed read takes nothing
pub record SourceFails (old new : SourceView) : Type 0 where
  pub cause : Rose old.faults new.faults
  pub told : IsTrue old.tells → new.left ≡ old.left

abbrev pub SourceOutcome : SourceView → List ℕ → Result ℕ Failed → List ℕ → SourceView → Type 0
SourceOutcome old before (Ok count) after new = SourceRead old before count after new
SourceOutcome old before (Err failed) after new = SourceFails old new
