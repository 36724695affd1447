-- What a sink shows, and what a write to it may do.
use Rattle.std.specs.Prelude.{◌≡◌, ℕ, ◌≤◌, Bool, IsTrue, List, ◌++◌, length, take, Result, Ok, Err}
use Rattle.py_flat.specs.Causes.{Rose}
use Rattle.py_raw.specs.declared.source.Failed.{Failed}

-- what was written means something only where the sink tells it; one that counts exactly counts a fault only where a write
-- answers that it failed
pub record SinkView : Type 0 where
  pub tells : Bool
  pub written : List ℕ
  pub faults : ℕ
  pub counts_exactly : Bool

pub record SinkKeeps (old new : SinkView) : Type 0 where
  pub tells : new.tells ≡ old.tells
  pub faults : old.faults ≤ new.faults
  pub counts_exactly : new.counts_exactly ≡ old.counts_exactly

-- of a sink that counts exactly, no fault was counted
abbrev pub NoSinkFault : SinkView → SinkView → Type 0
NoSinkFault old new = IsTrue old.counts_exactly → new.faults ≡ old.faults

-- a failed write leaves a front of the piece written
pub record SinkFails (old : SinkView) (piece : List ℕ) (new : SinkView) : Type 0 where
  pub cause : Rose old.faults new.faults
  pub told : IsTrue old.tells → (count : ℕ) × (count ≤ length piece) × (new.written ≡ old.written ++ take count piece)

abbrev pub SinkOutcome : SinkView → List ℕ → Result (Unit {0}) Failed → SinkView → Type 0
SinkOutcome old piece (Ok done) new = IsTrue old.tells → new.written ≡ old.written ++ piece
SinkOutcome old piece (Err failed) new = SinkFails old piece new
