-- Private: space for a reading into a buffer.
use Rattle.std.specs.Prelude.{◌≡◌, ◌≢◌, ◌⊎◌, ℕ, Bool, true, false}
use Rattle.py_flat.specs.declared.life.Life.{Life}
use Rattle.py_flat.specs.declared.life.Life.TheVariants as life
use Rattle.py_binary.specs.declared.space.Space.{Space}
use Rattle.py_binary.specs.declared.space.Space.TheVariants as space

-- a stream is asked for a reading where it is read and live: there are as many bytes as it says, or there was no memory for them
abbrev pub SpaceFor : Space → Bool → Life → ℕ → Type 0
SpaceFor (space.Taken buffer) reads current size = (buffer.len ≡ size) × (reads ≡ true) × (current ≡ life.Live)
SpaceFor space.Lacking reads current size = (reads ≡ true) × (current ≡ life.Live)
SpaceFor space.Unasked reads current size = (reads ≡ false) ⊎ (current ≢ life.Live)
