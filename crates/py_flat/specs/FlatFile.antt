-- The flat file: what every binary stream is compared with.
use Rattle.std.specs.Prelude.{ℕ, Bool, List}
use Rattle.py_flat.specs.declared.life.Life.{Life}

-- what may be done with a stream; one that appends begins at the end and is never moved
pub record Abilities : Type 0 where
  pub readable : Bool
  pub writable : Bool
  pub seekable : Bool
  pub appending : Bool

-- how a stream is buffered. The size is seen only by a `read1` without a size and by `peek`. A stream in memory has no
-- raw under it: its transfers are whole, and its `truncate` only cuts
pub data Buffering : Type 0 where
  Unbuffered : Buffering
  Buffered : (size : ℕ) → Buffering
  InMemory : Buffering

-- a list of bytes, a place counted from its start, what may be done, and the stream's life
pub record FlatFile : Type 0 where
  pub bytes : List ℕ
  pub place : ℕ
  pub can : Abilities
  pub buffering : Buffering
  pub life : Life
