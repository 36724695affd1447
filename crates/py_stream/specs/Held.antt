-- What a stream does with the bytes that its buffer holds, whatever it owes: no raw is called.
use Rattle.std.specs.Prelude.{◌≡◌, ◌≢◌, ℕ, ◌+◌, ◌≤◌, List, [], ◌++◌, length, take, max}
use Rattle.py_flat.specs.Bytes.{lay}
use Rattle.py_flat.specs.ExactStep.{rest}
use Rattle.py_raw.specs.RawStream.{WhereTold}
use Rattle.py_stream.specs.Stream.{Stream, file_of}
use Rattle.py_stream.specs.Answers.{ahead}
use Rattle.py_stream.specs.Keeping.{IsSound, KeepsOn}
use Rattle.py_stream.specs.Moving.{owed_at}
use Rattle.py_stream.specs.Writing.{OwesUpTo, OwesBehind, NoneAtPlace, OwesAll, LeavesUpTo}

-- bytes held are given from the place on, which moves past them; told, they are what comes next
pub record GivesHeld (old : Stream) (part : List ℕ) (new : Stream) : Type 0 where
  pub sound : IsSound new
  pub within : length part ≤ ahead old
  pub same : new ≡ record old { place = old.place + length part; owed = owed_at (old.place + length part) old.owed }
  pub told : WhereTold old.raw (take (length part) (rest (file_of old)) ≡ part)

-- bytes are taken at the place, over those held there, and the place moves past them, with no call of the raw. Where what was owed ended
-- at the place, they are owed after it; told, they are laid on in the flat bytes
pub record TakesOver (old : Stream) (bytes : List ℕ) (new : Stream) : Type 0 where
  pub kept : KeepsOn old new
  pub raw : new.raw ≡ old.raw
  pub life_is : new.life ≡ old.life
  pub place : new.place ≡ old.place + length bytes
  pub raw_place : new.raw_place ≡ old.raw_place
  pub behind : OwesUpTo old.owed old.place → (new.owed.bytes ≡ old.owed.bytes ++ bytes) × OwesUpTo new.owed new.place
  pub at : NoneAtPlace old → NoneAtPlace new
  pub stands : OwesBehind old → OwesBehind new
  pub told : WhereTold old.raw (lay new.raw.bytes new.owed.place new.owed.bytes ≡ lay (lay old.raw.bytes old.owed.place old.owed.bytes) old.place bytes)

-- bytes are taken at the place: all of them, and all that was owed, are owed then; what was held behind them is held still
pub record KeepsBoth (old : Stream) (bytes : List ℕ) (new : Stream) : Type 0 where
  pub over : TakesOver old bytes new
  pub owes : OwesAll old.owed old.place bytes new.owed
  pub held : new.held.to ≡ max old.held.to new.place

-- none are taken: what was owed, which is some, is owed still, and after it what the buffer holds up to the place; told, those are the flat
-- bytes there already
pub record OwesHeld (old new : Stream) : Type 0 where
  pub over : TakesOver old [] new
  pub some : new.owed.bytes ≢ []
  pub leaves : LeavesUpTo 0 old.owed old.place [] new.owed
