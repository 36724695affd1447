-- What every step of a call keeps of a stream.
use Rattle.std.specs.Prelude.{◌≡◌, ◌≤◌, false, None}
use Rattle.py_flat.specs.declared.life.Life.TheVariants as life
use Rattle.py_flat.specs.Limits.{greatest_place}
use Rattle.py_raw.specs.RawStream.{Keeps, StaysOpen, KeepsReads}
use Rattle.py_stream.specs.Stream.{Stream, nothing_owed}
use Rattle.py_stream.specs.Answers.{IsNear}

-- what holds of a stream between its steps: its place is one that a stream can have; while it lives its raw is open, and stands near;
-- without a buffer it owes nothing
pub record IsSound (stream : Stream) : Type 0 where
  pub far : stream.place ≤ greatest_place
  pub near : stream.life ≡ life.Live → IsNear stream
  pub is_open : stream.life ≡ life.Live → stream.raw.closed ≡ false
  pub bare : stream.buffer ≡ None → stream.owed ≡ nothing_owed stream.place

-- what every step keeps that reads nothing: what the stream and its raw can do, the buffer's size, what the raw's reads brought, and that
-- no raw is closed
pub record KeepsOn (old new : Stream) : Type 0 where
  pub raw : Keeps old.raw new.raw
  pub stays : StaysOpen old.raw new.raw
  pub reads : KeepsReads old.raw new.raw
  pub buffer : new.buffer ≡ old.buffer
  pub can : new.can ≡ old.can
  pub short : new.short ≡ old.short
  pub sound : IsSound new
