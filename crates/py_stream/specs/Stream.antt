-- A binary stream over a raw one: what it is seen as.
use Rattle.std.specs.Prelude.{ℕ, Bool, true, false, [], Option, Some, None, unwrap_or}
use Rattle.py_flat.specs.declared.life.Life.{Life}
use Rattle.py_flat.specs.declared.life.Life.TheVariants as life
use Rattle.py_flat.specs.Bytes.{lay}
use Rattle.py_flat.specs.FlatFile.{Abilities, Buffering, Unbuffered, Buffered, FlatFile}
use Rattle.py_flat.specs.Owed.{Owed}
use Rattle.py_raw.specs.RawStream.{Raw, untold}

-- the places between which a buffer holds bytes: of the first, and after the last
pub record Span : Type 0 where
  pub from : ℕ
  pub to : ℕ

-- what a stream shows: what its raw shows; its place; where the raw stands, as the stream itself counts while it lives; what it can
-- do; its life; the size of its buffer in bytes, none of a stream that has no buffer; whether a wait of the raw cut the last
-- answer short; the bytes that it has taken from callers and not passed on; and where the bytes lie that its buffer holds, read ahead
-- and owed ones alike: while it lives its place is among them, or right after them, so that without a buffer both ends are the place
pub record Stream : Type 0 where
  pub raw : Raw
  pub place : ℕ
  pub raw_place : ℕ
  pub can : Abilities
  pub life : Life
  pub buffer : Option ℕ
  pub short : Bool
  pub owed : Owed
  pub held : Span

-- how many bytes a stream's buffer holds: without a buffer, none
abbrev pub size_of : Stream → ℕ
size_of stream = unwrap_or stream.buffer 0

-- how a stream is buffered, by the size of its buffer
abbrev pub buffering_of : Option ℕ → Buffering
buffering_of (Some size) = Buffered size
buffering_of None = Unbuffered

-- the flat file that a stream stands for: the raw's bytes, with the owed ones laid at their place
abbrev pub file_of : Stream → FlatFile
file_of stream = record {
  bytes = lay stream.raw.bytes stream.owed.place stream.owed.bytes;
  place = stream.place;
  can = stream.can;
  buffering = buffering_of stream.buffer;
  life = stream.life;
}

-- what a reader can do: it reads, and never writes, whatever its raw can
abbrev pub reader_can : Bool → Abilities
reader_can seekable = record { readable = true; writable = false; seekable = seekable; appending = false }

-- what a writer can do: it writes, and never reads; one that appends begins at the end, and is never moved
abbrev pub writer_can : Bool → Bool → Abilities
writer_can appending seekable = record { readable = false; writable = true; seekable = seekable; appending = appending }

-- nothing is owed, after a place
abbrev pub nothing_owed : ℕ → Owed
nothing_owed place = record { bytes = []; place = place }

-- no byte is held, at a place
abbrev pub nothing_held : ℕ → Span
nothing_held place = record { from = place; to = place }

-- a detached stream has no raw left to show anything of
abbrev pub no_raw : Raw
no_raw = record (untold 0 0 false false false false) { counts_exactly = false }

-- what is left of a stream whose raw was handed back
abbrev pub detached_stream : Abilities → Option ℕ → Stream
detached_stream can buffer = record {
  raw = no_raw;
  place = 0;
  raw_place = 0;
  can = can;
  life = life.Detached;
  buffer = buffer;
  short = false;
  owed = nothing_owed 0;
  held = nothing_held 0;
}
