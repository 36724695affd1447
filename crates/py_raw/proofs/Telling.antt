-- What a raw stream tells, and that it goes on telling it.
use Rattle.std.proofs.Common.{◌≡◌, refl, arith}
use Rattle.std.specs.Prelude.{IsTrue, Bool, true, false, ◌&&◌}
use Rattle.py_raw.specs.RawStream.{Raw, Keeps, tells}

left_of : (left right : Bool) → IsTrue (left && right) → IsTrue left
left_of true right both = refl
left_of false right both = cc

right_of : (left right : Bool) → IsTrue (left && right) → IsTrue right
right_of true right both = both
right_of false right both = cc

-- a stream that tells its bytes and its place tells its bytes
pub tells_its_bytes : (raw : Raw) → IsTrue (tells raw) → IsTrue raw.tells_bytes
tells_its_bytes raw told = left_of raw.tells_bytes raw.tells_place told

-- a stream that tells its bytes and its place tells its place
pub tells_its_place : (raw : Raw) → IsTrue (tells raw) → IsTrue raw.tells_place
tells_its_place raw told = right_of raw.tells_bytes raw.tells_place told

-- a stream tells its bytes and its place after a call exactly where it did before
pub tells_still : (old new : Raw) → Keeps old new → tells new ≡ tells old
tells_still old new keeps = rw (keeps.tells_bytes, keeps.tells_place) refl

-- what keeps all counts and abilities as they are
pub keeps_same : (raw : Raw) → Keeps raw raw
keeps_same raw = record {
  tells_bytes = refl;
  tells_place = refl;
  tells_transfers = refl;
  readable = refl;
  writable = refl;
  seekable = refl;
  takes_memory = refl;
  counts_exactly = refl;
  faults = omega arith;
  waits = omega arith;
}
