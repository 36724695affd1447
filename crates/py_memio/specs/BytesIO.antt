-- A stream of bytes in memory, and the exports of its bytes.
use Rattle.std.specs.Prelude.{◌≡◌, ℕ, ◌+◌, ◌<◌, ◌≤◌, Bool, true, false, not, ⊤, IsTrue, List, [], ◌∷◌, ◌++◌, nat_eq, nat_lt, length, take, drop, if◌then◌else◌, Option, Some, None, Result, Ok, Err, Vec}
use denote.Bor.{Bor}
use Rattle.std.specs.List.{IsDistinct, list_any, remove}
use Rattle.std.specs.declared.alloc.Global.{Global}
use Rattle.py_flat.specs.declared.fault.IoFault.{IoFault}
use Rattle.py_flat.specs.declared.fault.IoFault.TheVariants as fault
use Rattle.py_flat.specs.Limits.{greatest_count, greatest_place}
use Rattle.py_flat.specs.FlatFile.{FlatFile}
use Rattle.py_flat.specs.ExactStep.{is_closed}
use Rattle.py_raw.specs.RawStream.{Raw}
use Rattle.py_raw.specs.Reads.{no_reads}
use Rattle.py_stream.specs.Stream.{nothing_owed}
use Rattle.py_stream.specs.Buffer.{Buffer}
use Rattle.py_memio.specs.declared.export.Export.{Export}
use Rattle.py_flat.specs.Refusals.{life_fault, or_else, refused_if}

-- the numbers of the exports that are out, in the order in which they were given; and the number that the next one gets
pub record Exports : Type 0 where
  pub out : List ℕ
  pub next : ℕ

-- what a `BytesIO` is seen as: its flat file, the exports of its bytes, and how many bytes of the last write were taken
pub record BytesView : Type 0 where
  pub file : FlatFile
  pub exports : Exports
  pub taken : ℕ

-- before the first export
abbrev pub no_exports : Exports
no_exports = record { out = []; next = 0 }

-- whether a list has something
abbrev pub has_some : List ℕ → Bool
has_some [] = false
has_some (n ∷ ns) = true

-- whether an export is out
abbrev pub is_lent : BytesView → Bool
is_lent view = has_some view.exports.out

-- whether the export of a number is out
abbrev pub is_out : Exports → ℕ → Bool
is_out exports number = list_any (λ own. nat_eq own number) exports.out

-- the number of the next export, past the greatest of its type where all are given
abbrev pub next_number : Option ℕ → ℕ
next_number None = greatest_count + 1
next_number (Some number) = number

-- a number that is left is one of its type
abbrev pub IsNext : Option ℕ → Type 0
IsNext None = ⊤
IsNext (Some number) = number ≤ greatest_count

-- what holds of every `BytesIO`: its place is one that a stream can have, each export that is out has a number below the next, no number
-- is out twice, and a closed one has none out
pub record IsBytesIO (place : ℕ) (closed : Bool) (out : List ℕ) (next : Option ℕ) : Type 0 where
  pub within : place ≤ greatest_place
  pub number : IsNext next
  pub given : (own : ℕ) → IsTrue (list_any (λ n. nat_eq n own) out) → own < next_number next
  pub apart : IsDistinct nat_eq out
  pub shut : closed ≡ true → out ≡ []

-- A new export.

-- what refuses a new export
abbrev pub export_refusal : BytesView → Option IoFault
export_refusal view = or_else (life_fault view.file.life) (refused_if (nat_lt greatest_count view.exports.next) fault.TooFar)

-- one more export is out, with the next number
abbrev pub exported : BytesView → BytesView
exported view = record view { exports = record { out = view.exports.out ++ (view.exports.next ∷ []); next = view.exports.next + 1 } }

-- a new export has the next number; refused, or out of memory, there is none, and all is as before
abbrev pub GivesExport : Option IoFault → BytesView → Result Export IoFault → BytesView → Type 0
GivesExport (Some why) before result after = (result ≡ Err why) × (after ≡ before)
GivesExport None before (Ok export) after = (export.0 ≡ before.exports.next) × (after ≡ exported before)
GivesExport None before (Err why) after = (why ≡ fault.NoMemory) × (after ≡ before)

-- A stream that may change its length.

-- what refuses that: the stream is closed, or an export is out
abbrev pub resize_refusal : BytesView → Option IoFault
resize_refusal view = or_else (life_fault view.file.life) (refused_if (is_lent view) fault.BufferError)

-- a call that changes the length goes on, or is refused by that
abbrev pub ResizableOutcome : Option IoFault → Result (Unit {0}) IoFault → Type 0
ResizableOutcome (Some why) result = result ≡ Err why
ResizableOutcome None result = result ≡ Ok tt

-- Exports that are out.

-- what refuses an export to be used: a closed stream has none, and the number has to be out
abbrev pub use_refusal : BytesView → ℕ → Option IoFault
use_refusal view number = or_else (life_fault view.file.life) (refused_if (not (is_out view.exports number)) fault.BadArgument)

-- bytes that are lent, as an export lends the flat ones, or why they aren't
abbrev pub LendsBytes : Option IoFault → List ℕ → Result (Bor (List ℕ)) IoFault → Type 0
LendsBytes (Some why) bytes result = result ≡ Err why
LendsBytes None bytes (Ok lent) = lent.now ≡ bytes
LendsBytes None bytes (Err why) = ⊥

-- a stream with these bytes in place of its own, which keep their number: more are cut, and of fewer the old ones after them stay
abbrev pub with_bytes : BytesView → List ℕ → BytesView
with_bytes view bytes = record view { file = record view.file { bytes = take (length view.file.bytes) (bytes ++ drop (length bytes) view.file.bytes) } }

-- some numbers without one of them, which stands among them at most once
abbrev pub without : ℕ → List ℕ → List ℕ
without number [] = []
without number (own ∷ more) = if nat_eq own number then more else own ∷ without number more

-- the export of a number is out no more
abbrev pub released : BytesView → ℕ → BytesView
released view number = record view { exports = record view.exports { out = without number view.exports.out } }

-- where a number stands that is out, or why it can't be used
abbrev pub PlaceOutcome : Option IoFault → List ℕ → ℕ → Result ℕ IoFault → Type 0
PlaceOutcome (Some why) out number result = result ≡ Err why
PlaceOutcome None out number (Ok place) = (place < length out) × (remove out place ≡ without number out)
PlaceOutcome None out number (Err why) = ⊥

abbrev pub Releases : Option IoFault → BytesView → ℕ → Result (Unit {0}) IoFault → BytesView → Type 0
Releases (Some why) before number result after = (result ≡ Err why) × (after ≡ before)
Releases None before number result after = (result ≡ Ok tt) × (after ≡ released before number)

-- As a buffered stream.

-- what a stream in memory shows as its raw: its own bytes and place. It never waits or fails, takes memory, and is closed where the stream is
abbrev pub raw_in_memory : FlatFile → Raw
raw_in_memory file = record {
  tells_bytes = true;
  tells_place = true;
  tells_transfers = false;
  bytes = file.bytes;
  place = file.place;
  transfers = 0;
  written = 0;
  reads = no_reads;
  faults = 0;
  waits = 0;
  closed = is_closed file.life;
  readable = file.can.readable;
  writable = file.can.writable;
  seekable = file.can.seekable;
  takes_memory = true;
  counts_exactly = true;
}

-- a stream in memory as a buffered one: it owes nothing, and moves all that is asked for at once, as it has no buffer
abbrev pub buffer_with : FlatFile → (lent : Bool) → (taken : ℕ) → Buffer
buffer_with file lent taken = record {
  raw = raw_in_memory file;
  raw_place = file.place;
  place = file.place;
  can = file.can;
  life = file.life;
  buffering = file.buffering;
  short = false;
  owed = nothing_owed file.place;
  exported = lent;
  taken = taken;
}

abbrev pub as_buffer : BytesView → Buffer
as_buffer view = buffer_with view.file (is_lent view) view.taken

-- where the stream ends: a stream in memory knows it, so nothing but its life refuses to tell it
abbrev pub TellsEnd : Option IoFault → (end : ℕ) → Result ℕ IoFault → Type 0
TellsEnd (Some why) end result = result ≡ Err why
TellsEnd None end result = result ≡ Ok end

-- The whole.

-- all bytes, or out of memory
abbrev pub GivesAll : Option IoFault → List ℕ → Result (Vec ℕ Global) IoFault → Type 0
GivesAll (Some why) bytes result = result ≡ Err why
GivesAll None bytes (Ok given) = given.items ≡ bytes
GivesAll None bytes (Err why) = why ≡ fault.NoMemory
