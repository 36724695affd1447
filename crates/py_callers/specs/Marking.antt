-- What writing over the first byte of a stream in memory comes to.
use Rattle.std.specs.Prelude.{◌≡◌, ℕ, ◌+◌, List, [], ◌∷◌, Option, Some, None, Result, Ok, Err}
use Rattle.py_flat.specs.declared.fault.IoFault.{IoFault}
use Rattle.py_flat.specs.declared.fault.IoFault.TheVariants as fault
use Rattle.py_memio.specs.BytesIO.{BytesView}

-- some bytes, the first of which is a mark now; of none, none
abbrev pub marked : ℕ → List ℕ → List ℕ
marked mark [] = []
marked mark (b ∷ bs) = mark ∷ bs

-- the stream with its first byte marked: one more export was given, and as many are out as before
abbrev pub marked_stream : ℕ → BytesView → BytesView
marked_stream mark view = record view { file = record view.file { bytes = marked mark view.file.bytes }; exports = record view.exports { next = view.exports.next + 1 } }

-- the stream is marked; or no export of its bytes could be had, by what refuses one or when out of memory, and all is as it was
abbrev pub MarkOutcome : Option IoFault → ℕ → BytesView → Result (Unit {0}) IoFault → BytesView → Type 0
MarkOutcome (Some why) mark before result after = (result ≡ Err why) × (after ≡ before)
MarkOutcome None mark before (Ok done) after = after ≡ marked_stream mark before
MarkOutcome None mark before (Err why) after = (why ≡ fault.NoMemory) × (after ≡ before)
