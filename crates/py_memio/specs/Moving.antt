-- Where a seek of a stream in memory goes, and what its `truncate` cuts to: its end is known, so nothing is asked of a raw.
use Rattle.std.specs.Prelude.{◌≡◌, ℕ, ◌≤◌, ℤ, pos, suc, zero, Option, Some, None, Result, Ok, Err}
use Rattle.py_flat.specs.declared.fault.IoFault.{IoFault}
use Rattle.py_flat.specs.declared.fault.IoFault.TheVariants as fault
use Rattle.py_flat.specs.Limits.{greatest_place}
use Rattle.py_flat.specs.Refusals.{too_far}
use Rattle.py_stream.specs.Moving.{MovedBy}

-- a seek finds its target, from the start, from the place or from the end, or what refuses it; no other whence is known
abbrev pub SeekOutcome : (place end : ℕ) → ℤ → ℤ → Result ℕ IoFault → Type 0
SeekOutcome place end offset (pos zero) result = MovedBy 0 offset result
SeekOutcome place end offset (pos (suc zero)) result = MovedBy place offset result
SeekOutcome place end offset (pos (suc (suc zero))) result = MovedBy end offset result
SeekOutcome place end offset whence result = result ≡ Err fault.BadWhence

-- a cut goes to the size that is asked, or to the place; a size that a stream can't have is refused
abbrev pub CutOutcome : (place : ℕ) → Option ℕ → Result ℕ IoFault → Type 0
CutOutcome place (Some size) (Ok cut) = (cut ≡ size) × (size ≤ greatest_place)
CutOutcome place (Some size) (Err why) = too_far size ≡ Some why
CutOutcome place None result = result ≡ Ok place
