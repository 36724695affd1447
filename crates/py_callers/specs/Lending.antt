-- What lending the bytes of a stream in memory as a buffer comes to.
use Rattle.std.specs.Prelude.{◌≡◌, ℕ, true, List, length, Option, Some, None, Result, Ok, Err}
use Rattle.py_flat.specs.declared.fault.IoFault.{IoFault}
use Rattle.py_flat.specs.declared.fault.IoFault.TheVariants as fault
use Rattle.py_buffer.specs.Buffers.{BufferView, IsSimple}

-- the buffer has these bytes, one by one and only to be read; or what refuses the export, or no memory for the descriptor
abbrev pub BufferOutcome : Option IoFault → List ℕ → Result BufferView IoFault → Type 0
BufferOutcome (Some why) bytes result = result ≡ Err why
BufferOutcome None bytes (Ok buffer) = (buffer.bytes ≡ bytes) × IsSimple buffer.desc (length bytes) true
BufferOutcome None bytes (Err why) = why ≡ fault.NoMemory
