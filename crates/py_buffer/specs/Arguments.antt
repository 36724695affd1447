-- Arguments that ask for bytes.
use Rattle.std.specs.Prelude.{◌≡◌, ℕ, true, false, List, length, Result, Ok, Err}
use Rattle.std.specs.Borrow.{MutBor}
use Rattle.std.specs.Str.{IsAscii}
use Rattle.py_buffer.specs.declared.arguments.ArgFault.{ArgFault}
use Rattle.py_buffer.specs.declared.arguments.ArgFault.TheVariants as arg_fault
use Rattle.py_buffer.specs.declared.arguments.ArgStrOrBytesLike.{ArgStrOrBytesLike}
use Rattle.py_buffer.specs.declared.arguments.ArgStrOrBytesLike.TheVariants.{Buf, Str}
use Rattle.py_buffer.specs.declared.arguments.ArgAsciiBuffer.{ArgAsciiBuffer}
use Rattle.py_buffer.specs.declared.arguments.ArgAsciiBuffer.TheVariants.{Buffer, String}
use Rattle.py_buffer.specs.declared.descriptor.BufferDescriptor.{BufferDescriptor}
use Rattle.py_buffer.specs.declared.memory_argument.ArgMemoryBuffer.{ArgMemoryBuffer}
use Rattle.py_buffer.specs.Descriptor.{IsContiguous}
use Rattle.py_buffer.specs.Buffers.{items_of}

-- the bytes of a buffer's items, or of a text
abbrev pub argument_bytes : ArgStrOrBytesLike → List ℕ
argument_bytes (Buf buffer) = items_of buffer
argument_bytes (Str text) = text.now

-- the bytes of a buffer's items, or of a text of ASCII
abbrev pub ascii_bytes : ArgAsciiBuffer → List ℕ
ascii_bytes (Buffer buffer) = items_of buffer
ascii_bytes (String text) = text.now

-- how many bytes a buffer's descriptor names, or a text has
abbrev pub ascii_len : ArgAsciiBuffer → ℕ
ascii_len (Buffer buffer) = buffer.desc.len
ascii_len (String text) = length text.now

-- a buffer is taken as it is, and a text where it is ASCII
abbrev pub AsciiOutcome : ArgStrOrBytesLike → Result ArgAsciiBuffer ArgFault → Type 0
AsciiOutcome (Buf buffer) result = result ≡ Ok (Buffer buffer)
AsciiOutcome (Str text) (Ok taken) = (taken ≡ String text) × IsAscii text.now
AsciiOutcome (Str text) (Err refused) = (refused ≡ arg_fault.NotAscii) × (IsAscii text.now → ⊥)

-- an argument of bytes to be written has these bytes, of which there are as many, with that descriptor: it is contiguous and isn't readonly
abbrev pub HoldsMemory : MutBor (List ℕ) → BufferDescriptor → ArgMemoryBuffer → Type 0
HoldsMemory bytes descriptor argument = (argument.borrow ≡ bytes) × (argument.size ≡ length bytes.now) × (argument.desc ≡ descriptor) × IsContiguous descriptor × (descriptor.readonly ≡ false)

-- why bytes to be written are refused, contiguity first
abbrev pub RefusesMemory : BufferDescriptor → ArgFault → Type 0
RefusesMemory descriptor arg_fault.NotContiguous = IsContiguous descriptor → ⊥
RefusesMemory descriptor arg_fault.ReadOnly = IsContiguous descriptor × (descriptor.readonly ≡ true)
RefusesMemory descriptor arg_fault.NotAscii = ⊥
