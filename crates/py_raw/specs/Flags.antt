-- What the flags of a raw stream say that it can do.
use Rattle.std.specs.Prelude.{ℕ, Bool, ◌==◌}
use Rattle.std.specs.Int.RustNames.{bit_and}
use Rattle.py_raw.specs.declared.raw_flags.RawFlags.{RawFlags}

-- whether flags have all bits of a number
abbrev pub has_bits : RawFlags → ℕ → Bool
has_bits flags bits = bit_and flags.0 bits == bits

-- whether flags have READABLE
abbrev pub can_read : RawFlags → Bool
can_read flags = has_bits flags 2

-- whether flags have WRITABLE
abbrev pub can_write : RawFlags → Bool
can_write flags = has_bits flags 4

-- whether flags have SEEKABLE
abbrev pub can_seek : RawFlags → Bool
can_seek flags = has_bits flags 16

-- whether flags have CREATED
abbrev pub was_created : RawFlags → Bool
was_created flags = has_bits flags 1

-- whether flags have APPENDING
abbrev pub appends : RawFlags → Bool
appends flags = has_bits flags 8
