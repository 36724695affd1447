-- Sizes of texts, which add and subtract field by field.
use Rattle.std.specs.Prelude.{◌≡◌, ◌+◌, ◌-◌, ◌^◌, ◌<◌, ◌≤◌}
use Rattle.py_text.specs.declared.utf8_size.Utf8size.{Utf8size}

-- neither field of a sum passes the greatest number of its type
pub record SumFits (one other : Utf8size) : Type 0 where
  pub bytes : one.bytes + other.bytes < 2 ^ 64
  pub characters : one.chars + other.chars < 2 ^ 64

-- a size is the sum of two, field by field
pub record IsSum (one other sum : Utf8size) : Type 0 where
  pub bytes : sum.bytes ≡ one.bytes + other.bytes
  pub characters : sum.chars ≡ one.chars + other.chars

-- neither field of a difference is below 0
pub record DifferenceFits (one other : Utf8size) : Type 0 where
  pub bytes : other.bytes ≤ one.bytes
  pub characters : other.chars ≤ one.chars

-- a size is the difference of two, field by field
pub record IsDifference (one other difference : Utf8size) : Type 0 where
  pub bytes : difference.bytes ≡ one.bytes - other.bytes
  pub characters : difference.chars ≡ one.chars - other.chars
