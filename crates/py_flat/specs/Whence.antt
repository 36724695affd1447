-- The numbers from where a seek counts (`SEEK_SET`, `SEEK_CUR` and `SEEK_END` of Python's `io`).
use Rattle.std.specs.Prelude.{ℤ, pos}
use Rattle.py_flat.specs.declared.whence.Whence.{Whence}
use Rattle.py_flat.specs.declared.whence.Whence.TheVariants.{Start, Current, End}

-- the number of what a seek counts from: 0 for the start, 1 for the place, 2 for the end
abbrev pub number_of : Whence → ℤ
number_of Start = pos 0
number_of Current = pos 1
number_of End = pos 2
