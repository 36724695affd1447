use Rattle.std.proofs.Common.{rules}
use Rattle.std.specs.List.{IsDistinct}
use Rattle.py_memio.proofs.bytes_io.BytesIO.new.Goals as goal

pub invariant_of-result : goal.invariant_of-result
unfolding IsDistinct
invariant_of-result c = record { within = search rules; number = search rules; given = search rules; apart = search rules; shut = search rules }
