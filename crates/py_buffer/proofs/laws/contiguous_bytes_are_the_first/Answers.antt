use Rattle.py_buffer.proofs.Gathering.{contiguous_bytes, bytes_length}
use Rattle.py_buffer.proofs.laws.contiguous_bytes_are_the_first.Goals as goal

pub returns-clause-first : goal.returns-clause-first
returns-clause-first c = contiguous_bytes

pub returns-clause-many : goal.returns-clause-many
returns-clause-many c = bytes_length
