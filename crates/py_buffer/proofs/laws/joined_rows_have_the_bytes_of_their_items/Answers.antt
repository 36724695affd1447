use Rattle.py_buffer.proofs.Gathering.{joined_bytes}
use Rattle.py_buffer.proofs.laws.joined_rows_have_the_bytes_of_their_items.Goals as goal

pub returns : goal.returns
returns c = joined_bytes
