use Rattle.py_stream.proofs.Buffering.{answers_as_buffer}
use Rattle.py_stream.proofs.laws.a_stream_answers_as_a_buffered_one.Goals as goal

pub returns : goal.returns
returns c = answers_as_buffer
