use Rattle.std.proofs.Common.{subst}
use Rattle.py_flat.specs.Calls.{FileCall, Refused}
use Rattle.py_stream.specs.Stream.{Stream}
use Rattle.py_stream.specs.Answers.{Answers, RefusesAlone}
use Rattle.py_unbuffered.specs.Engine.{stream_of}
use Rattle.py_unbuffered.proofs.unbuffered_stream.UnbufferedStream.refuse.Goals as goal

pub returns : goal.returns
returns g c = subst (λ (stream : Stream). (call : FileCall) → RefusesAlone stream call → Answers stream call (Refused c.refuse.result) (stream_of c.refuse.new.stream)) c.self.view_is c.refuse.ensures.answers
