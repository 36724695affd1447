use Rattle.std.proofs.Common.{ℕ, not, Option, inr, refl, ap}
use Rattle.py_flat.specs.Calls.{Detach, Refused}
use Rattle.py_stream.specs.Stream.{buffering_of}
use Rattle.py_flat.specs.Refusals.{is_buffered}
use Rattle.py_stream.specs.Answers.{Answers}
use Rattle.py_binary.specs.Kinds.{IsUnbuffered}
use Rattle.py_binary.proofs.Answering.{with_reply_room}
use Rattle.py_binary.proofs.Leaving.{unbuffered_on, no_answer}
use Rattle.py_binary.proofs.binary_session.detach_stream.Goals as goal

pub returns-in-Unbuffered : goal.returns-in-Unbuffered
returns-in-Unbuffered g c =
    let served : IsUnbuffered c.in-Unbuffered.stream = rw c.in-Unbuffered.is at c.requires.served in
    let answers : Answers c.in-Unbuffered.stream Detach (Refused c.refuse.result) c.refuse.new.self = c.refuse.ensures Detach (refl, refl, inr (ap (λ (buffer : Option ℕ). not (is_buffered (buffering_of buffer))) served.bare)) in
    (rw c.in-Unbuffered.is answers, unbuffered_on c.in-Unbuffered.stream Detach (Refused c.refuse.result) c.refuse.new.self served (no_answer Detach c.refuse.result) (with_reply_room _ _ _ _ answers))
