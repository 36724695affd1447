use Rattle.py_flat.specs.declared.fault.IoFault.TheVariants as fault
use Rattle.py_flat.specs.Calls.{Refused}
use Rattle.py_calls.specs.Calls.{file_call}
use Rattle.py_binary.specs.Kinds.{shown, IsHeld}
use Rattle.py_binary.proofs.Answering.{other_refuses}
use Rattle.py_binary.proofs.Leaving.{answers_call, no_detach, served_held}
use Rattle.py_binary.proofs.binary_session.answer_stream.Goals as goal

pub returns-in-ChunkSize-clause-answers : goal.returns-in-ChunkSize-clause-answers
returns-in-ChunkSize-clause-answers g c =
    let held : IsHeld (shown c.args.stream.now) = served_held c.args.stream.now c.requires.served in
    answers_call (shown c.args.stream.now) (file_call c.args.call.now) (Refused fault.Unsupported) (shown c.forget_wait.new.self) held (no_detach _ _ c.requires.stays) (other_refuses (shown c.args.stream.now) (shown c.forget_wait.new.self) c.args.call.now held c.in-ChunkSize.is c.forget_wait.ensures.whole)
