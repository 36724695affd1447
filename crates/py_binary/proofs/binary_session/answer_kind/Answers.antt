use Rattle.py_calls.specs.Calls.{file_call, said}
use Rattle.py_binary.specs.Kinds.{buffered_as, IsBuffered, IsUnbuffered}
use Rattle.py_binary.proofs.Leaving.{answers_call, no_detach, buffered_on, unbuffered_on}
use Rattle.py_binary.proofs.binary_session.answer_kind.Goals as goal

pub returns-in-Buffered-clause-answers : goal.returns-in-Buffered-clause-answers
returns-in-Buffered-clause-answers g c =
    let served : IsBuffered (buffered_as c.in-Buffered.stream) = rw c.in-Buffered.is at c.requires.served in
    rw c.in-Buffered.is (answers_call (buffered_as c.in-Buffered.stream) (file_call c.args.call.now) (said c.answer_buffered.result) (buffered_as c.answer_buffered.new.stream) served.held (no_detach _ _ c.requires.stays) c.answer_buffered.ensures)

pub returns-in-Buffered-clause-served : goal.returns-in-Buffered-clause-served
returns-in-Buffered-clause-served g c =
    let served : IsBuffered (buffered_as c.in-Buffered.stream) = rw c.in-Buffered.is at c.requires.served in
    buffered_on (buffered_as c.in-Buffered.stream) (file_call c.args.call.now) (said c.answer_buffered.result) (buffered_as c.answer_buffered.new.stream) served (no_detach _ _ c.requires.stays) c.answer_buffered.ensures

pub returns-in-Unbuffered-clause-answers : goal.returns-in-Unbuffered-clause-answers
returns-in-Unbuffered-clause-answers g c =
    let served : IsUnbuffered c.in-Unbuffered.stream = rw c.in-Unbuffered.is at c.requires.served in
    rw c.in-Unbuffered.is (answers_call c.in-Unbuffered.stream (file_call c.args.call.now) (said c.answer_unbuffered.result) c.answer_unbuffered.new.stream served.held (no_detach _ _ c.requires.stays) c.answer_unbuffered.ensures)

pub returns-in-Unbuffered-clause-served : goal.returns-in-Unbuffered-clause-served
returns-in-Unbuffered-clause-served g c =
    let served : IsUnbuffered c.in-Unbuffered.stream = rw c.in-Unbuffered.is at c.requires.served in
    unbuffered_on c.in-Unbuffered.stream (file_call c.args.call.now) (said c.answer_unbuffered.result) c.answer_unbuffered.new.stream served (no_detach _ _ c.requires.stays) c.answer_unbuffered.ensures
