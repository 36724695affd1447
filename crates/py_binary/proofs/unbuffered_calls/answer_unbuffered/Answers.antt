use Rattle.std.proofs.Common.{rules}
use Rattle.py_stream.specs.Replies.{bytes_reply, lines_reply, taken_reply, place_reply, done_reply}
use Rattle.py_calls.specs.Calls.{file_call}
use Rattle.py_binary.proofs.Answering.{with_said, with_reply_room}
use Rattle.py_binary.proofs.Alone.{refuses_other, bare_reads_once, bare_looks, bare_reads_into_once}
use Rattle.py_binary.proofs.unbuffered_calls.answer_unbuffered.Goals as goal

pub returns-in-WriteLines : goal.returns-in-WriteLines
returns-in-WriteLines g c = rw c.in-WriteLines.is (with_said _ _ (done_reply c.writelines.result) _ _ c.done_reply.ensures c.writelines.ensures)

pub returns-in-Seek : goal.returns-in-Seek
returns-in-Seek g c = rw c.in-Seek.is (with_said _ _ (place_reply c.seek.result) _ _ c.place_reply.ensures (search rules))

pub returns-in_default : goal.returns-in_default
returns-in_default g c =
    with_reply_room _ _ _ _ (c.refuse.ensures (file_call c.args.call.now) (refuses_other c.args.stream.now c.args.call.now c.requires.asks c.requires.known c.requires.stays (λ size is. bare_reads_once c.args.stream.now size c.requires.served.bare) (λ is. bare_looks c.args.stream.now c.requires.served.bare) (λ size is. bare_reads_into_once c.args.stream.now size c.requires.served.bare) c.in_default.not-Read c.in_default.not-ReadLine c.in_default.not-ReadLines c.in_default.not-ReadInto c.in_default.not-Write c.in_default.not-WriteLines c.in_default.not-Seek c.in_default.not-Tell c.in_default.not-Truncate c.in_default.not-Flush c.in_default.not-Close))

pub returns-in-Write : goal.returns-in-Write
returns-in-Write g c = rw c.in-Write.is (with_said _ _ (taken_reply c.write.result) _ _ c.taken_reply.ensures (rw c.as_slice.ensures at c.write.ensures))

pub returns-in-Read : goal.returns-in-Read
returns-in-Read g c = rw c.in-Read.is (with_said _ _ (bytes_reply c.read.result) _ _ c.bytes_reply.ensures c.read.ensures)

pub returns-in-ReadLines : goal.returns-in-ReadLines
returns-in-ReadLines g c = rw c.in-ReadLines.is (with_said _ _ (lines_reply c.readlines.result) _ _ c.lines_reply.ensures c.readlines.ensures)

pub returns-in-ReadLine : goal.returns-in-ReadLine
returns-in-ReadLine g c = rw c.in-ReadLine.is (with_said _ _ (bytes_reply c.readline.result) _ _ c.bytes_reply-in-ReadLine.ensures c.readline.ensures)
