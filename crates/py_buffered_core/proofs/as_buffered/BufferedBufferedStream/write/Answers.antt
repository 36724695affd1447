use Rattle.std.proofs.Common.{◌≡◌, false, refl, sym, ◌∙◌}
use Rattle.py_flat.specs.Calls.{Write, Refused}
use Rattle.py_stream.specs.Answers.{Answers}
use Rattle.py_stream.specs.Replies.{count_reply}
use Rattle.py_buffered_core.specs.Buffered.{seen_of}
use Rattle.py_buffered_core.proofs.AsBuffered.{write_takes, answers_so, unwritten, takes_none}
use Rattle.py_buffered_core.proofs.as_buffered.BufferedBufferedStream.write.Goals as goal

pub returns-then-writes-clause-answers : goal.returns-then-writes-clause-answers
returns-then-writes-clause-answers g c =
    let counts = write_takes (seen_of c.args.self.now) (seen_of c.write.new.self) c.buffer_size.result c.args.bytes.now c.write.result c.buffer_size.ensures c.write.ensures.answers in
    answers_so c.args.self.now c.write.new.self (Write c.args.bytes.now) (count_reply c.write.result) c.place.ensures.unwritten refl c.write.ensures.answers (c.write.ensures.taken ∙ sym counts.taken)

pub returns-else-writes-clause-answers : goal.returns-else-writes-clause-answers
returns-else-writes-clause-answers g c =
    let lacks = unwritten c.self.inside.data c.self.inside.access c.self.inside.seekable c.self.inside.size c.args.bytes.now c.self.invariant (sym c.writes.ensures ∙ c.if-writes.false) in
    let answers : Answers (seen_of c.args.self.now) (Write c.args.bytes.now) (Refused c.refuse.result) (seen_of c.refuse.new.self) = rw (← c.self.view_is) (c.refuse.ensures.answers (Write c.args.bytes.now) lacks) in
    let same : seen_of c.refuse.new.self ≡ record (seen_of c.args.self.now) { short = false } = rw (← c.self.view_is) c.refuse.ensures.same in
    answers_so c.args.self.now c.refuse.new.self (Write c.args.bytes.now) (Refused c.refuse.result) c.place.ensures.unwritten refl answers
    (c.refuse.ensures.taken ∙ takes_none (seen_of c.args.self.now) (seen_of c.refuse.new.self) c.args.self.now.taken c.args.bytes.now same)

pub returns-else-writes-clause-own : goal.returns-else-writes-clause-own
returns-else-writes-clause-own g c =
    let lacks = unwritten c.self.inside.data c.self.inside.access c.self.inside.seekable c.self.inside.size c.args.bytes.now c.self.invariant (sym c.writes.ensures ∙ c.if-writes.false) in
    rw (← c.self.view_is) (c.refuse.ensures.answers (Write c.args.bytes.now) lacks)
