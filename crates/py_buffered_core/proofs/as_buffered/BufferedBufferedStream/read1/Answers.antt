use Rattle.std.proofs.Common.{refl, sym, ◌∙◌}
use Rattle.py_flat.specs.Calls.{Read1, Refused}
use Rattle.py_stream.specs.Replies.{bytes_reply}
use Rattle.py_buffered_core.proofs.AsBuffered.{answers_so, unread}
use Rattle.py_buffered_core.proofs.as_buffered.BufferedBufferedStream.read1.Goals as goal

pub returns-then-reads-clause-answers : goal.returns-then-reads-clause-answers
returns-then-reads-clause-answers g c = answers_so c.args.self.now c.read1.new.self (Read1 c.args.size) (bytes_reply c.read1.result) c.place.ensures.unwritten refl c.read1.ensures.answers c.read1.ensures.taken

pub returns-else-reads-clause-answers : goal.returns-else-reads-clause-answers
returns-else-reads-clause-answers g c =
    let lacks = unread c.self.inside.data c.self.inside.access c.self.inside.seekable c.self.inside.size c.args.size c.self.invariant (sym c.reads.ensures ∙ c.if-reads.false) in
    answers_so c.args.self.now c.refuse.new.self (Read1 c.args.size) (Refused c.refuse.result) c.place.ensures.unwritten refl (c.refuse.ensures.answers (Read1 c.args.size) (rw (← c.self.view_is) lacks)) c.refuse.ensures.taken

pub returns-else-reads-clause-own : goal.returns-else-reads-clause-own
returns-else-reads-clause-own g c =
    let lacks = unread c.self.inside.data c.self.inside.access c.self.inside.seekable c.self.inside.size c.args.size c.self.invariant (sym c.reads.ensures ∙ c.if-reads.false) in
    c.refuse.ensures.answers (Read1 c.args.size) (rw (← c.self.view_is) lacks)
