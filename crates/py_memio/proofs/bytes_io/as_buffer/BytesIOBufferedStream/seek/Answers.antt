use Rattle.std.proofs.Common.{ℤ, to_z, of_z, w32, w64, refl, subst, arith}
use Rattle.std.proofs.lemmas.Int.{to_z-of_z}
use Rattle.py_flat.specs.Calls.{Seek}
use Rattle.py_stream.specs.Replies.{place_reply}
use Rattle.py_memio.specs.InMemory.{AnswersInMemory}
use Rattle.py_memio.specs.BytesIO.{BytesView, is_lent}
use Rattle.py_memio.proofs.AsBuffer.{meets}
use Rattle.py_memio.proofs.bytes_io.as_buffer.BytesIOBufferedStream.seek.Goals as goal

-- the answer, by the offset and the whence that were passed
exact : (c : goal.After-self-2-1) → AnswersInMemory (is_lent c.args.self.now) c.args.self.now.file (Seek c.args.offset c.args.whence) (place_reply c.seek-place.result) c.seek-place.new.self.file
exact c =
    let after : BytesView = c.seek-place.new.self in
    let now : BytesView = c.args.self.now in
    let done = c.seek-place.ensures in
    let as_called : AnswersInMemory (is_lent now) now.file (Seek c.args.offset (to_z w32 (of_z w32 c.args.whence))) (place_reply c.seek-place.result) after.file =
    subst (λ (offset : ℤ). AnswersInMemory (is_lent now) now.file (Seek offset (to_z w32 (of_z w32 c.args.whence))) (place_reply c.seek-place.result) after.file) (to_z-of_z w64 c.args.offset c.ranges.offset) done.answer in
    subst (λ (whence : ℤ). AnswersInMemory (is_lent now) now.file (Seek c.args.offset whence) (place_reply c.seek-place.result) after.file) (to_z-of_z w32 c.args.whence c.ranges.whence) as_called

pub returns-clause-exact : goal.returns-clause-exact
returns-clause-exact c = exact c

pub returns-clause-answers : goal.returns-clause-answers
returns-clause-answers c =
    let done = c.seek-place.ensures in
    meets c.self.inside.closed c.self-2.inside.closed (Seek c.args.offset c.args.whence) (place_reply c.seek-place.result) c.self.view_is c.self-2.view_is c.self.invariant.within c.self-2.invariant.within (omega arith) c.self.invariant.shut refl done.exports done.taken (exact c)
