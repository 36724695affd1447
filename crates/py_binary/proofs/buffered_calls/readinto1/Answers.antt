use Rattle.std.proofs.Common.{◌≡◌, ◌≢◌, ◌⊎◌, Bool, false, refl, subst₂}
use Rattle.py_flat.specs.declared.life.Life.{Life}
use Rattle.py_flat.specs.declared.life.Life.TheVariants as life
use Rattle.py_flat.specs.Calls.{ReadInto1}
use Rattle.py_binary.specs.Kinds.{buffered_as}
use Rattle.py_binary.proofs.Answering.{with_reply_room, into_answers}
use Rattle.py_binary.proofs.Alone.{unasked_refuses}
use Rattle.py_binary.proofs.buffered_calls.readinto1.Goals as goal

pub returns-in-Unasked : goal.returns-in-Unasked
returns-in-Unasked g c =
    let space = rw c.in-Unasked.is at c.space_for.ensures in
    with_reply_room _ _ _ _ (c.refuse.ensures (ReadInto1 c.args.size) (unasked_refuses (buffered_as c.args.stream.now) (ReadInto1 c.args.size) refl (subst₂ (λ (reads : Bool) (current : Life). (reads ≡ false) ⊎ (current ≢ life.Live)) c.readable.ensures c.life.ensures space)))

pub returns-in-Taken : goal.returns-in-Taken
returns-in-Taken g c =
    let space = rw c.in-Taken.is at c.space_for.ensures in
    into_answers (buffered_as c.args.stream.now) ReadInto1 c.args.size c.in-Taken.buffer.len c.in-Taken.buffer.items c.deref_mut.result.now c.readinto1-answer.new.buffer c.readinto1-answer.result _ _ c.deref_mut.ensures.len space.0 c.readinto1-answer.ensures.length c.into_reply.ensures c.readinto1-answer.ensures.answers
