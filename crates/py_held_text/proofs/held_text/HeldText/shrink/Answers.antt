use Rattle.std.proofs.Common.{vec_len}
use Rattle.py_held_text.proofs.Storing.{stored-items}
use Rattle.py_held_text.proofs.held_text.HeldText.shrink.Goals as goal

pub invariant_of-self : goal.invariant_of-self
invariant_of-self c =
    let inside = c.self-then-self-len.inside in
    stored-items inside.coder inside.known inside.plain inside.front inside.gone inside.decoded (vec_len inside.bytes) (vec_len c.trim.new.bytes) inside.bytes.items c.trim.new.bytes.items inside.given inside.mark inside.ended inside.place inside.walked c.trim.ensures.items c.trim.ensures.len c.self-then-self-len.invariant
