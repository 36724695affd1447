use Rattle.std.proofs.Common.{vec_len}
use Rattle.py_held_text.proofs.Storing.{stored-items}
use Rattle.py_held_text.proofs.held_text.HeldText.reserve.Goals as goal

pub invariant_of-self : goal.invariant_of-self
invariant_of-self c =
    let inside = c.self.inside in
    stored-items inside.coder inside.known inside.plain inside.front inside.gone inside.decoded (vec_len inside.bytes) (vec_len c.reserve.new.self) inside.bytes.items c.reserve.new.self.items inside.given inside.mark inside.ended inside.place inside.walked c.reserve.ensures.items c.reserve.ensures.len c.self.invariant

pub invariant_of-self-2 : goal.invariant_of-self-2
invariant_of-self-2 c =
    let inside = c.self.inside in
    stored-items inside.coder inside.known inside.plain inside.front inside.gone inside.decoded (vec_len inside.bytes) (vec_len c.reserve.new.self) inside.bytes.items c.reserve.new.self.items inside.given inside.mark inside.ended inside.place inside.walked c.reserve.ensures.items c.reserve.ensures.len c.self.invariant
