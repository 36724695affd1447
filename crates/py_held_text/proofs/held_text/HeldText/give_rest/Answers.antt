use Rattle.std.proofs.Common.{List, ℕ, vec_len, ap, subst, sym}
use Rattle.py_held_text.specs.Known.{KnownView}
use Rattle.py_held_text.proofs.Storing.{IsStored, stored-items}
use Rattle.py_held_text.proofs.held_text.HeldText.give_rest.Goals as goal

pub invariant_of-self : goal.invariant_of-self
invariant_of-self c =
    let inside = c.self.inside in
    let now = c.take_known.new.bytes in
    stored-items inside.coder c.take_known.new.known inside.plain inside.front inside.gone inside.decoded (vec_len inside.bytes) (vec_len now) inside.bytes.items now.items inside.given inside.mark inside.ended inside.place inside.walked (ap (λ bytes. bytes.items) c.in_err-text.ensures.bytes) (ap vec_len c.in_err-text.ensures.bytes)
    (subst (λ (own : KnownView). IsStored inside.coder own inside.plain inside.front inside.gone inside.decoded (vec_len inside.bytes) inside.bytes.items inside.given inside.mark inside.ended inside.place inside.walked) (sym c.in_err-text.ensures.known) c.self.invariant)
