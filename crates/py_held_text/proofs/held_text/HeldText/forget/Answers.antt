use Rattle.std.proofs.Common.{vec_len, length, ap, ◌≡◌, ◌+◌, ◌≤◌, arith}
use Rattle.std.proofs.lemmas.List.{length-drop}
use Rattle.py_held_text.proofs.Storing.{stored-forgot}
use Rattle.py_held_text.proofs.held_text.HeldText.forget.Goals as goal

pub invariant_of-self : goal.invariant_of-self
invariant_of-self c =
    let inside = c.self.inside in
    let now = c.drop_front.new.bytes in
    let gone = c.min-gone.result in
    let before : gone ≤ inside.gone = omega (arith, c.min-gone.ensures) in
    let apart : gone + inside.plain.bytes ≤ inside.decoded = omega (arith, c.min-gone.ensures, c.self.invariant.1.within) in
    let removed : vec_len now + gone ≡ vec_len inside.bytes = omega (arith, before, c.self.invariant.0.1.from, c.self.invariant.0.1.within, ap length c.drop_front.ensures.items, length-drop gone inside.bytes.items, inside.bytes.ok, now.ok) in
    stored-forgot inside.coder inside.known inside.plain inside.front inside.gone inside.decoded (vec_len inside.bytes) (vec_len now) gone inside.bytes.items now.items inside.given inside.mark inside.ended inside.place inside.walked before apart c.drop_front.ensures.items removed c.self.invariant
