use Rattle.std.proofs.Common.{rules, vec_len, length, ap, ◌≡◌, ◌+◌, ◌++◌, ◌≤◌, arith}
use Rattle.std.proofs.lemmas.List.{length-drop}
use Rattle.py_flat.specs.Limits.{greatest_place}
use Rattle.py_held_text.specs.Held.{HeldView}
use Rattle.py_held_text.proofs.Storing.{stored-pushed}
use Rattle.py_held_text.proofs.held_text.HeldText.push.Goals as goal

pub invariant_of-self : goal.invariant_of-self
invariant_of-self c =
    let inside = c.self.inside in
    let now = c.extend_from_slice.new.self in
    let part = c.args.part.now in
    let items_are : now.items ≡ inside.bytes.items ++ part = search rules in
    let total : vec_len now ≡ vec_len inside.bytes + length part = search rules in
    let whole : vec_len inside.bytes ≡ length inside.bytes.items = omega (arith, inside.bytes.ok) in
    let near : inside.place + vec_len now ≤ greatest_place + inside.decoded = omega (arith, c.requires.near, total, ap (λ (held : HeldView). held.place + length held.bytes) c.self.view_is, length-drop inside.decoded inside.bytes.items, whole, c.self.invariant.0.1.within) in
    stored-pushed inside.coder inside.known inside.plain inside.front inside.gone inside.decoded (vec_len inside.bytes) (vec_len now) inside.bytes.items now.items part inside.given inside.mark inside.ended inside.place inside.walked whole items_are total near c.self.invariant
