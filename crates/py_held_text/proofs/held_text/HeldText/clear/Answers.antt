use Rattle.std.proofs.Common.{◌≡◌, ◌-◌, vec_len, vec_capacity, ap, ◌∙◌, arith}
use Rattle.py_held_text.specs.Held.{HeldView, cleared}
use Rattle.py_held_text.specs.Known.{KnownView}
use Rattle.py_held_text.specs.Plain.{nothing_known}
use Rattle.py_held_text.proofs.Storing.{stored-nothing, nothing-viewed}
use Rattle.py_held_text.proofs.held_text.HeldText.clear.Goals as goal

pub invariant_of-self : goal.invariant_of-self
invariant_of-self c =
    let inside = c.self.inside in
    let now = c.clear-2.new.self in
    stored-nothing inside.coder c.newline.result c.clear.new.self c.default-self-inside.result 0 (vec_len now) now.items c.args.place c.default-self-inside-2.result c.self.invariant.0.0.0 c.clear.ensures c.default-self-inside.ensures c.default-self-inside-2.ensures (omega arith) (omega (arith, c.requires.near, c.clear-2.ensures.len))

pub returns-clause-cleared : goal.returns-clause-cleared
returns-clause-cleared c =
    let inside = c.self.inside in
    let now = c.clear-2.new.self in
    let room = vec_capacity now - vec_len now in
    nothing-viewed inside.coder inside.known.newline c.clear.new.self c.default-self-inside.result now.items c.args.place room (c.clear.ensures ∙ ap nothing_known c.newline.ensures) c.default-self-inside.ensures c.clear-2.ensures.items
    ∙ ap (λ (held : HeldView). cleared held c.args.place room) c.self.view_is
