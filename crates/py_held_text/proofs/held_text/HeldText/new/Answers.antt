use Rattle.std.proofs.Common.{◌≡◌, ◌-◌, [], None, false, ap, vec_len, vec_capacity, refl, ◌∙◌, arith}
use Rattle.py_held_text.specs.Held.{nothing_held, view_of}
use Rattle.py_held_text.specs.Known.{KnownView}
use Rattle.py_held_text.proofs.Storing.{stored-nothing, nothing-viewed}
use Rattle.py_held_text.proofs.held_text.HeldText.new.Goals as goal

pub invariant_of-result : goal.invariant_of-result
invariant_of-result c =
    stored-nothing c.args.coder c.args.newline c.new.result c.default.result 0 (vec_len c.new-2.result) c.new-2.result.items c.args.place c.default-2.result c.requires.reads c.new.ensures c.default.ensures c.default-2.ensures (omega arith) (omega (arith, c.requires.near, c.new-2.ensures.len))

pub returns : goal.returns
returns c =
    let room : vec_capacity c.new-2.result - vec_len c.new-2.result ≡ 0 = omega (arith, c.new-2.ensures.capacity) in
    nothing-viewed c.args.coder c.args.newline c.new.result c.default.result c.new-2.result.items c.args.place _ c.new.ensures c.default.ensures c.new-2.ensures.items
    ∙ ap (nothing_held c.args.coder c.args.newline c.args.place) room
