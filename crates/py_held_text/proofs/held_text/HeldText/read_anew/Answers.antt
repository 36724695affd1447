use Rattle.std.proofs.Common.{◌≡◌, ◌-◌, false, None, vec_len, vec_capacity, ap, ◌∙◌, arith}
use Rattle.py_held_text.specs.Held.{held_anew, view_of}
use Rattle.py_held_text.specs.Known.{KnownView}
use Rattle.py_held_text.specs.Plain.{known_of}
use Rattle.py_held_text.proofs.Backing.{anew-by}
use Rattle.py_held_text.proofs.Storing.{stored-nothing, nothing-shown}
use Rattle.py_held_text.proofs.held_text.HeldText.read_anew.Goals as goal

pub invariant_of-self : goal.invariant_of-self
invariant_of-self c =
    let inside = c.self.inside in
    stored-nothing c.args.coder c.args.newline c.clear.new.self c.default-self-inside.result inside.gone (vec_len inside.bytes) inside.bytes.items (inside.place - (inside.decoded - inside.gone)) c.default-self-inside-2.result c.requires.reads c.clear.ensures c.default-self-inside.ensures c.default-self-inside-2.ensures
    (omega (arith, c.self.invariant.0.1.from, c.self.invariant.0.1.within)) (omega (arith, c.self.invariant.0.1.from, c.self.invariant.0.1.behind, c.self.invariant.0.1.near))

pub returns-clause-anew : goal.returns-clause-anew
returns-clause-anew c =
    let inside = c.self.inside in
    let known : KnownView = known_of inside.known inside.plain.bytes inside.decoded inside.bytes.items in
    let after : KnownView = known_of c.clear.new.self c.default-self-inside.result.bytes inside.gone inside.bytes.items in
    anew-by inside.coder c.args.coder known after c.args.newline inside.bytes.items inside.front inside.gone inside.decoded inside.given inside.place (vec_capacity inside.bytes - vec_len inside.bytes) inside.mark inside.ended c.self.invariant.0.1.from (omega (arith, c.self.invariant.0.1.within, inside.bytes.ok)) (nothing-shown c.args.newline c.clear.new.self c.default-self-inside.result inside.gone inside.bytes.items c.clear.ensures c.default-self-inside.ensures)
    ∙ ap (held_anew c.args.coder c.args.newline) c.self.view_is
