use Rattle.std.proofs.Common.{◌-◌, ◌^◌, false, List, ℕ, drop, ap, ◌∙◌, arith}
use Rattle.py_codec.specs.Answers.{text_of}
use Rattle.py_held_text.specs.Known.{KnownView}
use Rattle.py_held_text.proofs.Knowing.{known-put, all-counted}
use Rattle.py_held_text.proofs.known_text.KnownText.put.Goals as goal

pub overflow_sub-self : goal.overflow_sub-self
overflow_sub-self c = omega (arith, c.requires.within, all-counted c.args.text c.deref.result.now (2 ^ 64 - 1) c.front_of.result.chars (omega arith) c.deref.ensures c.front_of.ensures.count)

pub invariant_of-self : goal.invariant_of-self
invariant_of-self c = (known-put c.self.inside.newline c.args.text c.args.skipped c.requires c.front_of.result.chars (all-counted c.args.text c.deref.result.now (2 ^ 64 - 1) c.front_of.result.chars (omega arith) c.deref.ensures c.front_of.ensures.count)).0

pub returns : goal.returns
returns c =
    ap (λ (cs : List ℕ). record { newline = c.self.inside.newline; characters = cs; cr = false }) (known-put c.self.inside.newline c.args.text c.args.skipped c.requires c.front_of.result.chars (all-counted c.args.text c.deref.result.now (2 ^ 64 - 1) c.front_of.result.chars (omega arith) c.deref.ensures c.front_of.ensures.count)).1
    ∙ ap (λ (known : KnownView). record { newline = known.newline; characters = drop c.args.skipped.chars (text_of c.args.text); cr = false }) c.self.view_is
