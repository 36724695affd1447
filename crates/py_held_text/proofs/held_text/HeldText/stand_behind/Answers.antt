use Rattle.std.proofs.Common.{length, ap, ◌∙◌, arith}
use Rattle.py_held_text.specs.Known.{KnownView}
use Rattle.py_held_text.proofs.Storing.{stored-behind}
use Rattle.py_held_text.proofs.held_text.HeldText.stand_behind.Goals as goal

pub invariant_of-self : goal.invariant_of-self
invariant_of-self c =
    let inside = c.self.inside in
    stored-behind inside.coder inside.known c.put.new.self inside.plain inside.front c.len-self-inside.result inside.gone inside.decoded _ inside.bytes.items inside.given inside.mark inside.ended inside.place _ _ _ inside.walked c.args.self.now (c.self.view_is ∙ c.clear.ensures.cleared) (omega (arith, c.self.invariant.0.1.within, inside.bytes.ok)) (ap (λ (known : KnownView). known.cr) c.put.ensures) (ap (λ (known : KnownView). known.newline) c.put.ensures) c.len-self-inside.ensures c.self.invariant
