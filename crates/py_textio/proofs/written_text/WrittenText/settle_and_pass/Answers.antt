use Rattle.std.specs.Prelude.{vec_capacity, vec_len}
use Rattle.std.proofs.Common.{◌-◌}
use Rattle.py_textio.proofs.Giving.{settled_stands, passed_at}
use Rattle.py_textio.proofs.written_text.WrittenText.settle_and_pass.Goals as goal

pub pass_on-requires-clause-stands : goal.pass_on-requires-clause-stands
pass_on-requires-clause-stands g c =
    settled_stands c.args.self.now c.settle_or_let_go.new.self c.requires.stands c.in-Ok.ensures.outcome.0 c.in-Ok.ensures.outcome.1 c.in-Ok.ensures.there

pub returns-in-Ok-clause-outcome : goal.returns-in-Ok-clause-outcome
returns-in-Ok-clause-outcome g c =
    passed_at c.args.self.now c.settle_or_let_go.new.self c.pass_on.new.self c.self.inside.text c.self.inside.pending.items (vec_capacity c.self.inside.pending - vec_len c.self.inside.pending) c.args.count c.self.inside.life c.pass_on.result c.self.view_is c.self.invariant.0 c.requires.live c.in-Ok.ensures.joined c.requires.stands c.requires.behind c.requires.some c.requires.count c.in-Ok.ensures.outcome c.pass_on.ensures.outcome
