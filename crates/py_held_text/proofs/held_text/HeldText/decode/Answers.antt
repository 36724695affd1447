use Rattle.std.proofs.Common.{refl, arith}
use Rattle.py_held_text.proofs.Holding.{part-decodes, plain-decodes}
use Rattle.py_held_text.proofs.held_text.HeldText.decode.Goals as goal

pub returns-then-front-gt0 : goal.returns-then-front-gt0
returns-then-front-gt0 c = plain-decodes c.args.all c.plain_front-front.result _ _ _ c.decode_part.result (omega (arith, c.if-front-gt0.true)) (c.decode_part.ensures.used refl) c.decode_part.ensures.outcome

pub returns : goal.returns
returns c = part-decodes c.args.all c.size_wanted-size.result _ _ _ c.decode_part-2.result c.size_wanted-size.ensures.all c.decode_part-2.ensures.outcome
