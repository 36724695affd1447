use Rattle.std.proofs.Common.{length, arith, ap}
use Rattle.py_blocks.proofs.Written.{chars_within}
use Rattle.py_text.proofs.sizes.length_of_each.Goals as goal

pub overflow_add-size : goal.overflow_add-size
overflow_add-size c =
    omega (arith, c.loop-character.invariant.few, c.character_length.ensures.few, ap length c.in-Some.ensures.parts, chars_within c.args.text.now c.utf8.text)
