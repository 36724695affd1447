use Rattle.std.proofs.Common.{chars, arith}
use Rattle.py_blocks.proofs.Written.{chars_within}
use Rattle.py_codec.proofs.RunLengths.{run_length-next, run_length-within}
use Rattle.py_codec.proofs.encoding.run_length.Goals as goal

pub overflow_add-length : goal.overflow_add-length
overflow_add-length c =
    omega (arith, c.loop-character.invariant.counted, run_length-next c.args.encoding c.in-Some.character _ _ c.in-Some.ensures.parts c.if-has_bytes.ensures, run_length-within c.args.encoding (chars c.args.text.now), chars_within c.args.text.now c.utf8.text)
