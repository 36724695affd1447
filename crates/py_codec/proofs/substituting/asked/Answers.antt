use Rattle.std.proofs.Common.{arith}
use Rattle.py_blocks.proofs.Written.{chars_within}
use Rattle.py_codec.proofs.substituting.asked.Goals as goal

pub overflow_add-result : goal.overflow_add-result
overflow_add-result g c = omega (arith, chars_within c.args.text.now c.utf8.text)

pub encode_error-requires : goal.encode_error-requires
encode_error-requires g c = omega (arith, chars_within c.args.text.now c.utf8.text)

pub overflow_add-place : goal.overflow_add-place
overflow_add-place g c = omega (arith, chars_within c.args.text.now c.utf8.text)

pub encode_error-requires-in-Err-Refuse : goal.encode_error-requires-in-Err-Refuse
encode_error-requires-in-Err-Refuse g c = omega (arith, chars_within c.args.text.now c.utf8.text)
