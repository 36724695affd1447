use Rattle.std.proofs.Common.{refl}
use Rattle.py_blocks.proofs.Appended.{text_of-push}
use Rattle.py_codec.proofs.replacing.push_builtin.Goals as goal

pub returns-in_ok-push-in-Replace-clause-shown : goal.returns-in_ok-push-in-Replace-clause-shown
returns-in_ok-push-in-Replace-clause-shown c = λ place.
    rw c.in-Replace.is (text_of-push c.args.text.now c.push.new.self 0xFFFD c.in_ok-push-in-Replace.ensures.bytes, refl)
