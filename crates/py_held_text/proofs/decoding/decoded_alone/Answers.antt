use Rattle.std.proofs.Common.{true, ◌∙◌, arith}
use Rattle.py_held_text.proofs.Decoded.{all-anywhere}
use Rattle.py_held_text.proofs.decoding.decoded_alone.Goals as goal

pub returns-clause-characters : goal.returns-clause-characters
returns-clause-characters c = λ place.
    c.in_ok-text.ensures.text
    ∙ all-anywhere c.args.coder.errors c.args.coder.encoding true c.args.bytes.now _ place c.in_ok-text.field-0-1 c.in_ok-text.ensures.part c.in_ok-text.ensures.within (omega (arith, c.requires.few))
