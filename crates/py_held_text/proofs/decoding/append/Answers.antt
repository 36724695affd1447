use Rattle.std.proofs.Common.{rules, ◌≡◌, ◌++◌, List, ℕ, ap, ◌∙◌, chars}
use Rattle.std.specs.String.{string_len}
use Rattle.py_codec.specs.Answers.{text_of}
use Rattle.py_blocks.proofs.Appended.{text_of-push_str}
use Rattle.py_held_text.proofs.Decoded.{behind-empty}
use Rattle.py_held_text.proofs.decoding.append.Goals as goal

pub returns-then-is_empty-clause-appended : goal.returns-then-is_empty-clause-appended
returns-then-is_empty-clause-appended c =
    let empty : string_len c.args.text.now ≡ 0 = search rules in
    behind-empty c.args.text.now c.args.more empty

pub returns-clause-appended : goal.returns-clause-appended
returns-clause-appended c =
    text_of-push_str c.args.text.now c.push_str.new.self c.deref.result.now c.in_ok-push_str.ensures.bytes
    ∙ ap (λ (t : List ℕ). text_of c.args.text.now ++ t) (ap chars c.deref.ensures)
