use Rattle.std.proofs.Common.{◌+◌, ◌≤◌, chars, length, ap, arith}
use Rattle.std.proofs.lemmas.List.{length-drop}
use Rattle.py_blocks.proofs.Written.{chars_within}
use Rattle.py_codec.proofs.RunLengths.{run_length-within}
use Rattle.py_codec.proofs.Answering.{is_restart-past, bad_restart}
use Rattle.py_codec.proofs.substituting.push_substitute.Goals as goal

pub asked-requires-clause-within : goal.asked-requires-clause-within
asked-requires-clause-within g c =
    omega (arith, run_length-within c.args.encoding (chars c.args.left.now), ap length c.requires.rest, length-drop c.args.place (chars c.args.text.now))

pub encode_error-requires : goal.encode_error-requires
encode_error-requires g c =
    omega (arith, run_length-within c.args.encoding (chars c.args.left.now), ap length c.requires.rest, length-drop c.args.place (chars c.args.text.now), chars_within c.args.text.now c.utf8.text)

pub returns-in_default-clause-err : goal.returns-in_default-clause-err
returns-in_default-clause-err g c =
    let text = chars c.args.text.now in
    let left = chars c.args.left.now in
    let within : c.args.place + c.args.size ≤ length text =
    omega (arith, run_length-within c.args.encoding left, ap length c.requires.rest, length-drop c.args.place text) in
    let past = is_restart-past c.args.place (length text) c.in_ok-given.restart
    (omega (arith, c.in_default.ensures.behind, ap length c.requires.rest, length-drop c.args.place text)) in
    bad_restart g.H.ErrorHandler.encodes c.args.errors c.args.encoding text c.args.place left c.args.size c.in_ok-given.given c.in_ok-given.restart c.requires.some within c.in_ok-given.ensures.given past
