use Rattle.std.proofs.Common.{◌+◌, ◌≤◌, chars, length, ap, arith}
use Rattle.std.proofs.lemmas.List.{length-drop}
use Rattle.py_codec.proofs.EncodedFrom.{Encodes-wrote}
use Rattle.py_blocks.proofs.Written.{chars_within}
use Rattle.py_codec.proofs.RunLengths.{run_length-next, run_length-within}
use Rattle.py_codec.proofs.Refusals.{run-none_left, run-here, Encodes-character}
use Rattle.py_codec.proofs.refusing.first_run_of_bytes.Goals as goal

pub overflow_add-place : goal.overflow_add-place
overflow_add-place c =
    let came = Encodes-wrote c.loop-character.invariant.encodes.1 (c.split_ascii.ensures.wrote c.loop-character.invariant.encodes.0) in
    omega (arith, came.within, chars_within c.args.text.now c.utf8.text)

pub returns-in_default-clause-run : goal.returns-in_default-clause-run
returns-in_default-clause-run c =
    run-none_left (Encodes-wrote c.loop-character.invariant.encodes.1 (c.split_ascii.ensures.wrote c.loop-character.invariant.encodes.0)) c.in_default.ensures.parts

pub returns-then-not-has_bytes-clause-run : goal.returns-then-not-has_bytes-clause-run
returns-then-not-has_bytes-clause-run c =
    let longer = run_length-next c.args.encoding c.in-Some.character _ _ c.in-Some.ensures.parts c.if-not-has_bytes.ensures in
    let some : 1 ≤ c.run_length.result = omega (arith, c.run_length.ensures, longer) in
    run-here (Encodes-wrote c.loop-character.invariant.encodes.1 (c.split_ascii.ensures.wrote c.loop-character.invariant.encodes.0)) c.run_length.ensures some

pub returns-then-not-has_bytes-clause-within : goal.returns-then-not-has_bytes-clause-within
returns-then-not-has_bytes-clause-within c =
    let came = Encodes-wrote c.loop-character.invariant.encodes.1 (c.split_ascii.ensures.wrote c.loop-character.invariant.encodes.0) in
    omega (arith, came.within, c.run_length.ensures, run_length-within c.args.encoding (chars c.split_ascii.result.1.now), ap length came.rest, length-drop (c.loop-character.place + length c.split_ascii.result.0.now) (chars c.args.text.now))

pub overflow_add-place-in-loop-character : goal.overflow_add-place-in-loop-character
overflow_add-place-in-loop-character c =
    let came = Encodes-wrote c.loop-character.invariant.encodes.1 (c.split_ascii.ensures.wrote c.loop-character.invariant.encodes.0) in
    let further = Encodes-character came c.in-Some.ensures.parts c.if-not-has_bytes.ensures in
    omega (arith, further.1.within, chars_within c.args.text.now c.utf8.text)

pub loop-character-preserved : goal.loop-character-preserved
loop-character-preserved c =
    let came = Encodes-wrote c.loop-character.invariant.encodes.1 (c.split_ascii.ensures.wrote c.loop-character.invariant.encodes.0) in
    record {
      is_text = c.in-Some.ensures.utf8;
      encodes = Encodes-character came c.in-Some.ensures.parts c.if-not-has_bytes.ensures;
    }
