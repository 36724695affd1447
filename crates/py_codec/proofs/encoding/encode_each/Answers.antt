use Rattle.std.proofs.Common.{◌≡◌, ◌≤◌, [], chars, sym, ◌∙◌, arith}
use Rattle.std.proofs.lemmas.Result.{err_from_is_err_and}
use Rattle.py_codec.specs.Treating.{encode_fault}
use Rattle.py_blocks.proofs.Written.{chars_within}
use Rattle.py_codec.proofs.EncodedFrom.{Encodes-wrote, Encodes-treated, answer-all, answer-fault}
use Rattle.py_codec.proofs.encoding.encode_each.Goals as goal

pub overflow_add-place : goal.overflow_add-place
overflow_add-place g c =
    let written = Encodes-wrote c.loop-count.invariant.encodes c.in-Ok-push_written.ensures.wrote in
    omega (arith, written.within, chars_within c.args.text.now c.utf8.text)

pub returns-then-length-eq0 : goal.returns-then-length-eq0
returns-then-length-eq0 g c =
    let written = Encodes-wrote c.loop-count.invariant.encodes c.in-Ok-push_written.ensures.wrote in
    let none : chars c.in-Ok-push_written.behind.now ≡ [] = c.in-Ok-push_written.ensures.stops (sym c.run_length-length.ensures ∙ c.if-length-eq0.true) in
    answer-all (encode_fault g.H.ErrorHandler.encodes c.args.errors c.args.encoding (chars c.args.text.now)) written none

pub push_substitute-requires-clause-rest : goal.push_substitute-requires-clause-rest
push_substitute-requires-clause-rest g c =
    let written = Encodes-wrote c.loop-count.invariant.encodes c.in-Ok-push_written.ensures.wrote in
    written.rest

pub returns-in_err-used : goal.returns-in_err-used
returns-in_err-used g c =
    let p = err_from_is_err_and c.from_residual.result c.from_residual.ensures.1 in
    let written = Encodes-wrote c.loop-count.invariant.encodes c.in-Ok-push_written.ensures.wrote in
    let some : 1 ≤ c.run_length-length.result = omega arith in
    rw (p.1, p.2) (answer-fault (encode_fault g.H.ErrorHandler.encodes c.args.errors c.args.encoding (chars c.args.text.now)) c.in_err-used.field-0.0 written c.run_length-length.ensures some c.in_err-used.ensures.err)

pub overflow_add-place-in-loop-count : goal.overflow_add-place-in-loop-count
overflow_add-place-in-loop-count g c =
    let written = Encodes-wrote c.loop-count.invariant.encodes c.in-Ok-push_written.ensures.wrote in
    let some : 1 ≤ c.run_length-length.result = omega arith in
    let done = Encodes-treated written c.run_length-length.ensures some c.in_ok-used.ensures.treated c.in_ok-used.ensures.behind c.in_ok-used.ensures.within in
    omega (arith, done.within, chars_within c.args.text.now c.utf8.text)

pub loop-count-preserved : goal.loop-count-preserved
loop-count-preserved g c =
    let written = Encodes-wrote c.loop-count.invariant.encodes c.in-Ok-push_written.ensures.wrote in
    let some : 1 ≤ c.run_length-length.result = omega arith in
    record {
      is_text = c.in_ok-used.ensures.utf8;
      encodes = Encodes-treated written c.run_length-length.ensures some c.in_ok-used.ensures.treated c.in_ok-used.ensures.behind c.in_ok-used.ensures.within;
    }
