use Rattle.std.proofs.Common.{rules, ◌≡◌, length, ap, ◌∙◌, arith}
use Rattle.py_blocks.proofs.Written.{chars_within}
use Rattle.py_plain_text.specs.TextWriting.{written_end}
use Rattle.py_text.specs.EachWritten.{each_encoded}
use Rattle.py_text.proofs.Lines.{nothing-written, run-within, last-long, ended-long, end-few}
use Rattle.py_text.proofs.sizes.length_of_lines.Goals as goal

pub overflow_add-size : goal.overflow_add-size
overflow_add-size c =
    omega (arith, c.loop-left.invariant.few, c.length_as_is-size.ensures.few, run-within _ _ _ _ c.cut_at_lf-cut.ensures.cut, chars_within c.args.text.now c.utf8.text)

pub returns-then-not-cut : goal.returns-then-not-cut
returns-then-not-cut c =
    let last = last-long c.args.coder c.args.newline _ _ _ _ c.cut_at_lf-cut.ensures.cut c.if-not-cut.true in
    omega (arith, c.loop-left.invariant.counted, c.length_as_is-size.ensures.bytes, last.0)

pub overflow_add-size-in-loop-left : goal.overflow_add-size-in-loop-left
overflow_add-size-in-loop-left c =
    let more = ended-long c.args.coder c.args.newline _ _ _ _ c.cut_at_lf-cut.ensures.cut c.if-not-cut.false in
    omega (arith, c.loop-left.invariant.few, c.length_as_is-size.ensures.few, c.length_as_is-end.ensures.few, ap length c.line_end.ensures, end-few c.args.newline, more.1, chars_within c.args.text.now c.utf8.text)

pub loop-left-preserved : goal.loop-left-preserved
loop-left-preserved c =
    let more = ended-long c.args.coder c.args.newline _ _ _ _ c.cut_at_lf-cut.ensures.cut c.if-not-cut.false in
    let end : c.length_as_is-end.result ≡ length (each_encoded c.args.coder (written_end c.args.newline)) =
    c.length_as_is-end.ensures.bytes ∙ ap (λ t. length (each_encoded c.args.coder t)) c.line_end.ensures in
    record {
      is_text = c.cut_at_lf-cut.ensures.left;
      counted = omega (arith, c.loop-left.invariant.counted, c.length_as_is-size.ensures.bytes, end, more.0);
      few = omega (arith, c.loop-left.invariant.few, c.length_as_is-size.ensures.few, c.length_as_is-end.ensures.few, ap length c.line_end.ensures, end-few c.args.newline, more.1);
    }

pub returns : goal.returns
returns c =
    let empty : length c.loop-left.left.now ≡ 0 = search rules in
    omega (arith, c.loop-left.invariant.counted, ap length (nothing-written c.args.coder c.args.newline c.loop-left.left.now empty))
