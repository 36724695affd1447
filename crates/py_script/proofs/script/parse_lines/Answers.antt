use Rattle.std.proofs.Common.{Bor, List, ℕ, ◌+◌, [], sym, ap, ◌∙◌, arith}
use Rattle.py_script.proofs.Behind.{behind}
use Rattle.py_script.proofs.ScriptLemmas.{calls_from, calls_from_skipped, calls_from_more, calls_from_none}
use Rattle.py_script.proofs.script.parse_lines.Goals as goal

-- no line, which a read past the end gives
no_line : Bor (List ℕ)
no_line = record { ref_ptr = (0, 0); now = [] }

pub loop-line-preserved-then-is_skipped : goal.loop-line-preserved-then-is_skipped
unfolding no_line
loop-line-preserved-then-is_skipped c =
    ap (behind c.loop-line.calls.items) (sym (calls_from_skipped c.args.lines.now c.loop-line.line-index no_line (omega arith) (sym c.is_skipped.ensures ∙ c.if-is_skipped.true)))
    ∙ c.loop-line.invariant

pub loop-line-preserved : goal.loop-line-preserved
unfolding no_line
loop-line-preserved c =
    ap (λ calls. behind calls (calls_from c.args.lines.now (c.loop-line.line-index + 1))) c.in_ok-push-in-Some.ensures.items
    ∙ sym (calls_from_more c.loop-line.calls.items c.in-Some.call c.args.lines.now c.loop-line.line-index no_line (omega arith) (sym c.is_skipped.ensures ∙ c.if-is_skipped.false) (sym c.in_ok-call.ensures ∙ c.in-Some.is))
    ∙ c.loop-line.invariant

pub returns-in-None : goal.returns-in-None
unfolding no_line
returns-in-None c =
    ap (behind c.loop-line.calls.items) (sym (calls_from_none c.args.lines.now c.loop-line.line-index no_line (omega arith) (sym c.is_skipped.ensures ∙ c.if-is_skipped.false) (sym c.in_ok-call.ensures ∙ c.in-None.is)))
    ∙ c.loop-line.invariant
