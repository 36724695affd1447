use Rattle.std.proofs.Common.{rules, ◌≡◌, length, chars, refl, arith}
use Rattle.py_text.proofs.Lines.{nothing-written, done-nothing, run-whole, left-whole, done-last, done-ended}
use Rattle.py_text.proofs.pushing.push_lines.Goals as goal

pub push_as_is-requires : goal.push_as_is-requires
push_as_is-requires c = record { whole = run-whole c.args.coder _ _ _ _ c.cut_at_lf-cut.ensures.cut c.loop-left.invariant.whole }

pub returns-then-not-cut-clause-ok : goal.returns-then-not-cut-clause-ok
returns-then-not-cut-clause-ok c =
    done-last c.args.coder c.args.newline c.args.out.now.items c.loop-left.out.items c.push_as_is.new.out.items (chars c.args.text.now) _ _ _ _ c.loop-left.invariant.done c.cut_at_lf-cut.ensures.cut c.if-not-cut.true c.in_ok-push_as_is.ensures.ok

pub loop-left-preserved : goal.loop-left-preserved
loop-left-preserved c = record {
  is_text = c.cut_at_lf-cut.ensures.left;
  whole = left-whole c.args.coder _ _ _ _ c.cut_at_lf-cut.ensures.cut c.if-not-cut.false c.loop-left.invariant.whole;
  done = done-ended c.args.coder c.args.newline c.args.out.now.items c.loop-left.out.items c.push_as_is.new.out.items c.push_line_end.new.out.items (chars c.args.text.now) _ _ _ _ _ c.loop-left.invariant.done c.cut_at_lf-cut.ensures.cut c.if-not-cut.false c.in_ok-push_as_is.ensures.ok refl c.in_ok-push_line_end.ensures.ok;
  room = omega (arith, c.loop-left.invariant.room, c.in_ok-push_as_is.ensures.capacity, c.in_ok-push_line_end.ensures.capacity);
}

pub returns-clause-ok : goal.returns-clause-ok
returns-clause-ok c =
    let empty : length c.loop-left.left.now ≡ 0 = search rules in
    done-nothing c.args.coder c.args.newline c.args.out.now.items c.loop-left.out.items (chars c.args.text.now) (chars c.loop-left.left.now) c.loop-left.invariant.done (nothing-written c.args.coder c.args.newline c.loop-left.left.now empty)
