use Rattle.std.proofs.Common.{inl, inr, arith}
use Rattle.py_engine.proofs.Random.{lines_are_in, short_past}
use Rattle.py_engine.proofs.data.random.lines_in.Goals.{then-most-eq0-via-then-most-eq0, then-most-eq0-via-else-most-eq0+then-bytes-most}
use Rattle.py_engine.proofs.data.random.lines_in.Goals as goal

pub returns-then-most-eq0 : goal.returns-then-most-eq0
returns-then-most-eq0 c = elim c.then-most-eq0.branch [
  | then-most-eq0-via-then-most-eq0 w ↦ short_past c.args.hint c.args.bytes.now (inl (omega (arith, c.unwrap_or-most.ensures, w.if-most-eq0.true)))
  | then-most-eq0-via-else-most-eq0+then-bytes-most w ↦ short_past c.args.hint c.args.bytes.now (inr (omega (arith, c.unwrap_or-most.ensures, w.if-bytes-most.true)))
]

pub returns-in-Enough : goal.returns-in-Enough
returns-in-Enough c = (lines_are_in c.new-collector.result c.collect.new.self c.args.hint c.args.bytes.now c.in-Enough.used c.into_lines.result c.new-collector.ensures.new (rw c.in-Enough.is at c.in_ok-used.ensures.outcome) c.into_lines.ensures.all, c.into_lines.ensures.cut)
