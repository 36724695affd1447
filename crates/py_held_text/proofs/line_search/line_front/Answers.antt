use Rattle.py_plain.specs.NewlineRule.{line_end}
use Rattle.py_held_text.proofs.Answering.{from-start, line-cut, line-of, line-count, line-all}
use Rattle.py_held_text.proofs.line_search.line_front.Goals as goal

pub range-requires-clause-end_boundary : goal.range-requires-clause-end_boundary
range-requires-clause-end_boundary c = (line-cut c.args.text.now _ c.in_ok-end.end c.utf8.text c.in_ok-end.ensures.line).boundary

pub returns-clause-count : goal.returns-clause-count
returns-clause-count c = line-count (line_end c.args.newline) _ c.in_ok-end.end c.front_of.result.chars c.in_ok-end.ensures.line (line-of c.args.text.now c.range.result.now _ c.in_ok-end.end c.in_ok-end.end c.front_of.result c.utf8.text (from-start c.args.text.now c.range.result.now c.in_ok-end.end c.range.ensures.value) c.in_ok-end.ensures.line c.front_of.ensures.count c.front_of.ensures.front).count

pub returns-clause-front : goal.returns-clause-front
returns-clause-front c = (line-of c.args.text.now c.range.result.now _ c.in_ok-end.end c.in_ok-end.end c.front_of.result c.utf8.text (from-start c.args.text.now c.range.result.now c.in_ok-end.end c.range.ensures.value) c.in_ok-end.ensures.line c.front_of.ensures.count c.front_of.ensures.front).front

pub returns-then-end-text-clause-count : goal.returns-then-end-text-clause-count
returns-then-end-text-clause-count c = (line-all (line_end c.args.newline) c.args.text.now c.in_ok-end.end c.args.count c.utf8.text c.if-end-text.true c.in_ok-end.ensures.line c.requires.count).0

pub returns-then-end-text-clause-front : goal.returns-then-end-text-clause-front
returns-then-end-text-clause-front c = (line-all (line_end c.args.newline) c.args.text.now c.in_ok-end.end c.args.count c.utf8.text c.if-end-text.true c.in_ok-end.ensures.line c.requires.count).1
