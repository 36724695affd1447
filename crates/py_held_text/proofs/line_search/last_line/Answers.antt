use Rattle.std.proofs.Common.{ℕ, Option, false, chars, sym, ap, ◌∙◌}
use Rattle.py_flat.specs.Lines.{first_line, line_after}
use Rattle.py_plain.specs.NewlineRule.{line_end}
use Rattle.py_held_text.proofs.Answering.{from-start, line-cut, line-of, whole-taken}
use Rattle.py_held_text.proofs.line_search.last_line.Goals as goal

pub range-line-requires-clause-end_boundary : goal.range-line-requires-clause-end_boundary
range-line-requires-clause-end_boundary c = (line-cut c.args.text.now _ c.last_line_in-end.result c.utf8.text c.last_line_in-end.ensures).boundary

pub returns-in-Some-clause-line : goal.returns-in-Some-clause-line
returns-in-Some-clause-line c =
    (line-of c.args.text.now c.range-line.result.now _ c.last_line_in-end.result c.in-Some.limit c.front_of.result c.utf8.text (from-start c.args.text.now c.range-line.result.now c.last_line_in-end.result c.range-line.ensures.value) c.last_line_in-end.ensures c.front_of.ensures.count c.front_of.ensures.front).taken
    ∙ ap (λ (limit : Option ℕ). first_line (line_end c.args.newline) limit (chars c.args.text.now)) (sym c.in-Some.is)

pub returns-in-Some-clause-front : goal.returns-in-Some-clause-front
returns-in-Some-clause-front c = (line-of c.args.text.now c.range-line.result.now _ c.last_line_in-end.result c.in-Some.limit c.front_of.result c.utf8.text (from-start c.args.text.now c.range-line.result.now c.last_line_in-end.result c.range-line.ensures.value) c.last_line_in-end.ensures c.front_of.ensures.count c.front_of.ensures.front).front

pub returns-in-None-clause-line : goal.returns-in-None-clause-line
returns-in-None-clause-line c =
    (line-of c.args.text.now c.range-line.result.now _ c.last_line_in-end.result c.last_line_in-end.result c.front_of-in-None.result c.utf8.text (from-start c.args.text.now c.range-line.result.now c.last_line_in-end.result c.range-line.ensures.value) c.last_line_in-end.ensures c.front_of-in-None.ensures.count c.front_of-in-None.ensures.front).taken
    ∙ (whole-taken (chars c.args.text.now) (line_after (line_end c.args.newline) false (chars c.args.text.now)) c.last_line_in-end.result c.last_line_in-end.ensures
    ∙ ap (λ (limit : Option ℕ). first_line (line_end c.args.newline) limit (chars c.args.text.now)) (sym c.in-None.is))

pub returns-in-None-clause-front : goal.returns-in-None-clause-front
returns-in-None-clause-front c = (line-of c.args.text.now c.range-line.result.now _ c.last_line_in-end.result c.last_line_in-end.result c.front_of-in-None.result c.utf8.text (from-start c.args.text.now c.range-line.result.now c.last_line_in-end.result c.range-line.ensures.value) c.last_line_in-end.ensures c.front_of-in-None.ensures.count c.front_of-in-None.ensures.front).front
