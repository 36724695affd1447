use Rattle.std.proofs.Common.{List, ℕ, ◌≡◌, chars, take, length, sym, ap, ◌∙◌}
use Rattle.py_plain.specs.NewlineRule.{line_end}
use Rattle.py_held_text.proofs.Answering.{from-start, line-cut, line-of, whole-taken, limited-count, part-of, part-begin, part-line, part-open}
use Rattle.py_held_text.proofs.line_search.limited_line.Goals as goal

pub range-requires-clause-end_boundary : goal.range-requires-clause-end_boundary
range-requires-clause-end_boundary c =
    let part = part-of (chars c.args.text.now) c.args.limit c.front_of-front.result c.requires c.front_of-front.ensures.count c.front_of-front.ensures.front in
    (line-cut c.args.text.now _ c.front_of-front.result.bytes c.utf8.text (part-begin (chars c.args.text.now) c.args.limit c.front_of-front.result part)).boundary

pub range-requires-in-Ok-clause-end_boundary : goal.range-requires-in-Ok-clause-end_boundary
range-requires-in-Ok-clause-end_boundary c =
    let cs : List ℕ = chars c.args.text.now in
    let part = part-of cs c.args.limit c.front_of-front.result c.requires c.front_of-front.ensures.count c.front_of-front.ensures.front in
    let found : chars c.range.result.now ≡ take c.args.limit cs = ap chars (from-start c.args.text.now c.range.result.now c.front_of-front.result.bytes c.range.ensures.value) ∙ (line-cut c.args.text.now _ c.front_of-front.result.bytes c.utf8.text (part-begin cs c.args.limit c.front_of-front.result part)).front_chars in
    (line-cut c.args.text.now _ c.in-Ok.end c.utf8.text (part-line c.args.newline cs (chars c.range.result.now) c.args.limit c.in-Ok.end found c.in-Ok.ensures.place)).boundary

pub returns-in-Ok-clause-count : goal.returns-in-Ok-clause-count
returns-in-Ok-clause-count c =
    let cs : List ℕ = chars c.args.text.now in
    let part = part-of cs c.args.limit c.front_of-front.result c.requires c.front_of-front.ensures.count c.front_of-front.ensures.front in
    let found : chars c.range.result.now ≡ take c.args.limit cs = ap chars (from-start c.args.text.now c.range.result.now c.front_of-front.result.bytes c.range.ensures.value) ∙ (line-cut c.args.text.now _ c.front_of-front.result.bytes c.utf8.text (part-begin cs c.args.limit c.front_of-front.result part)).front_chars in
    let begin = part-line c.args.newline cs (chars c.range.result.now) c.args.limit c.in-Ok.end found c.in-Ok.ensures.place in
    let own = line-of c.args.text.now c.range-in-Ok.result.now _ c.in-Ok.end c.in-Ok.end c.front_of.result c.utf8.text (from-start c.args.text.now c.range-in-Ok.result.now c.in-Ok.end c.range-in-Ok.ensures.value) begin c.front_of.ensures.count c.front_of.ensures.front in
    limited-count (line_end c.args.newline) c.args.limit c.front_of.result.chars cs c.requires (own.count ∙ ap (λ (t : List ℕ). length t) (whole-taken cs _ c.in-Ok.end begin))

pub returns-in-Ok-clause-front : goal.returns-in-Ok-clause-front
returns-in-Ok-clause-front c =
    let cs : List ℕ = chars c.args.text.now in
    let part = part-of cs c.args.limit c.front_of-front.result c.requires c.front_of-front.ensures.count c.front_of-front.ensures.front in
    let found : chars c.range.result.now ≡ take c.args.limit cs = ap chars (from-start c.args.text.now c.range.result.now c.front_of-front.result.bytes c.range.ensures.value) ∙ (line-cut c.args.text.now _ c.front_of-front.result.bytes c.utf8.text (part-begin cs c.args.limit c.front_of-front.result part)).front_chars in
    let begin = part-line c.args.newline cs (chars c.range.result.now) c.args.limit c.in-Ok.end found c.in-Ok.ensures.place in
    (line-of c.args.text.now c.range-in-Ok.result.now _ c.in-Ok.end c.in-Ok.end c.front_of.result c.utf8.text (from-start c.args.text.now c.range-in-Ok.result.now c.in-Ok.end c.range-in-Ok.ensures.value) begin c.front_of.ensures.count c.front_of.ensures.front).front

pub returns-in-Err-clause-count : goal.returns-in-Err-clause-count
returns-in-Err-clause-count c =
    let cs : List ℕ = chars c.args.text.now in
    let part = part-of cs c.args.limit c.front_of-front.result c.requires c.front_of-front.ensures.count c.front_of-front.ensures.front in
    let found : chars c.range.result.now ≡ take c.args.limit cs = ap chars (from-start c.args.text.now c.range.result.now c.front_of-front.result.bytes c.range.ensures.value) ∙ (line-cut c.args.text.now _ c.front_of-front.result.bytes c.utf8.text (part-begin cs c.args.limit c.front_of-front.result part)).front_chars in
    limited-count (line_end c.args.newline) c.args.limit c.front_of-front.result.chars cs c.requires
    (c.front_of-front.ensures.count ∙ ap (λ (t : List ℕ). length t) (sym (part-open c.args.newline cs (chars c.range.result.now) c.args.limit c.in-Err.field-0 found c.in-Err.ensures.place)))
