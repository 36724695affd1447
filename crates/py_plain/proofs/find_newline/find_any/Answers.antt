use Rattle.std.proofs.Common.{sym}
use Rattle.py_plain.proofs.LineEnds.{any_missed, any_at, any_pair, any_found}
use Rattle.py_plain.proofs.find_newline.find_any.Goals as goal

pub returns-in_default : goal.returns-in_default
returns-in_default c = any_missed c.args.bytes.now c.in_default.ensures

pub returns-then-starts_with : goal.returns-then-starts_with
returns-then-starts_with c = any_pair c.args.bytes.now c.in-Some.at (any_at c.args.bytes.now c.in-Some.at c.in-Some.ensures.0 c.in-Some.ensures.1) (sym c.if-starts_with.ensures.value)

pub returns : goal.returns
returns c = any_found c.args.bytes.now c.in-Some.at (any_at c.args.bytes.now c.in-Some.at c.in-Some.ensures.0 c.in-Some.ensures.1) (sym c.if-starts_with.ensures.value)
