use Rattle.std.proofs.Common.{sym, ◌∙◌}
use Rattle.py_memio.proofs.FirstLine.{line_to_feed, line_to_end}
use Rattle.py_memio.proofs.characters.first_line.Goals as goal

pub returns-in-Some : goal.returns-in-Some
returns-in-Some c = line_to_feed c.args.limit c.args.characters.now c.front-within.result.now c.in-Some.at c.front-within.ensures (sym c.line_feed.ensures ∙ c.in-Some.is)

pub returns-in-None : goal.returns-in-None
returns-in-None c = line_to_end c.args.limit c.args.characters.now c.front-within.result.now c.front-within.ensures (sym c.line_feed.ensures ∙ c.in-None.is)
