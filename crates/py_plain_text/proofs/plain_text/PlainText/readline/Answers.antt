use Rattle.std.proofs.Common.{sym, ◌∙◌}
use Rattle.py_plain_text.proofs.Places.{none-asked}
use Rattle.py_plain_text.proofs.plain_text.PlainText.readline.Goals as goal

pub take-requires-clause-asked : goal.take-requires-clause-asked
take-requires-clause-asked c = λ none.
    none-asked c.args.limit c.first_line-line.result.length _ _ c.first_line-line.ensures.line c.first_line-line.ensures.within (sym c.asks_any.ensures ∙ none)
