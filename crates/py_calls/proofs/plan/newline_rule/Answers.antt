use Rattle.std.proofs.Common.{List, ℕ, Some, sym, ap, ◌∙◌}
use Rattle.py_plain.specs.NewlineArgument.{rule_of}
use Rattle.py_calls.proofs.Planning.{rule_spelled}
use Rattle.py_calls.proofs.plan.newline_rule.Goals as goal

pub returns-in-Some : goal.returns-in-Some
returns-in-Some c =
    c.from_text.ensures.rule ∙ (rule_spelled c.as_str.result.now c.as_str.utf8 ∙ (ap (λ (text : List ℕ). rule_of (Some text)) c.as_str.ensures ∙ ap (λ (given : _). rule_of given) (sym c.in-Some.is)))
