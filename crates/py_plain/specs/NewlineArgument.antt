-- The `newline` argument of Python's `open`, and the rule that it stands for (Python's documentation of `open`).
use Rattle.std.specs.Prelude.{ℕ, List, codes, bytes_eq, Option, Some, None, if◌then◌else◌}
use Rattle.py_plain.specs.declared.newlines.Newlines.{Newlines}
use Rattle.py_plain.specs.declared.newlines.Newlines.TheVariants as rule

-- the rule of an argument, which is given by the bytes of its text: universal where there is none; none where it is no argument of `open`
abbrev pub rule_of : Option (List ℕ) → Option Newlines
rule_of None = Some rule.Universal
rule_of (Some text) =
    if bytes_eq text (codes "") then Some rule.Passthrough
    else if bytes_eq text (codes "\n") then Some rule.Lf
    else if bytes_eq text (codes "\r") then Some rule.Cr
    else if bytes_eq text (codes "\r\n") then Some rule.Crlf
    else None
