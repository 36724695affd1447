use Rattle.std.proofs.Common.{ℕ, List, sym, ap, ◌∙◌, codes, bytes_eq}
use Rattle.py_calls.specs.Names.{encoding_name}
use Rattle.py_calls.proofs.Planning.{utf8_spelled, named_locale}
use Rattle.py_calls.proofs.open_args.encoding_name.Goals as goal

pub returns-then-is_locale : goal.returns-then-is_locale
returns-then-is_locale c =
    utf8_spelled ∙ sym (ap encoding_name c.in-Some.is ∙ named_locale c.in-Some.name (sym (ap (λ (characters : List ℕ). bytes_eq characters (codes "locale")) c.as_str-name.ensures) ∙ (sym c.is_locale.ensures ∙ c.if-is_locale.true)))

pub returns-in-None : goal.returns-in-None
returns-in-None c = utf8_spelled ∙ sym (ap encoding_name c.in-None.is)
