use Rattle.std.proofs.Common.{List, ℕ, Option, Bor, chars, option_map, sym, ap, ◌∙◌}
use Rattle.py_calls.specs.Names.{text_encoding}
use Rattle.py_calls.proofs.Planning.{utf8_spelled}
use Rattle.py_calls.proofs.open_args.text_encoding.Goals as goal

pub returns-in-None : goal.returns-in-None
returns-in-None c =
    utf8_spelled ∙ sym (ap (λ (given : Option (Bor (List ℕ))). text_encoding (option_map (λ (name : Bor (List ℕ)). chars name.now) given)) c.in-None.is)
