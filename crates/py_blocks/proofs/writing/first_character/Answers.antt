use Rattle.std.proofs.Common.{◌≡◌, ◌++◌, sym, ap, ◌∙◌}
use Rattle.std.specs.Char.{encode_utf8}
use Rattle.std.proofs.lemmas.Str.{chars_past_char}
use Rattle.py_blocks.proofs.writing.first_character.Goals as goal

pub returns-clause-parts : goal.returns-clause-parts
returns-clause-parts c =
    let first = c.in_ok-first.first in
    let split : c.args.text.now ≡ encode_utf8 first ++ c.as_str.result.now =
    sym c.chars-characters.ensures.rest ∙ c.in_ok-first.ensures.steps.0 ∙ ap (λ rest. encode_utf8 first ++ rest) (sym c.as_str.ensures) in
    chars_past_char c.args.text.now c.as_str.result.now first c.utf8.text split
