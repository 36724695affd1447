use Rattle.std.proofs.Common.{◌≡◌, Some, encode_utf8_all, sym, ap, subst, ◌∙◌}
use Rattle.std.proofs.lemmas.Str.{encodes-chars}
use Rattle.hex.specs.Hex.{IsBytes, encode_lower}
use Rattle.py_script.specs.Words.{hex_text}
use Rattle.py_script.proofs.OptionLemmas.{hex_text_of_utf8}
use Rattle.py_script.proofs.laws.every_text_has_its_hex.Goals as goal

pub returns : goal.returns
returns c =
    let bytes = c.as_str.result.now in
    let same : encode_utf8_all c.args.text.now ≡ bytes = ap encode_utf8_all (sym c.as_str.ensures) ∙ encodes-chars bytes c.as_str.utf8 in
    let range : IsBytes bytes = subst IsBytes c.as_bytes.ensures.value c.read_bytes.ensures in
    ap (λ some. hex_text (encode_lower some)) same ∙ hex_text_of_utf8 bytes range c.as_str.utf8 ∙ ap Some c.as_str.ensures
