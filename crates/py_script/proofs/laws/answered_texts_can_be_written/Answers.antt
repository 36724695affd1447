use Rattle.std.proofs.Common.{◌≡◌, ◌∷◌, ◌++◌, [], Some, codes, encode_utf8_all, sym, ap, subst, ◌∙◌}
use Rattle.std.proofs.lemmas.Str.{encodes-chars}
use Rattle.hex.specs.Hex.{IsBytes}
use Rattle.py_calls.specs.declared.call.Call.TheVariants.{WriteText}
use Rattle.py_script.specs.Words.{spaced}
use Rattle.py_script.specs.Script.{line_call}
use Rattle.py_script.specs.ReplyLine.{hex_of}
use Rattle.py_script.proofs.WordLaws.{writetext_line}
use Rattle.py_script.proofs.laws.answered_texts_can_be_written.Goals as goal

pub returns : goal.returns
returns c =
    let bytes = c.as_str.result.now in
    let same : encode_utf8_all c.args.text.now ≡ bytes = ap encode_utf8_all (sym c.as_str.ensures) ∙ encodes-chars bytes c.as_str.utf8 in
    let range : IsBytes bytes = subst IsBytes c.as_bytes.ensures.value c.read_bytes.ensures in
    ap (λ some. line_call (codes "writetext" ++ spaced (hex_of some ∷ []))) same ∙ writetext_line bytes range c.as_str.utf8 ∙ ap (λ text. Some (WriteText text)) c.as_str.ensures
