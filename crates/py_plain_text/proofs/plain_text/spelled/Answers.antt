use Rattle.std.proofs.Common.{sym, ap, ◌∙◌, string_bytes}
use Rattle.std.specs.Str.{encode_utf8_all}
use Rattle.std.proofs.lemmas.List.{take_all}
use Rattle.std.proofs.lemmas.Str.{chars_from_encodes, IsUtf8-string_bytes}
use Rattle.py_plain.proofs.Strings.{encodes_more}
use Rattle.py_plain_text.proofs.plain_text.spelled.Goals as goal

pub loop-character-preserved : goal.loop-character-preserved
loop-character-preserved c =
    c.in_ok-push.ensures.bytes ∙ encodes_more _ _ _ (string_bytes c.loop-character.text) c.loop-character-test.true c.character-item.is c.loop-character.invariant

pub returns : goal.returns
returns c =
    let bytes = string_bytes c.loop-character.text in
    let all = ap encode_utf8_all (sym (take_all c.loop-character.character-index c.args.characters.now c.loop-character-test.false)) ∙ sym c.loop-character.invariant in
    c.from_string.ensures ∙ sym (chars_from_encodes c.args.characters.now bytes (IsUtf8-string_bytes c.loop-character.text) all)
