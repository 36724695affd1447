use Rattle.std.proofs.Common.{◌≡◌, ℕ, ◌+◌, List, ◌++◌, length as len, take, refl, ap, arith}
use Rattle.std.specs.Char.{encode_utf8}
use Rattle.std.specs.Str.{encode_utf8_all}
use Rattle.std.proofs.lemmas.List.{length-append}
use Rattle.std.proofs.lemmas.Str.{length-encode}
use Rattle.py_plain.proofs.Strings.{encodes_more}
use Rattle.py_plain_text.proofs.plain_tell.utf8_length.Goals as goal

pub loop-character-preserved : goal.loop-character-preserved
loop-character-preserved c =
    let cs : List ℕ = c.args.characters.now in
    let before : List ℕ = encode_utf8_all (take c.loop-character.character-index cs) in
    let bytes : List ℕ = encode_utf8 c.character-item.result in
    let more : before ++ bytes ≡ encode_utf8_all (take (c.loop-character.character-index + 1) cs) = encodes_more cs c.loop-character.character-index c.character-item.result before c.loop-character-test.true c.character-item.is refl in (
      omega (arith, c.loop-character.invariant.0, c.len_utf8-length.ensures.value, length-encode c.character-item.result, ap len more, length-append before bytes),
      omega (arith, c.loop-character.invariant.1, c.len_utf8-length.ensures.upper_bound),
    )
