use Rattle.std.proofs.Common.{◌≡◌, ◌≤◌, ◌*◌, length, take}
use Rattle.std.specs.Str.{encode_utf8_all}
use Rattle.py_plain_text.proofs.plain_tell.utf8_length.Given as goal

abbrev pub invariant-loop-character : goal.invariant-loop-character
invariant-loop-character l = (l.length ≡ length (encode_utf8_all (take l.character-index l.characters))) × (l.length ≤ 4 * l.character-index)
