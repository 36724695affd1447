use Rattle.std.proofs.Common.{◌≡◌, take, string_bytes}
use Rattle.std.specs.Str.{encode_utf8_all}
use Rattle.py_plain_text.proofs.plain_text.spelled.Given as goal

abbrev pub invariant-loop-character : goal.invariant-loop-character
invariant-loop-character l = string_bytes l.text ≡ encode_utf8_all (take l.character-index l.characters)
