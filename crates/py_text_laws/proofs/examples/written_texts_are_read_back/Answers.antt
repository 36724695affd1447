use Rattle.std.proofs.Common.{refl}
use Rattle.std.specs.Char.{encode_utf8}
use Rattle.py_plain.specs.Utf8.{is_within, lead}
use Rattle.py_text_laws.proofs.examples.written_texts_are_read_back.Goals as goal

pub returns-clause-utf_8 : goal.returns-clause-utf_8
unfolding encode_utf8 is_within lead
returns-clause-utf_8 c = refl
