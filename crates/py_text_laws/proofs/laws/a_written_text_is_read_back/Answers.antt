use Rattle.std.proofs.Common.{◌≡◌, length, Some, sym, subst}
use Rattle.py_flat.specs.Calls.{FileReply, Text}
use Rattle.py_plain_text.specs.TextFile.{TextFile, clean_at}
use Rattle.py_plain_text.specs.Rest.{text_rest}
use Rattle.py_plain_text.specs.Telling.{placed}
use Rattle.py_plain_text.specs.TextCalls.{Read}
use Rattle.py_plain_text.specs.TextExact.{exact}
use Rattle.py_text_laws.specs.Written.{rest_behind}
use Rattle.py_text_laws.proofs.ReadBack.{exact_written, left_written, read_back}
use Rattle.py_text_laws.proofs.laws.a_written_text_is_read_back.Goals as goal

pub returns-clause-rest : goal.returns-clause-rest
returns-clause-rest c = λ file text none kept accepted order.
    subst (λ (wrote : FileReply × TextFile). text_rest (placed wrote.1 (clean_at file.place.at order)) ≡ rest_behind text (text_rest (placed wrote.1 (clean_at wrote.1.place.at order))))
    (sym (exact_written file text accepted)) (left_written file text none kept order)

pub returns-clause-read : goal.returns-clause-read
returns-clause-read c = λ file text none kept accepted readable order.
    subst (λ (wrote : FileReply × TextFile). (exact (placed wrote.1 (clean_at file.place.at order)) (Read (Some (length text)))).0 ≡ Text text)
    (sym (exact_written file text accepted)) (read_back file text none kept accepted readable order)
