use Rattle.std.proofs.Common.{ap, ◌∙◌, chars}
use Rattle.py_plain.specs.declared.encoding.Encoding.{Encoding}
use Rattle.py_plain.specs.Escapes.{each_spelled}
use Rattle.py_text.specs.EachWritten.{character_bytes}
use Rattle.py_text.proofs.Own.{utf8-stays, one-stays}
use Rattle.py_text.proofs.own_bytes.stays.Goals as goal

pub returns-in-Utf8 : goal.returns-in-Utf8
returns-in-Utf8 c is =
    ap (λ (e : Encoding). each_spelled (character_bytes c.args.coder.errors e) (chars c.args.text.now)) c.in-Utf8.is ∙ utf8-stays c.args.coder.errors c.args.text.now c.utf8.text

pub returns-in-Latin1 : goal.returns-in-Latin1
returns-in-Latin1 c is = one-stays c.args.coder.errors c.args.coder.encoding c.args.text.now c.is_ascii.result _ c.in-Latin1.is c.is_ascii.ensures.cases is
