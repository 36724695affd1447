use Rattle.std.proofs.Common.{inr, chars, sym, subst}
use Rattle.py_plain.specs.declared.encoding.Encoding.{Encoding}
use Rattle.py_plain.specs.declared.encoding.Encoding.TheVariants.{Utf8}
use Rattle.py_blocks.proofs.OwnAscii.{own_utf8}
use Rattle.py_text.specs.EachWritten.{IsWhole}
use Rattle.py_text.proofs.EachWritten.{no_meaning, because-whole}
use Rattle.py_text.proofs.Refused.{refused-as}
use Rattle.py_text.proofs.measuring.refusal.Goals as goal

pub returns-in-Utf8 : goal.returns-in-Utf8
returns-in-Utf8 c =
    subst (λ (encoding : Encoding). IsWhole c.args.coder.errors encoding (chars c.args.text.now)) (sym c.in-Utf8.is)
    (because-whole c.args.coder.errors Utf8 (chars c.args.text.now) (inr (c.args.text.now, own_utf8 c.args.text.now c.utf8.text)))

pub returns-in-Latin1 : goal.returns-in-Latin1
returns-in-Latin1 c = refused-as no_meaning c.args.coder.errors c.args.coder.encoding (chars c.args.text.now) _ c.first_refusal.ensures
