use Rattle.std.proofs.Common.{ℕ, List, length, chars, inr, sym, ap, subst, ◌∙◌, ◌≡◌, arith, rules}
use Rattle.std.specs.Str.{IsUtf8}
use Rattle.py_plain.specs.declared.encoding.Encoding.{Encoding}
use Rattle.py_plain.specs.declared.encoding.Encoding.TheVariants.{Utf8}
use Rattle.py_plain.specs.Escapes.{each_spelled}
use Rattle.py_blocks.proofs.OwnAscii.{own_utf8}
use Rattle.py_text.specs.declared.coder.Coder.{Coder}
use Rattle.py_text.specs.EachWritten.{IsWhole, character_bytes, each_encoded}
use Rattle.py_text.proofs.EachWritten.{because-whole, written-each}
use Rattle.py_text.proofs.Lines.{text-twice}
use Rattle.py_text.proofs.Own.{utf8-stays}
use Rattle.py_text.proofs.measuring.short_bound.Goals as goal

-- nothing of a text is refused in UTF-8
whole_utf8 : (coder : Coder) (text : List ℕ) → IsUtf8 text → coder.encoding ≡ Utf8 → IsWhole coder.errors coder.encoding (chars text)
whole_utf8 coder text utf8 is =
    subst (λ (encoding : Encoding). IsWhole coder.errors encoding (chars text)) (sym is)
    (because-whole coder.errors Utf8 (chars text) (inr (text, own_utf8 text utf8)))

-- its bytes are its own there
bytes_utf8 : (coder : Coder) (text : List ℕ) → IsUtf8 text → coder.encoding ≡ Utf8 → each_encoded coder (chars text) ≡ text
bytes_utf8 coder text utf8 is = ap (λ (e : Encoding). each_spelled (character_bytes coder.errors e) (chars text)) is ∙ utf8-stays coder.errors text utf8

pub returns-in-Utf8-clause-whole : goal.returns-in-Utf8-clause-whole
returns-in-Utf8-clause-whole c = let whole = whole_utf8 c.args.coder c.args.text.now c.utf8.text c.in-Utf8.is in search rules

pub returns-in-Utf8-clause-most : goal.returns-in-Utf8-clause-most
returns-in-Utf8-clause-most c =
    let whole = whole_utf8 c.args.coder c.args.text.now c.utf8.text c.in-Utf8.is in
    omega (arith, text-twice c.args.coder c.args.newline (chars c.args.text.now), ap length (bytes_utf8 c.args.coder c.args.text.now c.utf8.text c.in-Utf8.is), ap length (written-each c.args.coder.errors c.args.coder.encoding c.args.newline (chars c.args.text.now) whole))
