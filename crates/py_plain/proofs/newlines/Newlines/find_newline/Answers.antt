use Rattle.std.proofs.Common.{refl, inl, inr}
use Rattle.py_plain.specs.declared.newlines.Newlines.TheVariants as rule
use Rattle.py_plain.proofs.CharacterEnds.{place_by}
use Rattle.py_plain.proofs.newlines.Newlines.find_newline.Goals as goal

pub returns-in-Cr : goal.returns-in-Cr
returns-in-Cr c = record { place = place_by c.args.self.now rule.Cr c.args.text.now c.as_bytes-bytes.result.now c.find_byte.result c.in-Cr.is c.utf8.text c.as_bytes-bytes.ensures.value (c.find_byte.ensures.cr refl) }

pub returns-in-Crlf : goal.returns-in-Crlf
returns-in-Crlf c = record { place = place_by c.args.self.now rule.Crlf c.args.text.now c.as_bytes-bytes.result.now c.find_pair.result c.in-Crlf.is c.utf8.text c.as_bytes-bytes.ensures.value c.find_pair.ensures }

pub returns-in-Passthrough : goal.returns-in-Passthrough
returns-in-Passthrough c = record { place = place_by c.args.self.now rule.Passthrough c.args.text.now c.as_bytes-bytes.result.now c.find_any.result c.in-Passthrough.is c.utf8.text c.as_bytes-bytes.ensures.value c.find_any.ensures }

pub returns-in-Universal : goal.returns-in-Universal
returns-in-Universal c = elim c.in-Universal.is [
  | inl universal ↦ record { place = place_by c.args.self.now rule.Universal c.args.text.now c.as_bytes-bytes.result.now c.find_byte-in-Universal.result universal c.utf8.text c.as_bytes-bytes.ensures.value (c.find_byte-in-Universal.ensures.lf refl) }
  | inr by_lf ↦ record { place = place_by c.args.self.now rule.Lf c.args.text.now c.as_bytes-bytes.result.now c.find_byte-in-Universal.result by_lf c.utf8.text c.as_bytes-bytes.ensures.value (c.find_byte-in-Universal.ensures.lf refl) }
]
