use Rattle.std.proofs.Common.{subst, sym}
use Rattle.py_plain.specs.declared.newlines.Newlines.{Newlines}
use Rattle.py_held_text.specs.Plain.{KeepsFronts}
use Rattle.py_held_text.proofs.Decoded.{keeps-fronts}
use Rattle.py_held_text.proofs.decoding.keeps_all.Goals as goal

pub returns-in-None : goal.returns-in-None
returns-in-None c = λ is. subst (λ (newline : Newlines). KeepsFronts newline c.args.bytes.now) (sym c.in-Universal.is) (keeps-fronts c.args.bytes.now c.in-None.ensures)
