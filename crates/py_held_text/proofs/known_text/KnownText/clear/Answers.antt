use Rattle.std.proofs.Common.{refl, ap, ◌∙◌, chars, false, List, ℕ}
use Rattle.std.proofs.lemmas.Str.{chars-nil}
use Rattle.py_text.proofs.Joining.{holds-none}
use Rattle.py_held_text.proofs.Knowing.{known-empty}
use Rattle.py_held_text.proofs.known_text.KnownText.clear.Goals as goal

pub invariant_of-self : goal.invariant_of-self
invariant_of-self c = known-empty c.args.newline _ 0 false c.clear.ensures.bytes refl (holds-none c.args.newline)

pub returns : goal.returns
returns c = ap (λ (cs : List ℕ). record { newline = c.args.newline; characters = cs; cr = false }) (ap chars c.clear.ensures.bytes ∙ chars-nil)
