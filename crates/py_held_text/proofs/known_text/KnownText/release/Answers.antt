use Rattle.std.proofs.Common.{◌≡◌, ◌++◌, ◌∷◌, [], false, List, ℕ, drop, chars, string_bytes, refl, sym, ap, ◌∙◌, arith}
use Rattle.py_flat.specs.Lines.{lf}
use Rattle.py_plain.specs.NewlineRule.{released, read_all}
use Rattle.py_blocks.proofs.Appended.{text_of-push}
use Rattle.py_held_text.specs.Known.{ended}
use Rattle.py_text.proofs.Joining.{holds-none}
use Rattle.py_held_text.proofs.Knowing.{counted-fits, known-grown, text-grown, last-none}
use Rattle.py_held_text.proofs.known_text.KnownText.release.Goals as goal

pub overflow_add-self : goal.overflow_add-self
overflow_add-self c = omega (arith, counted-fits c.self.inside.newline c.self.inside.text c.push.new.self c.self.inside.given c.self.inside.count c.self.inside.searched c.self.inside.cr (lf ∷ []) c.self.invariant (text_of-push c.self.inside.text c.push.new.self lf c.in_ok-push.ensures.bytes))

pub invariant_of-self-then-self : goal.invariant_of-self-then-self
invariant_of-self-then-self c =
    known-grown c.self.inside.newline c.self.inside.text c.push.new.self c.self.inside.given c.self.inside.count c.self.inside.searched c.self.inside.cr (lf ∷ []) false _ c.self.invariant (text_of-push c.self.inside.text c.push.new.self lf c.in_ok-push.ensures.bytes) refl (holds-none c.self.inside.newline)

pub returns-in_ok-push-clause-released : goal.returns-in_ok-push-clause-released
returns-in_ok-push-clause-released c =
    let known : List ℕ = chars (drop c.self.inside.given (string_bytes c.self.inside.text)) in
    let given : lf ∷ [] ≡ read_all c.self.inside.newline c.self.inside.cr [] = ap released (sym c.if-self.true) ∙ sym (last-none c.self.inside.newline c.self.inside.cr c.self.invariant.holds) in
    ap (λ (t : List ℕ). record { newline = c.self.inside.newline; characters = t; cr = false }) (text-grown c.self.inside.newline c.self.inside.text c.push.new.self c.self.inside.given c.self.inside.count c.self.inside.searched c.self.inside.cr (lf ∷ []) c.self.invariant (text_of-push c.self.inside.text c.push.new.self lf c.in_ok-push.ensures.bytes) ∙ ap (λ (t : List ℕ). known ++ t) given)
    ∙ ap ended c.self.view_is
