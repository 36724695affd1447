use Rattle.std.proofs.Common.{ap, sym, ◌∙◌, arith}
use Rattle.py_held_text.specs.Held.{HeldView}
use Rattle.py_held_text.specs.Known.{KnownView}
use Rattle.py_held_text.specs.Finding.{enough_before}
use Rattle.py_held_text.proofs.Plain.{own-only}
use Rattle.py_held_text.proofs.held_text.HeldText.find_before.Goals as goal

pub returns-clause-count : goal.returns-clause-count
returns-clause-count c =
    let inside = c.self.inside in
    c.find_before.ensures.count
    ∙ (ap (λ (known : KnownView). enough_before c.args.wanted known.newline known.characters) (sym (own-only inside.known inside.plain.bytes inside.decoded inside.bytes.items (omega (arith, c.if-self-gt0.false))))
    ∙ ap (λ (held : HeldView). enough_before c.args.wanted held.newline held.known) c.self.view_is)
