use Rattle.std.proofs.Common.{◌+◌, length, if◌then◌else◌, ap, sym, ◌∙◌, arith}
use Rattle.py_held_text.specs.Known.{KnownView}
use Rattle.py_held_text.specs.Decodes.{known_with_cr}
use Rattle.py_held_text.proofs.Plain.{own-only}
use Rattle.py_held_text.proofs.held_text.HeldText.known_with_cr.Goals as goal

pub returns-clause-count : goal.returns-clause-count
returns-clause-count c =
    let inside = c.self.inside in
    c.len_with_cr.ensures.count
    ∙ (ap (λ (known : KnownView). length known.characters + (if known.cr then 1 else 0)) (sym (own-only inside.known inside.plain.bytes inside.decoded inside.bytes.items (omega (arith, c.if-self-gt0.false))))
    ∙ ap known_with_cr c.self.view_is)
