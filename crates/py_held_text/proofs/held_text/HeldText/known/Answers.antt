use Rattle.std.proofs.Common.{length, ap, sym, ◌∙◌, arith}
use Rattle.py_held_text.specs.Held.{HeldView}
use Rattle.py_held_text.specs.Known.{KnownView}
use Rattle.py_held_text.proofs.Plain.{own-only}
use Rattle.py_held_text.proofs.held_text.HeldText.known.Goals as goal

pub returns : goal.returns
returns c =
    let inside = c.self.inside in
    c.len.ensures
    ∙ (ap (λ (known : KnownView). length known.characters) (sym (own-only inside.known inside.plain.bytes inside.decoded inside.bytes.items (omega (arith, c.if-self-gt0.false))))
    ∙ ap (λ (held : HeldView). length held.known) c.self.view_is)
