use Rattle.std.proofs.Common.{IfSome, vec_len, ap, subst, sym, ◌∙◌, ◌≡◌, arith}
use Rattle.py_held_text.specs.Held.{HeldView}
use Rattle.py_held_text.specs.Known.{KnownView}
use Rattle.py_held_text.specs.Finding.{IsFrontOf, enough}
use Rattle.py_held_text.proofs.Plain.{own-only}
use Rattle.py_held_text.proofs.Storing.{IsStored}
use Rattle.py_held_text.proofs.held_text.HeldText.find.Goals as goal

pub invariant_of-self-2 : goal.invariant_of-self-2
invariant_of-self-2 c =
    let inside = c.self.inside in
    subst (λ (own : KnownView). IsStored inside.coder own inside.plain inside.front inside.gone inside.decoded (vec_len inside.bytes) inside.bytes.items inside.given inside.mark inside.ended inside.place inside.walked) (sym c.find.ensures.same) c.self.invariant

pub returns-clause-count : goal.returns-clause-count
returns-clause-count c =
    let inside = c.self.inside in
    c.find.ensures.count
    ∙ (ap (λ (known : KnownView). enough c.args.wanted known.newline known.characters) (sym (own-only inside.known inside.plain.bytes inside.decoded inside.bytes.items (omega (arith, c.if-self-gt0.false))))
    ∙ ap (λ (held : HeldView). enough c.args.wanted held.newline held.known) c.self.view_is)

pub returns-clause-front : goal.returns-clause-front
returns-clause-front c =
    let inside = c.self.inside in
    subst (λ (held : HeldView). IfSome c.find.result (IsFrontOf held.known)) c.self.view_is
    (subst (λ (known : KnownView). IfSome c.find.result (IsFrontOf known.characters)) (sym (own-only inside.known inside.plain.bytes inside.decoded inside.bytes.items (omega (arith, c.if-self-gt0.false)))) c.find.ensures.front)
