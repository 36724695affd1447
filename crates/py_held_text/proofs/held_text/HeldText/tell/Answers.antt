use Rattle.std.proofs.Common.{◌≡◌, ◌+◌, ◌≤◌, false, refl, ap, subst, ◌∙◌, drop, length, arith}
use Rattle.py_telling.specs.InHand.{surely_given}
use Rattle.py_telling.specs.ToldView.{IsToldAmong}
use Rattle.py_held_text.specs.Held.{HeldView, view_of, base_of, whole_of}
use Rattle.py_held_text.specs.Plain.{known_of}
use Rattle.py_held_text.proofs.Backing.{told-by, told-forth, told-fits}
use Rattle.py_held_text.proofs.Bases.{sure-told}
use Rattle.py_held_text.proofs.held_text.HeldText.tell.Goals as goal

pub returns-clause-told : goal.returns-clause-told
returns-clause-told c =
    let inside = c.self.inside in
    subst (λ (held : HeldView). IsToldAmong held.encoding held.handler held.newline held.ended (base_of held) held.given (whole_of held) c.told_among.result.0) c.self.view_is
    (told-by inside.coder.encoding inside.coder.errors inside.known.newline c.newline.result inside.ended inside.gone inside.decoded inside.place inside.given inside.bytes.items c.behind-bytes.result.now c.told_among.result.0 c.self.invariant.0.1.from (omega (arith, c.self.invariant.0.1.within, inside.bytes.ok)) c.newline.ensures (c.behind-bytes.ensures ∙ ap (drop inside.gone) c.deref.ensures.value) c.told_among.ensures.told)

pub returns-clause-sure : goal.returns-clause-sure
returns-clause-sure c =
    let inside = c.self.inside in
    let held : HeldView = view_of inside.coder (known_of inside.known inside.plain.bytes inside.decoded inside.bytes.items) inside.front inside.gone inside.decoded inside.bytes.items inside.given inside.mark inside.ended inside.place 0 in
    subst (λ (own : HeldView). own.ended ≡ false → own.given ≤ length (surely_given own.encoding own.handler own.newline false (whole_of own))) c.self.view_is
    (λ going. sure-told held refl (c.self.invariant.0.0.1 going))

pub returns-clause-forth : goal.returns-clause-forth
returns-clause-forth c =
    let inside = c.self.inside in
    subst (λ (held : HeldView). base_of held ≤ c.told_among.result.0.start) c.self.view_is
    (told-forth inside.gone inside.decoded inside.place c.told_among.result.0.start inside.bytes.items c.self.invariant.0.1.from (omega (arith, c.self.invariant.0.1.within, inside.bytes.ok)) c.told_among.ensures.forth)

pub returns-clause-fits : goal.returns-clause-fits
returns-clause-fits c =
    let inside = c.self.inside in
    subst (λ (held : HeldView). c.told_among.result.0.start + c.told_among.result.0.length ≤ held.place + length held.bytes) c.self.view_is
    (told-fits inside.gone inside.decoded inside.place (c.told_among.result.0.start + c.told_among.result.0.length) inside.bytes.items c.behind-bytes.result.now c.self.invariant.0.1.from (omega (arith, c.self.invariant.0.1.within, inside.bytes.ok)) c.self.invariant.0.1.behind (c.behind-bytes.ensures ∙ ap (drop inside.gone) c.deref.ensures.value) c.told_among.ensures.fits)
