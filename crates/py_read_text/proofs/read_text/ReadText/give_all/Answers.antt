use Rattle.std.proofs.Common.{◌≡◌, length, sym, ap, ◌∙◌, arith}
use Rattle.py_held_text.specs.Held.{HeldView, cleared}
use Rattle.py_read_text.specs.Knowing.{TextView}
use Rattle.py_read_text.proofs.Placing.{text_ended}
use Rattle.py_read_text.proofs.read_text.ReadText.give_all.Goals as goal

pub invariant_of-self-2 : goal.invariant_of-self-2
invariant_of-self-2 g c =
    let held = c.self.inside.held in
    let given = c.give_rest.new.self in
    let stays : c.place-self-inside.result ≡ held.place = c.place-self-inside.ensures.place ∙ ap (λ (held : HeldView). held.place) c.in_ok-text.ensures.cleared in
    let there : c.place-self-inside.result ≡ (g.B.BufferedStream.shows c.self.inside.buffer).place = omega (arith, stays, c.self.invariant.stands, ap (λ (view : TextView). length view.held.bytes) c.self.view_is, ap length c.requires.empty) in
    text_ended _ held given _ c.self.inside.at c.self.inside.taken c.self.inside.dirty _ _ there (c.in_ok-text.ensures.cleared ∙ ap (λ place. cleared held place given.room) (sym stays)) c.self.invariant
