use Rattle.std.proofs.Common.{ap, ◌∙◌, sym}
use Rattle.py_read_text.specs.Knowing.{TextView}
use Rattle.py_read_text.proofs.Preparing.{takes_true, back_place, text_back}
use Rattle.py_read_text.proofs.read_text.ReadText.take_back.Goals as goal

pub invariant_of-self-2 : goal.invariant_of-self-2
invariant_of-self-2 g c =
    let none = ap (λ (view : TextView). view.taken) c.self.view_is ∙ c.requires.clean.taken in
    let clean = ap (λ (view : TextView). view.dirty) c.self.view_is ∙ c.requires.clean.dirty in
    let stands = ap (λ (view : TextView). view.at) c.self.view_is ∙ (c.requires.stands ∙ sym (ap (λ (view : TextView). view.buffer.place) c.self.view_is)) in
    let takes = takes_true _ _ c.args.count c.take_back.result c.if-not-take_back.false c.take_back.ensures in
    text_back _ _ c.self.inside.held _ _ c.self.inside.at c.self.inside.taken c.self.inside.dirty _ c.args.count _ takes (back_place _ _ c.self.inside.at c.args.count stands takes) c.clear.ensures.cleared none clean c.self.invariant
