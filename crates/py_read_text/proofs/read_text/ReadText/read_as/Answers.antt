use Rattle.std.proofs.Common.{ap, ◌∙◌}
use Rattle.py_read_text.specs.Knowing.{TextView}
use Rattle.py_read_text.proofs.Changing.{text_anew}
use Rattle.py_read_text.proofs.read_text.ReadText.read_as.Goals as goal

pub invariant_of-self : goal.invariant_of-self
invariant_of-self g c =
    let none = ap (λ (view : TextView). view.taken) c.self.view_is ∙ c.requires.clean.taken in
    let clean = ap (λ (view : TextView). view.dirty) c.self.view_is ∙ c.requires.clean.dirty in
    text_anew _ c.self.inside.held _ _ _ _ _ c.args.coder c.reading_coder-reading.result c.args.newline _ none clean c.read_anew.ensures.anew c.read_anew.ensures.behind (λ can. c.reading_coder-reading.ensures.same (c.readable.ensures ∙ can)) c.self.invariant
