use Rattle.std.proofs.Common.{ap, ◌∙◌}
use Rattle.py_read_text.specs.Knowing.{TextView, front_shown}
use Rattle.py_read_text.proofs.Owing.{joined_of}
use Rattle.py_read_text.proofs.Ends.{ends_so, ends_now, text_asked}
use Rattle.py_read_text.proofs.read_text.ReadText.end.Goals as goal

pub invariant_of-self : goal.invariant_of-self
invariant_of-self g c =
    let live = ap (λ (view : TextView). view.buffer.life) c.self.view_is ∙ c.requires.live in
    let seeks = ap (λ (view : TextView). view.buffer.can.seekable) c.self.view_is ∙ c.requires.seeks in
    text_asked _ _ _ _ _ _ _ _ c.end.result live (ends_so _ _ c.end.result live seeks c.end.ensures) c.self.invariant

pub returns-clause-ends : goal.returns-clause-ends
returns-clause-ends g c = ends_now c.args.self.now _ _ c.end.result c.self.view_is c.requires.live c.requires.seeks c.end.ensures

pub returns-clause-joined : goal.returns-clause-joined
returns-clause-joined g c =
    let live = ap (λ (view : TextView). view.buffer.life) c.self.view_is ∙ c.requires.live in
    let seeks = ap (λ (view : TextView). view.buffer.can.seekable) c.self.view_is ∙ c.requires.seeks in
    joined_of (record { buffer = _; held = c.self.inside.held; front = front_shown c.self.inside.inside; at = c.self.inside.at; taken = c.self.inside.taken; dirty = c.self.inside.dirty; settings = _ })
    (text_asked _ _ _ _ _ _ _ _ c.end.result live (ends_so _ _ c.end.result live seeks c.end.ensures) c.self.invariant)
