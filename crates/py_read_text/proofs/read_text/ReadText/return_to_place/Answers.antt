use Rattle.std.proofs.Common.{ap, ◌∙◌, sym, refl}
use Rattle.py_read_text.specs.Knowing.{TextView, front_shown}
use Rattle.py_read_text.proofs.Owing.{joined_of}
use Rattle.py_read_text.proofs.Placing.{is_ahead, sought_at, text_returned, text_unreturned, returned_so}
use Rattle.py_read_text.proofs.read_text.ReadText.return_to_place.Goals as goal

pub invariant_of-self : goal.invariant_of-self
invariant_of-self g c =
    let live = ap (λ (view : TextView). view.buffer.life) c.self.view_is ∙ c.requires.live in
    let writes = ap (λ (view : TextView). view.buffer.can.writable) c.self.view_is ∙ c.requires.writes in
    let place = ap (λ (view : TextView). view.buffer.place) c.self.view_is in
    let ahead = is_ahead _ c.self.inside.held _ c.self.inside.at _ _ _ live writes c.seekable.ensures.moves (λ same. c.if-buffer_place-self.false (c.buffer_place.ensures ∙ (sym place ∙ (sym c.self.invariant.stands ∙ same)))) c.self.invariant in
    text_returned _ _ c.self.inside.held c.clear.new.self _ c.self.inside.at _ _ _ _ ahead (sought_at _ _ c.self.inside.held _ c.self.inside.at _ _ _ _ c.self.invariant c.in-Ok.ensures.buffer) (ap (λ (view : TextView). view.taken) c.self.view_is ∙ c.requires.clean.taken) (ap (λ (view : TextView). view.dirty) c.self.view_is ∙ c.requires.clean.dirty) c.clear.ensures.cleared c.self.invariant

pub invariant_of-self-in-Err : goal.invariant_of-self-in-Err
invariant_of-self-in-Err g c =
    let live = ap (λ (view : TextView). view.buffer.life) c.self.view_is ∙ c.requires.live in
    text_unreturned _ _ _ _ _ _ _ _ c.in-Err.fault live (sought_at _ _ _ _ _ _ _ _ _ c.self.invariant c.in-Err.ensures.buffer) c.self.invariant

pub returns-in-Err-clause-outcome : goal.returns-in-Err-clause-outcome
returns-in-Err-clause-outcome g c =
    let live = ap (λ (view : TextView). view.buffer.life) c.self.view_is ∙ c.requires.live in
    let writes = ap (λ (view : TextView). view.buffer.can.writable) c.self.view_is ∙ c.requires.writes in
    let place = ap (λ (view : TextView). view.buffer.place) c.self.view_is in
    let ahead = is_ahead _ c.self.inside.held _ c.self.inside.at _ _ _ live writes c.seekable.ensures.moves (λ same. c.if-buffer_place-self.false (c.buffer_place.ensures ∙ (sym place ∙ (sym c.self.invariant.stands ∙ same)))) c.self.invariant in
    returned_so _ _ _ c.in-Err.fault c.self.view_is ahead refl (sought_at _ _ c.self.inside.held _ c.self.inside.at _ _ _ _ c.self.invariant c.in-Err.ensures.buffer)

pub returns-in-Err-clause-joined : goal.returns-in-Err-clause-joined
returns-in-Err-clause-joined g c =
    let live = ap (λ (view : TextView). view.buffer.life) c.self.view_is ∙ c.requires.live in
    joined_of (record { buffer = _; held = c.self.inside.held; front = front_shown c.self.inside.inside; at = c.self.inside.at; taken = c.self.inside.taken; dirty = c.self.inside.dirty; settings = _ })
    (text_unreturned _ _ _ _ _ _ _ _ c.in-Err.fault live (sought_at _ _ _ _ _ _ _ _ _ c.self.invariant c.in-Err.ensures.buffer) c.self.invariant)
