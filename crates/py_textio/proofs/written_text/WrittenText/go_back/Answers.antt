use Rattle.std.specs.Prelude.{vec_capacity, vec_len}
use Rattle.std.proofs.Common.{◌-◌, refl, ap, ◌∙◌}
use Rattle.py_textio.specs.Written.{WrittenView}
use Rattle.py_textio.proofs.Rooms.{room_kept, back_buffering}
use Rattle.py_textio.proofs.Settling.{went_back, not_back, unback_written, joined_with}
use Rattle.py_textio.proofs.written_text.WrittenText.go_back.Goals as goal

pub invariant_of-self-in-Err : goal.invariant_of-self-in-Err
invariant_of-self-in-Err g c =
    let live = ap (λ (view : WrittenView). view.life) c.self.view_is ∙ c.requires.live in
    let writes = ap (λ (view : WrittenView). view.text.buffer.can.writable) c.self.view_is ∙ c.requires.writes in (
      unback_written _ _ c.self.inside.pending.items _ _ c.in-Err.fault c.self.invariant.0 live c.in-Err.ensures.keeps c.in-Err.ensures.outcome writes c.life-self-inside.ensures.life c.in-Err.ensures.joined,
      room_kept c.self.inside.text.buffer c.return_to_place.new.self.buffer c.self.inside.pending.items (vec_capacity c.self.inside.pending - vec_len c.self.inside.pending) (back_buffering c.self.inside.text c.return_to_place.new.self c.in-Err.fault c.in-Err.ensures.outcome) c.self.invariant.1,
    )

pub returns-in-Err-clause-outcome : goal.returns-in-Err-clause-outcome
returns-in-Err-clause-outcome g c =
    not_back _ _ _ c.self.inside.pending.items (vec_capacity c.self.inside.pending - vec_len c.self.inside.pending) _ _ _ c.in-Err.fault c.self.view_is c.self.invariant.0 c.requires.live c.in-Err.ensures.keeps c.in-Err.ensures.outcome c.life-self-inside.ensures.life

pub returns-in-Err-clause-joined : goal.returns-in-Err-clause-joined
returns-in-Err-clause-joined g c =
    let live = ap (λ (view : WrittenView). view.life) c.self.view_is ∙ c.requires.live in
    let writes = ap (λ (view : WrittenView). view.text.buffer.can.writable) c.self.view_is ∙ c.requires.writes in
    joined_with _ _ 0 _ (unback_written _ _ c.self.inside.pending.items _ _ c.in-Err.fault c.self.invariant.0 live c.in-Err.ensures.keeps c.in-Err.ensures.outcome writes c.life-self-inside.ensures.life c.in-Err.ensures.joined)

pub returns-in-Ok-clause-outcome : goal.returns-in-Ok-clause-outcome
returns-in-Ok-clause-outcome g c =
    let clean = ap (λ (view : WrittenView). view.text.dirty) c.self.view_is ∙ c.requires.clean in
    went_back _ _ _ c.self.inside.pending.items (vec_capacity c.self.inside.pending - vec_len c.self.inside.pending) _ _ _ c.self.view_is c.self.invariant.0 c.requires.live c.in-Ok.ensures.keeps c.in-Ok.ensures.outcome clean refl
