use Rattle.std.specs.Prelude.{vec_capacity, vec_len}
use Rattle.std.proofs.Common.{◌≢◌, ◌-◌, Ok, Err, [], sym, ap, ◌∙◌, arith}
use Rattle.py_textio.specs.Written.{WrittenView}
use Rattle.py_textio.proofs.Rooms.{room_on}
use Rattle.py_textio.proofs.Settling.{written_passed, settled_at, joined_with}
use Rattle.py_textio.proofs.written_text.WrittenText.settle.Goals as goal

pub invariant_of-self : goal.invariant_of-self
invariant_of-self g c =
    let some : c.self.inside.pending.items ≢ [] = λ none. c.requires.owes (sym (ap (λ (view : WrittenView). view.pending) c.self.view_is) ∙ none) in
    let live = ap (λ (view : WrittenView). view.life) c.self.view_is ∙ c.requires.live in
    let answers = rw c.deref.ensures.value at c.in-Ok.ensures.answers in
    let takes = rw c.deref.ensures.value at c.in-Ok.ensures.takes in (
      written_passed _ _ c.self.inside.pending.items _ _ _ _ c.self.invariant.0 some answers takes c.in-Ok.ensures.stands (rw c.taken.ensures at c.drop_front.ensures.items) (λ same. answers.moves.life_is ∙ c.self.invariant.0.lives live) c.in-Ok.ensures.joined,
      room_on c.self.inside.text.buffer c.pass-answer.new.self.buffer c.self.inside.pending.items _ (vec_capacity c.self.inside.pending - vec_len c.self.inside.pending) (vec_capacity c.drop_front.new.bytes - vec_len c.drop_front.new.bytes) answers.keeps.buffering some (omega (arith, c.drop_front.ensures.len, c.drop_front.ensures.capacity)) c.self.invariant.1,
    )

pub invariant_of-self-in-Err : goal.invariant_of-self-in-Err
invariant_of-self-in-Err g c =
    let some : c.self.inside.pending.items ≢ [] = λ none. c.requires.owes (sym (ap (λ (view : WrittenView). view.pending) c.self.view_is) ∙ none) in
    let answers = rw c.deref.ensures.value at c.in-Err.ensures.answers in
    let takes = rw c.deref.ensures.value at c.in-Err.ensures.takes in (
      written_passed _ _ c.self.inside.pending.items _ _ _ _ c.self.invariant.0 some answers takes c.in-Err.ensures.stands (rw c.taken.ensures at c.drop_front.ensures.items) (λ same. sym c.life-self-inside.ensures.life ∙ same) c.in-Err.ensures.joined,
      room_on c.self.inside.text.buffer c.pass-answer.new.self.buffer c.self.inside.pending.items _ (vec_capacity c.self.inside.pending - vec_len c.self.inside.pending) (vec_capacity c.drop_front.new.bytes - vec_len c.drop_front.new.bytes) answers.keeps.buffering some (omega (arith, c.drop_front.ensures.len, c.drop_front.ensures.capacity)) c.self.invariant.1,
    )

pub returns-in-Ok-clause-outcome : goal.returns-in-Ok-clause-outcome
returns-in-Ok-clause-outcome g c =
    let some : c.self.inside.pending.items ≢ [] = λ none. c.requires.owes (sym (ap (λ (view : WrittenView). view.pending) c.self.view_is) ∙ none) in
    let live = ap (λ (view : WrittenView). view.life) c.self.view_is ∙ c.requires.live in
    let answers = rw c.deref.ensures.value at c.in-Ok.ensures.answers in
    let takes = rw c.deref.ensures.value at c.in-Ok.ensures.takes in
    settled_at _ _ _ c.self.inside.pending.items _ (vec_capacity c.self.inside.pending - vec_len c.self.inside.pending) _ _ _ (Ok c.in-Ok.field-0) c.self.view_is c.self.invariant.0 some c.requires.live answers takes c.in-Ok.ensures.stands (rw c.taken.ensures at c.drop_front.ensures.items) (live ∙ sym (answers.moves.life_is ∙ c.self.invariant.0.lives live))

pub returns-in-Err-clause-outcome : goal.returns-in-Err-clause-outcome
returns-in-Err-clause-outcome g c =
    let some : c.self.inside.pending.items ≢ [] = λ none. c.requires.owes (sym (ap (λ (view : WrittenView). view.pending) c.self.view_is) ∙ none) in
    let answers = rw c.deref.ensures.value at c.in-Err.ensures.answers in
    let takes = rw c.deref.ensures.value at c.in-Err.ensures.takes in
    settled_at _ _ _ c.self.inside.pending.items _ (vec_capacity c.self.inside.pending - vec_len c.self.inside.pending) _ _ _ (Err c.in-Err.fault) c.self.view_is c.self.invariant.0 some c.requires.live answers takes c.in-Err.ensures.stands (rw c.taken.ensures at c.drop_front.ensures.items) c.life-self-inside.ensures.life

pub returns-in-Ok-clause-joined : goal.returns-in-Ok-clause-joined
returns-in-Ok-clause-joined g c =
    let some : c.self.inside.pending.items ≢ [] = λ none. c.requires.owes (sym (ap (λ (view : WrittenView). view.pending) c.self.view_is) ∙ none) in
    let live = ap (λ (view : WrittenView). view.life) c.self.view_is ∙ c.requires.live in
    let answers = rw c.deref.ensures.value at c.in-Ok.ensures.answers in
    let takes = rw c.deref.ensures.value at c.in-Ok.ensures.takes in
    joined_with _ _ 0 c.self.inside.life (written_passed _ _ c.self.inside.pending.items _ _ _ _ c.self.invariant.0 some answers takes c.in-Ok.ensures.stands (rw c.taken.ensures at c.drop_front.ensures.items) (λ same. answers.moves.life_is ∙ c.self.invariant.0.lives live) c.in-Ok.ensures.joined)

pub returns-in-Err-clause-joined : goal.returns-in-Err-clause-joined
returns-in-Err-clause-joined g c =
    let some : c.self.inside.pending.items ≢ [] = λ none. c.requires.owes (sym (ap (λ (view : WrittenView). view.pending) c.self.view_is) ∙ none) in
    let answers = rw c.deref.ensures.value at c.in-Err.ensures.answers in
    let takes = rw c.deref.ensures.value at c.in-Err.ensures.takes in
    joined_with _ _ 0 _ (written_passed _ _ c.self.inside.pending.items _ _ _ _ c.self.invariant.0 some answers takes c.in-Err.ensures.stands (rw c.taken.ensures at c.drop_front.ensures.items) (λ same. sym c.life-self-inside.ensures.life ∙ same) c.in-Err.ensures.joined)
