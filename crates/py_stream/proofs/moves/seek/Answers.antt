use Rattle.std.proofs.Common.{ℤ, Ok, Err, refl, ap, ◌∙◌, subst₂, to_z-of_z}
use Rattle.std.proofs.lemmas.Result.{err_from_is_err_and}
use Rattle.py_flat.specs.Calls.{Seek}
use Rattle.py_stream.specs.LiveRaw.{is_movable}
use Rattle.py_stream.specs.Moving.{TargetOutcome}
use Rattle.py_stream.proofs.Refusing.{begins_in_vain, sound_placed}
use Rattle.py_stream.proofs.Going.{seek_finds_nothing, seek_found, seek_stepped, seek_goes_on, may_go, seeking_stops, seeking_fails, seeking_arrives}
use Rattle.py_stream.proofs.Movable.{seeks_on, seeks_not}
use Rattle.py_stream.proofs.moves.seek.Goals as goal

pub returns-in_err-begin_call : goal.returns-in_err-begin_call
returns-in_err-begin_call g c =
    let left = err_from_is_err_and c.from_residual.result c.from_residual.ensures.1 in
    rw (left.1, left.2) (begins_in_vain _ _ (Seek c.args.offset c.args.whence) c.in_err-begin_call.field-0.0 (sound_placed _ c.in_err-begin_call.ensures.sound) refl refl refl refl c.in_err-begin_call.ensures.begins)

pub returns-then-not-is_movable : goal.returns-then-not-is_movable
returns-then-not-is_movable g c = seeks_not _ _ _ c.is_movable.result c.args.offset c.args.whence (sound_placed _ c.in_ok-begin_call.ensures.sound) c.in_ok-begin_call.ensures.begins refl (c.is_movable.ensures ∙ ap is_movable c.live.ensures) c.if-not-is_movable.true

pub returns-in_err-target : goal.returns-in_err-target
returns-in_err-target g c =
    let left = err_from_is_err_and c.from_residual-in_err-target.result c.from_residual-in_err-target.ensures.1 in
    let began = c.in_ok-begin_call.ensures in
    let may = seeks_on _ _ _ c.is_movable.result began.sound began.begins refl (c.is_movable.ensures ∙ ap is_movable c.live.ensures) c.if-not-is_movable.false in
    let found = subst₂ (λ (offset : ℤ) (whence : ℤ). TargetOutcome (g.S.Moves.shows c.begin_call.new.self) offset whence (Err c.in_err-target.field-0.0) (g.S.Moves.shows c.target.new.stream)) (to_z-of_z c.ranges.offset) (to_z-of_z c.ranges.whence) c.in_err-target.ensures in
    rw (left.1, left.2) (seek_finds_nothing _ _ _ c.args.offset c.args.whence c.in_err-target.field-0.0 may began.begins found)

pub returns-then-step_to : goal.returns-then-step_to
returns-then-step_to g c =
    let began = c.in_ok-begin_call.ensures in
    let may = seeks_on _ _ _ c.is_movable.result began.sound began.begins refl (c.is_movable.ensures ∙ ap is_movable c.live.ensures) c.if-not-is_movable.false in
    let found = subst₂ (λ (offset : ℤ) (whence : ℤ). TargetOutcome (g.S.Moves.shows c.begin_call.new.self) offset whence (Ok c.in_ok-target.target) (g.S.Moves.shows c.target.new.stream)) (to_z-of_z c.ranges.offset) (to_z-of_z c.ranges.whence) c.in_ok-target.ensures in
    let seek = seek_found _ _ _ c.args.offset c.args.whence c.in_ok-target.target began.owes may began.begins found in
    seek_stepped _ _ _ c.args.offset c.args.whence c.in_ok-target.target c.step_to.result seek c.step_to.ensures c.if-step_to.true

pub returns-in_err-pass_on : goal.returns-in_err-pass_on
returns-in_err-pass_on g c =
    let left = err_from_is_err_and c.from_residual-in_err-pass_on.result c.from_residual-in_err-pass_on.ensures.1 in
    let began = c.in_ok-begin_call.ensures in
    let may = seeks_on _ _ _ c.is_movable.result began.sound began.begins refl (c.is_movable.ensures ∙ ap is_movable c.live.ensures) c.if-not-is_movable.false in
    let found = subst₂ (λ (offset : ℤ) (whence : ℤ). TargetOutcome (g.S.Moves.shows c.begin_call.new.self) offset whence (Ok c.in_ok-target.target) (g.S.Moves.shows c.target.new.stream)) (to_z-of_z c.ranges.offset) (to_z-of_z c.ranges.whence) c.in_ok-target.ensures in
    let seek = seek_found _ _ _ c.args.offset c.args.whence c.in_ok-target.target began.owes may began.begins found in
    let goes = seek_goes_on _ _ _ c.args.offset c.args.whence c.in_ok-target.target c.step_to.result seek c.step_to.ensures c.if-step_to.false in
    rw (left.1, left.2) (seeking_stops _ _ _ _ c.args.offset c.args.whence c.in_ok-target.target c.in_err-pass_on.field-0.0 refl goes c.in_err-pass_on.ensures)

pub go_to-requires-clause-can : goal.go_to-requires-clause-can
go_to-requires-clause-can g c =
    let began = c.in_ok-begin_call.ensures in
    let may = seeks_on _ _ _ c.is_movable.result began.sound began.begins refl (c.is_movable.ensures ∙ ap is_movable c.live.ensures) c.if-not-is_movable.false in
    let found = subst₂ (λ (offset : ℤ) (whence : ℤ). TargetOutcome (g.S.Moves.shows c.begin_call.new.self) offset whence (Ok c.in_ok-target.target) (g.S.Moves.shows c.target.new.stream)) (to_z-of_z c.ranges.offset) (to_z-of_z c.ranges.whence) c.in_ok-target.ensures in
    let seek = seek_found _ _ _ c.args.offset c.args.whence c.in_ok-target.target began.owes may began.begins found in
    let goes = seek_goes_on _ _ _ c.args.offset c.args.whence c.in_ok-target.target c.step_to.result seek c.step_to.ensures c.if-step_to.false in
    may_go _ _ _ _ c.args.offset c.args.whence c.in_ok-target.target goes c.in_ok-pass_on.ensures

pub returns-in_err-go_to : goal.returns-in_err-go_to
returns-in_err-go_to g c =
    let left = err_from_is_err_and c.from_residual-in_err-go_to.result c.from_residual-in_err-go_to.ensures.1 in
    let began = c.in_ok-begin_call.ensures in
    let may = seeks_on _ _ _ c.is_movable.result began.sound began.begins refl (c.is_movable.ensures ∙ ap is_movable c.live.ensures) c.if-not-is_movable.false in
    let found = subst₂ (λ (offset : ℤ) (whence : ℤ). TargetOutcome (g.S.Moves.shows c.begin_call.new.self) offset whence (Ok c.in_ok-target.target) (g.S.Moves.shows c.target.new.stream)) (to_z-of_z c.ranges.offset) (to_z-of_z c.ranges.whence) c.in_ok-target.ensures in
    let seek = seek_found _ _ _ c.args.offset c.args.whence c.in_ok-target.target began.owes may began.begins found in
    let goes = seek_goes_on _ _ _ c.args.offset c.args.whence c.in_ok-target.target c.step_to.result seek c.step_to.ensures c.if-step_to.false in
    rw (left.1, left.2) (seeking_fails _ _ _ _ _ c.args.offset c.args.whence c.in_ok-target.target c.in_err-go_to.field-0.0 refl goes c.in_ok-pass_on.ensures c.in_err-go_to.ensures)

pub returns : goal.returns
returns g c =
    let began = c.in_ok-begin_call.ensures in
    let may = seeks_on _ _ _ c.is_movable.result began.sound began.begins refl (c.is_movable.ensures ∙ ap is_movable c.live.ensures) c.if-not-is_movable.false in
    let found = subst₂ (λ (offset : ℤ) (whence : ℤ). TargetOutcome (g.S.Moves.shows c.begin_call.new.self) offset whence (Ok c.in_ok-target.target) (g.S.Moves.shows c.target.new.stream)) (to_z-of_z c.ranges.offset) (to_z-of_z c.ranges.whence) c.in_ok-target.ensures in
    let seek = seek_found _ _ _ c.args.offset c.args.whence c.in_ok-target.target began.owes may began.begins found in
    let goes = seek_goes_on _ _ _ c.args.offset c.args.whence c.in_ok-target.target c.step_to.result seek c.step_to.ensures c.if-step_to.false in
    seeking_arrives _ _ _ _ _ c.args.offset c.args.whence c.in_ok-target.target refl goes c.in_ok-pass_on.ensures c.in_ok-go_to.ensures
