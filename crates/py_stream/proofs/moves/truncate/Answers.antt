use Rattle.std.proofs.Common.{unwrap_or, refl, sym, ◌∙◌, ap}
use Rattle.std.proofs.lemmas.Result.{err_from_is_err_and}
use Rattle.py_flat.specs.Calls.{Truncate}
use Rattle.py_stream.specs.LiveRaw.{is_truncatable}
use Rattle.py_stream.proofs.Refusing.{begins_in_vain, sound_placed}
use Rattle.py_stream.proofs.Sizing.{truncates_not, truncates_too_far, truncation_stops, truncation_fails, truncation_answers}
use Rattle.py_stream.proofs.moves.truncate.Goals as goal

pub returns-in_err-begin_call : goal.returns-in_err-begin_call
returns-in_err-begin_call g c =
    let left = err_from_is_err_and c.from_residual.result c.from_residual.ensures.1 in
    rw (left.1, left.2) (begins_in_vain _ _ (Truncate c.args.size) c.in_err-begin_call.field-0.0 (sound_placed _ c.in_err-begin_call.ensures.sound) refl refl refl refl c.in_err-begin_call.ensures.begins)

pub returns-then-not-is_truncatable : goal.returns-then-not-is_truncatable
returns-then-not-is_truncatable g c = truncates_not _ _ _ c.is_truncatable.result c.args.size (sound_placed _ c.in_ok-begin_call.ensures.sound) c.in_ok-begin_call.ensures.begins refl (c.is_truncatable.ensures ∙ ap is_truncatable c.live.ensures) c.if-not-is_truncatable.true

pub returns-then-size-gt-GREATEST_PLACE : goal.returns-then-size-gt-GREATEST_PLACE
returns-then-size-gt-GREATEST_PLACE g c = truncates_too_far _ (g.S.Moves.shows c.begin_call.new.self) c.args.size c.unwrap_or-size.result
    (record { sound = c.in_ok-begin_call.ensures.sound; owes = c.in_ok-begin_call.ensures.owes; begins = c.in_ok-begin_call.ensures.begins; can = sym (c.is_truncatable.ensures ∙ ap is_truncatable c.live.ensures) ∙ c.if-not-is_truncatable.false; asks = c.unwrap_or-size.ensures ∙ ap (unwrap_or c.args.size) c.stands_at.ensures }) c.if-size-gt-GREATEST_PLACE.true

pub returns-in_err-settle : goal.returns-in_err-settle
returns-in_err-settle g c =
    let left = err_from_is_err_and c.from_residual-in_err-settle.result c.from_residual-in_err-settle.ensures.1 in
    rw (left.1, left.2) (truncation_stops _ _ (g.S.Moves.shows c.begin_call.new.self) _ c.args.size c.unwrap_or-size.result c.in_err-settle.field-0.0 refl
    (record { sound = c.in_ok-begin_call.ensures.sound; owes = c.in_ok-begin_call.ensures.owes; begins = c.in_ok-begin_call.ensures.begins; can = sym (c.is_truncatable.ensures ∙ ap is_truncatable c.live.ensures) ∙ c.if-not-is_truncatable.false; asks = c.unwrap_or-size.ensures ∙ ap (unwrap_or c.args.size) c.stands_at.ensures }) c.if-size-gt-GREATEST_PLACE.false c.in_err-settle.ensures.settles)

pub returns-in_err-resize : goal.returns-in_err-resize
returns-in_err-resize g c =
    let left = err_from_is_err_and c.from_residual-in_err-resize.result c.from_residual-in_err-resize.ensures.1 in
    rw (left.1, left.2) (truncation_fails _ (g.S.Moves.shows c.begin_call.new.self) _ _ c.args.size c.unwrap_or-size.result c.in_err-resize.field-0.0
    (record { sound = c.in_ok-begin_call.ensures.sound; owes = c.in_ok-begin_call.ensures.owes; begins = c.in_ok-begin_call.ensures.begins; can = sym (c.is_truncatable.ensures ∙ ap is_truncatable c.live.ensures) ∙ c.if-not-is_truncatable.false; asks = c.unwrap_or-size.ensures ∙ ap (unwrap_or c.args.size) c.stands_at.ensures }) c.if-size-gt-GREATEST_PLACE.false c.in_ok-settle.ensures.settles c.in_err-resize.ensures)

pub returns : goal.returns
returns g c = truncation_answers _ (g.S.Moves.shows c.begin_call.new.self) _ _ c.args.size c.unwrap_or-size.result
    (record { sound = c.in_ok-begin_call.ensures.sound; owes = c.in_ok-begin_call.ensures.owes; begins = c.in_ok-begin_call.ensures.begins; can = sym (c.is_truncatable.ensures ∙ ap is_truncatable c.live.ensures) ∙ c.if-not-is_truncatable.false; asks = c.unwrap_or-size.ensures ∙ ap (unwrap_or c.args.size) c.stands_at.ensures }) c.if-size-gt-GREATEST_PLACE.false c.in_ok-settle.ensures.settles c.in_ok-settle.ensures.bare c.in_ok-resize.ensures
