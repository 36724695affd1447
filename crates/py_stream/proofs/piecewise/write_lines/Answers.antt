use Rattle.std.proofs.Common.{ℕ, ◌+◌, ◌-◌, ◌<◌, length, refl, ap, ◌∙◌, subst}
use Rattle.std.proofs.lemmas.Result.{err_from_is_err_and}
use Rattle.py_flat.specs.declared.fault.IoFault.TheVariants as fault
use Rattle.py_flat.specs.Limits.{greatest_place}
use Rattle.py_flat.specs.Lines.{joined}
use Rattle.py_flat.specs.Calls.{WriteLines}
use Rattle.py_stream.specs.Stream.{Stream}
use Rattle.py_stream.proofs.Giving.{lines_too_far}
use Rattle.py_stream.proofs.Given.{lines_begun, writing_past, giving_takes, giving_blocks, giving_fails}
use Rattle.py_stream.proofs.piecewise.write_lines.Goals as goal

pub returns-in_err-begin_writing : goal.returns-in_err-begin_writing
returns-in_err-begin_writing g c =
    let left = err_from_is_err_and c.from_residual.result c.from_residual.ensures.1 in
    rw (left.1, left.2) (c.in_err-begin_writing.ensures.begins (WriteLines c.args.lines.now) refl)

pub returns-then-is_none : goal.returns-then-is_none
returns-then-is_none g c =
    writing_past _ _ (WriteLines c.args.lines.now) refl c.in_ok-begin_writing.ensures.begins (subst (λ (start : ℕ). greatest_place < start + length (joined c.args.lines.now)) c.next_place-start.ensures (lines_too_far _ c.end_of_lines.result c.end_of_lines.ensures c.if-is_none.ensures))

pub returns-in_err-take_lines : goal.returns-in_err-take_lines
returns-in_err-take_lines g c =
    let left = err_from_is_err_and c.from_residual-in_err-take_lines.result c.from_residual-in_err-take_lines.ensures.1 in
    rw (left.1, left.2) (giving_fails _ _ _ (WriteLines c.args.lines.now) c.next_place-start.result c.in_err-take_lines.field-0.0 (lines_begun (g.S.TakesPieces.shows c.args.stream.now) (g.S.TakesPieces.shows c.begin_writing.new.self) c.args.lines.now c.next_place-start.result c.end_of_lines.result c.in_ok-begin_writing.ensures.begins c.next_place-start.ensures c.end_of_lines.ensures c.if-is_none.ensures) c.next_place-start.ensures c.in_err-take_lines.ensures.outcome tt c.in_err-take_lines.ensures.room)

pub returns-then-branch : goal.returns-then-branch
returns-then-branch g c = giving_takes _ _ _ (WriteLines c.args.lines.now) (lines_begun (g.S.TakesPieces.shows c.args.stream.now) (g.S.TakesPieces.shows c.begin_writing.new.self) c.args.lines.now c.next_place-start.result c.end_of_lines.result c.in_ok-begin_writing.ensures.begins c.next_place-start.ensures c.end_of_lines.ensures c.if-is_none.ensures) (rw c.if-branch.true at c.in_ok-take_lines.ensures.outcome) (rw c.if-branch.true at c.in_ok-take_lines.ensures.room)

pub returns : goal.returns
returns g c =
    giving_blocks _ _ (g.S.TakesPieces.shows c.take_lines.new.stream) _ (WriteLines c.args.lines.now) c.next_place-start.result _ (lines_begun (g.S.TakesPieces.shows c.args.stream.now) (g.S.TakesPieces.shows c.begin_writing.new.self) c.args.lines.now c.next_place-start.result c.end_of_lines.result c.in_ok-begin_writing.ensures.begins c.next_place-start.ensures c.end_of_lines.ensures c.if-is_none.ensures) c.next_place-start.ensures (rw c.if-branch.false at c.in_ok-take_lines.ensures.outcome) (rw c.if-branch.false at c.in_ok-take_lines.ensures.room)
    (ap (λ (place : ℕ). fault.WouldBlock (place - c.next_place-start.result)) (c.next_place.ensures ∙ ap (λ (stream : Stream). stream.place) c.note_short.ensures)) c.note_short.ensures
