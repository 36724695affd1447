use Rattle.std.proofs.Common.{◌+◌, ◌≤◌, ℕ, List, length, sym, subst, arith}
use Rattle.py_flat.specs.Limits.{greatest_place}
use Rattle.py_flat.specs.Lines.{joined}
use Rattle.py_window.specs.Window.{place_of}
use Rattle.py_engine.proofs.Pushing.{puts_none, next_room, next_placed, next_put, all_put}
use Rattle.py_engine.proofs.data.given.push_lines.Goals as goal

-- the lines have a place
far : (c : goal.After-push-arg-1) → place_of c.args.window.now + length (joined c.as_slice-line-items.result.now) ≤ greatest_place
far c = subst (λ (lines : List (List ℕ)). place_of c.args.window.now + length (joined lines) ≤ greatest_place) (sym c.as_slice-line-items.ensures) c.requires.within

pub loop-line-init : goal.loop-line-init
loop-line-init c = puts_none c.args.window.now c.args.room

pub push-requires-clause-room : goal.push-requires-clause-room
push-requires-clause-room c =
    next_room c.args.window.now c.loop-line.window c.as_slice-line-items.result.now c.loop-line.line-index c.args.room c.loop-line.left c.min-some.result c.line-item.result c.as_slice-piece.result.now c.requires.window c.requires.room (far c) c.loop-line.invariant (omega arith) c.line-item.is c.as_slice-piece.ensures c.min-some.ensures

pub push-requires-clause-within : goal.push-requires-clause-within
push-requires-clause-within c =
    next_placed c.args.window.now c.loop-line.window c.as_slice-line-items.result.now c.loop-line.line-index c.args.room c.loop-line.left c.min-some.result c.line-item.result c.as_slice-piece.result.now c.requires.window c.requires.room (far c) c.loop-line.invariant (omega arith) c.line-item.is c.as_slice-piece.ensures c.min-some.ensures

pub loop-line-preserved : goal.loop-line-preserved
loop-line-preserved c =
    next_put c.args.window.now c.loop-line.window c.as_slice-line-items.result.now c.loop-line.line-index c.args.room c.loop-line.left c.min-some.result c.line-item.result c.as_slice-piece.result.now c.requires.window c.requires.room
    (subst (λ (lines : List (List ℕ)). place_of c.args.window.now + length (joined lines) ≤ greatest_place) (sym c.as_slice-line-items.ensures) c.requires.within)
    c.loop-line.invariant (omega arith) c.line-item.is c.as_slice-piece.ensures c.min-some.ensures c.push.new.self c.push.ensures

pub returns : goal.returns
returns c = all_put c.args.window.now c.loop-line.window c.as_slice-line-items.result.now c.args.lines.now c.loop-line.line-index c.args.room c.loop-line.left c.loop-line.invariant c.loop-line-test.false c.as_slice-line-items.ensures
