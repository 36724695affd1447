use Rattle.std.proofs.Common.{ℕ, Option, unwrap_or, refl, ap, ◌∙◌, subst}
use Rattle.py_engine.specs.Engine.{Stands}
use Rattle.py_engine.proofs.Random.{goes_ahead, goes_unready, goes_not}
use Rattle.py_engine.proofs.data.BufferedData.go_ahead.Goals as goal

pub returns-then-is_ahead : goal.returns-then-is_ahead
returns-then-is_ahead g c = record { reads = c.is_ahead.ensures.yes c.if-is_ahead.true; live = c.requires.live; whole = c.requires.whole; size = refl; answers = λ call reply after goes takes answers. answers }

pub returns-in-Ok : goal.returns-in-Ok
returns-in-Ok g c =
    let kept = c.in-Ok.ensures.outcome.0.passes.kept in
    record {
      reads = c.in-Ok.ensures.reads;
      live = c.in-Ok.ensures.outcome.0.live;
      whole = kept.short ∙ c.requires.whole;
      size = ap (λ (size : Option ℕ). unwrap_or size 0) kept.buffer;
      answers = goes_ahead c.args.self.now c.pass_to_read.new.self (subst Stands c.self.view_is c.self.invariant) (c.is_ahead.ensures.update c.if-is_ahead.false) c.requires.live c.requires.whole (c.is_ahead.ensures.no c.if-is_ahead.false) c.in-Ok.ensures.calm c.in-Ok.ensures.outcome c.in-Ok.ensures.reads;
    }

pub returns-in-WouldBlock : goal.returns-in-WouldBlock
returns-in-WouldBlock g c = goes_unready c.args.self.now c.pass_to_read.new.self (subst Stands c.self.view_is c.self.invariant) (c.is_ahead.ensures.update c.if-is_ahead.false) c.requires.live c.requires.whole (c.is_ahead.ensures.no c.if-is_ahead.false) c.in-Err.ensures.calm c.in-WouldBlock.taken (rw c.in-WouldBlock.is at c.in-Err.ensures.outcome)

pub returns-in_default : goal.returns-in_default
returns-in_default g c = goes_not c.args.self.now c.pass_to_read.new.self (subst Stands c.self.view_is c.self.invariant) (c.is_ahead.ensures.update c.if-is_ahead.false) c.requires.live c.requires.whole (c.is_ahead.ensures.no c.if-is_ahead.false) c.in-Err.ensures.calm c.in-Err.fault c.in_default.not-WouldBlock c.in-Err.ensures.outcome
