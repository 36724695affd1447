use Rattle.std.proofs.Common.{◌≡◌, ℕ, ◌+◌, ◌-◌, length, take, drop, Bool, List, sym, ap, subst, arith}
use Rattle.std.proofs.lemmas.List.{take_rest}
use Rattle.py_lines.specs.Collecting.{LinesView, IsOneLine, AreEnoughIf}
use Rattle.py_lines.proofs.Lines.{none_in, found_in, one_to_end}
use Rattle.py_lines.proofs.Collectors.{CollectsFront, front_ended, lines_are_enough, lines_want_more}
use Rattle.py_lines.proofs.lines_collector.LinesCollectorCollector.collect.Goals as goal

piece_is : (bytes : List ℕ) (used at : ℕ) → take (used + at + 1 - used) (drop used bytes) ≡ take (at + 1) (drop used bytes)
piece_is bytes used at = ap (λ (n : ℕ). take n (drop used bytes)) (omega arith)

pub end_line-requires-clause-one : goal.end_line-requires-clause-one
end_line-requires-clause-one c =
    let bytes : List ℕ = c.args.bytes.now in
    let used : ℕ = c.loop-at.used in
    let found = found_in (drop used bytes) (length bytes - used) c.in-Some.at c.in-Some.ensures.0 c.in-Some.ensures.1 in
    subst IsOneLine (sym (piece_is bytes used c.in-Some.at)) (one_to_end (drop used bytes) c.in-Some.at found.1)

pub returns-then-enough-clause-outcome : goal.returns-then-enough-clause-outcome
returns-then-enough-clause-outcome c =
    let old : LinesView = c.args.self.now in
    let new : LinesView = c.end_line.new.self in
    let bytes : List ℕ = c.args.bytes.now in
    let used : ℕ = c.loop-at.used in
    let ended = c.in_ok-enough-in-Some.ensures in
    let found = found_in (drop used bytes) (length bytes - used) c.in-Some.at c.in-Some.ensures.0 c.in-Some.ensures.1 in
    let front : CollectsFront old bytes (used + (c.in-Some.at + 1)) new = front_ended old c.loop-at.self new bytes _ used c.in-Some.at c.in_ok-enough-in-Some.enough c.loop-at.invariant.front found.1 (piece_is bytes used c.in-Some.at) ended in
    lines_are_enough old new bytes (used + (c.in-Some.at + 1)) front ended.part (subst (λ (b : Bool). AreEnoughIf b new) c.if-enough.true ended.enough_is)

pub loop-at-preserved : goal.loop-at-preserved
loop-at-preserved c =
    let new : LinesView = c.end_line.new.self in
    let bytes : List ℕ = c.args.bytes.now in
    let used : ℕ = c.loop-at.used in
    let ended = c.in_ok-enough-in-Some.ensures in
    let found = found_in (drop used bytes) (length bytes - used) c.in-Some.at c.in-Some.ensures.0 c.in-Some.ensures.1 in
    record {
      front = front_ended c.args.self.now c.loop-at.self new bytes _ used c.in-Some.at c.in_ok-enough-in-Some.enough c.loop-at.invariant.front found.1 (piece_is bytes used c.in-Some.at) ended;
      stays = subst (λ (b : Bool). AreEnoughIf b new) c.if-enough.false ended.enough_is;
    }

pub keep-requires : goal.keep-requires
keep-requires c = none_in _ c.in-None.ensures

pub returns-in-None-clause-outcome : goal.returns-in-None-clause-outcome
returns-in-None-clause-outcome c =
    lines_want_more c.args.self.now c.loop-at.self c.keep.new.self c.args.bytes.now _ c.loop-at.used c.loop-at.invariant.front (take_rest c.args.bytes.now c.loop-at.used) c.loop-at.invariant.stays c.in_ok-keep-in-None.ensures.0 c.in_ok-keep-in-None.ensures.1
