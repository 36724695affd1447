use Rattle.std.proofs.Common.{rules, refl, append-nil, ◌≡◌, ℕ, Bool, true, false, List, Result, Ok, Err, subst, sym, arith}
use Rattle.py_flat.specs.declared.fault.IoFault.{IoFault}
use Rattle.py_flat.specs.Lines.{joined}
use Rattle.py_stream.specs.Stream.{Stream}
use Rattle.py_stream.specs.Taking.{KeepsWhatFits, PutsOutcome}
use Rattle.py_stream.proofs.Giving.{takes_nothing, lines_stopped, lines_taken, lines_kept, lines_roomless, line_within}
use Rattle.py_stream.proofs.piecewise.take_lines.Goals as goal

pub loop-line-init : goal.loop-line-init
loop-line-init g c = record { all = takes_nothing (g.S.TakesPieces.shows c.args.stream.now) c.requires.sound c.requires.behind c.requires.live; room = λ _. record { raw = refl; buffer = refl; owed = sym (append-nil (g.S.TakesPieces.shows c.args.stream.now).owed.bytes); forth = omega arith; held = omega (arith, (c.requires.sound.near c.requires.live).before_end) }; takes = c.requires.takes }

pub take_piece-requires-clause-within : goal.take_piece-requires-clause-within
take_piece-requires-clause-within g c =
    line_within (g.S.TakesPieces.shows c.args.stream.now) (g.S.TakesPieces.shows c.loop-line.stream) c.as_slice-line-items.result.now c.args.lines.now c.loop-line.line-index c.args.start c.line-item.result c.as_slice.result.now
    c.as_slice-line-items.ensures (omega arith) c.line-item.is c.as_slice.ensures c.loop-line.invariant.all.took c.requires.start c.requires.within

pub returns-in_err-take_piece-clause-outcome : goal.returns-in_err-take_piece-clause-outcome
returns-in_err-take_piece-clause-outcome g c =
    let old : Stream = g.S.TakesPieces.shows c.args.stream.now in
    let new : Stream = g.S.TakesPieces.shows c.take_piece.new.self in
    let why : IoFault = c.in_err-take_piece.field-0.0 in
    let says : c.from_residual.result ≡ Err why = search rules in
    subst (λ (result : Result Bool IoFault). PutsOutcome old (joined c.args.lines.now) c.args.start result new) (sym says)
    (subst (λ (all : List (List ℕ)). PutsOutcome old (joined all) c.args.start (Err why) new) c.as_slice-line-items.ensures
    (lines_stopped old (g.S.TakesPieces.shows c.loop-line.stream) new c.as_slice-line-items.result.now c.loop-line.line-index c.line-item.result c.as_slice.result.now c.args.start (Err why) (omega arith) c.line-item.is c.as_slice.ensures c.loop-line.invariant.all c.in_err-take_piece.ensures.outcome (λ same. absurd (cc))))

pub returns-in_err-take_piece-clause-room : goal.returns-in_err-take_piece-clause-room
returns-in_err-take_piece-clause-room g c =
    let old : Stream = g.S.TakesPieces.shows c.args.stream.now in
    let new : Stream = g.S.TakesPieces.shows c.take_piece.new.self in
    let why : IoFault = c.in_err-take_piece.field-0.0 in
    let says : c.from_residual.result ≡ Err why = search rules in
    subst (λ (result : Result Bool IoFault). KeepsWhatFits old (joined c.args.lines.now) result new) (sym says)
    (subst (λ (all : List (List ℕ)). KeepsWhatFits old (joined all) (Err why) new) c.as_slice-line-items.ensures
    (lines_roomless old (g.S.TakesPieces.shows c.loop-line.stream) new c.as_slice-line-items.result.now c.loop-line.line-index c.line-item.result c.as_slice.result.now (Err why) (omega arith) c.line-item.is c.as_slice.ensures c.loop-line.invariant.room c.in_err-take_piece.ensures.room (λ same. absurd (cc))))

pub returns-then-not-branch-clause-room : goal.returns-then-not-branch-clause-room
returns-then-not-branch-clause-room g c =
    let old : Stream = g.S.TakesPieces.shows c.args.stream.now in
    let now : Stream = g.S.TakesPieces.shows c.loop-line.stream in
    let new : Stream = g.S.TakesPieces.shows c.take_piece.new.self in
    let put : KeepsWhatFits now c.as_slice.result.now (Ok false) new = rw c.if-not-branch.true at c.in_ok-take_piece.ensures.room in
    subst (λ (all : List (List ℕ)). KeepsWhatFits old (joined all) (Ok false) new) c.as_slice-line-items.ensures
    (lines_roomless old now new c.as_slice-line-items.result.now c.loop-line.line-index c.line-item.result c.as_slice.result.now (Ok false) (omega arith) c.line-item.is c.as_slice.ensures c.loop-line.invariant.room put (λ same. absurd (cc)))

pub returns-then-not-branch-clause-outcome : goal.returns-then-not-branch-clause-outcome
returns-then-not-branch-clause-outcome g c =
    let old : Stream = g.S.TakesPieces.shows c.args.stream.now in
    let now : Stream = g.S.TakesPieces.shows c.loop-line.stream in
    let new : Stream = g.S.TakesPieces.shows c.take_piece.new.self in
    let put : PutsOutcome now c.as_slice.result.now c.args.start (Ok false) new = rw c.if-not-branch.true at c.in_ok-take_piece.ensures.outcome in
    subst (λ (all : List (List ℕ)). PutsOutcome old (joined all) c.args.start (Ok false) new) c.as_slice-line-items.ensures
    (lines_stopped old now new c.as_slice-line-items.result.now c.loop-line.line-index c.line-item.result c.as_slice.result.now c.args.start (Ok false) (omega arith) c.line-item.is c.as_slice.ensures c.loop-line.invariant.all put (λ same. absurd (cc)))

pub loop-line-preserved : goal.loop-line-preserved
loop-line-preserved g c =
    let old : Stream = g.S.TakesPieces.shows c.args.stream.now in
    let now : Stream = g.S.TakesPieces.shows c.loop-line.stream in
    let new : Stream = g.S.TakesPieces.shows c.take_piece.new.self in
    let put : PutsOutcome now c.as_slice.result.now c.args.start (Ok true) new = rw c.if-not-branch.false at c.in_ok-take_piece.ensures.outcome in
    let room : KeepsWhatFits now c.as_slice.result.now (Ok true) new = rw c.if-not-branch.false at c.in_ok-take_piece.ensures.room in
    record {
      all = lines_taken old now new c.as_slice-line-items.result.now c.loop-line.line-index c.line-item.result c.as_slice.result.now (omega arith) c.line-item.is c.as_slice.ensures c.loop-line.invariant.all put;
      room = lines_kept old now new c.as_slice-line-items.result.now c.loop-line.line-index c.line-item.result c.as_slice.result.now (omega arith) c.line-item.is c.as_slice.ensures c.loop-line.invariant.room room;
      takes = c.in_ok-take_piece.ensures.takes;
    }
