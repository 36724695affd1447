use Rattle.std.proofs.Common.{Ok, Err, Some, refl, ◌∙◌, ap, ◌++◌, ◌-◌, List, ℕ, length, arith}
use Rattle.py_read_text.proofs.Going.{feeds_none, feeds_outcome, feeds_more, feeds_end, feeds_fails}
use Rattle.py_read_text.proofs.Chunks.{empty_part}
use Rattle.py_read_text.proofs.seeking.feed.Goals as goal

pub loop-alloc-init : goal.loop-alloc-init
loop-alloc-init g c = (feeds_none _ c.args.size _ c.requires.can c.requires.none, omega (arith, c.requires.room))

pub returns-then-is_empty : goal.returns-then-is_empty
returns-then-is_empty g c =
    let feeds = c.loop-alloc.invariant.0 in
    let came = feeds_outcome _ _ _ c.args.size _ c.len-in-loop-alloc.result _ (Ok (Some c.in-Ok-Some.part)) c.requires.can c.requires.reads feeds (c.len-in-loop-alloc.ensures ∙ c.loop-alloc.fed.ok.0) refl (omega (arith, c.loop-alloc-test.true, c.len.ensures, c.len-in-loop-alloc.ensures)) (rw c.in-Ok-Some.field-0-is at c.in-Ok-Some.ensures.buffer) in
    record { outcome = feeds_end _ _ _ c.args.size _ _ feeds came (empty_part _ c.in-Ok-Some.part.items (omega (arith, c.in-Ok-Some.part.ok.0)) (c.if-is_empty.ensures)) }

pub loop-alloc-preserved : goal.loop-alloc-preserved
loop-alloc-preserved g c =
    let feeds = c.loop-alloc.invariant.0 in
    let came = feeds_outcome _ _ _ c.args.size _ c.len-in-loop-alloc.result _ (Ok (Some c.in-Ok-Some.part)) c.requires.can c.requires.reads feeds (c.len-in-loop-alloc.ensures ∙ c.loop-alloc.fed.ok.0) refl (omega (arith, c.loop-alloc-test.true, c.len.ensures, c.len-in-loop-alloc.ensures)) (rw c.in-Ok-Some.field-0-is at c.in-Ok-Some.ensures.buffer) in
    let put = rw c.unwrap.ensures at c.extend_from_slice.ensures.items in (
      feeds_more _ _ _ c.args.size _ _ c.extend_from_slice.new.self.items c.requires.reads feeds came (put ∙ ap (λ (part : List ℕ). c.loop-alloc.fed.items ++ part) c.deref.ensures.value),
      omega (arith, c.loop-alloc.invariant.1, c.extend_from_slice.ensures.capacity),
    )

pub returns-in-Err : goal.returns-in-Err
returns-in-Err g c =
    let feeds = c.loop-alloc.invariant.0 in
    record { outcome = feeds_fails _ _ _ c.args.size (c.args.size - length c.loop-alloc.fed.items) _ c.in-Err.fault feeds (feeds_outcome _ _ _ c.args.size _ c.len-in-loop-alloc.result _ (Err c.in-Err.fault) c.requires.can c.requires.reads feeds (c.len-in-loop-alloc.ensures ∙ c.loop-alloc.fed.ok.0) refl (omega (arith, c.loop-alloc-test.true, c.len.ensures, c.len-in-loop-alloc.ensures)) c.in-Err.ensures.buffer) }
