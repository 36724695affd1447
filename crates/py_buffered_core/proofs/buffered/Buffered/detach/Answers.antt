use Rattle.std.proofs.Common.{Ok, sym, ◌∙◌, subst}
use Rattle.std.proofs.lemmas.Result.{err_from_is_err_and}
use Rattle.py_buffered_core.specs.Buffered.{BeginsDetach}
use Rattle.py_buffered_core.proofs.AsBuffered.{detach_fails, detach_hands_over, begins_some}
use Rattle.py_buffered_core.proofs.buffered.Buffered.detach.Goals as goal
use Rattle.py_buffered_core.proofs.buffered.Buffered.detach.Goals.{in-Some, in-None}

pub returns-in_err-begin_detach-clause-outcome : goal.returns-in_err-begin_detach-clause-outcome
returns-in_err-begin_detach-clause-outcome g c =
    let left = err_from_is_err_and c.from_residual.result c.from_residual.ensures.1 in
    rw (← c.self.view_is, left.1, left.2) (detach_fails c.self.inside.data c.begin_detach.new.engine c.self.inside.access c.self.inside.seekable c.self.inside.size c.in_err-begin_detach.field-0.0 c.in_err-begin_detach.ensures)

pub returns-clause-outcome : goal.returns-clause-outcome
returns-clause-outcome g c =
    elim c.match-take.branch [
      | in-Some w ↦
          let begun = subst (BeginsDetach c.self.inside.data (Ok tt)) (sym c.take.ensures.value ∙ w.in-Some.is) c.in_ok-begin_detach.ensures in
          rw (← c.self.view_is, w.result-is, c.take.ensures.after)
          (detach_hands_over c.self.inside.data w.in-Some.engine c.self.inside.access c.self.inside.seekable c.self.inside.size _ _ _ c.self.invariant begun w.hand_over.ensures.raw w.hand_over.ensures.unwritten w.hand_over.ensures.place)
      | in-None w ↦ absurd (begins_some c.self.inside.data (subst (BeginsDetach c.self.inside.data (Ok tt)) (sym c.take.ensures.value ∙ w.in-None.is) c.in_ok-begin_detach.ensures))
    ]
