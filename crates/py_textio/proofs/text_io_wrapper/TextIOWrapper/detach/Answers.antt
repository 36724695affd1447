use Rattle.std.proofs.Common.{Ok, sym, ◌∙◌, subst}
use Rattle.std.proofs.lemmas.Result.{err_from_is_err_and}
use Rattle.py_textio.specs.Handing.{BeginsDetach}
use Rattle.py_textio.proofs.Detaching.{detach_fails, detach_hands_over, begins_some}
use Rattle.py_textio.proofs.text_io_wrapper.TextIOWrapper.detach.Goals as goal

pub returns-in_err-begin_detach-clause-outcome : goal.returns-in_err-begin_detach-clause-outcome
returns-in_err-begin_detach-clause-outcome g c =
    let left = err_from_is_err_and c.from_residual.result c.from_residual.ensures.1 in
    rw (← c.self.view_is, left.1, left.2) (detach_fails c.self.inside.attached c.begin_detach.new.attached c.self.inside.left c.in_err-begin_detach.field-0.0 c.in_err-begin_detach.ensures)

pub returns-in-Some-clause-outcome : goal.returns-in-Some-clause-outcome
returns-in-Some-clause-outcome g c =
    let begun = subst (BeginsDetach c.self.inside.attached (Ok tt)) (sym c.take.ensures.value ∙ c.in-Some.is) c.in_ok-begin_detach.ensures in
    rw (← c.self.view_is, c.take.ensures.after)
    (detach_hands_over c.self.inside.attached c.in-Some.text c.self.inside.left _ _ _ _ begun (record { buffer_is = c.into_parts.ensures.buffer; unwritten_is = c.into_parts.ensures.unwritten; place_is = c.into_parts.ensures.place; can = c.left-self-inside.ensures.can; settings = c.left-self-inside.ensures.settings }))

pub returns-in-None-clause-outcome : goal.returns-in-None-clause-outcome
returns-in-None-clause-outcome g c = absurd (begins_some c.self.inside.attached (subst (BeginsDetach c.self.inside.attached (Ok tt)) (sym c.take.ensures.value ∙ c.in-None.is) c.in_ok-begin_detach.ensures))
