use Rattle.py_calls.proofs.Planning.{planned_mode, planned_plus, planned_buffer, planned_may_open, planned_chunk}
use Rattle.py_calls.proofs.laws.an_accepted_plan_is_what_was_asked.Goals as goal

pub returns-clause-mode : goal.returns-clause-mode
returns-clause-mode g c = λ finds machine mode args plan planned. planned_mode finds machine mode args plan planned

pub returns-clause-plus_not_at_the_end : goal.returns-clause-plus_not_at_the_end
returns-clause-plus_not_at_the_end g c = λ finds machine mode args plan planned plus. planned_plus finds machine mode args plan planned plus

pub returns-clause-buffer : goal.returns-clause-buffer
returns-clause-buffer g c = λ finds machine mode args plan planned. planned_buffer finds machine mode args plan planned

pub returns-clause-may_open : goal.returns-clause-may_open
returns-clause-may_open g c = λ finds machine mode args plan planned. planned_may_open finds machine mode args plan planned

pub returns-clause-chunk : goal.returns-clause-chunk
returns-clause-chunk g c = λ finds machine mode args plan planned. planned_chunk finds machine mode args plan planned
