use Rattle.py_plain_text.proofs.Standing.{opened_stands, exact_stands, runs_stand}
use Rattle.py_plain_text.proofs.Orders.{exact_order}
use Rattle.py_plain_text.proofs.StandingSteps.{step_stands}
use Rattle.py_plain_text.proofs.laws.calls_leave_texts_where_cookies_tell.Goals as goal

pub returns-clause-opened : goal.returns-clause-opened
returns-clause-opened c = λ file reads place order. opened_stands file reads place order

pub returns-clause-exact : goal.returns-clause-exact
returns-clause-exact c = λ file call stands. exact_stands file call stands

pub returns-clause-order : goal.returns-clause-order
returns-clause-order c = λ file call none. exact_order file call none

pub returns-clause-step : goal.returns-clause-step
returns-clause-step c = λ before call reply waited faulted after stands step lives. step_stands before call reply waited faulted after stands step lives

pub returns-clause-runs : goal.returns-clause-runs
returns-clause-runs c = λ file calls stands. runs_stand file calls stands
