use Rattle.py_calls.proofs.Planning.{planned_bytes_encoding, planned_bytes_errors, planned_bytes_newline, planned_bytes_kind}
use Rattle.py_calls.proofs.laws.an_accepted_binary_mode_has_no_text_argument.Goals as goal

pub returns-clause-encoding : goal.returns-clause-encoding
returns-clause-encoding g c = λ finds machine mode args plan planned bytes. planned_bytes_encoding finds machine mode args plan planned bytes

pub returns-clause-errors : goal.returns-clause-errors
returns-clause-errors g c = λ finds machine mode args plan planned bytes. planned_bytes_errors finds machine mode args plan planned bytes

pub returns-clause-newline : goal.returns-clause-newline
returns-clause-newline g c = λ finds machine mode args plan planned bytes. planned_bytes_newline finds machine mode args plan planned bytes

pub returns-clause-kind : goal.returns-clause-kind
returns-clause-kind g c = λ finds machine mode args plan planned bytes. planned_bytes_kind finds machine mode args plan planned bytes
