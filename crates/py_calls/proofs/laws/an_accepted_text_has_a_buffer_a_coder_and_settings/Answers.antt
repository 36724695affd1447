use Rattle.py_calls.proofs.Planning.{planned_text}
use Rattle.py_calls.proofs.laws.an_accepted_text_has_a_buffer_a_coder_and_settings.Goals as goal

pub returns : goal.returns
returns g c = λ finds machine mode args plan planned text. planned_text finds machine mode args plan planned text
