use Rattle.py_open.proofs.Losing.{answer_loses_nothing, unready_leaves_text, refusal_leaves_text, lacking_leaves_text}
use Rattle.py_open.proofs.text_laws.a_wait_loses_nothing.Goals as goal

pub returns-clause-answered : goal.returns-clause-answered
returns-clause-answered c = answer_loses_nothing

pub returns-clause-not_ready : goal.returns-clause-not_ready
returns-clause-not_ready c = unready_leaves_text

pub returns-clause-refused : goal.returns-clause-refused
returns-clause-refused c = refusal_leaves_text

pub returns-clause-lacking : goal.returns-clause-lacking
returns-clause-lacking c = lacking_leaves_text
