use Rattle.py_text_laws.proofs.BroughtBack.{brought_back}
use Rattle.py_text_laws.proofs.laws.a_cookie_brings_back_the_rest.Goals as goal

pub returns-clause-reply : goal.returns-clause-reply
returns-clause-reply c = λ file between stands reach lives able forward order moves. (brought_back file between stands reach lives able forward order moves).reply

pub returns-clause-rest : goal.returns-clause-rest
returns-clause-rest c = λ file between stands reach lives able forward order moves. (brought_back file between stands reach lives able forward order moves).rest
