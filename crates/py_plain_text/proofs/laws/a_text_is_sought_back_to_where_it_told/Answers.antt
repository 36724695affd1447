use Rattle.py_plain_text.proofs.Sought.{told_then_sought}
use Rattle.py_plain_text.proofs.laws.a_text_is_sought_back_to_where_it_told.Goals as goal

pub returns-clause-reply : goal.returns-clause-reply
returns-clause-reply c = λ file stands reach lives able forward order. (told_then_sought file stands reach lives able forward order).0

pub returns-clause-rest : goal.returns-clause-rest
returns-clause-rest c = λ file stands reach lives able forward order. (told_then_sought file stands reach lives able forward order).1
