use Rattle.py_text_laws.proofs.ReadBack.{own_bytes_written}
use Rattle.py_text_laws.proofs.Unasked.{unicode_has_all, let_through, none_refused}
use Rattle.py_text_laws.proofs.laws.texts_that_need_no_handler.Goals as goal

pub returns-clause-unicode : goal.returns-clause-unicode
returns-clause-unicode c = unicode_has_all

pub returns-clause-strict : goal.returns-clause-strict
returns-clause-strict c = let_through

pub returns-clause-accepted : goal.returns-clause-accepted
returns-clause-accepted c = none_refused

pub returns-clause-bytes : goal.returns-clause-bytes
returns-clause-bytes c = own_bytes_written
