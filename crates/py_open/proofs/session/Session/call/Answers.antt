use Rattle.std.proofs.Common.{sym, subst}
use Rattle.py_open.specs.Laws.{IsReached}
use Rattle.py_open.proofs.Reached.{reached_then}
use Rattle.py_open.proofs.Back.{goes_back_from}
use Rattle.py_open.proofs.session.Session.call.Goals as goal

pub returns-clause-reached : goal.returns-clause-reached
returns-clause-reached g c = λ was. reached_then _ _ _ _ c.answer_kind.ensures.answers (subst IsReached (sym c.self.view_is) was)

pub returns-clause-goes_back : goal.returns-clause-goes_back
returns-clause-goes_back g c = goes_back_from _ _ _ _ _ c.self.view_is c.answer_kind.ensures.answers
