use Rattle.py_read_text.proofs.Landings.{seek_answers}
use Rattle.py_read_text.proofs.read_text.ReadText.seek_to.Goals as goal

pub returns-clause-answers : goal.returns-clause-answers
returns-clause-answers g c = λ sought whence seeks. seek_answers _ _ sought whence _ c.go_by.result c.requires.live c.life.ensures.joined c.go_by.ensures.joined seeks c.go_by.ensures.outcome
