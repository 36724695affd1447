use Rattle.py_stream.proofs.Refusing.{refuses_by_life, refuses_by_ability, sound_placed}
use Rattle.py_stream.proofs.moves.refuse.Goals as goal

pub returns-in-Ok-clause-answers : goal.returns-in-Ok-clause-answers
returns-in-Ok-clause-answers g c = refuses_by_ability _ _ (sound_placed _ c.in-Ok.ensures.sound) c.in-Ok.ensures.begins

pub returns-in-Err-clause-answers : goal.returns-in-Err-clause-answers
returns-in-Err-clause-answers g c = refuses_by_life _ _ c.in-Err.fault (sound_placed _ c.in-Err.ensures.sound) c.in-Err.ensures.begins
