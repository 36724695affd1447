use Rattle.std.proofs.Common.{refl}
use Rattle.std.proofs.lemmas.Result.{err_from_is_err_and}
use Rattle.py_flat.specs.Calls.{Tell}
use Rattle.py_stream.proofs.Refusing.{begins_in_vain, sound_placed}
use Rattle.py_stream.proofs.moves.tell.Goals as goal

pub returns-in_err-begin_call-clause-answers : goal.returns-in_err-begin_call-clause-answers
returns-in_err-begin_call-clause-answers g c =
    let left = err_from_is_err_and c.from_residual.result c.from_residual.ensures.1 in
    rw (left.1, left.2) (begins_in_vain _ _ Tell c.in_err-begin_call.field-0.0 (sound_placed _ c.in_err-begin_call.ensures.sound) refl refl refl refl c.in_err-begin_call.ensures.begins)
