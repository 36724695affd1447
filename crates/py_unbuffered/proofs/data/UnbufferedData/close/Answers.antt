use Rattle.std.proofs.Common.{arith}
use Rattle.std.proofs.lemmas.Result.{err_from_is_err_and}
use Rattle.py_unbuffered.proofs.Begun.{closes_in_vain}
use Rattle.py_unbuffered.proofs.data.UnbufferedData.close.Goals as goal
use Rattle.py_unbuffered.proofs.data.UnbufferedData.close.Goals.{in-Closed, in_default}

pub returns-in_err-begin : goal.returns-in_err-begin
returns-in_err-begin g c = grind (arith, err_from_is_err_and, in-Closed, in_default, closes_in_vain)
