use Rattle.py_codec.proofs.Covering.{none_lost}
use Rattle.py_codec.proofs.laws.no_byte_is_lost.Goals as goal

pub returns : goal.returns
returns g c = none_lost g.H.ErrorHandler.decodes
