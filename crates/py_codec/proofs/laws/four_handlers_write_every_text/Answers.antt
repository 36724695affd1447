use Rattle.py_codec.proofs.AlwaysWritten.{given, never_refused}
use Rattle.py_codec.proofs.laws.four_handlers_write_every_text.Goals as goal

pub returns : goal.returns
returns g c = record { given = given; encoded = never_refused g.H.ErrorHandler.encodes }
