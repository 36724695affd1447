use Rattle.py_text.proofs.Lengths.{given-long}
use Rattle.py_text.proofs.sizes.character_length.Goals as goal

pub returns-else-has_bytes-clause-bytes : goal.returns-else-has_bytes-clause-bytes
returns-else-has_bytes-clause-bytes c = given-long c.args.coder.errors c.args.coder.encoding c.args.character c.substitute_length.result c.in-Latin1.is c.if-has_bytes.ensures c.substitute_length.ensures.characters
