use Rattle.std.proofs.Common.{true}
use Rattle.py_plain.specs.declared.encoding.Encoding.TheVariants.{Utf8}
use Rattle.py_plain.specs.Units.{Unknown}
use Rattle.py_plain.proofs.AnyUnits.{unit_within_any}
use Rattle.py_plain.proofs.unit.first_unit.Goals as goal

pub returns-in-Utf8-clause-within : goal.returns-in-Utf8-clause-within
returns-in-Utf8-clause-within c = rw c.utf8_unit.ensures (unit_within_any Utf8 Unknown true c.args.bytes.now)
