use Rattle.py_plain.proofs.UnitLaws.{character_own, one_unit, unit_within}
use Rattle.py_plain.proofs.laws.utf8_units.Goals as goal

pub returns : goal.returns
returns c = record { characters = character_own; encoded = one_unit; within = unit_within }
