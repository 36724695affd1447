use Rattle.std.proofs.Common.{sym, ◌∙◌, true}
use Rattle.py_plain.specs.Units.{Unknown}
use Rattle.py_telling.proofs.Ranges.{unit_few}
use Rattle.py_telling.proofs.seen_item.unit_of.Goals as goal

pub returns-clause-within : goal.returns-clause-within
returns-clause-within c =
    unit_few c.args.encoding c.args.bytes.now c.unwrap.result (sym (c.first_unit.ensures.unit Unknown true) ∙ c.unwrap.ensures)
    (rw c.unwrap.ensures at c.first_unit.ensures.within)
