use Rattle.py_script.proofs.OptionLaws.{any_order}
use Rattle.py_script.proofs.laws.options_stand_in_any_order.Goals as goal

pub returns : goal.returns
returns c = any_order
