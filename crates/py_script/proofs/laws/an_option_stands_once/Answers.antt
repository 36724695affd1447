use Rattle.py_script.proofs.OptionLaws.{each_once}
use Rattle.py_script.proofs.laws.an_option_stands_once.Goals as goal

pub returns : goal.returns
returns c = each_once
