use Rattle.py_plain.proofs.Items.{each_alone}
use Rattle.py_plain.proofs.laws.items_decode_alone.Goals as goal

pub returns : goal.returns
returns c = each_alone
