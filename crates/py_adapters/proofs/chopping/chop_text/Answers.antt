use Rattle.std.proofs.Common.{arith}
use Rattle.py_adapters.proofs.Cutting.{lf_cut, cr_cut, any_cut}
use Rattle.py_adapters.proofs.chopping.chop_text.Goals as goal

pub returns : goal.returns
returns c = grind (arith, lf_cut, cr_cut, any_cut)
