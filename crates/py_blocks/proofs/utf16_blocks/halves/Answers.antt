use Rattle.py_blocks.proofs.Blocks.{paired-halves}
use Rattle.py_blocks.proofs.utf16_blocks.halves.Goals as goal

pub returns-clause-units : goal.returns-clause-units
returns-clause-units c = paired-halves c.args.wide.now c.requires
