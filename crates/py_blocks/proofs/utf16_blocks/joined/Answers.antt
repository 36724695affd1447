use Rattle.py_blocks.proofs.Blocks.{paired-joined}
use Rattle.py_blocks.proofs.utf16_blocks.joined.Goals as goal

pub returns : goal.returns
returns c = paired-joined c.args.first c.args.second c.requires.first c.requires.second
