use Rattle.std.proofs.Common.{◌<◌, eqb-true}
use Rattle.std.specs.List.{All}
use Rattle.py_blocks.proofs.Blocks.{below-none, OnTrue-twice}
use Rattle.py_blocks.proofs.utf16_blocks.all_below.Goals as goal

pub returns : goal.returns
returns c =
    OnTrue-twice _ (All (λ byte. byte < c.args.limit) c.args.bytes) (λ none. below-none c.args.bytes c.args.limit c.requires (eqb-true _ 0 none))
