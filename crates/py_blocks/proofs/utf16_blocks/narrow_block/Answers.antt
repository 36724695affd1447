use Rattle.std.proofs.Common.{List, ℕ, Some, sym, ap, ◌∙◌}
use Rattle.py_blocks.proofs.Blocks.{text_bytes-halves}
use Rattle.py_blocks.proofs.utf16_blocks.narrow_block.Goals as goal

pub returns-then-all_below-2-clause-written : goal.returns-then-all_below-2-clause-written
returns-then-all_below-2-clause-written c =
    let bytes = c.halves.ensures in
    let halves = c.ordered.ensures in
    text_bytes-halves c.args.big _ _ _ _ halves.first halves.second (bytes.first ∙ sym bytes.second) c.if-all_below.ensures c.if-all_below-2.ensures
    ∙ ap (λ (wide : List ℕ). Some wide) bytes.units
