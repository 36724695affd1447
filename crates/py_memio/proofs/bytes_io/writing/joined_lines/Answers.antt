use Rattle.std.proofs.Common.{ℕ, List, ◌++◌, take, ap, sym, ◌∙◌, arith}
use Rattle.py_flat.specs.Lines.{joined}
use Rattle.py_stream.proofs.Giving.{joined_more}
use Rattle.py_memio.proofs.bytes_io.writing.joined_lines.Goals as goal

pub loop-line-preserved : goal.loop-line-preserved
loop-line-preserved c =
    let more = joined_more c.as_slice-line-items.result.now c.loop-line.line-index c.line-item.result (omega arith) c.line-item.is in
    c.in_ok-extend_from_slice.ensures.items ∙ (ap (λ (bytes : List ℕ). bytes ++ c.as_slice.result.now) c.loop-line.invariant ∙ (ap (λ (bytes : List ℕ). joined (take c.loop-line.line-index c.as_slice-line-items.result.now) ++ bytes) c.as_slice.ensures ∙ sym more))
