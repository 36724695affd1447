use Rattle.std.proofs.Common.{arith, rules, length}
use Rattle.py_buffer.specs.Buffers.{IsSimple}
use Rattle.py_buffer.proofs.Simple.{simple_is_over}
use Rattle.py_buffer.proofs.owned.VecBuffer.into_pybuffer.Goals as goal

pub invariant_of-result : goal.invariant_of-result
invariant_of-result c =
    let bytes = c.self.inside.data.items in
    let simple : IsSimple c.in-Ok.desc (length bytes) c.args.readonly = search rules in
    simple_is_over c.in-Ok.desc bytes c.args.readonly simple (omega arith)
