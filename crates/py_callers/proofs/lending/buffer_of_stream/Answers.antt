use Rattle.std.proofs.Common.{rules, ◌<◌, ◌^◌, length, true}
use Rattle.py_buffer.specs.Buffers.{IsOver, IsSimple}
use Rattle.py_buffer.proofs.Simple.{simple_is_over}
use Rattle.py_callers.proofs.lending.buffer_of_stream.Goals as goal

-- the descriptor of bytes one by one doesn't leave them
over : (c : goal.After-new) → IsOver c.in_ok-desc.desc c.in_ok-bytes.bytes.now
over c =
    let bytes = c.in_ok-bytes.bytes.now in
    let simple : IsSimple c.in_ok-desc.desc (length bytes) true = search rules in
    let sized : length bytes < 2 ^ 63 = search rules in
    simple_is_over c.in_ok-desc.desc bytes true simple sized

pub unwrap-requires : goal.unwrap-requires
unwrap-requires c = search (rules, over c)
