use Rattle.std.proofs.Common.{◌≡◌, ◌++◌, take, drop}
use Rattle.py_plain.specs.Handlers.{front_past_ascii}
use Rattle.py_telling.proofs.seen_item.count_past_ascii.Given as goal

-- no ASCII byte was met
abbrev pub invariant-loop-index : goal.invariant-loop-index
invariant-loop-index l = front_past_ascii l.bytes ≡ take l.index l.bytes ++ front_past_ascii (drop l.index l.bytes)
