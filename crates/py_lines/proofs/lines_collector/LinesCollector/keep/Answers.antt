use Rattle.std.proofs.Common.{arith, rules}
use Rattle.py_lines.specs.Collecting.{AreCut}
use Rattle.py_lines.proofs.Lines.{cut_with}
use Rattle.py_lines.proofs.lines_collector.LinesCollector.keep.Goals as goal

cut : (c : goal.In_ok-extend_from_slice) → AreCut c.reserve.new.self.items c.extend_from_slice.new.self.items
cut c = cut_with c.self.inside.lines.items c.reserve.new.self.items c.self.inside.part.items c.args.bytes.now c.extend_from_slice.new.self.items c.self.invariant.0 c.requires c.reserve.ensures.items c.in_ok-extend_from_slice.ensures.items

pub invariant_of-self-2 : goal.invariant_of-self-2
invariant_of-self-2 c = (cut c, λ some. omega (arith, c.in_ok-reserve.ensures.ok, c.reserve.new.self.ok.0))

pub returns : goal.returns
returns c = (search rules, cut c)
