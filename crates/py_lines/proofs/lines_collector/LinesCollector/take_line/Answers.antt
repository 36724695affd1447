use Rattle.std.proofs.Common.{◌≡◌, ◌++◌, sym, subst, rules}
use Rattle.py_lines.specs.Collecting.{LinesView, IsOneLine, AreCut}
use Rattle.py_lines.proofs.Lines.{one_behind}
use Rattle.py_lines.proofs.lines_collector.LinesCollector.take_line.Goals as goal

pub returns : goal.returns
returns c =
    let view : LinesView = c.args.self.now in
    let cut : AreCut view.lines view.part = subst (λ (v : LinesView). AreCut v.lines v.part) c.self.view_is c.self.invariant.0 in
    let items : c.replace.result.items ≡ view.part ++ c.args.rest.now = search rules in
    (items, subst IsOneLine (sym items) (one_behind view.part c.args.rest.now cut.unended c.requires), search rules)
