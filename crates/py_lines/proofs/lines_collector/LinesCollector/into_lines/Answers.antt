use Rattle.std.proofs.Common.{◌≡◌, subst, rules}
use Rattle.py_lines.specs.Collecting.{LinesView, AreCut, all_lines}
use Rattle.py_lines.proofs.Collectors.{handed_all, handed_cut}
use Rattle.py_lines.proofs.lines_collector.LinesCollector.into_lines.Goals as goal

pub returns-clause-all : goal.returns-clause-all
returns-clause-all c =
    let is : c.from_vec-2.result ≡ all_lines c.args.self = search rules in
    handed_all c.args.self c.from_vec-2.result is

pub returns-clause-cut : goal.returns-clause-cut
returns-clause-cut c =
    let view : LinesView = c.args.self in
    let is : c.from_vec-2.result ≡ all_lines view = search rules in
    handed_cut view c.from_vec-2.result (subst (λ (v : LinesView). AreCut v.lines v.part) c.self.view_is c.self.invariant.0) is
