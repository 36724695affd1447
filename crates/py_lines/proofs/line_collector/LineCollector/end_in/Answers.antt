use Rattle.std.proofs.Common.{[], ℕ, Option, sym, subst}
use Rattle.py_lines.specs.Collecting.{LineView, EndsIn}
use Rattle.py_lines.proofs.Collectors.{left_of, within_of, ends_behind}
use Rattle.py_lines.proofs.line_collector.LineCollector.end_in.Goals as goal

pub returns : goal.returns
returns c =
    let view : LineView = c.args.self.now in
    ends_behind view c.args.bytes.now c.line_end.result c.requires (within_of _ _ _ view c.self.invariant.1 c.self.inside.line.ok.0 c.self.view_is)
    (subst (λ (left : Option ℕ). EndsIn (record { line = []; limit = left }) c.args.bytes.now c.line_end.result) (sym (left_of _ _ _ _ view c.self.invariant.0 c.self.inside.line.ok.0 c.self.view_is)) c.line_end.ensures)
