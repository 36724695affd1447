use Rattle.std.proofs.Common.{length, ap, ◌∙◌, arith}
use Rattle.py_flat.specs.Lines.{Lf, first_line}
use Rattle.py_lines.specs.Collecting.{LineView, line_wanted}
use Rattle.py_memio.proofs.Collecting.{has_all}
use Rattle.py_memio.proofs.bytes_io.reading.line_of.Goals as goal

pub returns : goal.returns
returns c =
    let new = c.new-collector.ensures.new in
    let has = has_all (line_wanted c.new-collector.result) c.new-collector.result.line c.args.bytes.now c.in_ok-collect.field-0 c.collect.new.self.line (ap (λ (view : LineView). view.line) new) c.in_ok-collect.ensures.outcome in
    record {
      line = c.into_line.ensures ∙ (has.is ∙ ap (λ (view : LineView). first_line Lf view.limit c.args.bytes.now) new);
      within = omega (arith, has.fits, ap length c.into_line.ensures);
    }
