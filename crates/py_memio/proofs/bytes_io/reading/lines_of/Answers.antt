use Rattle.std.proofs.Common.{List, ℕ, [], ◌++◌, length, ap, sym, ◌∙◌, ◌≡◌, arith}
use Rattle.py_flat.specs.Lines.{lines_within, joined}
use Rattle.py_lines.specs.Collecting.{lines_wanted, lines_collected}
use Rattle.py_lines.specs.declared.collector.Collected.{Collected}
use Rattle.py_lines.proofs.Lines.{lines_left}
use Rattle.py_memio.proofs.Collecting.{used_of, has_all}
use Rattle.py_memio.proofs.bytes_io.reading.lines_of.Goals as goal
use Rattle.py_memio.proofs.bytes_io.reading.lines_of.Goals.{in-Enough, in-All}

pub returns : goal.returns
returns c =
    let new = c.new-collector.ensures.new in
    let bytes = c.args.bytes.now in
    let none : lines_collected c.new-collector.result ≡ [] = ap (λ (lines : List (List ℕ)). joined lines ++ c.new-collector.result.part) new.0 ∙ new.1 in
    let has = has_all (lines_wanted c.new-collector.result) (lines_collected c.new-collector.result) bytes c.in_ok-used.field-0 (lines_collected c.collect.new.self) none c.in_ok-used.ensures.outcome in
    let all = c.into_lines.ensures.all in
    let used : c.match-branch-2.total ≡ used_of c.in_ok-used.field-0 (length c.args.bytes.now) = elim c.match-branch-2.branch [
      | in-Enough w ↦ w.total-is ∙ sym (ap (λ (came : Collected). used_of came (length c.args.bytes.now)) w.in-Enough.is)
      | in-All w ↦ w.total-is ∙ sym (ap (λ (came : Collected). used_of came (length c.args.bytes.now)) w.in-All.is)
    ] in
    let whole : joined (lines_within c.args.hint bytes) ≡ joined c.into_lines.result = sym (all ∙ (has.is ∙ ap (λ hint. joined (lines_within hint bytes)) new.2)) in
    record {
      lines = sym (lines_left c.args.hint bytes c.into_lines.result c.into_lines.ensures.cut whole);
      total = used ∙ (has.count ∙ sym (ap length all));
      within = omega (arith, used, has.count, has.fits);
    }
