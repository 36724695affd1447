use Rattle.std.proofs.Common.{◌≡◌, ◌++◌, ◌∷◌, List, take, length, arith, refl, ap, ◌∙◌, sym, subst, append_assoc, length-append}
use Rattle.std.proofs.lemmas.List.{take_all, take-append-le, append-nil}
use Rattle.py_buffer.specs.Descriptor.{Each}
use Rattle.py_buffer.specs.Segments.{Span, IsWithin, IsOrdered, gathered, lent}
use Rattle.py_buffer.proofs.Gathering.{joined_bytes, spans_ordered}
use Rattle.py_buffer.proofs.lent.append.Goals as goal

pub loop-segment-init : goal.loop-segment-init
loop-segment-init c = record {
  within = subst (λ (xs : List Span). Each (IsWithin (length c.args.bytes.now)) xs) (sym c.segments-segments.ensures) c.requires.covers.rows;
  ordered = subst (λ (xs : List Span). Each IsOrdered xs) (sym c.segments-segments.ensures) (spans_ordered _ _);
  longer = omega (arith, c.len-before.ensures);
  kept = take_all c.len-before.result c.args.buf.now.items (omega (arith, c.len-before.ensures));
  whole = refl;
}

pub loop-segment-preserved : goal.loop-segment-preserved
loop-segment-preserved c =
    let steps : c.loop-segment.segments ≡ c.in-Some.segment ∷ c.next.new.self = c.in-Some.ensures.steps in
    let added : c.append_segment.new.buf.items ≡ c.loop-segment.buf.items ++ lent c.args.bytes.now c.in-Some.segment = c.if-not-append_segment.ensures in
    record {
      within = (subst (λ (xs : List Span). Each (IsWithin (length c.args.bytes.now)) xs) steps c.loop-segment.invariant.within).1;
      ordered = (subst (λ (xs : List Span). Each IsOrdered xs) steps c.loop-segment.invariant.ordered).1;
      longer = omega (arith, ap length added, length-append c.loop-segment.buf.items (lent c.args.bytes.now c.in-Some.segment), c.loop-segment.invariant.longer);
      kept = ap (take c.len-before.result) added ∙ take-append-le c.len-before.result c.loop-segment.buf.items (lent c.args.bytes.now c.in-Some.segment) c.loop-segment.invariant.longer ∙ c.loop-segment.invariant.kept;
      whole = ap (λ bs. bs ++ gathered c.args.bytes.now c.next.new.self) added
          ∙ append_assoc c.loop-segment.buf.items (lent c.args.bytes.now c.in-Some.segment) (gathered c.args.bytes.now c.next.new.self)
          ∙ ap (λ xs. c.loop-segment.buf.items ++ gathered c.args.bytes.now xs) (sym steps)
          ∙ c.loop-segment.invariant.whole;
    }

pub returns-clause-items : goal.returns-clause-items
returns-clause-items c =
    sym (append-nil c.loop-segment.buf.items)
    ∙ ap (λ xs. c.loop-segment.buf.items ++ gathered c.args.bytes.now xs) (sym c.in_default.ensures.steps.0)
    ∙ c.loop-segment.invariant.whole
    ∙ ap (λ xs. c.args.buf.now.items ++ gathered c.args.bytes.now xs) c.segments-segments.ensures
    ∙ ap (λ bs. c.args.buf.now.items ++ bs) (joined_bytes c.args.desc.now c.args.bytes.now c.requires.valid c.requires.covers)
