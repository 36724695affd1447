use Rattle.std.proofs.Common.{◌≡◌, ◌<◌, ℤ, pos, ◌+ℤ◌, ◌≤ℤ◌, true, false, unsigned_abs, to_z, of_z, w64, arith, rules, ap, ◌∙◌, sym, subst, refl}
use Rattle.std.proofs.lemmas.Int.{ints, to_z-of_z}
use Rattle.std.proofs.lemmas.Bool.{leb-true, le-leb, both_ways}
use lib.Signed.{le_z}
use mir.Val.{SFits}
use Rattle.py_buffer.specs.Descriptor.{items_in}
use Rattle.py_buffer.specs.Edges.{edge_of}
use Rattle.py_buffer.proofs.Indexing.{end_is, end_compared, is_le}
use Rattle.py_buffer.proofs.Rows.{covers_none, covers_by_edges, edges_by_covers, edges_in_order}
use Rattle.py_buffer.proofs.descriptor.BufferDescriptor.covers.Goals as goal

pub returns-then-count-eq0 : goal.returns-then-count-eq0
returns-then-count-eq0 c = (λ yes. covers_none c.args.self.now c.args.bytes_len c.requires (ap items_in (sym c.walked-width.ensures.dimensions) ∙ sym c.walked-width.ensures.counted ∙ c.if-count-eq0.true), λ covers. refl)

pub returns-then-first-ge0 : goal.returns-then-first-ge0
returns-then-first-ge0 c =
    let walked = c.walked-width.result.0.now in
    let width = c.walked-width.result.1 in
    let some : 0 < items_in walked = omega (arith, c.walked-width.ensures.counted, c.if-count-eq0.false) in
    let start : SFits w64 c.edge-first.result = search rules in
    let last : SFits w64 c.edge.result = search rules in
    let begins : pos 0 ≤ℤ c.edge-first.result = omega (arith, ints, c.if-first-ge0.true, start) in
    let front : c.edge-first.result ≡ edge_of true walked = c.edge-first.ensures.value in
    let back : c.edge.result ≡ edge_of false walked = c.edge.ensures.value in
    let end = end_is c.edge.result width last (omega (arith, c.edge.ensures.size, c.walked-width.ensures.fits)) in
    let size : c.unsigned_abs.result ≡ unsigned_abs (edge_of false walked +ℤ pos width) = c.unsigned_abs.ensures.value ∙ ap unsigned_abs (end ∙ ap (λ z. z +ℤ pos width) back) in
    let first : pos 0 ≤ℤ edge_of true walked = subst (λ (z : ℤ). pos 0 ≤ℤ z) front begins in
    let compared = end_compared (edge_of true walked) (edge_of false walked) width c.args.bytes_len c.unsigned_abs.result first (edges_in_order walked some) size in (
      λ yes. covers_by_edges c.args.self.now c.args.bytes_len walked width c.requires c.walked-width.ensures.dimensions c.walked-width.ensures.width first (compared.0 (leb-true _ _ yes)),
      λ covers. le-leb _ _ (compared.1 (edges_by_covers c.args.self.now c.args.bytes_len walked width c.walked-width.ensures.dimensions c.walked-width.ensures.width some covers).1),
    )

pub returns-else-first-ge0 : goal.returns-else-first-ge0
returns-else-first-ge0 c =
    let walked = c.walked-width.result.0.now in
    let some : 0 < items_in walked = omega (arith, c.walked-width.ensures.counted, c.if-count-eq0.false) in
    let start : SFits w64 c.edge-first.result = search rules in
    let front : to_z w64 (of_z w64 c.edge-first.result) ≡ edge_of true walked = to_z-of_z w64 c.edge-first.result start ∙ c.edge-first.ensures.value in (
      λ yes. absurd (both_ways _ c.if-first-ge0.false yes),
      λ covers. ap (le_z (pos 0)) front ∙ is_le _ (edges_by_covers c.args.self.now c.args.bytes_len walked c.walked-width.result.1 c.walked-width.ensures.dimensions c.walked-width.ensures.width some covers).0,
    )
