use Rattle.std.proofs.Common.{◌≡◌, ℕ, List, slice_get, length, chars, sym, ap, ◌∙◌, arith}
use Rattle.py_codec.specs.Answers.{text_of}
use Rattle.py_registry.specs.Names.{normal_name, same_name}
use Rattle.py_registry.proofs.Entries.{entry-found, entry-none, before-next}
use Rattle.py_registry.proofs.Named.{slice_get-named, length-named}
use Rattle.py_registry.proofs.names.Names.spelled_entry.Goals as goal

pub returns-then-is_spelled : goal.returns-then-is_spelled
returns-then-is_spelled g c =
    let Entry : Type 0 = List ℕ × g.row.V.Denot in
    let name = normal_name (chars c.args.name.now) in
    let entry : Entry = (text_of c.in-Some.kept.now, c.in-Some.value.now) in
    let place = c.loop-place.place in
    let there = ap (λ (entries : List Entry). slice_get entries place) (sym c.self.view_is) ∙ slice_get-named c.self.inside.entries.entries place c.in-Some.kept.now c.in-Some.value.now c.in-Some.ensures.entry in
    let here = ap (λ (bytes : List ℕ). same_name (chars bytes) name) (sym c.as_str.ensures.value) ∙ (sym c.is_spelled.ensures ∙ c.if-is_spelled.true) in
    entry-found (λ kept. same_name kept name) c.args.self.now place entry c.loop-place.invariant there here

pub loop-place-preserved : goal.loop-place-preserved
loop-place-preserved g c =
    let Entry : Type 0 = List ℕ × g.row.V.Denot in
    let name = normal_name (chars c.args.name.now) in
    let entry : Entry = (text_of c.in-Some.kept.now, c.in-Some.value.now) in
    let place = c.loop-place.place in
    let there = ap (λ (entries : List Entry). slice_get entries place) (sym c.self.view_is) ∙ slice_get-named c.self.inside.entries.entries place c.in-Some.kept.now c.in-Some.value.now c.in-Some.ensures.entry in
    let not = ap (λ (bytes : List ℕ). same_name (chars bytes) name) (sym c.as_str.ensures.value) ∙ (sym c.is_spelled.ensures ∙ c.if-is_spelled.false) in
    before-next (λ kept. same_name kept name) c.args.self.now place entry c.loop-place.invariant there not

pub returns : goal.returns
returns g c =
    let same : length c.args.self.now ≡ length c.self.inside.entries.entries = ap (λ (entries : List (List ℕ × g.row.V.Denot)). length entries) (sym c.self.view_is) ∙ length-named c.self.inside.entries.entries in
    entry-none (λ kept. same_name kept (normal_name (chars c.args.name.now))) c.args.self.now (λ k below. c.loop-place.invariant k (omega (arith, same, c.len-place-end.ensures.len, c.loop-place-test.false)))
