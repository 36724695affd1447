use Rattle.std.proofs.Common.{length, nat_eq, eq-eqb, ne_eqb, refl, arith}
use Rattle.std.proofs.lemmas.Option.{slice_get_read}
use Rattle.py_registry.proofs.Entries.{entry-found, entry-none, before-next}
use Rattle.py_registry.proofs.registry.entry_of.Goals as goal

pub returns-then-own-number : goal.returns-then-own-number
returns-then-own-number g c =
    let entry = c.index-functions-place.result in
    let there = slice_get_read c.args.functions.now (length c.args.functions.now) c.loop-place.place entry refl c.loop-place-test.true c.index-functions-place.is in
    entry-found (λ own. nat_eq own c.args.number) c.args.functions.now c.loop-place.place entry c.loop-place.invariant there (eq-eqb entry.0 c.args.number c.if-own-number.true)

pub loop-place-preserved : goal.loop-place-preserved
loop-place-preserved g c =
    let entry = c.index-functions-place.result in
    let there = slice_get_read c.args.functions.now (length c.args.functions.now) c.loop-place.place entry refl c.loop-place-test.true c.index-functions-place.is in
    before-next (λ own. nat_eq own c.args.number) c.args.functions.now c.loop-place.place entry c.loop-place.invariant there (ne_eqb entry.0 c.args.number c.if-own-number.false)

pub returns : goal.returns
returns g c = entry-none (λ own. nat_eq own c.args.number) c.args.functions.now (λ k below. c.loop-place.invariant k (omega arith))
