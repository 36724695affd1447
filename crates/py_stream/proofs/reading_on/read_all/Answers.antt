use Rattle.std.proofs.Common.{rules, ◌≡◌, ◌-◌, ℕ, List, Result, Err, arith, sym, subst}
use Rattle.py_stream.specs.declared.stop.Stop.{Stop}
use Rattle.py_stream.specs.declared.stop.Stop.TheVariants as stop
use Rattle.py_stream.specs.Reading.{RestOutcome}
use Rattle.py_stream.specs.ReadingOn.{ReadsMore}
use Rattle.py_stream.proofs.ReadingInto.{all_cut, all_on, all_read, all_refused, long_after}
use Rattle.py_stream.proofs.reading_on.read_all.Goals as goal

pub loop-moved-preserved-then-more-wanted : goal.loop-moved-preserved-then-more-wanted
loop-moved-preserved-then-more-wanted g c =
    let loop = c.loop-moved in
    let first = g.S.ReadsOn.shows c.args.stream.now in
    let shown = g.S.ReadsOn.shows loop.stream in
    let new = g.S.ReadsOn.shows c.read_more.new.stream in
    let turn = all_cut first loop.bytes.items loop.wanted c.max-piece.result c.min-more.result loop.moved shown loop.invariant.came (omega (arith, c.max-piece.ensures, c.first_more.ensures)) c.min-more.ensures in
    let after : List ℕ = c.read_more.new.bytes.items in
    let brings : ReadsMore shown loop.bytes.items c.min-more.result stop.Enough after new = subst (λ (why : Stop). ReadsMore shown loop.bytes.items c.min-more.result why after new) c.in-Enough.is c.in_ok-stop.ensures.outcome in
    let long = long_after first loop.bytes.items c.min-more.result loop.moved shown new turn after brings in
    record {
      came = all_on first loop.bytes.items c.min-more.result loop.moved shown new turn after (loop.wanted - c.min-more.result) brings (omega (arith, c.if-more-wanted.true)) (omega (arith, long, loop.invariant.came.fits, c.if-more-wanted.true));
      reads = c.in_ok-stop.ensures.reads;
    }

pub loop-moved-preserved : goal.loop-moved-preserved
loop-moved-preserved g c =
    let loop = c.loop-moved in
    let first = g.S.ReadsOn.shows c.args.stream.now in
    let shown = g.S.ReadsOn.shows loop.stream in
    let new = g.S.ReadsOn.shows c.read_more.new.stream in
    let turn = all_cut first loop.bytes.items loop.wanted c.max-piece.result c.min-more.result loop.moved shown loop.invariant.came (omega (arith, c.max-piece.ensures, c.first_more.ensures)) c.min-more.ensures in
    let after : List ℕ = c.read_more.new.bytes.items in
    let brings : ReadsMore shown loop.bytes.items c.min-more.result stop.Enough after new = subst (λ (why : Stop). ReadsMore shown loop.bytes.items c.min-more.result why after new) c.in-Enough.is c.in_ok-stop.ensures.outcome in
    let long = long_after first loop.bytes.items c.min-more.result loop.moved shown new turn after brings in
    record {
      came = all_on first loop.bytes.items c.min-more.result loop.moved shown new turn after c.len-wanted.result brings (omega (arith, long, turn.some, c.read_more.new.bytes.ok.0)) (omega (arith, c.read_more.new.bytes.ok.0, c.read_more.new.bytes.small));
      reads = c.in_ok-stop.ensures.reads;
    }

pub returns-in_default-clause-outcome : goal.returns-in_default-clause-outcome
returns-in_default-clause-outcome g c =
    let loop = c.loop-moved in
    let first = g.S.ReadsOn.shows c.args.stream.now in
    let shown = g.S.ReadsOn.shows loop.stream in
    let new = g.S.ReadsOn.shows c.read_more.new.stream in
    let turn = all_cut first loop.bytes.items loop.wanted c.max-piece.result c.min-more.result loop.moved shown loop.invariant.came (omega (arith, c.max-piece.ensures, c.first_more.ensures)) c.min-more.ensures in
    all_read first loop.bytes.items c.min-more.result loop.moved shown new turn c.in_ok-stop.stop c.read_more.new.bytes.items c.in_default.not-Enough c.in_ok-stop.ensures.outcome

pub returns-in_err-stop-clause-outcome : goal.returns-in_err-stop-clause-outcome
returns-in_err-stop-clause-outcome g c =
    let loop = c.loop-moved in
    let first = g.S.ReadsOn.shows c.args.stream.now in
    let shown = g.S.ReadsOn.shows loop.stream in
    let new = g.S.ReadsOn.shows c.read_more.new.stream in
    let turn = all_cut first loop.bytes.items loop.wanted c.max-piece.result c.min-more.result loop.moved shown loop.invariant.came (omega (arith, c.max-piece.ensures, c.first_more.ensures)) c.min-more.ensures in
    let says : c.from_residual.result ≡ Err c.in_err-stop.field-0.0 = search rules in
    subst (λ (result : Result Stop _). RestOutcome first result c.read_more.new.bytes.items new) (sym says)
    (all_refused first loop.bytes.items c.min-more.result loop.moved shown new c.in_err-stop.field-0.0 c.read_more.new.bytes.items turn c.in_err-stop.ensures.outcome)
