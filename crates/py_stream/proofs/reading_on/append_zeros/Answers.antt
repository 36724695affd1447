use Rattle.std.proofs.Common.{arith, sym, ap, ◌∙◌, ◌+◌, ◌-◌, ◌++◌, ℕ, List, take, replicate}
use Rattle.py_stream.proofs.ReadingInto.{lengthened, lengthened_by_none, lengthened_on}
use Rattle.py_stream.proofs.reading_on.append_zeros.Goals as goal

pub loop-left-init : goal.loop-left-init
loop-left-init c = grind (arith, lengthened_by_none)

pub loop-left-preserved : goal.loop-left-preserved
loop-left-preserved c =
    let loop = c.loop-left in
    let before : List ℕ = c.args.bytes.now.items in
    let now : List ℕ = loop.bytes.items in
    let end : ℕ = c.len.result in
    let count : ℕ = c.args.more - loop.left in
    record {
      within = omega (arith, loop.invariant.within);
      items = c.in_ok-resize.ensures.items
          ∙ (ap (λ (long : ℕ). take (end + 1024) now ++ replicate (end + 1024 - long) 0) (sym c.len.ensures)
          ∙ (lengthened_on before now count 1024 end loop.invariant.items (omega (arith, loop.bytes.ok.0))
          ∙ ap (λ (zeros : ℕ). lengthened zeros before) (omega (arith, loop.invariant.within, c.loop-left-test.true))));
    }

pub returns : goal.returns
returns c = grind (arith, lengthened_on)
