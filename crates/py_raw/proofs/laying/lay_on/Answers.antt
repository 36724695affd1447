use Rattle.std.proofs.Common.{◌≡◌, ◌≤◌, ◌∙◌, ◌-◌, ◌+◌, ◌++◌, length, replicate, arith}
use Rattle.std.proofs.lemmas.List.{take_at}
use Rattle.std.proofs.lemmas.Grind.{common_steps}
use Rattle.py_raw.proofs.Lay.{lay_widened}
use Rattle.py_raw.proofs.laying.lay_on.Goals as goal

pub returns : goal.returns
returns c =
    let wide = c.as_mut_slice.result.now in
    let whole : length c.overwrite.new.bytes ≡ c.lengthen.new.bytes.len = omega (arith, c.overwrite.auto.bytes, c.as_mut_slice.ensures.len) in
    let is : wide ≡ c.args.bytes.now.items ++ replicate (c.args.place + length c.args.piece.now - length c.args.bytes.now.items) 0 = grind (arith, common_steps) in
    let some : 1 ≤ length c.args.piece.now = grind (arith, common_steps) in
    take_at _ _ _ whole ∙ c.overwrite.ensures ∙ lay_widened c.args.bytes.now.items c.args.place c.args.piece.now wide some is
