use Rattle.std.proofs.Common.{◌+◌, get_or, arith, sym, ap, subst, ◌∙◌}
use Rattle.std.specs.Char.{IsScalar}
use Rattle.py_plain.specs.Encode.{own_bytes}
use Rattle.py_blocks.specs.Runs.{utf16}
use Rattle.py_blocks.proofs.Appended.{text_of-push}
use Rattle.py_blocks.proofs.Running.{IsRun-none, IsRun-more}
use Rattle.py_blocks.proofs.OwnUnits.{own_unit, take-two}
use Rattle.py_blocks.proofs.utf16.push_units.Goals as goal

pub loop-place-init : goal.loop-place-init
loop-place-init c = IsRun-none _ _ _

pub loop-place-preserved : goal.loop-place-preserved
loop-place-preserved c =
    let bytes = c.args.bytes.now in
    let at = c.loop-place.place in
    let scalar = c.in-Some.ensures.value in
    let first = c.type_inv.bytes at in
    let second = c.type_inv.bytes (at + 1) in
    let own = ap (own_bytes (utf16 c.args.big)) (scalar.1 ∙ c.from.ensures ∙ c.code_unit.ensures) ∙ own_unit c.args.big (get_or bytes at 0) (get_or bytes (at + 1) 0) (omega arith) (omega arith) in
    let pushed = text_of-push c.loop-place.text c.push.new.self c.in-Some.character c.in_ok-push.ensures.bytes in
    IsRun-more _ bytes _ _ _ at 2 c.in-Some.character _ c.loop-place.invariant c.loop-place-test.true (subst IsScalar (sym scalar.1) scalar.0) own (take-two bytes at c.loop-place-test.true) pushed
