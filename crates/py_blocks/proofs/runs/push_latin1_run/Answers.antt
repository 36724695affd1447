use Rattle.std.proofs.Common.{ℕ, ◌≡◌, ◌+◌, ◌<◌, ◌∷◌, [], List, length, take, drop, get_or, Some, None, nat_lt, ap, sym, subst, ◌∙◌, arith}
use Rattle.std.specs.Char.{IsScalar}
use Rattle.std.proofs.lemmas.Bool.{cond-true, lt-ltb}
use Rattle.std.proofs.lemmas.List.{drop_more}
use Rattle.py_plain.specs.declared.encoding.Encoding.TheVariants.{Latin1}
use Rattle.py_plain.specs.Encode.{own_bytes}
use Rattle.py_plain.proofs.UnitLaws.{scalar_below}
use Rattle.py_blocks.proofs.Appended.{text_of-push}
use Rattle.py_blocks.proofs.Blocks.{IsRun-sliced}
use Rattle.py_blocks.proofs.Running.{IsRun-more}
use Rattle.py_blocks.proofs.runs.push_latin1_run.Goals as goal

own : (c : ℕ) → c < 256 → own_bytes Latin1 c ≡ Some (c ∷ [])
own c below = cond-true (nat_lt c 0x100) (Some (c ∷ [])) None (lt-ltb c 0x100 below)

take-one : (bytes : List ℕ) (at : ℕ) → at < length bytes → take 1 (drop at bytes) ≡ get_or bytes at 0 ∷ []
take-one bytes at inside = ap (take 1) (drop_more bytes at 0 inside)

pub returns-then-place-bytes-clause-run : goal.returns-then-place-bytes-clause-run
returns-then-place-bytes-clause-run c = IsRun-sliced Latin1 c.args.bytes.now _ _ _ c.loop-ascii.place c.in_ok-ascii.ascii c.loop-ascii.invariant c.in_ok-ascii.ensures

pub loop-ascii-preserved : goal.loop-ascii-preserved
loop-ascii-preserved c =
    let bytes = c.args.bytes.now in
    let at = c.loop-ascii.place + c.in_ok-ascii.ascii in
    let byte = get_or bytes at 0 in
    let run = IsRun-sliced Latin1 bytes _ _ _ c.loop-ascii.place c.in_ok-ascii.ascii c.loop-ascii.invariant c.in_ok-ascii.ensures in
    let inside : at < length bytes = omega (arith, run.within) in
    let below : byte < 256 = omega (arith, c.type_inv.bytes at) in
    let pushed = text_of-push c.push_ascii_run.new.text c.push.new.self c.from.result c.in_ok-push.ensures.bytes in
    IsRun-more Latin1 bytes _ _ _ at 1 c.from.result (byte ∷ []) run (omega arith) (subst IsScalar (sym c.from.ensures) (scalar_below byte (omega arith))) (ap (own_bytes Latin1) c.from.ensures ∙ own byte below) (take-one bytes at inside) pushed
