use Rattle.std.proofs.Common.{◌≡◌, false, sym, ap, ◌∙◌}
use Rattle.py_raw_files.specs.Handle.{asks_to_wait}
use Rattle.py_raw_files.proofs.Passing.{front_through}
use Rattle.py_raw_files.proofs.write_raw.write_and_pass.Goals as goal

pub returns-in-Err-clause-bytes : goal.returns-in-Err-clause-bytes
returns-in-Err-clause-bytes g c =
    let fails : asks_to_wait _ ≡ false = ap asks_to_wait (sym c.kind.ensures) ∙ sym c.asks_to_wait.ensures ∙ c.if-not-asks_to_wait.true in
    front_through _ _ (g.W.Write.contents c.write.new.self) _ c.args.piece.now c.in_ok-count.count fails c.in_ok-count.ensures.bound c.in_ok-count.ensures.bytes c.pass_on.ensures.bytes
