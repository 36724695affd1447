use Rattle.py_raw_files.proofs.Passing.{kept_before}
use Rattle.py_raw_files.proofs.write_raw.write_after_held.Goals as goal

pub returns-clause-bytes : goal.returns-clause-bytes
returns-clause-bytes g c =
    kept_before _ (g.W.Write.contents c.pass_held.new.writer) _ _ _ c.pass_held.ensures.bytes c.write_and_pass.ensures.bytes
