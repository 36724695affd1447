use Rattle.py_plain.specs.declared.encoding.Encoding.TheVariants.{Utf8}
use Rattle.py_blocks.proofs.OwnAscii.{own_utf8}
use Rattle.py_blocks.proofs.Running.{front_run, window_run}
use Rattle.py_blocks.proofs.runs.push_run.Goals as goal

pub returns-in-Utf8 : goal.returns-in-Utf8
returns-in-Utf8 c =
    let near = c.window-near.result.now in
    let run = front_run Utf8 near _ _ c.utf8_front.result _ c.utf8_front.ensures.within c.utf8_front.ensures.utf8 (own_utf8 _ c.utf8_front.ensures.utf8) c.push_front.ensures.used c.push_front.ensures.appended in
    rw c.in-Utf8.is (window_run Utf8 c.args.bytes.now near _ _ _ _ c.window-near.ensures run)
