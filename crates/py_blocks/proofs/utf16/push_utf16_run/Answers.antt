use Rattle.std.proofs.Common.{◌≡◌, ℕ, ◌+◌, ◌-◌, List, length, take, drop, subst, arith}
use Rattle.py_plain.specs.declared.encoding.Encoding.{Encoding}
use Rattle.py_blocks.specs.Runs.{IsRun, utf16}
use Rattle.py_blocks.proofs.Blocks.{IsRun-sliced}
use Rattle.py_blocks.proofs.utf16.push_utf16_run.Goals as goal

-- blocks after a run, and units after the blocks
further : (encoding : Encoding) (bytes before now between after : List ℕ) (place blocks few : ℕ) → IsRun encoding bytes before now place → IsRun encoding (take (length bytes - place) (drop place bytes)) now between blocks → IsRun encoding (take (length bytes - (place + blocks)) (drop (place + blocks) bytes)) between after few → IsRun encoding bytes before after (place + (blocks + few))
further encoding bytes before now between after place blocks few run more most =
    let same : place + blocks + few ≡ place + (blocks + few) = omega arith in
    subst (IsRun encoding bytes before after) same (IsRun-sliced encoding bytes before between after (place + blocks) few (IsRun-sliced encoding bytes before now between place blocks run more) most)

pub returns-then-few-lt-WIDE : goal.returns-then-few-lt-WIDE
returns-then-few-lt-WIDE c =
    further (utf16 c.args.big) c.args.bytes.now _ _ _ _ c.loop-blocks.place c.in_ok-blocks.blocks c.in_ok-few.few c.loop-blocks.invariant c.in_ok-blocks.ensures c.in_ok-few.ensures

pub loop-blocks-preserved : goal.loop-blocks-preserved
loop-blocks-preserved c =
    further (utf16 c.args.big) c.args.bytes.now _ _ _ _ c.loop-blocks.place c.in_ok-blocks.blocks c.in_ok-few.few c.loop-blocks.invariant c.in_ok-blocks.ensures c.in_ok-few.ensures
