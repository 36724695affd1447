use Rattle.py_textio.proofs.Settling.{joined_with}
use Rattle.py_textio.proofs.Ends.{unsaid_written}
use Rattle.py_textio.proofs.written_text.WrittenText.bytes_end.Goals as goal

pub returns-in-Err-clause-joined : goal.returns-in-Err-clause-joined
returns-in-Err-clause-joined g c =
    joined_with _ _ 0 _ (unsaid_written _ _ c.self.inside.pending.items _ _ c.in-Err.fault c.self.invariant.0 c.in-Err.ensures.ends c.in-Err.ensures.keeps c.in-Err.ensures.joined c.life-self-inside.ensures.life)
