use Rattle.py_text.proofs.Copying.{all-copied}
use Rattle.py_held_text.proofs.Decoded.{plain-text}
use Rattle.py_held_text.proofs.decoding.is_plain.Goals as goal

pub returns-in-None : goal.returns-in-None
returns-in-None c = plain-text _ (all-copied c.as_bytes.result.now c.args.text.now c.utf8.text c.as_bytes.ensures.value c.in-None.ensures)
