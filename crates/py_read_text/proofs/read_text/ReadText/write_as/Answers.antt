use Rattle.py_read_text.proofs.Changing.{text_by}
use Rattle.py_read_text.proofs.read_text.ReadText.write_as.Goals as goal

pub invariant_of-self : goal.invariant_of-self
invariant_of-self g c = text_by _ _ _ _ _ _ _ c.args.line_buffering c.args.write_through c.self.inside.settings.chunk_size c.self.invariant.asks c.self.invariant
