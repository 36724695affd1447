use Rattle.py_read_text.proofs.Changing.{text_by}
use Rattle.py_read_text.proofs.read_text.ReadText.set_chunksize.Goals as goal

pub invariant_of-self : goal.invariant_of-self
invariant_of-self g c = text_by _ _ _ _ _ _ _ c.self.inside.settings.line_buffering c.self.inside.settings.write_through c.args.size c.requires c.self.invariant
