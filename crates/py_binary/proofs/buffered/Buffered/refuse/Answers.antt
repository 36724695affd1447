use Rattle.py_binary.proofs.buffered.Buffered.refuse.Goals as goal

pub returns-in-Writer : goal.returns-in-Writer
returns-in-Writer g c = rw c.in-Writer.is c.refuse-in-Writer.ensures.answers
