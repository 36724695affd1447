use Rattle.py_codec_vectors.proofs.fronts.agrees.Given as goal

abbrev pub ghosts-decoded : goal.ghosts-decoded
ghosts-decoded a = record { name = a.blank.name; parts = a.blank.parts }
