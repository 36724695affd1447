use Rattle.py_held_text.proofs.decoding.gives_none.Given as goal

abbrev pub ghosts-counted_front : goal.ghosts-counted_front
ghosts-counted_front a = record { name = a.blank.name; parts = a.blank.parts }
