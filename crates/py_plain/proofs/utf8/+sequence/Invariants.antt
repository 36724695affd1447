use Rattle.py_plain.proofs.utf8.+sequence.Given as goal

-- a byte less is to come with each
abbrev pub decreases-sequence : goal.decreases-sequence
decreases-sequence l = l.follow
