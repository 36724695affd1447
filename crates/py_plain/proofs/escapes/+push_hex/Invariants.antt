use Rattle.py_plain.proofs.escapes.+push_hex.Given as goal

-- a digit less is to come with each
abbrev pub decreases-push_hex : goal.decreases-push_hex
decreases-push_hex l = l.count
