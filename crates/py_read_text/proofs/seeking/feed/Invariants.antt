use Rattle.std.proofs.Common.{◌≤◌, ◌-◌, false, length, vec_capacity}
use Rattle.py_read_text.specs.Seeking.{Feeds}
use Rattle.py_read_text.proofs.seeking.feed.Given as goal

-- nothing but bytes came, and there is room for the others
abbrev pub invariant-loop-alloc : goal.invariant-loop-alloc
invariant-loop-alloc g l = Feeds (g.B.BufferedStream.shows l.fn.buffer) l.size l.fed.items false false (g.B.BufferedStream.shows l.buffer) × (l.size ≤ vec_capacity l.fed)

-- each part leaves fewer to come
abbrev pub decreases-loop-alloc : goal.decreases-loop-alloc
decreases-loop-alloc g l = l.size - length l.fed.items
