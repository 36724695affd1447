-- How the segments are walked: what the iterator keeps of them.
use Rattle.std.specs.Prelude.{◌≡◌, ◌+◌, ◌^◌, ◌<◌, ◌≤◌, List, map, drop}
use Rattle.py_buffer.specs.declared.segments.Segments.TheInside.{Inside}
use Rattle.py_buffer.specs.Descriptor.{Each, IsSound, items_in, reach_of}
use Rattle.py_buffer.specs.Segments.{Span, span, positions}

-- the segments that are left
abbrev pub spans_left : Inside → List Span
spans_left walk = drop walk.given (map (span walk.width) (positions walk.dimensions.now))

-- the segments can be reckoned from their number
pub record IsWalk (walk : Inside) : Type 0 where
  pub sound : Each IsSound walk.dimensions.now
  pub fits : reach_of walk.dimensions.now + walk.width < 2 ^ 63
  pub counted : walk.count ≡ items_in walk.dimensions.now
  pub within : walk.given ≤ walk.count
