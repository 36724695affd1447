use Rattle.std.proofs.Common.{◌≡◌, ◌≤◌, ◌∷◌, find, map, length, ◌-◌}
use Rattle.py_flat.specs.Limits.{greatest_place}
use Rattle.py_plain_text.specs.Telling.{gives_rest, end_of_item, boundaries}
use Rattle.py_plain_text.specs.PlainCookies.{text_at, items_from}
use Rattle.py_plain_text.proofs.plain_tell.boundary.Given as goal

abbrev pub invariant-loop-at : goal.invariant-loop-at
invariant-loop-at l =
    (find (gives_rest (text_at l.bytes l.settings l.place)) (l.at ∷ map end_of_item (items_from l.settings l.bytes l.at))
    ≡ find (gives_rest (text_at l.bytes l.settings l.place)) (boundaries (text_at l.bytes l.settings l.place)))
    × (l.at ≤ greatest_place)

abbrev pub decreases-loop-at : goal.decreases-loop-at
decreases-loop-at l = length l.bytes - l.at
