use Rattle.std.proofs.Common.{◌≡◌, ◌≤◌, [], length, ◌-◌}
use Rattle.py_flat.specs.Limits.{greatest_place}
use Rattle.py_plain_text.specs.Telling.{inside_items}
use Rattle.py_plain_text.specs.PlainCookies.{items_from}
use Rattle.py_plain_text.proofs.plain_tell.inside_behind.Given as goal

abbrev pub invariant-loop-at : goal.invariant-loop-at
invariant-loop-at l =
    (inside_items l.settings.newline l.count l.passed.items (items_from l.settings l.bytes l.at)
    ≡ inside_items l.settings.newline l.count [] (items_from l.settings l.bytes l.from))
    × (l.at ≤ greatest_place)

abbrev pub decreases-loop-at : goal.decreases-loop-at
decreases-loop-at l = length l.bytes - l.at
