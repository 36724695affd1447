-- How the messages of Python's codecs name the places of a range.
use Rattle.std.specs.Prelude.{ℕ, ◌-◌, nat_le, List, ◌++◌, codes, decimal, if◌then◌else◌}

-- the name of a range from its start to before its end, whose items are called `unit`: one item by its place, several
-- by the places of the first and the last
abbrev pub positions_text : List ℕ → ℕ → ℕ → List ℕ
positions_text unit start end =
    if nat_le (end - 1) start then unit ++ (codes " in position " ++ decimal start)
    else unit ++ (codes "s in position " ++ (decimal start ++ (codes "-" ++ decimal (end - 1))))
