-- What a read of a raw stream in memory moves.
use Rattle.std.proofs.Common.{◌≡◌, ◌≢◌, length-drop, ℕ, ◌≤◌, min, max, Bool, true, false, if◌then◌else◌, List, [], ◌∷◌, ◌++◌, length, take, drop, Option, Some, None, refl, ap, ◌∙◌, arith}
use Rattle.std.proofs.lemmas.List.{take_at, length-take-le}
use Rattle.py_raw_memory.specs.declared.cut.Cut.{Cut}
use Rattle.py_raw_memory.specs.declared.cut.Cut.TheVariants.{Take, Wait, Break}
use Rattle.py_raw_memory.specs.declared.cut.Turn.TheVariants.{Refuses, Moves}
use Rattle.py_flat.specs.Bytes.{left_at}
use Rattle.py_raw_memory.specs.Cuts.{read_by}
use Rattle.py_raw_memory.specs.MemRaw.{MemRawView, read_turn, refuses, next_cut}

-- what a read moves is no more than could be moved, and nothing only where nothing could
pub record MovesOf (asked count : ℕ) : Type 0 where
  pub within : count ≤ asked
  pub none : count ≡ 0 → asked ≡ 0

-- what an element of a plan lets a read move is no more than is asked for, and nothing only where nothing is
pub moves_by : (cut : Option Cut) (asked count : ℕ) → read_by cut asked ≡ Moves count → MovesOf asked count
moves_by None asked count is = let same : asked ≡ count = cc in record { within = omega arith; none = λ e. omega arith }
moves_by (Some (Take most)) asked count is = let same : min (max most 1) asked ≡ count = cc in record { within = omega arith; none = λ e. omega arith }
moves_by (Some Wait) asked count is = cc
moves_by (Some (Break most)) asked count is = cc

-- a call that fails outright moves nothing
moves_unless : (refused : Bool) (cut : Option Cut) (asked count : ℕ) → (if refused then Refuses else read_by cut asked) ≡ Moves count → MovesOf asked count
moves_unless true cut asked count is = cc
moves_unless false cut asked count is = moves_by cut asked count is

-- what a read moves in its turn is no more than is asked for, and nothing only where nothing is
pub moves_in_turn : (raw : MemRawView) (asked count : ℕ) → read_turn raw asked ≡ Moves count → MovesOf asked count
moves_in_turn raw asked count is = moves_unless (refuses raw.shows.readable raw) (next_cut raw) asked count is

-- the front of a buffer after bytes were copied into it
pub front_given : (left before after : List ℕ) (count : ℕ) → count ≤ length left → after ≡ take count left ++ drop (length (take count left)) before → take count after ≡ take count left
front_given left before after count within is = ap (take count) is ∙ take_at (take count left) _ count (length-take-le count left within)

-- nothing could be moved into a buffer that isn't empty only at the end, or past it
pub end_reached : (before bytes : List ℕ) (place : ℕ) → min (length before) (length (left_at bytes place)) ≡ 0 → before ≢ [] → length bytes ≤ place
end_reached [] bytes place none some = absurd (some refl)
end_reached (byte ∷ more) bytes place none some = omega (arith, length-drop place bytes)
