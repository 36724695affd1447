-- The first line of a text, and how far it was searched.
use Rattle.std.specs.Prelude.{◌≡◌, ℕ, ◌<◌, Bool, false, List, [], ◌∷◌, ◌++◌, length, Option, Some, None, encode_utf8_all}
use Rattle.py_flat.specs.Lines.{LineEnd, lf, line_after, has_end_after}
use Rattle.py_plain.specs.declared.newlines.Newlines.{Newlines}
use Rattle.py_plain.specs.declared.newlines.Newlines.TheVariants.{Passthrough}
use Rattle.py_plain.specs.NewlineRule.{ends_held}

-- a front of some characters that has n bytes in UTF-8
pub record IsBegin (cs front : List ℕ) (bytes : ℕ) : Type 0 where
  pub rest : List ℕ
  pub whole : cs ≡ front ++ rest
  pub bytes_are : bytes ≡ length (encode_utf8_all front)

-- the first n bytes needn't be searched again: whatever comes behind, no line ends in them, and the first line has all of them and goes
-- on as that of what stands behind them
pub record IsSearched (end : LineEnd) (cs : List ℕ) (searched : ℕ) : Type 0 where
  pub front : List ℕ
  pub rest : List ℕ
  pub whole : cs ≡ front ++ rest
  pub bytes_are : searched ≡ length (encode_utf8_all front)
  pub line : (more : List ℕ) → line_after end false (cs ++ more) ≡ front ++ line_after end false (rest ++ more)
  pub ends : (more : List ℕ) → has_end_after end false (cs ++ more) ≡ has_end_after end false (rest ++ more)

-- an LF behind some characters would be one line end with their last
abbrev pub may_go_on : Newlines → List ℕ → Bool
may_go_on Passthrough cs = ends_held false cs
may_go_on _ cs = false

-- the first line is the same were an LF to come, and has n bytes; or it would have the LF
abbrev pub LineFound : LineEnd → List ℕ → Option ℕ → Type 0
LineFound end cs (Some bytes) = IsBegin cs (line_after end false (cs ++ lf ∷ [])) bytes
LineFound end cs None = length cs < length (line_after end false (cs ++ lf ∷ []))
