-- Where lines end, and how a list is cut into them. Bytes and characters go the same way: each is its number.
use Rattle.std.specs.Prelude.{ℕ, ◌+◌, Bool, false, ◌&&◌, ◌||◌, not, List, [], ◌∷◌, ◌++◌, length, Option, Some, None, nat_eq, nat_le, nat_lt, if◌then◌else◌}
use Rattle.py_flat.specs.Bytes.{first_of}

-- what ends a line: LF; CR; CR LF; any of these
pub data LineEnd : Type 0 where
  Lf : LineEnd
  Cr : LineEnd
  CrLf : LineEnd
  AnyEnd : LineEnd

-- LF and CR, by their numbers
abbrev pub lf : ℕ
lf = 10

abbrev pub cr : ℕ
cr = 13

-- whether a list begins with an LF
abbrev pub begins_with_lf : List ℕ → Bool
begins_with_lf [] = false
begins_with_lf (c ∷ cs) = nat_eq c lf

-- whether a line ends with a character before others: CR is the end of a line only where it isn't the first half of a longer one
abbrev pub ends_line : LineEnd → ℕ → List ℕ → Bool
ends_line Lf c next = nat_eq c lf
ends_line Cr c next = nat_eq c cr
ends_line CrLf c next = false
ends_line AnyEnd c next = nat_eq c lf || (nat_eq c cr && not (begins_with_lf next))

-- whether a line ends with the second, an LF, of CR LF: `after_cr` says that a CR stands before
abbrev pub ends_pair : LineEnd → Bool → ℕ → Bool
ends_pair CrLf after_cr c = after_cr && nat_eq c lf
ends_pair _ after_cr c = false

-- the first line with its end, or all where no line ends; `after_cr` says that a CR stands before
abbrev pub line_after : LineEnd → Bool → List ℕ → List ℕ
line_after end after_cr [] = []
line_after end after_cr (c ∷ cs) = c ∷ (if ends_line end c cs || ends_pair end after_cr c then [] else line_after end (nat_eq c cr) cs)

-- whether a line ends in the list
abbrev pub has_end_after : LineEnd → Bool → List ℕ → Bool
has_end_after end after_cr [] = false
has_end_after end after_cr (c ∷ cs) = ends_line end c cs || ends_pair end after_cr c || has_end_after end (nat_eq c cr) cs

-- the list up to and with its first line end, at most `limit` of it; all of it where neither comes
abbrev pub first_line : LineEnd → Option ℕ → List ℕ → List ℕ
first_line end limit cs = first_of limit (line_after end false cs)

-- whether a list has as many as the limit asks for
abbrev pub reaches : Option ℕ → List ℕ → Bool
reaches None cs = false
reaches (Some limit) cs = nat_le limit (length cs)

-- whether a line end or the limit ended that line, and not the end of the list
abbrev pub is_ended : LineEnd → Option ℕ → List ℕ → Bool
is_ended end limit cs = has_end_after end false cs || reaches limit cs

-- an element before the first of some lines
abbrev pub onto_first : ℕ → List (List ℕ) → List (List ℕ)
onto_first c [] = (c ∷ []) ∷ []
onto_first c (line ∷ lines) = (c ∷ line) ∷ lines

-- the lines of some bytes, each with its LF; the last may lack it
abbrev pub lines_of : List ℕ → List (List ℕ)
lines_of [] = []
lines_of (c ∷ cs) = if nat_eq c lf then (c ∷ []) ∷ lines_of cs else onto_first c (lines_of cs)

-- the lines up to the first with which their total, begun at `total`, is above the hint
abbrev pub until_above : ℕ → ℕ → List (List ℕ) → List (List ℕ)
until_above hint total [] = []
until_above hint total (line ∷ lines) = line ∷ (if nat_lt hint (total + length line) then [] else until_above hint (total + length line) lines)

-- the lines that `readlines` gives of some bytes: all without a hint and for 0
abbrev pub lines_within : Option ℕ → List ℕ → List (List ℕ)
lines_within None bytes = lines_of bytes
lines_within (Some hint) bytes = if nat_eq hint 0 then lines_of bytes else until_above hint 0 (lines_of bytes)

-- some lists, one after the other
abbrev pub joined : List (List ℕ) → List ℕ
joined [] = []
joined (part ∷ parts) = part ++ joined parts
