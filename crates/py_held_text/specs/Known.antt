-- A text that is known, of which a front was given.
use Rattle.std.specs.Prelude.{◌≡◌, ◌≤◌, ◌<◌, ◌-◌, ◌*◌, ◌^◌, ℕ, nat_eq, Bool, List, [], ◌∷◌, ◌++◌, true, false, length, drop, chars, IsCharBoundary}
use Rattle.py_flat.specs.Lines.{lf}
use Rattle.py_plain.specs.declared.newlines.Newlines.{Newlines}
use Rattle.py_plain.specs.Items.{Walk, characters_of}
use Rattle.py_plain.specs.Pieces.{items_before}
use Rattle.py_plain.specs.NewlineRule.{line_end, universal, ends_held, read_so_far, read_all, holds_after}
use Rattle.py_codec.specs.declared.front.FrontDecoded.{FrontDecoded}
use Rattle.py_codec.specs.Front.{items_for, bytes_in, front_stop}
use Rattle.py_held_text.specs.LineSearch.{IsSearched}

-- the rule that it was read by and its lines end by; the characters that aren't given; and whether a CR is held behind them
pub record KnownView : Type 0 where
  pub newline : Newlines
  pub characters : List ℕ
  pub cr : Bool

-- the bytes that were given, of those in UTF-8, end between two characters; the others are counted in characters, and in the first of
-- them, as many as were searched, no line ends; a CR is held only where the rule holds one
pub record IsKnown (newline : Newlines) (bytes : List ℕ) (given count searched : ℕ) (cr : Bool) : Type 0 where
  pub boundary : IsCharBoundary bytes given
  pub counted : count ≡ length (chars (drop given bytes))
  pub open_line : IsSearched (line_end newline) (chars (drop given bytes)) searched
  pub holds : holds_after newline cr [] ≡ cr

-- the universal rule changes nothing in some characters, of which `plain` says that no CR is among them
abbrev pub IsPlain : List ℕ → (plain : Bool) → Type 0
IsPlain cs plain = plain ≡ true → (universal false cs ≡ cs) × (ends_held false cs ≡ false)

-- whether the place behind a CR that is held may be inside a CR LF, by the characters that came behind it: none came, or an LF first
abbrev pub may_cut : (cr : Bool) → List ℕ → Bool
may_cut false came = false
may_cut true [] = true
may_cut true (c ∷ came) = nat_eq c lf

-- a text after some characters more, by its rule
abbrev pub reading : KnownView → List ℕ → KnownView
reading known cs = record known { characters = known.characters ++ read_so_far known.newline known.cr cs; cr = holds_after known.newline known.cr cs }

-- a text after which nothing comes: a held CR is an LF
abbrev pub ended : KnownView → KnownView
ended known = record known { characters = known.characters ++ read_all known.newline known.cr []; cr = false }

-- the items of a walk were decoded that have n characters, or all: an answer says how many bytes and characters they have, at most six
-- characters for each byte and no more than memory has bytes, and why there are no more; the decoding goes on behind their bytes
pub record IsPart (want : ℕ) (walk : Walk) (behind : ℕ → Walk) (front : FrontDecoded) : Type 0 where
  pub used : front.used ≡ bytes_in (items_for want walk.items)
  pub chars : front.chars ≡ length (characters_of (items_for want walk.items))
  pub few : front.chars ≤ 6 * front.used
  pub fits : front.chars < 2 ^ 63
  pub stop : front.stop ≡ front_stop (want - front.chars) walk.ending
  pub goes_on : walk ≡ items_before (items_for want walk.items) (behind front.used)
