-- What the program sees first of some bytes, in the words of the definitions.
use Rattle.std.specs.Prelude.{◌≡◌, ◌≢◌, ◌<◌, ◌≤◌, ℕ, List, [], ◌∷◌, length, ⊤}
use Rattle.py_flat.specs.Lines.{lf, cr}
use Rattle.py_plain.specs.declared.unit.Unit.{Unit}
use Rattle.py_plain.specs.declared.unit.Unit.TheVariants.{Character, Malformed, Cut}
use Rattle.py_plain.specs.Items.{FirstItem, Given, RefusedRange, Unfinished}
use Rattle.py_telling.specs.declared.seen_item.SeenItem.{SeenItem}
use Rattle.py_telling.specs.declared.seen_item.SeenItem.TheVariants as seen

-- characters of which none is an LF or a CR
abbrev pub HaveNoLineEnd : List ℕ → Type 0
HaveNoLineEnd [] = ⊤
HaveNoLineEnd (c ∷ cs) = (c ≢ lf) × (c ≢ cr) × HaveNoLineEnd cs

-- characters that are ASCII, each one byte in UTF-8
abbrev pub AreAscii : List ℕ → Type 0
AreAscii [] = ⊤
AreAscii (c ∷ cs) = (c < 0x80) × AreAscii cs

-- so many characters that stand for a refused range: none is a line end, and of more than one each is ASCII
pub record StandFor (count : ℕ) (characters : List ℕ) : Type 0 where
  pub long : length characters ≡ count
  pub unbroken : HaveNoLineEnd characters
  pub ascii : 1 < count → AreAscii characters

-- the first item is the one that is seen
abbrev pub Shows : FirstItem → SeenItem → Type 0
Shows (Given characters used) (seen.Character character size) = (characters ≡ character ∷ []) × (used ≡ size)
Shows (Given characters used) (seen.Replaced count size) = StandFor count characters × (used ≡ size)
Shows (RefusedRange length) seen.Refused = ⊤
Shows Unfinished seen.Unfinished = ⊤
Shows _ _ = ⊥

-- a unit has some of n bytes, at most four
abbrev pub IsFewIn : ℕ → Unit → Type 0
IsFewIn size (Character character used) = (1 ≤ used) × (used ≤ 4) × (used ≤ size)
IsFewIn size (Malformed used) = (1 ≤ used) × (used ≤ 4) × (used ≤ size)
IsFewIn size (Cut used) = (1 ≤ used) × (used ≤ 4) × (used ≤ size)

-- an item that is seen stands for some of n bytes, at most four, and a range for at most 24 characters
abbrev pub IsSeenIn : ℕ → SeenItem → Type 0
IsSeenIn size (seen.Character character used) = (1 ≤ used) × (used ≤ 4) × (used ≤ size)
IsSeenIn size (seen.Replaced count used) = (1 ≤ used) × (used ≤ 4) × (used ≤ size) × (count ≤ 24)
IsSeenIn size seen.Refused = ⊤
IsSeenIn size seen.Unfinished = ⊤
