-- What the program does with a refused range and reads as the first item, in the words of the definitions.
use Rattle.std.specs.Prelude.{ℕ, ◌≡◌, ◌≤◌, List, ◌++◌, Option, Some, None, ⊤}
use Rattle.py_plain.specs.Handlers.{Handled, Replaced, Refuses}
use Rattle.py_plain.specs.Items.{FirstItem, Given, RefusedRange, Unfinished}
use Rattle.py_plain.specs.declared.decoded.FirstItem.{FirstItem as Seen}
use Rattle.py_plain.specs.declared.decoded.FirstItem.TheVariants as seen

-- the characters that a handler gives stand after those of before, and the answer is the bytes that it used; or nothing is given, and there is no answer
abbrev pub Treats : Handled → (before after : List ℕ) → Option ℕ → Type 0
Treats (Replaced characters used) before after answer = (after ≡ before ++ characters) × (answer ≡ Some used)
Treats Refuses before after answer = (after ≡ before) × (answer ≡ None)

-- the characters of the first item are appended, and the bytes that it used answered
abbrev pub Gives : FirstItem → (before after : List ℕ) → Seen → Type 0
Gives (Given characters used) before after answer = (after ≡ before ++ characters) × (answer ≡ seen.Given used)
Gives (RefusedRange length) before after answer = (after ≡ before) × (answer ≡ seen.RefusedRange length)
Gives Unfinished before after answer = (after ≡ before) × (answer ≡ seen.Unfinished)

-- a first item stands for some of n bytes
abbrev pub IsSeenIn : ℕ → Seen → Type 0
IsSeenIn size (seen.Given used) = (1 ≤ used) × (used ≤ size)
IsSeenIn size (seen.RefusedRange length) = (1 ≤ length) × (length ≤ size)
IsSeenIn size seen.Unfinished = ⊤
