-- The words of the laws of decodings and encodings.
use Rattle.std.specs.Prelude.{ℕ, Bool, true, false, List, [], ◌∷◌, ◌++◌, length}
use Rattle.py_plain.specs.declared.handler.Handler.{Handler}
use Rattle.py_plain.specs.declared.handler.Handler.TheVariants.{Ignore, Replace, XmlCharRefReplace, BackslashReplace}
use Rattle.py_plain.specs.Alone.{bytes_of_item}
use Rattle.py_plain.specs.Items.{Item, Ending, AtEnd, AtRange, AtCut}

-- Bytes.

-- how many of some bytes a walk over them came past: all, or those before a cut sequence or a refused range
abbrev pub came_past : List ℕ → Ending → ℕ
came_past bytes AtEnd = length bytes
came_past bytes (AtRange start end) = start
came_past bytes (AtCut start) = start

-- the bytes of some items, one after the other, of those that stand at a place
abbrev pub bytes_of_items : (place : ℕ) → List ℕ → List Item → List ℕ
bytes_of_items place bytes [] = []
bytes_of_items place bytes (item ∷ items) = bytes_of_item place bytes item ++ bytes_of_items place bytes items

-- Runs.

-- the four handlers that give for every run a text that each encoding has
abbrev pub writes_runs : Handler → Bool
writes_runs Ignore = true
writes_runs Replace = true
writes_runs XmlCharRefReplace = true
writes_runs BackslashReplace = true
writes_runs _ = false
