-- How far some bytes were walked to tell where a text stands.
use Rattle.std.specs.Prelude.{◌≡◌, ℕ, ◌+◌, ◌-◌, ◌≤◌, Bool, false, List, ◌++◌, length}
use Rattle.py_plain.specs.declared.encoding.Encoding.{Encoding}
use Rattle.py_plain.specs.declared.handler.Handler.{Handler}
use Rattle.py_plain.specs.declared.newlines.Newlines.{Newlines}
use Rattle.py_telling.specs.declared.walked.Walked.{Walked}
use Rattle.py_telling.specs.Spots.{spot_behind, items_from}

-- the spot behind so many characters of bytes that stand at a place is the one behind those that are left where the walk came to
abbrev pub TellsAlike : Encoding → Handler → Newlines → (last : Bool) → (place count : ℕ) → List ℕ → Walked → Type 0
TellsAlike encoding handler newline last place count bytes walked =
    spot_behind newline count false place (items_from encoding handler last place 0 bytes)
    ≡ spot_behind newline (count - walked.count) walked.held (place + walked.passed) (items_from encoding handler last place walked.passed bytes)

-- some bytes were walked, not past so many characters: wherever they stand and whatever comes behind, a walk to so many or more goes on there
pub record IsWalked (encoding : Encoding) (handler : Handler) (newline : Newlines) (bytes : List ℕ) (given : ℕ) (walked : Walked) : Type 0 where
  pub within : walked.passed ≤ length bytes
  pub counted : walked.count ≤ given
  pub alike : (last : Bool) (place count : ℕ) (more : List ℕ) → given ≤ count → TellsAlike encoding handler newline last place count (bytes ++ more) walked
