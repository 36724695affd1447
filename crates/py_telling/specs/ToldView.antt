-- Where the program tells that a text stands, in the words of the definitions.
use Rattle.std.specs.Prelude.{◌≡◌, ℕ, ◌≤◌, Bool, List, length}
use Rattle.py_flat.specs.Limits.{greatest_place}
use Rattle.py_plain.specs.declared.encoding.Encoding.{Encoding}
use Rattle.py_plain.specs.declared.handler.Handler.{Handler}
use Rattle.py_plain.specs.declared.newlines.Newlines.{Newlines}
use Rattle.py_plain_text.specs.TextFile.{TextFile}
use Rattle.py_plain_text.specs.Telling.{told}
use Rattle.py_plain_text.specs.Cookie.{Cookie}
use Rattle.py_telling.specs.declared.told.Told.{Told}
use Rattle.py_telling.specs.Spots.{Spot, spot_cookie}
use Rattle.py_telling.specs.InHand.{surely_given, StandsBehind, LieIn}

abbrev pub spot_shown : Told → Spot
spot_shown told = record { start = told.start; length = told.length; skipped = told.skipped }

-- the cookie of where a text stands
abbrev pub told_shown : Told → Cookie
told_shown told = spot_cookie (spot_shown told)

-- where a text stands of which so many characters were given since a place, told by the bytes in hand from there on: what the text tells,
-- where these bytes surely give so many, whatever comes behind them; `last` says that none do
abbrev pub IsToldAmong : Encoding → Handler → Newlines → (last : Bool) → (place given : ℕ) → List ℕ → Told → Type 0
IsToldAmong encoding handler newline last place given bytes shown =
    given ≤ length (surely_given encoding handler newline last bytes) → (file : TextFile) → StandsBehind encoding handler newline place given file → LieIn last place bytes file → told_shown shown ≡ told file

-- numbers that a cookie has room for: a place of a stream, at most four bytes and at most 24 characters
pub record IsTold (told : Told) : Type 0 where
  pub start : told.start ≤ greatest_place
  pub length : told.length ≤ 4
  pub skipped : told.skipped ≤ 24
