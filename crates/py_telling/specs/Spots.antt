-- Where a text stands among some items, found by one walk over them.
use Rattle.std.specs.Prelude.{ℕ, ◌+◌, ◌-◌, pos, Bool, true, false, ◌&&◌, nat_eq, nat_lt, List, [], ◌∷◌, length, drop, if◌then◌else◌}
use Rattle.py_flat.specs.Lines.{lf, begins_with_lf}
use Rattle.py_plain.specs.declared.encoding.Encoding.{Encoding}
use Rattle.py_plain.specs.declared.handler.Handler.{Handler}
use Rattle.py_plain.specs.declared.newlines.Newlines.{Newlines}
use Rattle.py_plain.specs.declared.newlines.Newlines.TheVariants as rule
use Rattle.py_plain.specs.Units.{Unknown}
use Rattle.py_plain.specs.Handlers.{treatment}
use Rattle.py_plain.specs.Items.{Item}
use Rattle.py_plain.specs.NewlineRule.{ends_held}
use Rattle.py_plain.specs.Pieces.{walk_at}
use Rattle.py_plain_text.specs.Cookie.{Cookie, boundary_cookie}
use Rattle.py_plain_text.specs.Telling.{end_of_item}

-- a byte; or an item of n bytes of which some characters are skipped
pub record Spot : Type 0 where
  pub start : ℕ
  pub length : ℕ
  pub skipped : ℕ

abbrev pub at_byte : ℕ → Spot
at_byte place = record { start = place; length = 0; skipped = 0 }

-- the cookie of a spot in an encoding without a mark, where the skipped characters are ASCII
abbrev pub spot_cookie : Spot → Cookie
spot_cookie spot =
    if nat_eq spot.skipped 0 then boundary_cookie spot.start 0
    else record {
      start_pos = pos spot.start;
      dec_flags = pos 0;
      bytes_to_feed = pos spot.length;
      chars_to_skip = pos spot.skipped;
      need_eof = true;
      bytes_to_skip = pos spot.skipped;
    }

-- What the newline rule makes of the characters of an item.

abbrev pub is_universal : Newlines → Bool
is_universal rule.Universal = true
is_universal _ = false

-- whether a CR is held behind the characters of an item, where `held` says so before them
abbrev pub holds : Newlines → (held : Bool) → List ℕ → Bool
holds newline held [] = held
holds newline held (c ∷ cs) = is_universal newline && ends_held false (c ∷ cs)

-- how many characters an item adds to those that are given, a CR counted where it is held: an LF behind it adds none
abbrev pub adds : (held : Bool) → List ℕ → ℕ
adds held cs = length cs - (if held && begins_with_lf cs then 1 else 0)

-- The walk.

-- by what an item has: the place behind it, where that begins with an LF; here, where with another character; else what comes behind it
abbrev pub lf_in : (here end : ℕ) → List ℕ → (behind : ℕ) → ℕ
lf_in here end [] behind = behind
lf_in here end (c ∷ cs) behind = if nat_eq c lf then end else here

-- the place behind an LF that is the next character, else this place
abbrev pub behind_lf : (here : ℕ) → List Item → ℕ
behind_lf here [] = here
behind_lf here (item ∷ items) = lf_in here (end_of_item item) item.characters (behind_lf here items)

-- the spot behind so many characters more; `held` says that a CR is held here, which counts as given
abbrev pub spot_behind : Newlines → (left : ℕ) → (held : Bool) → (here : ℕ) → List Item → Spot
spot_behind newline left held here [] = at_byte here
spot_behind newline left held here (item ∷ items) =
    if nat_eq left 0 then at_byte (if held then behind_lf here (item ∷ items) else here)
    else if nat_lt left (adds held item.characters) then record { start = item.start; length = item.length; skipped = left }
    else spot_behind newline (left - adds held item.characters) (holds newline held item.characters) (end_of_item item) items

-- the items of some bytes that stand at a place, from one of them on
abbrev pub items_from : Encoding → Handler → (last : Bool) → (place at : ℕ) → List ℕ → List Item
items_from encoding handler last place at bytes = (walk_at encoding (treatment handler encoding) last Unknown (place + at) (drop at bytes)).items
