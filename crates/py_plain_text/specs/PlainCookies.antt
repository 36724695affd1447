-- The items and the cookies of the plain text, and how it answers with a cookie.
use Rattle.std.specs.Prelude.{◌≡◌, ℕ, ◌+◌, ◌≤◌, ℤ, pos, Bool, true, false, ◌&&◌, not, if◌then◌else◌, List, [], ◌∷◌, ◌++◌, length, Option, Some, None, Result, Ok, Err}
use Rattle.py_flat.specs.declared.fault.IoFault.{IoFault}
use Rattle.py_flat.specs.declared.fault.IoFault.TheVariants as fault
use Rattle.py_flat.specs.Calls.{FileReply, Cookie, Refused}
use Rattle.py_flat.specs.Limits.{greatest_place}
use Rattle.py_flat.specs.Refusals.{or_else, refused_if}
use Rattle.py_plain.specs.Units.{Unknown}
use Rattle.py_plain.specs.Handlers.{treatment}
use Rattle.py_plain.specs.Items.{Item, plain}
use Rattle.py_plain_text.specs.declared.plain_place.PlainSettings.{PlainSettings}
use Rattle.py_plain_text.specs.declared.plain_place.PlainPlace.{PlainPlace}
use Rattle.py_plain_text.specs.declared.text_cookie.TextIOCookie.{TextIOCookie}
use Rattle.py_plain_text.specs.TextFile.{TextPlace, TextFile}
use Rattle.py_plain_text.specs.Cookie.{cookie_bytes, is_natural}
use Rattle.py_plain_text.specs.CookieView.{cookie_shown}
use Rattle.py_plain_text.specs.Landing.{Landed, Stands, CantRestore}
use Rattle.py_plain_text.specs.TextCalls.{SeekText}
use Rattle.py_plain_text.specs.TextRefusals.{counts_on, are_zeros, argument_refusal}
use Rattle.py_plain_text.specs.PlainSteps.{plain_at, place_shown, LiesWithin, IsShort}

-- what a call that answers a cookie answered
abbrev pub cookie_reply : Result TextIOCookie IoFault → FileReply
cookie_reply (Ok cookie) = Cookie (cookie_bytes (cookie_shown cookie))
cookie_reply (Err fault) = Refused fault

-- a live text of some bytes at a place of the program
abbrev pub text_at : List ℕ → PlainSettings → PlainPlace → TextFile
text_at bytes settings place = plain_at bytes settings (place_shown place)

-- the items of some bytes from a place on
abbrev pub items_from : PlainSettings → List ℕ → ℕ → List Item
items_from settings bytes place = (plain settings.encoding (treatment settings.handler settings.encoding) Unknown bytes place).items

-- an item of so many bytes stands at a place, and the others behind it
pub record StandsAt (settings : PlainSettings) (bytes : List ℕ) (place : ℕ) (characters : List ℕ) (used : ℕ) : Type 0 where
  pub some : 1 ≤ used
  pub few : used ≤ 4
  pub within : place + used ≤ length bytes
  pub short : length characters ≤ 260
  pub items : items_from settings bytes place ≡ record { start = place; length = used; order = Unknown; characters = characters } ∷ items_from settings bytes (place + used)

-- the characters of the item at a place are appended, and the bytes that it used answered; or there is none
abbrev pub PassesItem : PlainSettings → List ℕ → ℕ → (before after : List ℕ) → Option ℕ → Type 0
PassesItem settings bytes place before after None = items_from settings bytes place ≡ []
PassesItem settings bytes place before after (Some used) = (characters : List ℕ) × (after ≡ before ++ characters) × StandsAt settings bytes place characters used

-- Seeking.

-- what refuses a seek of a live text
abbrev pub sought_refusal : TextFile → List ℕ → ℤ → Option IoFault
sought_refusal file cookie whence =
    or_else (refused_if (counts_on whence && not (are_zeros cookie)) fault.Unsupported) (argument_refusal file (SeekText cookie whence))

-- a cookie that a text can land by: its start isn't negative, and it says no order
pub record IsSound (cookie : TextIOCookie) : Type 0 where
  pub natural : is_natural cookie.start_pos ≡ true
  pub flags : cookie.dec_flags ≡ pos 0

-- where the program's text lands: as the cookie says, or at the cookie's start
abbrev pub landed_by : (restored : Bool) → TextPlace → Landed
landed_by restored place = if restored then Stands place else CantRestore place

-- a place of a text of so many bytes that landed
pub record IsLanding (size : ℕ) (place : PlainPlace) : Type 0 where
  pub clean : place.dirty ≡ false → place.front ≡ None
  pub within : LiesWithin size place.front
  pub short : IsShort place.front
  pub reach : place.at ≤ greatest_place
  pub untaken : place.taken ≡ 0
