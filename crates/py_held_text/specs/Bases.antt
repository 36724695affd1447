-- What is known of the base of what is in hand, and of its mark: what the text has from there on.
use Rattle.std.specs.Prelude.{◌≡◌, ℕ, ◌+◌, ◌≤◌, false, List, [], ◌++◌, length, drop, None, IfSome}
use Rattle.py_plain_text.specs.Rest.{Rest}
use Rattle.py_held_text.specs.declared.base.Mark.{Mark}
use Rattle.py_held_text.specs.Held.{HeldView, base_of, whole_of, left_with, left_surely}
use Rattle.py_held_text.specs.Decodes.{Passes}

-- nothing is known from a place on, so many bytes behind the base, and the bytes in hand from there on are to be decoded
abbrev pub from_base : HeldView → (passed : ℕ) → HeldView
from_base held passed = record held { known = []; cr = false; front = 0; back = []; given = 0; mark = None; ended = false; bytes = drop passed (whole_of held); place = base_of held + passed }

-- nothing is known from the base on
abbrev pub rebased : HeldView → HeldView
rebased held = from_base held 0

-- some characters before what is left
abbrev pub with_gone : List ℕ → Rest → Rest
with_gone gone rest = record { characters = gone ++ rest.characters; refusal = rest.refusal }

-- what is left without its first n characters
abbrev pub without : ℕ → Rest → Rest
without count rest = record { characters = drop count rest.characters; refusal = rest.refusal }

-- the base is a place of the stream: no more bytes were decoded since than stand before those that aren't decoded
abbrev pub IsBack : HeldView → Type 0
IsBack held = length held.back ≤ held.place

-- With some bytes behind those in hand: from the base on the text has the characters that were given since, and then what is left, without
-- the known characters that stand before the base; and the bytes since the base are whole items
pub record KnowsBase (more : List ℕ) (held : HeldView) (gone : List ℕ) : Type 0 where
  pub count : length gone ≡ held.given
  pub left : left_with (rebased held) more ≡ with_gone gone (without held.front (left_with held more))
  pub items : Passes (rebased held) held more

-- With some bytes behind those in hand: from a mark on the text has what is left, without the known characters that stand before the mark;
-- and the bytes from the base to the mark are whole items, and so are those from there on
pub record MarkStands (more : List ℕ) (held : HeldView) (mark : Mark) : Type 0 where
  pub count : mark.count ≤ length held.known
  pub passed : mark.passed ≤ length held.back
  pub left : left_with (from_base held mark.passed) more ≡ without mark.count (left_with held more)
  pub before : Passes (rebased held) (from_base held mark.passed) more
  pub behind : Passes (from_base held mark.passed) held more

abbrev pub KnowsMark : (more : List ℕ) → HeldView → Type 0
KnowsMark more held = IfSome held.mark (MarkStands more held)

-- what is known of the base and of the mark
pub record KnowsBases (more : List ℕ) (held : HeldView) (gone : List ℕ) : Type 0 where
  pub back : IsBack held
  pub base : KnowsBase more held gone
  pub mark : KnowsMark more held

-- the same of what is surely left while more may come
pub record SureBase (more : List ℕ) (held : HeldView) (gone : List ℕ) : Type 0 where
  pub count : length gone ≡ held.given
  pub left : left_surely (rebased held) more ≡ with_gone gone (without held.front (left_surely held more))

pub record SureMark (more : List ℕ) (held : HeldView) (mark : Mark) : Type 0 where
  pub passed : mark.passed ≤ length held.back
  pub left : left_surely (from_base held mark.passed) more ≡ without mark.count (left_surely held more)

pub record SureBases (more : List ℕ) (held : HeldView) (gone : List ℕ) : Type 0 where
  pub back : IsBack held
  pub base : SureBase more held gone
  pub mark : IfSome held.mark (SureMark more held)

-- whatever comes behind what is in hand: the bytes from the base on surely give the characters that were given since, and then what is
-- surely left, without the known characters that stand before the base
abbrev pub GaveSurely : HeldView → Type 0
GaveSurely held = (more : List ℕ) → (gone : List ℕ) × SureBases more held gone

-- so it is as long as no decoding knew that no bytes come behind those in hand
abbrev pub KeepsSure : HeldView → Type 0
KeepsSure held = held.ended ≡ false → GaveSurely held
