-- The flat file of a text: bytes, settings, and a place in the text.
use Rattle.std.specs.Prelude.{ℕ, Bool, false, List, Option, None}
use Rattle.py_flat.specs.declared.life.Life.{Life}
use Rattle.py_flat.specs.FlatFile.{Abilities}
use Rattle.py_plain.specs.declared.encoding.Encoding.{Encoding}
use Rattle.py_plain.specs.declared.handler.Handler.{Handler}
use Rattle.py_plain.specs.declared.newlines.Newlines.{Newlines}
use Rattle.py_plain.specs.Units.{Order}

-- one item of which the first characters have been taken: its first byte, its bytes, and how many characters are skipped
pub record Front : Type 0 where
  pub start : ℕ
  pub length : ℕ
  pub skipped : ℕ

-- a place in a text: what is left of an item, then the text from a byte on, less the characters taken since. A text
-- that was read from is dirty
pub record TextPlace : Type 0 where
  pub front : Option Front
  pub at : ℕ
  pub order : Order
  pub taken : ℕ
  pub dirty : Bool

-- a place at a byte, from which nothing was taken
abbrev pub clean_at : ℕ → Order → TextPlace
clean_at at order = record { front = None; at = at; order = order; taken = 0; dirty = false }

pub record TextSettings : Type 0 where
  pub encoding : Encoding
  pub handler : Handler
  pub newline : Newlines
  pub line_buffering : Bool
  pub write_through : Bool
  pub chunk_size : ℕ

pub record TextFile : Type 0 where
  pub bytes : List ℕ
  pub place : TextPlace
  pub can : Abilities
  pub settings : TextSettings
  pub life : Life
