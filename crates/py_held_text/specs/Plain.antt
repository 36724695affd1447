-- Known text that is the bytes that are kept.
use Rattle.std.specs.Prelude.{◌≡◌, ◌≤◌, ◌-◌, ℕ, List, [], ◌++◌, false, length, take, drop, chars}
use Rattle.std.specs.Str.{IsUtf8}
use Rattle.py_plain.specs.declared.encoding.Encoding.{Encoding}
use Rattle.py_plain.specs.declared.encoding.Encoding.TheVariants.{Utf8}
use Rattle.py_plain.specs.declared.newlines.Newlines.{Newlines}
use Rattle.py_plain.specs.NewlineRule.{line_end, read_so_far, holds_after}
use Rattle.py_codec.specs.Front.{front_stop}
use Rattle.py_plain.specs.Items.{AtEnd}
use Rattle.py_held_text.specs.declared.decoding.Decoded.{Decoded}
use Rattle.py_held_text.specs.declared.plain_text.PlainText.{PlainText}
use Rattle.py_held_text.specs.Known.{KnownView}
use Rattle.py_held_text.specs.LineSearch.{IsSearched}

-- the last n of the bytes that are decoded
abbrev pub plain_of : (size decoded : ℕ) → List ℕ → List ℕ
plain_of size decoded bytes = take size (drop (decoded - size) bytes)

-- what is known: a text of its own, and then the last n of the bytes that are decoded
abbrev pub known_of : KnownView → (size decoded : ℕ) → List ℕ → KnownView
known_of own size decoded bytes = record own { characters = own.characters ++ chars (plain_of size decoded bytes) }

-- nothing is known by a rule
abbrev pub nothing_known : Newlines → KnownView
nothing_known newline = record { newline = newline; characters = []; cr = false }

-- the last bytes that are decoded are characters, which are counted, and in the first of them, as many as were searched, no line ends;
-- where there are some, no other text is known
pub record IsShared (own : KnownView) (plain : PlainText) (decoded : ℕ) (bytes : List ℕ) : Type 0 where
  pub within : plain.bytes ≤ decoded
  pub utf8 : IsUtf8 (plain_of plain.bytes decoded bytes)
  pub counted : plain.count ≡ length (chars (plain_of plain.bytes decoded bytes))
  pub open_line : IsSearched (line_end own.newline) (chars (plain_of plain.bytes decoded bytes)) plain.searched
  pub alone : 1 ≤ plain.bytes → own ≡ nothing_known own.newline

-- the rule changes nothing in any text that some bytes begin with, and holds no CR behind it
abbrev pub KeepsFronts : Newlines → List ℕ → Type 0
KeepsFronts newline bytes = (size : ℕ) → size ≤ length bytes → IsUtf8 (take size bytes) → (read_so_far newline false (chars (take size bytes)) ≡ chars (take size bytes)) × (holds_after newline false (chars (take size bytes)) ≡ false)

-- some bytes are known text as they are: they are in UTF-8 and read so, no more characters than are wanted, of which the rule changes none
pub record IsPlainPart (encoding : Encoding) (newline : Newlines) (want : ℕ) (part : List ℕ) : Type 0 where
  pub is_utf8 : encoding ≡ Utf8
  pub utf8 : IsUtf8 part
  pub few : length part ≤ want
  pub reads : read_so_far newline false (chars part) ≡ chars part
  pub holds : holds_after newline false (chars part) ≡ false

-- they were decoded as they are, all of them
pub record IsPlainly (want : ℕ) (part : List ℕ) (now : Decoded) : Type 0 where
  pub used : now.front.used ≡ length part
  pub chars : now.front.chars ≡ length (chars part)
  pub stop : now.front.stop ≡ front_stop (want - now.front.chars) AtEnd
  pub cut : now.cut ≡ false
