-- A text by the bytes that are in hand.
use Rattle.std.specs.Prelude.{◌≡◌, ℕ, Bool, true, ◌||◌, List, [], ◌++◌, drop, None, is_some}
use Rattle.py_plain.specs.declared.encoding.Encoding.{Encoding}
use Rattle.py_plain.specs.declared.handler.Handler.{Handler}
use Rattle.py_plain.specs.declared.newlines.Newlines.{Newlines}
use Rattle.py_plain.specs.Units.{Unknown}
use Rattle.py_plain.specs.Handlers.{treatment}
use Rattle.py_plain.specs.Items.{Walk, decoding, characters_of, refusal_of}
use Rattle.py_plain.specs.NewlineRule.{translated_to}
use Rattle.py_plain_text.specs.TextFile.{TextFile}

-- what a decoding surely gives, whatever comes behind its bytes; `last` says that nothing does. A range that it refuses ends it as well: a CR
-- that is held before it is released
abbrev pub surely_read : Newlines → (last : Bool) → Walk → List ℕ
surely_read newline last walk = translated_to (last || is_some (refusal_of walk.ending)) newline (characters_of walk.items)

-- the characters that some bytes surely give
abbrev pub surely_given : Encoding → Handler → Newlines → (last : Bool) → List ℕ → List ℕ
surely_given encoding handler newline last bytes = surely_read newline last (decoding encoding (treatment handler encoding) last Unknown bytes 0)

-- a text of these settings of which so many characters were given since a byte place
pub record StandsBehind (encoding : Encoding) (handler : Handler) (newline : Newlines) (place given : ℕ) (file : TextFile) : Type 0 where
  pub encoding_is : file.settings.encoding ≡ encoding
  pub handler_is : file.settings.handler ≡ handler
  pub newline_is : file.settings.newline ≡ newline
  pub front : file.place.front ≡ None
  pub at : file.place.at ≡ place
  pub order : file.place.order ≡ Unknown
  pub taken : file.place.taken ≡ given

-- some bytes lie in a text from a place on; `last` says that none come behind them
pub record LieIn (last : Bool) (place : ℕ) (bytes : List ℕ) (file : TextFile) : Type 0 where
  pub more : List ℕ
  pub bytes_are : drop place file.bytes ≡ bytes ++ more
  pub last_are : last ≡ true → more ≡ []
