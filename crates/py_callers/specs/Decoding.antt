-- The text of some bytes of UTF-8, in which U+FFFD stands for what is none.
use Rattle.std.specs.Prelude.{ℕ, List}
use Rattle.py_plain.specs.declared.encoding.Encoding.TheVariants.{Utf8}
use Rattle.py_plain.specs.declared.handler.Handler.TheVariants.{Replace}
use Rattle.py_plain.specs.Units.{Unknown}
use Rattle.py_plain.specs.Handlers.{treatment}
use Rattle.py_plain.specs.Items.{plain, characters_of}

-- the characters of the plain decoding of all the bytes, by the handler `replace`
abbrev pub replacing : List ℕ → List ℕ
replacing bytes = characters_of (plain Utf8 (treatment Replace Utf8) Unknown bytes 0).items
