-- The line that a reply is written as: this project's script language, docs/PROGRAM.md.
use Rattle.std.specs.Prelude.{ℕ, true, false, List, [], ◌∷◌, ◌++◌, map, length, Option, Some, None, codes, encode_utf8_all, decimal}
use Rattle.hex.specs.Hex.{encode_lower}
use Rattle.py_calls.specs.declared.reply.Reply.{Reply}
use Rattle.py_calls.specs.declared.reply.Reply.TheVariants.{Bytes, Text, Lines, Count, Place, Cookie, Done, NotReady, Flag, Name, Unwritten, Refused}
use Rattle.py_plain_text.specs.Cookie.{cookie_bytes}
use Rattle.py_plain_text.specs.CookieView.{cookie_shown}
use Rattle.py_script.specs.Words.{spaced}
use Rattle.py_script.specs.Faults.{fault_name, fault_numbers}

-- bytes as a word: two hex digits each, in lower case; `-` where there are none
abbrev pub hex_of : List ℕ → List ℕ
hex_of [] = codes "-"
hex_of (byte ∷ bytes) = encode_lower (byte ∷ bytes)

-- a place as a word; `-` where there is none
abbrev pub place_of : Option ℕ → List ℕ
place_of None = codes "-"
place_of (Some place) = decimal place

-- the word that a reply's line begins with
abbrev pub reply_word : Reply → List ℕ
reply_word (Bytes bytes) = codes "bytes"
reply_word (Text text) = codes "text"
reply_word (Lines lines) = codes "lines"
reply_word (Count count) = codes "count"
reply_word (Place place) = codes "place"
reply_word (Cookie cookie) = codes "cookie"
reply_word Done = codes "ok"
reply_word NotReady = codes "notready"
reply_word (Flag true) = codes "true"
reply_word (Flag false) = codes "false"
reply_word (Name name) = codes "name"
reply_word (Unwritten bytes place) = codes "detached"
reply_word (Refused fault) = codes "err"

-- the words of a reply's line after its first: bytes, the UTF-8 of a text, each line and a cookie as hex, numbers as decimals, a name as its
-- UTF-8
abbrev pub reply_fields : Reply → List (List ℕ)
reply_fields (Bytes bytes) = hex_of bytes ∷ []
reply_fields (Text text) = hex_of (encode_utf8_all text) ∷ []
reply_fields (Lines lines) = decimal (length lines) ∷ map hex_of lines
reply_fields (Count count) = decimal count ∷ []
reply_fields (Place place) = decimal place ∷ []
reply_fields (Cookie cookie) = hex_of (cookie_bytes (cookie_shown cookie)) ∷ []
reply_fields (Name name) = encode_utf8_all name ∷ []
reply_fields (Unwritten bytes place) = hex_of bytes ∷ place_of place ∷ []
reply_fields (Refused fault) = fault_name fault ∷ map decimal (fault_numbers fault)
reply_fields _ = []

-- the line of a reply: its words, parted by one space, and an LF
abbrev pub reply_line : Reply → List ℕ
reply_line reply = reply_word reply ++ spaced (reply_fields reply) ++ 10 ∷ []

-- the lines of replies, one after the other
abbrev pub reply_lines : List Reply → List ℕ
reply_lines [] = []
reply_lines (reply ∷ replies) = reply_line reply ++ reply_lines replies
