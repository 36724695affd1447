-- Where the first line of a text ends (Python's documentation of `open`, `newline`), and where to look on.
use Rattle.std.specs.Prelude.{ℕ, ◌-◌, false, List, length, encode_utf8_all, Result, Ok, Err, if◌then◌else◌}
use Rattle.py_flat.specs.Lines.{LineEnd, CrLf, line_after, has_end_after}
use Rattle.py_plain.specs.declared.newlines.Newlines.{Newlines}
use Rattle.py_plain.specs.NewlineRule.{line_end, ends_held}

-- how many of the last characters may begin an end that isn't whole: the CR of a CR LF
abbrev pub kept_back : LineEnd → List ℕ → ℕ
kept_back CrLf cs = if ends_held false cs then 1 else 0
kept_back _ cs = 0

-- of some bytes: the place behind their first line end, or, where no line ends, the place to look on from
abbrev pub byte_place : LineEnd → List ℕ → Result ℕ ℕ
byte_place end bytes =
    if has_end_after end false bytes then Ok (length (line_after end false bytes))
    else Err (length bytes - kept_back end bytes)

-- the same of some characters, in bytes of UTF-8: of the first line with its end, or of all but a CR that is kept back
abbrev pub newline_place : Newlines → List ℕ → Result ℕ ℕ
newline_place rule cs =
    if has_end_after (line_end rule) false cs then Ok (length (encode_utf8_all (line_after (line_end rule) false cs)))
    else Err (length (encode_utf8_all cs) - kept_back (line_end rule) cs)
