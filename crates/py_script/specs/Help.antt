-- What `--help` and `--version` print: this project's own.
use Rattle.std.specs.Prelude.{ℕ, nat_le, Bool, true, ◌&&◌, List, [], ◌∷◌, ◌++◌, length, codes}

-- lines as a text, each with an LF after it
abbrev pub text_of_lines : List (List ℕ) → List ℕ
text_of_lines [] = []
text_of_lines (line ∷ lines) = line ++ (10 ∷ text_of_lines lines)

-- whether each line has at most n bytes
abbrev pub are_within : ℕ → List (List ℕ) → Bool
are_within width [] = true
are_within width (line ∷ lines) = nat_le (length line) width && are_within width lines

-- the words and the options
abbrev pub words_help : List (List ℕ)
words_help =
    codes "Opens a file, makes the calls of a script on it, and prints each reply." ∷
    codes "  run PATH MODE [OPTION ..]   takes the script from standard input" ∷
    codes "  --help, --version           prints this text, or the program's version" ∷
    [] ∷
    codes "MODE is as in Python's open, of a text without b; but a+ and ab+ aren't opened." ∷
    codes "Each OPTION is given at most once, in any order:" ∷
    codes "  buffering=I    buffer in bytes; 0: none, not of a text; 1, and I below 0: 8192" ∷
    codes "  encoding=NAME  utf-8 (default), latin-1, ascii, utf-16-le or utf-16-be" ∷
    codes "  errors=NAME    strict (default), ignore, replace, backslashreplace or" ∷
    codes "                 surrogateescape; of a text only written also xmlcharrefreplace" ∷
    codes "  newline=HEX    what ends a line, in hex of its UTF-8: 0a is LF (default: any" ∷
    codes "                 of CR LF, CR and LF, each read as LF); no HEX: empty text" ∷
    codes "  chunk=N        bytes that a text asks its buffer for at once (default 8192)" ∷
    []

-- the script and its replies
abbrev pub script_help : List (List ℕ)
script_help =
    codes "A script has a call a line, one space between words, and 1048576 bytes at most:" ∷
    codes "  read [N]           reads N bytes, of a text characters, or all that is left" ∷
    codes "  readline [N]       reads up to and with the end of a line, at most N of it" ∷
    codes "  readlines [N], read1 [N], peek, readinto N, readinto1 N     read as in Python" ∷
    codes "  write HEX, writelines [HEX ..], writetext HEX   writes bytes, lines, UTF-8" ∷
    codes "  seek I [WHENCE]    I from the start (0, or none), the place (1), the end (2)" ∷
    codes "  seektext HEX [WHENCE]: a text, by a cookie; truncate [N], chunksize [N], tell," ∷
    codes "  flush, close, detach, readable, writable, seekable, closed, encoding, errors" ∷
    codes "  reconfigure [encoding=NAME] [errors=NAME] [newline=HEX] [line=B] [through=B]" ∷
    codes "                     gives a text these; newline=none: the default; B is 0 or 1" ∷
    codes "N and I are decimal, I also after a -; HEX has two digits a byte, - for none." ∷
    codes "Lines that are empty or begin with # are skipped. A close is added at the end." ∷
    [] ∷
    codes "Each call is answered by a line:" ∷
    codes "  bytes HEX, text HEX, lines N HEX ..   what was read, of a text its UTF-8" ∷
    codes "  count N, place N, cookie HEX, true, false, ok   how many, where, yes, no, done" ∷
    codes "  notready          the file was not ready: make the call again" ∷
    codes "  detached HEX N    handed back: HEX may be unwritten, of place N (-: unknown)" ∷
    codes "  err NAME ..       refused: Closed, Detached, Failed before; RawFault: the file" ∷
    codes "                    failed; WouldBlock N: not ready past N bytes; others say why" ∷
    []

-- the statuses
abbrev pub status_help : List (List ℕ)
status_help =
    codes "The first status that applies ends the program:" ∷
    codes "  0  every reply was printed        5  the script could not be read" ∷
    codes "  2  the words are malformed        6  a line could not be printed" ∷
    codes "  3  the script is malformed        7  there was no memory left" ∷
    codes "  4  refused NAME was printed       8  the path could not be opened or put away" ∷
    []

-- the lines that `--help` prints
abbrev pub help_lines : List (List ℕ)
help_lines = words_help ++ [] ∷ script_help ++ [] ∷ status_help

-- what `--help` prints
abbrev pub help_text : List ℕ
help_text = text_of_lines help_lines

-- what `--version` prints
abbrev pub version_text : List ℕ
version_text = text_of_lines (codes "py_io_cli 0.1.0" ∷ [])
