-- The words of a script's line, and the call that they make: this project's script language, docs/PROGRAM.md.
use Rattle.std.specs.Prelude.{ℕ, ℤ, pos, List, [], ◌∷◌, Option, Some, None, option_map, codes, if◌then◌else◌}
use Rattle.std.specs.Option.{option_and_then}
use Rattle.std.specs.Str.{bytes_eq}
use Rattle.py_calls.specs.declared.call.Call.{Call}
use Rattle.py_calls.specs.declared.call.Call.TheVariants.{Read, Read1, ReadLine, ReadLines, Peek, ReadInto, ReadInto1, Write, WriteLines, WriteText, Seek, SeekText, Tell, Truncate, Flush, Close, Detach, ChunkSize, SetChunkSize, Reconfigure, Readable, Writable, Seekable, Closed, Encoding, Errors}
use Rattle.py_script.specs.Words.{decimal_value, integer_value, whence_value, word_bytes, word_text, words_bytes}
use Rattle.py_script.specs.Settings.{changes_of_words}

-- the call of a word that stands alone: a reading or a truncation without a size, and each call that takes nothing
abbrev pub plain_call : List ℕ → Option Call
plain_call name =
    if bytes_eq name (codes "read") then Some (Read None)
    else if bytes_eq name (codes "read1") then Some (Read1 None)
    else if bytes_eq name (codes "readline") then Some (ReadLine None)
    else if bytes_eq name (codes "readlines") then Some (ReadLines None)
    else if bytes_eq name (codes "peek") then Some Peek
    else if bytes_eq name (codes "tell") then Some Tell
    else if bytes_eq name (codes "truncate") then Some (Truncate None)
    else if bytes_eq name (codes "flush") then Some Flush
    else if bytes_eq name (codes "close") then Some Close
    else if bytes_eq name (codes "detach") then Some Detach
    else if bytes_eq name (codes "readable") then Some Readable
    else if bytes_eq name (codes "writable") then Some Writable
    else if bytes_eq name (codes "seekable") then Some Seekable
    else if bytes_eq name (codes "closed") then Some Closed
    else if bytes_eq name (codes "chunksize") then Some ChunkSize
    else if bytes_eq name (codes "encoding") then Some Encoding
    else if bytes_eq name (codes "errors") then Some Errors
    else None

-- the call of a word with a size after it: each reading of so much, a truncation to it, and chunks of it
abbrev pub sized_call : List ℕ → ℕ → Option Call
sized_call name size =
    if bytes_eq name (codes "read") then Some (Read (Some size))
    else if bytes_eq name (codes "read1") then Some (Read1 (Some size))
    else if bytes_eq name (codes "readline") then Some (ReadLine (Some size))
    else if bytes_eq name (codes "readlines") then Some (ReadLines (Some size))
    else if bytes_eq name (codes "readinto") then Some (ReadInto size)
    else if bytes_eq name (codes "readinto1") then Some (ReadInto1 size)
    else if bytes_eq name (codes "truncate") then Some (Truncate (Some size))
    else if bytes_eq name (codes "chunksize") then Some (SetChunkSize size)
    else None

-- the call of a word with at most a size after it
abbrev pub reading_call : List ℕ → List (List ℕ) → Option Call
reading_call name [] = plain_call name
reading_call name (size ∷ []) = option_and_then (sized_call name) (decimal_value size)
reading_call name _ = None

-- a move by an offset and a whence; None where either is malformed
abbrev pub seek_by : Option ℤ → Option ℤ → Option Call
seek_by (Some offset) (Some whence) = Some (Seek offset whence)
seek_by _ _ = None

-- the call of what stands after `seek`: an offset, and a whence, which is 0 (from the start) where there is none
abbrev pub seek_call : List (List ℕ) → Option Call
seek_call (offset ∷ []) = seek_by (integer_value offset) (Some (pos 0))
seek_call (offset ∷ whence ∷ []) = seek_by (integer_value offset) (whence_value whence)
seek_call _ = None

-- a move of a text by a whence and a cookie's bytes; None where either is malformed
abbrev pub seektext_by : Option ℤ → Option (List ℕ) → Option Call
seektext_by (Some whence) cookie = option_map (λ bytes. SeekText bytes whence) cookie
seektext_by None cookie = None

-- the call of what stands after `seektext`: a cookie's bytes, and a whence, which is 0 (by the cookie) where there is none
abbrev pub seektext_call : List (List ℕ) → Option Call
seektext_call (cookie ∷ []) = seektext_by (Some (pos 0)) (word_bytes cookie)
seektext_call (cookie ∷ whence ∷ []) = seektext_by (whence_value whence) (word_bytes cookie)
seektext_call _ = None

-- the call of what stands after `write`: bytes
abbrev pub write_call : List (List ℕ) → Option Call
write_call (bytes ∷ []) = option_map Write (word_bytes bytes)
write_call _ = None

-- the call of what stands after `writetext`: the UTF-8 of a text
abbrev pub writetext_call : List (List ℕ) → Option Call
writetext_call (text ∷ []) = option_map WriteText (word_text text)
writetext_call _ = None

-- the call of what stands after `writelines`: the bytes of each line, of any number of them
abbrev pub writelines_call : List (List ℕ) → Option Call
writelines_call lines = option_map WriteLines (words_bytes lines)

-- the call of what stands after `reconfigure`: settings, each at most once and in their order
abbrev pub reconfigure_call : List (List ℕ) → Option Call
reconfigure_call settings = option_map Reconfigure (changes_of_words settings)

-- the call of another word: of `seektext`, of `reconfigure`, or of one with at most a size after it
abbrev pub other_call : List ℕ → List (List ℕ) → Option Call
other_call name words =
    if bytes_eq name (codes "seektext") then seektext_call words
    else if bytes_eq name (codes "reconfigure") then reconfigure_call words
    else reading_call name words

-- the call of a line's words; None where they are malformed
abbrev pub words_call : List (List ℕ) → Option Call
words_call [] = None
words_call (name ∷ words) =
    if bytes_eq name (codes "seek") then seek_call words
    else if bytes_eq name (codes "write") then write_call words
    else if bytes_eq name (codes "writetext") then writetext_call words
    else if bytes_eq name (codes "writelines") then writelines_call words
    else other_call name words
