-- The options of the command line, words such as `newline=0a`: this project's own.
use Rattle.std.specs.Prelude.{ℕ, ◌==◌, nat_lt, negsuc, Bool, List, [], ◌∷◌, length, chars, Option, Some, None, is_none, option_map, option_and_then, unwrap_or, codes, if◌then◌else◌}
use Rattle.std.specs.List.{position_or_len, before_first, after_first}
use Rattle.std.specs.Str.{bytes_eq}
use Rattle.py_calls.specs.declared.open_args.OpenArgs.{OpenArgs}
use Rattle.py_script.specs.declared.options.WordOption.{WordOption}
use Rattle.py_script.specs.declared.options.WordOption.TheVariants.{Buffering, Encoding, Errors, Newline, ChunkSize}
use Rattle.py_script.specs.declared.options.Given.{Given}
use Rattle.py_script.specs.Words.{decimal_value, integer_value, hex_text}

-- the option of a name and its value; None where there is no such name, or the value is malformed
abbrev pub named_option : List ℕ → List ℕ → Option WordOption
named_option name value =
    if bytes_eq name (codes "buffering") then option_map Buffering (integer_value value)
    else if bytes_eq name (codes "encoding") then Some (Encoding (chars value))
    else if bytes_eq name (codes "errors") then Some (Errors (chars value))
    else if bytes_eq name (codes "newline") then option_map Newline (hex_text value)
    else if bytes_eq name (codes "chunk") then option_map ChunkSize (decimal_value value)
    else None

-- whether a byte is `=`
abbrev pub is_equals : ℕ → Bool
is_equals byte = byte == 61

-- the option of a word: its name is what stands before the first `=`, its value what stands after; None where it has no `=`
abbrev pub option_of : List ℕ → Option WordOption
option_of word =
    if nat_lt (position_or_len is_equals word) (length word) then named_option (before_first is_equals word) (after_first is_equals word)
    else None

-- no option
abbrev pub nothing_given : Given
nothing_given = record { buffering = None; encoding = None; errors = None; newline = None; chunk_size = None }

-- the options with one more; None where it was given before
abbrev pub given_with : Given → WordOption → Option Given
given_with given (Buffering size) = if is_none given.buffering then Some (record given { buffering = Some size }) else None
given_with given (Encoding name) = if is_none given.encoding then Some (record given { encoding = Some name }) else None
given_with given (Errors name) = if is_none given.errors then Some (record given { errors = Some name }) else None
given_with given (Newline text) = if is_none given.newline then Some (record given { newline = Some text }) else None
given_with given (ChunkSize size) = if is_none given.chunk_size then Some (record given { chunk_size = Some size }) else None

-- the options with that of a word; None where it is no option, or was given before
abbrev pub given_with_word : Given → List ℕ → Option Given
given_with_word given word = option_and_then (given_with given) (option_of word)

-- the options with those of some words, in any order; None where one is no option, or is given twice
abbrev pub given_with_words : Given → List (List ℕ) → Option Given
given_with_words given [] = Some given
given_with_words given (word ∷ words) = option_and_then (λ next. given_with_words next words) (given_with_word given word)

-- the arguments of an opening by some options: where one isn't given, a buffer of the default size, no names, no newline argument, chunks of 8192 bytes
abbrev pub arguments_by : Given → OpenArgs
arguments_by given = record {
  buffering = unwrap_or given.buffering (negsuc 0);
  encoding = given.encoding;
  errors = given.errors;
  newline = given.newline;
  chunk_size = unwrap_or given.chunk_size 8192;
}

-- the arguments of an opening by the words of its options; None where these are malformed
abbrev pub arguments_of : List (List ℕ) → Option OpenArgs
arguments_of words = option_map arguments_by (given_with_words nothing_given words)

-- the name of an option's word: what stands before its first `=`
abbrev pub name_of : List ℕ → List ℕ
name_of word = before_first is_equals word
