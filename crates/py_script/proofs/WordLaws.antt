-- Bytes and texts are written in scripts by the words that replies have for them.
use Rattle.std.proofs.Common.{◌≡◌, ℕ, true, false, ◌&&◌, eqb, pos, List, [], ◌∷◌, ◌++◌, map, codes, chars, Some, option_map, refl, ap, ◌∙◌}
use Rattle.std.specs.List.{All}
use Rattle.std.specs.Option.{option_and_then}
use Rattle.std.specs.Result.{result_ok}
use Rattle.std.specs.Str.{IsUtf8, bytes_eq}
use Rattle.std.proofs.lemmas.List.Elements.{All-head, All-tail}
use Rattle.hex.specs.Hex.{IsBytes, encode_with, encode_lower}
use Rattle.hex.proofs.HexLemmas.{decode_of-encode_lower}
use Rattle.py_calls.specs.declared.call.Call.TheVariants.{Write, WriteLines, WriteText, SeekText}
use Rattle.py_script.specs.Words.{spaced, text_of, hex_bytes, word_bytes, words_bytes}
use Rattle.py_script.specs.LineCall.{seektext_by, words_call}
use Rattle.py_script.specs.Script.{line_call}
use Rattle.py_script.specs.ReplyLine.{hex_of}
use Rattle.py_script.proofs.OptionLemmas.{text_of_utf8}
use Rattle.py_script.proofs.WordLemmas.{hex_word, hex_lines_words, words_apart}

-- two digits are no `-`
two_are_no_minus : (first second : ℕ) (rest : List ℕ) → bytes_eq (first ∷ second ∷ rest) (codes "-") ≡ false
two_are_no_minus first second rest = elim (eqb first 45) as (λ b. (b && false) ≡ false) [
  | true ↦ refl
  | false ↦ refl
]

-- a word of two bytes and more is read as hex
word_of_two : (first second : ℕ) (rest : List ℕ) → word_bytes (first ∷ second ∷ rest) ≡ hex_bytes (first ∷ second ∷ rest)
word_of_two first second rest = rw (two_are_no_minus first second rest) refl

word_of_hex : (byte : ℕ) (bytes : List ℕ) → word_bytes (encode_lower (byte ∷ bytes)) ≡ hex_bytes (encode_lower (byte ∷ bytes))
unfolding encode_with
word_of_hex byte bytes = word_of_two _ _ _

-- a reply's word for bytes is read as these bytes
word_of_bytes : (bytes : List ℕ) → IsBytes bytes → word_bytes (hex_of bytes) ≡ Some bytes
word_of_bytes [] range = refl
word_of_bytes (byte ∷ bytes) range = word_of_hex byte bytes ∙ ap result_ok (decode_of-encode_lower (byte ∷ bytes) range)

-- a reply's words for lines are read as these lines
words_of_lines : (lines : List (List ℕ)) → All IsBytes lines → words_bytes (map hex_of lines) ≡ Some lines
words_of_lines [] all = refl
words_of_lines (line ∷ lines) all =
    let first = word_of_bytes line (All-head IsBytes line lines all) in
    let more = words_of_lines lines (All-tail IsBytes line lines all) in
    rw (first, more) refl

-- `write` with a reply's word for bytes makes the call that writes these
pub write_line : (bytes : List ℕ) → IsBytes bytes → line_call (codes "write" ++ spaced (hex_of bytes ∷ [])) ≡ Some (Write bytes)
write_line bytes range =
    ap words_call (words_apart (codes "write") (hex_of bytes ∷ []) refl (hex_word bytes, tt))
    ∙ ap (option_map Write) (word_of_bytes bytes range)

pub seektext_line : (bytes : List ℕ) → IsBytes bytes → line_call (codes "seektext" ++ spaced (hex_of bytes ∷ [])) ≡ Some (SeekText bytes (pos 0))
seektext_line bytes range =
    ap words_call (words_apart (codes "seektext") (hex_of bytes ∷ []) refl (hex_word bytes, tt))
    ∙ ap (seektext_by (Some (pos 0))) (word_of_bytes bytes range)

pub writelines_line : (lines : List (List ℕ)) → All IsBytes lines → line_call (codes "writelines" ++ spaced (map hex_of lines)) ≡ Some (WriteLines lines)
writelines_line lines all =
    ap words_call (words_apart (codes "writelines") (map hex_of lines) refl (hex_lines_words lines))
    ∙ ap (option_map WriteLines) (words_of_lines lines all)

pub writetext_line : (bytes : List ℕ) → IsBytes bytes → IsUtf8 bytes → line_call (codes "writetext" ++ spaced (hex_of bytes ∷ [])) ≡ Some (WriteText (chars bytes))
writetext_line bytes range utf8 =
    ap words_call (words_apart (codes "writetext") (hex_of bytes ∷ []) refl (hex_word bytes, tt))
    ∙ ap (option_map WriteText) (ap (option_and_then text_of) (word_of_bytes bytes range) ∙ text_of_utf8 bytes utf8)
