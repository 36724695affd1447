-- What was appended to a string, in characters.
use Rattle.std.proofs.Common.{◌≡◌, ℕ, ◌+◌, ◌^◌, ◌<◌, ◌≤◌, List, [], ◌∷◌, ◌++◌, length, get_or, take, drop, sym, ap, ◌∙◌, arith, String, string_bytes}
use Rattle.std.specs.declared.alloc.Global.{Global}
use Rattle.std.specs.Char.{encode_utf8}
use Rattle.std.specs.Fmt.{is_char_start}
use Rattle.std.specs.List.{count_by}
use Rattle.std.specs.String.{string_len}
use Rattle.std.specs.Str.{chars, encode_utf8_all}
use Rattle.std.proofs.Math.Seq.{drop-append_seam}
use Rattle.std.proofs.lemmas.List.{take_more, append-nil, append_assoc, length-append}
use Rattle.std.proofs.lemmas.List.Sums.{count_by-le-length}
use Rattle.std.proofs.lemmas.Str.{IsUtf8-string_bytes, chars-append, chars_from_encodes, encodes-append, encodes-chars}
use Rattle.py_blocks.specs.Texts.{text_of}
use Rattle.py_blocks.proofs.Beginning.{count-chars, count-encodes}

-- some bytes after a string
pub text_of-push_str : (before after : String Global) (bytes : List ℕ) → string_bytes after ≡ string_bytes before ++ bytes → text_of after ≡ text_of before ++ chars bytes
text_of-push_str before after bytes is = ap chars is ∙ chars-append (string_bytes before) bytes (IsUtf8-string_bytes before)

-- a character after a string
pub text_of-push : (before after : String Global) (c : ℕ) → string_bytes after ≡ string_bytes before ++ encode_utf8 c → text_of after ≡ text_of before ++ c ∷ []
text_of-push before after c is =
    sym (chars_from_encodes (text_of before ++ c ∷ []) (string_bytes after) (IsUtf8-string_bytes after)
    (encodes-append (text_of before) (c ∷ [])
    ∙ ap (λ bytes. bytes ++ encode_utf8_all (c ∷ [])) (encodes-chars (string_bytes before) (IsUtf8-string_bytes before))
    ∙ ap (λ bytes. string_bytes before ++ bytes) (append-nil (encode_utf8 c))
    ∙ sym is))

len_is : (text : String Global) → string_len text ≡ length (string_bytes text)
len_is text = text.bytes.ok.0

-- the bytes of a string that has some characters after another's
bytes-behind : (before after : String Global) (cs : List ℕ) → text_of after ≡ text_of before ++ cs → string_bytes after ≡ string_bytes before ++ encode_utf8_all cs
bytes-behind before after cs is =
    sym (encodes-chars (string_bytes after) (IsUtf8-string_bytes after))
    ∙ (ap encode_utf8_all is
    ∙ (encodes-append (text_of before) cs
    ∙ ap (λ bytes. bytes ++ encode_utf8_all cs) (encodes-chars (string_bytes before) (IsUtf8-string_bytes before))))

-- it has no fewer of them
pub behind-within : (before after : String Global) (cs : List ℕ) → text_of after ≡ text_of before ++ cs → string_len before ≤ length (string_bytes after)
behind-within before after cs is = omega (arith, len_is before, ap (λ (bytes : List ℕ). length bytes) (bytes-behind before after cs is), length-append (string_bytes before) (encode_utf8_all cs))

-- as many of the bytes behind those of the other begin a character as there are characters
pub counted-behind : (before after : String Global) (cs : List ℕ) (from count : ℕ) → text_of after ≡ text_of before ++ cs → from ≡ string_len before → count ≡ count_by is_char_start (drop from (string_bytes after)) → length cs ≡ count
counted-behind before after cs from count is from_is count_is =
    let bytes : drop from (string_bytes after) ≡ encode_utf8_all cs =
    ap (λ n. drop n (string_bytes after)) (from_is ∙ len_is before)
    ∙ (ap (drop (length (string_bytes before))) (bytes-behind before after cs is)
    ∙ drop-append_seam (string_bytes before) (encode_utf8_all cs)) in
    sym (count_is ∙ (ap (count_by is_char_start) bytes ∙ count-encodes cs))

-- a string has no more characters than bytes, of which memory has no more than this
pub chars-fit : (text : String Global) → length (text_of text) < 2 ^ 63
chars-fit text =
    let bytes : List ℕ = string_bytes text in
    omega (arith, count-chars bytes (IsUtf8-string_bytes text), count_by-le-length is_char_start bytes, len_is text, text.bytes.ok.1, text.bytes.small)

-- one character more of a list
pub take-push : (cs before out after : List ℕ) (at c : ℕ) → at < length cs → c ≡ get_or cs at c → out ≡ before ++ take at cs → after ≡ out ++ c ∷ [] → after ≡ before ++ take (at + 1) cs
take-push cs before out after at c inside is so_far more =
    more ∙ ap (λ o. o ++ c ∷ []) so_far ∙ append_assoc before (take at cs) (c ∷ [])
    ∙ ap (λ t. before ++ t) (ap (λ d. take at cs ++ d ∷ []) is ∙ sym (take_more cs at c inside))
