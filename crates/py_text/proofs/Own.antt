-- Texts whose characters all have bytes are written as these.
use Rattle.std.proofs.Common.{◌≡◌, ◌⊎◌, inl, inr, ℕ, Bool, true, false, ◌≤◌, ◌*◌, MatchBool, List, [], ◌∷◌, ◌++◌, length as len, chars, Option, Some, sym, ap, ◌∙◌, arith}
use Rattle.std.specs.Char.{encode_utf8}
use Rattle.std.specs.Str.{IsUtf8, IsAscii, encode_utf8_all}
use Rattle.std.proofs.lemmas.List.{length-append}
use Rattle.std.proofs.lemmas.Str.{encodes-chars, length-encode, len_utf8_bounds}
use Rattle.py_plain.specs.declared.encoding.Encoding.{Encoding}
use Rattle.py_plain.specs.declared.encoding.Encoding.TheVariants.{Utf8, Latin1, Ascii}
use Rattle.py_plain.specs.declared.handler.Handler.{Handler}
use Rattle.py_plain.specs.Escapes.{each_spelled}
use Rattle.py_plain.specs.Encode.{own_bytes, text_bytes}
use Rattle.py_plain.proofs.OwnText.{joined_bytes-parts}
use Rattle.py_blocks.proofs.OwnAscii.{own_utf8, own_in_latin1, own_in_ascii}
use Rattle.py_text.specs.EachWritten.{or_bytes, substitute_bytes, character_bytes}

-- each character's own bytes
pub own-each : (handler : Handler) (encoding : Encoding) (text bytes : List ℕ) → text_bytes encoding text ≡ Some bytes → each_spelled (character_bytes handler encoding) text ≡ bytes
own-each handler encoding [] bytes is = cc
own-each handler encoding (c ∷ text) bytes is =
    let parts = joined_bytes-parts (own_bytes encoding c) (text_bytes encoding text) bytes is in
    ap (λ (own : Option (List ℕ)). or_bytes own (substitute_bytes handler encoding c) ++ each_spelled (character_bytes handler encoding) text) parts.front_is
    ∙ (ap (λ (t : List ℕ). parts.front ++ t) (own-each handler encoding text parts.back parts.back_is)
    ∙ sym parts.whole)

pub utf8-stays : (handler : Handler) (text : List ℕ) → IsUtf8 text → each_spelled (character_bytes handler Utf8) (chars text) ≡ text
utf8-stays handler text utf8 = own-each handler Utf8 (chars text) text (own_utf8 text utf8)

pub latin1-stays : (handler : Handler) (text : List ℕ) → IsAscii text → each_spelled (character_bytes handler Latin1) (chars text) ≡ text
latin1-stays handler text ascii = own-each handler Latin1 (chars text) text (own_in_latin1 text ascii)

pub ascii-stays : (handler : Handler) (text : List ℕ) → IsAscii text → each_spelled (character_bytes handler Ascii) (chars text) ≡ text
ascii-stays handler text ascii = own-each handler Ascii (chars text) text (own_in_ascii text ascii)

-- a test that answered yes
pub match-true : (tested : Bool) (Yes No : Type 0) → MatchBool tested Yes No → tested ≡ true → Yes
match-true true Yes No cases is = cases
match-true false Yes No cases is = absurd (cc)

-- a text of ASCII, in both encodings of one byte
pub one-stays : (handler : Handler) (encoding : Encoding) (text : List ℕ) (tested : Bool) (No : Type 0) → (encoding ≡ Latin1) ⊎ (encoding ≡ Ascii) → MatchBool tested (IsAscii text) No → tested ≡ true → each_spelled (character_bytes handler encoding) (chars text) ≡ text
one-stays handler encoding text tested No (inl same) cases is =
    ap (λ (e : Encoding). each_spelled (character_bytes handler e) (chars text)) same ∙ latin1-stays handler text (match-true tested (IsAscii text) No cases is)
one-stays handler encoding text tested No (inr same) cases is =
    ap (λ (e : Encoding). each_spelled (character_bytes handler e) (chars text)) same ∙ ascii-stays handler text (match-true tested (IsAscii text) No cases is)

-- a text has no more than four bytes of UTF-8 for a character
encodes-few : (cs : List ℕ) → len (encode_utf8_all cs) ≤ 4 * len cs
encodes-few [] = omega arith
encodes-few (c ∷ cs) = omega (arith, length-append (encode_utf8 c) (encode_utf8_all cs), length-encode c, (len_utf8_bounds c).1, encodes-few cs)

pub bytes-few : (text : List ℕ) → IsUtf8 text → len text ≤ 4 * len (chars text)
bytes-few text utf8 = omega (arith, ap len (encodes-chars text utf8), encodes-few (chars text))
