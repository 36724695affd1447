-- The texts of bytes and of hex.
use Rattle.std.proofs.Common.{◌≡◌, ℕ, true, false, List, Some, None, chars, refl}
use Rattle.std.specs.Str.{IsUtf8, is_utf8}
use Rattle.std.proofs.lemmas.Str.{IsUtf8-from_is_utf8, is_utf8-from_IsUtf8}
use Rattle.hex.specs.Hex.{IsBytes, encode_lower}
use Rattle.hex.proofs.HexLemmas.{decode_of-encode_lower}
use Rattle.py_script.specs.Words.{text_of, hex_text}

-- bytes that are UTF-8 are a text
pub text_of_utf8 : (bytes : List ℕ) → IsUtf8 bytes → text_of bytes ≡ Some (chars bytes)
text_of_utf8 bytes utf8 = rw (is_utf8-from_IsUtf8 bytes utf8) refl

-- bytes that aren't UTF-8 are no text
pub text_of_other : (bytes : List ℕ) → ¬ (IsUtf8 bytes) → text_of bytes ≡ None
text_of_other bytes other = elim (is_utf8 bytes) as (λ b. is_utf8 bytes ≡ b → text_of bytes ≡ None) [
  | true ↦ λ is. absurd (other (IsUtf8-from_is_utf8 bytes is))
  | false ↦ λ is. rw is refl
] refl

-- the hex of bytes that are UTF-8 is read as their text
pub hex_text_of_utf8 : (bytes : List ℕ) → IsBytes bytes → IsUtf8 bytes → hex_text (encode_lower bytes) ≡ Some (chars bytes)
hex_text_of_utf8 bytes range utf8 = rw (decode_of-encode_lower bytes range) (text_of_utf8 bytes utf8)
