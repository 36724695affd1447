-- What a text of UTF-8 or ASCII is written as in the encodings whose first characters are those of ASCII.
use Rattle.std.proofs.Common.{◌≡◌, ℕ, zero, suc, ◌+◌, ◌-◌, ◌<◌, ◌≤◌, true, nat_lt, List, [], ◌∷◌, ◌++◌, take, drop, length, get_or, Some, None, refl, ap, subst, sym, ◌∙◌, arith}
use Rattle.std.specs.List.{All}
use Rattle.std.specs.Char.{IsScalar}
use Rattle.std.specs.Str.{IsAscii, IsUtf8, encode_utf8_all, chars}
use Rattle.std.proofs.Math.Utf8.{scalars}
use Rattle.std.proofs.Math.Seq.{take-add}
use Rattle.std.proofs.lemmas.Bool.{and_parts, cond-true, lt-ltb}
use Rattle.std.proofs.lemmas.List.{take_more}
use Rattle.std.proofs.lemmas.List.Elements.{All-nil, All-cons}
use Rattle.std.proofs.lemmas.Str.{encodes-chars, scalars-chars, chars-IsAscii, IsAscii-append}
use Rattle.py_plain.specs.declared.encoding.Encoding.{Encoding}
use Rattle.py_plain.specs.declared.encoding.Encoding.TheVariants.{Utf8, Latin1, Ascii}
use Rattle.py_plain.specs.Encode.{own_bytes, joined_bytes, text_bytes}

-- each character of a text
pub All-scalars : (cs : List ℕ) → scalars cs ≡ true → All IsScalar cs
All-scalars [] is = All-nil IsScalar
All-scalars (c ∷ cs) is =
    let parts = and_parts _ (scalars cs) is in
    All-cons IsScalar c cs parts.0 (All-scalars cs parts.1)

-- a text in UTF-8
pub text_bytes-utf8 : (cs : List ℕ) → text_bytes Utf8 cs ≡ Some (encode_utf8_all cs)
text_bytes-utf8 [] = refl
text_bytes-utf8 (c ∷ cs) = ap (λ bytes. joined_bytes (own_bytes Utf8 c) bytes) (text_bytes-utf8 cs)

-- bytes of UTF-8 are what their characters are written as
pub own_utf8 : (bytes : List ℕ) → IsUtf8 bytes → text_bytes Utf8 (chars bytes) ≡ Some bytes
own_utf8 bytes utf8 = text_bytes-utf8 (chars bytes) ∙ ap (λ (b : List ℕ). Some b) (encodes-chars bytes utf8)

pub scalars_utf8 : (bytes : List ℕ) → IsUtf8 bytes → All IsScalar (chars bytes)
scalars_utf8 bytes utf8 = All-scalars (chars bytes) (scalars-chars bytes utf8)

-- each of some bytes of ASCII is what the character of its number is written as
text_bytes-each : (encoding : Encoding) (bytes : List ℕ) → ((c : ℕ) → c < 128 → own_bytes encoding c ≡ Some (c ∷ [])) → IsAscii bytes → text_bytes encoding bytes ≡ Some bytes
text_bytes-each encoding [] own ascii = refl
text_bytes-each encoding (c ∷ cs) own ascii =
    ap (λ bytes. joined_bytes bytes (text_bytes encoding cs)) (own c (ascii 0)) ∙ ap (λ bytes. joined_bytes (Some (c ∷ [])) bytes) (text_bytes-each encoding cs own (λ i. ascii (suc i)))

own_latin1 : (c : ℕ) → c < 128 → own_bytes Latin1 c ≡ Some (c ∷ [])
own_latin1 c below = cond-true (nat_lt c 0x100) (Some (c ∷ [])) None (lt-ltb c 0x100 (omega arith))

own_ascii : (c : ℕ) → c < 128 → own_bytes Ascii c ≡ Some (c ∷ [])
own_ascii c below = cond-true (nat_lt c 0x80) (Some (c ∷ [])) None (lt-ltb c 0x80 below)

-- bytes of ASCII are what their characters are written as, in both encodings of one byte
pub own_in_latin1 : (bytes : List ℕ) → IsAscii bytes → text_bytes Latin1 (chars bytes) ≡ Some bytes
own_in_latin1 bytes ascii = ap (text_bytes Latin1) (chars-IsAscii bytes ascii) ∙ text_bytes-each Latin1 bytes own_latin1 ascii

pub own_in_ascii : (bytes : List ℕ) → IsAscii bytes → text_bytes Ascii (chars bytes) ≡ Some bytes
own_in_ascii bytes ascii = ap (text_bytes Ascii) (chars-IsAscii bytes ascii) ∙ text_bytes-each Ascii bytes own_ascii ascii

-- a front of ASCII and more of it
pub IsAscii-further : (front to : ℕ) (bytes : List ℕ) → front ≤ to → IsAscii (take front bytes) → IsAscii (take (to - front) (drop front bytes)) → IsAscii (take to bytes)
IsAscii-further front to bytes le before more =
    let all : take to bytes ≡ take front bytes ++ take (to - front) (drop front bytes) = ap (λ n. take n bytes) (let e : to ≡ front + (to - front) = omega arith in e) ∙ take-add front (to - front) bytes in
    subst IsAscii (sym all) (IsAscii-append (take front bytes) (take (to - front) (drop front bytes)) before more)

-- a byte of ASCII by itself
IsAscii-alone : (byte : ℕ) → byte < 128 → IsAscii (byte ∷ [])
IsAscii-alone byte below zero = below
IsAscii-alone byte below (suc i) = omega arith

-- a front of ASCII and one byte more of it
pub IsAscii-next : (front : ℕ) (bytes : List ℕ) → front < length bytes → IsAscii (take front bytes) → get_or bytes front 0 < 128 → IsAscii (take (front + 1) bytes)
IsAscii-next front bytes inside before below = subst IsAscii (sym (take_more bytes front 0 inside)) (IsAscii-append (take front bytes) (get_or bytes front 0 ∷ []) before (IsAscii-alone (get_or bytes front 0) below))
