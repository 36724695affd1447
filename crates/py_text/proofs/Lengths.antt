-- How many bytes a character comes to.
use Rattle.std.proofs.Common.{◌≡◌, ◌⊎◌, inl, inr, ℕ, suc, ◌+◌, ◌-◌, ◌/◌, ◌%◌, ◌<◌, ◌^◌, ◌≤◌, Bool, true, false, nat_lt, if◌then◌else◌, List, [], ◌∷◌, ◌++◌, length as len, decimal, Option, Some, None, is_some, refl, sym, ap, ◌∙◌, arith, append-nil}
use Rattle.std.proofs.lemmas.List.{length-append}
use Rattle.std.proofs.lemmas.Fmt.{decimal_digit, decimal_step}
use Rattle.py_plain.specs.declared.encoding.Encoding.{Encoding}
use Rattle.py_plain.specs.declared.encoding.Encoding.TheVariants.{Latin1, Ascii, Utf16Le, Utf16Be}
use Rattle.py_plain.specs.declared.handler.Handler.{Handler}
use Rattle.py_plain.specs.declared.handler.Handler.TheVariants.{Strict, Ignore, Replace, XmlCharRefReplace, BackslashReplace, SurrogatePass, SurrogateEscape}
use Rattle.py_plain.specs.Escapes.{character_reference, backslash_escape}
use Rattle.py_plain.specs.Encode.{unit_bytes, utf16_bytes, own_bytes, text_bytes}
use Rattle.py_plain.proofs.OwnText.{joined_bytes-parts}
use Rattle.py_codec.proofs.AlwaysWritten.{given}
use Rattle.py_text.proofs.EachWritten.{handled}
use Rattle.py_text.specs.EachWritten.{or_bytes, substitute, substitute_bytes, character_bytes}

-- Digits.

pub digits-one : (n : ℕ) → n < 10 → 1 ≡ len (decimal n)
digits-one n below = ap len (sym (decimal_digit n below))

pub digits-more : (n count : ℕ) → 10 ≤ n → n < 2 ^ 64 → count ≡ len (decimal (n / 10)) → count + 1 ≡ len (decimal n)
digits-more n count from below is =
    omega (arith, is, ap len (decimal_step n from below), length-append (decimal (n / 10)) ((48 + n % 10) ∷ []))

-- What a handler gives.

pub reference-long : (c digits : ℕ) → digits ≡ len (decimal c) → digits + 3 ≡ len (substitute XmlCharRefReplace c)
reference-long c digits is =
    omega (arith, is, ap len (append-nil (character_reference c)), length-append (decimal c) (0x3B ∷ []))

pub backslash-long : (c count : ℕ) → count ≡ len (backslash_escape c) → count ≡ len (substitute BackslashReplace c)
backslash-long c count is = is ∙ ap len (sym (append-nil (backslash_escape c)))

-- UTF-16.

unit-long : (big : Bool) (unit : ℕ) → len (unit_bytes big unit) ≡ 2
unit-long true unit = refl
unit-long false unit = refl

if-long : (one : Bool) (big : Bool) (c first second : ℕ) → len (if one then unit_bytes big c else unit_bytes big first ++ unit_bytes big second) ≡ (if one then 2 else 4)
if-long true big c first second = unit-long big c
if-long false big c first second = length-append (unit_bytes big first) (unit_bytes big second) ∙ omega (arith, unit-long big first, unit-long big second)

utf16-long : (big : Bool) (c : ℕ) → len (utf16_bytes big c) ≡ (if nat_lt c 0x10000 then 2 else 4)
utf16-long big c = if-long (nat_lt c 0x10000) big c (0xD800 + (c - 0x10000) / 0x400) (0xDC00 + (c - 0x10000) % 0x400)

pub both-long : (handler : Handler) (encoding : Encoding) (c : ℕ) → (encoding ≡ Utf16Le) ⊎ (encoding ≡ Utf16Be) → len (character_bytes handler encoding c) ≡ (if nat_lt c 0x10000 then 2 else 4)
both-long handler encoding c (inl is) = ap (λ (e : Encoding). len (character_bytes handler e c)) is ∙ utf16-long false c
both-long handler encoding c (inr is) = ap (λ (e : Encoding). len (character_bytes handler e c)) is ∙ utf16-long true c

-- One byte for a character.

single-own : (own : Option (List ℕ)) (c : ℕ) (below : Bool) → own ≡ (if below then Some (c ∷ []) else None) → is_some own ≡ true → own ≡ Some (c ∷ [])
single-own own c true is some = is
single-own own c false is some =
    let none : is_some own ≡ false = ap is_some is in
    absurd (cc)

pub one-own : (encoding : Encoding) (c : ℕ) → (encoding ≡ Latin1) ⊎ (encoding ≡ Ascii) → is_some (own_bytes encoding c) ≡ true → own_bytes encoding c ≡ Some (c ∷ [])
one-own encoding c (inl is) some = single-own (own_bytes encoding c) c (nat_lt c 0x100) (ap (λ (e : Encoding). own_bytes e c) is) some
one-own encoding c (inr is) some = single-own (own_bytes encoding c) c (nat_lt c 0x80) (ap (λ (e : Encoding). own_bytes e c) is) some

pub own-long : (handler : Handler) (encoding : Encoding) (c : ℕ) → (encoding ≡ Latin1) ⊎ (encoding ≡ Ascii) → true ≡ is_some (own_bytes encoding c) → 1 ≡ len (character_bytes handler encoding c)
own-long handler encoding c one some = ap (λ (own : Option (List ℕ)). len (or_bytes own (substitute_bytes handler encoding c))) (sym (one-own encoding c one (sym some)))

has : (own : Option (List ℕ)) (bytes : List ℕ) → own ≡ Some bytes → is_some own ≡ true
has None bytes is = absurd (cc)
has (Some own) bytes is = refl

-- a text that has bytes has as many as characters
text-long : (encoding : Encoding) (text bytes : List ℕ) → (encoding ≡ Latin1) ⊎ (encoding ≡ Ascii) → text_bytes encoding text ≡ Some bytes → len bytes ≡ len text
text-long encoding [] bytes one is =
    let none : [] ≡ bytes = cc in ap len (sym none)
text-long encoding (c ∷ text) bytes one is =
    let parts = joined_bytes-parts (own_bytes encoding c) (text_bytes encoding text) bytes is in
    let same : Some parts.front ≡ Some (c ∷ []) = sym parts.front_is ∙ one-own encoding c one (has (own_bytes encoding c) parts.front parts.front_is) in
    let front : parts.front ≡ c ∷ [] = cc in
    ap len parts.whole ∙ (ap (λ (t : List ℕ). len (t ++ parts.back)) front ∙ ap suc (text-long encoding text parts.back one parts.back_is))

-- what a handler gives has bytes in each encoding
given-bytes : (handler : Handler) (encoding : Encoding) (c : ℕ) → (bytes : List ℕ) × (text_bytes encoding (substitute handler c) ≡ Some bytes)
given-bytes Strict encoding c = ([], refl)
given-bytes Ignore encoding c = ([], refl)
given-bytes Replace encoding c =
    let made = given Replace refl encoding 0 (c ∷ []) 1 in
    (made.0, (handled (text_bytes encoding (substitute Replace c)) 1 made.0 1 made.1).0)
given-bytes XmlCharRefReplace encoding c =
    let made = given XmlCharRefReplace refl encoding 0 (c ∷ []) 1 in
    (made.0, (handled (text_bytes encoding (substitute XmlCharRefReplace c)) 1 made.0 1 made.1).0)
given-bytes BackslashReplace encoding c =
    let made = given BackslashReplace refl encoding 0 (c ∷ []) 1 in
    (made.0, (handled (text_bytes encoding (substitute BackslashReplace c)) 1 made.0 1 made.1).0)
given-bytes SurrogatePass encoding c = ([], refl)
given-bytes SurrogateEscape encoding c = ([], refl)

none-of : (own : Option (List ℕ)) → false ≡ is_some own → own ≡ None
none-of None none = refl
none-of (Some own) none = absurd (cc)

pub given-long : (handler : Handler) (encoding : Encoding) (c count : ℕ) → (encoding ≡ Latin1) ⊎ (encoding ≡ Ascii) → false ≡ is_some (own_bytes encoding c) → count ≡ len (substitute handler c) → count ≡ len (character_bytes handler encoding c)
given-long handler encoding c count one none is =
    let bytes = given-bytes handler encoding c in
    is
    ∙ (sym (text-long encoding (substitute handler c) bytes.0 one bytes.1)
    ∙ (ap (λ (own : Option (List ℕ)). len (or_bytes own [])) (sym bytes.1)
    ∙ ap (λ (own : Option (List ℕ)). len (or_bytes own (substitute_bytes handler encoding c))) (sym (none-of (own_bytes encoding c) none))))
