-- Texts and lists of characters, one character after the other.
use Rattle.std.proofs.Common.{◌≡◌, ℕ, ◌+◌, ◌<◌, List, [], ◌∷◌, ◌++◌, length, get_or, set, take, sym, ap, ◌∙◌, String, string_bytes}
use Rattle.std.specs.declared.alloc.Global.{Global}
use Rattle.std.specs.Char.{encode_utf8}
use Rattle.std.specs.Str.{encode_utf8_all}
use Rattle.std.proofs.lemmas.List.{take_more, take_more_set, append-nil}
use Rattle.std.proofs.lemmas.Str.{IsUtf8-string_bytes, chars_from_encodes, encodes-append, encodes-chars}
use Rattle.py_memio.specs.StringIO.{characters_of}

-- a text has one character more
pub characters-push : (before after : String Global) (c : ℕ) → string_bytes after ≡ string_bytes before ++ encode_utf8 c → characters_of after ≡ characters_of before ++ c ∷ []
characters-push before after c is =
    let both = encodes-append (characters_of before) (c ∷ []) in
    let old = encodes-chars (string_bytes before) (IsUtf8-string_bytes before) in
    let one = append-nil (encode_utf8 c) in
    let bytes : encode_utf8_all (characters_of before ++ c ∷ []) ≡ string_bytes after = both ∙ ap (λ t. t ++ encode_utf8_all (c ∷ [])) old ∙ ap (λ t. string_bytes before ++ t) one ∙ sym is in
    sym (chars_from_encodes (characters_of before ++ c ∷ []) (string_bytes after) (IsUtf8-string_bytes after) bytes)

-- a front of a list is one item longer
pub front_more : (cs : List ℕ) (at c : ℕ) → at < length cs → c ≡ get_or cs at c → take at cs ++ c ∷ [] ≡ take (at + 1) cs
front_more cs at c inside is = ap (λ d. take at cs ++ d ∷ []) is ∙ sym (take_more cs at c inside)

-- a list has the front of another, and then one item more of it
pub front_laid : (slots cs : List ℕ) (at c : ℕ) → at < length slots → at < length cs → c ≡ get_or cs at c → take at slots ≡ take at cs → take (at + 1) (set slots at c) ≡ take (at + 1) cs
front_laid slots cs at c room inside is same = take_more_set slots at c room ∙ ap (λ t. t ++ c ∷ []) same ∙ front_more cs at c inside is
