-- Names that are the same, and names as they are spelled.
use Rattle.std.proofs.Common.{◌≡◌, ℕ, Bool, true, false, ◌&&◌, nat_lt, List, [], ◌∷◌, ◌++◌, refl, sym, ap, ◌∙◌}
use Rattle.std.specs.Str.{IsAscii, chars}
use Rattle.std.proofs.lemmas.Bool.{ltb-true}
use Rattle.std.proofs.lemmas.List.{append_assoc}
use Rattle.std.proofs.lemmas.Str.{chars-IsAscii}
use Rattle.std.proofs.lemmas.Str.Ascii.{IsAscii-nil, IsAscii-cons}
use Rattle.py_plain.specs.declared.handler.Handler.{Handler}
use Rattle.py_plain.specs.declared.handler.Handler.TheVariants.{Strict, Ignore, Replace, XmlCharRefReplace, BackslashReplace, SurrogatePass, SurrogateEscape}
use Rattle.py_plain.specs.Names.{handler_name}
use Rattle.std.specs.Cmp.Lexicographic.{bytes_decides}
use Rattle.py_registry.specs.Names.{normal_character, normal_name, same_name, is_plain}

-- a name is the same as itself
pub same-self : (name : List ℕ) → same_name name name ≡ true
same-self name = (bytes_decides name name).1 refl

-- names that are the same are one
pub same-one : (one other : List ℕ) → same_name one other ≡ true → one ≡ other
same-one one other is = (bytes_decides one other).0 is

-- a name is not both of two that aren't the same
pub same-apart : (one other : List ℕ) → same_name one other ≡ false → (kept : List ℕ) → same_name kept one ≡ true → same_name kept other ≡ false
same-apart one other apart kept is = ap (λ (k : List ℕ). same_name k other) (same-one kept one is) ∙ apart

-- one character more is spelled
pub spelled-next : (c : ℕ) (made more left behind : List ℕ) → left ≡ c ∷ behind → more ≡ made ++ normal_character c ∷ [] → more ++ normal_name behind ≡ made ++ normal_name left
spelled-next c made more left behind left_is more_is =
    ap (λ (m : List ℕ). m ++ normal_name behind) more_is
    ∙ (append_assoc made (normal_character c ∷ []) (normal_name behind)
    ∙ ap (λ (s : List ℕ). made ++ s) (sym (ap normal_name left_is)))

plain_first : (byte : ℕ) (bytes : List ℕ) (b : Bool) → nat_lt byte 0x80 ≡ b → (b && is_plain bytes) ≡ true → (is_plain bytes ≡ true → IsAscii bytes) → IsAscii (byte ∷ bytes)
plain_first byte bytes true lt both behind = IsAscii-cons byte bytes (ltb-true byte 0x80 lt) (behind both)
plain_first byte bytes false lt both behind = absurd (cc)

plain_ascii : (bytes : List ℕ) → is_plain bytes ≡ true → IsAscii bytes
plain_ascii [] is = IsAscii-nil
plain_ascii (byte ∷ bytes) is = plain_first byte bytes (nat_lt byte 0x80) refl is (plain_ascii bytes)

-- the characters of ASCII are its bytes
pub plain-chars : (bytes : List ℕ) → is_plain bytes ≡ true → chars bytes ≡ bytes
plain-chars bytes is = chars-IsAscii bytes (plain_ascii bytes is)

-- the name of a handler is ASCII
pub handler-plain : (handler : Handler) → is_plain (handler_name handler) ≡ true
handler-plain Strict = refl
handler-plain Ignore = refl
handler-plain Replace = refl
handler-plain XmlCharRefReplace = refl
handler-plain BackslashReplace = refl
handler-plain SurrogatePass = refl
handler-plain SurrogateEscape = refl
