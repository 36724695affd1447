-- Names, as the characters of their texts, and what is kept under names.
use Rattle.std.specs.Prelude.{ℕ, Bool, true, ◌&&◌, nat_eq, nat_lt, List, [], ◌∷◌, map, Option, String, string_bytes, chars, if◌then◌else◌}
use Rattle.std.specs.Char.{to_ascii_lowercase}
use Rattle.std.specs.Cmp.Lexicographic.{pointwise}
use Rattle.std.specs.Map.{lookup, remove_entry}
use Rattle.std.specs.declared.alloc.Global.{Global}
use Rattle.indexmap.specs.IndexMap.{insert_entry}

-- a space becomes a dash and a capital letter of ASCII its small one (Python's documentation of `codecs`, "register")
abbrev pub normal_character : ℕ → ℕ
normal_character character = if nat_eq character 0x20 then 0x2D else to_ascii_lowercase character

-- the name of an encoding as it is looked for
abbrev pub normal_name : List ℕ → List ℕ
normal_name name = map normal_character name

-- two names are the same
abbrev pub same_name : List ℕ → List ℕ → Bool
same_name one other = pointwise nat_eq one other

-- the bytes of a text are those of ASCII, so that they are its characters too
abbrev pub is_plain : List ℕ → Bool
is_plain [] = true
is_plain (byte ∷ bytes) = nat_lt byte 0x80 && is_plain bytes

-- values under names
abbrev pub Named : Type 0 → Type 0
Named V = List (List ℕ × V)

-- the entries of a map by texts, whose names are the characters of these
abbrev pub named : {V : Type 0} → List (String Global × V) → Named V
named entries = map (λ entry. (chars (string_bytes entry.0), entry.1)) entries

-- what a name stands for
abbrev pub value_of : {V : Type 0} → List ℕ → Named V → Option V
value_of name entries = lookup (λ kept. same_name kept name) entries

-- a name stands for a value, which replaces the one that it stood for
abbrev pub with_value : {V : Type 0} → List ℕ → V → Named V → Named V
with_value name value entries = insert_entry (λ name kept. same_name kept name) entries name value

-- a name stands for nothing
abbrev pub without_name : {V : Type 0} → List ℕ → Named V → Named V
without_name name entries = remove_entry (λ kept. same_name kept name) entries
