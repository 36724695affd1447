-- The newline rule: what is read for CR LF, CR and LF, and where lines end (Python's documentation of `open`, `newline`).
use Rattle.std.specs.Prelude.{ℕ, Bool, false, ◌&&◌, ◌||◌, nat_eq, List, [], ◌∷◌, ◌++◌, if◌then◌else◌}
use Rattle.py_flat.specs.Lines.{LineEnd, Lf, Cr, CrLf, AnyEnd, lf, cr}
use Rattle.py_plain.specs.declared.newlines.Newlines.{Newlines}
use Rattle.py_plain.specs.declared.newlines.Newlines.TheVariants as rule

-- what ends a line that was read by a rule
abbrev pub line_end : Newlines → LineEnd
line_end rule.Universal = Lf
line_end rule.Passthrough = AnyEnd
line_end rule.Lf = Lf
line_end rule.Cr = Cr
line_end rule.Crlf = CrLf

-- an LF for a CR that was held
abbrev pub released : Bool → List ℕ
released held = if held then lf ∷ [] else []

-- what a character gives under the universal rule: a CR is held; an LF after a held CR is one with it
abbrev pub passes : Bool → ℕ → List ℕ
passes held c = if nat_eq c cr || (held && nat_eq c lf) then [] else c ∷ []

-- what the universal rule gives of some characters while more may come; `held` says that a CR is held before them.
-- The next character releases a held CR
abbrev pub universal : Bool → List ℕ → List ℕ
universal held [] = []
universal held (c ∷ cs) = released held ++ (passes held c ++ universal (nat_eq c cr) cs)

-- whether a CR is held after some characters
abbrev pub ends_held : Bool → List ℕ → Bool
ends_held held [] = held
ends_held held (c ∷ cs) = ends_held (nat_eq c cr) cs

-- what a rule gives of some characters while more may come; only the universal rule changes and holds any
abbrev pub read_so_far : Newlines → Bool → List ℕ → List ℕ
read_so_far rule.Universal held cs = universal held cs
read_so_far _ held cs = cs

abbrev pub holds_after : Newlines → Bool → List ℕ → Bool
holds_after rule.Universal held cs = ends_held held cs
holds_after _ held cs = false

-- what a rule gives of some characters after which nothing comes: the end, and a refusal, release a held CR
abbrev pub read_all : Newlines → Bool → List ℕ → List ℕ
read_all rule held cs = read_so_far rule held cs ++ released (holds_after rule held cs)

-- the newline rule, a rewriting of a whole list of characters
abbrev pub translated : Newlines → List ℕ → List ℕ
translated rule cs = read_all rule false cs

-- the newline rule over a list of characters; only where none come after them, as `last` says, is a held CR released
abbrev pub translated_to : (last : Bool) → Newlines → List ℕ → List ℕ
translated_to last rule cs = read_so_far rule false cs ++ released (last && holds_after rule false cs)
