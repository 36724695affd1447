-- What the program's escapes spell, in the words of the definitions.
use Rattle.std.specs.Prelude.{ℕ, List, [], ◌∷◌}
use Rattle.py_plain.specs.Escapes.{backslash_escape, character_reference, surrogate_escape}
use Rattle.py_plain.specs.declared.escapes.Escape.{Escape}
use Rattle.py_plain.specs.declared.escapes.Escape.TheVariants.{QuestionMark, Reference, Backslash, Surrogate}

abbrev pub spelled_by : Escape → ℕ → List ℕ
spelled_by QuestionMark value = 0x3F ∷ []
spelled_by Reference value = character_reference value
spelled_by Backslash value = backslash_escape value
spelled_by Surrogate value = surrogate_escape value
