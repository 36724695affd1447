-- The lines of a script, and the calls that they make: this project's script language, docs/PROGRAM.md.
use Rattle.std.specs.Prelude.{ℕ, ◌==◌, Bool, true, List, [], ◌∷◌, Option, Some, if◌then◌else◌}
use Rattle.std.specs.List.{slice_split}
use Rattle.py_calls.specs.declared.call.Call.{Call}
use Rattle.py_script.specs.Words.{words_of, item_before}
use Rattle.py_script.specs.LineCall.{words_call}

-- the call of a line without its LF; None where the line is malformed
abbrev pub line_call : List ℕ → Option Call
line_call line = words_call (words_of line)

-- whether a line is skipped: it is empty, or begins with `#`
abbrev pub is_skipped : List ℕ → Bool
is_skipped [] = true
is_skipped (byte ∷ bytes) = byte == 35

-- the calls of lines, skipped ones apart; None where a line is malformed
abbrev pub lines_calls : List (List ℕ) → Option (List Call)
lines_calls [] = Some []
lines_calls (line ∷ lines) = if is_skipped line then lines_calls lines else item_before (line_call line) (lines_calls lines)

-- the calls of a script's bytes, whose lines end at LF (what stands after the last LF is a line too, skipped where it is empty); None where a line is malformed
abbrev pub script_calls : List ℕ → Option (List Call)
script_calls script = lines_calls (slice_split (λ byte. byte == 10) script)
