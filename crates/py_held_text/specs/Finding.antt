-- How much of what is known a call is answered with.
use Rattle.std.specs.Prelude.{◌≡◌, ℕ, nat_le, List, [], ◌∷◌, ◌++◌, length, take, Option, Some, None, Result, Ok, Err, String, if◌then◌else◌}
use Rattle.std.specs.declared.alloc.Global.{Global}
use Rattle.py_flat.specs.declared.fault.IoFault.{IoFault}
use Rattle.py_flat.specs.declared.fault.IoFault.TheVariants.{NoMemory}
use Rattle.py_flat.specs.Bytes.{first_of}
use Rattle.py_flat.specs.Lines.{LineEnd, lf, first_line, is_ended}
use Rattle.py_plain.specs.declared.newlines.Newlines.{Newlines}
use Rattle.py_plain.specs.NewlineRule.{line_end}
use Rattle.py_codec.specs.Answers.{text_of}
use Rattle.py_held_text.specs.declared.wanted.Wanted.{Wanted}
use Rattle.py_held_text.specs.declared.wanted.Wanted.TheVariants.{Characters, Line}
use Rattle.py_blocks.specs.declared.fronts.TextFront.{TextFront}
pub use Rattle.py_blocks.specs.Fronts.{IsFrontOf}
use Rattle.py_held_text.specs.Held.{HeldView, given_on}

-- the answer of a call where some characters are all that is left
abbrev pub answer_of : Wanted → Newlines → List ℕ → List ℕ
answer_of (Characters size) newline cs = first_of size cs
answer_of (Line limit) newline cs = first_line (line_end newline) limit cs

-- the length of the first line where it is so whatever comes behind some characters: of the line that it would be, were an LF to come,
-- where that has no more than those characters
abbrev pub line_in_hand : LineEnd → Option ℕ → List ℕ → Option ℕ
line_in_hand end limit cs =
    let size = length (first_line end limit (cs ++ lf ∷ [])) in
    if nat_le size (length cs) then Some size else None

-- n, where there are n
abbrev pub size_in_hand : Option ℕ → List ℕ → Option ℕ
size_in_hand None cs = None
size_in_hand (Some size) cs = if nat_le size (length cs) then Some size else None

-- how many of some characters are the whole answer, whatever comes behind them
abbrev pub enough : Wanted → Newlines → List ℕ → Option ℕ
enough (Characters size) newline cs = size_in_hand size cs
enough (Line limit) newline cs = line_in_hand (line_end newline) limit cs

-- how many of some characters are the whole answer where a refused range comes right behind them: none where the answer would pass it
abbrev pub enough_before : Wanted → Newlines → List ℕ → Option ℕ
enough_before (Characters size) newline cs = size_in_hand size cs
enough_before (Line limit) newline cs = if is_ended (line_end newline) limit cs then Some (length (first_line (line_end newline) limit cs)) else None

-- a front was given, and is known no more, and nothing else changed but the base, with what stands before it, and the room; running
-- out of memory leaves all as it was
abbrev pub GiveOutcome : TextFront → HeldView → Result (String Global) IoFault → HeldView → Type 0
GiveOutcome front old (Ok text) new = (text_of text ≡ take front.chars old.known) × (new ≡ record (given_on front.chars old) { room = new.room })
GiveOutcome front old (Err why) new = (why ≡ NoMemory) × (new ≡ old)
