-- What holds of the steps of a text, whatever raw is below.
use Rattle.std.specs.Prelude.{◌≡◌, ℕ, Bool, true, false, List, ◌++◌}
use Rattle.py_plain_text.specs.Rest.{text_rest}
use Rattle.py_plain_text.specs.TextFile.{TextFile}
use Rattle.py_plain_text.specs.TextCalls.{TextFileCall, WriteText, SeekText}

-- what was left of a text is the characters that were answered and what is left now, up to the same refused range
pub record LosesNothing (before : TextFile) (answer : List ℕ) (after : TextFile) : Type 0 where
  pub characters : (text_rest before).characters ≡ answer ++ (text_rest after).characters
  pub refusal : (text_rest after).refusal ≡ (text_rest before).refusal

-- calls that a refusal may leave elsewhere: a write that had to wait took its text, and a seek may stand where it began to read
abbrev pub moves_on : TextFileCall → Bool
moves_on (WriteText text) = true
moves_on (SeekText cookie whence) = true
moves_on call = false
