-- The messages of a mode that is refused.
use Rattle.std.specs.Prelude.{ℕ, List, ◌++◌, codes}
use Rattle.py_flat.specs.declared.mode_error.ModeError.{ModeError}
use Rattle.py_flat.specs.declared.mode_error.ModeError.TheVariants.{Invalid, BadRwa}
use Rattle.py_flat.specs.declared.mode_error.ParseModeError.{ParseModeError}
use Rattle.py_flat.specs.declared.mode_error.ParseModeError.TheVariants.{InvalidMode, MultipleFile, MultipleEncode, NoFile}

-- the bytes of the message of Python's `open`, with the mode's text where it is shown
abbrev pub message_of : ParseModeError → List ℕ → List ℕ
message_of InvalidMode mode = codes "invalid mode: '" ++ (mode ++ codes "'")
message_of MultipleFile mode = codes "must have exactly one of create/read/write/append mode"
message_of MultipleEncode mode = codes "can't have text and binary mode at once"
message_of NoFile mode = codes "Must have exactly one of create/read/write/append mode and at most one plus"

-- the bytes of the message of Python's raw files, with the mode's text where it is shown
abbrev pub raw_message_of : ModeError → List ℕ → List ℕ
raw_message_of Invalid mode = codes "invalid mode: " ++ mode
raw_message_of BadRwa mode = codes "Must have exactly one of create/read/write/append mode and at most one plus"
