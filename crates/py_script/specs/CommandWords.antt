-- What the words of the command line ask for: this project's own.
use Rattle.std.specs.Prelude.{ℕ, List, [], ◌∷◌, Option, Some, None, option_map, codes, if◌then◌else◌}
use Rattle.std.specs.Str.{bytes_eq}
use Rattle.py_calls.specs.declared.open_args.OpenArgs.{OpenArgs}
use Rattle.py_script.specs.declared.command.Command.{Command as Seen}
use Rattle.py_script.specs.declared.command.Command.TheVariants as seen
use Rattle.py_script.specs.Options.{arguments_of}

-- what a command line asks for
pub data Command : Type 0 where
  -- an opening of a path in a mode by some arguments, and a script of calls; path and mode are any bytes
  Run : (path mode : List ℕ) → OpenArgs → Command
  -- how the program is used
  Help : Command
  -- which program this is, by name and version
  Version : Command

-- the command that the program's own one stands for
abbrev pub command_shown : Seen → Command
command_shown (seen.Run path mode args) = Run path.now mode.now args
command_shown seen.Help = Help
command_shown seen.Version = Version

-- the command of a word that stands alone: `--help`, `--version`
abbrev pub lone_command : List ℕ → Option Command
lone_command word =
    if bytes_eq word (codes "--help") then Some Help
    else if bytes_eq word (codes "--version") then Some Version
    else None

-- the command of the words after the program's own name; None where they are malformed
abbrev pub command_of : List (List ℕ) → Option Command
command_of (word ∷ []) = lone_command word
command_of (word ∷ path ∷ mode ∷ options) = if bytes_eq word (codes "run") then option_map (Run path mode) (arguments_of options) else None
command_of _ = None
