-- The numbers that the program ends with: this project's program, docs/PROGRAM.md.
use Rattle.std.specs.Prelude.{ℕ}
use Rattle.py_program.specs.declared.status.Status.{Status}
use Rattle.py_program.specs.declared.status.Status.TheVariants as status

abbrev pub code_of : Status → ℕ
code_of status.Done = 0
code_of status.WordsMalformed = 2
code_of status.ScriptMalformed = 3
code_of status.Refused = 4
code_of status.SourceFailed = 5
code_of status.SinkFailed = 6
code_of status.NoMemory = 7
code_of status.OpenerFailed = 8
