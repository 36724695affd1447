-- `write_all` ends with the bytes, and what is gone of them was taken, by writes that took it one after the other.
use Rattle.std.proofs.Common.{◌≡◌, ℕ, List, ◌++◌, length}
use Rattle.std.specs.Io.KnownBytes.{Appends}
use Rattle.py_flat.specs.Lines.{joined}
use Rattle.py_adapters.specs.Known.{written_in}
use Rattle.py_adapters.specs.Answers.{InTurn, TakesPart}
use Rattle.py_adapters.proofs.std_stream.StdStreamWrite.write_all.Given as goal

abbrev pub invariant-loop-rest : goal.invariant-loop-rest
invariant-loop-rest g l = (done : List ℕ) × (l.initial.rest ≡ done ++ l.rest) × Appends (written_in (g.S.BufferedStream.shows l.initial.self)) (written_in (g.S.BufferedStream.shows l.self)) done × ((parts : List (List ℕ)) × (joined parts ≡ done) × InTurn (TakesPart g.S.BufferedStream.shows g.S.BufferedStream.own l.initial.rest) 0 l.initial.self parts l.self)

abbrev pub decreases-loop-rest : goal.decreases-loop-rest
decreases-loop-rest g l = length l.rest
