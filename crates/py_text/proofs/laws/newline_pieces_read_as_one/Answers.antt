use Rattle.std.proofs.Common.{false}
use Rattle.py_text.specs.NewlinePieces.{fresh}
use Rattle.py_text.proofs.Joining.{texts-joined, holds-joined, holds-none, joined-whole, ends-fresh}
use Rattle.py_text.proofs.laws.newline_pieces_read_as_one.Goals as goal

pub returns-clause-so_far : goal.returns-clause-so_far
returns-clause-so_far c newline pieces = texts-joined (fresh newline) pieces

pub returns-clause-held : goal.returns-clause-held
returns-clause-held c newline pieces = holds-joined newline false pieces (holds-none newline)

pub returns-clause-whole : goal.returns-clause-whole
returns-clause-whole c newline pieces final = joined-whole newline pieces final

pub returns-clause-fresh : goal.returns-clause-fresh
returns-clause-fresh c newline pieces final = ends-fresh newline pieces final
