use Rattle.std.proofs.Common.{refl}
use Rattle.std.specs.Fmt.{digits}
use Rattle.py_plain_text.proofs.examples.runs_are_refused_by_their_places_in_the_text.Goals as goal

-- src/examples.rt:89:1
pub returns-clause-referred : goal.returns-clause-referred
unfolding digits
returns-clause-referred c = refl
