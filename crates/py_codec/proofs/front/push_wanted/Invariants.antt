use Rattle.std.proofs.Common.{◌-◌, ◌≤◌, length}
use Rattle.py_plain.specs.Handlers.{treatment}
use Rattle.py_codec.specs.Answers.{text_of}
use Rattle.py_codec.specs.Decoding.{walk_here}
use Rattle.py_codec.specs.Passing.{Passes}
use Rattle.py_codec.proofs.front.push_wanted.Given as goal

-- the items before the place were passed, in a step for each
abbrev pub invariant-loop-chars : goal.invariant-loop-chars
invariant-loop-chars g l = record {
  within : l.used ≤ length l.bytes;
  steps : l.fn.steps ≤ l.steps;
  passes : Passes (walk_here l.encoding (treatment l.handler l.encoding) l.last l.bytes 0) (walk_here l.encoding (treatment l.handler l.encoding) l.last l.bytes l.used) l.want (text_of l.fn.text) (text_of l.text) l.used l.chars (l.steps - l.fn.steps);
}

abbrev pub decreases-loop-chars : goal.decreases-loop-chars
decreases-loop-chars g l = length l.bytes - l.used
