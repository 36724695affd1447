use Rattle.std.proofs.Common.{length, ◌-◌}
use Rattle.py_codec.specs.Answers.{text_of}
use Rattle.py_codec.specs.Treating.{treatment_by}
use Rattle.py_codec.proofs.Continuing.{Continues}
use Rattle.py_codec.proofs.decoding.decode.Given as goal

-- the text, and the decoding from the place on, are the whole decoding
abbrev pub invariant-loop-run : goal.invariant-loop-run
invariant-loop-run g l = Continues l.encoding (treatment_by g.H.ErrorHandler.decodes l.errors l.encoding l.bytes) l.last l.bytes l.place (text_of l.text)

abbrev pub decreases-loop-run : goal.decreases-loop-run
decreases-loop-run g l = length l.bytes - l.place
