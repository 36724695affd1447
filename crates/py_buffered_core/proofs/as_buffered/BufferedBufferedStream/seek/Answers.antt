use Rattle.std.proofs.Common.{ℤ, refl, subst₂, to_z-of_z}
use Rattle.py_flat.specs.Calls.{Seek}
use Rattle.py_stream.specs.Answers.{Answers}
use Rattle.py_stream.specs.Replies.{place_reply}
use Rattle.py_buffered_core.specs.Buffered.{seen_of}
use Rattle.py_buffered_core.proofs.AsBuffered.{answers_so}
use Rattle.py_buffered_core.proofs.as_buffered.BufferedBufferedStream.seek.Goals as goal

pub returns-clause-own : goal.returns-clause-own
returns-clause-own g c = subst₂ (λ (offset : ℤ) (whence : ℤ). Answers (seen_of c.args.self.now) (Seek offset whence) (place_reply c.seek.result) (seen_of c.seek.new.self)) (to_z-of_z c.ranges.offset) (to_z-of_z c.ranges.whence) c.seek.ensures.answers

pub returns-clause-answers : goal.returns-clause-answers
returns-clause-answers g c = answers_so c.args.self.now c.seek.new.self (Seek c.args.offset c.args.whence) (place_reply c.seek.result) c.place.ensures.unwritten refl (returns-clause-own g c) c.seek.ensures.taken
