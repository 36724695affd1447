use Rattle.std.proofs.Common.{◌∙◌}
use Rattle.py_flat.specs.Calls.{Tell}
use Rattle.py_stream.specs.Replies.{place_reply}
use Rattle.py_stream.specs.Answers.{Answers}
use Rattle.py_stream.specs.Buffer.{TellsPlace}
use Rattle.py_buffered.proofs.Seen.{holds_seen, holds_shown}
use Rattle.py_buffered.proofs.buffered_over.BufferedOverBufferedStream.tell.Goals as goal

pub returns-clause-place : goal.returns-clause-place
returns-clause-place g c = holds_shown g.K.BufferedKind.seen g.K.BufferedKind.stream g.K.BufferedKind.keeps_stream g.K.BufferedKind.taken g.K.BufferedKind.WRITES g.K.BufferedKind.keeps_taken (λ old new. TellsPlace old c.tell.result new) c.self.inside.inner c.tell.new.self c.args.self.now c.self.view_is c.self.invariant.2 (λ no. c.tell.ensures.taken ∙ c.self.invariant.2 no) c.tell.ensures.answers

pub returns-clause-own : goal.returns-clause-own
returns-clause-own g c = holds_seen g.K.BufferedKind.seen g.K.BufferedKind.stream g.K.BufferedKind.keeps_stream (λ old new. Answers old Tell (place_reply c.tell.result) new) c.self.inside.inner c.tell.new.self c.args.self.now c.self.view_is c.tell.ensures.own
