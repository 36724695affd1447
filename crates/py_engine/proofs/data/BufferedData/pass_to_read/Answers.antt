use Rattle.std.proofs.Common.{◌∙◌}
use Rattle.py_engine.proofs.Draining.{settles_by_aligning}
use Rattle.py_engine.proofs.data.BufferedData.pass_to_read.Goals as goal

pub returns-clause-outcome : goal.returns-clause-outcome
returns-clause-outcome g c = settles_by_aligning c.args.self.now c.pass_pending.new.self c.align.new.self c.align.result c.in_ok-pass_pending.ensures.outcome (c.pass_pending.ensures.access ∙ c.requires.update) c.align.ensures.outcome
