use Rattle.py_program.proofs.Printed.{fails_at_front}
use Rattle.py_program.proofs.printing.print_line.Goals as goal

pub returns-in-Err-clause-outcome : goal.returns-in-Err-clause-outcome
returns-in-Err-clause-outcome g c = (c.in-Err.ensures.outcome.cause, fails_at_front (g.K.Sink.shows c.args.out.now) (g.K.Sink.shows c.write.new.self) c.args.line.now c.in-Err.ensures.outcome)
