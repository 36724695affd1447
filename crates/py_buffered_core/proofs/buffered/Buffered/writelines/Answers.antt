use Rattle.py_buffered_core.specs.Buffered.{seen_of}
use Rattle.py_buffered_core.proofs.AsBuffered.{writelines_takes}
use Rattle.py_buffered_core.proofs.buffered.Buffered.writelines.Goals as goal

pub count_from-requires : goal.count_from-requires
count_from-requires g c = rw c.place-start.ensures.place (writelines_takes (seen_of c.args.self.now) (seen_of c.put_lines-answer.new.self) c.buffer_size.result c.args.lines.now c.put_lines-answer.result c.buffer_size.ensures c.put_lines-answer.ensures).forth

pub returns-clause-taken : goal.returns-clause-taken
returns-clause-taken g c =
    rw (c.count_from.ensures, c.place-start.ensures.place) (writelines_takes (seen_of c.args.self.now) (seen_of c.put_lines-answer.new.self) c.buffer_size.result c.args.lines.now c.put_lines-answer.result c.buffer_size.ensures c.put_lines-answer.ensures).taken
