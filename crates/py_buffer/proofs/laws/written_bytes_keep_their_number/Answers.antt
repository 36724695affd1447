use Rattle.py_buffer.proofs.Written.{whole_over, front_keeps, owned_keep, written_stand}
use Rattle.py_buffer.proofs.laws.written_bytes_keep_their_number.Goals as goal

pub returns-clause-all : goal.returns-clause-all
returns-clause-all c = whole_over

pub returns-clause-front : goal.returns-clause-front
returns-clause-front c = front_keeps

pub returns-clause-owned : goal.returns-clause-owned
returns-clause-owned c = owned_keep

pub returns-clause-written : goal.returns-clause-written
returns-clause-written c = written_stand
