use Rattle.std.proofs.Common.{sym}
use Rattle.py_raw_memory.specs.MemRaw.{shown}
use Rattle.py_raw_memory.proofs.mem_opener.MemOpenerOpener.done.Goals as goal

pub returns-clause-keeps : goal.returns-clause-keeps
returns-clause-keeps c =
    c.take_back.ensures.keeps (shown c.args.raw) (sym c.fault_count-faults.ensures) (sym c.wait_count-waits.ensures)
