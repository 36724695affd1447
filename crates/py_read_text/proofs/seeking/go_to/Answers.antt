use Rattle.std.proofs.Common.{Ok, Err}
use Rattle.py_read_text.proofs.Going.{go_unflushed, gone}
use Rattle.py_read_text.proofs.seeking.go_to.Goals as goal

pub returns-in-Ok-seek : goal.returns-in-Ok-seek
returns-in-Ok-seek g c = record { outcome = gone _ _ _ c.args.place (Ok c.in-Ok-seek.field-0) c.requires.can c.requires.near c.in-Ok.ensures.buffer c.in-Ok-seek.ensures.buffer }

pub returns-in-Err-seek : goal.returns-in-Err-seek
returns-in-Err-seek g c = record { outcome = gone _ _ _ c.args.place (Err c.in-Err-seek.fault) c.requires.can c.requires.near c.in-Ok.ensures.buffer c.in-Err-seek.ensures.buffer }

pub returns-in-Err : goal.returns-in-Err
returns-in-Err g c = record { outcome = go_unflushed _ _ c.args.place c.in-Err.fault c.requires.can c.in-Err.ensures.buffer }
