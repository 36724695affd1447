use Rattle.std.proofs.lemmas.Str.{IsUtf8-from_ascii}
use Rattle.py_blocks.proofs.Running.{front_run, one_byte}
use Rattle.py_blocks.proofs.runs.push_ascii_run.Goals as goal

pub push_front-requires-clause-utf8 : goal.push_front-requires-clause-utf8
push_front-requires-clause-utf8 c = IsUtf8-from_ascii _ c.ascii_front.ensures.ascii

pub returns : goal.returns
returns c = front_run c.args.encoding c.args.bytes.now _ _ c.ascii_front.result _ c.ascii_front.ensures.within (IsUtf8-from_ascii _ c.ascii_front.ensures.ascii) (one_byte c.args.encoding _ c.requires c.ascii_front.ensures.ascii) c.push_front.ensures.used c.push_front.ensures.appended
