use Rattle.py_blocks.proofs.Counted.{front-passed}
use Rattle.py_blocks.proofs.fronts.front_of.Goals as goal

pub returns-clause-count : goal.returns-clause-count
returns-clause-count c = (front-passed c.args.text.now c.as_bytes-bytes.result.now c.args.most c.pass_bytes.result c.utf8.text c.as_bytes-bytes.ensures.value c.pass_bytes.ensures.passed c.pass_bytes.ensures.ends).0

pub returns-clause-front : goal.returns-clause-front
returns-clause-front c = (front-passed c.args.text.now c.as_bytes-bytes.result.now c.args.most c.pass_bytes.result c.utf8.text c.as_bytes-bytes.ensures.value c.pass_bytes.ensures.passed c.pass_bytes.ensures.ends).1
