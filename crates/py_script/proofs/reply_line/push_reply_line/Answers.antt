use Rattle.py_script.proofs.ReplyLemmas.{same_from_line}
use Rattle.py_script.proofs.reply_line.push_reply_line.Goals as goal

pub returns-clause-tells : goal.returns-clause-tells
returns-clause-tells c = λ other range same. same_from_line other c.args.reply.now range c.read_reply.ensures same
