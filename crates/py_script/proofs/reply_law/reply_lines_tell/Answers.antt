use Rattle.py_script.proofs.ReplyLemmas.{same_from_line}
use Rattle.py_script.proofs.reply_law.reply_lines_tell.Goals as goal

pub returns : goal.returns
returns c = same_from_line c.args.first.now c.args.second.now c.read_reply.ensures c.read_reply-2.ensures
