use Rattle.std.proofs.Common.{take}
use Rattle.py_raw.specs.Sink.{SinkKeeps, NoSinkFault}
use Rattle.py_script.specs.ReplyLine.{reply_lines}
use Rattle.py_program.specs.Outside.{Prints}
use Rattle.py_program.proofs.printing.print_replies.Given as goal

-- the lines of the replies so far are printed
abbrev pub invariant-loop-reply : goal.invariant-loop-reply
invariant-loop-reply g l = record {
  keeps : SinkKeeps (g.K.Sink.shows l.fn.out) (g.K.Sink.shows l.out);
  exact : NoSinkFault (g.K.Sink.shows l.fn.out) (g.K.Sink.shows l.out);
  printed : Prints (g.K.Sink.shows l.fn.out) (reply_lines (take l.reply-index l.replies)) (g.K.Sink.shows l.out);
}
