use Rattle.std.proofs.Common.{List, ℕ, take, subst, sym, arith}
use Rattle.std.proofs.lemmas.Result.{err_from_is_err_and}
use Rattle.py_calls.specs.declared.reply.Reply.{Reply}
use Rattle.py_raw.specs.Sink.{SinkView}
use Rattle.py_script.specs.ReplyLine.{reply_line, reply_lines}
use Rattle.py_program.specs.Outside.{Prints}
use Rattle.py_program.proofs.Printed.{prints_more, stops_behind, sink_keeps_more, no_fault_more, lines_more, lines_front}
use Rattle.py_program.proofs.printing.print_replies.Goals as goal

pub returns-in_err-print_reply-clause-outcome : goal.returns-in_err-print_reply-clause-outcome
returns-in_err-print_reply-clause-outcome g c =
    let replies : List Reply = c.args.replies.now in
    let at : ℕ = c.loop-reply.reply-index in
    let reply : Reply = c.reply-item.result in
    let left = err_from_is_err_and c.from_residual.result c.from_residual.ensures.1 in
    rw (left.1, left.2) (stops_behind (g.K.Sink.shows c.args.out.now) (g.K.Sink.shows c.loop-reply.out) (g.K.Sink.shows c.print_reply.new.out) (reply_lines (take at replies)) (reply_line reply) (reply_lines replies) c.in_err-print_reply.field-0.0
    c.loop-reply.invariant.keeps c.loop-reply.invariant.printed (lines_front replies at reply (omega arith) c.reply-item.is) c.in_err-print_reply.ensures.outcome)

pub loop-reply-preserved : goal.loop-reply-preserved
loop-reply-preserved g c =
    let old : SinkView = g.K.Sink.shows c.args.out.now in
    let mid : SinkView = g.K.Sink.shows c.loop-reply.out in
    let new : SinkView = g.K.Sink.shows c.print_reply.new.out in
    let replies : List Reply = c.args.replies.now in
    let at : ℕ = c.loop-reply.reply-index in
    let reply : Reply = c.reply-item.result in
    record {
      keeps = sink_keeps_more old mid new c.loop-reply.invariant.keeps c.in_ok-print_reply.ensures.keeps;
      exact = no_fault_more old mid new c.loop-reply.invariant.keeps c.loop-reply.invariant.exact (c.in_ok-print_reply.ensures.exact (λ failed. absurd (cc)));
      printed = subst (λ (lines : List ℕ). Prints old lines new) (sym (lines_more replies at reply (omega arith) c.reply-item.is)) (prints_more old mid new (reply_lines (take at replies)) (reply_line reply) c.loop-reply.invariant.keeps c.loop-reply.invariant.printed c.in_ok-print_reply.ensures.outcome);
    }
