use Rattle.std.proofs.Common.{◌≡◌, Bool, true, List, ◌∷◌, ◌++◌, [], is_ok, if◌then◌else◌, ap, ◌∙◌, subst}
use Rattle.py_flat.specs.declared.fault.IoFault.{IoFault}
use Rattle.py_raw.specs.RawStream.{Raw}
use Rattle.py_raw.specs.Sink.{SinkView}
use Rattle.py_calls.specs.declared.call.Call.{Call}
use Rattle.py_calls.specs.declared.call.Call.TheVariants.{Close}
use Rattle.py_calls.specs.declared.reply.Reply.{Reply}
use Rattle.py_calls.specs.declared.plan.OpenPlan.{OpenPlan}
use Rattle.py_open.specs.Run.{RunsCalls}
use Rattle.py_script.specs.ReplyLine.{reply_lines}
use Rattle.py_program.specs.Outside.{PrintOutcome}
use Rattle.py_program.specs.Outcome.{closed_calls, asked_by}
use Rattle.py_program.proofs.OverRaw.{replies_printed, refused_printed}
use Rattle.py_program.proofs.program.run_raw.Goals as goal

-- the calls with a Close after them, which fitted
calls_closed : (calls pushed lent : List Call) (fits : Bool) → fits ≡ true → pushed ≡ (if fits then calls ++ Close ∷ [] else calls) → lent ≡ pushed → lent ≡ closed_calls calls
calls_closed calls pushed lent fits is made same = same ∙ made ∙ ap (λ (yes : Bool). if yes then calls ++ Close ∷ [] else calls) is

pub returns-in-Ok-clause-outcome : goal.returns-in-Ok-clause-outcome
returns-in-Ok-clause-outcome g c =
    let plan : OpenPlan = c.args.plan in
    let raw : Raw = g.R.RawStream.shows c.args.raw in
    let old : SinkView = g.K.Sink.shows c.args.out.now in
    let new : SinkView = g.K.Sink.shows c.print_replies.new.out in
    let session = c.in-Ok.field-0.session in
    let replies : List Reply = c.in-Ok.field-0.replies.items in
    let calls_are : c.deref.result.now ≡ closed_calls c.args.calls.items = calls_closed c.args.calls.items c.push.new.self.items c.deref.result.now (is_ok c.push.result) c.if-is_err.ensures.negation c.push.ensures.items c.deref.ensures.value in
    let planned : RunsCalls raw plan c.deref.result.now session replies = c.in-Ok.ensures.outcome in
    replies_printed raw (asked_by plan c.args.calls.items) session (g.R.RawStream.shows c.finish.result.raw) replies old new c.print_replies.result c.status_of-status.result
    (subst (λ (calls : List Call). RunsCalls raw plan calls session replies) calls_are planned) c.finish.ensures.raw
    (subst (λ (printed : List Reply). PrintOutcome old (reply_lines printed) c.print_replies.result new) c.deref-in-Ok.ensures.value c.print_replies.ensures.outcome) c.status_of-status.ensures

pub returns-clause-outcome : goal.returns-clause-outcome
returns-clause-outcome g c =
    let raw : Raw = g.R.RawStream.shows c.args.raw in
    let back : Raw = g.R.RawStream.shows c.in-Err.field-0.raw in
    let refused : IoFault = c.in-Err.field-0.fault in
    refused_printed raw back (asked_by c.args.plan c.args.calls.items) refused (g.K.Sink.shows c.args.out.now) (g.K.Sink.shows c.print_refused.new.out) c.print_refused.result c.status_of-status-in_default.result
    (c.an_opened_raw_suits_its_plan.ensures raw back c.args.plan refused c.requires.planned c.requires.opened c.in-Err.ensures.outcome) c.in_default.not-NoMemory c.print_refused.ensures.outcome c.status_of-status-in_default.ensures
