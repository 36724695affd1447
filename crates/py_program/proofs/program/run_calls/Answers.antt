use Rattle.std.proofs.Common.{◌≡◌, ◌≢◌, ℕ, inl, inr, List, Err, refl, subst, rules, arith}
use Rattle.std.proofs.lemmas.Grind.{common_steps}
use Rattle.py_flat.specs.declared.fault.IoFault.TheVariants as fault
use Rattle.py_raw.specs.RawStream.{Raw}
use Rattle.py_raw.specs.Opener.{OpenerView, Opens, OpenFaults, OpenLacksMemory, OpenOutcome}
use Rattle.py_raw.specs.declared.opener.OpenError.{OpenError}
use Rattle.py_open.specs.Paths.{raw_mode}
use Rattle.py_program.specs.Outcome.{asked_by}
use Rattle.py_program.proofs.Planned.{plan_refused}
use Rattle.py_program.proofs.Opened.{ended_outcome}
use Rattle.py_program.proofs.program.run_calls.Goals as goal

pub returns-in-Err : goal.returns-in-Err
returns-in-Err g c =
    let refused : c.in-Err.fault ≢ fault.NoMemory = first_of (search rules, grind (arith, common_steps)) in
    record {
      sink = c.print_refused.ensures.keeps;
      outcome = inr (plan_refused c.args.path.now c.args.mode.now c.args.args c.args.calls.items c.in-Err.fault (g.O.Opener.shows c.args.opener.now) (g.K.Sink.shows c.args.out.now) (g.K.Sink.shows c.print_refused.new.out) c.print_refused.result c.status_of.result
          (c.in-Err.ensures.refused refused) c.print_refused.ensures.outcome c.status_of.ensures);
      exact = first_of (search rules, grind (arith, common_steps));
      opener = first_of (search rules, grind (arith, common_steps));
    }

pub run_raw-status-requires-clause-opened : goal.run_raw-status-requires-clause-opened
run_raw-status-requires-clause-opened g c =
    (subst (λ (text : List ℕ). Opens (g.O.Opener.shows c.args.opener.now) c.args.path.now text (g.O.Raw.RawStream.shows c.in-Ok-open_raw.raw) (g.O.Opener.shows c.open_raw.new.self)) c.rawmode.ensures.text c.in-Ok-open_raw.ensures.outcome).opened

pub run_raw-status-requires-clause-start : goal.run_raw-status-requires-clause-start
run_raw-status-requires-clause-start g c = c.in-Ok-open_raw.ensures.outcome.opened.start

pub returns-in-Ok-open_raw-clause-outcome : goal.returns-in-Ok-open_raw-clause-outcome
returns-in-Ok-open_raw-clause-outcome g c =
    let accepted = c.in-Ok.ensures.planned in
    let text_is : c.rawmode.result.now ≡ raw_mode c.in-Ok.plan = c.rawmode.ensures.text in
    let raw : Raw = g.O.Raw.RawStream.shows c.in-Ok-open_raw.raw in
    let old : OpenerView = g.O.Opener.shows c.args.opener.now in
    let mid : OpenerView = g.O.Opener.shows c.open_raw.new.self in
    let opens : Opens old c.args.path.now (raw_mode c.in-Ok.plan) raw mid = subst (λ (text : List ℕ). Opens old c.args.path.now text raw mid) text_is c.in-Ok-open_raw.ensures.outcome in
    inr (inr (record {
      plan = c.in-Ok.plan;
      planned = accepted;
      does = ended_outcome c.args.path.now (asked_by c.in-Ok.plan c.args.calls.items) c.run_raw-status.result.0 c.put_away.result raw (g.O.Raw.RawStream.shows c.run_raw-status.result.1) old mid (g.O.Opener.shows c.done.new.self) (g.K.Sink.shows c.args.out.now) (g.K.Sink.shows c.run_raw-status.new.out) c.done.result
          c.put_away.ensures c.in-Ok-open_raw.ensures.keeps opens c.run_raw-status.ensures.outcome c.done.ensures.keeps c.done.ensures.outcome;
    }))

pub returns-in-Err-Fault-clause-outcome : goal.returns-in-Err-Fault-clause-outcome
returns-in-Err-Fault-clause-outcome g c =
    let accepted = c.in-Ok.ensures.planned in
    let text_is : c.rawmode.result.now ≡ raw_mode c.in-Ok.plan = c.rawmode.ensures.text in
    let old : OpenerView = g.O.Opener.shows c.args.opener.now in
    let new : OpenerView = g.O.Opener.shows c.open_raw.new.self in
    let fails : OpenFaults old c.args.path.now (raw_mode c.in-Ok.plan) new = subst (λ (text : List ℕ). OpenFaults old c.args.path.now text new) text_is (subst (λ (why : OpenError). OpenOutcome g.O.Raw.RawStream.shows old c.args.path.now c.rawmode.result.now (Err why) new) c.in-Err-Fault.field-0-is c.in-Err-Fault.ensures.outcome) in
    inr (inr (record { plan = c.in-Ok.plan; planned = accepted; does = inl (record { keeps = c.in-Err-Fault.ensures.keeps; holds = fails.same; sink = refl }, fails) }))

pub returns-clause-outcome : goal.returns-clause-outcome
returns-clause-outcome g c =
    let accepted = c.in-Ok.ensures.planned in
    let text_is : c.rawmode.result.now ≡ raw_mode c.in-Ok.plan = c.rawmode.ensures.text in
    let old : OpenerView = g.O.Opener.shows c.args.opener.now in
    let new : OpenerView = g.O.Opener.shows c.open_raw.new.self in
    let lacks : OpenLacksMemory old c.args.path.now (raw_mode c.in-Ok.plan) new = subst (λ (text : List ℕ). OpenLacksMemory old c.args.path.now text new) text_is (subst (λ (why : OpenError). OpenOutcome g.O.Raw.RawStream.shows old c.args.path.now c.rawmode.result.now (Err why) new) c.in-Err-Memory.field-0-is c.in-Err-Memory.ensures.outcome) in
    inr (inr (record { plan = c.in-Ok.plan; planned = accepted; does = inr (inr (record { keeps = c.in-Err-Memory.ensures.keeps; holds = lacks.same; sink = refl }, lacks)) }))
