use Rattle.std.proofs.Common.{◌≡◌, ◌+◌, ◌++◌, ◌∷◌, [], List, ℕ, zero, Bool, true, false, not, Option, Some, None, take, refl, sym, ap, ◌∙◌, subst, arith}
use Rattle.std.proofs.lemmas.List.{take_more}
use Rattle.std.proofs.lemmas.Slice.{pushed}
use Rattle.py_flat.specs.declared.fault.IoFault.{IoFault}
use Rattle.py_flat.specs.declared.fault.IoFault.TheVariants as fault
use Rattle.py_flat.specs.Refusals.{or_else, refused_if}
use Rattle.py_raw.specs.RawStream.{Raw}
use Rattle.py_stream.specs.Opening.{holds_none, RefusesRaw}
use Rattle.py_stream.specs.Access.{can_of}
use Rattle.py_calls.specs.Plan.{buffer_of}
use Rattle.py_calls.specs.declared.call.Call.{Call}
use Rattle.py_calls.specs.declared.reply.Reply.{Reply}
use Rattle.py_open.specs.Opening.{access_of, suits_plan}
use Rattle.py_open.specs.Run.{IsRun}
use Rattle.py_open.proofs.Running.{run_on}
use Rattle.py_open.proofs.run.run_planned.Goals as goal

by_tests : (able : Raw → Bool) (appends : Bool) (raw : Raw) (buffer : Option ℕ) (why : IoFault) (closed may : Bool) → raw.closed ≡ closed → able raw ≡ may → or_else (refused_if closed fault.Closed) (or_else (refused_if (not may) fault.Unsupported) (refused_if (holds_none buffer) fault.BadArgument)) ≡ Some why → RefusesRaw able appends raw buffer why raw
by_tests able appends raw buffer why true may shut can by =
    let is : fault.Closed ≡ why = let same : Some fault.Closed ≡ Some why = by in cc in
    subst (λ (other : IoFault). RefusesRaw able appends raw buffer other raw) is (shut, refl)
by_tests able appends raw buffer why false false shut can by =
    let is : fault.Unsupported ≡ why = let same : Some fault.Unsupported ≡ Some why = by in cc in
    subst (λ (other : IoFault). RefusesRaw able appends raw buffer other raw) is (shut, can, refl)
by_tests able appends raw (Some zero) why false true shut can by =
    let is : fault.BadArgument ≡ why = let same : Some fault.BadArgument ≡ Some why = by in cc in
    subst (λ (other : IoFault). RefusesRaw able appends raw (Some zero) other raw) is (shut, can, refl, refl)
by_tests able appends raw buffer why false true shut can by = let never : None ≡ Some why = by in absurd (cc)

-- a raw that is closed, or isn't able, or is to have a buffer of no bytes
pub returns-in-Some-clause-outcome : goal.returns-in-Some-clause-outcome
returns-in-Some-clause-outcome g c =
    let raw : Raw = g.R.RawStream.shows c.args.raw in
    let able : Raw → Bool = suits_plan c.args.plan in
    by_tests able (can_of (access_of c.args.plan.mode) raw.seekable).appending raw (buffer_of c.args.plan.kind) c.in-Some.fault raw.closed (able raw) refl refl (sym c.raw_refusal.ensures ∙ c.in-Some.is)

pub loop-call-preserved : goal.loop-call-preserved
loop-call-preserved g c =
    let at : ℕ = c.loop-call.call-index in
    let calls : List Call = c.args.calls.now in
    let replies : List Reply = c.loop-call.replies.items in
    let more : take (at + 1) calls ≡ take at calls ++ c.call-item.result ∷ [] = take_more calls at c.call-item.result (omega arith) ∙ ap (λ (call : Call). take at calls ++ call ∷ []) (sym c.call-item.is) in
    let replied : c.push.new.self.items ≡ replies ++ c.call-reply.result ∷ [] = pushed (c.call-reply.result ∷ []) refl c.unwrap.ensures c.push.ensures.items in
    let ran = c.loop-call.invariant.run in
    record {
      run = record {
        opened = ran.opened;
        opens = ran.opens;
        run = subst (λ (rs : List Reply). IsRun ran.opened (take (at + 1) calls) rs c.call-reply.new.self) (sym replied) (subst (λ (cs : List Call). IsRun ran.opened cs (replies ++ c.call-reply.result ∷ []) c.call-reply.new.self) (sym more) (run_on (take at calls) replies ran.opened c.loop-call.session c.call-reply.new.self c.call-item.result c.call-reply.result ran.run c.call-reply.ensures.answers));
      };
      room = grind arith;
    }
