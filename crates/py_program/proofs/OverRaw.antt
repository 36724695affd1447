-- What comes of the calls over a raw, by what was printed.
use Rattle.std.proofs.Common.{◌≡◌, ℕ, inl, inr, List, Result, Ok, Err, MatchResult, refl, sym, subst}
use Rattle.py_flat.specs.declared.fault.IoFault.{IoFault}
use Rattle.py_flat.specs.declared.fault.IoFault.TheVariants as fault
use Rattle.py_raw.specs.RawStream.{Raw}
use Rattle.py_raw.specs.Sink.{SinkView}
use Rattle.py_calls.specs.declared.reply.Reply.{Reply}
use Rattle.py_open.specs.Session.{SessionView, raw_of}
use Rattle.py_open.specs.Run.{RefusesOpening, RunsCalls}
use Rattle.py_script.specs.ReplyLine.{reply_lines}
use Rattle.py_script.specs.Faults.{refused_line}
use Rattle.py_program.specs.declared.status.Status.{Status}
use Rattle.py_program.specs.declared.status.Status.TheVariants as status
use Rattle.py_program.specs.Outside.{PrintOutcome}
use Rattle.py_open.specs.Paths.{RefusesOrLacks}
use Rattle.py_program.specs.Outcome.{Asked, closed_calls, RanCalls, RefusedRaw, RawOutcome}

-- there was no memory to begin a run over a raw with
pub lacks_memory : (raw : Raw) (asked : Asked) (sink : SinkView) → RawOutcome raw asked status.NoMemory raw sink sink
lacks_memory raw asked sink = inr (record { hands = inl refl; sink = refl })

-- all lines of a run over a raw were printed, or a front of them
run_printed : (raw : Raw) (asked : Asked) (back : Raw) (lines : List ℕ) (old new : SinkView) (printed : Result (Unit {0}) Status) (ended : Status) → RanCalls raw asked back lines → PrintOutcome old lines printed new → MatchResult printed (λ done. ended ≡ status.Done) (λ stop. ended ≡ stop) → RawOutcome raw asked ended back old new
run_printed raw asked back lines old new (Ok done) ended ran prints is = subst (λ (last : Status). RawOutcome raw asked last back old new) (sym is) (lines, ran, prints)
run_printed raw asked back lines old new (Err status.SinkFailed) ended ran (cause, prints) is = subst (λ (last : Status). RawOutcome raw asked last back old new) (sym is) ((lines, inl ran, prints), cause)
run_printed raw asked back lines old new (Err status.NoMemory) ended ran prints is = subst (λ (last : Status). RawOutcome raw asked last back old new) (sym is) (inl (lines, inl ran, prints))
run_printed raw asked back lines old new (Err status.Done) ended ran prints is = absurd prints
run_printed raw asked back lines old new (Err status.WordsMalformed) ended ran prints is = absurd prints
run_printed raw asked back lines old new (Err status.ScriptMalformed) ended ran prints is = absurd prints
run_printed raw asked back lines old new (Err status.Refused) ended ran prints is = absurd prints
run_printed raw asked back lines old new (Err status.SourceFailed) ended ran prints is = absurd prints
run_printed raw asked back lines old new (Err status.OpenerFailed) ended ran prints is = absurd prints

-- the replies of a run over a raw were printed, or a front of them
pub replies_printed : (raw : Raw) (asked : Asked) (session : SessionView) (back : Raw) (replies : List Reply) (old new : SinkView) (printed : Result (Unit {0}) Status) (ended : Status) → RunsCalls raw asked.plan (closed_calls asked.calls) session replies → back ≡ raw_of session → PrintOutcome old (reply_lines replies) printed new → MatchResult printed (λ done. ended ≡ status.Done) (λ stop. ended ≡ stop) → RawOutcome raw asked ended back old new
replies_printed raw asked session back replies old new printed ended run is prints ends =
    run_printed raw asked back (reply_lines replies) old new printed ended (record { session = session; replies = replies; run = run; raw_is = is; lines_are = refl }) prints ends

-- the refusal of an opening was printed, or a front of it
refusal_printed : (raw : Raw) (asked : Asked) (back : Raw) (lines : List ℕ) (old new : SinkView) (printed : Result (Unit {0}) Status) (ended : Status) → RefusedRaw raw asked back lines → PrintOutcome old lines printed new → MatchResult printed (λ done. ended ≡ status.Refused) (λ stop. ended ≡ stop) → RawOutcome raw asked ended back old new
refusal_printed raw asked back lines old new (Ok done) ended refused prints is = subst (λ (last : Status). RawOutcome raw asked last back old new) (sym is) (lines, refused, prints)
refusal_printed raw asked back lines old new (Err status.SinkFailed) ended refused (cause, prints) is = subst (λ (last : Status). RawOutcome raw asked last back old new) (sym is) ((lines, inr refused, prints), cause)
refusal_printed raw asked back lines old new (Err status.NoMemory) ended refused prints is = subst (λ (last : Status). RawOutcome raw asked last back old new) (sym is) (inl (lines, inr refused, prints))
refusal_printed raw asked back lines old new (Err status.Done) ended refused prints is = absurd prints
refusal_printed raw asked back lines old new (Err status.WordsMalformed) ended refused prints is = absurd prints
refusal_printed raw asked back lines old new (Err status.ScriptMalformed) ended refused prints is = absurd prints
refusal_printed raw asked back lines old new (Err status.Refused) ended refused prints is = absurd prints
refusal_printed raw asked back lines old new (Err status.SourceFailed) ended refused prints is = absurd prints
refusal_printed raw asked back lines old new (Err status.OpenerFailed) ended refused prints is = absurd prints

-- an opening was refused when out of memory, with nothing printed
pub starved : (raw back : Raw) (asked : Asked) (refused : IoFault) (sink : SinkView) → RefusesOpening raw asked.plan refused back → refused ≡ fault.NoMemory → RawOutcome raw asked status.NoMemory back sink sink
starved raw back asked refused sink why is = inr (record { hands = inr (subst (λ (by : IoFault). RefusesOpening raw asked.plan by back) is why); sink = refl })

-- a session that couldn't be opened over a raw had its refusal printed, or a front of it
pub refused_printed : (raw back : Raw) (asked : Asked) (refused : IoFault) (old new : SinkView) (printed : Result (Unit {0}) Status) (ended : Status) → RefusesOrLacks raw asked.plan refused back → (refused ≡ fault.NoMemory → ⊥) → PrintOutcome old (refused_line refused) printed new → MatchResult printed (λ done. ended ≡ status.Refused) (λ stop. ended ≡ stop) → RawOutcome raw asked ended back old new
refused_printed raw back asked refused old new printed ended (inl is) not_memory prints ends = absurd (not_memory is)
refused_printed raw back asked refused old new printed ended (inr by) not_memory prints ends =
    refusal_printed raw asked back (refused_line refused) old new printed ended (record { refused = refused; why = by; lines_are = refl }) prints ends
