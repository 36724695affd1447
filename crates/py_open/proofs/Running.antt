-- A run goes on by one call.
use Rattle.std.proofs.Common.{List, [], ◌∷◌, ◌++◌, refl, subst}
use Rattle.py_calls.specs.declared.call.Call.{Call}
use Rattle.py_calls.specs.declared.reply.Reply.{Reply}
use Rattle.py_open.specs.Session.{SessionView, Answers}
use Rattle.py_open.specs.Run.{IsRun}

pub run_on : (calls : List Call) (replies : List Reply) (first mid last : SessionView) (call : Call) (reply : Reply) → IsRun first calls replies mid → Answers mid call reply last → IsRun first (calls ++ call ∷ []) (replies ++ reply ∷ []) last
run_on [] [] first mid last call reply run step = (last, subst (λ (view : SessionView). Answers view call reply last) run step, refl)
run_on (call' ∷ calls) (reply' ∷ replies) first mid last call reply run step = (run.0, run.1, run_on calls replies run.0 mid last call reply run.2 step)
run_on [] (reply' ∷ replies) first mid last call reply run step = absurd run
run_on (call' ∷ calls) [] first mid last call reply run step = absurd run
