-- Runs one behind the other, and a history that goes on.
use Rattle.std.proofs.Common.{◌≡◌, List, [], ◌∷◌, ◌++◌, refl, subst}
use Rattle.py_calls.specs.declared.call.Call.{Call}
use Rattle.py_calls.specs.declared.reply.Reply.{Reply}
use Rattle.py_calls.specs.Calls.{said}
use Rattle.py_open.specs.Session.{SessionFile, SessionView, SessionStep}
use Rattle.py_open.specs.Run.{Entry, IsRun, IsHistory}

pub join_runs : (before mid after : SessionView) (calls more : List Call) (replies others : List Reply) → IsRun before calls replies mid → IsRun mid more others after → IsRun before (calls ++ more) (replies ++ others) after
join_runs before mid after [] more [] others first second = subst (λ (view : SessionView). IsRun view more others after) first second
join_runs before mid after (call ∷ calls) more (reply ∷ replies) others first second = (first.0, first.1, join_runs first.0 mid after calls more replies others first.2 second)
join_runs before mid after [] more (reply ∷ replies) others first second = absurd first
join_runs before mid after (call ∷ calls) more [] others first second = absurd first

pub gain_entry : (before mid after : SessionFile) (entries : List Entry) (entry : Entry) → IsHistory before entries mid → SessionStep mid entry.call (said entry.reply) entry.waited entry.faulted after → IsHistory before (entries ++ entry ∷ []) after
gain_entry before mid after [] entry first step = (after, subst (λ (file : SessionFile). SessionStep file entry.call (said entry.reply) entry.waited entry.faulted after) first step, refl)
gain_entry before mid after (one ∷ entries) entry first step = (first.0, first.1, gain_entry first.0 mid after entries entry first.2 step)
