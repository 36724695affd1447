-- Runs: what a list of calls may be answered, one call after another, and which opening they begin from.
use Rattle.std.specs.Prelude.{◌≡◌, ◌≢◌, ℕ, ◌⊎◌, Bool, false, List, [], ◌∷◌, Option, Result, Ok, Err}
use Rattle.py_flat.specs.declared.fault.IoFault.{IoFault}
use Rattle.py_flat.specs.declared.fault.IoFault.TheVariants as fault
use Rattle.py_flat.specs.Calls.{FileReply, Refused}
use Rattle.py_flat.specs.Causes.{rose}
use Rattle.py_raw.specs.RawStream.{Raw}
use Rattle.py_stream.specs.Kinds.{says_fault}
use Rattle.py_calls.specs.declared.call.Call.{Call}
use Rattle.py_calls.specs.declared.reply.Reply.{Reply}
use Rattle.py_calls.specs.Calls.{said}
use Rattle.py_calls.specs.declared.plan.OpenPlan.{OpenPlan}
use Rattle.py_calls.specs.declared.open_args.OpenArgs.{OpenArgs}
use Rattle.py_calls.specs.Plan.{RefusesPlan, Accepts}
use Rattle.py_registry.specs.declared.codec.PyCodec.{PyCodec}
use Rattle.py_registry.specs.Machine.{Machine}
use Rattle.py_open.specs.declared.run.Run.{Run}
use Rattle.py_open.specs.declared.open_refused.OpenRefused.{OpenRefused}
use Rattle.py_open.specs.Session.{SessionFile, SessionView, SessionStep, Settles, short_of, Answers}
use Rattle.py_open.specs.Opening.{OpensSession, RefusesSession}

-- a run from `before`: its calls may be answered by its replies, and leave `after`; there is a session between any two
-- calls, and each call leads from one to the next
abbrev pub IsRun : SessionView → List Call → List Reply → SessionView → Type 0
IsRun before [] [] after = after ≡ before
IsRun before (call ∷ calls) (reply ∷ replies) after = (mid : SessionView) × Answers before call reply mid × IsRun mid calls replies after
IsRun before [] (reply ∷ replies) after = ⊥
IsRun before (call ∷ calls) [] after = ⊥

-- a call that was made, its reply, and the marks of a wait, which cut it short, and of a fault
pub record Entry : Type 0 where
  pub call : Call
  pub reply : Reply
  pub waited : Bool
  pub faulted : Bool

abbrev pub calls_of : List Entry → List Call
calls_of [] = []
calls_of (entry ∷ entries) = entry.call ∷ calls_of entries

abbrev pub replies_of : List Entry → List Reply
replies_of [] = []
replies_of (entry ∷ entries) = entry.reply ∷ replies_of entries

-- the entries of a run: there is a session between any two, and each is marked as its session was left: by a wait where
-- that is short, so that the raw's waits rose in this call; by a fault where the reply says so, so that its faults did
abbrev pub IsMarkedRun : SessionView → List Entry → SessionView → Type 0
IsMarkedRun before [] after = after ≡ before
IsMarkedRun before (entry ∷ entries) after = (mid : SessionView) × Answers before entry.call entry.reply mid × (entry.waited ≡ short_of mid) × (entry.faulted ≡ says_fault (said entry.reply)) × IsMarkedRun mid entries after

-- entries as a history of flat files alone: there is a file between any two of them, and each is a step from one to the next
abbrev pub IsHistory : SessionFile → List Entry → SessionFile → Type 0
IsHistory before [] after = after ≡ before
IsHistory before (entry ∷ entries) after = (mid : SessionFile) × SessionStep before entry.call (said entry.reply) entry.waited entry.faulted mid × IsHistory mid entries after

-- no entry waited, faulted or ran out of memory
abbrev pub IsCalm : List Entry → Type 0
IsCalm [] = Unit {0}
IsCalm (entry ∷ entries) = (entry.waited ≡ false) × (entry.faulted ≡ false) × (said entry.reply ≢ Refused fault.NoMemory) × IsCalm entries

-- each call settles: there is a file between any two calls, and each reply is what the file there answers where nothing waits,
-- fails or runs out of memory
abbrev pub AllSettle : SessionFile → List Call → List FileReply → SessionFile → Type 0
AllSettle before [] [] after = after ≡ before
AllSettle before (call ∷ calls) (reply ∷ replies) after = (mid : SessionFile) × Settles before call reply mid × AllSettle mid calls replies after
AllSettle before [] (reply ∷ replies) after = ⊥
AllSettle before (call ∷ calls) [] after = ⊥

-- what replies say
abbrev pub all_said : List Reply → List FileReply
all_said [] = []
all_said (reply ∷ replies) = said reply ∷ all_said replies

-- no reply says out of memory
abbrev pub NoneLacksMemory : List FileReply → Type 0
NoneLacksMemory [] = Unit {0}
NoneLacksMemory (reply ∷ replies) = (reply ≢ Refused fault.NoMemory) × NoneLacksMemory replies

-- no count of the raw rose from one session to the other
pub record IsSmooth (before after : Raw) : Type 0 where
  pub waits : rose before.waits after.waits ≡ false
  pub faults : rose before.faults after.faults ≡ false

-- The opening, and the whole run.

-- why a planned opening is refused, and the raw that is handed back: as its session is, whose running out of memory is also that of
-- space for the replies
abbrev pub RefusesOpening : Raw → OpenPlan → IoFault → Raw → Type 0
RefusesOpening raw plan refused back = RefusesSession raw plan refused back

-- the session opens over the raw, and the replies are a run from there to the session
pub record RunsCalls (raw : Raw) (plan : OpenPlan) (calls : List Call) (session : SessionView) (replies : List Reply) : Type 0 where
  pub opened : SessionView
  pub opens : OpensSession raw plan opened
  pub run : IsRun opened calls replies session

-- a planned opening: a run; or a refusal, with the raw
abbrev pub OpenedOutcome : {R : Type 0} → (R → Raw) → R → OpenPlan → List Call → Result (Run R) (OpenRefused R) → Type 0
OpenedOutcome shows raw plan calls (Ok run) = RunsCalls (shows raw) plan calls run.session run.replies.items
OpenedOutcome shows raw plan calls (Err refused) = RefusesOpening (shows raw) plan refused.fault (shows refused.raw)

-- an opening is refused by its plan, with the raw and the registry as they were
pub record RefusedByPlan {S H : Type 0} (finds : S → List ℕ → Option (PyCodec S)) (before : Machine S H) (raw : Raw) (mode : List ℕ) (args : OpenArgs) (refused : IoFault) (back : Raw) (new : Machine S H) : Type 0 where
  pub plan : RefusesPlan finds before mode args refused
  pub raw_same : back ≡ raw
  pub registry : new ≡ before

-- an opening by a mode and arguments, as far as the plan accepts it: what the planned opening comes to
pub record OpensAsPlanned {S H R : Type 0} (finds : S → List ℕ → Option (PyCodec S)) (before : Machine S H) (shows : R → Raw) (raw : R) (mode : List ℕ) (args : OpenArgs) (calls : List Call) (result : Result (Run R) (OpenRefused R)) (new : Machine S H) : Type 0 where
  pub plan : OpenPlan
  pub accepts : Accepts finds before mode args plan new
  pub outcome : OpenedOutcome shows raw plan calls result

-- a run comes only of a plan that is accepted; a refusal is the plan's, or the planned opening's
abbrev pub RunOutcome : {S H R : Type 0} → (finds : S → List ℕ → Option (PyCodec S)) → Machine S H → (R → Raw) → R → List ℕ → OpenArgs → List Call → Result (Run R) (OpenRefused R) → Machine S H → Type 0
RunOutcome finds before shows raw mode args calls (Ok run) new = OpensAsPlanned finds before shows raw mode args calls (Ok run) new
RunOutcome finds before shows raw mode args calls (Err refused) new = RefusedByPlan finds before (shows raw) mode args refused.fault (shows refused.raw) new ⊎ OpensAsPlanned finds before shows raw mode args calls (Err refused) new
