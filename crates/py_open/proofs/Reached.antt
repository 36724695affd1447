-- Sessions that a plan opened over a raw that tells, and to which calls led.
use Rattle.std.proofs.Common.{◌≡◌, IsTrue, List, [], ◌∷◌, ◌++◌, refl, sym, ◌∙◌}
use Rattle.py_raw.specs.RawStream.{Raw, tells}
use Rattle.py_raw.proofs.Telling.{tells_still}
use Rattle.py_stream.specs.declared.access.Access.{Access}
use Rattle.py_stream.specs.Opening.{Untouched}
use Rattle.py_calls.specs.declared.call.Call.{Call}
use Rattle.py_calls.specs.declared.reply.Reply.{Reply}
use Rattle.py_calls.specs.declared.plan.OpenPlan.{OpenPlan}
use Rattle.py_calls.specs.declared.plan.PlanKind.{PlanKind}
use Rattle.py_calls.specs.declared.plan.PlanKind.TheVariants as kind
use Rattle.py_calls.specs.Plan.{IsPlanned}
use Rattle.py_open.specs.Session.{SessionView, TextSession, BinarySession, Answers, raw_of}
use Rattle.py_open.specs.Opening.{access_of, OpensBy, OpensSession}
use Rattle.py_open.specs.Run.{IsRun}
use Rattle.py_open.specs.Laws.{IsReached}
use Rattle.py_open.proofs.Joining.{join_runs}

-- opening a session leaves the raw's bytes
pub opening_keeps : (planned : PlanKind) (opened : Access) (raw : Raw) (session : SessionView) → OpensBy planned opened raw session → Untouched raw (raw_of session)
opening_keeps (kind.Text planned) opened raw (TextSession text) opens = opens.untouched
opening_keeps (kind.Buffered size) opened raw (BinarySession stream) opens = opens.untouched
opening_keeps kind.Bare opened raw (BinarySession stream) opens = opens.untouched
opening_keeps (kind.Text planned) opened raw (BinarySession stream) opens = absurd opens
opening_keeps (kind.Buffered size) opened raw (TextSession text) opens = absurd opens
opening_keeps kind.Bare opened raw (TextSession text) opens = absurd opens

pub run_reached : (raw : Raw) (plan : OpenPlan) (opened : SessionView) (calls : List Call) (replies : List Reply) (session : SessionView) → IsTrue (tells raw) → IsPlanned plan → OpensSession raw plan opened → IsRun opened calls replies session → IsReached session
run_reached raw plan opened calls replies session told planned opens run = record { raw = raw; plan = plan; told = told; planned = planned; opened = opened; opens = opens; calls = calls; replies = replies; run = run }

-- the raw of a session tells where the raw does that it was opened over
pub opened_told : (raw : Raw) (plan : OpenPlan) (session : SessionView) → OpensSession raw plan session → IsTrue (tells (raw_of session)) → IsTrue (tells raw)
opened_told raw plan session opens told = sym (tells_still raw (raw_of session) (opening_keeps plan.kind (access_of plan.mode) raw session opens).keeps) ∙ told

pub opened_reached : (raw : Raw) (plan : OpenPlan) (session : SessionView) → IsTrue (tells raw) → IsPlanned plan → OpensSession raw plan session → IsReached session
opened_reached raw plan session told planned opens = run_reached raw plan session [] [] session told planned opens refl

-- a run from there leads on
pub reached_on : (before : SessionView) (calls : List Call) (replies : List Reply) (after : SessionView) → IsReached before → IsRun before calls replies after → IsReached after
reached_on before calls replies after is run = run_reached is.raw is.plan is.opened (is.calls ++ calls) (is.replies ++ replies) after is.told is.planned is.opens (join_runs is.opened before after is.calls calls is.replies replies is.run run)

pub reached_then : (before : SessionView) (call : Call) (reply : Reply) (after : SessionView) → Answers before call reply after → IsReached before → IsReached after
reached_then before call reply after step is = reached_on before (call ∷ []) (reply ∷ []) after is (after, step, refl)
