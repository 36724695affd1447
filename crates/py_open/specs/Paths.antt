-- Opening a path: a plan, a raw that an opener opens for it, and a session over that.
use Rattle.std.specs.Prelude.{◌≡◌, ◌⊎◌, ℕ, IsTrue, IsFalse, true, List, Option, Some, None, unwrap_or, IsSome, Result, Ok, Err, codes}
use Rattle.py_flat.specs.declared.fault.IoFault.{IoFault}
use Rattle.py_flat.specs.declared.fault.IoFault.TheVariants as fault
use Rattle.py_raw.specs.RawStream.{Raw}
use Rattle.py_raw.specs.RawMode.{raw_mode_text}
use Rattle.py_raw.specs.Opener.{OpenerView, Opens, OpenFaults, OpenLacksMemory, NoOpenerFault, misses, opened_bytes}
use Rattle.py_stream.specs.declared.access.Access.TheVariants as access
use Rattle.py_registry.specs.declared.codec.PyCodec.{PyCodec}
use Rattle.py_registry.specs.Machine.{Machine}
use Rattle.py_calls.specs.Mode.{letter_of}
use Rattle.py_calls.specs.declared.open_args.OpenArgs.{OpenArgs}
use Rattle.py_calls.specs.declared.plan.OpenPlan.{OpenPlan}
use Rattle.py_calls.specs.Plan.{buffer_of, plan_of, PlanAsksFunctions, RefusesPlan, Accepts}
use Rattle.py_open.specs.declared.open_failed.OpenFailed.{OpenFailed}
use Rattle.py_open.specs.declared.open_failed.OpenFailed.TheVariants as failed
use Rattle.py_open.specs.Session.{SessionView, file_seen}
use Rattle.py_open.specs.Opening.{OpensSession, RefusesSession, access_of}
use Rattle.py_open.specs.OpenedFile.{opened_file}

-- Raws that were opened for a plan.

-- the mode by which a plan's raw is opened
abbrev pub raw_mode : OpenPlan → List ℕ
raw_mode plan = raw_mode_text (letter_of plan.mode.file) plan.mode.plus

-- a stream that is read and written through a buffer moves its raw
abbrev pub MovesRaw : OpenPlan → Type 0
MovesRaw plan = (access_of plan.mode ≡ access.Update) × IsSome (buffer_of plan.kind)

-- why no session is opened over a raw that was opened for it: it failed to say where it stands or ends, or to move there; or it can't seek,
-- and is to be moved
abbrev pub RefusesOpened : Raw → OpenPlan → IoFault → Raw → Type 0
RefusesOpened raw plan fault.RawFault back = RefusesSession raw plan fault.RawFault back
RefusesOpened raw plan fault.Unsupported back = MovesRaw plan × IsFalse raw.seekable × (back ≡ raw)
RefusesOpened raw plan refused back = ⊥

-- so, or for want of memory
abbrev pub RefusesOrLacks : Raw → OpenPlan → IoFault → Raw → Type 0
RefusesOrLacks raw plan refused back = (refused ≡ fault.NoMemory) ⊎ RefusesOpened raw plan refused back

-- Opening a path.

-- the mode that is asked for; without one that of a text that is read
abbrev pub mode_or_r : Option (List ℕ) → List ℕ
mode_or_r mode = unwrap_or mode (codes "r")

-- over the raw that was opened for a plan there is no session, and it is handed back; of an opener that counts exactly no fault was counted
pub record HandsBack (before : OpenerView) (path : List ℕ) (plan : OpenPlan) (why : IoFault) (back : Raw) (after : OpenerView) : Type 0 where
  pub raw : Raw
  pub opens : Opens before path (raw_mode plan) raw after
  pub exact : NoOpenerFault before after
  pub refuses : RefusesSession raw plan why back
  pub cause : RefusesOrLacks raw plan why back

-- a session over the raw that was opened for a plan; of an opener that counts exactly no fault was counted. Of an opener that tells it is the
-- file that the plan opens over what the path held
pub record OpensSessionAt (before : OpenerView) (path : List ℕ) (plan : OpenPlan) (session : SessionView) (after : OpenerView) : Type 0 where
  pub raw : Raw
  pub opens : Opens before path (raw_mode plan) raw after
  pub exact : NoOpenerFault before after
  pub session_is : OpensSession raw plan session
  pub file : IsTrue before.tells → file_seen session ≡ opened_file plan (opened_bytes (raw_mode plan) (before.holds path))

-- a path's opening by an accepted plan: a session; or why there is none, by the raw, for want of memory with nothing opened, or by the opener
abbrev pub PathOutcome : {R : Type 0} → (R → Raw) → OpenerView → List ℕ → OpenPlan → Result SessionView (OpenFailed R) → OpenerView → Type 0
PathOutcome shows before path plan (Ok session) after = OpensSessionAt before path plan session after
PathOutcome shows before path plan (Err (failed.Refused why (Some back))) after = HandsBack before path plan why (shows back) after
PathOutcome shows before path plan (Err (failed.Refused why None)) after = (why ≡ fault.NoMemory) × OpenLacksMemory before path (raw_mode plan) after
PathOutcome shows before path plan (Err failed.Opener) after = OpenFaults before path (raw_mode plan) after

-- a path's opening by a plan that a registry accepts
pub record OpensByPlan {S H R : Type 0} (finds : S → List ℕ → Option (PyCodec S)) (registry : Machine S H) (shows : R → Raw) (before : OpenerView) (path mode : List ℕ) (args : OpenArgs) (result : Result SessionView (OpenFailed R)) (after : OpenerView) (left : Machine S H) : Type 0 where
  pub plan : OpenPlan
  pub accepts : Accepts finds registry mode args plan left
  pub outcome : PathOutcome shows before path plan result after

-- the plan refuses a path's opening: nothing is opened, no opener called, and the registry is as it was
pub record RefusedUnopened {S H R : Type 0} (finds : S → List ℕ → Option (PyCodec S)) (registry : Machine S H) (before : OpenerView) (mode : List ℕ) (args : OpenArgs) (result : Result SessionView (OpenFailed R)) (after : OpenerView) (left : Machine S H) : Type 0 where
  pub why : IoFault
  pub says : result ≡ Err (failed.Refused why None)
  pub plan : RefusesPlan finds registry mode args why
  pub opener : after ≡ before
  pub registry_same : left ≡ registry

-- a path's opening: refused by the plan, or as the accepted plan's comes out
abbrev pub IoOpenOutcome : {S H R : Type 0} → (finds : S → List ℕ → Option (PyCodec S)) → Machine S H → (R → Raw) → OpenerView → (path mode : List ℕ) → OpenArgs → Result SessionView (OpenFailed R) → OpenerView → Machine S H → Type 0
IoOpenOutcome finds registry shows before path mode args result after left =
    RefusedUnopened finds registry before mode args result after left ⊎ OpensByPlan finds registry shows before path mode args result after left

-- over an opener that tells, the opener is the cause exactly where the plan is accepted and x finds the path, or r misses it; but planning may
-- run out of memory before, where search functions are asked
pub record FailsWhereMissed {S H R : Type 0} (finds : S → List ℕ → Option (PyCodec S)) (registry : Machine S H) (before : OpenerView) (path mode : List ℕ) (args : OpenArgs) (result : Result SessionView (OpenFailed R)) : Type 0 where
  pub only : result ≡ Err failed.Opener → (plan : OpenPlan) × (plan_of finds registry mode args ≡ Ok plan) × (misses (raw_mode plan) (before.holds path) ≡ true)
  pub where_missed : (plan : OpenPlan) → plan_of finds registry mode args ≡ Ok plan → misses (raw_mode plan) (before.holds path) ≡ true → (result ≡ Err failed.Opener) ⊎ ((result ≡ Err (failed.Refused fault.NoMemory None)) × PlanAsksFunctions registry mode args)
