-- Opening a session over a raw stream, and handing the raw back.
use Rattle.std.specs.Prelude.{ℕ, Bool, true, false, Option, Some, None, Result, Ok, Err}
use Rattle.py_flat.specs.declared.fault.IoFault.{IoFault}
use Rattle.py_raw.specs.RawStream.{Raw}
use Rattle.py_stream.specs.declared.new_refused.NewRefused.{NewRefused}
use Rattle.py_stream.specs.Opening.{Opens, RefusesRaw}
use Rattle.py_stream.specs.declared.access.Access.{Access}
use Rattle.py_stream.specs.declared.access.Access.TheVariants as access
use Rattle.py_stream.specs.Access.{can_of, is_able}
use Rattle.py_calls.specs.declared.mode.FileMode.{FileMode}
use Rattle.py_calls.specs.declared.mode.FileMode.TheVariants.{Read, Append}
use Rattle.py_calls.specs.declared.mode.Mode.{Mode}
use Rattle.py_calls.specs.declared.plan.OpenPlan.{OpenPlan}
use Rattle.py_calls.specs.declared.plan.PlanKind.{PlanKind}
use Rattle.py_calls.specs.declared.plan.PlanKind.TheVariants as kind
use Rattle.py_calls.specs.declared.plan.TextPlan.{TextPlan}
use Rattle.py_calls.specs.Plan.{buffer_of}
use Rattle.py_plain_text.specs.TextFile.{TextSettings}
use Rattle.py_read_text.specs.TextState.{settings_of}
use Rattle.py_open.specs.TextOpening.{OpensText}
use Rattle.py_open.specs.TextHanding as text
use Rattle.py_binary.specs.Binary.{place_left}
use Rattle.py_open.specs.Session.{SessionView, TextSession, BinarySession}

-- what a file letter, with a plus or without, opens a raw for
abbrev pub access_by : FileMode → (plus : Bool) → Access
access_by Append plus = access.Append
access_by file true = access.Update
access_by Read false = access.Read
access_by file false = access.Write

-- what a mode opens a raw for; an opener has made the file by then
abbrev pub access_of : Mode → Access
access_of mode = access_by mode.file mode.plus

-- the settings that a text is opened with
abbrev pub text_settings : TextPlan → TextSettings
text_settings text = settings_of text.coder text.settings

-- an open session by what is planned: a text; or a stream of bytes, with a buffer or without. Either begins where the raw
-- stands, one that appends at the end, and at 0 where the raw can't seek
abbrev pub OpensBy : PlanKind → Access → Raw → SessionView → Type 0
OpensBy (kind.Text planned) opened raw (TextSession text) = OpensText raw opened planned.buffer_size (text_settings planned) text
OpensBy (kind.Buffered size) opened raw (BinarySession stream) = Opens (is_able opened (Some size)) (can_of opened) raw (Some size) stream
OpensBy kind.Bare opened raw (BinarySession stream) = Opens (is_able opened None) (can_of opened) raw None stream
OpensBy planned opened raw session = ⊥

abbrev pub OpensSession : Raw → OpenPlan → SessionView → Type 0
OpensSession raw plan session = OpensBy plan.kind (access_of plan.mode) raw session

-- whether a raw is able to do what it is opened for by a plan
abbrev pub suits_plan : OpenPlan → Raw → Bool
suits_plan plan raw = is_able (access_of plan.mode) (buffer_of plan.kind) raw

-- why a raw isn't opened by a plan
abbrev pub RefusesSession : Raw → OpenPlan → IoFault → Raw → Type 0
RefusesSession raw plan why back = RefusesRaw (suits_plan plan) (can_of (access_of plan.mode) raw.seekable).appending raw (buffer_of plan.kind) why back

abbrev pub SessionOutcome : {R : Type 0} → (R → Raw) → R → OpenPlan → Result SessionView (NewRefused R) → Type 0
SessionOutcome shows raw plan (Ok session) = OpensSession (shows raw) plan session
SessionOutcome shows raw plan (Err refused) = RefusesSession (shows raw) plan refused.fault (shows refused.raw)

-- the place that is handed back with the raw: of the first byte that is owed; where none is a stream's own, and of a text the byte of
-- its place; none where the raw can't seek, and of a detached session
abbrev pub place_handed : SessionView → Option ℕ
place_handed (TextSession view) = text.place_handed view.text
place_handed (BinarySession stream) = place_left stream.life stream
