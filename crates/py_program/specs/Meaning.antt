-- What the clauses of the program speak of beside its outcome.
use Rattle.std.specs.Prelude.{◌≡◌, ◌≢◌, ◌≤◌, ℕ, ◌⊎◌, true, false, IsTrue, IsFalse, List, length, Option, Some, None, Ok, IsErr, if◌then◌else◌}
use Rattle.py_flat.specs.Causes.{rose, Rose, RoseBy}
use Rattle.py_raw.specs.RawStream.{Raw, tells as raw_tells}
use Rattle.py_raw.specs.Opener.{OpenerView, NoOpenerFault, misses, IsOpened, opened_bytes, HoldsTheSame, OthersHoldTheSame}
use Rattle.py_raw.specs.Source.{SourceView, NoSourceFault}
use Rattle.py_raw.specs.Sink.{NoSinkFault}
use Rattle.py_stream.specs.declared.access.Access.TheVariants as access
use Rattle.py_calls.specs.declared.call.Call.{Call}
use Rattle.py_calls.specs.declared.reply.Reply.{Reply}
use Rattle.py_calls.specs.declared.plan.TextPlan.{TextPlan}
use Rattle.py_calls.specs.declared.open_args.OpenArgs.{OpenArgs}
use Rattle.py_calls.specs.declared.plan.OpenPlan.{OpenPlan}
use Rattle.py_calls.specs.Plan.{built_in_plan}
use Rattle.py_open.specs.Session.{SessionFile, SessionView, raw_of, bytes_in}
use Rattle.py_open.specs.Opening.{access_of}
use Rattle.py_open.specs.Run.{NoneLacksMemory, RunsCalls, AllSettle, all_said}
use Rattle.py_open.specs.Laws.{RunsComplete, BringsBack, exact_replies, exact_after}
use Rattle.py_script.specs.CommandWords.{Command, Run, Help, Version}
use Rattle.py_script.specs.Help.{help_text, version_text}
use Rattle.py_script.specs.Script.{script_calls}
use Rattle.py_script.specs.ReplyLine.{reply_lines}
use Rattle.py_program.specs.Outside.{script_limit, IsMalformed, ReadsScript, Prints}
use Rattle.py_open.specs.OpenedFile.{text_by, opened_file}
use Rattle.py_open.specs.Paths.{raw_mode, MovesRaw}
use Rattle.py_program.specs.Outcome.{Outside, closed_calls, PathHoldsFlat}

-- the opener tells what each path holds
abbrev pub TellsPaths : OpenerView → Type 0
TellsPaths opener = IsTrue opener.tells

-- the source tells that its script is well formed
pub record TellsWellFormed (source : SourceView) : Type 0 where
  pub told : IsTrue source.tells
  pub form : ¬ IsMalformed source.left

-- the source tells that its script is malformed
pub record TellsMalformed (source : SourceView) : Type 0 where
  pub told : IsTrue source.tells
  pub malformed : IsMalformed source.left

-- no count of faults rose, of the source, the sink, the opener or its raws
pub record NothingFails (old new : SourceView) (before after : Outside) : Type 0 where
  pub source : rose old.faults new.faults ≡ false
  pub sink : rose before.sink.faults after.sink.faults ≡ false
  pub opener : rose before.opener.faults after.opener.faults ≡ false
  pub raws : rose before.opener.raw_faults after.opener.raw_faults ≡ false

-- no fault and no wait of a raw was added
pub record RawsAreReady (before after : Outside) : Type 0 where
  pub faults : rose before.opener.raw_faults after.opener.raw_faults ≡ false
  pub waits : rose before.opener.raw_waits after.opener.raw_waits ≡ false

-- What became of the opener's counts.

-- no count fell: of the opener's own faults, and of the faults and waits of its raws
pub record CountsNeverFall (old new : OpenerView) : Type 0 where
  pub faults : old.faults ≤ new.faults
  pub raw_faults : old.raw_faults ≤ new.raw_faults
  pub raw_waits : old.raw_waits ≤ new.raw_waits

-- no raw was opened, and none was taken back
pub record OpensNone (old new : OpenerView) : Type 0 where
  pub opened : new.opened ≡ old.opened
  pub taken_back : new.taken_back ≡ old.taken_back

-- one raw was opened, and one was taken back
pub record OpensOne (old new : OpenerView) : Type 0 where
  pub opened : RoseBy 1 old.opened new.opened
  pub taken_back : RoseBy 1 old.taken_back new.taken_back

-- What was printed, and what the path holds in the end.

-- a raw that tells, can seek, and stands at the start of these bytes
pub record BeginsWith (raw : Raw) (bytes : List ℕ) : Type 0 where
  pub tells : raw_tells raw ≡ true
  pub seeks : raw.seekable ≡ true
  pub place : raw.place ≡ 0
  pub bytes_are : raw.bytes ≡ bytes

-- the path was opened as it is planned; calls and a Close were made over the raw, those of the script, where the source tells it; the
-- lines of their replies were printed; the faults and waits of the raw were added to the opener's; and where the opener
-- tells, the raw began at the start of what the mode leaves of the path's bytes, and the path holds the raw's bytes in the end, the flat
-- ones where a close or detach of a live session was done. Where the raw tells, texts go back to where one told, as `BringsBack` says. Where
-- no raw failed or would have blocked, each call that isn't refused is answered by an answer of its own, or when out of memory
pub record PrintsReplies (path mode : List ℕ) (args : OpenArgs) (old new : SourceView) (before after : Outside) : Type 0 where
  pub calls : List Call
  pub reads : IsTrue old.tells → ReadsScript old calls new
  pub plan : OpenPlan
  pub planned : built_in_plan mode args ≡ Ok plan
  pub raw : Raw
  pub is_opened : IsOpened (raw_mode plan) raw
  pub begins : IsTrue before.opener.tells → BeginsWith raw (opened_bytes (raw_mode plan) (before.opener.holds path))
  pub session : SessionView
  pub replies : List Reply
  pub run : RunsCalls raw plan (closed_calls calls) session replies
  pub prints : Prints before.sink (reply_lines replies) after.sink
  pub faults : RoseBy (raw_of session).faults before.opener.raw_faults after.opener.raw_faults
  pub waits : RoseBy (raw_of session).waits before.opener.raw_waits after.opener.raw_waits
  pub holds : IsTrue before.opener.tells → after.opener.holds path ≡ Some (raw_of session).bytes
  pub flat : PathHoldsFlat path run.opened session before after
  pub cookies : IsTrue (raw_tells raw) → BringsBack run.opened
  pub complete : RawsAreReady before after → RunsComplete run.opened (closed_calls calls) replies session

-- the words ask for an opening that the plan refuses
abbrev pub IsRefusedPlan : Option Command → Type 0
IsRefusedPlan (Some (Run path mode args)) = IsErr (built_in_plan mode args)
IsRefusedPlan (Some Help) = ⊥
IsRefusedPlan (Some Version) = ⊥
IsRefusedPlan None = ⊥

-- the words ask for an opening of this path that the plan accepts
abbrev pub IsAcceptedAt : List ℕ → OpenPlan → Option Command → Type 0
IsAcceptedAt path plan (Some (Run named mode args)) = (named ≡ path) × (built_in_plan mode args ≡ Ok plan)
IsAcceptedAt path plan (Some Help) = ⊥
IsAcceptedAt path plan (Some Version) = ⊥
IsAcceptedAt path plan None = ⊥

-- the words ask for a run
abbrev pub AsksForRun : Option Command → Type 0
AsksForRun (Some (Run path mode args)) = Unit {0}
AsksForRun (Some Help) = ⊥
AsksForRun (Some Version) = ⊥
AsksForRun None = ⊥

-- the words ask for a run that only reads
abbrev pub AsksToRead : Option Command → Type 0
AsksToRead (Some (Run path mode args)) = (plan : OpenPlan) × (built_in_plan mode args ≡ Ok plan) × (access_of plan.mode ≡ access.Read)
AsksToRead (Some Help) = ⊥
AsksToRead (Some Version) = ⊥
AsksToRead None = ⊥

-- the words ask for a stream that moves its raw
abbrev pub AsksToMove : Option Command → Type 0
AsksToMove (Some (Run path mode args)) = (plan : OpenPlan) × (built_in_plan mode args ≡ Ok plan) × MovesRaw plan
AsksToMove (Some Help) = ⊥
AsksToMove (Some Version) = ⊥
AsksToMove None = ⊥

-- the words ask for a stream that moves its raw, and the opener may have opened one that can't seek, as it doesn't tell
abbrev pub MayNotMove : OpenerView → Option Command → Type 0
MayNotMove opener asked = IsFalse opener.tells × AsksToMove asked

-- the opener had nothing to change: by the status, by the plan, or since it was only read
abbrev pub LeavesPaths : ℕ → Option Command → Type 0
LeavesPaths code command = (code ≡ 2) ⊎ ((code ≡ 3) ⊎ ((code ≡ 5) ⊎ ((code ≡ 8) ⊎ (IsRefusedPlan command ⊎ AsksToRead command))))

-- every path but the one that the words name holds what it held
abbrev pub KeepsOthers : Option Command → OpenerView → OpenerView → Type 0
KeepsOthers (Some (Run path mode args)) old new = OthersHoldTheSame path old new
KeepsOthers (Some Help) old new = HoldsTheSame old new
KeepsOthers (Some Version) old new = HoldsTheSame old new
KeepsOthers None old new = HoldsTheSame old new

-- Runs in which nothing went wrong.

-- replies settle on the file that a plan opens over bytes, from there to a last file, of which the path holds the bytes in the end
pub record SettlesAtPath (path : List ℕ) (plan : OpenPlan) (bytes : List ℕ) (calls : List Call) (replies : List Reply) (after : OpenerView) : Type 0 where
  pub last : SessionFile
  pub settles : AllSettle (opened_file plan bytes) calls (all_said replies) last
  pub holds : after.holds path ≡ Some (bytes_in last)

-- what was printed is the lines of replies to the script's calls and a Close; unless one says out of memory, they settle on the
-- file that the mode opens of what the path held, and the path holds the bytes of the file that they come to
pub record PrintsSettled (path : List ℕ) (plan : OpenPlan) (old : SourceView) (before after : Outside) : Type 0 where
  pub calls : List Call
  pub form : script_calls old.left ≡ Some calls
  pub replies : List Reply
  pub prints : Prints before.sink (reply_lines replies) after.sink
  pub says : NoneLacksMemory (all_said replies) → SettlesAtPath path plan (opened_bytes (raw_mode plan) (before.opener.holds path)) (closed_calls calls) replies after.opener

-- what was printed is the lines of replies to the script's calls and a Close; unless one says out of memory, they are the exact ones
-- of the text that the mode opens of what the path held, and the path holds the bytes of the text that they come to. Of a text that is
-- only read it holds what it held
pub record PrintsExactly (path : List ℕ) (plan : OpenPlan) (text : TextPlan) (old : SourceView) (before after : Outside) : Type 0 where
  pub calls : List Call
  pub form : script_calls old.left ≡ Some calls
  pub replies : List Reply
  pub prints : Prints before.sink (reply_lines replies) after.sink
  pub says : NoneLacksMemory (all_said replies) → all_said replies ≡ exact_replies (text_by plan.mode text (opened_bytes (raw_mode plan) (before.opener.holds path))) (closed_calls calls)
  pub holds : NoneLacksMemory (all_said replies) → after.opener.holds path ≡ Some (exact_after (text_by plan.mode text (opened_bytes (raw_mode plan) (before.opener.holds path))) (closed_calls calls)).bytes
  pub kept : access_of plan.mode ≡ access.Read → (bytes : List ℕ) → before.opener.holds path ≡ Some bytes → after.opener.holds path ≡ Some bytes

-- the source tells a script that is well formed, and has these calls
pub record TellsCalls (source : SourceView) (calls : List Call) : Type 0 where
  pub told : IsTrue source.tells
  pub short : length source.left ≤ script_limit
  pub form : script_calls source.left ≡ Some calls

-- no count rose: no count of faults, of the source, the sink, the opener or its raws, and no count of the raws' waits
pub record IsSmoothOutside (old new : SourceView) (before after : Outside) : Type 0 where
  pub fails : NothingFails old new before after
  pub waits : rose before.opener.raw_waits after.opener.raw_waits ≡ false

-- The program does what the model says: it ends with 0; the lines of replies to these calls and a Close were printed; and, unless one of
-- them says out of memory, they are the model's on the file that the mode opens of what the path held, and the path holds the
-- bytes of the file that they come to. Every other path holds what it held
pub record DoesAsTheModel (code : ℕ) (path : List ℕ) (plan : OpenPlan) (calls : List Call) (before after : Outside) : Type 0 where
  pub done : code ≡ 0
  pub replies : List Reply
  pub prints : Prints before.sink (reply_lines replies) after.sink
  pub says : NoneLacksMemory (all_said replies) → SettlesAtPath path plan (opened_bytes (raw_mode plan) (before.opener.holds path)) (closed_calls calls) replies after.opener
  pub others : OthersHoldTheSame path before.opener after.opener

-- The program's promises.

-- what follows from how the program ended, each promise by its name
pub record Promises (code : ℕ) (asked : Option Command) (old new : SourceView) (before after : Outside) : Type 0 where
  pub statuses : (code ≤ 8) × (code ≢ 1)
  pub malformed_words : code ≡ 2 → asked ≡ None
  pub words : asked ≡ None → (code ≡ 2) ⊎ (code ≡ 7)
  pub source : code ≡ 5 → Rose old.faults new.faults
  pub sink : code ≡ 6 → Rose before.sink.faults after.sink.faults
  pub opener : code ≡ 8 → Rose before.opener.faults after.opener.faults
  pub source_exact : code ≢ 5 → NoSourceFault old new
  pub sink_exact : code ≢ 6 → NoSinkFault before.sink after.sink
  pub opener_exact : code ≡ 0 → NoOpenerFault before.opener after.opener
  pub counts : CountsNeverFall before.opener after.opener
  pub once : OpensNone before.opener after.opener ⊎ OpensOne before.opener after.opener
  pub opened : (path : List ℕ) (plan : OpenPlan) → IsAcceptedAt path plan asked → (code ≡ 0) ⊎ ((code ≡ 4) ⊎ (code ≡ 6)) → OpensOne before.opener after.opener
  pub none_opened : (code ≡ 2) ⊎ ((code ≡ 3) ⊎ ((code ≡ 5) ⊎ ((code ≡ 8) × TellsPaths before.opener))) → OpensNone before.opener after.opener
  pub refused : code ≡ 4 → IsRefusedPlan asked ⊎ (Rose before.opener.raw_faults after.opener.raw_faults ⊎ MayNotMove before.opener asked)
  pub planned : IsRefusedPlan asked → TellsWellFormed old → (code ≡ 4) ⊎ ((code ≡ 5) ⊎ ((code ≡ 6) ⊎ (code ≡ 7)))
  pub unopened : IsRefusedPlan asked → after.opener ≡ before.opener
  pub complete : asked ≢ None → ¬ IsRefusedPlan asked → NothingFails old new before after → (code ≡ 0) ⊎ ((code ≡ 3) ⊎ ((code ≡ 7) ⊎ ((code ≡ 4) × MayNotMove before.opener asked)))
  pub malformed_script : code ≡ 3 → IsTrue old.tells → IsMalformed old.left
  pub script : AsksForRun asked → TellsMalformed old → (code ≡ 3) ⊎ ((code ≡ 5) ⊎ (code ≡ 7))
  pub missing : (path : List ℕ) (plan : OpenPlan) → IsAcceptedAt path plan asked → code ≡ 8 → TellsPaths before.opener → misses (raw_mode plan) (before.opener.holds path) ≡ true
  pub found : (path : List ℕ) (plan : OpenPlan) → IsAcceptedAt path plan asked → TellsWellFormed old → TellsPaths before.opener
      → misses (raw_mode plan) (before.opener.holds path) ≡ true → (code ≡ 8) ⊎ ((code ≡ 5) ⊎ (code ≡ 7))
  pub kept : TellsPaths before.opener → LeavesPaths code asked → HoldsTheSame before.opener after.opener
  pub others : TellsPaths before.opener → KeepsOthers asked before.opener after.opener
  pub left : (path : List ℕ) (plan : OpenPlan) → IsAcceptedAt path plan asked → code ≡ 4 → TellsPaths before.opener
      → after.opener.holds path ≡ Some (opened_bytes (raw_mode plan) (before.opener.holds path))
  pub smooth : (path mode : List ℕ) (args : OpenArgs) (plan : OpenPlan) (calls : List Call) → asked ≡ Some (Run path mode args) → built_in_plan mode args ≡ Ok plan → TellsCalls old calls → TellsPaths before.opener
      → IsSmoothOutside old new before after → code ≢ 7 → DoesAsTheModel code path plan calls before after
  pub printed : (path mode : List ℕ) (args : OpenArgs) → code ≡ 0 → asked ≡ Some (Run path mode args) → PrintsReplies path mode args old new before after
  pub help : code ≡ 0 → asked ≡ Some Help → Prints before.sink help_text after.sink
  pub version : code ≡ 0 → asked ≡ Some Version → Prints before.sink version_text after.sink
