-- What a session that is asked for a line answers, by what its raw shows before and after.
use Rattle.std.specs.Prelude.{◌≡◌, ◌⊎◌, false, IsTrue, Some, None, Result, Ok, Err}
use Rattle.py_flat.specs.declared.fault.IoFault.TheVariants as fault
use Rattle.py_flat.specs.Bytes.{left_at}
use Rattle.py_flat.specs.Lines.{Lf, first_line}
use Rattle.py_flat.specs.Causes.{Rose}
use Rattle.py_flat.specs.Calls.{FileReply, Bytes, Refused}
use Rattle.py_raw.specs.RawStream.{Raw, WhereTold}
use Rattle.py_stream.specs.Kinds.{says_fault}
use Rattle.py_stream.specs.Opening.{RefusesRaw}
use Rattle.py_stream.specs.Access.{is_able}
use Rattle.py_stream.specs.declared.access.Access.TheVariants as access
use Rattle.py_calls.specs.Calls.{said}
use Rattle.py_open.specs.declared.open_refused.OpenRefused.{OpenRefused}
use Rattle.py_open.specs.Run.{IsSmooth}
use Rattle.py_callers.specs.declared.line_of_raw.FirstLine.{FirstLine}

-- the line that stands where a raw does, up to and with its LF; or out of memory
abbrev pub IsFirstLine : Raw → FileReply → Type 0
IsFirstLine raw reply = (reply ≡ Bytes (first_line Lf None (left_at raw.bytes raw.place))) ⊎ (reply ≡ Refused fault.NoMemory)

-- what reading the first line comes to: where the raw tells its bytes and its place and no count of it rose, the line
-- is answered; a fault comes only where the raw's faults rose
pub record AnswersLine (raw : Raw) (reply : FileReply) (back : Raw) : Type 0 where
  pub line : WhereTold raw (IsSmooth raw back → IsFirstLine raw reply)
  pub fault : IsTrue (says_fault reply) → Rose raw.faults back.faults

-- the reply, with the raw; or why the opening was refused, of a raw that is read from where it stands through a buffer of 8192 bytes
abbrev pub LineOutcome : {R : Type 0} → (R → Raw) → R → Result (FirstLine R) (OpenRefused R) → Type 0
LineOutcome shows raw (Ok first) = AnswersLine (shows raw) (said first.reply) (shows first.raw)
LineOutcome shows raw (Err refused) = RefusesRaw (is_able access.Read (Some 8192)) false (shows raw) (Some 8192) refused.fault (shows refused.raw)
