-- The flat file that a plan opens over what a path holds.
use Rattle.std.specs.Prelude.{ℕ, Bool, true, List, length, Option, Some, None, if◌then◌else◌}
use Rattle.py_flat.specs.declared.life.Life.TheVariants as life
use Rattle.py_flat.specs.FlatFile.{FlatFile}
use Rattle.py_plain_text.specs.TextFile.{TextFile}
use Rattle.py_stream.specs.Stream.{buffering_of}
use Rattle.py_stream.specs.Access.{can_of}
use Rattle.py_calls.specs.declared.plan.PlanKind.{PlanKind}
use Rattle.py_calls.specs.declared.plan.PlanKind.TheVariants as kind
use Rattle.py_calls.specs.declared.plan.TextPlan.{TextPlan}
use Rattle.py_calls.specs.declared.mode.Mode.{Mode}
use Rattle.py_calls.specs.declared.plan.OpenPlan.{OpenPlan}
use Rattle.py_open.specs.TextOpening.{text_opened}
use Rattle.py_open.specs.Session.{SessionFile, OfText, OfBinary}
use Rattle.py_open.specs.Opening.{access_of, text_settings}

-- where a session begins on an opener's raw, which can seek and stands at its start: one that appends begins at the end
abbrev pub begins_with : Bool → List ℕ → ℕ
begins_with appends bytes = if appends then length bytes else 0

-- the text that is opened over bytes by a mode
abbrev pub text_by : Mode → TextPlan → List ℕ → TextFile
text_by mode text bytes = text_opened bytes (begins_with (can_of (access_of mode) true).appending bytes) (can_of (access_of mode) true) (text_settings text)

-- the stream of bytes that is opened over bytes by a mode, with a buffer or without
abbrev pub bytes_by : Mode → (buffer : Option ℕ) → List ℕ → FlatFile
bytes_by mode buffer bytes = record {
  bytes = bytes;
  place = begins_with (can_of (access_of mode) true).appending bytes;
  can = can_of (access_of mode) true;
  buffering = buffering_of buffer;
  life = life.Live;
}

-- the flat file of a session over bytes, by what is planned
abbrev pub file_by : PlanKind → Mode → List ℕ → SessionFile
file_by (kind.Text text) mode bytes = OfText (text_by mode text bytes)
file_by (kind.Buffered size) mode bytes = OfBinary (bytes_by mode (Some size) bytes)
file_by kind.Bare mode bytes = OfBinary (bytes_by mode None bytes)

-- the flat file that a plan opens over bytes
abbrev pub opened_file : OpenPlan → List ℕ → SessionFile
opened_file plan bytes = file_by plan.kind plan.mode bytes
