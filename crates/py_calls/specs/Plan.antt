-- What an opening by a mode and arguments sets up, or why it is refused, before any raw is asked (Python's documentation of `open`).
use Rattle.std.specs.Prelude.{◌≡◌, ℕ, ◌<◌, ◌⊎◌, Bool, true, false, ◌&&◌, ◌||◌, ℤ, pos, negsuc, is_none, is_some, List, Option, Some, None, IsSome, Result, Ok, Err, nat_eq, if◌then◌else◌}
use Rattle.py_flat.specs.declared.mode_error.ParseModeError.{ParseModeError}
use Rattle.py_flat.specs.declared.fault.IoFault.{IoFault}
use Rattle.py_flat.specs.declared.fault.IoFault.TheVariants.{NoMemory, Unsupported, BadArgument, ParseMode}
use Rattle.py_plain.specs.declared.newlines.Newlines.{Newlines}
use Rattle.py_plain.specs.NewlineArgument.{rule_of}
use Rattle.py_codec.specs.declared.no_handler.NoHandler.{NoHandler}
use Rattle.py_registry.specs.declared.codec.PyCodec.{PyCodec}
use Rattle.py_registry.specs.declared.no_search.NoSearch.{NoSearch}
use Rattle.py_registry.specs.Machine.{Machine, fresh, looked_up}
use Rattle.py_registry.specs.Answers.{name_or_strict, AsksFunctions}
use Rattle.py_text.specs.declared.coder.Coder.{Coder}
use Rattle.py_text.specs.declared.text_settings.TextSettings.{TextSettings}
use Rattle.py_text.specs.Coders.{is_of_stream, coder_by}
use Rattle.py_calls.specs.declared.mode.Mode.{Mode}
use Rattle.py_calls.specs.declared.mode.EncodeMode.{EncodeMode}
use Rattle.py_calls.specs.declared.mode.EncodeMode.TheVariants.{Text, Bytes}
use Rattle.py_calls.specs.declared.open_args.OpenArgs.{OpenArgs}
use Rattle.py_calls.specs.declared.plan.OpenPlan.{OpenPlan}
use Rattle.py_calls.specs.declared.plan.PlanKind.{PlanKind}
use Rattle.py_calls.specs.declared.plan.PlanKind.TheVariants as kind
use Rattle.py_calls.specs.declared.plan.TextPlan.{TextPlan}
use Rattle.py_calls.specs.Mode.{mode_of, is_append, reads, writes}
use Rattle.py_calls.specs.Names.{encoding_name}

-- how large a buffer is asked for, in bytes: none by 0, which is unbuffered; the default by 1 and by any negative number
abbrev pub buffer_size_of : ℤ → Option ℕ
buffer_size_of (pos size) = if nat_eq size 0 then None else (if nat_eq size 1 then Some 8192 else Some size)
buffer_size_of (negsuc size) = Some 8192

-- whether a text is asked to be flushed after each line: by 1
abbrev pub is_line_buffered : ℤ → Bool
is_line_buffered (pos size) = nat_eq size 1
is_line_buffered (negsuc size) = false

-- whether an argument is given that only a text has: an encoding, a handler or a newline argument, whatever it says
abbrev pub gives_text_argument : OpenArgs → Bool
gives_text_argument args = is_some args.encoding || (is_some args.errors || is_some args.newline)

-- whether a text or a stream of bytes can't have an argument: a text has to have a buffer, and what a text alone has isn't for bytes
abbrev pub misfits : EncodeMode → OpenArgs → Bool
misfits Text args = is_none (buffer_size_of args.buffering)
misfits Bytes args = gives_text_argument args

-- whether an argument can't be had: chunks of no bytes, whatever the mode is, or one that its kind can't have
abbrev pub has_bad_argument : Mode → OpenArgs → Bool
has_bad_argument mode args = nat_eq args.chunk_size 0 || misfits mode.encode args

-- whether a file is asked to be read too that is written at its end alone, which isn't opened
abbrev pub reads_at_end : Mode → Bool
reads_at_end mode = mode.plus && is_append mode.file

-- the settings of a text by its arguments and its rule of line ends
abbrev pub settings_by : OpenArgs → Newlines → TextSettings
settings_by args rule = record { newline = rule; line_buffering = is_line_buffered args.buffering; write_through = false; chunk_size = args.chunk_size }

-- what a text decodes and encodes by: the codec and the handler that its names have in a registry, as far as the mode reads and writes
abbrev pub planned_coder : {S H : Type 0} → (finds : S → List ℕ → Option (PyCodec S)) → Machine S H → Mode → OpenArgs → Result Coder IoFault
planned_coder finds machine mode args = coder_by finds (reads mode) (writes mode) machine (encoding_name args.encoding) (name_or_strict args.errors)

-- a stream of bytes goes through a buffer of the size that is asked for, or is the bare raw
abbrev pub bytes_kind : Option ℕ → PlanKind
bytes_kind None = kind.Bare
bytes_kind (Some size) = kind.Buffered size

-- the plan of a mode with a kind
abbrev pub plan_with : Mode → Result PlanKind IoFault → Result OpenPlan IoFault
plan_with mode (Err why) = Err why
plan_with mode (Ok kind) = Ok (record { mode = mode; kind = kind })

-- a text by its buffer, its rule of line ends and what its names come to: it has to have a buffer, and a newline text that is none is
-- refused before a name is
abbrev pub text_by : (buffer : Option ℕ) → Option Newlines → OpenArgs → Result Coder IoFault → Result PlanKind IoFault
text_by None rule args coder = Err BadArgument
text_by (Some size) None args coder = Err BadArgument
text_by (Some size) (Some rule) args (Err why) = Err why
text_by (Some size) (Some rule) args (Ok coder) = Ok (kind.Text (record { buffer_size = size; coder = coder; settings = settings_by args rule }))

-- a text or a stream of bytes, whose arguments can be had
abbrev pub kind_by : EncodeMode → OpenArgs → Result Coder IoFault → Result PlanKind IoFault
kind_by Text args coder = text_by (buffer_size_of args.buffering) (rule_of args.newline) args coder
kind_by Bytes args coder = Ok (bytes_kind (buffer_size_of args.buffering))

-- what refuses a mode that is parsed before names are looked for: an argument that can't be had, then what isn't opened
abbrev pub refused_early : Mode → OpenArgs → Option IoFault
refused_early mode args =
    if has_bad_argument mode args then Some BadArgument
    else if reads_at_end mode then Some Unsupported
    else None

abbrev pub plan_unless : Option IoFault → Mode → OpenArgs → Result Coder IoFault → Result OpenPlan IoFault
plan_unless (Some why) mode args coder = Err why
plan_unless None mode args coder = plan_with mode (kind_by mode.encode args coder)

-- the plan of a mode that is parsed, by what its names come to
abbrev pub plan_by : Result Mode ParseModeError → OpenArgs → (Mode → Result Coder IoFault) → Result OpenPlan IoFault
plan_by (Err why) args coders = Err (ParseMode why)
plan_by (Ok mode) args coders = plan_unless (refused_early mode args) mode args (coders mode)

-- the plan of a mode and arguments, by a registry and what its search functions find. A malformed mode is refused first, whatever the
-- arguments are; then an argument that can't be had, what isn't opened, and a newline text that is none; the names of a text last
abbrev pub plan_of : {S H : Type 0} → (finds : S → List ℕ → Option (PyCodec S)) → Machine S H → List ℕ → OpenArgs → Result OpenPlan IoFault
plan_of finds machine mode args = plan_by (mode_of mode) args (λ said. planned_coder finds machine said args)

-- the plan where only what is built in has a name: by a new registry, which has no search functions and no handlers but its seven
abbrev pub built_in_plan : List ℕ → OpenArgs → Result OpenPlan IoFault
built_in_plan mode args = plan_of {S = NoSearch} {H = NoHandler} (λ function name. None) fresh mode args

-- What planning takes and leaves.

-- the names of a text are looked for: nothing refuses it before
pub record AsksNames (mode : List ℕ) (args : OpenArgs) : Type 0 where
  pub said : Mode
  pub named : mode_of mode ≡ Ok said
  pub is_text : said.encode ≡ Text
  pub early : refused_early said args ≡ None
  pub rule : IsSome (rule_of args.newline)

-- search functions are asked for the name of an encoding: the registry has some, and doesn't know the name without them
pub record PlanAsksFunctions {S H : Type 0} (machine : Machine S H) (mode : List ℕ) (args : OpenArgs) : Type 0 where
  pub names : AsksNames mode args
  pub asks : AsksFunctions machine (encoding_name args.encoding)

-- planning is refused: as the plan is, or when out of memory, which comes only where search functions are asked
abbrev pub RefusesPlan : {S H : Type 0} → (finds : S → List ℕ → Option (PyCodec S)) → Machine S H → List ℕ → OpenArgs → IoFault → Type 0
RefusesPlan finds machine mode args why = (plan_of finds machine mode args ≡ Err why) ⊎ ((why ≡ NoMemory) × PlanAsksFunctions machine mode args)

-- what an accepted plan leaves of the registry: of a text, what a lookup of its encoding's name leaves; else it is as it was
abbrev pub registry_left : {S H : Type 0} → (finds : S → List ℕ → Option (PyCodec S)) → Machine S H → OpenArgs → PlanKind → Machine S H
registry_left finds machine args (kind.Text text) = looked_up finds machine (encoding_name args.encoding)
registry_left finds machine args kind = machine

-- a text that can be opened by a mode: through a buffer and in chunks of some bytes, with a handler of its directions
pub record IsTextPlan (mode : Mode) (text : TextPlan) : Type 0 where
  pub buffer : 0 < text.buffer_size
  pub chunk : 0 < text.settings.chunk_size
  pub handler : is_of_stream (reads mode) (writes mode) text.coder.errors ≡ true

-- what can be opened by a mode
abbrev pub IsPlannedAs : Mode → PlanKind → Type 0
IsPlannedAs mode (kind.Text text) = IsTextPlan mode text
IsPlannedAs mode (kind.Buffered size) = 0 < size
IsPlannedAs mode kind.Bare = Unit {0}

-- a plan that can be opened, as each accepted one can
abbrev pub IsPlanned : OpenPlan → Type 0
IsPlanned plan = IsPlannedAs plan.mode plan.kind

-- the size of a plan's buffer in bytes; none of a bare raw
abbrev pub buffer_of : PlanKind → Option ℕ
buffer_of (kind.Text text) = Some text.buffer_size
buffer_of (kind.Buffered size) = Some size
buffer_of kind.Bare = None

-- what a plan's text decodes and encodes by; none of a stream of bytes
abbrev pub coder_in : PlanKind → Option Coder
coder_in (kind.Text text) = Some text.coder
coder_in other = None

-- the settings of a plan's text besides; none of a stream of bytes
abbrev pub settings_in : PlanKind → Option TextSettings
settings_in (kind.Text text) = Some text.settings
settings_in other = None

-- an accepted plan, which can be opened, and what it leaves of the registry
pub record Accepts {S H : Type 0} (finds : S → List ℕ → Option (PyCodec S)) (before : Machine S H) (mode : List ℕ) (args : OpenArgs) (plan : OpenPlan) (new : Machine S H) : Type 0 where
  pub planned : plan_of finds before mode args ≡ Ok plan
  pub may_open : IsPlanned plan
  pub left : new ≡ registry_left finds before args plan.kind

-- planning: an accepted plan; or a refusal, which leaves the registry as it was
abbrev pub PlanOutcome : {S H : Type 0} → (finds : S → List ℕ → Option (PyCodec S)) → Machine S H → List ℕ → OpenArgs → Result OpenPlan IoFault → Machine S H → Type 0
PlanOutcome finds before mode args (Ok plan) new = Accepts finds before mode args plan new
PlanOutcome finds before mode args (Err why) new = RefusesPlan finds before mode args why × (new ≡ before)

-- the plan of a text: through a buffer of the size that is asked for, by the codec and the handler that its names have, with the settings
-- that its arguments say
pub record PlansText {S H : Type 0} (finds : S → List ℕ → Option (PyCodec S)) (machine : Machine S H) (args : OpenArgs) (plan : OpenPlan) : Type 0 where
  pub text : TextPlan
  pub kind_is : plan.kind ≡ kind.Text text
  pub buffer : buffer_size_of args.buffering ≡ Some text.buffer_size
  pub coder : planned_coder finds machine plan.mode args ≡ Ok text.coder
  pub rule : Newlines
  pub newline : rule_of args.newline ≡ Some rule
  pub settings : text.settings ≡ settings_by args rule
