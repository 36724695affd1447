-- What the calls of a registry answer.
use Rattle.std.specs.Prelude.{◌≡◌, ◌≢◌, ℕ, ◌^◌, Bool, true, false, nat_lt, if◌then◌else◌, List, [], codes, Option, Some, None, Result, Ok, Err}
use Rattle.py_flat.specs.declared.fault.IoFault.{IoFault}
use Rattle.py_flat.specs.declared.fault.IoFault.TheVariants.{NoMemory, TooFar, UnknownEncoding, UnknownHandler}
use Rattle.py_plain.specs.declared.encoding.Encoding.{Encoding}
use Rattle.py_codec.specs.declared.handler_ref.HandlerRef.{HandlerRef}
use Rattle.py_codec.specs.Refusing.{RefusedFirst}
use Rattle.py_registry.specs.declared.codec.PyCodec.{PyCodec}
use Rattle.py_registry.specs.declared.codec.PyCodec.TheVariants.{Builtin}
use Rattle.py_registry.specs.declared.path.Probe.{Probe}
use Rattle.py_registry.specs.declared.path.Probe.TheVariants.{Hit, Search}
use Rattle.py_registry.specs.Coding.{is_text, Coded, listed, IsExpected}
use Rattle.py_registry.specs.Machine.{Machine, path_of, known, found, looked_up, handler_of}

-- a value that is there, or a fault
abbrev pub there_or : {T : Type 0} → IoFault → Option T → Result T IoFault
there_or fault None = Err fault
there_or fault (Some value) = Ok value

-- search functions are asked for a name: it is known without them of no codec, and there are some
pub record AsksFunctions {S H : Type 0} (machine : Machine S H) (name : List ℕ) : Type 0 where
  pub unknown : known machine name ≡ None
  pub functions : path_of machine ≢ []

-- a probe answers the codec that is known, or else the functions to be asked, or, where there are some, running out of memory
abbrev pub IsProbe : {S : Type 0} → (known : Option (PyCodec S)) → (path : List S) → Result (Probe S) IoFault → Type 0
IsProbe known path (Ok (Hit codec)) = known ≡ Some codec
IsProbe known path (Ok (Search functions)) = (known ≡ None) × (functions ≡ path)
IsProbe known path (Err why) = (known ≡ None) × (path ≢ []) × (why ≡ NoMemory)

-- an answer is what was expected, and what it leaves is `after`; or it is the expected refusal or running out of memory, and
-- leaves all as it was
abbrev pub Answers : {T M : Type 0} → Result T IoFault → (expected : Result T IoFault) → (before after new : M) → Type 0
Answers (Ok value) expected before after new = IsExpected (Ok value) expected × (new ≡ after)
Answers (Err why) expected before after new = IsExpected (Err why) expected × (new ≡ before)

-- the name of a handler that wasn't given is that of strict
abbrev pub name_or_strict : Option (List ℕ) → List ℕ
name_or_strict None = codes "strict"
name_or_strict (Some name) = name

-- a value that a test accepts
abbrev pub if_accepted : {T : Type 0} → Bool → T → Option T
if_accepted true value = Some value
if_accepted false value = None

-- a codec that is there and that a test accepts
abbrev pub only : {T : Type 0} → (T → Bool) → Option T → Option T
only accepts None = None
only accepts (Some value) = if_accepted (accepts value) value

-- a codec: any, or only one that a test accepts, where that is asked for
abbrev pub only_if : {T : Type 0} → (only_such : Bool) → (T → Bool) → Option T → Option T
only_if true accepts codec = only accepts codec
only_if false accepts codec = codec

-- the codec that was found and the handler that was found; the codec is missed before the handler
abbrev pub chosen : {S H : Type 0} → Option (PyCodec S) → Option (HandlerRef H) → Result (PyCodec S × HandlerRef H) IoFault
chosen None errors = Err UnknownEncoding
chosen (Some codec) None = Err UnknownHandler
chosen (Some codec) (Some handler) = Ok (codec, handler)

-- the codec of a name and the handler of another, in a machine
abbrev pub chosen_by : {S H : Type 0} → (S → List ℕ → Option (PyCodec S)) → (S → ℕ → Bool) → Machine S H → (only_text : Bool) → (name : List ℕ) → (errors : Option (List ℕ)) → Result (PyCodec S × HandlerRef H) IoFault
chosen_by finds texts machine only_text name errors = chosen (only_if only_text (is_text texts) (found finds machine name)) (handler_of machine (name_or_strict errors))

-- where a codec is known, so that no function has to be asked for it, and the choice of it and of a handler is refused, an
-- answer is that refusal, and never running out of memory
abbrev pub ChosenFirst : {S H T : Type 0} → (finds : S → List ℕ → Option (PyCodec S)) → (texts : S → ℕ → Bool) → Machine S H → (only_text : Bool) → (name : List ℕ) → (errors : Option (List ℕ)) → Result T IoFault → Type 0
ChosenFirst {S} finds texts machine only_text name errors result = (codec : PyCodec S) (why : IoFault) → known machine name ≡ Some codec → chosen_by finds texts machine only_text name errors ≡ Err why → result ≡ Err why

-- the work of a codec with a handler
abbrev pub worked : {S H : Type 0} → (PyCodec S → HandlerRef H → Coded) → Result (PyCodec S × HandlerRef H) IoFault → Coded
worked work (Ok pair) = work pair.0 pair.1
worked work (Err why) = Err why

-- an answer is the expected work's, and what it leaves is `after`; a refusal and running out of memory leave all as it was
abbrev pub Works : {T M : Type 0} → (shown : T → List ℕ) → Result T IoFault → Coded → (before after new : M) → Type 0
Works shown result expected before after new = Answers (listed shown result) expected before after new

-- by the codec of one name and the handler of another an answer is their work's, and what it leaves is what a lookup of the
-- codec's name leaves; a refusal and running out of memory leave all as it was
abbrev pub WorksByNames : {S H T : Type 0} → (shown : T → List ℕ) → (finds : S → List ℕ → Option (PyCodec S)) → (texts : S → ℕ → Bool) → (work : PyCodec S → HandlerRef H → Coded) → (only_text : Bool) → (name : List ℕ) → (errors : Option (List ℕ)) → (before new : Machine S H) → Result T IoFault → Type 0
WorksByNames shown finds texts work only_text name errors before new result =
    Works shown result (worked work (chosen_by finds texts before only_text name errors)) before (looked_up finds before name) new

-- where a codec is known and built in, and the handler is there and refuses every run, a text that is refused is answered with
-- its refusal, and never with running out of memory
abbrev pub RefusedFirstBy : {S H T : Type 0} → (known : Option (PyCodec S)) → (errors : Option (HandlerRef H)) → (work : PyCodec S → HandlerRef H → Coded) → Result T IoFault → Type 0
RefusedFirstBy {S} {H} known errors work result = (encoding : Encoding) (handler : HandlerRef H) → known ≡ Some (Builtin encoding) → errors ≡ Some handler → RefusedFirst handler (work (Builtin encoding) handler) result

-- a text that is refused by the codec of one name and the handler of another is answered first with its refusal, where the
-- codec is known and built in, and the handler is there and refuses every run
abbrev pub RefusedFirstByNames : {S H T : Type 0} → (work : PyCodec S → HandlerRef H → Coded) → (name : List ℕ) → (errors : Option (List ℕ)) → Machine S H → Result T IoFault → Type 0
RefusedFirstByNames work name errors machine result = RefusedFirstBy (known machine name) (handler_of machine (name_or_strict errors)) work result

-- the number that a function is registered under, up to the greatest of its type
abbrev pub number_or_too_far : ℕ → Result ℕ IoFault
number_or_too_far number = if nat_lt number (2 ^ 64) then Ok number else Err TooFar
