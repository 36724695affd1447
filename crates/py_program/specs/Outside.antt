-- What the program does to its script and to its output.
use Rattle.std.specs.Prelude.{◌≡◌, ℕ, ◌<◌, ◌≤◌, ◌⊎◌, IsTrue, List, [], ◌++◌, length, map, Some, None, Result, Ok, Err, Vec, String, string_bytes}
use Rattle.std.specs.declared.alloc.Global.{Global}
use Rattle.py_flat.specs.Causes.{Rose}
use Rattle.py_flat.specs.BinaryStep.{IsFrontOf}
use Rattle.py_raw.specs.Source.{SourceView}
use Rattle.py_raw.specs.Sink.{SinkView}
use Rattle.py_calls.specs.declared.call.Call.{Call}
use Rattle.py_script.specs.Script.{script_calls}
use Rattle.py_program.specs.declared.status.Status.{Status}
use Rattle.py_program.specs.declared.status.Status.TheVariants as status

-- the words as the bytes of their texts
abbrev pub texts : List (String Global) → List (List ℕ)
texts words = map string_bytes words

-- The script.

-- how many bytes a script may have
abbrev pub script_limit : ℕ
script_limit = 1048576

-- a script that is too long, or has a malformed line
abbrev pub IsMalformed : List ℕ → Type 0
IsMalformed script = (script_limit < length script) ⊎ (script_calls script ≡ None)

-- the script was read to its end, and these are its calls
pub record ReadsScript (old : SourceView) (calls : List Call) (new : SourceView) : Type 0 where
  pub short : length old.left ≤ script_limit
  pub form : script_calls old.left ≡ Some calls
  pub end : new.left ≡ []

-- reading the script: its calls; or it is malformed, the source failed, or there is no memory
abbrev pub ScriptOutcome : SourceView → Result (Vec Call Global) Status → SourceView → Type 0
ScriptOutcome old (Ok calls) new = IsTrue old.tells → ReadsScript old calls.items new
ScriptOutcome old (Err status.ScriptMalformed) new = IsTrue old.tells → IsMalformed old.left
ScriptOutcome old (Err status.SourceFailed) new = Rose old.faults new.faults
ScriptOutcome old (Err status.NoMemory) new = Unit {0}
ScriptOutcome old (Err _) new = ⊥

-- The output.

-- where the sink tells what was written, these bytes were printed, after what was there
abbrev pub Prints : SinkView → List ℕ → SinkView → Type 0
Prints old bytes new = IsTrue old.tells → new.written ≡ old.written ++ bytes

-- where the sink tells what was written, a front of these bytes was printed, after what was there
abbrev pub PrintsFront : SinkView → List ℕ → SinkView → Type 0
PrintsFront old bytes new = IsTrue old.tells → (front : List ℕ) × IsFrontOf front bytes × (new.written ≡ old.written ++ front)

-- printing some bytes: all; or a front, since the sink failed or there is no memory
abbrev pub PrintOutcome : SinkView → List ℕ → Result (Unit {0}) Status → SinkView → Type 0
PrintOutcome old bytes (Ok done) new = Prints old bytes new
PrintOutcome old bytes (Err status.SinkFailed) new = Rose old.faults new.faults × PrintsFront old bytes new
PrintOutcome old bytes (Err status.NoMemory) new = PrintsFront old bytes new
PrintOutcome old bytes (Err _) new = ⊥

-- reading all bytes of a script: these; or it is too long, the source failed, or there is no memory
abbrev pub ReadOutcome : SourceView → Result (Vec ℕ Global) Status → SourceView → Type 0
ReadOutcome old (Ok bytes) new = (length bytes.items ≤ script_limit) × (IsTrue old.tells → (bytes.items ≡ old.left) × (new.left ≡ []))
ReadOutcome old (Err status.ScriptMalformed) new = IsTrue old.tells → script_limit < length old.left
ReadOutcome old (Err status.SourceFailed) new = Rose old.faults new.faults
ReadOutcome old (Err status.NoMemory) new = Unit {0}
ReadOutcome old (Err _) new = ⊥
