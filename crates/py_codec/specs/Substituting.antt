-- What is written for a run of characters without bytes.
use Rattle.std.specs.Prelude.{◌≡◌, ℕ, ◌+◌, ◌≤◌, ◌⊎◌, List, ◌++◌, take, Option, Some, None, chars}
use Rattle.std.specs.String.{string_bytes}
use Rattle.py_flat.specs.declared.fault.IoFault.{IoFault}
use Rattle.py_flat.specs.declared.fault.IoFault.TheVariants.{NoMemory}
use Rattle.py_plain.specs.declared.encoding.Encoding.{Encoding}
use Rattle.py_plain.specs.Encode.{EncodeHandled, Written, RefusesRun, text_bytes, replacement}
use Rattle.py_codec.specs.declared.error_handler.EncodeReplace.{EncodeReplace}
use Rattle.py_codec.specs.declared.error_handler.EncodeReplace.TheVariants.{Str, Bytes}
use Rattle.py_codec.specs.declared.handler_ref.HandlerRef.{HandlerRef}
use Rattle.py_codec.specs.declared.handler_ref.HandlerRef.TheVariants.{Builtin, Custom}
use Rattle.py_codec.specs.ErrorHandler.{EncodeAnswer, TextFor, EncodeRefused, EncodeMeaning}

-- a text, where there is one, with the place where encoding goes on
abbrev pub text_answer : Option (List ℕ) → (restart : ℕ) → EncodeAnswer
text_answer None restart = EncodeRefused
text_answer (Some text) restart = TextFor text restart

-- what any handler answers to the run of n characters that a text has at a place; `left` is the text from there on
abbrev pub run_answer : {H : Type 0} → (H → EncodeMeaning) → HandlerRef H → Encoding → (text : List ℕ) (place : ℕ) (left : List ℕ) (size : ℕ) → EncodeAnswer
run_answer meaning (Builtin handler) encoding text place left size = text_answer (replacement handler (take size left)) (place + size)
run_answer meaning (Custom handler) encoding text place left size = meaning handler encoding text place (place + size)

-- the bytes that a replacement is written as
abbrev pub replacement_bytes : Encoding → EncodeReplace → Option (List ℕ)
replacement_bytes encoding (Str text) = text_bytes encoding (chars (string_bytes text))
replacement_bytes encoding (Bytes bytes) = Some bytes.items

-- bytes that are there were appended
pub record IsAppended (bytes : Option (List ℕ)) (before after : List ℕ) : Type 0 where
  pub written : List ℕ
  pub is : bytes ≡ Some written
  pub appended : after ≡ before ++ written

-- what a treatment writes for a run was appended, and stands for n characters
pub record IsTreated (handled : EncodeHandled) (before after : List ℕ) (used : ℕ) : Type 0 where
  pub written : List ℕ
  pub is : handled ≡ Written written used
  pub appended : after ≡ before ++ written
  pub some : 1 ≤ used

-- a fault says out of memory; or that of a run which the treatment refuses
abbrev pub IsRunFault : EncodeHandled → IoFault → (refusal : IoFault) → Type 0
IsRunFault handled fault refusal = (fault ≡ NoMemory) ⊎ ((handled ≡ RefusesRun) × (fault ≡ refusal))
