-- Texts that are refused before memory is taken for their bytes.
use Rattle.std.specs.Prelude.{◌≡◌, ℕ, Bool, true, false, not, List, Result, Err}
use Rattle.py_flat.specs.declared.fault.IoFault.{IoFault}
use Rattle.py_plain.specs.declared.encoding.Encoding.{Encoding}
use Rattle.py_plain.specs.declared.handler.Handler.TheVariants.{Strict}
use Rattle.py_plain.specs.Encode.{EncodeEnding, encode_treatment, encoded}
use Rattle.py_codec.specs.declared.handler_ref.HandlerRef.{HandlerRef}
use Rattle.py_codec.specs.declared.handler_ref.HandlerRef.TheVariants.{Builtin, Custom}
use Rattle.py_codec.specs.Laws.{writes_runs}

-- the handlers that refuse every run: strict and the two of surrogates
abbrev pub refuses_runs : {H : Type 0} → HandlerRef H → Bool
refuses_runs (Builtin handler) = not (writes_runs handler)
refuses_runs (Custom handler) = false

-- what ends the strict encoding of a text: its end, or its first run
abbrev pub strict_ending : Encoding → List ℕ → EncodeEnding
strict_ending encoding text = (encoded encoding (encode_treatment Strict encoding) text).ending

-- where a handler that refuses every run refuses the text, the answer is that refusal, and never running out of memory
abbrev pub RefusedFirst : {H E T : Type 0} → HandlerRef H → (expected : Result E IoFault) → Result T IoFault → Type 0
RefusedFirst errors expected result = (why : IoFault) → refuses_runs errors ≡ true → expected ≡ Err why → result ≡ Err why
