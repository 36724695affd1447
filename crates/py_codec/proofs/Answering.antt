-- What a handler answers to a run, and how its treatment writes it or with which fault it refuses.
use Rattle.std.proofs.Common.{◌≡◌, ℕ, ◌+◌, ◌-◌, ◌≤◌, ◌<◌, false, cond, inr, List, length, take, Option, Some, None, refl, sym, ap, ◌∙◌, arith}
use Rattle.std.proofs.lemmas.Bool.{cond-true, cond-false}
use Rattle.std.proofs.lemmas.Bool.Decides.{nat_tests}
use Rattle.py_flat.specs.declared.fault.IoFault.TheVariants.{UnicodeEncodeError, BadRestart}
use Rattle.py_plain.specs.declared.encoding.Encoding.{Encoding}
use Rattle.py_plain.specs.Encode.{RefusesRun, text_bytes, replacement, written_as, written_if}
use Rattle.py_codec.specs.declared.error_handler.EncodeReplace.{EncodeReplace}
use Rattle.py_codec.specs.declared.error_handler.EncodeReplace.TheVariants.{Str, Bytes}
use Rattle.py_codec.specs.declared.handler_ref.HandlerRef.{HandlerRef}
use Rattle.py_codec.specs.declared.handler_ref.HandlerRef.TheVariants.{Builtin, Custom}
use Rattle.py_codec.specs.ErrorHandler.{EncodeMeaning, encode_answer}
use Rattle.py_codec.specs.Treating.{is_restart, written_by, custom_encode_fault, encode_treatment_by, encode_fault}
use Rattle.py_codec.specs.Substituting.{text_answer, run_answer, replacement_bytes, IsRunFault}
use Rattle.py_codec.proofs.Restarts.{is_restart-in}

pub is_restart-past : (start end restart : ℕ) → end < restart → is_restart start end restart ≡ false
is_restart-past start end restart past = grind (arith, nat_tests)

-- a text that is given with the end of the run is treated as a built-in handler's
text_written : (encoding : Encoding) (text : Option (List ℕ)) (place size last : ℕ) → 1 ≤ size → place + size ≤ last → written_if encoding text size ≡ written_by encoding place last (text_answer text (place + size))
text_written encoding None place size last some within = refl
text_written encoding (Some text) place size last some within =
    ap (λ used. written_as (text_bytes encoding text) used) (omega arith)
    ∙ sym (cond-true _ _ _ (is_restart-in place last (place + size) (omega arith) within))

text_fault : (text : Option (List ℕ)) (place size last : ℕ) → 1 ≤ size → place + size ≤ last → UnicodeEncodeError place (place + size) ≡ custom_encode_fault place (place + size) last (text_answer text (place + size))
text_fault None place size last some within = refl
text_fault (Some text) place size last some within = sym (cond-true _ _ _ (is_restart-in place last (place + size) (omega arith) within))

-- a replacement is written as its bytes
replacement_written : (encoding : Encoding) (given : EncodeReplace) (place last restart : ℕ) → written_by encoding place last (encode_answer given restart) ≡ cond (is_restart place last restart) (written_as (replacement_bytes encoding given) (restart - place)) RefusesRun
replacement_written encoding (Str text) place last restart = refl
replacement_written encoding (Bytes bytes) place last restart = refl

replacement_fault : (given : EncodeReplace) (start end last restart : ℕ) → custom_encode_fault start end last (encode_answer given restart) ≡ cond (is_restart start last restart) (UnicodeEncodeError start end) BadRestart
replacement_fault (Str text) start end last restart = refl
replacement_fault (Bytes bytes) start end last restart = refl

-- how a run is treated follows from the answer to it
run_treated : {H : Type 0} (meaning : H → EncodeMeaning) (errors : HandlerRef H) (encoding : Encoding) (text : List ℕ) (place : ℕ) (left : List ℕ) (size : ℕ) → 1 ≤ size → place + size ≤ length text → encode_treatment_by meaning errors encoding text place left size ≡ written_by encoding place (length text) (run_answer meaning errors encoding text place left size)
run_treated meaning (Builtin handler) encoding text place left size some within = text_written encoding (replacement handler (take size left)) place size (length text) some within
run_treated meaning (Custom handler) encoding text place left size some within = refl

run_fault : {H : Type 0} (meaning : H → EncodeMeaning) (errors : HandlerRef H) (encoding : Encoding) (text : List ℕ) (place : ℕ) (left : List ℕ) (size : ℕ) → 1 ≤ size → place + size ≤ length text → encode_fault meaning errors encoding text place (place + size) ≡ custom_encode_fault place (place + size) (length text) (run_answer meaning errors encoding text place left size)
run_fault meaning (Builtin handler) encoding text place left size some within = text_fault (replacement handler (take size left)) place size (length text) some within
run_fault meaning (Custom handler) encoding text place left size some within = refl

-- a restart is out of its bounds
pub bad_restart : {H : Type 0} (meaning : H → EncodeMeaning) (errors : HandlerRef H) (encoding : Encoding) (text : List ℕ) (place : ℕ) (left : List ℕ) (size : ℕ) (given : EncodeReplace) (restart : ℕ) → 1 ≤ size → place + size ≤ length text → run_answer meaning errors encoding text place left size ≡ encode_answer given restart → is_restart place (length text) restart ≡ false → IsRunFault (encode_treatment_by meaning errors encoding text place left size) BadRestart (encode_fault meaning errors encoding text place (place + size))
bad_restart meaning errors encoding text place left size given restart some within answers out = inr (
  run_treated meaning errors encoding text place left size some within
      ∙ ap (λ answer. written_by encoding place (length text) answer) answers
      ∙ replacement_written encoding given place (length text) restart
      ∙ cond-false _ _ _ out,
  sym (run_fault meaning errors encoding text place left size some within
      ∙ ap (λ answer. custom_encode_fault place (place + size) (length text) answer) answers
      ∙ replacement_fault given place (place + size) (length text) restart
      ∙ cond-false _ _ _ out),
)
