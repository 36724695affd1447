-- How a handler given by reference treats refused ranges and runs, and with which fault it refuses.
use Rattle.std.specs.Prelude.{ℕ, ◌+◌, ◌-◌, Bool, ◌&&◌, nat_lt, nat_le, List, length, if◌then◌else◌}
use Rattle.py_flat.specs.declared.fault.IoFault.{IoFault}
use Rattle.py_flat.specs.declared.fault.IoFault.TheVariants.{UnicodeDecodeError, UnicodeEncodeError, BadRestart}
use Rattle.py_plain.specs.declared.encoding.Encoding.{Encoding}
use Rattle.py_plain.specs.Handlers.{Handled, Replaced, Refuses, Treatment, treatment}
use Rattle.py_plain.specs.Encode.{EncodeHandled, Written, RefusesRun, EncodeTreatment, encode_treatment, text_bytes, written_as}
use Rattle.py_codec.specs.declared.handler_ref.HandlerRef.{HandlerRef}
use Rattle.py_codec.specs.declared.handler_ref.HandlerRef.TheVariants.{Builtin, Custom}
use Rattle.py_codec.specs.ErrorHandler.{DecodeAnswer, ReplacedBy, DecodeRefused, EncodeAnswer, TextFor, BytesFor, EncodeRefused, DecodeMeaning, EncodeMeaning}

-- a restart lies past the start of the range or run, and no further than the end of the argument
abbrev pub is_restart : (start end : ℕ) → ℕ → Bool
is_restart start end restart = nat_lt start restart && nat_le restart end

-- Decoding.

-- an answer whose restart is out of its bounds stands for nothing
abbrev pub handled_by : (start end : ℕ) → DecodeAnswer → Handled
handled_by start end (ReplacedBy characters restart) = if is_restart start end restart then Replaced characters (restart - start) else Refuses
handled_by start end DecodeRefused = Refuses

-- a handler of a user's own is asked with all bytes of the argument
abbrev pub custom_treatment : DecodeMeaning → Encoding → List ℕ → Treatment
custom_treatment answers encoding bytes place rest size = handled_by place (length bytes) (answers encoding bytes place (place + size))

-- how a handler given by reference treats the refused ranges of some bytes
abbrev pub treatment_by : {H : Type 0} → (H → DecodeMeaning) → HandlerRef H → Encoding → List ℕ → Treatment
treatment_by meaning (Builtin handler) encoding bytes = treatment handler encoding
treatment_by meaning (Custom handler) encoding bytes = custom_treatment (meaning handler) encoding bytes

-- an answer whose text doesn't stand for the range has a restart out of its bounds
abbrev pub custom_decode_fault : (start end : ℕ) → DecodeAnswer → IoFault
custom_decode_fault start end (ReplacedBy characters restart) = BadRestart
custom_decode_fault start end DecodeRefused = UnicodeDecodeError start end

-- why decoding stops at a refused range
abbrev pub decode_fault : {H : Type 0} → (H → DecodeMeaning) → HandlerRef H → Encoding → List ℕ → (start end : ℕ) → IoFault
decode_fault meaning (Builtin handler) encoding bytes start end = UnicodeDecodeError start end
decode_fault meaning (Custom handler) encoding bytes start end = custom_decode_fault start end (meaning handler encoding bytes start end)

-- Encoding.

-- an answer stands for nothing where its restart is out of its bounds, or its text has a character without bytes
abbrev pub written_by : Encoding → (start end : ℕ) → EncodeAnswer → EncodeHandled
written_by encoding start end (TextFor characters restart) = if is_restart start end restart then written_as (text_bytes encoding characters) (restart - start) else RefusesRun
written_by encoding start end (BytesFor bytes restart) = if is_restart start end restart then Written bytes (restart - start) else RefusesRun
written_by encoding start end EncodeRefused = RefusesRun

-- a handler of a user's own is asked with all characters of the argument
abbrev pub custom_encode_treatment : EncodeMeaning → Encoding → List ℕ → EncodeTreatment
custom_encode_treatment answers encoding text place rest size = written_by encoding place (length text) (answers encoding text place (place + size))

-- how a handler given by reference treats the runs of some characters
abbrev pub encode_treatment_by : {H : Type 0} → (H → EncodeMeaning) → HandlerRef H → Encoding → List ℕ → EncodeTreatment
encode_treatment_by meaning (Builtin handler) encoding text = encode_treatment handler encoding
encode_treatment_by meaning (Custom handler) encoding text = custom_encode_treatment (meaning handler) encoding text

-- the fault of an answer that stands for nothing: by its restart, or else by its text
abbrev pub unless_restart : (start end restart : ℕ) (last : ℕ) → IoFault
unless_restart start end restart last = if is_restart start last restart then UnicodeEncodeError start end else BadRestart

-- an answer that doesn't stand for the run has a restart out of its bounds, or else a text that has no bytes itself
abbrev pub custom_encode_fault : (start end last : ℕ) → EncodeAnswer → IoFault
custom_encode_fault start end last (TextFor characters restart) = unless_restart start end restart last
custom_encode_fault start end last (BytesFor bytes restart) = unless_restart start end restart last
custom_encode_fault start end last EncodeRefused = UnicodeEncodeError start end

-- why encoding stops at a run
abbrev pub encode_fault : {H : Type 0} → (H → EncodeMeaning) → HandlerRef H → Encoding → List ℕ → (start end : ℕ) → IoFault
encode_fault meaning (Builtin handler) encoding text start end = UnicodeEncodeError start end
encode_fault meaning (Custom handler) encoding text start end = custom_encode_fault start end (length text) (meaning handler encoding text start end)
