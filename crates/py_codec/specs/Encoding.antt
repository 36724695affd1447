-- What an encoding answers: the bytes of a whole text and the number of its characters, or the refusal that ends them.
use Rattle.std.specs.Prelude.{ℕ, List, length, Ok, Err}
use Rattle.py_flat.specs.declared.fault.IoFault.{IoFault}
use Rattle.py_plain.specs.declared.encoding.Encoding.{Encoding}
use Rattle.py_plain.specs.Encode.{EncodeEnding, AllWritten, AtRun, Encoded, encoded}
use Rattle.py_codec.specs.declared.handler_ref.HandlerRef.{HandlerRef}
use Rattle.py_codec.specs.ErrorHandler.{EncodeMeaning}
use Rattle.py_codec.specs.Treating.{encode_treatment_by, encode_fault}
use Rattle.py_codec.specs.Answers.{Expected}

-- an encoding that wasn't refused has the bytes of all characters
abbrev pub encode_ended : List ℕ → (total : ℕ) → (refusal : (start end : ℕ) → IoFault) → EncodeEnding → Expected
encode_ended bytes total refusal AllWritten = Ok (bytes, total)
encode_ended bytes total refusal (AtRun start end) = Err (refusal start end)

-- the encoding of some characters by a handler
abbrev pub encoded_by : {H : Type 0} → (H → EncodeMeaning) → HandlerRef H → Encoding → List ℕ → Encoded
encoded_by meaning errors encoding text = encoded encoding (encode_treatment_by meaning errors encoding text) text

-- the answer of an encoding of n characters
abbrev pub encoding_of : Encoded → (total : ℕ) → (refusal : (start end : ℕ) → IoFault) → Expected
encoding_of made total refusal = encode_ended made.bytes total refusal made.ending

-- what a call that encodes some characters by a handler answers, or out of memory
abbrev pub encoding_by : {H : Type 0} → (H → EncodeMeaning) → HandlerRef H → Encoding → List ℕ → Expected
encoding_by meaning errors encoding text = encoding_of (encoded_by meaning errors encoding text) (length text) (encode_fault meaning errors encoding text)
