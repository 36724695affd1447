-- What a codec answers, built in or a user's own.
use Rattle.std.specs.Prelude.{◌≡◌, ℕ, ◌⊎◌, Bool, true, false, List, Option, Some, None, Result, Ok, Err}
use Rattle.py_flat.specs.declared.fault.IoFault.{IoFault}
use Rattle.py_flat.specs.declared.fault.IoFault.TheVariants.{NoMemory, UnicodeDecodeError, UnicodeEncodeError}
use Rattle.py_plain.specs.declared.handler.Handler.{Handler}
use Rattle.py_codec.specs.declared.handler_ref.HandlerRef.{HandlerRef}
use Rattle.py_codec.specs.ErrorHandler.{DecodeMeaning, EncodeMeaning}
use Rattle.py_codec.specs.Answers.{Expected}
use Rattle.py_incremental.specs.Incremental.{DecoderView, fresh, EncoderView}
use Rattle.py_codec.specs.Decoding.{decoding_by}
use Rattle.py_codec.specs.Encoding.{encoding_by}
use Rattle.py_registry.specs.declared.codec.PyCodec.{PyCodec}
use Rattle.py_registry.specs.declared.codec.PyCodec.TheVariants.{Builtin, Slot}
use Rattle.py_registry.specs.Slots.{SlotMeaning, meaning_of}

-- a codec makes bytes of texts: a built-in one, and a slot whose owner says so
abbrev pub is_text : {S : Type 0} → (S → ℕ → Bool) → PyCodec S → Bool
is_text texts (Builtin encoding) = true
is_text texts (Slot owner slot) = texts owner slot

-- a codec is a built-in one
abbrev pub is_built_in : {S : Type 0} → PyCodec S → Bool
is_built_in (Builtin encoding) = true
is_built_in (Slot owner slot) = false

-- the encoder of texts in pieces of a built-in codec
abbrev pub incremental_encoder : {S : Type 0} → PyCodec S → Handler → Option EncoderView
incremental_encoder (Builtin encoding) handler = Some (record { encoding = encoding; handler = handler })
incremental_encoder (Slot owner slot) handler = None

-- the decoder of bytes in pieces of a built-in codec, which has read nothing
abbrev pub incremental_decoder : {S : Type 0} → PyCodec S → Handler → Option DecoderView
incremental_decoder (Builtin encoding) handler = Some (fresh encoding handler)
incremental_decoder (Slot owner slot) handler = None

-- bytes or characters; or a refusal
abbrev pub Coded : Type 0
Coded = Result (List ℕ) IoFault

-- the list of an answer, without how much was used
abbrev pub list_of : Expected → Coded
list_of (Ok answer) = Ok answer.0
list_of (Err why) = Err why

-- the answer of a slot, its range as a fault
abbrev pub slot_answer : (refusal : (start end : ℕ) → IoFault) → Result (List ℕ) (ℕ × ℕ) → Coded
slot_answer refusal (Ok list) = Ok list
slot_answer refusal (Err range) = Err (refusal range.0 range.1)

-- the bytes of a text by a codec and a handler
abbrev pub codec_encoding : {S H : Type 0} → (S → SlotMeaning) → (H → DecodeMeaning) → (H → EncodeMeaning) → (text : List ℕ) → PyCodec S → HandlerRef H → Coded
codec_encoding slots decodes encodes text (Builtin encoding) errors = list_of (encoding_by encodes errors encoding text)
codec_encoding slots decodes encodes text (Slot owner slot) errors = slot_answer UnicodeEncodeError (slots owner slot text (meaning_of decodes encodes errors))

-- the text of some bytes, after which none follow, by a codec and a handler
abbrev pub codec_decoding : {S H : Type 0} → (S → SlotMeaning) → (H → DecodeMeaning) → (H → EncodeMeaning) → (bytes : List ℕ) → PyCodec S → HandlerRef H → Coded
codec_decoding slots decodes encodes bytes (Builtin encoding) errors = list_of (decoding_by decodes errors encoding true bytes)
codec_decoding slots decodes encodes bytes (Slot owner slot) errors = slot_answer UnicodeDecodeError (slots owner slot bytes (meaning_of decodes encodes errors))

-- an answer by the list that `shown` reads off its value
abbrev pub listed : {T : Type 0} → (shown : T → List ℕ) → Result T IoFault → Coded
listed shown (Ok value) = Ok (shown value)
listed shown (Err why) = Err why

-- an answer is what was expected, or out of memory
abbrev pub IsExpected : {T : Type 0} → Result T IoFault → (expected : Result T IoFault) → Type 0
IsExpected (Ok value) expected = expected ≡ Ok value
IsExpected (Err why) expected = (why ≡ NoMemory) ⊎ (expected ≡ Err why)

-- an answer, by the list that `shown` reads off its value, is what was expected, or out of memory
abbrev pub IsCoded : {T : Type 0} → (shown : T → List ℕ) → Result T IoFault → Coded → Type 0
IsCoded shown result expected = IsExpected (listed shown result) expected
