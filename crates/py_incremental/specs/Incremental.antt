-- The incremental types: what they keep, and what a call answers and leaves.
use Rattle.std.specs.Prelude.{◌≡◌, ℕ, ◌⊎◌, Bool, List, [], ◌++◌, length, drop, Result, Ok, Err, Vec, String}
use Rattle.std.specs.declared.alloc.Global.{Global}
use Rattle.py_flat.specs.declared.fault.IoFault.{IoFault}
use Rattle.py_flat.specs.declared.fault.IoFault.TheVariants as fault
use Rattle.py_plain.specs.declared.encoding.Encoding.{Encoding}
use Rattle.py_plain.specs.declared.handler.Handler.{Handler}
use Rattle.py_plain.specs.Units.{Order, Unknown}
use Rattle.py_plain.specs.Handlers.{treatment}
use Rattle.py_plain.specs.Items.{Walk}
use Rattle.py_plain.specs.Pieces.{walk_at}
use Rattle.py_codec.specs.declared.handler_ref.HandlerRef.TheVariants.{Builtin}
use Rattle.py_codec.specs.Answers.{Expected, text_of, bytes_of, IsAnswer}
use Rattle.py_codec.specs.Decoding.{decoding_of}
use Rattle.py_codec.specs.Encoding.{encoding_by}

-- a decoder: what it reads by, the order that it reached, and the bytes of a sequence that the end of the last piece cut. None of
-- these encodings has a mark, so that the order stays unknown; one that has a mark has used no byte as long as it is
pub record DecoderView : Type 0 where
  pub encoding : Encoding
  pub handler : Handler
  pub order : Order
  pub held : List ℕ

-- a decoder that has read nothing
abbrev pub fresh : Encoding → Handler → DecoderView
fresh encoding handler = record { encoding = encoding; handler = handler; order = Unknown; held = [] }

-- an encoder; it keeps nothing between pieces
pub record EncoderView : Type 0 where
  pub encoding : Encoding
  pub handler : Handler

-- the meaning of a handler of a user's own where there is none: incremental encoders have a built-in handler
abbrev pub nobody : {Answers : Type 0} → ⊥ → Answers
nobody handler = absurd handler

-- the walk over the bytes that a decoder holds and a piece after them, in the order that it reached
abbrev pub walk_with : DecoderView → (last : Bool) → List ℕ → Walk
walk_with decoder last bytes = walk_at decoder.encoding (treatment decoder.handler decoder.encoding) last decoder.order 0 (decoder.held ++ bytes)

-- the decoding of the bytes that a decoder holds and a piece after them; the places of a refusal count from the first
-- held byte
abbrev pub decoding_with : DecoderView → (last : Bool) → List ℕ → Expected
decoding_with decoder last bytes = decoding_of (walk_with decoder last bytes) (length (decoder.held ++ bytes)) fault.UnicodeDecodeError

-- what is held after a piece of which n bytes, the held ones with them, were used, and the order that was reached
abbrev pub holding : DecoderView → (last : Bool) → List ℕ → (used : ℕ) → DecoderView
holding decoder last bytes used = record decoder { order = (walk_with decoder last bytes).order; held = drop used (decoder.held ++ bytes) }

-- a text is that of the decoding, and what it left unused is held; a refusal is the decoding's or running out of memory, and
-- leaves all as it was
abbrev pub DecoderStep : DecoderView → (last : Bool) → List ℕ → Result (String Global) IoFault → DecoderView → Type 0
DecoderStep before last bytes (Ok text) after = (used : ℕ) × (decoding_with before last bytes ≡ Ok (text_of text, used)) × (after ≡ holding before last bytes used)
DecoderStep before last bytes (Err why) after = (after ≡ before) × ((why ≡ fault.NoMemory) ⊎ (decoding_with before last bytes ≡ Err why))

-- the encoding of a piece
abbrev pub encoding_with : EncoderView → List ℕ → Expected
encoding_with encoder text = encoding_by nobody (Builtin encoder.handler) encoder.encoding text

-- an encoder answers the encoding of a piece, without the number of its characters, or running out of memory
abbrev pub EncoderAnswer : EncoderView → List ℕ → Result (Vec ℕ Global) IoFault → Type 0
EncoderAnswer encoder text (Ok bytes) = (total : ℕ) × IsAnswer bytes_of (Ok (bytes, total)) (encoding_with encoder text)
EncoderAnswer encoder text (Err why) = IsAnswer bytes_of (Err why) (encoding_with encoder text)
