-- What a handler of a user's own answers.
use Rattle.std.specs.Prelude.{ℕ, List, chars}
use Rattle.std.specs.String.{string_bytes}
use Rattle.py_plain.specs.declared.encoding.Encoding.{Encoding}
use Rattle.py_codec.specs.declared.error_handler.EncodeReplace.{EncodeReplace}
use Rattle.py_codec.specs.declared.error_handler.EncodeReplace.TheVariants.{Str, Bytes}

-- a text in place of the range, and the byte place where decoding goes on; or a refusal
pub data DecodeAnswer : Type 0 where
  ReplacedBy : (characters : List ℕ) (restart : ℕ) → DecodeAnswer
  DecodeRefused : DecodeAnswer

-- a text, to be encoded itself, or bytes in place of the run, and the character place where encoding goes on; or a refusal
pub data EncodeAnswer : Type 0 where
  TextFor : (characters : List ℕ) (restart : ℕ) → EncodeAnswer
  BytesFor : (bytes : List ℕ) (restart : ℕ) → EncodeAnswer
  EncodeRefused : EncodeAnswer

-- what is answered to a range of some bytes, from its start to before its end
abbrev pub DecodeMeaning : Type 0
DecodeMeaning = Encoding → List ℕ → (start end : ℕ) → DecodeAnswer

-- what is answered to a run of some characters, from its start to before its end
abbrev pub EncodeMeaning : Type 0
EncodeMeaning = Encoding → List ℕ → (start end : ℕ) → EncodeAnswer

-- the program's replacement and restart, as an answer
abbrev pub encode_answer : EncodeReplace → ℕ → EncodeAnswer
encode_answer (Str text) restart = TextFor (chars (string_bytes text)) restart
encode_answer (Bytes bytes) restart = BytesFor bytes.items restart
