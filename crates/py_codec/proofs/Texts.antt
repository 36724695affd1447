-- A text's own bytes: encoded whatever the handler, decoded again, and what is encoded strictly.
use Rattle.std.proofs.Common.{◌≡◌, ℕ, ◌+◌, Bool, List, [], ◌∷◌, ◌++◌, length as len, Option, Some, None, Ok, refl, sym, ap, ◌∙◌}
use Rattle.std.specs.List.{All}
use Rattle.std.specs.Char.{IsScalar}
use Rattle.py_flat.specs.declared.fault.IoFault.{IoFault}
use Rattle.py_plain.specs.declared.encoding.Encoding.{Encoding}
use Rattle.py_plain.specs.declared.handler.Handler.TheVariants.{Strict}
use Rattle.py_plain.specs.Units.{Unknown}
use Rattle.py_plain.specs.Items.{Ending, Walk, characters_of}
use Rattle.py_plain.specs.Encode.{own_bytes, joined_bytes, text_bytes, run_length, EncodeTreatment, encode_treatment, EncodeEnding, AllWritten, AtRun, Encoded, first_written, characters_behind, onto_encoded, encoded_from}
use Rattle.py_plain.proofs.OwnText.{joined_bytes-parts, walk-text}
use Rattle.py_codec.specs.declared.handler_ref.HandlerRef.{HandlerRef}
use Rattle.py_codec.specs.declared.handler_ref.HandlerRef.TheVariants.{Builtin}
use Rattle.py_codec.specs.ErrorHandler.{DecodeMeaning, EncodeMeaning}
use Rattle.py_codec.specs.Treating.{treatment_by, decode_fault, encode_treatment_by, encode_fault}
use Rattle.py_codec.specs.Decoding.{ended, walk_by, decoding_by}
use Rattle.py_codec.specs.Encoding.{encode_ended, encoding_by}

-- Encoded.

-- an encoding by what is known of the bytes of the first character
abbrev begun : Encoding → EncodeTreatment → (place c : ℕ) → List ℕ → Option (List ℕ) → Encoded
begun encoding treat place c text own =
    let size = run_length encoding (c ∷ text) in
    let first = first_written treat place (c ∷ text) size own in
    onto_encoded place size first (encoded_from encoding treat (place + 1) (characters_behind first) text)

-- a text whose characters all have bytes, from a place on
pub written_from : (encoding : Encoding) (treat : EncodeTreatment) (place : ℕ) (text bytes : List ℕ) → text_bytes encoding text ≡ Some bytes → encoded_from encoding treat place 0 text ≡ record { bytes = bytes; ending = AllWritten }
written_from encoding treat place [] bytes is =
    let none : [] ≡ bytes = cc in
    ap (λ (bs : List ℕ). record { bytes = bs; ending = AllWritten }) none
written_from encoding treat place (c ∷ text) bytes is =
    let parts = joined_bytes-parts (own_bytes encoding c) (text_bytes encoding text) bytes is in
    ap (begun encoding treat place c text) parts.front_is
    ∙ (ap (λ (behind : Encoded). record { bytes = parts.front ++ behind.bytes; ending = behind.ending }) (written_from encoding treat (place + 1) text parts.back parts.back_is)
    ∙ ap (λ (bs : List ℕ). record { bytes = bs; ending = AllWritten }) (sym parts.whole))

-- whatever the handler, a text whose characters all have bytes is written as them
pub written : {H : Type 0} (meaning : H → EncodeMeaning) (errors : HandlerRef H) (encoding : Encoding) (text bytes : List ℕ) → text_bytes encoding text ≡ Some bytes → encoding_by meaning errors encoding text ≡ Ok (bytes, len text)
written meaning errors encoding text bytes is =
    ap (λ (made : Encoded). encode_ended made.bytes (len text) (encode_fault meaning errors encoding text) made.ending) (written_from encoding (encode_treatment_by meaning errors encoding text) 0 text bytes is)

-- Decoded.

-- the bytes of a text are read as that text, whatever the handler
pub read : {H : Type 0} (meaning : H → DecodeMeaning) (errors : HandlerRef H) (encoding : Encoding) (text bytes : List ℕ) → All IsScalar text → text_bytes encoding text ≡ Some bytes → (last : Bool) → decoding_by meaning errors encoding last bytes ≡ Ok (text, len bytes)
read meaning errors encoding text bytes scalars is last =
    let whole = walk-text encoding (treatment_by meaning errors encoding bytes) last Unknown 0 text bytes scalars is in
    let walk : Walk = walk_by meaning errors encoding last bytes in
    ap (λ (e : Ending). ended (characters_of walk.items) (len bytes) (decode_fault meaning errors encoding bytes) e) whole.1
    ∙ ap (λ (cs : List ℕ). Ok (cs, len bytes)) whole.0

-- Encoded strictly.

strict_begun : (encoding : Encoding) (place c : ℕ) (text : List ℕ) (own : Option (List ℕ)) → ((encoded_from encoding (encode_treatment Strict encoding) (place + 1) 0 text).ending ≡ AllWritten → text_bytes encoding text ≡ Some (encoded_from encoding (encode_treatment Strict encoding) (place + 1) 0 text).bytes) → (begun encoding (encode_treatment Strict encoding) place c text own).ending ≡ AllWritten → joined_bytes own (text_bytes encoding text) ≡ Some (begun encoding (encode_treatment Strict encoding) place c text own).bytes
strict_begun encoding place c text None behind is = absurd (cc)
strict_begun encoding place c text (Some front) behind is = ap (joined_bytes (Some front)) (behind is)

strict_from : (encoding : Encoding) (place : ℕ) (text : List ℕ) → (encoded_from encoding (encode_treatment Strict encoding) place 0 text).ending ≡ AllWritten → text_bytes encoding text ≡ Some (encoded_from encoding (encode_treatment Strict encoding) place 0 text).bytes
strict_from encoding place [] is = refl
strict_from encoding place (c ∷ text) is = strict_begun encoding place c text (own_bytes encoding c) (strict_from encoding (place + 1) text) is

record IsWritten (made : List ℕ) (ending : EncodeEnding) (bytes : List ℕ) : Type 0 where
  bytes_are : made ≡ bytes
  all : ending ≡ AllWritten

is_written : (made : List ℕ) (total : ℕ) (refusal : ℕ → ℕ → IoFault) (ending : EncodeEnding) (bytes : List ℕ) (count : ℕ) → encode_ended made total refusal ending ≡ Ok (bytes, count) → IsWritten made ending bytes
is_written made total refusal AllWritten bytes count is =
    let same : ◌≡◌ {A = List ℕ × ℕ} (made, total) (bytes, count) = cc in
    record { bytes_are = ap (λ (pair : List ℕ × ℕ). pair.0) same; all = refl }
is_written made total refusal (AtRun start end) bytes count is = absurd (cc)

-- what is encoded strictly are the characters' own bytes
pub strict : {H : Type 0} (meaning : H → EncodeMeaning) (encoding : Encoding) (text bytes : List ℕ) (count : ℕ) → encoding_by meaning (Builtin Strict) encoding text ≡ Ok (bytes, count) → text_bytes encoding text ≡ Some bytes
strict meaning encoding text bytes count is =
    let made : Encoded = encoded_from encoding (encode_treatment Strict encoding) 0 0 text in
    let ends = is_written made.bytes (len text) (encode_fault meaning (Builtin Strict) encoding text) made.ending bytes count is in
    strict_from encoding 0 text ends.all ∙ ap (λ (bs : List ℕ). Some bs) ends.bytes_are
