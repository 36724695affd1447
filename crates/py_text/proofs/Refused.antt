-- What is refused of a text, by what the codecs say of it.
use Rattle.std.proofs.Common.{◌≡◌, ◌⊎◌, inl, inr, ℕ, true, List, length as len, Option, Some, None, Ok, Err, MatchOption, refl, sym, ap}
use Rattle.py_flat.specs.declared.fault.IoFault.{IoFault}
use Rattle.py_flat.specs.declared.fault.IoFault.TheVariants.{UnicodeEncodeError, NoMemory}
use Rattle.py_plain.specs.declared.encoding.Encoding.{Encoding}
use Rattle.py_plain.specs.declared.handler.Handler.{Handler}
use Rattle.py_plain.specs.declared.handler.Handler.TheVariants.{Strict, Ignore, Replace, XmlCharRefReplace, BackslashReplace, SurrogatePass, SurrogateEscape}
use Rattle.py_plain.specs.Encode.{EncodeEnding, AllWritten, AtRun, refused_run, encode_treatment, encoded}
use Rattle.py_plain_text.specs.TextRefusals.{encode_error}
use Rattle.py_codec.specs.declared.handler_ref.HandlerRef.TheVariants.{Builtin}
use Rattle.py_codec.specs.ErrorHandler.{EncodeMeaning}
use Rattle.py_codec.specs.Encoding.{encode_ended, encoding_by}
use Rattle.py_codec.specs.Refusing.{refuses_runs}
use Rattle.py_text.specs.EachWritten.{IsWhole}
use Rattle.py_text.proofs.EachWritten.{because-whole}

-- the refusal of an encoding as a fault
abbrev refusal : (start end : ℕ) → IoFault
refusal start end = UnicodeEncodeError start end

ended-error : (bytes : List ℕ) (total : ℕ) (ending : EncodeEnding) (why : IoFault) → encode_ended bytes total refusal ending ≡ Err why → encode_error (refused_run ending) ≡ Some why
ended-error bytes total AllWritten why is = absurd (cc)
ended-error bytes total (AtRun start end) why is = cc

-- an encoding that is refused is refused for that run
pub refused-error : {H : Type 0} (meaning : H → EncodeMeaning) (handler : Handler) (encoding : Encoding) (text : List ℕ) (why : IoFault) → encoding_by meaning (Builtin handler) encoding text ≡ Err why → encode_error (refused_run (encoded encoding (encode_treatment handler encoding) text).ending) ≡ Some why
refused-error meaning handler encoding text why is =
    ended-error (encoded encoding (encode_treatment handler encoding) text).bytes (len text) (encoded encoding (encode_treatment handler encoding) text).ending why is

never-ended : (bytes : List ℕ) (total : ℕ) (ending : EncodeEnding) → ((why : IoFault) → encode_ended bytes total refusal ending ≡ Err why → ⊥) → refused_run ending ≡ None
never-ended bytes total AllWritten never = refl
never-ended bytes total (AtRun start end) never = absurd (never (UnicodeEncodeError start end) refl)

strict-whole : (encoding : Encoding) (text : List ℕ) → ((why : IoFault) → encode_ended (encoded encoding (encode_treatment Strict encoding) text).bytes (len text) refusal (encoded encoding (encode_treatment Strict encoding) text).ending ≡ Err why → ⊥) → IsWhole Strict encoding text
strict-whole encoding text never = never-ended (encoded encoding (encode_treatment Strict encoding) text).bytes (len text) (encoded encoding (encode_treatment Strict encoding) text).ending never

-- a text is whole where a handler that refuses runs doesn't refuse it
pub unrefused-whole : {H : Type 0} (meaning : H → EncodeMeaning) (handler : Handler) (encoding : Encoding) (text : List ℕ) → ((why : IoFault) → refuses_runs {H = H} (Builtin handler) ≡ true → encoding_by meaning (Builtin handler) encoding text ≡ Err why → ⊥) → IsWhole handler encoding text
unrefused-whole meaning Strict encoding text never = strict-whole encoding text (λ why is. never why refl is)
unrefused-whole meaning Ignore encoding text never = because-whole Ignore encoding text (inl refl)
unrefused-whole meaning Replace encoding text never = because-whole Replace encoding text (inl refl)
unrefused-whole meaning XmlCharRefReplace encoding text never = because-whole XmlCharRefReplace encoding text (inl refl)
unrefused-whole meaning BackslashReplace encoding text never = because-whole BackslashReplace encoding text (inl refl)
unrefused-whole meaning SurrogatePass encoding text never = strict-whole encoding text (λ why is. never why refl is)
unrefused-whole meaning SurrogateEscape encoding text never = strict-whole encoding text (λ why is. never why refl is)

-- what is told of a text before memory is taken for its bytes: it is whole, or refused for its first run
pub refused-as : {H : Type 0} (meaning : H → EncodeMeaning) (handler : Handler) (encoding : Encoding) (text : List ℕ) (told : Option IoFault) → MatchOption told ((why : IoFault) → refuses_runs {H = H} (Builtin handler) ≡ true → encoding_by meaning (Builtin handler) encoding text ≡ Err why → ⊥) (λ why. encoding_by meaning (Builtin handler) encoding text ≡ Err why) → MatchOption told (IsWhole handler encoding text) (λ why. encode_error (refused_run (encoded encoding (encode_treatment handler encoding) text).ending) ≡ Some why)
refused-as meaning handler encoding text None never = unrefused-whole meaning handler encoding text never
refused-as meaning handler encoding text (Some why) is = refused-error meaning handler encoding text why is

-- Whole texts.

ended-bytes : (bytes : List ℕ) (total : ℕ) (ending : EncodeEnding) (own : List ℕ) (count : ℕ) → encode_ended bytes total refusal ending ≡ Ok (own, count) → own ≡ bytes
ended-bytes bytes total AllWritten own count is =
    let same : ◌≡◌ {A = List ℕ × ℕ} (bytes, total) (own, count) = cc in
    sym (ap (λ (pair : List ℕ × ℕ). pair.0) same)
ended-bytes bytes total (AtRun start end) own count is = absurd (cc)

-- the bytes of an encoding that succeeded
pub written-bytes : {H : Type 0} (meaning : H → EncodeMeaning) (handler : Handler) (encoding : Encoding) (text own : List ℕ) (count : ℕ) → encoding_by meaning (Builtin handler) encoding text ≡ Ok (own, count) → own ≡ (encoded encoding (encode_treatment handler encoding) text).bytes
written-bytes meaning handler encoding text own count is =
    ended-bytes (encoded encoding (encode_treatment handler encoding) text).bytes (len text) (encoded encoding (encode_treatment handler encoding) text).ending own count is

ended-memory : (bytes : List ℕ) (total : ℕ) (ending : EncodeEnding) (why : IoFault) → refused_run ending ≡ None → encode_ended bytes total refusal ending ≡ Err why → ⊥
ended-memory bytes total AllWritten why none is = cc
ended-memory bytes total (AtRun start end) why none is = cc

-- a whole text fails only for want of memory
pub only-memory : {H : Type 0} (meaning : H → EncodeMeaning) (handler : Handler) (encoding : Encoding) (text : List ℕ) (why : IoFault) → IsWhole handler encoding text → (why ≡ NoMemory) ⊎ (encoding_by meaning (Builtin handler) encoding text ≡ Err why) → why ≡ NoMemory
only-memory meaning handler encoding text why whole (inl memory) = memory
only-memory meaning handler encoding text why whole (inr is) =
    absurd (ended-memory (encoded encoding (encode_treatment handler encoding) text).bytes (len text) (encoded encoding (encode_treatment handler encoding) text).ending why whole is)
