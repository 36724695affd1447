-- Texts of which no handler is asked.
use Rattle.std.proofs.Common.{◌≡◌, ℕ, true, false, List, [], ◌∷◌, length as len, Option, Some, None, Ok, is_some, refl, ap}
use Rattle.std.specs.List.{All}
use Rattle.std.specs.Char.{IsScalar}
use Rattle.std.proofs.lemmas.List.Elements.{All-nil, All-cons, All-head, All-tail}
use Rattle.py_flat.specs.declared.fault.IoFault.{IoFault}
use Rattle.py_plain.specs.declared.encoding.Encoding.{Encoding}
use Rattle.py_plain.specs.declared.encoding.Encoding.TheVariants.{Utf8, Latin1, Ascii, Utf16Le, Utf16Be}
use Rattle.py_plain.specs.declared.handler.Handler.{Handler}
use Rattle.py_plain.specs.declared.handler.Handler.TheVariants.{Strict, Ignore, Replace, XmlCharRefReplace, BackslashReplace, SurrogatePass, SurrogateEscape}
use Rattle.py_plain.specs.Encode.{own_bytes, text_bytes, encode_treatment, EncodeEnding, AllWritten, AtRun, Encoded, refused_run, encoded}
use Rattle.py_plain.proofs.OwnText.{joined_bytes-parts}
use Rattle.py_plain_text.specs.TextFile.{TextFile}
use Rattle.py_plain_text.specs.TextWriting.{written_treatment, written_refusal}
use Rattle.py_plain_text.specs.TextCalls.{WriteText}
use Rattle.py_plain_text.specs.TextRefusals.{encode_error, dirty_refusal, refusal}
use Rattle.py_plain_text.proofs.Standing.{or_none, all_none}
use Rattle.py_codec.specs.declared.handler_ref.HandlerRef.TheVariants.{Builtin}
use Rattle.py_codec.specs.ErrorHandler.{EncodeMeaning}
use Rattle.py_codec.specs.Treating.{encode_fault}
use Rattle.py_codec.specs.Encoding.{encode_ended}
use Rattle.py_codec.specs.Laws.{writes_runs}
use Rattle.py_codec.specs.Refusing.{strict_ending}
use Rattle.py_codec.proofs.Texts.{written_from, strict}
use Rattle.py_text_laws.specs.Written.{HasBytes, NeedsNoHandler, has_all}
use Rattle.py_text_laws.proofs.Keeping.{text_there}

-- By the encoding.

-- an encoding that has all characters has each
has_each : (encoding : Encoding) (c : ℕ) → has_all encoding ≡ true → is_some (own_bytes encoding c) ≡ true
has_each Utf8 c is = refl
has_each Latin1 c is = absurd (cc)
has_each Ascii c is = absurd (cc)
has_each Utf16Le c is = refl
has_each Utf16Be c is = refl

pub unicode_has_all : (encoding : Encoding) (text : List ℕ) → has_all encoding ≡ true → All IsScalar text → NeedsNoHandler encoding text
unicode_has_all encoding [] is scalars = All-nil (HasBytes encoding)
unicode_has_all encoding (c ∷ text) is scalars =
    All-cons (HasBytes encoding) c text (All-head IsScalar c text scalars, has_each encoding c is) (unicode_has_all encoding text is (All-tail IsScalar c text scalars))

-- By the handler.

-- a text that has bytes needs no handler
pub bytes_there : (encoding : Encoding) (text bytes : List ℕ) → All IsScalar text → text_bytes encoding text ≡ Some bytes → NeedsNoHandler encoding text
bytes_there encoding [] bytes scalars is = All-nil (HasBytes encoding)
bytes_there encoding (c ∷ text) bytes scalars is =
    let parts = joined_bytes-parts (own_bytes encoding c) (text_bytes encoding text) bytes is in
    All-cons (HasBytes encoding) c text (All-head IsScalar c text scalars, ap is_some parts.front_is) (bytes_there encoding text parts.back (All-tail IsScalar c text scalars) parts.back_is)

ended_whole : (bytes : List ℕ) (total : ℕ) (fault_of : ℕ → ℕ → IoFault) (ending : EncodeEnding) → refused_run ending ≡ None → encode_ended bytes total fault_of ending ≡ Ok (bytes, total)
ended_whole bytes total fault_of AllWritten is = refl
ended_whole bytes total fault_of (AtRun start end) is = absurd (cc)

no_meaning : ⊥ → EncodeMeaning
no_meaning none = absurd none

-- a text without a run has bytes
strict_has : (encoding : Encoding) (text : List ℕ) → refused_run (strict_ending encoding text) ≡ None → text_bytes encoding text ≡ Some (encoded encoding (encode_treatment Strict encoding) text).bytes
strict_has encoding text is =
    let made : Encoded = encoded encoding (encode_treatment Strict encoding) text in
    strict no_meaning encoding text made.bytes (len text) (ended_whole made.bytes (len text) (encode_fault no_meaning (Builtin Strict) encoding text) made.ending is)

-- a handler that refuses every run lets through what strict does
as_strict : (handler : Handler) (encoding : Encoding) (text : List ℕ) → writes_runs handler ≡ false → refused_run (encoded encoding (encode_treatment handler encoding) text).ending ≡ None → refused_run (strict_ending encoding text) ≡ None
as_strict Strict encoding text refuses is = is
as_strict Ignore encoding text refuses is = absurd (cc)
as_strict Replace encoding text refuses is = absurd (cc)
as_strict XmlCharRefReplace encoding text refuses is = absurd (cc)
as_strict BackslashReplace encoding text refuses is = absurd (cc)
as_strict SurrogatePass encoding text refuses is = is
as_strict SurrogateEscape encoding text refuses is = is

no_error : (run : Option (ℕ × ℕ)) → encode_error run ≡ None → run ≡ None
no_error None is = refl
no_error (Some run) is = absurd (cc)

-- a text that a handler which refuses every run let through
pub let_through : (file : TextFile) (text : List ℕ) → writes_runs file.settings.handler ≡ false → All IsScalar text → refusal file (WriteText text) ≡ None → NeedsNoHandler file.settings.encoding text
let_through file text refuses scalars accepted =
    let wrong = or_none (dirty_refusal file) _ (all_none file (WriteText text) accepted).1 in
    let run = or_none (encode_error (written_refusal file.settings text)) _ wrong.1 in
    let none = as_strict file.settings.handler file.settings.encoding text refuses (no_error (written_refusal file.settings text) run.0) in
    bytes_there file.settings.encoding text _ scalars (strict_has file.settings.encoding text none)

-- a text that needs no handler is refused for none of its characters
pub none_refused : (file : TextFile) (text : List ℕ) → NeedsNoHandler file.settings.encoding text → written_refusal file.settings text ≡ None
none_refused file text none =
    let there = text_there file.settings.encoding text none in
    ap (λ (e : Encoded). refused_run e.ending) (written_from file.settings.encoding (written_treatment file.settings) 0 text there.0 there.1)
