-- Texts that are refused before memory is taken for their bytes.
use Rattle.std.proofs.Common.{◌≡◌, ℕ, ◌+◌, ◌≤◌, ◌⊎◌, inl, inr, true, List, [], ◌∷◌, ◌++◌, length, Option, Some, None, is_some, Err, refl, sym, ap, ◌∙◌}
use Rattle.py_flat.specs.declared.fault.IoFault.{IoFault}
use Rattle.py_flat.specs.declared.fault.IoFault.TheVariants.{UnicodeEncodeError}
use Rattle.py_plain.specs.declared.encoding.Encoding.{Encoding}
use Rattle.py_plain.specs.declared.encoding.Encoding.TheVariants.{Utf8, Utf16Le, Utf16Be}
use Rattle.py_plain.specs.declared.handler.Handler.TheVariants.{Strict, Ignore, Replace, XmlCharRefReplace, BackslashReplace, SurrogatePass, SurrogateEscape}
use Rattle.py_plain.specs.Encode.{own_bytes, joined_bytes, text_bytes, run_length, encode_treatment, EncodeEnding, AllWritten, AtRun, Encoded, refused_run, encoded_from}
use Rattle.py_codec.specs.declared.handler_ref.HandlerRef.{HandlerRef}
use Rattle.py_codec.specs.declared.handler_ref.HandlerRef.TheVariants.{Builtin, Custom}
use Rattle.py_codec.specs.ErrorHandler.{EncodeMeaning}
use Rattle.py_codec.specs.Treating.{encode_fault}
use Rattle.py_codec.specs.Answers.{Expected}
use Rattle.py_codec.specs.Encoding.{encode_ended, encoding_by}
use Rattle.py_codec.specs.Refusing.{refuses_runs, strict_ending}
use Rattle.py_codec.proofs.EncodedFrom.{Encodes, Encodes-wrote, encoded-refused}
use Rattle.py_blocks.proofs.Written.{Wrote-character}
use Rattle.py_codec.proofs.Texts.{written_from}

-- an encoding that has bytes for each character
HasAll : Encoding → Type 0
HasAll encoding = (c : ℕ) → (bytes : List ℕ) × (own_bytes encoding c ≡ Some bytes)

all_written : (encoding : Encoding) (text : List ℕ) → HasAll encoding → (bytes : List ℕ) × (text_bytes encoding text ≡ Some bytes)
unfolding HasAll
all_written encoding [] has = ([], refl)
all_written encoding (c ∷ text) has =
    let own = has c in
    let behind = all_written encoding text has in
    (_, ap (λ (bytes : Option (List ℕ)). joined_bytes bytes (text_bytes encoding text)) own.1 ∙ ap (joined_bytes (Some own.0)) behind.1)

-- an encoding that has bytes for each character has no run
no_run : (encoding : Encoding) (text : List ℕ) → HasAll encoding → refused_run (strict_ending encoding text) ≡ None
no_run encoding text has =
    let all = all_written encoding text has in
    ap (λ (made : Encoded). refused_run made.ending) (written_from encoding (encode_treatment Strict encoding) 0 text all.0 all.1)

no_run-utf8 : (text : List ℕ) → refused_run (strict_ending Utf8 text) ≡ None
unfolding HasAll
no_run-utf8 text = no_run Utf8 text (λ c. (_, refl))

no_run-utf16le : (text : List ℕ) → refused_run (strict_ending Utf16Le text) ≡ None
unfolding HasAll
no_run-utf16le text = no_run Utf16Le text (λ c. (_, refl))

no_run-utf16be : (text : List ℕ) → refused_run (strict_ending Utf16Be text) ≡ None
unfolding HasAll
no_run-utf16be text = no_run Utf16Be text (λ c. (_, refl))

-- the ending of a text whose rest at a place is empty
pub run-none_left : {encoding : Encoding} {text : List ℕ} {place : ℕ} {out left : List ℕ} → Encodes encoding (encode_treatment Strict encoding) text place out left → left ≡ [] → refused_run (strict_ending encoding text) ≡ None
run-none_left {encoding} {place = place} encodes none =
    ap refused_run (sym encodes.ending) ∙ ap (λ (cs : List ℕ). refused_run (encoded_from encoding (encode_treatment Strict encoding) place 0 cs).ending) none

-- the ending of a text whose rest at a place begins with a run
pub run-here : {encoding : Encoding} {text : List ℕ} {place size : ℕ} {out left : List ℕ} → Encodes encoding (encode_treatment Strict encoding) text place out left → size ≡ run_length encoding left → 1 ≤ size → refused_run (strict_ending encoding text) ≡ Some (place, place + size)
run-here {encoding} {place = place} {size = size} {left = left} encodes is some =
    ap refused_run (sym encodes.ending) ∙ ap (λ (made : Encoded). refused_run made.ending) (encoded-refused encoding (encode_treatment Strict encoding) place size left is some refl)

-- an ending at a run is a refusal
ended_at : (bytes : List ℕ) (total : ℕ) (refusal : (start end : ℕ) → IoFault) (ending : EncodeEnding) (start end : ℕ) → refused_run ending ≡ Some (start, end) → encode_ended bytes total refusal ending ≡ Err (refusal start end)
ended_at bytes total refusal AllWritten start end is = absurd (cc)
ended_at bytes total refusal (AtRun first last) start end is =
    let same : ◌≡◌ {A = ℕ × ℕ} (first, last) (start, end) = cc in
    ap (λ (pair : ℕ × ℕ). Err (refusal pair.0 pair.1)) same

-- an ending that is at no run is no refusal
ended_well : (bytes : List ℕ) (total : ℕ) (refusal : (start end : ℕ) → IoFault) (ending : EncodeEnding) (why : IoFault) → refused_run ending ≡ None → encode_ended bytes total refusal ending ≡ Err why → ⊥
ended_well bytes total refusal AllWritten why none is = cc
ended_well bytes total refusal (AtRun start end) why none is = cc

-- a handler that refuses every run refuses a text at its first run
pub refused-at : {H : Type 0} (meaning : H → EncodeMeaning) (errors : HandlerRef H) (encoding : Encoding) (text : List ℕ) (start end : ℕ) → refuses_runs errors ≡ true → refused_run (strict_ending encoding text) ≡ Some (start, end) → encoding_by meaning errors encoding text ≡ Err (UnicodeEncodeError start end)
refused-at meaning (Builtin Strict) encoding text start end refuses is = ended_at _ (length text) (encode_fault meaning (Builtin Strict) encoding text) (strict_ending encoding text) start end is
refused-at meaning (Builtin SurrogatePass) encoding text start end refuses is = ended_at _ (length text) (encode_fault meaning (Builtin SurrogatePass) encoding text) (strict_ending encoding text) start end is
refused-at meaning (Builtin SurrogateEscape) encoding text start end refuses is = ended_at _ (length text) (encode_fault meaning (Builtin SurrogateEscape) encoding text) (strict_ending encoding text) start end is
refused-at meaning (Builtin Ignore) encoding text start end refuses is = absurd (cc)
refused-at meaning (Builtin Replace) encoding text start end refuses is = absurd (cc)
refused-at meaning (Builtin XmlCharRefReplace) encoding text start end refuses is = absurd (cc)
refused-at meaning (Builtin BackslashReplace) encoding text start end refuses is = absurd (cc)
refused-at meaning (Custom handler) encoding text start end refuses is = absurd (cc)

-- a handler that refuses every run refuses no text without a run
pub refused-not : {H : Type 0} (meaning : H → EncodeMeaning) (errors : HandlerRef H) (encoding : Encoding) (text : List ℕ) (why : IoFault) → refuses_runs errors ≡ true → refused_run (strict_ending encoding text) ≡ None → encoding_by meaning errors encoding text ≡ Err why → ⊥
refused-not meaning (Builtin Strict) encoding text why refuses none is = ended_well _ (length text) (encode_fault meaning (Builtin Strict) encoding text) (strict_ending encoding text) why none is
refused-not meaning (Builtin SurrogatePass) encoding text why refuses none is = ended_well _ (length text) (encode_fault meaning (Builtin SurrogatePass) encoding text) (strict_ending encoding text) why none is
refused-not meaning (Builtin SurrogateEscape) encoding text why refuses none is = ended_well _ (length text) (encode_fault meaning (Builtin SurrogateEscape) encoding text) (strict_ending encoding text) why none is
refused-not meaning (Builtin Ignore) encoding text why refuses none is = cc
refused-not meaning (Builtin Replace) encoding text why refuses none is = cc
refused-not meaning (Builtin XmlCharRefReplace) encoding text why refuses none is = cc
refused-not meaning (Builtin BackslashReplace) encoding text why refuses none is = cc
refused-not meaning (Custom handler) encoding text why refuses none is = cc

-- a value that is said to be there
pub some_bytes : (own : Option (List ℕ)) → true ≡ is_some own → (bytes : List ℕ) × (own ≡ Some bytes)
some_bytes None is = absurd (cc)
some_bytes (Some bytes) is = (bytes, refl)

-- the text came one character with bytes further
pub Encodes-character : {encoding : Encoding} {text : List ℕ} {place c : ℕ} {out left behind : List ℕ} → Encodes encoding (encode_treatment Strict encoding) text place out left → left ≡ c ∷ behind → true ≡ is_some (own_bytes encoding c) → (after : List ℕ) × Encodes encoding (encode_treatment Strict encoding) text (place + 1) after behind
Encodes-character {encoding} {c = c} {out = out} {left = left} {behind = behind} encodes is has =
    let own = some_bytes (own_bytes encoding c) has in
    (out ++ own.0, Encodes-wrote encodes (Wrote-character encoding c left behind out (out ++ own.0) own.0 is own.1 refl))

-- UTF-8 and UTF-16 have bytes for each character, so that no text has a run
pub no_run-as : (encoding : Encoding) (text : List ℕ) → (encoding ≡ Utf8) ⊎ ((encoding ≡ Utf16Le) ⊎ (encoding ≡ Utf16Be)) → refused_run (strict_ending encoding text) ≡ None
no_run-as encoding text (inl is) = ap (λ (e : Encoding). refused_run (strict_ending e text)) is ∙ no_run-utf8 text
no_run-as encoding text (inr (inl is)) = ap (λ (e : Encoding). refused_run (strict_ending e text)) is ∙ no_run-utf16le text
no_run-as encoding text (inr (inr is)) = ap (λ (e : Encoding). refused_run (strict_ending e text)) is ∙ no_run-utf16be text

-- a text is refused in one way
pub one_refusal : (expected : Expected) (one other : IoFault) → expected ≡ Err one → expected ≡ Err other → one ≡ other
one_refusal expected one other is other_is = cc
