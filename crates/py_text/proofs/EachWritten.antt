-- A text of which no character is refused is written character by character.
use Rattle.std.proofs.Common.{◌≡◌, ℕ, zero, suc, ◌+◌, ◌-◌, ◌⊎◌, inl, inr, Bool, true, false, nat_eq, if◌then◌else◌, List, [], ◌∷◌, ◌++◌, length as len, take, drop, Option, Some, None, Ok, refl, sym, ap, ◌∙◌, arith, append_assoc, append-nil}
use Rattle.std.proofs.lemmas.List.{take-append-drop}
use Rattle.py_flat.specs.declared.fault.IoFault.{IoFault}
use Rattle.py_flat.specs.Lines.{lf}
use Rattle.py_plain.specs.declared.encoding.Encoding.{Encoding}
use Rattle.py_plain.specs.declared.encoding.Encoding.TheVariants.{Utf8, Latin1, Ascii, Utf16Le, Utf16Be}
use Rattle.py_plain.specs.declared.handler.Handler.{Handler}
use Rattle.py_plain.specs.declared.handler.Handler.TheVariants.{Strict, Ignore, Replace, XmlCharRefReplace, BackslashReplace, SurrogatePass, SurrogateEscape}
use Rattle.py_plain.specs.declared.newlines.Newlines.{Newlines}
use Rattle.py_plain.specs.declared.newlines.Newlines.TheVariants as rule
use Rattle.py_plain.specs.Escapes.{backslash_escape, character_reference, each_spelled}
use Rattle.py_plain.specs.Encode.{own_bytes, joined_bytes, text_bytes, suc_unless, run_length, EncodeHandled, Written, RefusesRun, EncodeTreatment, written_as as handled_as, encode_treatment, EncodeEnding, AllWritten, AtRun, refused_run, Encoded, first_written, characters_behind, onto_encoded, encoded_from, encoded}
use Rattle.py_plain.proofs.OwnText.{joined_bytes-parts}
use Rattle.py_plain_text.specs.TextWriting.{written_end, written_as, written}
use Rattle.py_codec.specs.declared.handler_ref.HandlerRef.TheVariants.{Builtin}
use Rattle.py_codec.specs.ErrorHandler.{EncodeRefused, EncodeMeaning}
use Rattle.py_codec.specs.Treating.{encode_fault}
use Rattle.py_codec.specs.Encoding.{encode_ended, encoding_by}
use Rattle.py_codec.specs.Laws.{writes_runs}
use Rattle.py_codec.proofs.AlwaysWritten.{never_refused}
use Rattle.py_codec.proofs.Texts.{written_from, strict}
use Rattle.py_text.specs.EachWritten.{IsWhole, or_bytes, substitute_bytes, character_bytes}
use Rattle.py_text.proofs.Spelled.{each-both, each-each, each-none}

-- The bytes of texts that are joined.

joined-none : (more : Option (List ℕ)) → joined_bytes (Some []) more ≡ more
joined-none None = refl
joined-none (Some more) = refl

joined-apart : (own front back : Option (List ℕ)) → joined_bytes own (joined_bytes front back) ≡ joined_bytes (joined_bytes own front) back
joined-apart None front back = refl
joined-apart (Some own) None back = refl
joined-apart (Some own) (Some front) None = refl
joined-apart (Some own) (Some front) (Some back) = ap (λ (bs : List ℕ). Some bs) (sym (append_assoc own front back))

pub text_bytes-joined : (encoding : Encoding) (front back : List ℕ) → text_bytes encoding (front ++ back) ≡ joined_bytes (text_bytes encoding front) (text_bytes encoding back)
text_bytes-joined encoding [] back = sym (joined-none (text_bytes encoding back))
text_bytes-joined encoding (c ∷ front) back =
    ap (joined_bytes (own_bytes encoding c)) (text_bytes-joined encoding front back)
    ∙ joined-apart (own_bytes encoding c) (text_bytes encoding front) (text_bytes encoding back)

-- What handlers give.

-- the bytes of some spelled numbers are those of each of them
spelled-bytes : (encoding : Encoding) (spell : ℕ → List ℕ) (run bytes : List ℕ) → text_bytes encoding (each_spelled spell run) ≡ Some bytes → bytes ≡ each_spelled (λ c. or_bytes (text_bytes encoding (spell c ++ [])) []) run
spelled-bytes encoding spell [] bytes is = cc
spelled-bytes encoding spell (c ∷ run) bytes is =
    let parts = joined_bytes-parts (text_bytes encoding (spell c)) (text_bytes encoding (each_spelled spell run)) bytes (sym (text_bytes-joined encoding (spell c) (each_spelled spell run)) ∙ is) in
    let front : parts.front ≡ or_bytes (text_bytes encoding (spell c ++ [])) [] =
    sym (ap (λ (t : List ℕ). or_bytes (text_bytes encoding t) []) (append-nil (spell c)) ∙ ap (λ (own : Option (List ℕ)). or_bytes own []) parts.front_is) in
    parts.whole
    ∙ (ap (λ (t : List ℕ). t ++ parts.back) front
    ∙ ap (λ (t : List ℕ). or_bytes (text_bytes encoding (spell c ++ [])) [] ++ t) (spelled-bytes encoding spell run parts.back parts.back_is))

-- what a treatment writes for a run are the bytes of its characters, all of them
record IsSpelled (spell : ℕ → List ℕ) (run : List ℕ) (size : ℕ) (bytes : List ℕ) (used : ℕ) : Type 0 where
  spelled : bytes ≡ each_spelled spell run
  all : used ≡ size

pub handled : (own : Option (List ℕ)) (size : ℕ) (bytes : List ℕ) (used : ℕ) → handled_as own size ≡ Written bytes used → (own ≡ Some bytes) × (used ≡ size)
handled None size bytes used is = absurd (cc)
handled (Some own) size bytes used is = (cc, cc)

handled-each : (encoding : Encoding) (spell : ℕ → List ℕ) (run : List ℕ) (size : ℕ) (bytes : List ℕ) (used : ℕ) → handled_as (text_bytes encoding (each_spelled spell run)) size ≡ Written bytes used → IsSpelled (λ c. or_bytes (text_bytes encoding (spell c ++ [])) []) run size bytes used
handled-each encoding spell run size bytes used is =
    let own = handled (text_bytes encoding (each_spelled spell run)) size bytes used is in
    record { spelled = spelled-bytes encoding spell run bytes own.0; all = own.1 }

-- a treatment that writes for a run the bytes of its characters
abbrev Spells : EncodeTreatment → (ℕ → List ℕ) → Type 0
Spells treat spell = (place : ℕ) (rest : List ℕ) (size : ℕ) (bytes : List ℕ) (used : ℕ) → treat place rest size ≡ Written bytes used → IsSpelled spell (take size rest) size bytes used

treatment-spells : (handler : Handler) (encoding : Encoding) → Spells (encode_treatment handler encoding) (substitute_bytes handler encoding)
treatment-spells Strict encoding place rest size bytes used is = absurd (cc)
treatment-spells Ignore encoding place rest size bytes used is =
    let own = handled (Some []) size bytes used is in
    let none : [] ≡ bytes = cc in
    record { spelled = sym none ∙ sym (each-none (take size rest)); all = own.1 }
treatment-spells Replace encoding place rest size bytes used is = handled-each encoding (λ c. 0x3F ∷ []) (take size rest) size bytes used is
treatment-spells XmlCharRefReplace encoding place rest size bytes used is = handled-each encoding character_reference (take size rest) size bytes used is
treatment-spells BackslashReplace encoding place rest size bytes used is = handled-each encoding backslash_escape (take size rest) size bytes used is
treatment-spells SurrogatePass encoding place rest size bytes used is = absurd (cc)
treatment-spells SurrogateEscape encoding place rest size bytes used is = absurd (cc)

-- Runs.

-- the characters of a run have only the bytes that a handler gives
run-by : (encoding : Encoding) (spell : ℕ → List ℕ) (c : ℕ) (text : List ℕ) (own : Option (List ℕ)) → own_bytes encoding c ≡ own → each_spelled spell (take (run_length encoding text) text) ≡ each_spelled (λ c. or_bytes (own_bytes encoding c) (spell c)) (take (run_length encoding text) text) → each_spelled spell (take (suc_unless own (run_length encoding text)) (c ∷ text)) ≡ each_spelled (λ c. or_bytes (own_bytes encoding c) (spell c)) (take (suc_unless own (run_length encoding text)) (c ∷ text))
run-by encoding spell c text None is behind =
    let size : ℕ = run_length encoding text in
    ap (λ (t : List ℕ). spell c ++ t) behind
    ∙ ap (λ (own : Option (List ℕ)). or_bytes own (spell c) ++ each_spelled (λ c. or_bytes (own_bytes encoding c) (spell c)) (take size text)) (sym is)
run-by encoding spell c text (Some own) is behind = refl

run-each : (encoding : Encoding) (spell : ℕ → List ℕ) (text : List ℕ) → each_spelled spell (take (run_length encoding text) text) ≡ each_spelled (λ c. or_bytes (own_bytes encoding c) (spell c)) (take (run_length encoding text) text)
run-each encoding spell [] = refl
run-each encoding spell (c ∷ text) = run-by encoding spell c text (own_bytes encoding c) refl (run-each encoding spell text)

-- Texts of which nothing is refused.

-- the bytes of an encoding that came to its end, by each character
abbrev IsEach : Encoding → (ℕ → List ℕ) → Encoded → List ℕ → Type 0
IsEach encoding spell made text = made.ending ≡ AllWritten → made.bytes ≡ each_spelled (λ c. or_bytes (own_bytes encoding c) (spell c)) text

-- what is written for a run of n characters, and then the rest
treated-each : (encoding : Encoding) (treat : EncodeTreatment) (spell : ℕ → List ℕ) → Spells treat spell → (place size c : ℕ) (text : List ℕ) → suc size ≡ run_length encoding (c ∷ text) → IsEach encoding spell (encoded_from encoding treat (place + 1) size text) (drop size text) → (handled : EncodeHandled) → treat place (c ∷ text) (suc size) ≡ handled → IsEach encoding spell (onto_encoded place (suc size) handled (encoded_from encoding treat (place + 1) (characters_behind handled) text)) (c ∷ text)
treated-each encoding treat spell spells place size c text long behind RefusesRun treats ends = absurd (cc)
treated-each encoding treat spell spells place size c text long behind (Written bytes used) treats ends =
    let both : ℕ → List ℕ = λ c. or_bytes (own_bytes encoding c) (spell c) in
    let given = spells place (c ∷ text) (suc size) bytes used treats in
    let left : used - 1 ≡ size = omega (arith, given.all) in
    let more : (encoded_from encoding treat (place + 1) (used - 1) text).bytes ≡ each_spelled both (drop size text) =
    ap (λ (n : ℕ). (encoded_from encoding treat (place + 1) n text).bytes) left ∙ behind (ap (λ (n : ℕ). (encoded_from encoding treat (place + 1) n text).ending) (sym left) ∙ ends) in
    let run : each_spelled spell (take (suc size) (c ∷ text)) ≡ each_spelled both (take (suc size) (c ∷ text)) =
    ap (λ (n : ℕ). each_spelled spell (take n (c ∷ text))) long ∙ (run-each encoding spell (c ∷ text) ∙ ap (λ (n : ℕ). each_spelled both (take n (c ∷ text))) (sym long)) in
    ap (λ (t : List ℕ). t ++ (encoded_from encoding treat (place + 1) (used - 1) text).bytes) (given.spelled ∙ run)
    ∙ (ap (λ (t : List ℕ). each_spelled both (take (suc size) (c ∷ text)) ++ t) more
    ∙ (sym (each-both both (take (suc size) (c ∷ text)) (drop (suc size) (c ∷ text)))
    ∙ ap (each_spelled both) (take-append-drop (suc size) (c ∷ text))))

-- an encoding by what is known of the bytes of the first character
abbrev begun : Encoding → EncodeTreatment → (place c : ℕ) → List ℕ → Option (List ℕ) → Encoded
begun encoding treat place c text own =
    let size = suc_unless own (run_length encoding text) in
    let first = first_written treat place (c ∷ text) size own in
    onto_encoded place size first (encoded_from encoding treat (place + 1) (characters_behind first) text)

begun-each : (encoding : Encoding) (treat : EncodeTreatment) (spell : ℕ → List ℕ) → Spells treat spell → (place c : ℕ) (text : List ℕ) → ((skip : ℕ) → IsEach encoding spell (encoded_from encoding treat (place + 1) skip text) (drop skip text)) → (own : Option (List ℕ)) → own_bytes encoding c ≡ own → IsEach encoding spell (begun encoding treat place c text own) (c ∷ text)
begun-each encoding treat spell spells place c text behind (Some own) is ends =
    let both : ℕ → List ℕ = λ c. or_bytes (own_bytes encoding c) (spell c) in
    ap (λ (t : List ℕ). own ++ t) (behind 0 ends) ∙ ap (λ (o : Option (List ℕ)). or_bytes o (spell c) ++ each_spelled both text) (sym is)
begun-each encoding treat spell spells place c text behind None is ends =
    let size : ℕ = run_length encoding text in
    let long : suc size ≡ run_length encoding (c ∷ text) = ap (λ (o : Option (List ℕ)). suc_unless o size) (sym is) in
    treated-each encoding treat spell spells place size c text long (behind size) (treat place (c ∷ text) (suc size)) refl ends

from-each : (encoding : Encoding) (treat : EncodeTreatment) (spell : ℕ → List ℕ) → Spells treat spell → (place skip : ℕ) (text : List ℕ) → IsEach encoding spell (encoded_from encoding treat place skip text) (drop skip text)
from-each encoding treat spell spells place zero [] ends = refl
from-each encoding treat spell spells place (suc skip) [] ends = refl
from-each encoding treat spell spells place (suc skip) (c ∷ text) ends = from-each encoding treat spell spells (place + 1) skip text ends
from-each encoding treat spell spells place zero (c ∷ text) ends =
    begun-each encoding treat spell spells place c text (λ skip. from-each encoding treat spell spells (place + 1) skip text) (own_bytes encoding c) refl ends

came-to-end : (ending : EncodeEnding) → refused_run ending ≡ None → ending ≡ AllWritten
came-to-end AllWritten none = refl
came-to-end (AtRun start end) none = absurd (cc)

-- the bytes of a text of which nothing is refused, each character as it stands
pub encoded-each : (handler : Handler) (encoding : Encoding) (text : List ℕ) → IsWhole handler encoding text → (encoded encoding (encode_treatment handler encoding) text).bytes ≡ each_spelled (character_bytes handler encoding) text
encoded-each handler encoding text whole =
    from-each encoding (encode_treatment handler encoding) (substitute_bytes handler encoding) (treatment-spells handler encoding) 0 0 text (came-to-end (encoded encoding (encode_treatment handler encoding) text).ending whole)

-- Parts of texts of which nothing is refused.

-- no handler of a user's own
abbrev pub no_meaning : ℕ → EncodeMeaning
no_meaning handler encoding text start end = EncodeRefused

well-ended : (bytes : List ℕ) (total : ℕ) (refusal : (start end : ℕ) → IoFault) (ending : EncodeEnding) (own : List ℕ) (count : ℕ) → encode_ended bytes total refusal ending ≡ Ok (own, count) → refused_run ending ≡ None
well-ended bytes total refusal AllWritten own count is = refl
well-ended bytes total refusal (AtRun start end) own count is = absurd (cc)

-- a handler that writes each run refuses nothing
writing-whole : (handler : Handler) (encoding : Encoding) (text : List ℕ) → writes_runs handler ≡ true → IsWhole handler encoding text
writing-whole handler encoding text writes =
    let made : Encoded = encoded encoding (encode_treatment handler encoding) text in
    let never = never_refused no_meaning handler writes encoding text in
    well-ended made.bytes (len text) (encode_fault no_meaning (Builtin handler) encoding text) made.ending never.0 (len text) never.1

-- a text whose characters all have bytes is refused by no handler
own-whole : (handler : Handler) (encoding : Encoding) (text bytes : List ℕ) → text_bytes encoding text ≡ Some bytes → IsWhole handler encoding text
own-whole handler encoding text bytes is = ap (λ (made : Encoded). refused_run made.ending) (written_from encoding (encode_treatment handler encoding) 0 text bytes is)

abbrev HasBytes : Encoding → List ℕ → Type 0
HasBytes encoding text = (bytes : List ℕ) × (text_bytes encoding text ≡ Some bytes)

strict-own : (encoding : Encoding) (text : List ℕ) → IsWhole Strict encoding text → HasBytes encoding text
strict-own encoding text whole =
    let made : Encoded = encoded encoding (encode_treatment Strict encoding) text in
    let ends : encoding_by no_meaning (Builtin Strict) encoding text ≡ Ok (made.bytes, len text) =
    ap (λ (e : EncodeEnding). encode_ended made.bytes (len text) (encode_fault no_meaning (Builtin Strict) encoding text) e) (came-to-end made.ending whole) in
    (made.bytes, strict no_meaning encoding text made.bytes (len text) ends)

-- why nothing of a text is refused: by its handler, or by its characters
pub whole-why : (handler : Handler) (encoding : Encoding) (text : List ℕ) → IsWhole handler encoding text → (writes_runs handler ≡ true) ⊎ HasBytes encoding text
whole-why Strict encoding text whole = inr (strict-own encoding text whole)
whole-why Ignore encoding text whole = inl refl
whole-why Replace encoding text whole = inl refl
whole-why XmlCharRefReplace encoding text whole = inl refl
whole-why BackslashReplace encoding text whole = inl refl
whole-why SurrogatePass encoding text whole = inr (strict-own encoding text whole)
whole-why SurrogateEscape encoding text whole = inr (strict-own encoding text whole)

pub because-whole : (handler : Handler) (encoding : Encoding) (text : List ℕ) → (writes_runs handler ≡ true) ⊎ HasBytes encoding text → IsWhole handler encoding text
because-whole handler encoding text (inl writes) = writing-whole handler encoding text writes
because-whole handler encoding text (inr own) = own-whole handler encoding text own.0 own.1

parts-why : (handler : Handler) (encoding : Encoding) (front back : List ℕ) → (writes_runs handler ≡ true) ⊎ HasBytes encoding (front ++ back) → IsWhole handler encoding front × IsWhole handler encoding back
parts-why handler encoding front back (inl writes) = (writing-whole handler encoding front writes, writing-whole handler encoding back writes)
parts-why handler encoding front back (inr own) =
    let parts = joined_bytes-parts (text_bytes encoding front) (text_bytes encoding back) own.0 (sym (text_bytes-joined encoding front back) ∙ own.1) in
    (own-whole handler encoding front parts.front parts.front_is, own-whole handler encoding back parts.back parts.back_is)

-- the parts of a text of which nothing is refused
pub whole-parts : (handler : Handler) (encoding : Encoding) (front back : List ℕ) → IsWhole handler encoding (front ++ back) → IsWhole handler encoding front × IsWhole handler encoding back
whole-parts handler encoding front back whole = parts-why handler encoding front back (whole-why handler encoding (front ++ back) whole)

-- The writing rule.

joined-both : (encoding : Encoding) (front back : List ℕ) → HasBytes encoding front → HasBytes encoding back → HasBytes encoding (front ++ back)
joined-both encoding front back one more =
    (one.0 ++ more.0, text_bytes-joined encoding front back ∙ (ap (λ (own : Option (List ℕ)). joined_bytes own (text_bytes encoding back)) one.1 ∙ ap (joined_bytes (Some one.0)) more.1))

-- line ends have bytes in each encoding
pub end-bytes : (encoding : Encoding) (newline : Newlines) → HasBytes encoding (written_end newline)
end-bytes Utf8 rule.Universal = (_, refl)
end-bytes Utf8 rule.Passthrough = (_, refl)
end-bytes Utf8 rule.Lf = (_, refl)
end-bytes Utf8 rule.Cr = (_, refl)
end-bytes Utf8 rule.Crlf = (_, refl)
end-bytes Latin1 rule.Universal = (_, refl)
end-bytes Latin1 rule.Passthrough = (_, refl)
end-bytes Latin1 rule.Lf = (_, refl)
end-bytes Latin1 rule.Cr = (_, refl)
end-bytes Latin1 rule.Crlf = (_, refl)
end-bytes Ascii rule.Universal = (_, refl)
end-bytes Ascii rule.Passthrough = (_, refl)
end-bytes Ascii rule.Lf = (_, refl)
end-bytes Ascii rule.Cr = (_, refl)
end-bytes Ascii rule.Crlf = (_, refl)
end-bytes Utf16Le rule.Universal = (_, refl)
end-bytes Utf16Le rule.Passthrough = (_, refl)
end-bytes Utf16Le rule.Lf = (_, refl)
end-bytes Utf16Le rule.Cr = (_, refl)
end-bytes Utf16Le rule.Crlf = (_, refl)
end-bytes Utf16Be rule.Universal = (_, refl)
end-bytes Utf16Be rule.Passthrough = (_, refl)
end-bytes Utf16Be rule.Lf = (_, refl)
end-bytes Utf16Be rule.Cr = (_, refl)
end-bytes Utf16Be rule.Crlf = (_, refl)

written_as-bytes : (encoding : Encoding) (newline : Newlines) (c : ℕ) (is_lf : Bool) → HasBytes encoding (c ∷ []) → HasBytes encoding (if is_lf then written_end newline else c ∷ [])
written_as-bytes encoding newline c true own = end-bytes encoding newline
written_as-bytes encoding newline c false own = own

written-bytes : (encoding : Encoding) (newline : Newlines) (text : List ℕ) → HasBytes encoding text → HasBytes encoding (written newline text)
written-bytes encoding newline [] own = own
written-bytes encoding newline (c ∷ text) own =
    let parts = joined_bytes-parts (own_bytes encoding c) (text_bytes encoding text) own.0 own.1 in
    let one : HasBytes encoding (c ∷ []) = (_, ap (λ (o : Option (List ℕ)). joined_bytes o (Some [])) parts.front_is) in
    joined-both encoding (written_as newline c) (written newline text) (written_as-bytes encoding newline c (nat_eq c lf) one) (written-bytes encoding newline text (parts.back, parts.back_is))

written-why : (handler : Handler) (encoding : Encoding) (newline : Newlines) (text : List ℕ) → (writes_runs handler ≡ true) ⊎ HasBytes encoding text → (writes_runs handler ≡ true) ⊎ HasBytes encoding (written newline text)
written-why handler encoding newline text (inl writes) = inl writes
written-why handler encoding newline text (inr own) = inr (written-bytes encoding newline text own)

-- the bytes of a text of which nothing is refused, each character by the writing rule
pub written-each : (handler : Handler) (encoding : Encoding) (newline : Newlines) (text : List ℕ) → IsWhole handler encoding text → (encoded encoding (encode_treatment handler encoding) (written newline text)).bytes ≡ each_spelled (λ c. each_spelled (character_bytes handler encoding) (written_as newline c)) text
written-each handler encoding newline text whole =
    encoded-each handler encoding (written newline text) (because-whole handler encoding (written newline text) (written-why handler encoding newline text (whole-why handler encoding text whole)))
    ∙ each-each (character_bytes handler encoding) (written_as newline) text
