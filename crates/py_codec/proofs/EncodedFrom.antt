-- The encoding of a text, a front or a run at a time.
use Rattle.std.proofs.Common.{◌≡◌, ℕ, suc, ◌+◌, ◌-◌, ◌≤◌, ◌⊎◌, inl, inr, List, [], ◌∷◌, ◌++◌, length, drop, Some, Ok, Err, refl, sym, ap, ◌∙◌, arith}
use Rattle.std.proofs.lemmas.List.{append_assoc, append-nil, length-drop, drop-drop, drop_at}
use Rattle.py_flat.specs.declared.fault.IoFault.{IoFault}
use Rattle.py_flat.specs.declared.fault.IoFault.TheVariants.{NoMemory}
use Rattle.py_plain.specs.declared.encoding.Encoding.{Encoding}
use Rattle.py_plain.specs.Encode.{own_bytes, text_bytes, run_length, Written, RefusesRun, EncodeTreatment, Encoded, EncodeEnding, AllWritten, AtRun, first_written, characters_behind, onto_encoded, encoded_from, encoded}
use Rattle.py_plain.proofs.OwnText.{joined_bytes-parts}
use Rattle.py_plain.proofs.Encodings.{encoded-skip}
use Rattle.py_codec.specs.Encoding.{encode_ended, encoding_of}
use Rattle.py_blocks.specs.Writing.{Wrote}
use Rattle.py_codec.specs.Substituting.{IsTreated, IsRunFault}
use Rattle.py_blocks.proofs.Written.{Wrote-count}
use Rattle.py_codec.proofs.RunLengths.{run-none}

-- what comes first of a text, and the encoding after it
encoded-first : (encoding : Encoding) (treat : EncodeTreatment) (place c used : ℕ) (cs written : List ℕ) → 1 ≤ used → first_written treat place (c ∷ cs) (run_length encoding (c ∷ cs)) (own_bytes encoding c) ≡ Written written used → encoded_from encoding treat place 0 (c ∷ cs) ≡ onto_encoded place (run_length encoding (c ∷ cs)) (Written written used) (encoded_from encoding treat (place + used) 0 (drop used (c ∷ cs)))
encoded-first encoding treat place c used cs written some first =
    let size = run_length encoding (c ∷ cs) in
    let behind : suc (used - 1) ≡ used = omega arith in
    let far : place + 1 + (used - 1) ≡ place + used = omega arith in
    ap (λ handled. onto_encoded place size handled (encoded_from encoding treat (place + 1) (characters_behind handled) cs)) first
    ∙ ap (λ w. onto_encoded place size (Written written used) w) (encoded-skip encoding treat (place + 1) (used - 1) cs
    ∙ ap (λ p. encoded_from encoding treat p 0 (drop (used - 1) cs)) far
    ∙ ap (λ k. encoded_from encoding treat (place + used) 0 (drop k (c ∷ cs))) behind)

-- bytes are those that come before others, and the ending is theirs
pub record IsBytesBefore (written : List ℕ) (made behind : Encoded) : Type 0 where
  pub bytes : made.bytes ≡ written ++ behind.bytes
  pub ending : made.ending ≡ behind.ending

-- a run that the treatment writes something for
pub encoded-run : (encoding : Encoding) (treat : EncodeTreatment) (place size used : ℕ) (left written : List ℕ) → size ≡ run_length encoding left → 1 ≤ size → 1 ≤ used → treat place left size ≡ Written written used → IsBytesBefore written (encoded_from encoding treat place 0 left) (encoded_from encoding treat (place + used) 0 (drop used left))
encoded-run encoding treat place size used [] written is some uses treats = absurd (omega (arith, is))
encoded-run encoding treat place size used (c ∷ cs) written is some uses treats =
    let none = run-none (own_bytes encoding c) (run_length encoding cs) (omega (arith, is)) in
    let first : first_written treat place (c ∷ cs) (run_length encoding (c ∷ cs)) (own_bytes encoding c) ≡ Written written used =
    ap (λ own. first_written treat place (c ∷ cs) (run_length encoding (c ∷ cs)) own) none ∙ ap (λ n. treat place (c ∷ cs) n) (sym is) ∙ treats in
    let step = encoded-first encoding treat place c used cs written uses first in
    record { bytes = ap (λ w. w.bytes) step; ending = ap (λ w. w.ending) step }

-- an encoding ends at a run that the treatment refuses
pub encoded-refused : (encoding : Encoding) (treat : EncodeTreatment) (place size : ℕ) (left : List ℕ) → size ≡ run_length encoding left → 1 ≤ size → treat place left size ≡ RefusesRun → encoded_from encoding treat place 0 left ≡ record { bytes = []; ending = AtRun place (place + size) }
encoded-refused encoding treat place size [] is some treats = absurd (omega (arith, is))
encoded-refused encoding treat place size (c ∷ cs) is some treats =
    let none = run-none (own_bytes encoding c) (run_length encoding cs) (omega (arith, is)) in
    let first : first_written treat place (c ∷ cs) (run_length encoding (c ∷ cs)) (own_bytes encoding c) ≡ RefusesRun =
    ap (λ own. first_written treat place (c ∷ cs) (run_length encoding (c ∷ cs)) own) none ∙ ap (λ n. treat place (c ∷ cs) n) (sym is) ∙ treats in
    ap (λ handled. onto_encoded place (run_length encoding (c ∷ cs)) handled (encoded_from encoding treat (place + 1) (characters_behind handled) cs)) first
    ∙ ap (λ (n : ℕ). onto_encoded place n RefusesRun (encoded_from encoding treat (place + 1) 0 cs)) (sym is)

-- characters that all have bytes
pub encoded-front : (encoding : Encoding) (treat : EncodeTreatment) (place : ℕ) (front left written : List ℕ) → text_bytes encoding front ≡ Some written → IsBytesBefore written (encoded_from encoding treat place 0 (front ++ left)) (encoded_from encoding treat (place + length front) 0 left)
encoded-front encoding treat place [] left written is =
    let none : [] ≡ written = cc in
    let here : encoded_from encoding treat place 0 left ≡ encoded_from encoding treat (place + 0) 0 left = ap (λ p. encoded_from encoding treat p 0 left) (omega arith) in
    record {
      bytes = ap (λ w. w.bytes) here ∙ ap (λ bs. bs ++ (encoded_from encoding treat (place + 0) 0 left).bytes) none;
      ending = ap (λ w. w.ending) here;
    }
encoded-front encoding treat place (c ∷ front) left written is =
    let parts = joined_bytes-parts (own_bytes encoding c) (text_bytes encoding front) written is in
    let first : first_written treat place (c ∷ (front ++ left)) (run_length encoding (c ∷ (front ++ left))) (own_bytes encoding c) ≡ Written parts.front 1 =
    ap (λ own. first_written treat place (c ∷ (front ++ left)) (run_length encoding (c ∷ (front ++ left))) own) parts.front_is in
    let step = encoded-first encoding treat place c 1 (front ++ left) parts.front (omega arith) first in
    let further = encoded-front encoding treat (place + 1) front left parts.back parts.back_is in
    let far : encoded_from encoding treat (place + 1 + length front) 0 left ≡ encoded_from encoding treat (place + suc (length front)) 0 left = ap (λ p. encoded_from encoding treat p 0 left) (omega arith) in
    record {
      bytes = ap (λ w. w.bytes) step ∙ ap (λ bs. parts.front ++ bs) (further.bytes ∙ ap (λ w. parts.back ++ w.bytes) far)
          ∙ sym (append_assoc parts.front parts.back _) ∙ ap (λ bs. bs ++ (encoded_from encoding treat (place + suc (length front)) 0 left).bytes) (sym parts.whole);
      ending = ap (λ w. w.ending) step ∙ further.ending ∙ ap (λ w. w.ending) far;
    }

-- what is out at a place, and the encoding of what is left there, are the whole encoding
pub record Encodes (encoding : Encoding) (treat : EncodeTreatment) (text : List ℕ) (place : ℕ) (out left : List ℕ) : Type 0 where
  pub bytes : out ++ (encoded_from encoding treat place 0 left).bytes ≡ (encoded encoding treat text).bytes
  pub ending : (encoded_from encoding treat place 0 left).ending ≡ (encoded encoding treat text).ending
  pub rest : left ≡ drop place text
  pub within : place ≤ length text

pub Encodes-all : (encoding : Encoding) (treat : EncodeTreatment) (text : List ℕ) → Encodes encoding treat text 0 [] text
Encodes-all encoding treat text = record { bytes = refl; ending = refl; rest = refl; within = omega arith }

-- some bytes more are out
Encodes-bytes : {encoding : Encoding} {treat : EncodeTreatment} {text : List ℕ} {place : ℕ} {out left : List ℕ} (used : ℕ) (written rest after : List ℕ) → Encodes encoding treat text place out left → IsBytesBefore written (encoded_from encoding treat place 0 left) (encoded_from encoding treat (place + used) 0 rest) → after ≡ out ++ written → rest ≡ drop used left → place + used ≤ length text → Encodes encoding treat text (place + used) after rest
Encodes-bytes {encoding} {treat} {text} {place} {out} {left} used written rest after before more appended is within = record {
  bytes = ap (λ bs. bs ++ (encoded_from encoding treat (place + used) 0 rest).bytes) appended ∙ append_assoc out written _ ∙ ap (λ bs. out ++ bs) (sym more.bytes) ∙ before.bytes;
  ending = sym more.ending ∙ before.ending;
  rest = is ∙ ap (λ cs. drop used cs) before.rest ∙ drop-drop used place text;
  within = within;
}

-- once a front of what is left was written, what is out and the encoding of the rest are the whole encoding
pub Encodes-wrote : {encoding : Encoding} {treat : EncodeTreatment} {text : List ℕ} {place count : ℕ} {out after left rest : List ℕ} → Encodes encoding treat text place out left → Wrote encoding left out after count rest → Encodes encoding treat text (place + count) after rest
Encodes-wrote {encoding} {treat} {text} {place} {count} {out} {after} {left} {rest} before wrote =
    let whole : encoded_from encoding treat place 0 (wrote.front ++ rest) ≡ encoded_from encoding treat place 0 left = ap (λ cs. encoded_from encoding treat place 0 cs) (sym wrote.split) in
    let far : encoded_from encoding treat (place + length wrote.front) 0 rest ≡ encoded_from encoding treat (place + count) 0 rest = ap (λ n. encoded_from encoding treat (place + n) 0 rest) (sym wrote.counted) in
    let front = encoded-front encoding treat place wrote.front rest wrote.written wrote.own in
    Encodes-bytes count wrote.written rest after before
    (record {
      bytes = ap (λ (w : Encoded). w.bytes) (sym whole) ∙ front.bytes ∙ ap (λ (w : Encoded). wrote.written ++ w.bytes) far;
      ending = ap (λ (w : Encoded). w.ending) (sym whole) ∙ front.ending ∙ ap (λ (w : Encoded). w.ending) far;
    })
    wrote.appended
    (sym (drop_at wrote.front rest count (sym wrote.counted)) ∙ ap (λ cs. drop count cs) (sym wrote.split))
    (omega (arith, Wrote-count wrote, length-drop place text, ap length before.rest, before.within))

-- once a run was treated, what is out and the encoding of the rest are the whole encoding
pub Encodes-treated : {encoding : Encoding} {treat : EncodeTreatment} {text : List ℕ} {place size used : ℕ} {out after left rest : List ℕ} → Encodes encoding treat text place out left → size ≡ run_length encoding left → 1 ≤ size → IsTreated (treat place left size) out after used → rest ≡ drop used left → used ≤ length left → Encodes encoding treat text (place + used) after rest
Encodes-treated {encoding} {treat} {text} {place} {size} {used} {out} {after} {left} {rest} before is some treated behind fits =
    let more = encoded-run encoding treat place size used left treated.written is some treated.some treated.is in
    let there : encoded_from encoding treat (place + used) 0 (drop used left) ≡ encoded_from encoding treat (place + used) 0 rest = ap (λ cs. encoded_from encoding treat (place + used) 0 cs) (sym behind) in
    Encodes-bytes used treated.written rest after before
    (record {
      bytes = more.bytes ∙ ap (λ (w : Encoded). treated.written ++ w.bytes) there;
      ending = more.ending ∙ ap (λ (w : Encoded). w.ending) there;
    })
    treated.appended behind
    (omega (arith, fits, length-drop place text, ap length before.rest, before.within))

-- the encoding of a text of which nothing is left
pub answer-all : {encoding : Encoding} {treat : EncodeTreatment} {text : List ℕ} {place : ℕ} {out left : List ℕ} (refusal : (start end : ℕ) → IoFault) → Encodes encoding treat text place out left → left ≡ [] → encoding_of (encoded encoding treat text) (length text) refusal ≡ Ok (out, place)
answer-all {encoding} {treat} {text} {place} {out} refusal encodes none =
    let made = encoded encoding treat text in
    let bytes : made.bytes ≡ out = sym encodes.bytes ∙ ap (λ cs. out ++ (encoded_from encoding treat place 0 cs).bytes) none ∙ append-nil out in
    let ending : made.ending ≡ AllWritten = sym encodes.ending ∙ ap (λ cs. (encoded_from encoding treat place 0 cs).ending) none in
    let total : length text ≡ place = omega (arith, encodes.within, length-drop place text, ap length (sym encodes.rest ∙ none)) in
    ap (λ (end : EncodeEnding). encode_ended made.bytes (length text) refusal end) ending ∙ ap (λ bs. encode_ended bs (length text) refusal AllWritten) bytes ∙ ap (λ (n : ℕ). encode_ended out n refusal AllWritten) total

-- the encoding of a text that is refused at a run
pub answer-refused : {encoding : Encoding} {treat : EncodeTreatment} {text : List ℕ} {place size : ℕ} {out left : List ℕ} (refusal : (start end : ℕ) → IoFault) → Encodes encoding treat text place out left → size ≡ run_length encoding left → 1 ≤ size → treat place left size ≡ RefusesRun → encoding_of (encoded encoding treat text) (length text) refusal ≡ Err (refusal place (place + size))
answer-refused {encoding} {treat} {text} {place} {size} {out} {left} refusal encodes is some refuses =
    let made = encoded encoding treat text in
    let ending : made.ending ≡ AtRun place (place + size) = sym encodes.ending ∙ ap (λ (w : Encoded). w.ending) (encoded-refused encoding treat place size left is some refuses) in
    ap (λ (end : EncodeEnding). encode_ended made.bytes (length text) refusal end) ending

-- a fault at a run says out of memory, or is what the encoding of the text is refused with
pub answer-fault : {encoding : Encoding} {treat : EncodeTreatment} {text : List ℕ} {place size : ℕ} {out left : List ℕ} (refusal : (start end : ℕ) → IoFault) (why : IoFault) → Encodes encoding treat text place out left → size ≡ run_length encoding left → 1 ≤ size → IsRunFault (treat place left size) why (refusal place (place + size)) → (why ≡ NoMemory) ⊎ (encoding_of (encoded encoding treat text) (length text) refusal ≡ Err why)
answer-fault refusal why encodes is some (inl memory) = inl memory
answer-fault refusal why encodes is some (inr refused) = inr (answer-refused refusal encodes is some refused.0 ∙ ap (λ (fault : IoFault). Err fault) (sym refused.1))
