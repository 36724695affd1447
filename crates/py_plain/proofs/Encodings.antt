-- The plain encoding, one character or one run at a time.
use Rattle.std.proofs.Common.{◌≡◌, ℕ, zero, suc, ◌+◌, ◌-◌, ◌<◌, ◌≤◌, List, [], ◌∷◌, ◌++◌, length as len, drop, Some, refl, sym, ap, ◌∙◌, arith}
use Rattle.std.proofs.lemmas.List.{drop_more, drop-drop, append_assoc, append-nil}
use Rattle.py_plain.specs.declared.encoding.Encoding.{Encoding}
use Rattle.py_plain.specs.declared.handler.Handler.{Handler}
use Rattle.py_plain.specs.declared.plain_encode.FirstWritten.TheVariants as seen
use Rattle.py_plain.specs.Encode.{EncodeTreatment, EncodeHandled, Written, RefusesRun, AtRun, Encoded, run_length, encode_treatment, characters_behind, onto_encoded, encoded_from, refused_run}
use Rattle.py_plain.specs.Writing.{WritesFirst, first_encoded}

-- the encoding from a place on
abbrev pub encoded_at : Encoding → EncodeTreatment → List ℕ → ℕ → Encoded
encoded_at encoding treat text place = encoded_from encoding treat place 0 (drop place text)

-- passing over characters is to stand after them
pub encoded-skip : (encoding : Encoding) (treat : EncodeTreatment) (place skip : ℕ) (text : List ℕ) → encoded_from encoding treat place skip text ≡ encoded_from encoding treat (place + skip) 0 (drop skip text)
encoded-skip encoding treat place zero text = ap (λ p. encoded_from encoding treat p 0 text) (omega arith)
encoded-skip encoding treat place (suc skip) [] = refl
encoded-skip encoding treat place (suc skip) (c ∷ cs) =
    encoded-skip encoding treat (place + 1) skip cs ∙ ap (λ p. encoded_from encoding treat p 0 (drop skip cs)) (omega arith)

-- the encoding from a place on begins with what is written there
pub encoded_at-first : (encoding : Encoding) (treat : EncodeTreatment) (text : List ℕ) (place : ℕ) → place < len text → encoded_at encoding treat text place ≡ onto_encoded place (run_length encoding (drop place text)) (first_encoded encoding treat place (drop place text)) (encoded_from encoding treat (place + 1) (characters_behind (first_encoded encoding treat place (drop place text))) (drop (place + 1) text))
encoded_at-first encoding treat text place inside =
    let split = drop_more text place 0 inside in
    rw split refl

-- where bytes are written first, the encoding from a place on is these bytes, then the encoding from after what they stand for
pub encoded_at-written : (encoding : Encoding) (treat : EncodeTreatment) (text : List ℕ) (place used : ℕ) (bytes : List ℕ) → place < len text → 1 ≤ used → first_encoded encoding treat place (drop place text) ≡ Written bytes used → encoded_at encoding treat text place ≡ record { bytes = bytes ++ (encoded_at encoding treat text (place + used)).bytes; ending = (encoded_at encoding treat text (place + used)).ending }
encoded_at-written encoding treat text place used bytes inside some first =
    let behind : drop (used - 1) (drop (place + 1) text) ≡ drop (place + used) text = drop-drop (used - 1) (place + 1) text ∙ ap (λ k. drop k text) (omega arith) in
    encoded_at-first encoding treat text place inside
    ∙ ap (λ item. onto_encoded place (run_length encoding (drop place text)) item (encoded_from encoding treat (place + 1) (characters_behind item) (drop (place + 1) text))) first
    ∙ ap (λ e. onto_encoded place (run_length encoding (drop place text)) (Written bytes used) e) (encoded-skip encoding treat (place + 1) (used - 1) (drop (place + 1) text) ∙ ap (λ p. encoded_from encoding treat p 0 (drop (used - 1) (drop (place + 1) text))) (omega arith) ∙ ap (λ cs. encoded_from encoding treat (place + used) 0 cs) behind)

-- the encoding from a place on has no bytes and ends there, where a run is refused
pub encoded_at-refused : (encoding : Encoding) (treat : EncodeTreatment) (text : List ℕ) (place : ℕ) → place < len text → first_encoded encoding treat place (drop place text) ≡ RefusesRun → encoded_at encoding treat text place ≡ record { bytes = []; ending = AtRun place (place + run_length encoding (drop place text)) }
encoded_at-refused encoding treat text place inside first =
    encoded_at-first encoding treat text place inside
    ∙ ap (λ item. onto_encoded place (run_length encoding (drop place text)) item (encoded_from encoding treat (place + 1) (characters_behind item) (drop (place + 1) text))) first

-- what is out at a place, and what comes from there on, are the whole encoding
pub record GoesOn (encoding : Encoding) (handler : Handler) (text : List ℕ) (place : ℕ) (out : List ℕ) : Type 0 where
  pub bytes : out ++ (encoded_at encoding (encode_treatment handler encoding) text place).bytes ≡ (encoded_at encoding (encode_treatment handler encoding) text 0).bytes
  pub refusal : refused_run (encoded_at encoding (encode_treatment handler encoding) text place).ending ≡ refused_run (encoded_at encoding (encode_treatment handler encoding) text 0).ending

-- the bytes that a first piece of writing gave were appended
writes-written : (size : ℕ) (handled : EncodeHandled) (used : ℕ) (before after : List ℕ) → WritesFirst size handled before after (seen.Written used) → (bytes : List ℕ) × (handled ≡ Written bytes used) × (after ≡ before ++ bytes)
writes-written size (Written bytes count) used before after writes = (bytes, cc, writes.0)
writes-written size RefusesRun used before after writes = absurd (cc)

-- a refused run was seen only where the encoding refuses it, with its own length, and nothing came
writes-refused : (size : ℕ) (handled : EncodeHandled) (length : ℕ) (before after : List ℕ) → WritesFirst size handled before after (seen.RefusedRun length) → (handled ≡ RefusesRun) × (length ≡ size) × (after ≡ before)
writes-refused size (Written bytes count) length before after writes = absurd (cc)
writes-refused size RefusesRun length before after writes = (refl, cc, writes.0)

-- what the program has out after what comes first goes on to the whole encoding
pub GoesOn-written : (encoding : Encoding) (handler : Handler) (text : List ℕ) (place used : ℕ) (before after : List ℕ) → place < len text → 1 ≤ used → WritesFirst (run_length encoding (drop place text)) (first_encoded encoding (encode_treatment handler encoding) place (drop place text)) before after (seen.Written used) → GoesOn encoding handler text place before → GoesOn encoding handler text (place + used) after
GoesOn-written encoding handler text place used before after inside some writes goes =
    let treat = encode_treatment handler encoding in
    let given = writes-written (run_length encoding (drop place text)) (first_encoded encoding treat place (drop place text)) used before after writes in
    let step = encoded_at-written encoding treat text place used given.0 inside some given.1 in
    record {
      bytes = ap (λ out. out ++ (encoded_at encoding treat text (place + used)).bytes) given.2 ∙ append_assoc before given.0 (encoded_at encoding treat text (place + used)).bytes ∙ ap (λ e. before ++ e.bytes) (sym step) ∙ goes.bytes;
      refusal = ap (λ e. refused_run e.ending) (sym step) ∙ goes.refusal;
    }

-- the bytes that are out at a refused run are the whole encoding, and that run is its refusal
pub GoesOn-refused : (encoding : Encoding) (handler : Handler) (text : List ℕ) (place size : ℕ) (before after : List ℕ) → place < len text → WritesFirst (run_length encoding (drop place text)) (first_encoded encoding (encode_treatment handler encoding) place (drop place text)) before after (seen.RefusedRun size) → GoesOn encoding handler text place before → (after ≡ (encoded_at encoding (encode_treatment handler encoding) text 0).bytes) × (Some (place, place + size) ≡ refused_run (encoded_at encoding (encode_treatment handler encoding) text 0).ending)
GoesOn-refused encoding handler text place size before after inside writes goes =
    let treat = encode_treatment handler encoding in
    let run = writes-refused (run_length encoding (drop place text)) (first_encoded encoding treat place (drop place text)) size before after writes in
    let here = encoded_at-refused encoding treat text place inside run.0 in (
      run.2 ∙ sym (append-nil before) ∙ ap (λ e. before ++ e.bytes) (sym here) ∙ goes.bytes,
      ap (λ k. Some (place, place + k)) run.1 ∙ ap (λ e. refused_run e.ending) (sym here) ∙ goes.refusal,
    )
