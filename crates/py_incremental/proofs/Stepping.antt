-- What the step of an incremental decoder follows from.
use Rattle.std.proofs.Common.{◌≡◌, ℕ, ◌-◌, ◌≤◌, ◌⊎◌, inl, inr, Bool, List, ◌++◌, length as len, take, drop, Ok, Err, String, refl, sym, ap, subst, ◌∙◌}
use Rattle.std.proofs.lemmas.List.{take_rest}
use Rattle.std.specs.declared.alloc.Global.{Global}
use Rattle.py_flat.specs.declared.fault.IoFault.{IoFault}
use Rattle.py_flat.specs.declared.fault.IoFault.TheVariants.{UnicodeDecodeError, NoMemory}
use Rattle.py_plain.specs.declared.encoding.Encoding.{Encoding}
use Rattle.py_plain.specs.declared.handler.Handler.{Handler}
use Rattle.py_plain.specs.Units.{Order, Unknown}
use Rattle.py_plain.specs.Handlers.{treatment}
use Rattle.py_plain.specs.Items.{Walk, characters_of}
use Rattle.py_codec.specs.Answers.{text_of}
use Rattle.py_incremental.specs.Incremental.{DecoderView, fresh, walk_with, decoding_with, DecoderStep}
use Rattle.py_plain.proofs.Walks.{walk-order}
use Rattle.py_codec.proofs.Ended.{answered}
use Rattle.py_incremental.proofs.Feeding.{left_short}

-- a decoding uses no more bytes than there are, and leaves at most three
pub used_within : (encoding : Encoding) (handler : Handler) (last : Bool) (bytes text : List ℕ) (used : ℕ) → decoding_with (fresh encoding handler) last bytes ≡ Ok (text, used) → (used ≤ len bytes) × (len (take (len bytes - used) (drop used bytes)) ≤ 3)
used_within encoding handler last bytes text used is =
    let walk : Walk = walk_with (fresh encoding handler) last bytes in
    let left = left_short encoding (treatment handler encoding) last Unknown bytes used (answered (characters_of walk.items) (len bytes) UnicodeDecodeError walk.ending text used is).came in
    (left.0, subst (λ (bs : List ℕ). len bs ≤ 3) (sym (take_rest bytes used)) left.1)

-- what a decoder that knows no order answers is what one that has read nothing answers to the held bytes and the piece joined
answered_as : (seen : DecoderView) (last : Bool) (bytes joined : List ℕ) → seen.order ≡ Unknown → joined ≡ seen.held ++ bytes → decoding_with seen last bytes ≡ decoding_with (fresh seen.encoding seen.handler) last joined
answered_as seen last bytes joined unknown here =
    ap (λ (order : Order). decoding_with (record seen { order = order }) last bytes) unknown
    ∙ ap (decoding_with (fresh seen.encoding seen.handler) last) (sym here)

-- the step of a decoder, by the decoding of the held bytes and the piece joined
pub step_ok : (decoder seen : DecoderView) (last : Bool) (bytes joined held : List ℕ) (text : String Global) (used : ℕ) → seen ≡ decoder → seen.order ≡ Unknown → joined ≡ decoder.held ++ bytes → decoding_with (fresh seen.encoding seen.handler) last joined ≡ Ok (text_of text, used) → held ≡ take (len joined - used) (drop used joined) → DecoderStep decoder last bytes (Ok text) (record seen { held = held })
step_ok decoder seen last bytes joined held text used same unknown is answer left =
    let step : joined ≡ seen.held ++ bytes → DecoderStep seen last bytes (Ok text) (record seen { held = held }) = λ here. (
      used,
      answered_as seen last bytes joined unknown here ∙ answer,
      ap (λ (bs : List ℕ). record seen { held = bs }) (left ∙ (take_rest joined used ∙ ap (drop used) here))
          ∙ ap (λ (order : Order). record seen { order = order; held = drop used (seen.held ++ bytes) }) (sym (walk-order seen.encoding (treatment seen.handler seen.encoding) last seen.order 0 0 (seen.held ++ bytes))),
    ) in
    subst (λ (d : DecoderView). joined ≡ d.held ++ bytes → DecoderStep d last bytes (Ok text) (record seen { held = held })) same step is

-- a refusal of the held bytes and the piece joined is the step of a decoder that stays as it was
pub step_err : (decoder seen : DecoderView) (last : Bool) (bytes joined : List ℕ) (why : IoFault) → seen ≡ decoder → seen.order ≡ Unknown → joined ≡ decoder.held ++ bytes → (why ≡ NoMemory) ⊎ (decoding_with (fresh seen.encoding seen.handler) last joined ≡ Err why) → DecoderStep decoder last bytes (Err why) decoder
step_err decoder seen last bytes joined why same unknown is (inl memory) = (refl, inl memory)
step_err decoder seen last bytes joined why same unknown is (inr refused) =
    let step : joined ≡ seen.held ++ bytes → decoding_with seen last bytes ≡ Err why = λ here. answered_as seen last bytes joined unknown here ∙ refused in
    (refl, inr (subst (λ (d : DecoderView). joined ≡ d.held ++ bytes → decoding_with d last bytes ≡ Err why) same step is))
