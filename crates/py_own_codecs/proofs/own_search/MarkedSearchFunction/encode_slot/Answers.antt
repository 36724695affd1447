use Rattle.std.proofs.Common.{List, ℕ, ◌∷◌, Result, Ok, sym, ap, ◌∙◌}
use Rattle.std.proofs.lemmas.Str.{encodes-chars}
use Rattle.py_own_codecs.proofs.own_search.MarkedSearchFunction.encode_slot.Goals as goal

pub returns-in-Ok-clause-bytes : goal.returns-in-Ok-clause-bytes
returns-in-Ok-clause-bytes g c =
    let Made : Type 0 = Result (List ℕ) (ℕ × ℕ) in
    let made : List ℕ → Made = λ bytes. Ok bytes in
    ap made (ap (λ (bytes : List ℕ). 0xEF ∷ 0xBB ∷ 0xBF ∷ bytes) (encodes-chars c.args.text.now c.utf8.text) ∙ sym c.in-Ok.ensures)
