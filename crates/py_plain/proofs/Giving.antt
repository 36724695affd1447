-- What the program gives for the first item, and the decoding that it goes on with.
use Rattle.std.proofs.Common.{◌≡◌, ℕ, ◌+◌, ◌<◌, ◌≤◌, Bool, List, ◌∷◌, ◌++◌, length as len, drop, get_or, None, Some, refl, sym, ap, ◌∙◌}
use Rattle.std.proofs.lemmas.List.{drop_more, append-nil}
use Rattle.py_plain.specs.declared.encoding.Encoding.{Encoding}
use Rattle.py_plain.specs.declared.handler.Handler.{Handler}
use Rattle.py_plain.specs.declared.decoded.FirstItem.TheVariants as seen
use Rattle.py_plain.specs.Units.{Order}
use Rattle.py_plain.specs.Handlers.{Treatment, treatment}
use Rattle.py_plain.specs.Items.{FirstItem, Given, RefusedRange, Unfinished, AtRange, AtCut, ends, first_item, used_behind, onto_walk, walk_from, decoding, characters_of, refusal_of}
use Rattle.py_plain.specs.Decoding.{Gives}
use Rattle.py_plain.proofs.Walks.{Continues, Continues-next}

-- an item that is given has the characters that came
Gives-given : (item : FirstItem) (used : ℕ) (before after : List ℕ) → Gives item before after (seen.Given used) → (characters : List ℕ) × (item ≡ Given characters used) × (after ≡ before ++ characters)
Gives-given (Given characters count) used before after gives = (characters, cc, gives.0)
Gives-given (RefusedRange length) used before after gives = absurd (cc)
Gives-given Unfinished used before after gives = absurd (cc)

-- a refused range was seen only where the item is that range, and no characters came
Gives-range : (item : FirstItem) (size : ℕ) (before after : List ℕ) → Gives item before after (seen.RefusedRange size) → (item ≡ RefusedRange size) × (after ≡ before)
Gives-range (Given characters count) size before after gives = absurd (cc)
Gives-range (RefusedRange length) size before after gives = (cc, gives.0)
Gives-range Unfinished size before after gives = absurd (cc)

-- bytes that may still become a character were seen only where the item is that, and no characters came
Gives-unfinished : (item : FirstItem) (before after : List ℕ) → Gives item before after seen.Unfinished → (item ≡ Unfinished) × (after ≡ before)
Gives-unfinished (Given characters count) before after gives = absurd (cc)
Gives-unfinished (RefusedRange length) before after gives = absurd (cc)
Gives-unfinished Unfinished before after gives = (refl, gives.0)

-- the decoding from a place on ends at a range that is refused there
decoding-refused : (encoding : Encoding) (treat : Treatment) (last : Bool) (order : Order) (bytes : List ℕ) (place size : ℕ) → place < len bytes → first_item encoding treat last order place (drop place bytes) ≡ RefusedRange size → decoding encoding treat last order bytes place ≡ ends order (AtRange place (place + size))
decoding-refused encoding treat last order bytes place size inside first =
    let split = drop_more bytes place 0 inside in
    let rest = drop (place + 1) bytes in
    let here : first_item encoding treat last order place (get_or bytes place 0 ∷ rest) ≡ RefusedRange size = ap (λ bs. first_item encoding treat last order place bs) (sym split) ∙ first in
    ap (λ bs. walk_from encoding treat last order place 0 bs) split
    ∙ ap (λ item. onto_walk order place item (walk_from encoding treat last order (place + 1) (used_behind item) rest)) here

-- the decoding from a place on ends at an item that is unfinished there
decoding-unfinished : (encoding : Encoding) (treat : Treatment) (last : Bool) (order : Order) (bytes : List ℕ) (place : ℕ) → place < len bytes → first_item encoding treat last order place (drop place bytes) ≡ Unfinished → decoding encoding treat last order bytes place ≡ ends order (AtCut place)
decoding-unfinished encoding treat last order bytes place inside first =
    let split = drop_more bytes place 0 inside in
    let rest = drop (place + 1) bytes in
    let here : first_item encoding treat last order place (get_or bytes place 0 ∷ rest) ≡ Unfinished = ap (λ bs. first_item encoding treat last order place bs) (sym split) ∙ first in
    ap (λ bs. walk_from encoding treat last order place 0 bs) split
    ∙ ap (λ item. onto_walk order place item (walk_from encoding treat last order (place + 1) (used_behind item) rest)) here

-- what the program has out after an item goes on to the whole decoding
pub Continues-given : (encoding : Encoding) (handler : Handler) (last : Bool) (order : Order) (bytes : List ℕ) (from place used : ℕ) (before after : List ℕ) → place < len bytes → 1 ≤ used → Gives (first_item encoding (treatment handler encoding) last order place (drop place bytes)) before after (seen.Given used) → Continues encoding handler last order bytes from place before → Continues encoding handler last order bytes from (place + used) after
Continues-given encoding handler last order bytes from place used before after inside some gives continues =
    let given = Gives-given (first_item encoding (treatment handler encoding) last order place (drop place bytes)) used before after gives in
    rw given.2 (Continues-next encoding handler last order bytes from place before given.0 used inside some given.1 continues)

-- the characters that are out at a refused range are the whole decoding, and that range is its refusal
pub Continues-refused : (encoding : Encoding) (handler : Handler) (last : Bool) (order : Order) (bytes : List ℕ) (from place size : ℕ) (before after : List ℕ) → place < len bytes → Gives (first_item encoding (treatment handler encoding) last order place (drop place bytes)) before after (seen.RefusedRange size) → Continues encoding handler last order bytes from place before → (after ≡ characters_of (decoding encoding (treatment handler encoding) last order bytes from).items) × (Some (place, place + size) ≡ refusal_of (decoding encoding (treatment handler encoding) last order bytes from).ending)
Continues-refused encoding handler last order bytes from place size before after inside gives continues =
    let treat = treatment handler encoding in
    let range = Gives-range (first_item encoding treat last order place (drop place bytes)) size before after gives in
    let here = decoding-refused encoding treat last order bytes place size inside range.0 in (
      range.1 ∙ sym (append-nil before) ∙ ap (λ w. before ++ characters_of w.items) (sym here) ∙ continues.characters,
      ap (λ w. refusal_of w.ending) (sym here) ∙ continues.refusal,
    )

-- the characters that are out at an unfinished item are the whole decoding, and nothing is refused
pub Continues-unfinished : (encoding : Encoding) (handler : Handler) (last : Bool) (order : Order) (bytes : List ℕ) (from place : ℕ) (before after : List ℕ) → place < len bytes → Gives (first_item encoding (treatment handler encoding) last order place (drop place bytes)) before after seen.Unfinished → Continues encoding handler last order bytes from place before → (after ≡ characters_of (decoding encoding (treatment handler encoding) last order bytes from).items) × (None ≡ refusal_of (decoding encoding (treatment handler encoding) last order bytes from).ending)
Continues-unfinished encoding handler last order bytes from place before after inside gives continues =
    let treat = treatment handler encoding in
    let cut = Gives-unfinished (first_item encoding treat last order place (drop place bytes)) before after gives in
    let here = decoding-unfinished encoding treat last order bytes place inside cut.0 in (
      cut.1 ∙ sym (append-nil before) ∙ ap (λ w. before ++ characters_of w.items) (sym here) ∙ continues.characters,
      ap (λ w. refusal_of w.ending) (sym here) ∙ continues.refusal,
    )
