-- Places of the plain text.
use Rattle.std.proofs.Common.{◌≡◌, ℕ, ◌+◌, ◌≤◌, true, false, List, length as len, take, drop, Option, Some, None, ap, sym, ◌∙◌, arith}
use Rattle.std.proofs.lemmas.List.{drop-take, length-take-le}
use Rattle.py_flat.specs.Bytes.{first_of}
use Rattle.py_plain_text.specs.declared.plain_place.PlainSettings.{PlainSettings}
use Rattle.py_plain_text.specs.declared.plain_place.PlainFront.{PlainFront}
use Rattle.py_plain.specs.Units.{Unknown}
use Rattle.py_plain.specs.Handlers.{treatment}
use Rattle.py_plain.specs.Items.{walk_from, plain, characters_of}
use Rattle.py_plain_text.specs.Rest.{front_characters}
use Rattle.py_plain_text.specs.TextStep.{asks_any}
use Rattle.py_plain_text.specs.PlainSteps.{settings_shown, front_shown}

-- the decoding of a front, with nothing after it, gives its characters
pub front_is : (settings : PlainSettings) (front : PlainFront) (bytes : List ℕ) → drop front.skipped (characters_of (plain settings.encoding (treatment settings.handler settings.encoding) Unknown (take (front.start + front.length) bytes) front.start).items) ≡ front_characters (settings_shown settings) Unknown bytes (Some (front_shown front))
front_is settings front bytes =
    ap (λ bs. drop front.skipped (characters_of (walk_from settings.encoding (treatment settings.handler settings.encoding) true Unknown front.start 0 bs).items)) (drop-take front.start front.length bytes)

-- what is limited to nothing has no characters
pub none-asked : (limit : Option ℕ) (count : ℕ) (line cs : List ℕ) → take count cs ≡ first_of limit line → count ≤ len cs → asks_any limit ≡ false → count ≡ 0
none-asked None count line cs is within none = absurd (cc)
none-asked (Some limit) count line cs is within none =
    let nothing : limit ≡ 0 = grind (arith, none) in
    sym (length-take-le count cs within) ∙ ap len is ∙ ap (λ n. len (take n line)) nothing
