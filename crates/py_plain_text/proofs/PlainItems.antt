-- The items of the plain text, one after the other.
use Rattle.std.proofs.Common.{◌≡◌, ◌⊎◌, inl, inr, subst, ℕ, ◌<◌, ◌≤◌, true, List, [], ◌++◌, length as len, drop, take, Some, refl, ap, ◌∙◌, arith}
use Rattle.std.proofs.lemmas.List.{length-drop, length-take}
use Rattle.py_plain.specs.declared.decoded.FirstItem.{FirstItem as Seen}
use Rattle.py_plain.specs.declared.decoded.FirstItem.TheVariants as seen
use Rattle.py_plain.specs.Units.{Unknown}
use Rattle.py_plain.specs.Handlers.{treatment}
use Rattle.py_plain.specs.Items.{Walk, FirstItem, Given, RefusedRange, Unfinished, first_item, onto_walk}
use Rattle.py_plain.specs.Decoding.{Gives}
use Rattle.py_plain.proofs.Walks.{decoding-given}
use Rattle.py_plain_text.specs.declared.plain_place.PlainSettings.{PlainSettings}
use Rattle.py_plain_text.specs.declared.plain_place.PlainFront.{PlainFront}
use Rattle.py_plain_text.specs.Rest.{front_characters}
use Rattle.py_plain_text.specs.PlainSteps.{settings_shown, front_shown}
use Rattle.py_plain_text.specs.PlainCookies.{items_from, StandsAt}
use Rattle.py_plain_text.proofs.Inside.{onto_some, none_left}
use Rattle.py_plain_text.proofs.Short.{IsFew, item_few, walk_few}

-- an item that is given has the characters that came
pub gives_given : (item : FirstItem) (used : ℕ) (before after : List ℕ) → Gives item before after (seen.Given used) → (characters : List ℕ) × (item ≡ Given characters used) × (after ≡ before ++ characters)
gives_given (Given characters count) used before after gives = (characters, cc, gives.0)
gives_given (RefusedRange size) used before after gives = absurd (cc)
gives_given Unfinished used before after gives = absurd (cc)

-- the program's first item, as the item of the definitions
abbrev pub first_at : PlainSettings → List ℕ → ℕ → FirstItem
first_at settings bytes place = first_item settings.encoding (treatment settings.handler settings.encoding) true Unknown place (drop place bytes)

given_at : (settings : PlainSettings) (bytes : List ℕ) (place used : ℕ) (before after characters : List ℕ) → place < len bytes → (1 ≤ used) × (used ≤ len (drop place bytes)) → first_at settings bytes place ≡ Given characters used → StandsAt settings bytes place characters used
given_at settings bytes place used before after characters inside some is =
    let few : IsFew characters used = item_few settings.handler settings.encoding true Unknown place (drop place bytes) characters used is in
    record {
      some = some.0;
      few = few.bytes;
      within = omega (arith, inside, some.1, length-drop place bytes);
      short = few.characters;
      items = ap (λ (w : Walk). w.items) (decoding-given settings.encoding (treatment settings.handler settings.encoding) true Unknown bytes place characters used inside some.0 is);
    }

-- an item that came
pub item_passed : (settings : PlainSettings) (bytes : List ℕ) (place used : ℕ) (before after : List ℕ) → place < len bytes → (1 ≤ used) × (used ≤ len (drop place bytes)) → Gives (first_at settings bytes place) before after (seen.Given used) → (characters : List ℕ) × (after ≡ before ++ characters) × StandsAt settings bytes place characters used
item_passed settings bytes place used before after inside some gives =
    let given = gives_given (first_at settings bytes place) used before after gives in
    (given.0, given.2, given_at settings bytes place used before after given.0 inside some given.1)

refused_here : (settings : PlainSettings) (bytes : List ℕ) (place size : ℕ) (before after : List ℕ) (item : FirstItem) → first_at settings bytes place ≡ item → place < len bytes → Gives item before after (seen.RefusedRange size) → items_from settings bytes place ≡ []
refused_here settings bytes place size before after (Given characters used) is inside gives = absurd (cc)
refused_here settings bytes place size before after (RefusedRange refused) is inside gives =
    let walked = onto_some settings.encoding (treatment settings.handler settings.encoding) Unknown place (drop place bytes) (omega (arith, inside, length-drop place bytes)) in
    ap (λ (w : Walk). w.items) (walked.1 ∙ ap (λ (f : FirstItem). onto_walk Unknown place f walked.0) is)
refused_here settings bytes place size before after Unfinished is inside gives = absurd (cc)

-- a refused range that came
range_passed : (settings : PlainSettings) (bytes : List ℕ) (place size : ℕ) (before after : List ℕ) → place < len bytes → Gives (first_at settings bytes place) before after (seen.RefusedRange size) → items_from settings bytes place ≡ []
range_passed settings bytes place size before after inside gives = refused_here settings bytes place size before after (first_at settings bytes place) refl inside gives

unfinished_here : (settings : PlainSettings) (bytes : List ℕ) (place : ℕ) (before after : List ℕ) (item : FirstItem) → first_at settings bytes place ≡ item → place < len bytes → Gives item before after seen.Unfinished → items_from settings bytes place ≡ []
unfinished_here settings bytes place before after (Given characters used) is inside gives = absurd (cc)
unfinished_here settings bytes place before after (RefusedRange refused) is inside gives = absurd (cc)
unfinished_here settings bytes place before after Unfinished is inside gives =
    let walked = onto_some settings.encoding (treatment settings.handler settings.encoding) Unknown place (drop place bytes) (omega (arith, inside, length-drop place bytes)) in
    ap (λ (w : Walk). w.items) (walked.1 ∙ ap (λ (f : FirstItem). onto_walk Unknown place f walked.0) is)

-- bytes that may still become a character
unfinished_passed : (settings : PlainSettings) (bytes : List ℕ) (place : ℕ) (before after : List ℕ) → place < len bytes → Gives (first_at settings bytes place) before after seen.Unfinished → items_from settings bytes place ≡ []
unfinished_passed settings bytes place before after inside gives = unfinished_here settings bytes place before after (first_at settings bytes place) refl inside gives

-- nothing that gives characters came
pub nothing_passed : (settings : PlainSettings) (bytes : List ℕ) (place : ℕ) (before after : List ℕ) (came : Seen) → place < len bytes → Gives (first_at settings bytes place) before after came → ((size : ℕ) × (came ≡ seen.RefusedRange size)) ⊎ (came ≡ seen.Unfinished) → items_from settings bytes place ≡ []
nothing_passed settings bytes place before after came inside gives (inl range) = range_passed settings bytes place range.0 before after inside (subst (Gives (first_at settings bytes place) before after) range.1 gives)
nothing_passed settings bytes place before after came inside gives (inr cut) = unfinished_passed settings bytes place before after inside (subst (Gives (first_at settings bytes place) before after) cut gives)

-- nothing stands past the end
pub none_past : (settings : PlainSettings) (bytes : List ℕ) (place : ℕ) → len bytes ≤ place → items_from settings bytes place ≡ []
none_past settings bytes place past = none_left settings.encoding (treatment settings.handler settings.encoding) Unknown place (drop place bytes) (omega (arith, past, length-drop place bytes))

-- a front of few bytes has few characters
pub front_few : (settings : PlainSettings) (bytes : List ℕ) (front : PlainFront) → front.length ≤ 4 → len (front_characters (settings_shown settings) Unknown bytes (Some (front_shown (record front { skipped = 0 })))) ≤ 1040
front_few settings bytes front short =
    let fed : List ℕ = take front.length (drop front.start bytes) in
    omega (arith, short, length-take front.length (drop front.start bytes), walk_few settings.handler settings.encoding Unknown front.start 0 fed)
