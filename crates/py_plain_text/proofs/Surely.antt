-- What is surely left of a text, whatever bytes come behind its own.
use Rattle.std.proofs.Common.{◌≡◌, ℕ, zero, suc, ◌≤◌, Bool, true, false, ◌&&◌, List, [], ◌∷◌, ◌++◌, length as len, take, drop, Option, Some, None, refl, sym, ap, subst, ◌∙◌, arith, append_assoc, append-nil}
use Rattle.std.proofs.lemmas.List.{length-drop, take-append-le, drop-append-le}
use Rattle.py_flat.specs.BinaryStep.{IsFrontOf}
use Rattle.py_plain.specs.declared.newlines.Newlines.{Newlines}
use Rattle.py_plain.specs.declared.newlines.Newlines.TheVariants as rule
use Rattle.py_plain.specs.Units.{Order}
use Rattle.py_plain.specs.Handlers.{Treatment, treatment, reads_texts}
use Rattle.py_plain.specs.Items.{Item, Ending, AtEnd, AtRange, AtCut, Walk, walk_from, characters_of, refusal_of}
use Rattle.py_plain.specs.NewlineRule.{released, universal, ends_held, translated_to}
use Rattle.py_plain.specs.Pieces.{items_before, place_behind, unused, unless_refused, walk_at}
use Rattle.py_plain.proofs.Walks.{characters-append}
use Rattle.py_plain.proofs.Joining.{two}
use Rattle.py_plain.proofs.Looking.{reading}
use Rattle.py_plain_text.specs.TextFile.{Front, TextSettings, TextFile}
use Rattle.py_plain_text.specs.Rest.{front_characters, decoded_to, rest_to, FrontLiesWithin, LiesInBytes, with_more}
use Rattle.py_plain_text.proofs.Translated.{universal_both}

-- a front without its first characters is a front of the whole without them
drop_front : (n : ℕ) (xs more : List ℕ) → IsFrontOf (drop n xs) (drop n (xs ++ more))
drop_front zero xs more = (more, refl)
drop_front (suc n) [] more = (drop (suc n) more, refl)
drop_front (suc n) (x ∷ xs) more = drop_front n xs more

-- what isn't changed
same_front : (xs ys end : List ℕ) → IsFrontOf (xs ++ []) ((xs ++ ys) ++ end)
same_front xs ys end = (ys ++ end, ap (λ (t : List ℕ). t ++ (ys ++ end)) (append-nil xs) ∙ sym (append_assoc xs ys end))

-- what a rule gives while more may come is a front of what it gives of more
read_front : (newline : Newlines) (last : Bool) (xs ys : List ℕ) → IsFrontOf (translated_to false newline xs) (translated_to last newline (xs ++ ys))
read_front rule.Universal last xs ys =
    let known : List ℕ = universal false xs in
    let behind : List ℕ = universal (ends_held false xs) ys in
    let end : List ℕ = released (last && ends_held false (xs ++ ys)) in
    (behind ++ end, ap (λ (t : List ℕ). t ++ (behind ++ end)) (append-nil known) ∙ (sym (append_assoc known behind end) ∙ ap (λ (t : List ℕ). t ++ end) (sym (universal_both false xs ys))))
read_front rule.Passthrough last xs ys = same_front xs ys (released (last && false))
read_front rule.Lf last xs ys = same_front xs ys (released (last && false))
read_front rule.Cr last xs ys = same_front xs ys (released (last && false))
read_front rule.Crlf last xs ys = same_front xs ys (released (last && false))

-- the decoding of a text with more bytes behind: first that of its own, then what comes behind
abbrev behind_own : Bool → TextFile → List ℕ → Walk
behind_own last file more =
    let walk = decoded_to false file in
    let own = drop file.place.at file.bytes in
    unless_refused walk.order walk.ending (walk_at file.settings.encoding (treatment file.settings.handler file.settings.encoding) last walk.order (place_behind file.place.at own walk.ending) (unused file.place.at own walk.ending ++ more))

decoded_more : (last : Bool) (file : TextFile) (more : List ℕ) → reads_texts file.settings.handler ≡ true → file.place.at ≤ len file.bytes → decoded_to last (with_more file more) ≡ items_before (decoded_to false file).items (behind_own last file more)
decoded_more last file more reads within =
    let treat : Treatment = treatment file.settings.handler file.settings.encoding in
    ap (λ (bs : List ℕ). walk_from file.settings.encoding treat last file.place.order file.place.at 0 bs) (drop-append-le file.place.at file.bytes more within)
    ∙ sym (two file.settings.encoding treat (reading file.settings.handler file.settings.encoding reads) last file.place.order file.place.at (drop file.place.at file.bytes) more)

-- the front of a text has the same characters whatever comes behind
front_same : (settings : TextSettings) (order : Order) (bytes more : List ℕ) (front : Option Front) → FrontLiesWithin (len bytes) front → front_characters settings order (bytes ++ more) front ≡ front_characters settings order bytes front
front_same settings order bytes more None within = refl
front_same settings order bytes more (Some front) within =
    let past : front.length ≤ len (drop front.start bytes) = omega (arith, within, length-drop front.start bytes) in
    ap (λ (bs : List ℕ). drop front.skipped (characters_of (walk_from settings.encoding (treatment settings.handler settings.encoding) true order front.start 0 bs).items))
    (ap (λ (bs : List ℕ). take front.length bs) (drop-append-le front.start bytes more (omega (arith, within))) ∙ take-append-le front.length (drop front.start bytes) more past)

-- what is surely left is a front of what is left with more bytes behind
pub surely_characters : (file : TextFile) (more : List ℕ) (last : Bool) → reads_texts file.settings.handler ≡ true → LiesInBytes file → IsFrontOf (rest_to false file).characters (rest_to last (with_more file more)).characters
surely_characters file more last reads lies =
    let newline : Newlines = file.settings.newline in
    let own : List ℕ = characters_of (decoded_to false file).items in
    let later : List ℕ = characters_of (behind_own last file more).items in
    let first : List ℕ = front_characters file.settings file.place.order file.bytes file.place.front in
    let read = read_front newline last own later in
    let all : List ℕ = front_characters file.settings file.place.order (file.bytes ++ more) file.place.front ++ translated_to last newline (characters_of (decoded_to last (with_more file more)).items) in
    let is : (first ++ translated_to false newline own) ++ read.0 ≡ all =
    append_assoc first (translated_to false newline own) read.0
    ∙ (ap (λ (t : List ℕ). first ++ t) (read.1
    ∙ ap (λ (cs : List ℕ). translated_to last newline cs) (sym (ap (λ (w : Walk). characters_of w.items) (decoded_more last file more reads lies.at) ∙ characters-append (decoded_to false file).items (behind_own last file more).items)))
    ∙ ap (λ (f : List ℕ). f ++ translated_to last newline (characters_of (decoded_to last (with_more file more)).items)) (sym (front_same file.settings file.place.order file.bytes more file.place.front lies.front))) in
    subst (λ (cs : List ℕ). IsFrontOf (drop file.place.taken (first ++ translated_to false newline own)) (drop file.place.taken cs)) is (drop_front file.place.taken (first ++ translated_to false newline own) read.0)

refused_first : (items : List Item) (order : Order) (ending : Ending) (behind : Walk) (range : ℕ × ℕ) → refusal_of ending ≡ Some range → refusal_of (items_before items (unless_refused order ending behind)).ending ≡ Some range
refused_first items order AtEnd behind range is = absurd (cc)
refused_first items order (AtRange start end) behind range is = is
refused_first items order (AtCut start) behind range is = absurd (cc)

-- a range that is surely refused is refused with more bytes behind
pub surely_refused : (file : TextFile) (more : List ℕ) (last : Bool) → reads_texts file.settings.handler ≡ true → LiesInBytes file → (range : ℕ × ℕ) → (rest_to false file).refusal ≡ Some range → (rest_to last (with_more file more)).refusal ≡ Some range
surely_refused file more last reads lies range is =
    let walk : Walk = decoded_to false file in
    let own : List ℕ = drop file.place.at file.bytes in
    let behind : Walk = walk_at file.settings.encoding (treatment file.settings.handler file.settings.encoding) last walk.order (place_behind file.place.at own walk.ending) (unused file.place.at own walk.ending ++ more) in
    ap (λ (w : Walk). refusal_of w.ending) (decoded_more last file more reads lies.at)
    ∙ refused_first walk.items walk.order walk.ending behind range is
