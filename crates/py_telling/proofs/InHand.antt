-- The bytes in hand tell where a text stands, whatever comes behind them.
use Rattle.std.proofs.Common.{◌≡◌, inl, inr, ℕ, ◌+◌, ◌-◌, ◌≤◌, Bool, true, false, ◌||◌, if◌then◌else◌, List, [], ◌∷◌, ◌++◌, length as len, drop, None, is_some, refl, sym, ap, subst, ◌∙◌, arith, append-nil, append_assoc}
use Rattle.std.proofs.lemmas.Bool.{cases_lt, true≢false, false≢true}
use Rattle.py_plain.specs.declared.encoding.Encoding.{Encoding}
use Rattle.py_plain.specs.declared.handler.Handler.{Handler}
use Rattle.py_plain.specs.declared.newlines.Newlines.{Newlines}
use Rattle.py_plain.specs.Units.{Order, Unknown}
use Rattle.py_plain.specs.Handlers.{Treatment, treatment, reads_texts}
use Rattle.py_plain.specs.Items.{Item, Walk, Ending, AtEnd, AtRange, AtCut, characters_of, refusal_of}
use Rattle.py_plain.specs.NewlineRule.{released, read_so_far, translated_to}
use Rattle.py_plain.specs.Pieces.{walk_at, place_behind, unused, unless_refused}
use Rattle.py_plain.proofs.Walks.{characters-append}
use Rattle.py_plain.proofs.Looking.{reading}
use Rattle.py_plain.proofs.Joining.{two}
use Rattle.py_plain_text.specs.TextFile.{TextFile}
use Rattle.py_plain_text.specs.Rest.{decoded}
use Rattle.py_plain_text.specs.Telling.{end_of_item, told}
use Rattle.py_plain_text.proofs.Translated.{none_read}
use Rattle.py_plain_text.proofs.Inside.{treat_of, read_of, Walks, Begins, begins}
use Rattle.py_telling.specs.Spots.{at_byte, spot_cookie, adds, lf_in, behind_lf, spot_behind, items_from}
use Rattle.py_telling.specs.InHand.{surely_read, surely_given, StandsBehind, LieIn}
use Rattle.py_telling.specs.declared.told.Told.{Told}
use Rattle.py_telling.specs.ToldView.{spot_shown, IsToldAmong}
use Rattle.py_telling.proofs.Walking.{nothing, spot_step, spot_inside, spot_reached}
use Rattle.py_telling.proofs.Counting.{none_held, holds_more, grows, so_far_within, so_far_long}
use Rattle.py_telling.proofs.Boundaries.{held_of, walks_next}
use Rattle.py_telling.proofs.Telling.{told_at_spot}
use Rattle.py_telling.proofs.Anywhere.{alike_anywhere}

-- Items of which more come.

-- an LF is found among the first that have a character
lf_front_in : (here : ℕ) (item : Item) (items behind : List Item) (cs : List ℕ) → (1 ≤ len (characters_of items) → behind_lf here (items ++ behind) ≡ behind_lf here items) → 1 ≤ len (cs ++ characters_of items) → lf_in here (end_of_item item) cs (behind_lf here (items ++ behind)) ≡ lf_in here (end_of_item item) cs (behind_lf here items)
lf_front_in here item items behind [] same some = same some
lf_front_in here item items behind (c ∷ cs) same some = refl

lf_front : (here : ℕ) (items behind : List Item) → 1 ≤ len (characters_of items) → behind_lf here (items ++ behind) ≡ behind_lf here items
lf_front here [] behind some = absurd (omega (arith, some))
lf_front here (item ∷ items) behind some = lf_front_in here item items behind item.characters (lf_front here items behind) some

not_held : (held : Bool) → len (released held) ≡ 0 → held ≡ false
not_held true none = absurd (omega (arith, none))
not_held false none = refl

-- what is surely given of some characters of a text
abbrev so_far : TextFile → List ℕ → ℕ
so_far file cs = len (read_so_far file.settings.newline false cs)

-- where no more are surely given than were, none is left and no CR is held
all_given : (file : TextFile) (before : List ℕ) (left : ℕ) → len (read_of file before) + left ≤ so_far file before → (left ≡ 0) × (held_of file before ≡ false)
all_given file before left sure = (
  omega (arith, sure, so_far_long file.settings.newline before),
  not_held (held_of file before) (omega (arith, sure, so_far_long file.settings.newline before)),
)

reached_front : (file : TextFile) (place : ℕ) (before : List ℕ) (items behind : List Item) (held : Bool) → held_of file before ≡ held → len (read_of file before) ≤ so_far file (before ++ characters_of items) → (if held then behind_lf place (items ++ behind) else place) ≡ (if held then behind_lf place items else place)
reached_front file place before items behind true is sure = elim (cases_lt 0 (len (characters_of items))) [
  | inl some ↦ lf_front place items behind (omega (arith, some))
  | inr none ↦ (
      let none_come : characters_of items ≡ [] = nothing (characters_of items) (omega (arith, none)) in
      let same : before ++ characters_of items ≡ before = ap (λ (t : List ℕ). before ++ t) none_come ∙ append-nil before in
      let unheld = (all_given file before 0 (omega (arith, sure, ap (so_far file) same))).1 in
      absurd (true≢false (sym is ∙ unheld))
      )
]
reached_front file place before items behind false is sure = refl

-- the spot is found among the items in hand
spot_front : (file : TextFile) → reads_texts file.settings.handler ≡ true → (ending : Ending) (place : ℕ) (before : List ℕ) (items behind : List Item) (left : ℕ) → Walks file place (items ++ behind) ending → len (read_of file before) + left ≤ so_far file (before ++ characters_of items) → spot_behind file.settings.newline left (held_of file before) place (items ++ behind) ≡ spot_behind file.settings.newline left (held_of file before) place items
spot_front file reads ending place before [] behind left walks sure =
    let given = all_given file before left (omega (arith, sure, ap (so_far file) (append-nil before))) in
    spot_reached file.settings.newline left (held_of file before) place behind given.0
    ∙ ap (λ (held : Bool). at_byte (if held then behind_lf place behind else place)) given.1
spot_front file reads ending place before (item ∷ items) behind left walks sure =
    let cs : List ℕ = item.characters in
    let held : Bool = held_of file before in
    let newline : Newlines = file.settings.newline in
    let begin : Begins file place item (items ++ behind) ending = begins file reads place item (items ++ behind) ending walks in
    let walks_behind : Walks file (end_of_item item) (items ++ behind) ending = walks_next file place item (items ++ behind) ending begin in
    elim (cases_lt 0 left) [
      | inl some ↦ elim (cases_lt left (adds held cs)) [
        | inl less ↦ spot_inside newline left held place item (items ++ behind) (omega (arith, some)) less ∙ sym (spot_inside newline left held place item items (omega (arith, some)) less)
        | inr within ↦ (
            let more : len (read_of file (before ++ cs)) + (left - adds held cs) ≤ so_far file ((before ++ cs) ++ characters_of items) =
            omega (arith, sure, within, grows newline before cs begin.is.kind, ap (so_far file) (append_assoc before cs (characters_of items))) in
            spot_step newline left held place item (items ++ behind) (omega (arith, some)) within
            ∙ (ap (λ (h : Bool). spot_behind newline (left - adds held cs) h (end_of_item item) (items ++ behind)) (sym (holds_more newline before cs))
            ∙ (spot_front file reads ending (end_of_item item) (before ++ cs) items behind (left - adds held cs) walks_behind more
            ∙ (ap (λ (h : Bool). spot_behind newline (left - adds held cs) h (end_of_item item) items) (holds_more newline before cs)
            ∙ sym (spot_step newline left held place item items (omega (arith, some)) within))))
            )
      ]
      | inr none ↦ spot_reached newline left held place (item ∷ (items ++ behind)) (omega (arith, none))
          ∙ (ap at_byte (reached_front file place before (item ∷ items) behind held refl (omega (arith, sure)))
          ∙ sym (spot_reached newline left held place (item ∷ items) (omega (arith, none))))
    ]

-- A text that the bytes in hand lie in.

-- the decoding of the bytes in hand
abbrev walk_in_hand : Encoding → Handler → (last : Bool) → (place : ℕ) → List ℕ → Walk
walk_in_hand encoding handler last place bytes = walk_at encoding (treatment handler encoding) last Unknown (place + 0) bytes

-- what is surely given is that of the items in hand
sure_is : (encoding : Encoding) (handler : Handler) (newline : Newlines) (last : Bool) (place : ℕ) (bytes : List ℕ) → surely_given encoding handler newline last bytes ≡ surely_read newline last (walk_in_hand encoding handler last place bytes)
sure_is encoding handler newline last place bytes =
    let same = alike_anywhere handler encoding last Unknown 0 (place + 0) bytes in
    let first : Walk = walk_at encoding (treatment handler encoding) last Unknown 0 bytes in
    ap (λ (refused : Bool). translated_to (last || refused) newline (characters_of first.items)) same.refused
    ∙ ap (translated_to (last || is_some (refusal_of (walk_in_hand encoding handler last place bytes).ending)) newline) same.characters

-- the items of a text from its byte on
items_are : (file : TextFile) (bytes more : List ℕ) → file.place.order ≡ Unknown → drop file.place.at file.bytes ≡ bytes ++ more → (decoded file).items ≡ (walk_at file.settings.encoding (treat_of file) true Unknown (file.place.at + 0) (bytes ++ more)).items
items_are file bytes more unknown is =
    let here : file.place.at ≡ file.place.at + 0 = omega arith in
    ap (λ (o : Order). (walk_at file.settings.encoding (treat_of file) true o file.place.at (drop file.place.at file.bytes)).items) unknown
    ∙ (ap (λ (bs : List ℕ). (walk_at file.settings.encoding (treat_of file) true Unknown file.place.at bs).items) is
    ∙ ap (λ (p : ℕ). (walk_at file.settings.encoding (treat_of file) true Unknown p (bytes ++ more)).items) here)

-- the items in hand come first, and where a range among them is refused, no others do
record ComesBehind (file : TextFile) (last : Bool) (bytes : List ℕ) : Type 0 where
  behind : List Item
  are : (decoded file).items ≡ items_from file.settings.encoding file.settings.handler last file.place.at 0 bytes ++ behind
  none : is_some (refusal_of (walk_in_hand file.settings.encoding file.settings.handler last file.place.at bytes).ending) ≡ true → behind ≡ []

refused_alone : (order : Order) (ending : Ending) (behind : Walk) → is_some (refusal_of ending) ≡ true → (unless_refused order ending behind).items ≡ []
refused_alone order AtEnd behind refused = absurd (false≢true refused)
refused_alone order (AtRange start end) behind refused = refl
refused_alone order (AtCut start) behind refused = absurd (false≢true refused)

comes_behind : (file : TextFile) → reads_texts file.settings.handler ≡ true → file.place.order ≡ Unknown → (bytes more : List ℕ) → drop file.place.at file.bytes ≡ bytes ++ more → ComesBehind file false bytes
comes_behind file reads unknown bytes more is =
    let enc : Encoding = file.settings.encoding in
    let treat : Treatment = treat_of file in
    let place : ℕ = file.place.at + 0 in
    let first : Walk = walk_at enc treat false Unknown place bytes in
    let next : Walk = walk_at enc treat true first.order (place_behind place bytes first.ending) (unused place bytes first.ending ++ more) in
    record {
      behind = (unless_refused first.order first.ending next).items;
      are = items_are file bytes more unknown is ∙ sym (ap (λ (w : Walk). w.items) (two enc treat (reading file.settings.handler enc reads) true Unknown place bytes more));
      none = refused_alone first.order first.ending next;
    }

-- what a text tells by its items
abbrev IsToldBy : TextFile → List Item → Type 0
IsToldBy file items = told file ≡ spot_cookie (spot_behind file.settings.newline file.place.taken false file.place.at items)

-- the items in hand are all
told_by_all : (file : TextFile) → reads_texts file.settings.handler ≡ true → file.place.order ≡ Unknown → file.place.front ≡ None → (items : List Item) → (decoded file).items ≡ items → file.place.taken ≤ len (read_of file (characters_of items)) → IsToldBy file items
told_by_all file reads unknown front items are within =
    told_at_spot file reads unknown front (subst (λ (is : List Item). file.place.taken ≤ len (read_of file (characters_of is))) (sym are) within)
    ∙ ap (λ (is : List Item). spot_cookie (spot_behind file.settings.newline file.place.taken false file.place.at is)) are

-- others come behind them
told_by_some : (file : TextFile) → reads_texts file.settings.handler ≡ true → file.place.order ≡ Unknown → file.place.front ≡ None → (items behind : List Item) → (decoded file).items ≡ items ++ behind → file.place.taken ≤ so_far file (characters_of items) → IsToldBy file items
told_by_some file reads unknown front items behind are sure =
    let newline : Newlines = file.settings.newline in
    let all : characters_of (decoded file).items ≡ characters_of items ++ characters_of behind = ap characters_of are ∙ characters-append items behind in
    let within : file.place.taken ≤ len (read_of file (characters_of (decoded file).items)) =
    omega (arith, sure, so_far_within newline (characters_of items) (characters_of behind), ap (λ (t : List ℕ). len (read_of file t)) all) in
    let found = spot_front file reads (decoded file).ending file.place.at [] items behind file.place.taken (record { items_are = are; ending_is = refl }) (omega (arith, sure, ap len (none_read newline))) in
    told_at_spot file reads unknown front within
    ∙ (ap (λ (is : List Item). spot_cookie (spot_behind newline file.place.taken false file.place.at is)) are
    ∙ (ap (λ (held : Bool). spot_cookie (spot_behind newline file.place.taken held file.place.at (items ++ behind))) (sym (none_held newline))
    ∙ (ap spot_cookie found
    ∙ ap (λ (held : Bool). spot_cookie (spot_behind newline file.place.taken held file.place.at items)) (none_held newline))))

-- more bytes may come: a range among those in hand is refused, or none is
told_by_front : (file : TextFile) → reads_texts file.settings.handler ≡ true → file.place.order ≡ Unknown → file.place.front ≡ None → (bytes : List ℕ) → ComesBehind file false bytes → (refused : Bool) → is_some (refusal_of (walk_in_hand file.settings.encoding file.settings.handler false file.place.at bytes).ending) ≡ refused → file.place.taken ≤ len (translated_to refused file.settings.newline (characters_of (items_from file.settings.encoding file.settings.handler false file.place.at 0 bytes))) → IsToldBy file (items_from file.settings.encoding file.settings.handler false file.place.at 0 bytes)
told_by_front file reads unknown front bytes parts true refused sure =
    let hand : List Item = items_from file.settings.encoding file.settings.handler false file.place.at 0 bytes in
    told_by_all file reads unknown front hand (parts.are ∙ (ap (λ (is : List Item). hand ++ is) (parts.none refused) ∙ append-nil hand)) sure
told_by_front file reads unknown front bytes parts false refused sure =
    let hand : List Item = items_from file.settings.encoding file.settings.handler false file.place.at 0 bytes in
    told_by_some file reads unknown front hand parts.behind parts.are (omega (arith, sure, ap len (append-nil (read_so_far file.settings.newline false (characters_of hand)))))

told_by : (file : TextFile) → reads_texts file.settings.handler ≡ true → file.place.order ≡ Unknown → file.place.front ≡ None → (last : Bool) (bytes more : List ℕ) → drop file.place.at file.bytes ≡ bytes ++ more → (last ≡ true → more ≡ []) → file.place.taken ≤ len (surely_given file.settings.encoding file.settings.handler file.settings.newline last bytes) → IsToldBy file (items_from file.settings.encoding file.settings.handler last file.place.at 0 bytes)
told_by file reads unknown front true bytes more is ended sure =
    let whole : (decoded file).items ≡ items_from file.settings.encoding file.settings.handler true file.place.at 0 bytes =
    items_are file bytes more unknown is
    ∙ ap (λ (bs : List ℕ). (walk_at file.settings.encoding (treat_of file) true Unknown (file.place.at + 0) bs).items) (ap (λ (t : List ℕ). bytes ++ t) (ended refl) ∙ append-nil bytes) in
    told_by_all file reads unknown front (items_from file.settings.encoding file.settings.handler true file.place.at 0 bytes) whole
    (subst (λ (t : List ℕ). file.place.taken ≤ len t) (sure_is file.settings.encoding file.settings.handler file.settings.newline true file.place.at bytes) sure)
told_by file reads unknown front false bytes more is ended sure =
    told_by_front file reads unknown front bytes (comes_behind file reads unknown bytes more is) (is_some (refusal_of (walk_in_hand file.settings.encoding file.settings.handler false file.place.at bytes).ending)) refl
    (subst (λ (t : List ℕ). file.place.taken ≤ len t) (sure_is file.settings.encoding file.settings.handler file.settings.newline false file.place.at bytes) sure)

-- the spot that is found among the bytes in hand is what the text tells
told_in_hand : (encoding : Encoding) (handler : Handler) (newline : Newlines) (last : Bool) (bytes : List ℕ) (place given : ℕ) → reads_texts handler ≡ true → given ≤ len (surely_given encoding handler newline last bytes) → (file : TextFile) → StandsBehind encoding handler newline place given file → LieIn last place bytes file → spot_cookie (spot_behind newline given false place (items_from encoding handler last place 0 bytes)) ≡ told file
told_in_hand encoding handler newline last bytes place given reads sure file stands lies =
    let reads_it : reads_texts file.settings.handler ≡ true = ap reads_texts stands.handler_is ∙ reads in
    let sure_it : file.place.taken ≤ len (surely_given file.settings.encoding file.settings.handler file.settings.newline last bytes) = rw (stands.encoding_is, stands.handler_is, stands.newline_is, stands.taken) sure in
    let same : spot_behind file.settings.newline file.place.taken false file.place.at (items_from file.settings.encoding file.settings.handler last file.place.at 0 bytes) ≡ spot_behind newline given false place (items_from encoding handler last place 0 bytes) = rw (stands.encoding_is, stands.handler_is, stands.newline_is, stands.taken, stands.at) refl in
    sym (told_by file reads_it stands.order stands.front last bytes lies.more (ap (λ (p : ℕ). drop p file.bytes) stands.at ∙ lies.bytes_are) lies.last_are sure_it ∙ ap spot_cookie same)

pub told_among_hand : (encoding : Encoding) (handler : Handler) (newline : Newlines) (last : Bool) (bytes : List ℕ) (place given : ℕ) (shown : Told) → reads_texts handler ≡ true → spot_shown shown ≡ spot_behind newline given false place (items_from encoding handler last place 0 bytes) → IsToldAmong encoding handler newline last place given bytes shown
told_among_hand encoding handler newline last bytes place given shown reads is = λ sure file stands lies.
    ap spot_cookie is ∙ told_in_hand encoding handler newline last bytes place given reads sure file stands lies
