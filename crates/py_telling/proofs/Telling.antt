-- The cookie that tells the place of a text is that of the spot which one walk over its items finds.
use Rattle.std.proofs.Common.{◌≡◌, inl, inr, ℕ, ◌+◌, ◌-◌, ◌<◌, ◌≤◌, pos, Bool, true, false, ◌&&◌, nat_eq, nat_lt, if◌then◌else◌, List, [], ◌∷◌, ◌++◌, length as len, map, find, take, drop, Option, Some, None, encode_utf8_all, refl, sym, ap, ◌∙◌, arith, append-nil}
use Rattle.std.proofs.lemmas.Bool.{and_parts, cases_lt, false≢true, false_from_ne_true, lt-ltb, le-ltb, eqb-true, cond-true, cond-false}
use Rattle.std.proofs.lemmas.Bool.Decides.{nat_tests}
use Rattle.std.proofs.lemmas.List.{length-take-le}
use Rattle.py_flat.specs.Lines.{lf, cr, begins_with_lf}
use Rattle.py_plain.specs.declared.newlines.Newlines.{Newlines}
use Rattle.py_plain.specs.Units.{Order, Unknown}
use Rattle.py_plain.specs.Handlers.{reads_texts}
use Rattle.py_plain.specs.Items.{Item, Ending, characters_of}
use Rattle.py_plain.specs.NewlineRule.{ends_held}
use Rattle.py_plain_text.specs.TextFile.{Front, TextFile}
use Rattle.py_plain_text.specs.Rest.{front_characters, decoded}
use Rattle.py_plain_text.specs.Cookie.{Cookie, boundary_cookie, flags_of}
use Rattle.py_plain_text.specs.Telling.{Inside, gives_rest, end_of_item, boundaries, inside_items, inside_of, inside_cookie, told_inside, told_at, told}
use Rattle.py_plain_text.proofs.Translated.{none_read}
use Rattle.py_plain_text.proofs.Inside.{read_of, Begins, begins, same_way}
use Rattle.py_telling.specs.Spots.{at_byte, spot_cookie, is_universal, holds, adds, lf_in, behind_lf, spot_behind}
use Rattle.py_telling.proofs.Ranges.{Signs, item_signs, signs_encoded}
use Rattle.py_telling.proofs.Walking.{spot_step, spot_inside, spot_reached}
use Rattle.py_telling.proofs.Counting.{none_and, Kind, none_held, holds_more, grows, many_unheld, adds_within, joint}
use Rattle.py_telling.proofs.Boundaries.{either, held_of, StandsAmong, gives_count, gives_here, stands_next, IsPast, find_next, none_gives}

-- What is told.

-- the cookie of a boundary that was found, else of an item
abbrev told_from : TextFile → Option ℕ → Option Inside → Cookie
told_from file (Some boundary) inside = boundary_cookie boundary (flags_of file.place.order)
told_from file None inside = told_inside file inside

told_is : (file : TextFile) (found : Option ℕ) → told_at file found ≡ told_from file found (inside_of file file.place.front)
told_is file (Some boundary) = ap (λ (o : Order). boundary_cookie boundary (flags_of o)) (same_way (nat_eq boundary file.place.at) file.place.order)
told_is file None = refl

-- what is told from a boundary on, behind some characters
abbrev told_behind : TextFile → (place : ℕ) → (before : List ℕ) → List Item → Cookie
told_behind file place before items = told_from file (find (gives_rest file) (place ∷ map end_of_item items)) (inside_items file.settings.newline file.place.taken before items)

-- it is the spot behind so many characters more
abbrev IsSpot : TextFile → (place : ℕ) → (before : List ℕ) → List Item → (left : ℕ) → Type 0
IsSpot file place before items left = told_behind file place before items ≡ spot_cookie (spot_behind file.settings.newline left (held_of file before) place items)

-- A boundary.

told_here : (file : TextFile) → file.place.order ≡ Unknown → (place : ℕ) (before : List ℕ) (items : List Item) → gives_rest file place ≡ true → told_behind file place before items ≡ spot_cookie (at_byte place)
told_here file unknown place before items gives =
    ap (λ (found : Option ℕ). told_from file found (inside_items file.settings.newline file.place.taken before items)) (cond-true (gives_rest file place) (Some place) (find (gives_rest file) (map end_of_item items)) gives)
    ∙ ap (λ (o : Order). boundary_cookie place (flags_of o)) unknown

-- no LF comes
no_lf_in : (here : ℕ) (item : Item) (items : List Item) (cs : List ℕ) → (begins_with_lf (characters_of items) ≡ false → behind_lf here items ≡ here) → begins_with_lf (cs ++ characters_of items) ≡ false → lf_in here (end_of_item item) cs (behind_lf here items) ≡ here
no_lf_in here item items [] behind none = behind none
no_lf_in here item items (c ∷ cs) behind none = cond-false (nat_eq c lf) (end_of_item item) here none

no_lf : (here : ℕ) (items : List Item) → begins_with_lf (characters_of items) ≡ false → behind_lf here items ≡ here
no_lf here [] none = refl
no_lf here (item ∷ items) none = no_lf_in here item items item.characters (no_lf here items) none

-- an LF comes, wherever the text stands before it
lf_comes_in : (here there : ℕ) (item : Item) (items : List Item) (cs : List ℕ) → (begins_with_lf (characters_of items) ≡ true → behind_lf here items ≡ behind_lf there items) → begins_with_lf (cs ++ characters_of items) ≡ true → lf_in here (end_of_item item) cs (behind_lf here items) ≡ lf_in there (end_of_item item) cs (behind_lf there items)
lf_comes_in here there item items [] behind is = behind is
lf_comes_in here there item items (c ∷ cs) behind is = cond-true (nat_eq c lf) (end_of_item item) here is ∙ sym (cond-true (nat_eq c lf) (end_of_item item) there is)

pub lf_comes : (here there : ℕ) (items : List Item) → begins_with_lf (characters_of items) ≡ true → behind_lf here items ≡ behind_lf there items
lf_comes here there [] is = absurd (false≢true is)
lf_comes here there (item ∷ items) is = lf_comes_in here there item items item.characters (lf_comes here there items) is

-- where all were given and no LF is to be passed
settled : (held : Bool) (here : ℕ) (items : List Item) → (held && begins_with_lf (characters_of items)) ≡ false → (if held then behind_lf here items else here) ≡ here
settled true here items alone = no_lf here items alone
settled false here items alone = refl

told_settled : (file : TextFile) → file.place.order ≡ Unknown → (ending : Ending) (place : ℕ) (before : List ℕ) (items : List Item) (left : ℕ) → StandsAmong file ending place before items → file.place.taken ≡ len (read_of file before) + left → left ≡ 0 → joint file.settings.newline before (characters_of items) ≡ false → IsSpot file place before items left
told_settled file unknown ending place before items left stands counted none alone =
    told_here file unknown place before items (gives_here file ending place before items stands alone (omega (arith, counted, none)))
    ∙ ap spot_cookie (ap at_byte (sym (settled (held_of file before) place items alone)) ∙ sym (spot_reached file.settings.newline left (held_of file before) place items none))

-- The next boundary.

told_next : (file : TextFile) (place : ℕ) (before : List ℕ) (item : Item) (items : List Item) (left : ℕ) → Kind item.characters → gives_rest file place ≡ false → file.place.taken ≡ len (read_of file before) + left → adds (held_of file before) item.characters ≤ left → IsSpot file (end_of_item item) (before ++ item.characters) items (left - adds (held_of file before) item.characters) → told_behind file place before (item ∷ items) ≡ spot_cookie (spot_behind file.settings.newline (left - adds (held_of file before) item.characters) (holds file.settings.newline (held_of file before) item.characters) (end_of_item item) items)
told_next file place before item items left kind fails counted within behind =
    let all : ℕ = len (read_of file (before ++ item.characters)) in
    let here : Option Inside = Some (record { start = item.start; length = item.length; taken = take (file.place.taken - len (read_of file before)) item.characters }) in
    let next : Option Inside = inside_items file.settings.newline file.place.taken (before ++ item.characters) items in
    let past : all ≤ file.place.taken = omega (arith, grows file.settings.newline before item.characters kind, counted, within) in
    ap (λ (found : Option ℕ). told_from file found (inside_items file.settings.newline file.place.taken before (item ∷ items))) (find_next (gives_rest file) place (map end_of_item (item ∷ items)) fails)
    ∙ (ap (told_from file (find (gives_rest file) (map end_of_item (item ∷ items)))) (cond-false (nat_lt file.place.taken all) here next (le-ltb file.place.taken all past))
    ∙ (behind
    ∙ ap (λ (held : Bool). spot_cookie (spot_behind file.settings.newline (left - adds (held_of file before) item.characters) held (end_of_item item) items)) (holds_more file.settings.newline before item.characters)))

-- Inside an item.

pub inside_is : (order : Order) (start size left : ℕ) (taken : List ℕ) → order ≡ Unknown → 1 ≤ left → len taken ≡ left → len (encode_utf8_all taken) ≡ left → inside_cookie order (record { start = start; length = size; taken = taken }) ≡ spot_cookie (record { start = start; length = size; skipped = left })
inside_is order start size left taken unknown some long bytes =
    let isnt : nat_eq left 0 ≡ false = grind (arith, nat_tests) in
    let inside : Cookie = record { start_pos = pos start; dec_flags = pos 0; bytes_to_feed = pos size; chars_to_skip = pos left; need_eof = true; bytes_to_skip = pos left } in
    let same : inside_cookie order (record { start = start; length = size; taken = taken }) ≡ inside = rw (unknown, long, bytes) refl in
    same ∙ sym (cond-false (nat_eq left 0) (boundary_cookie start 0) inside isnt)

told_within : (file : TextFile) → reads_texts file.settings.handler ≡ true → file.place.order ≡ Unknown → (ending : Ending) (place : ℕ) (before : List ℕ) (item : Item) (items : List Item) (left : ℕ) → StandsAmong file ending place before (item ∷ items) → Begins file place item items ending → gives_rest file place ≡ false → file.place.taken ≡ len (read_of file before) + left → 1 ≤ left → left < adds (held_of file before) item.characters → IsSpot file place before (item ∷ items) left
told_within file reads unknown ending place before item items left stands begin fails counted some less =
    let cs : List ℕ = item.characters in
    let held : Bool = held_of file before in
    let all : ℕ = len (read_of file (before ++ cs)) in
    let taken : List ℕ = take (file.place.taken - len (read_of file before)) cs in
    let here : Inside = record { start = item.start; length = item.length; taken = taken } in
    let next : Option Inside = inside_items file.settings.newline file.place.taken (before ++ cs) items in
    let grown : all ≡ len (read_of file before) + adds held cs = grows file.settings.newline before cs begin.is.kind in
    let short : left < len cs = omega (arith, less, adds_within held cs) in
    let many : 2 ≤ len cs = omega (arith, short, some) in
    let fits : file.place.taken < all = omega (arith, counted, grown, less) in
    let past : IsPast file (before ++ cs) = record {
      past = omega (arith, fits);
      held = λ still. absurd (many_unheld file.settings.newline held cs begin.is.kind many (sym (holds_more file.settings.newline before cs) ∙ still));
    } in
    let none : find (gives_rest file) (place ∷ map end_of_item (item ∷ items)) ≡ None =
    find_next (gives_rest file) place (map end_of_item (item ∷ items)) fails
    ∙ none_gives file reads ending (end_of_item item) (before ++ cs) items (stands_next file ending place before item items stands begin) past in
    let long : len taken ≡ left = length-take-le (file.place.taken - len (read_of file before)) cs (omega (arith, counted, short)) ∙ omega (arith, counted) in
    let signs : Signs cs = item_signs file.settings.handler file.settings.encoding reads file.place.order place (drop place file.bytes) cs item.length many begin.first in
    let bytes : len (encode_utf8_all taken) ≡ left = signs_encoded (file.place.taken - len (read_of file before)) cs signs ∙ long in
    ap (λ (found : Option ℕ). told_from file found (inside_items file.settings.newline file.place.taken before (item ∷ items))) none
    ∙ (ap (told_inside file) (cond-true (nat_lt file.place.taken all) (Some here) next (lt-ltb file.place.taken all fits))
    ∙ (inside_is file.place.order item.start item.length left taken unknown some long bytes
    ∙ ap spot_cookie (sym (spot_inside file.settings.newline left held place item items some less))))

-- All items.

-- an item with an LF that is one with a CR adds nothing, and the spot is behind it
joint_adds : (held : Bool) (cs more : List ℕ) → Kind cs → (held && begins_with_lf (cs ++ more)) ≡ true → adds held cs ≡ 0
joint_adds held [] more kind is = omega arith
joint_adds held (c ∷ cs) more (inl single) is =
    ap (λ (b : Bool). len (c ∷ cs) - (if b then 1 else 0)) is ∙ omega (arith, ap len single.1)
joint_adds held (c ∷ cs) more (inr unbroken) is = absurd (omega (arith, unbroken.0, eqb-true c lf (and_parts held (nat_eq c lf) is).1))

joint_in : (newline : Newlines) (left : ℕ) (here : ℕ) (item : Item) (items : List Item) (cs : List ℕ) → Kind cs → left ≡ 0 → begins_with_lf (cs ++ characters_of items) ≡ true → at_byte (lf_in here (end_of_item item) cs (behind_lf here items)) ≡ spot_behind newline (left - adds true cs) (holds newline true cs) (end_of_item item) items
joint_in newline left here item items [] kind none is =
    ap at_byte (lf_comes here (end_of_item item) items is)
    ∙ sym (spot_reached newline (left - adds true []) true (end_of_item item) items (omega (arith, none)))
joint_in newline left here item items (c ∷ cs) (inl single) none is =
    let alone : cs ≡ [] = cc (single.1) in
    let other : nat_eq c cr ≡ false = grind (arith, nat_tests) in
    let unheld : holds newline true (c ∷ cs) ≡ false =
    ap (λ (t : List ℕ). is_universal newline && ends_held (nat_eq c cr) t) alone
    ∙ none_and (is_universal newline) (nat_eq c cr) other in
    ap at_byte (cond-true (nat_eq c lf) (end_of_item item) here is)
    ∙ (sym (spot_reached newline (left - adds true (c ∷ cs)) false (end_of_item item) items (omega (arith, none)))
    ∙ ap (λ (held : Bool). spot_behind newline (left - adds true (c ∷ cs)) held (end_of_item item) items) (sym unheld))
joint_in newline left here item items (c ∷ cs) (inr unbroken) none is = absurd (omega (arith, unbroken.0, eqb-true c lf is))

pub joint_spot : (newline : Newlines) (left : ℕ) (held : Bool) (here : ℕ) (item : Item) (items : List Item) → Kind item.characters → left ≡ 0 → (held && begins_with_lf (item.characters ++ characters_of items)) ≡ true → spot_behind newline left held here (item ∷ items) ≡ spot_behind newline (left - adds held item.characters) (holds newline held item.characters) (end_of_item item) items
joint_spot newline left true here item items kind none is = spot_reached newline left true here (item ∷ items) none ∙ joint_in newline left here item items item.characters kind none is
joint_spot newline left false here item items kind none is = absurd (false≢true is)

-- a boundary before the spot doesn't give what is left
not_yet : (file : TextFile) (ending : Ending) (place : ℕ) (before : List ℕ) (items : List Item) (left : ℕ) → StandsAmong file ending place before items → file.place.taken ≡ len (read_of file before) + left → 1 ≤ left → (joins : Bool) → joint file.settings.newline before (characters_of items) ≡ joins → gives_rest file place ≡ true → ⊥
not_yet file ending place before items left stands counted some true is gives = omega (arith, counted, some, gives_count file ending place before items stands gives true is)
not_yet file ending place before items left stands counted some false is gives = omega (arith, counted, some, gives_count file ending place before items stands gives false is)

not_inside : (file : TextFile) (ending : Ending) (place : ℕ) (before : List ℕ) (items : List Item) (left : ℕ) → StandsAmong file ending place before items → file.place.taken ≡ len (read_of file before) + left → joint file.settings.newline before (characters_of items) ≡ true → gives_rest file place ≡ true → ⊥
not_inside file ending place before items left stands counted is gives = omega (arith, counted, gives_count file ending place before items stands gives true is)

-- what is left to be given behind an item
less_left : (file : TextFile) (before cs : List ℕ) (left : ℕ) → Kind cs → file.place.taken ≡ len (read_of file before) + left → adds (held_of file before) cs ≤ left → file.place.taken ≡ len (read_of file (before ++ cs)) + (left - adds (held_of file before) cs)
less_left file before cs left kind counted within = omega (arith, counted, within, grows file.settings.newline before cs kind)

told_spot : (file : TextFile) → reads_texts file.settings.handler ≡ true → file.place.order ≡ Unknown → (ending : Ending) (place : ℕ) (before : List ℕ) (items : List Item) (left : ℕ) → StandsAmong file ending place before items → file.place.taken ≡ len (read_of file before) + left → IsSpot file place before items left
told_spot file reads unknown ending place before [] left stands counted =
    let none : left ≡ 0 = omega (arith, counted, stands.within, ap (λ (t : List ℕ). len (read_of file t)) (append-nil before)) in
    told_settled file unknown ending place before [] left stands counted none (none_and (held_of file before) false refl)
told_spot file reads unknown ending place before (item ∷ items) left stands counted =
    let cs : List ℕ = item.characters in
    let held : Bool = held_of file before in
    let begin : Begins file place item items ending = begins file reads place item items ending stands.walks in
    let stands_behind : StandsAmong file ending (end_of_item item) (before ++ cs) items = stands_next file ending place before item items stands begin in
    elim (cases_lt 0 left) [
      | inl some ↦ (
          let fails : gives_rest file place ≡ false = false_from_ne_true (gives_rest file place) (not_yet file ending place before (item ∷ items) left stands counted (omega (arith, some)) (joint file.settings.newline before (characters_of (item ∷ items))) refl) in
          elim (cases_lt left (adds held cs)) [
            | inl less ↦ told_within file reads unknown ending place before item items left stands begin fails counted (omega (arith, some)) less
            | inr within ↦ told_next file place before item items left begin.is.kind fails counted within
                (told_spot file reads unknown ending (end_of_item item) (before ++ cs) items (left - adds held cs) stands_behind (less_left file before cs left begin.is.kind counted within))
                ∙ ap spot_cookie (sym (spot_step file.settings.newline left held place item items (omega (arith, some)) within))
          ]
          )
      | inr past ↦ elim (either (joint file.settings.newline before (characters_of (item ∷ items)))) [
        | inl is ↦ (
            let fails : gives_rest file place ≡ false = false_from_ne_true (gives_rest file place) (not_inside file ending place before (item ∷ items) left stands counted is) in
            let within : adds held cs ≤ left = omega (arith, joint_adds held cs (characters_of items) begin.is.kind is) in
            told_next file place before item items left begin.is.kind fails counted within
            (told_spot file reads unknown ending (end_of_item item) (before ++ cs) items (left - adds held cs) stands_behind (less_left file before cs left begin.is.kind counted within))
            ∙ ap spot_cookie (sym (joint_spot file.settings.newline left held place item items begin.is.kind (omega (arith, past)) is))
            )
        | inr alone ↦ told_settled file unknown ending place before (item ∷ items) left stands counted (omega (arith, past)) alone
      ]
    ]

-- what is left of a text behind a front, or none
abbrev pub left_behind : TextFile → Option Front → List ℕ
left_behind file front = drop file.place.taken (front_characters file.settings file.place.order file.bytes front ++ read_of file (characters_of (decoded file).items))

-- the cookie of a text of which so many characters were given since a byte
pub told_at_spot : (file : TextFile) → reads_texts file.settings.handler ≡ true → file.place.order ≡ Unknown → file.place.front ≡ None → file.place.taken ≤ len (read_of file (characters_of (decoded file).items)) → told file ≡ spot_cookie (spot_behind file.settings.newline file.place.taken false file.place.at (decoded file).items)
told_at_spot file reads unknown front within =
    let items : List Item = (decoded file).items in
    let stands : StandsAmong file (decoded file).ending file.place.at [] items = record {
      walks = record { items_are = refl; ending_is = refl };
      characters = ap (left_behind file) front;
      refusal = refl;
      within = within;
    } in
    told_is file (find (gives_rest file) (boundaries file))
    ∙ (ap (λ (f : Option Front). told_from file (find (gives_rest file) (boundaries file)) (inside_of file f)) front
    ∙ (told_spot file reads unknown (decoded file).ending file.place.at [] items file.place.taken stands (omega (arith, ap len (none_read file.settings.newline)))
    ∙ ap (λ (held : Bool). spot_cookie (spot_behind file.settings.newline file.place.taken held file.place.at items)) (none_held file.settings.newline)))
