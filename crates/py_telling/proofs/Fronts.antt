-- What is told of a text that was put inside an item.
use Rattle.std.proofs.Common.{◌≡◌, ℕ, ◌+◌, ◌-◌, ◌<◌, ◌≤◌, Bool, true, false, nat_lt, List, [], ◌∷◌, ◌++◌, length as len, map, find, take, drop, Option, Some, None, encode_utf8_all, refl, sym, ap, ◌∙◌, arith, append-nil}
use Rattle.std.proofs.lemmas.Bool.{and_parts, false_from_ne_true, lt-ltb, le-ltb, cond-true, cond-false}
use Rattle.std.proofs.lemmas.List.{length-append, length-drop, length-take-le, drop-take}
use Rattle.std.proofs.Math.Seq.{drop-append-add}
use Rattle.py_plain.specs.declared.newlines.Newlines.{Newlines}
use Rattle.py_plain.specs.Units.{Unknown}
use Rattle.py_plain.specs.Handlers.{reads_texts}
use Rattle.py_plain.specs.Items.{Item, Ending, AtEnd, walk_from, characters_of, refusal_of}
use Rattle.py_plain.specs.NewlineRule.{released, translated}
use Rattle.py_plain_text.specs.TextFile.{Front, TextFile, clean_at}
use Rattle.py_plain_text.specs.Rest.{Rest, decoded, text_rest}
use Rattle.py_plain_text.specs.Cookie.{Cookie, boundary_cookie, flags_of}
use Rattle.py_plain_text.specs.CookieLaws.{IsFront}
use Rattle.py_plain_text.specs.Telling.{Inside, order_at, effective_order, placed, same_rest, gives_rest, end_of_item, boundaries, front_left, inside_front, inside_decoded, inside_of, inside_cookie, told_inside, told_at, told}
use Rattle.py_plain_text.proofs.Inside.{treat_of, read_of, Walks, Begins, begins}
use Rattle.py_telling.specs.Spots.{spot_cookie}
use Rattle.py_telling.specs.Bases.{behind_front, front_spot}
use Rattle.py_telling.proofs.Ranges.{Signs, item_signs, signs_encoded}
use Rattle.py_telling.proofs.Counting.{held_behind_all, joint, parted, joined, so_far_long}
use Rattle.py_telling.proofs.Boundaries.{gives_is, walks_next, find_next}
use Rattle.py_telling.proofs.Telling.{inside_is, left_behind}

-- What is told by what is left, and by the item in which the text stands.

abbrev told_found : TextFile → Option ℕ → Option Inside → Cookie
told_found file (Some boundary) inside = boundary_cookie boundary (flags_of (order_at file boundary))
told_found file None inside = told_inside file inside

found_is : (file : TextFile) (found : Option ℕ) → told_at file found ≡ told_found file found (inside_of file file.place.front)
found_is file (Some boundary) = refl
found_is file None = refl

-- the first boundary that gives a rest
abbrev first_with : TextFile → Rest → Option ℕ
first_with file rest = find (λ boundary. same_rest (text_rest (placed file (clean_at boundary (order_at file boundary)))) rest) (boundaries file)

abbrev told_by : TextFile → Rest → Option Inside → Cookie
told_by file rest inside = told_found file (first_with file rest) inside

told_is : (file : TextFile) (front : Option Front) → file.place.front ≡ front → told file ≡ told_by file (text_rest file) (inside_of file front)
told_is file front is = found_is file (first_with file (text_rest file)) ∙ ap (λ (f : Option Front). told_by file (text_rest file) (inside_of file f)) is

-- All of the front was taken.

-- the place, said without the front, tells by the same definitions
without_front : (file : TextFile) (front : Front) (found : Option ℕ) (inside : Option Inside) → told_found file found inside ≡ told_found (placed file (behind_front file front)) found inside
without_front file front (Some boundary) inside = refl
without_front file front None (Some inside) = refl
without_front file front None None = refl

pub told_past_front : (file : TextFile) (front : Front) → file.place.front ≡ Some front → len (front_left file front) ≤ file.place.taken → told file ≡ told (placed file (behind_front file front))
told_past_front file front is past =
    let taken : ℕ = file.place.taken in
    let left : List ℕ = front_left file front in
    let other : TextFile = placed file (behind_front file front) in
    let more : List ℕ = read_of file (characters_of (decoded file).items) in
    let counted : taken ≡ len left + (taken - len left) = omega (arith, past) in
    let characters : (text_rest file).characters ≡ (text_rest other).characters =
    ap (left_behind file) is
    ∙ (ap (λ (n : ℕ). drop n (left ++ more)) counted
    ∙ drop-append-add left more (taken - len left)) in
    let rest : text_rest file ≡ text_rest other = ap (λ (cs : List ℕ). record { characters = cs; refusal = refusal_of (decoded file).ending }) characters in
    let here : Option Inside = Some (inside_front file front) in
    let behind : Option Inside = inside_decoded file (taken - len left) in
    told_is file (Some front) is
    ∙ (ap (told_by file (text_rest file)) (cond-false (nat_lt taken (len left)) here behind (le-ltb taken (len left) past))
    ∙ (ap (λ (r : Rest). told_by file r behind) rest
    ∙ (without_front file front (first_with file (text_rest other)) behind
    ∙ sym (told_is other None refl))))

-- Not all of it was taken.

-- a CR that is held is given at the end
held_given : (newline : Newlines) (xs : List ℕ) (held : Bool) → held_behind_all newline xs ≡ held → held ≡ true → 1 ≤ len (translated newline xs)
held_given newline xs held is holds_it = omega (arith, so_far_long newline xs, ap (λ (h : Bool). len (released h)) (is ∙ holds_it))

-- no more are given of the characters behind others than of all
behind_fewer : (newline : Newlines) (xs ys : List ℕ) (joins : Bool) → joint newline xs ys ≡ joins → len (translated newline ys) ≤ len (translated newline (xs ++ ys))
behind_fewer newline xs ys true is = omega (arith, joined newline xs ys is, held_given newline xs (held_behind_all newline xs) refl (and_parts _ _ is).0)
behind_fewer newline xs ys false is = omega (arith, ap len (parted newline xs ys is), length-append (translated newline xs) (translated newline ys))

-- no boundary gives more than comes from it on
none_long : (file : TextFile) → reads_texts file.settings.handler ≡ true → (ending : Ending) (place : ℕ) (items : List Item) → Walks file place items ending → len (read_of file (characters_of items)) < len (text_rest file).characters → find (gives_rest file) (place ∷ map end_of_item items) ≡ None
none_long file reads ending place [] walks less =
    find_next (gives_rest file) place [] (false_from_ne_true (gives_rest file place) (λ gives. omega (arith, less, ap len (gives_is file ending place [] walks gives))))
none_long file reads ending place (item ∷ items) walks less =
    let begin : Begins file place item items ending = begins file reads place item items ending walks in
    let cs : List ℕ = item.characters in
    let fewer : len (read_of file (characters_of items)) ≤ len (read_of file (cs ++ characters_of items)) = behind_fewer file.settings.newline cs (characters_of items) (joint file.settings.newline cs (characters_of items)) refl in
    find_next (gives_rest file) place (map end_of_item (item ∷ items)) (false_from_ne_true (gives_rest file place) (λ gives. omega (arith, less, ap len (gives_is file ending place (item ∷ items) walks gives))))
    ∙ none_long file reads ending (end_of_item item) items (walks_next file place item items ending begin) (omega (arith, less, fewer))

pub none_in_front : (file : TextFile) (front : Front) → reads_texts file.settings.handler ≡ true → file.place.front ≡ Some front → file.place.taken < len (front_left file front) → find (gives_rest file) (boundaries file) ≡ None
none_in_front file front reads is less =
    let taken : ℕ = file.place.taken in
    let left : List ℕ = front_left file front in
    let more : List ℕ = read_of file (characters_of (decoded file).items) in
    let longer : len more < len (text_rest file).characters = omega (arith, less, ap len (ap (left_behind file) is), length-drop taken (left ++ more), length-append left more) in
    none_long file reads (decoded file).ending file.place.at (decoded file).items (record { items_are = refl; ending_is = refl }) longer

pub told_in_front : (file : TextFile) (front : Front) → reads_texts file.settings.handler ≡ true → file.place.front ≡ Some front → file.place.taken < len (front_left file front) → told file ≡ inside_cookie (effective_order file) (inside_front file front)
told_in_front file front reads is less =
    let taken : ℕ = file.place.taken in
    let left : List ℕ = front_left file front in
    let here : Option Inside = Some (inside_front file front) in
    let behind : Option Inside = inside_decoded file (taken - len left) in
    told_is file (Some front) is
    ∙ (ap (λ (found : Option ℕ). told_found file found (inside_of file (Some front))) (none_in_front file front reads is less)
    ∙ ap (told_inside file) (cond-true (nat_lt taken (len left)) here behind (lt-ltb taken (len left) less)))

-- the item that a front is
front_item : (file : TextFile) (front : Front) → reads_texts file.settings.handler ≡ true → (stands : IsFront file front) → 2 ≤ len stands.item.characters → Signs stands.item.characters
front_item file front reads stands many =
    let item : Item = stands.item in
    let bytes : List ℕ = take (front.start + front.length) file.bytes in
    let alone : TextFile = record file { bytes = bytes } in
    let lie : drop front.start bytes ≡ take front.length (drop front.start file.bytes) = drop-take front.start front.length file.bytes in
    let walks : Walks alone front.start (item ∷ []) AtEnd = record {
      items_are = ap (λ (bs : List ℕ). (walk_from file.settings.encoding (treat_of file) true file.place.order front.start 0 bs).items) lie ∙ stands.stands.items;
      ending_is = ap (λ (bs : List ℕ). (walk_from file.settings.encoding (treat_of file) true file.place.order front.start 0 bs).ending) lie ∙ stands.stands.ending;
    } in
    let begin : Begins alone front.start item [] AtEnd = begins alone reads front.start item [] AtEnd walks in
    item_signs file.settings.handler file.settings.encoding reads file.place.order front.start (drop front.start bytes) item.characters item.length many begin.first

-- in an encoding without a mark it is told as the program tells it
pub told_front_spot : (file : TextFile) (front : Front) → reads_texts file.settings.handler ≡ true → file.place.order ≡ Unknown → IsFront file front → file.place.front ≡ Some front → file.place.taken < len (front_left file front) → told file ≡ spot_cookie (front_spot file front)
told_front_spot file front reads unknown stands is less =
    let item : Item = stands.item in
    let cs : List ℕ = item.characters in
    let count : ℕ = front.skipped + file.place.taken in
    let whole : List ℕ = front_left file (record front { skipped = 0 }) in
    let same : whole ≡ cs = ap characters_of stands.stands.items ∙ append-nil cs in
    let of_front : front_left file front ≡ drop front.skipped cs = ap (drop front.skipped) same in
    let fits : count < len cs = omega (arith, less, ap len of_front, length-drop front.skipped cs) in
    let signs : Signs cs = front_item file front reads stands (omega (arith, fits, stands.skips)) in
    let long : len (take count whole) ≡ count = ap (λ (t : List ℕ). len (take count t)) same ∙ length-take-le count cs (omega (arith, fits)) in
    let encoded : len (encode_utf8_all (take count whole)) ≡ count =
    ap (λ (t : List ℕ). len (encode_utf8_all (take count t))) same
    ∙ (signs_encoded count cs signs
    ∙ length-take-le count cs (omega (arith, fits))) in
    told_in_front file front reads is less
    ∙ inside_is file.place.order front.start front.length count (take count whole) unknown (omega (arith, stands.skips)) long encoded
