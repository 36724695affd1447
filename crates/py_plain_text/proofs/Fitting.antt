-- The numbers of a cookie that is told fit their bytes.
use Rattle.std.proofs.Common.{◌≡◌, ◌⊎◌, inl, inr, ℕ, ◌+◌, ◌-◌, ◌*◌, ◌≤◌, pos, Bool, true, false, nat_lt, List, [], ◌∷◌, ◌++◌, length as len, map, find, take, drop, Option, Some, None, encode_utf8_all, if◌then◌else◌, refl, sym, ap, subst, ◌∙◌, arith, append-nil}
use Rattle.std.specs.Bool.{⊤}
use Rattle.std.specs.Char.{encode_utf8}
use Rattle.std.specs.Int.{w32, w64}
use Rattle.std.proofs.lemmas.Bool.{cases_lt, lt-ltb, le-ltb, cond-true, cond-false}
use Rattle.std.proofs.lemmas.List.{length-append, length-take, length-drop}
use Rattle.std.proofs.lemmas.Str.{length-encode, len_utf8_bounds}
use mir.Val.{SFits}
use Rattle.py_flat.specs.Limits.{greatest_place}
use Rattle.py_plain.specs.Units.{Order, Unknown, Little, Big}
use Rattle.py_plain.specs.Handlers.{reads_texts}
use Rattle.py_plain.specs.Items.{Item, Walk, Ending, FirstItem, Given, RefusedRange, Unfinished, first_item, onto_walk, characters_of}
use Rattle.py_plain_text.specs.TextFile.{Front, TextFile}
use Rattle.py_plain_text.specs.Rest.{decoded}
use Rattle.py_plain_text.specs.Cookie.{Cookie, boundary_cookie, cookie_bytes, flags_of, is_buildable, built, parsed}
use Rattle.py_plain_text.specs.Telling.{Inside, gives_rest, end_of_item, boundaries, order_at, front_left, inside_front, inside_items, inside_decoded, inside_of, inside_cookie, told_inside, told_at, told}
use Rattle.py_plain_text.specs.CookieLaws.{IsItemAt, IsFront, FrontStands, StandsInText, LiesInReach}
use Rattle.py_plain_text.proofs.Building.{FieldsFit, built_back}
use Rattle.py_plain_text.proofs.Unbroken.{IsItem, first_is_item}
use Rattle.py_plain_text.proofs.Inside.{treat_of, read_of, Walks, Begins, begins, onto_some}
use Rattle.py_plain_text.proofs.Told.{gives_here, at_byte}

-- Numbers.

wide_fits : (n : ℕ) → n ≤ greatest_place → SFits w64 (pos n)
wide_fits n less = record { sfits = omega (arith, less) }

number_fits : (n : ℕ) → n ≤ 1040 → SFits w32 (pos n)
number_fits n less = record { sfits = omega (arith, less) }

flags_small : (order : Order) → flags_of order ≤ 2
flags_small Unknown = omega arith
flags_small Little = omega arith
flags_small Big = omega arith

encoded_short : (cs : List ℕ) → len (encode_utf8_all cs) ≤ 4 * len cs
encoded_short [] = omega arith
encoded_short (c ∷ cs) = omega (arith, encoded_short cs, length-append (encode_utf8 c) (encode_utf8_all cs), length-encode c, (len_utf8_bounds c).1)

-- a cookie whose fields fit, of which none is negative
pub record Fits (cookie : Cookie) : Type 0 where
  pub fields : FieldsFit cookie
  pub natural : is_buildable cookie ≡ true

boundary_fits : (place : ℕ) (order : Order) → place ≤ greatest_place → Fits (boundary_cookie place (flags_of order))
boundary_fits place order less = record {
  fields = record {
    start_pos = wide_fits place less;
    dec_flags = number_fits (flags_of order) (omega (arith, flags_small order));
    bytes_to_feed = number_fits 0 (omega arith);
    chars_to_skip = number_fits 0 (omega arith);
    bytes_to_skip = number_fits 0 (omega arith);
  };
  natural = refl;
}

-- a place inside an item of few bytes and characters
pub record IsSmall (limit : ℕ) (inside : Inside) : Type 0 where
  pub start : inside.start ≤ limit
  pub length : inside.length ≤ 4
  pub taken : len inside.taken ≤ 260

abbrev AreSmall : ℕ → Option Inside → Type 0
AreSmall limit None = ⊤
AreSmall limit (Some inside) = IsSmall limit inside

inside_fits : (order : Order) (inside : Inside) (limit : ℕ) → limit ≤ greatest_place → IsSmall limit inside → Fits (inside_cookie order inside)
inside_fits order inside limit less small = record {
  fields = record {
    start_pos = wide_fits inside.start (omega (arith, less, small.start));
    dec_flags = number_fits (flags_of order) (omega (arith, flags_small order));
    bytes_to_feed = number_fits inside.length (omega (arith, small.length));
    chars_to_skip = number_fits (len inside.taken) (omega (arith, small.taken));
    bytes_to_skip = number_fits (len (encode_utf8_all inside.taken)) (omega (arith, small.taken, encoded_short inside.taken));
  };
  natural = refl;
}

told_inside_fits : (file : TextFile) → LiesInReach file → (found : Option Inside) → AreSmall (len file.bytes) found → Fits (told_inside file found)
told_inside_fits file reach None small = boundary_fits file.place.at file.place.order reach.place
told_inside_fits file reach (Some inside) small = inside_fits file.place.order inside (len file.bytes) reach.bytes small

-- Items.

inside_small : (file : TextFile) → reads_texts file.settings.handler ≡ true → (count : ℕ) (ending : Ending) (place : ℕ) (before : List ℕ) (items : List Item) → Walks file place items ending → AreSmall (len file.bytes) (inside_items file.settings.newline count before items)
inside_small file reads count ending place before [] walks = tt
inside_small file reads count ending place before (item ∷ items) walks =
    let begin : Begins file place item items ending = begins file reads place item items ending walks in
    let all : ℕ = len (read_of file (before ++ item.characters)) in
    let inside : Inside = record { start = item.start; length = item.length; taken = take (count - len (read_of file before)) item.characters } in
    let behind : Option Inside = inside_items file.settings.newline count (before ++ item.characters) items in
    elim (cases_lt count all) [
      | inl less ↦ (
          let small : IsSmall (len file.bytes) inside = record { start = omega (arith, begin.start, begin.inside); length = begin.is.small; taken = omega (arith, begin.is.short, length-take (count - len (read_of file before)) item.characters) } in
          subst (AreSmall (len file.bytes)) (sym (cond-true (nat_lt count all) (Some inside) behind (lt-ltb count all less))) small
          )
      | inr past ↦ subst (AreSmall (len file.bytes)) (sym (cond-false (nat_lt count all) (Some inside) behind (le-ltb count all past)))
          (inside_small file reads count ending (place + item.length) (before ++ item.characters) items begin.behind)
    ]

found_by : (passes : Bool) (y x : ℕ) (behind : Option ℕ) → (if passes then Some y else behind) ≡ Some x → (y ≡ x) ⊎ (behind ≡ Some x)
found_by true y x behind is = let same : y ≡ x = cc in inl same
found_by false y x behind is = inr is

ends_small : (file : TextFile) → reads_texts file.settings.handler ≡ true → (ending : Ending) (place : ℕ) (items : List Item) → Walks file place items ending → (test : ℕ → Bool) (x : ℕ) → find test (map end_of_item items) ≡ Some x → x ≤ len file.bytes
ends_small file reads ending place [] walks test x is = absurd (cc)
ends_small file reads ending place (item ∷ items) walks test x is =
    let begin : Begins file place item items ending = begins file reads place item items ending walks in
    elim (found_by (test (end_of_item item)) (end_of_item item) x (find test (map end_of_item items)) is) [
      | inl here ↦ omega (arith, sym here, begin.start, begin.inside, begin.is.within, length-drop place file.bytes)
      | inr behind ↦ ends_small file reads ending (place + item.length) items begin.behind test x behind
    ]

-- The item of a front.

short_by : (file : TextFile) → reads_texts file.settings.handler ≡ true → (start size : ℕ) (item : Item) → IsItemAt file start size item → (first : FirstItem) → first_item file.settings.encoding (treat_of file) true file.place.order start (take size (drop start file.bytes)) ≡ first → len item.characters ≤ 260
short_by file reads start size item stands (Given characters used) is =
    let bytes : List ℕ = take size (drop start file.bytes) in
    let nature : IsItem (len bytes) characters used = first_is_item file.settings.handler file.settings.encoding reads file.place.order start bytes characters used is in
    let walked = onto_some file.settings.encoding (treat_of file) file.place.order start bytes (omega (arith, stands.some, stands.within, length-take size (drop start file.bytes), length-drop start file.bytes)) in
    let read : Item = record { start = start; length = used; order = file.place.order; characters = characters } in
    let all : read ∷ walked.0.items ≡ item ∷ [] = sym (ap (λ (w : Walk). w.items) (walked.1 ∙ ap (λ (f : FirstItem). onto_walk file.place.order start f walked.0) is)) ∙ stands.items in
    let same : read ≡ item = cc in
    subst (λ (i : Item). len i.characters ≤ 260) same nature.short
short_by file reads start size item stands (RefusedRange refused) is =
    let bytes : List ℕ = take size (drop start file.bytes) in
    let walked = onto_some file.settings.encoding (treat_of file) file.place.order start bytes (omega (arith, stands.some, stands.within, length-take size (drop start file.bytes), length-drop start file.bytes)) in
    let none : [] ≡ item ∷ [] = sym (ap (λ (w : Walk). w.items) (walked.1 ∙ ap (λ (f : FirstItem). onto_walk file.place.order start f walked.0) is)) ∙ stands.items in
    absurd (cc)
short_by file reads start size item stands Unfinished is =
    let bytes : List ℕ = take size (drop start file.bytes) in
    let walked = onto_some file.settings.encoding (treat_of file) file.place.order start bytes (omega (arith, stands.some, stands.within, length-take size (drop start file.bytes), length-drop start file.bytes)) in
    let none : [] ≡ item ∷ [] = sym (ap (λ (w : Walk). w.items) (walked.1 ∙ ap (λ (f : FirstItem). onto_walk file.place.order start f walked.0) is)) ∙ stands.items in
    absurd (cc)

front_small : (file : TextFile) (front : Front) → reads_texts file.settings.handler ≡ true → IsFront file front → IsSmall (len file.bytes) (inside_front file front)
front_small file front reads stands =
    let item : Item = stands.item in
    let whole : List ℕ = front_left file (record front { skipped = 0 }) in
    let same : whole ≡ item.characters = ap characters_of stands.stands.items ∙ append-nil item.characters in
    let short : len item.characters ≤ 260 = short_by file reads front.start front.length item stands.stands (first_item file.settings.encoding (treat_of file) true file.place.order front.start (take front.length (drop front.start file.bytes))) refl in
    record {
      start = omega (arith, stands.stands.within);
      length = stands.stands.few;
      taken = omega (arith, short, ap len same, length-take (front.skipped + file.place.taken) whole);
    }

decoded_small : (file : TextFile) → reads_texts file.settings.handler ≡ true → (count : ℕ) → AreSmall (len file.bytes) (inside_decoded file count)
decoded_small file reads count = inside_small file reads count (decoded file).ending file.place.at [] (decoded file).items (record { items_are = refl; ending_is = refl })

place_small : (file : TextFile) → reads_texts file.settings.handler ≡ true → (front : Option Front) → FrontStands file front → AreSmall (len file.bytes) (inside_of file front)
place_small file reads None stands = decoded_small file reads file.place.taken
place_small file reads (Some front) stands =
    let left : ℕ = len (front_left file front) in
    let behind : Option Inside = inside_decoded file (file.place.taken - left) in
    elim (cases_lt file.place.taken left) [
      | inl less ↦ subst (AreSmall (len file.bytes)) (sym (cond-true (nat_lt file.place.taken left) (Some (inside_front file front)) behind (lt-ltb file.place.taken left less))) (front_small file front reads stands)
      | inr past ↦ subst (AreSmall (len file.bytes)) (sym (cond-false (nat_lt file.place.taken left) (Some (inside_front file front)) behind (le-ltb file.place.taken left past))) (decoded_small file reads (file.place.taken - left))
    ]

-- The cookie that is told.

boundary_small : (file : TextFile) → StandsInText file → LiesInReach file → (boundary : ℕ) → find (gives_rest file) (boundaries file) ≡ Some boundary → (readable : Bool) → file.can.readable ≡ readable → boundary ≤ greatest_place
boundary_small file stands reach boundary found true is =
    elim (found_by (gives_rest file file.place.at) file.place.at boundary (find (gives_rest file) (map end_of_item (decoded file).items)) found) [
      | inl here ↦ omega (arith, sym here, reach.place)
      | inr behind ↦ omega (arith, reach.bytes, ends_small file (stands.reads is) (decoded file).ending file.place.at (decoded file).items (record { items_are = refl; ending_is = refl }) (gives_rest file) boundary behind)
    ]
boundary_small file stands reach boundary found false is =
    let still = stands.clean (stands.still is) in
    let first : find (gives_rest file) (boundaries file) ≡ Some file.place.at = cond-true (gives_rest file file.place.at) (Some file.place.at) (find (gives_rest file) (map end_of_item (decoded file).items)) (gives_here file still.0 still.1) in
    let both : Some file.place.at ≡ Some boundary = sym first ∙ found in
    let same : file.place.at ≡ boundary = cc in
    omega (arith, sym same, reach.place)

inside_place_fits : (file : TextFile) → StandsInText file → LiesInReach file → find (gives_rest file) (boundaries file) ≡ None → (readable : Bool) → file.can.readable ≡ readable → Fits (told_inside file (inside_of file file.place.front))
inside_place_fits file stands reach none true is = told_inside_fits file reach (inside_of file file.place.front) (place_small file (stands.reads is) file.place.front stands.front)
inside_place_fits file stands reach none false is = let still = stands.clean (stands.still is) in absurd (at_byte file still.0 still.1 none)

told_by : (file : TextFile) → StandsInText file → LiesInReach file → (found : Option ℕ) → find (gives_rest file) (boundaries file) ≡ found → Fits (told_at file found)
told_by file stands reach (Some boundary) is = boundary_fits boundary (order_at file boundary) (boundary_small file stands reach boundary is file.can.readable refl)
told_by file stands reach None is = inside_place_fits file stands reach is file.can.readable refl

pub told_fits : (file : TextFile) → StandsInText file → LiesInReach file → Fits (told file)
told_fits file stands reach = told_by file stands reach (find (gives_rest file) (boundaries file)) refl

-- it is built, and its bytes are parsed as it
pub told_built : (file : TextFile) → StandsInText file → LiesInReach file → built (told file) ≡ Some (cookie_bytes (told file))
told_built file stands reach = cond-true (is_buildable (told file)) (Some (cookie_bytes (told file))) None (told_fits file stands reach).natural

pub told_parsed : (file : TextFile) → StandsInText file → LiesInReach file → parsed (cookie_bytes (told file)) ≡ Some (told file)
told_parsed file stands reach = built_back (told file) (told_fits file stands reach).fields (cookie_bytes (told file)) (told_built file stands reach)
