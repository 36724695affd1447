-- The cookie that tells a place in a text.
use Rattle.std.specs.Prelude.{ℕ, ◌+◌, ◌-◌, pos, Bool, true, false, ◌&&◌, nat_eq, nat_lt, List, [], ◌∷◌, ◌++◌, length, map, find, take, bytes_eq, Option, Some, None, encode_utf8_all, if◌then◌else◌}
use Rattle.py_plain.specs.declared.newlines.Newlines.{Newlines}
use Rattle.py_plain.specs.Units.{Order}
use Rattle.py_plain.specs.Items.{Item}
use Rattle.py_plain.specs.NewlineRule.{translated}
use Rattle.py_plain_text.specs.TextFile.{Front, TextPlace, TextFile, clean_at}
use Rattle.py_plain_text.specs.Rest.{Rest, front_characters, decoded, text_rest}
use Rattle.py_plain_text.specs.Cookie.{Cookie, boundary_cookie, flags_of}

-- the order of a text behind the place where it was put last: the five encodings have no mark that could say another
abbrev pub effective_order : TextFile → Order
effective_order file = file.place.order

-- the order of a boundary: the text's own where it was put last, else the one that holds behind that place
abbrev pub order_at : TextFile → ℕ → Order
order_at file boundary = if nat_eq boundary file.place.at then file.place.order else effective_order file

-- the characters and the refused range of two texts are the same
abbrev pub same_range : Option (ℕ × ℕ) → Option (ℕ × ℕ) → Bool
same_range None None = true
same_range (Some one) (Some other) = nat_eq one.0 other.0 && nat_eq one.1 other.1
same_range _ _ = false

abbrev pub same_rest : Rest → Rest → Bool
same_rest one other = bytes_eq one.characters other.characters && same_range one.refusal other.refusal

-- the text, put at a place
abbrev pub placed : TextFile → TextPlace → TextFile
placed file place = record file { place = place }

-- whether a text that is put at a boundary has the same left
abbrev pub gives_rest : TextFile → ℕ → Bool
gives_rest file boundary = same_rest (text_rest (placed file (clean_at boundary (order_at file boundary)))) (text_rest file)

abbrev pub end_of_item : Item → ℕ
end_of_item item = item.start + item.length

-- the boundaries between the items from where the text was put last, in their order; of a front the end alone
abbrev pub boundaries : TextFile → List ℕ
boundaries file = file.place.at ∷ map end_of_item (decoded file).items

-- an item of which some characters were taken: its first byte, its bytes, and those characters
pub record Inside : Type 0 where
  pub start : ℕ
  pub length : ℕ
  pub taken : List ℕ

-- the item in which the character after n others stands, as the newline rule gives them; `before` are the characters before the items
abbrev pub inside_items : Newlines → ℕ → (before : List ℕ) → List Item → Option Inside
inside_items rule count before [] = None
inside_items rule count before (item ∷ items) =
    if nat_lt count (length (translated rule (before ++ item.characters)))
    then Some (record { start = item.start; length = item.length; taken = take (count - length (translated rule before)) item.characters })
    else inside_items rule count (before ++ item.characters) items

-- the item behind the front in which the character after n others stands
abbrev pub inside_decoded : TextFile → ℕ → Option Inside
inside_decoded file count = inside_items file.settings.newline count [] (decoded file).items

-- the characters of a front that were not skipped
abbrev pub front_left : TextFile → Front → List ℕ
front_left file front = front_characters file.settings file.place.order file.bytes (Some front)

-- a front, and of its characters those that were skipped and those that were taken
abbrev pub inside_front : TextFile → Front → Inside
inside_front file front =
    let whole = front_left file (record front { skipped = 0 }) in
    record { start = front.start; length = front.length; taken = take (front.skipped + file.place.taken) whole }

-- the item in which a text stands: the front, where not all of it was taken, else one behind it
abbrev pub inside_of : TextFile → Option Front → Option Inside
inside_of file None = inside_decoded file file.place.taken
inside_of file (Some front) =
    if nat_lt file.place.taken (length (front_left file front)) then Some (inside_front file front)
    else inside_decoded file (file.place.taken - length (front_left file front))

-- the cookie of a place inside an item, in an order
abbrev pub inside_cookie : Order → Inside → Cookie
inside_cookie order inside = record {
  start_pos = pos inside.start;
  dec_flags = pos (flags_of order);
  bytes_to_feed = pos inside.length;
  chars_to_skip = pos (length inside.taken);
  need_eof = true;
  bytes_to_skip = pos (length (encode_utf8_all inside.taken));
}

-- the cookie of the item in which a text stands; a text that stands in none is told by its byte
abbrev pub told_inside : TextFile → Option Inside → Cookie
told_inside file (Some inside) = inside_cookie (effective_order file) inside
told_inside file None = boundary_cookie file.place.at (flags_of file.place.order)

-- the cookie of a boundary that gives the rest, else of the item in which the text stands
abbrev pub told_at : TextFile → Option ℕ → Cookie
told_at file (Some boundary) = boundary_cookie boundary (flags_of (order_at file boundary))
told_at file None = told_inside file (inside_of file file.place.front)

-- the cookie that tells the place of a text: the first boundary that gives the rest is the least
abbrev pub told : TextFile → Cookie
told file = told_at file (find (gives_rest file) (boundaries file))
