-- Where a cookie puts a text.
use Rattle.std.specs.Prelude.{ℕ, ◌+◌, ℤ, pos, zero, nat_abs, Bool, true, false, ◌&&◌, not, nat_eq, nat_lt, nat_le, List, [], ◌∷◌, length, take, drop, Option, Some, None, encode_utf8_all, if◌then◌else◌}
use Rattle.py_plain.specs.declared.encoding.Encoding.{Encoding}
use Rattle.py_plain.specs.Handlers.{treatment}
use Rattle.py_plain.specs.Items.{Item, Walk, Ending, AtEnd, walk_from}
use Rattle.py_plain_text.specs.TextFile.{TextPlace, TextFile, clean_at}
use Rattle.py_plain_text.specs.Cookie.{Cookie, is_buildable, order_of}

-- Which cookies are valid.

-- whether an encoding keeps the order that a cookie's flags say: the five keep none
abbrev pub accepts_flags : Encoding → ℤ → Bool
accepts_flags encoding (pos zero) = true
accepts_flags encoding _ = false

-- whether a cookie could be one of a text in that encoding
abbrev pub is_valid_cookie : Encoding → Option Cookie → Bool
is_valid_cookie encoding None = false
is_valid_cookie encoding (Some cookie) = is_buildable cookie && accepts_flags encoding cookie.dec_flags

-- Landing.

-- where a cookie's text begins
abbrev pub start_of : Cookie → ℕ
start_of cookie = nat_abs cookie.start_pos

abbrev pub fed_by : Cookie → ℕ
fed_by cookie = nat_abs cookie.bytes_to_feed

abbrev pub skipped_by : Cookie → ℕ
skipped_by cookie = nat_abs cookie.chars_to_skip

-- whether a cookie skips characters
abbrev pub skips : Cookie → Bool
skips cookie = not (nat_eq (skipped_by cookie) 0)

-- the byte at which a cookie's text begins, with nothing skipped
abbrev pub start_place : Cookie → TextPlace
start_place cookie = clean_at (start_of cookie) (order_of cookie.dec_flags)

-- the characters of the one item that a walk is, where it uses all of its n bytes
abbrev pub only_item : ℕ → List Item → Ending → Option (List ℕ)
only_item size (item ∷ []) AtEnd = if nat_eq item.length size then Some item.characters else None
only_item size _ _ = None

-- the bytes that a cookie feeds, of those that lie at its start
abbrev pub fed_bytes : TextFile → Cookie → List ℕ
fed_bytes file cookie = take (fed_by cookie) (drop (start_of cookie) file.bytes)

-- what the bytes that a cookie feeds decode to by themselves, in the cookie's order
abbrev pub fed_walk : TextFile → Cookie → Walk
fed_walk file cookie =
    let treat = treatment file.settings.handler file.settings.encoding in
    walk_from file.settings.encoding treat cookie.need_eof (order_of cookie.dec_flags) (start_of cookie) 0 (fed_bytes file cookie)

-- one to four bytes are fed, and so many lie at the cookie's start
abbrev pub feeds_some : TextFile → Cookie → Bool
feeds_some file cookie = nat_le 1 (fed_by cookie) && (nat_le (fed_by cookie) 4 && nat_eq (length (fed_bytes file cookie)) (fed_by cookie))

-- the item has more characters than are skipped, and those take as many bytes of UTF-8 as the cookie says
abbrev pub skips_within : Cookie → Option (List ℕ) → Bool
skips_within cookie None = false
skips_within cookie (Some characters) =
    nat_lt (skipped_by cookie) (length characters)
    && nat_eq (length (encode_utf8_all (take (skipped_by cookie) characters))) (nat_abs cookie.bytes_to_skip)

-- a cookie that skips is accepted by a text that is read, where the bytes fed are one item and the skipped characters lie in it
abbrev pub is_restorable : TextFile → Cookie → Bool
is_restorable file cookie =
    let walk = fed_walk file cookie in
    file.can.readable && (feeds_some file cookie && skips_within cookie (only_item (fed_by cookie) walk.items walk.ending))

-- the place inside an item: what is left of it, then the text behind it
abbrev pub place_inside : Cookie → TextPlace
place_inside cookie = record {
  front = Some (record { start = start_of cookie; length = fed_by cookie; skipped = skipped_by cookie });
  at = start_of cookie + fed_by cookie;
  order = order_of cookie.dec_flags;
  taken = 0;
  dirty = true;
}

-- a place where the text is as the cookie says; or the cookie's start, where it isn't
pub data Landed : Type 0 where
  Stands : (place : TextPlace) → Landed
  CantRestore : (place : TextPlace) → Landed

-- where a cookie puts a text
abbrev pub lands : TextFile → Cookie → Landed
lands file cookie =
    if not (skips cookie) then Stands (start_place cookie)
    else if is_restorable file cookie then Stands (place_inside cookie)
    else CantRestore (start_place cookie)
