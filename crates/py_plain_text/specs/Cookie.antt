-- The cookie of a place in a text, and the 25 bytes that it goes as. Its fields have the names of Python's own.
use Rattle.std.specs.Prelude.{ℕ, zero, suc, ℤ, pos, negsuc, Bool, true, false, ◌&&◌, not, nat_eq, nat_lt, List, ◌∷◌, ◌++◌, length, drop, slice_index, Option, Some, None, if◌then◌else◌}
use Rattle.std.specs.Int.{Width, w32, w64, cast_unsigned, cast_signed, to_le_bytes, from_le_bytes}
use Rattle.py_plain.specs.Units.{Order, Unknown, Little, Big}

-- where the text begins, in bytes; the order of a mark that was read; and, of a place inside what stands for a refused range: how many
-- bytes that range has, how many characters are skipped, whether it is decoded as if nothing came after it, and how many bytes of UTF-8 are
-- skipped
pub record Cookie : Type 0 where
  pub start_pos : ℤ
  pub dec_flags : ℤ
  pub bytes_to_feed : ℤ
  pub chars_to_skip : ℤ
  pub need_eof : Bool
  pub bytes_to_skip : ℤ

-- a cookie of a byte, from which nothing is skipped
abbrev pub boundary_cookie : (place flags : ℕ) → Cookie
boundary_cookie place flags = record {
  start_pos = pos place;
  dec_flags = pos flags;
  bytes_to_feed = pos 0;
  chars_to_skip = pos 0;
  need_eof = false;
  bytes_to_skip = pos 0;
}

-- Cookies and bytes.

-- how many bytes a cookie has
abbrev pub cookie_length : ℕ
cookie_length = 25

-- the signed number that stands at a place, the least byte first; a byte past the end counts as 0
abbrev pub number_at : Width → ℕ → List ℕ → ℤ
number_at width place bytes = cast_signed width (from_le_bytes width (drop place bytes))

abbrev pub cookie_of : List ℕ → Cookie
cookie_of bytes = record {
  start_pos = number_at w64 0 bytes;
  dec_flags = number_at w32 8 bytes;
  bytes_to_feed = number_at w32 12 bytes;
  chars_to_skip = number_at w32 16 bytes;
  need_eof = not (nat_eq (slice_index bytes 20) 0);
  bytes_to_skip = number_at w32 21 bytes;
}

-- the cookie that some bytes are, zeros after them; none of more than 25
abbrev pub parsed : List ℕ → Option Cookie
parsed bytes = if nat_lt cookie_length (length bytes) then None else Some (cookie_of bytes)

-- the bytes of a signed number, the least first
abbrev pub number_bytes : Width → ℤ → List ℕ
number_bytes width number = to_le_bytes width (cast_unsigned width number)

abbrev pub flag_byte : Bool → ℕ
flag_byte flag = if flag then 1 else 0

abbrev pub cookie_bytes : Cookie → List ℕ
cookie_bytes cookie =
    number_bytes w64 cookie.start_pos ++ number_bytes w32 cookie.dec_flags
    ++ number_bytes w32 cookie.bytes_to_feed ++ number_bytes w32 cookie.chars_to_skip
    ++ flag_byte cookie.need_eof ∷ number_bytes w32 cookie.bytes_to_skip

abbrev pub is_natural : ℤ → Bool
is_natural (pos number) = true
is_natural (negsuc number) = false

-- whether no field is negative
abbrev pub is_buildable : Cookie → Bool
is_buildable cookie =
    is_natural cookie.start_pos && is_natural cookie.dec_flags && is_natural cookie.bytes_to_feed
    && is_natural cookie.chars_to_skip && is_natural cookie.bytes_to_skip

-- the bytes of a cookie; none where a field is negative
abbrev pub built : Cookie → Option (List ℕ)
built cookie = if is_buildable cookie then Some (cookie_bytes cookie) else None

-- Orders as flags.

abbrev pub flags_of : Order → ℕ
flags_of Unknown = 0
flags_of Little = 1
flags_of Big = 2

abbrev pub order_of : ℤ → Order
order_of (pos (suc zero)) = Little
order_of (pos (suc (suc zero))) = Big
order_of _ = Unknown
