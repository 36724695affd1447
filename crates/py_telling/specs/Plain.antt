-- Bytes that are characters by themselves, and of which none is a CR.
use Rattle.std.specs.Prelude.{◌≡◌, ℕ, ◌<◌, Bool, true, false, not, ◌&&◌, nat_eq, nat_lt, List, slice_index}
use Rattle.py_flat.specs.Lines.{cr}
use Rattle.py_plain.specs.declared.encoding.Encoding.{Encoding}
use Rattle.py_plain.specs.declared.encoding.Encoding.TheVariants.{Utf8, Latin1, Ascii, Utf16Le, Utf16Be}

-- whether a byte is ASCII and no CR
abbrev pub is_plain : ℕ → Bool
is_plain byte = nat_lt byte 0x80 && not (nat_eq byte cr)

-- the first so many bytes are ASCII, and none is a CR
abbrev pub ArePlain : (run : ℕ) → List ℕ → Type 0
ArePlain run bytes = (at : ℕ) → at < run → is_plain (slice_index bytes at) ≡ true

-- whether each ASCII byte is a character
abbrev pub has_ascii : Encoding → Bool
has_ascii Utf8 = true
has_ascii Latin1 = true
has_ascii Ascii = true
has_ascii Utf16Le = false
has_ascii Utf16Be = false
