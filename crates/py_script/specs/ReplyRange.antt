-- The range of what a reply holds, by the types of its parts.
use Rattle.std.specs.Prelude.{ℕ, ◌^◌, ◌<◌, List, [], ◌∷◌, IfSome, length, encode_utf8_all, FitsSigned, ⊤}
use Rattle.std.specs.Int.{w32, w64}
use Rattle.std.specs.List.{All}
use Rattle.hex.specs.Hex.{IsBytes}
use Rattle.py_calls.specs.declared.reply.Reply.{Reply}
use Rattle.py_calls.specs.declared.reply.Reply.TheVariants.{Bytes, Text, Lines, Count, Place, Cookie, Unwritten, Refused}
use Rattle.py_plain_text.specs.declared.text_cookie.TextIOCookie.{TextIOCookie}
use Rattle.py_script.specs.Faults.{fault_numbers}

-- every number is one of 64 bits
abbrev pub AreSmall : List ℕ → Type 0
AreSmall [] = ⊤
AreSmall (number ∷ numbers) = (number < 2 ^ 64) × AreSmall numbers

-- each field of a cookie is a number of its type
pub record FitFields (cookie : TextIOCookie) : Type 0 where
  pub start_pos : FitsSigned w64 cookie.start_pos
  pub dec_flags : FitsSigned w32 cookie.dec_flags
  pub bytes_to_feed : FitsSigned w32 cookie.bytes_to_feed
  pub chars_to_skip : FitsSigned w32 cookie.chars_to_skip
  pub bytes_to_skip : FitsSigned w32 cookie.bytes_to_skip

-- bytes are below 256, and numbers below 2 ^ 64, the count of lines too
abbrev pub IsInRange : Reply → Type 0
IsInRange (Bytes bytes) = IsBytes bytes
IsInRange (Text text) = IsBytes (encode_utf8_all text)
IsInRange (Lines lines) = All IsBytes lines × (length lines < 2 ^ 64)
IsInRange (Count count) = count < 2 ^ 64
IsInRange (Place place) = place < 2 ^ 64
IsInRange (Cookie cookie) = FitFields cookie
IsInRange (Unwritten bytes place) = IsBytes bytes × IfSome place (λ some. some < 2 ^ 64)
IsInRange (Refused fault) = AreSmall (fault_numbers fault)
IsInRange _ = ⊤
