-- The bytes that a cookie is built as are parsed as that cookie.
use Rattle.std.proofs.Common.{◌≡◌, ℕ, Bool, true, false, not, nat_eq, List, if◌then◌else◌, Some, None, refl, ap, ◌∙◌, ℤ}
use Rattle.std.specs.Int.{w32, w64, cast_unsigned, cast_signed, to_le_bytes, from_le_bytes}
use Rattle.std.proofs.lemmas.Int.{to_z-of_z}
use Rattle.std.proofs.lemmas.Nat.{from_le_bytes-to_le_bytes_4, from_le_bytes-to_le_bytes_8}
use Rattle.std.proofs.Math.Facts.{Fits-of_z}
use mir.Val.{SFits}
use Rattle.py_plain_text.specs.Cookie.{Cookie, cookie_of, cookie_bytes, flag_byte, is_buildable, built, parsed}

-- the fields of a cookie fit their types
pub record FieldsFit (cookie : Cookie) : Type 0 where
  pub start_pos : SFits w64 cookie.start_pos
  pub dec_flags : SFits w32 cookie.dec_flags
  pub bytes_to_feed : SFits w32 cookie.bytes_to_feed
  pub chars_to_skip : SFits w32 cookie.chars_to_skip
  pub bytes_to_skip : SFits w32 cookie.bytes_to_skip

eof_back : (flag : Bool) → not (nat_eq (flag_byte flag) 0) ≡ flag
eof_back true = refl
eof_back false = refl

-- what stands for a number is read as that number
wide_back : (z : ℤ) → SFits w64 z → cast_signed w64 (from_le_bytes w64 (to_le_bytes w64 (cast_unsigned w64 z))) ≡ z
wide_back z fits = ap (cast_signed w64) (from_le_bytes-to_le_bytes_8 (cast_unsigned w64 z) (Fits-of_z fits).fits) ∙ to_z-of_z w64 z fits

number_back : (z : ℤ) → SFits w32 z → cast_signed w32 (from_le_bytes w32 (to_le_bytes w32 (cast_unsigned w32 z))) ≡ z
number_back z fits = ap (cast_signed w32) (from_le_bytes-to_le_bytes_4 (cast_unsigned w32 z) (Fits-of_z fits).fits) ∙ to_z-of_z w32 z fits

of_fields : (cookie : Cookie) (start flags fed skipped last : ℤ) (eof : Bool) → start ≡ cookie.start_pos → flags ≡ cookie.dec_flags → fed ≡ cookie.bytes_to_feed → skipped ≡ cookie.chars_to_skip → eof ≡ cookie.need_eof → last ≡ cookie.bytes_to_skip → record { start_pos = start; dec_flags = flags; bytes_to_feed = fed; chars_to_skip = skipped; need_eof = eof; bytes_to_skip = last } ≡ cookie
of_fields cookie start flags fed skipped last eof a b c d e f = rw (a, b, c, d, e, f) refl

pub cookie_back : (cookie : Cookie) → FieldsFit cookie → cookie_of (cookie_bytes cookie) ≡ cookie
cookie_back cookie fit = of_fields cookie _ _ _ _ _ _ (wide_back cookie.start_pos fit.start_pos) (number_back cookie.dec_flags fit.dec_flags) (number_back cookie.bytes_to_feed fit.bytes_to_feed) (number_back cookie.chars_to_skip fit.chars_to_skip) (eof_back cookie.need_eof) (number_back cookie.bytes_to_skip fit.bytes_to_skip)

some_built : (test : Bool) (made bytes : List ℕ) → (if test then Some made else None) ≡ Some bytes → bytes ≡ made
some_built true made bytes is = let same : Some made ≡ Some bytes = is in cc
some_built false made bytes is = absurd (cc)

pub built_back : (cookie : Cookie) → FieldsFit cookie → (bytes : List ℕ) → built cookie ≡ Some bytes → parsed bytes ≡ Some cookie
built_back cookie fit bytes is = ap parsed (some_built (is_buildable cookie) (cookie_bytes cookie) bytes is) ∙ ap (λ (c : Cookie). Some c) (cookie_back cookie fit)
