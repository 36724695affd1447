-- A front of a text, and how its bytes are passed.
use Rattle.std.specs.Prelude.{◌≡◌, ℕ, ◌<◌, ◌≤◌, true, List, length, take, slice_index, encode_utf8_all}
use Rattle.std.specs.Fmt.{is_char_start}
use Rattle.std.specs.List.{count_by}
use Rattle.py_blocks.specs.declared.fronts.TextFront.{TextFront}

-- a front of some characters, and the bytes of UTF-8 that it has
pub record IsFrontOf (cs : List ℕ) (front : TextFront) : Type 0 where
  pub within : front.chars ≤ length cs
  pub bytes : front.bytes ≡ length (encode_utf8_all (take front.chars cs))

-- some bytes were passed, in which no more characters begin than are wanted
pub record IsPassed (bytes : List ℕ) (most : ℕ) (front : TextFront) : Type 0 where
  pub within : front.bytes ≤ length bytes
  pub counted : front.chars ≡ count_by is_char_start (take front.bytes bytes)
  pub few : front.chars ≤ most

-- all were passed; or as many characters as are wanted, and another begins
abbrev pub Ends : List ℕ → (most : ℕ) → TextFront → Type 0
Ends bytes most front = front.bytes < length bytes → (front.chars ≡ most) × (is_char_start (slice_index bytes front.bytes) ≡ true)
