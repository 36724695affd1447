-- Whether a cookie that skips characters fits the bytes that lie at its start.
use Rattle.std.specs.Prelude.{◌≡◌, ℕ, ◌<◌, nat_abs, Bool, ◌&&◌, nat_eq, nat_le, nat_lt, List, length, take, Option, Some, None, encode_utf8_all}
use Rattle.py_plain.specs.declared.encoding.Encoding.{Encoding}
use Rattle.py_plain.specs.declared.handler.Handler.{Handler}
use Rattle.py_plain_text.specs.TextFile.{TextFile}
use Rattle.py_plain_text.specs.Cookie.{Cookie}
use Rattle.py_plain_text.specs.Landing.{fed_by, skipped_by, fed_bytes}

-- the bytes that a cookie feeds are one to four, and so many lie there
abbrev pub feeds : Cookie → List ℕ → Bool
feeds cookie fed = nat_le 1 (fed_by cookie) && (nat_le (fed_by cookie) 4 && nat_eq (length fed) (fed_by cookie))

-- fewer are skipped than so many characters, and as many bytes as characters
abbrev pub skips_fewer : Cookie → (count : ℕ) → Bool
skips_fewer cookie count = nat_lt (skipped_by cookie) count && nat_eq (skipped_by cookie) (nat_abs cookie.bytes_to_skip)

-- how many characters an item has, none where there is no item; in UTF-8 those before the last take one byte each
abbrev pub IsCount : ℕ → Option (List ℕ) → Type 0
IsCount count None = count ≡ 0
IsCount count (Some characters) = (length characters ≡ count) × ((skipped : ℕ) → skipped < count → length (encode_utf8_all (take skipped characters)) ≡ skipped)

-- a text of these settings in which these bytes lie at a cookie's start, as many as it feeds or all that there are
pub record FeedsOf (encoding : Encoding) (handler : Handler) (cookie : Cookie) (fed : List ℕ) (file : TextFile) : Type 0 where
  pub encoding_is : file.settings.encoding ≡ encoding
  pub handler_is : file.settings.handler ≡ handler
  pub fed_are : fed ≡ fed_bytes file cookie
