-- A reply is told by its line.
use Rattle.std.proofs.Common.{◌≡◌, ℕ, zero, suc, ◌<◌, ◌^◌, ◌%◌, Bool, true, false, List, [], ◌∷◌, ◌++◌, length, get_or, codes, map, Option, Some, None, Ok, encode_utf8_all, refl, sym, ap, subst, ◌∙◌, append_assoc, arith}
use Rattle.std.specs.Prelude.{if◌then◌else◌, IfSome}
use Rattle.std.specs.Bool.{⊤}
use Rattle.std.specs.Fmt.{decimal}
use Rattle.std.specs.Int.{w32, w64, cast_unsigned, to_le_bytes}
use Rattle.std.specs.List.{All}
use Rattle.std.specs.Str.{bytes_eq}
use Rattle.std.specs.Str.Parse.{AllDigits}
use Rattle.std.proofs.lemmas.Fmt.{decimal_injective, decimal_is_IsNumeral}
use Rattle.std.proofs.lemmas.Str.{encodes_same}
use Rattle.hex.specs.Hex.{IsBytes, encode_with, encode_lower, decode_of}
use Rattle.hex.proofs.HexLemmas.{decode_of-encode_lower}
use Rattle.py_calls.specs.declared.reply.Reply.{Reply}
use Rattle.py_calls.specs.declared.reply.Reply.TheVariants.{Bytes, Text, Lines, Count, Place, Cookie, Done, NotReady, Flag, Name, Unwritten, Refused}
use Rattle.py_flat.specs.declared.fault.IoFault.{IoFault}
use Rattle.py_plain_text.specs.declared.text_cookie.TextIOCookie.{TextIOCookie}
use Rattle.py_plain_text.specs.Cookie as seen
use Rattle.py_plain_text.specs.Cookie.{cookie_of, cookie_bytes, number_bytes, flag_byte}
use Rattle.py_plain_text.specs.CookieView.{cookie_shown}
use Rattle.py_plain_text.proofs.Building.{cookie_back}
use Rattle.py_script.specs.Words.{spaced}
use Rattle.py_script.specs.ReplyLine.{hex_of, place_of, reply_word, reply_fields, reply_line}
use Rattle.py_script.specs.ReplyRange.{FitFields, IsInRange}
use Rattle.py_script.proofs.WordLemmas.{is_word, AreWords, cut, rest_of_line, rest_ends_word, rest_of_line_same, one_word_same, hex_word, hex_lines_words, decimal_word}
use Rattle.py_script.proofs.FaultLemmas.{fault_words, fault_same}

-- hex of some bytes has two digits at least
hex_is_longer : (byte : ℕ) (bytes : List ℕ) → codes "-" ≡ encode_lower (byte ∷ bytes) → ⊥
unfolding encode_with
hex_is_longer byte bytes same = cc

-- hex tells its bytes
hex_same : (bs cs : List ℕ) → IsBytes bs → IsBytes cs → hex_of bs ≡ hex_of cs → bs ≡ cs
hex_same [] [] range_b range_c same = refl
hex_same [] (c ∷ cs) range_b range_c same = absurd (hex_is_longer c cs same)
hex_same (b ∷ bs) [] range_b range_c same = absurd (hex_is_longer b bs (sym same))
hex_same (b ∷ bs) (c ∷ cs) range_b range_c same =
    let oks : Ok (b ∷ bs) ≡ Ok (c ∷ cs) = sym (decode_of-encode_lower (b ∷ bs) range_b) ∙ ap decode_of same ∙ decode_of-encode_lower (c ∷ cs) range_c in
    cc

-- hex of lines tells the lines
hex_lines_same : (ks ls : List (List ℕ)) → All IsBytes ks → All IsBytes ls → map hex_of ks ≡ map hex_of ls → ks ≡ ls
hex_lines_same [] [] range_k range_l same = refl
hex_lines_same [] (l ∷ ls) range_k range_l same = cc
hex_lines_same (k ∷ ks) [] range_k range_l same = cc
hex_lines_same (k ∷ ks) (l ∷ ls) range_k range_l same =
    let heads : hex_of k ≡ hex_of l = cc in
    let tails : map hex_of ks ≡ map hex_of ls = cc in
    let first : k ≡ l = hex_same k l (range_k 0 [] (omega arith)) (range_l 0 [] (omega arith)) heads in
    let more : ks ≡ ls = hex_lines_same ks ls (λ i d within. range_k (suc i) d (omega arith)) (λ i d within. range_l (suc i) d (omega arith)) tails in
    cc

-- the word of a place
place_word : (place : Option ℕ) → IfSome place (λ some. some < 2 ^ 64) → is_word (place_of place) ≡ true
place_word None small = refl
place_word (Some place) small = decimal_word place small

-- a decimal isn't `-`
decimal_is_no_dash : (number : ℕ) → number < 2 ^ 64 → codes "-" ≡ decimal number → ⊥
decimal_is_no_dash number small same =
    let digits : AllDigits 10 (codes "-") = subst (AllDigits 10) (sym same) (decimal_is_IsNumeral number small).0.1 in
    absurd (omega (arith, digits.0))

-- the word of a place tells the place
place_same : (p q : Option ℕ) → IfSome p (λ some. some < 2 ^ 64) → IfSome q (λ some. some < 2 ^ 64) → place_of p ≡ place_of q → p ≡ q
place_same None None small_p small_q same = refl
place_same None (Some q) small_p small_q same = absurd (decimal_is_no_dash q small_q same)
place_same (Some p) None small_p small_q same = absurd (decimal_is_no_dash p small_p (sym same))
place_same (Some p) (Some q) small_p small_q same = ap Some (decimal_injective p q small_p small_q same)

-- a number for each kind of reply, from 1 on
kind : Reply → ℕ
kind (Bytes bytes) = 1
kind (Text text) = 2
kind (Lines lines) = 3
kind (Count count) = 4
kind (Place place) = 5
kind Done = 6
kind NotReady = 7
kind (Flag value) = 8
kind (Name name) = 9
kind (Unwritten bytes place) = 10
kind (Refused fault) = 11
kind (Cookie cookie) = 12

-- the number of the kind that a word names
kind_of : List ℕ → ℕ
kind_of word =
    if bytes_eq word (codes "bytes") then 1
    else if bytes_eq word (codes "text") then 2
    else if bytes_eq word (codes "lines") then 3
    else if bytes_eq word (codes "count") then 4
    else if bytes_eq word (codes "place") then 5
    else if bytes_eq word (codes "ok") then 6
    else if bytes_eq word (codes "notready") then 7
    else if bytes_eq word (codes "name") then 9
    else if bytes_eq word (codes "detached") then 10
    else if bytes_eq word (codes "err") then 11
    else if bytes_eq word (codes "cookie") then 12
    else 8

-- a reply's word names its kind
kind_of_word : (reply : Reply) → kind_of (reply_word reply) ≡ kind reply
unfolding kind kind_of
kind_of_word (Bytes bytes) = refl
kind_of_word (Text text) = refl
kind_of_word (Lines lines) = refl
kind_of_word (Count count) = refl
kind_of_word (Place place) = refl
kind_of_word (Cookie cookie) = refl
kind_of_word Done = refl
kind_of_word NotReady = refl
kind_of_word (Flag true) = refl
kind_of_word (Flag false) = refl
kind_of_word (Name name) = refl
kind_of_word (Unwritten bytes place) = refl
kind_of_word (Refused fault) = refl

-- the word that a reply's line begins with is a word
reply_word_word : (reply : Reply) → is_word (reply_word reply) ≡ true
reply_word_word (Bytes bytes) = refl
reply_word_word (Text text) = refl
reply_word_word (Lines lines) = refl
reply_word_word (Count count) = refl
reply_word_word (Place place) = refl
reply_word_word (Cookie cookie) = refl
reply_word_word Done = refl
reply_word_word NotReady = refl
reply_word_word (Flag true) = refl
reply_word_word (Flag false) = refl
reply_word_word (Name name) = refl
reply_word_word (Unwritten bytes place) = refl
reply_word_word (Refused fault) = refl

-- what follows a reply's word
abbrev rest : Reply → List ℕ
rest reply = rest_of_line (reply_fields reply)

-- replies of one kind whose lines go on alike
record Alike (a b : Reply) : Type 0 where
  range_a : IsInRange a
  range_b : IsInRange b
  words : reply_word a ≡ reply_word b
  kinds : kind a ≡ kind b
  rests : rest a ≡ rest b

-- a reply alike to an answer of bytes is that answer
bytes_same : (bytes : List ℕ) (b : Reply) → Alike (Bytes bytes) b → Bytes bytes ≡ b
unfolding kind
bytes_same x (Bytes y) alike = ap Bytes (hex_same x y alike.range_a alike.range_b (one_word_same (hex_of x) (hex_of y) alike.rests))
bytes_same x b alike = absurd (omega (arith, alike.kinds))

-- a reply alike to an answer of a text is that answer
text_same : (text : List ℕ) (b : Reply) → Alike (Text text) b → Text text ≡ b
unfolding kind
text_same x (Text y) alike = ap Text (encodes_same x y (hex_same (encode_utf8_all x) (encode_utf8_all y) alike.range_a alike.range_b (one_word_same (hex_of (encode_utf8_all x)) (hex_of (encode_utf8_all y)) alike.rests)))
text_same x b alike = absurd (omega (arith, alike.kinds))

-- the words of an answer of lines, after how many they are
lines_words : (lines : List (List ℕ)) → IsInRange (Lines lines) → AreWords (reply_fields (Lines lines))
lines_words lines range = (decimal_word (length lines) range.1, hex_lines_words lines)

lines_parts : (x y : List (List ℕ)) → IsInRange (Lines x) → IsInRange (Lines y) → rest (Lines x) ≡ rest (Lines y) → Lines x ≡ Lines y
lines_parts x y range_a range_b rests =
    let fields : reply_fields (Lines x) ≡ reply_fields (Lines y) = rest_of_line_same (reply_fields (Lines x)) (reply_fields (Lines y)) (lines_words x range_a) (lines_words y range_b) rests in
    let hexes : map hex_of x ≡ map hex_of y = cc in
    ap Lines (hex_lines_same x y range_a.0 range_b.0 hexes)

lines_same : (lines : List (List ℕ)) (b : Reply) → Alike (Lines lines) b → Lines lines ≡ b
unfolding kind
lines_same x (Lines y) alike = lines_parts x y alike.range_a alike.range_b alike.rests
lines_same x b alike = absurd (omega (arith, alike.kinds))

-- a reply alike to a count is that count
count_same : (count : ℕ) (b : Reply) → Alike (Count count) b → Count count ≡ b
unfolding kind
count_same x (Count y) alike = ap Count (decimal_injective x y alike.range_a alike.range_b (one_word_same (decimal x) (decimal y) alike.rests))
count_same x b alike = absurd (omega (arith, alike.kinds))

-- a reply alike to a place is that place
place_reply_same : (place : ℕ) (b : Reply) → Alike (Place place) b → Place place ≡ b
unfolding kind
place_reply_same x (Place y) alike = ap Place (decimal_injective x y alike.range_a alike.range_b (one_word_same (decimal x) (decimal y) alike.rests))
place_reply_same x b alike = absurd (omega (arith, alike.kinds))

-- bytes one by one
abbrev AreBytes : List ℕ → Type 0
AreBytes [] = ⊤
AreBytes (byte ∷ bytes) = (byte < 256) × AreBytes bytes

are_bytes : (bytes : List ℕ) → AreBytes bytes → IsBytes bytes
are_bytes [] are i = omega arith
are_bytes (byte ∷ bytes) are zero = are.0
are_bytes (byte ∷ bytes) are (suc i) = are_bytes bytes are.1 i

small : (number : ℕ) → number % 256 < 256
small number = omega arith

flag_small : (flag : Bool) → flag_byte flag < 256
flag_small true = omega arith
flag_small false = omega arith

-- the bytes of a number before others
four_before : (number : ℕ) (bytes : List ℕ) → AreBytes bytes → AreBytes (to_le_bytes w32 number ++ bytes)
four_before number bytes are = (small _, (small _, (small _, (small _, are))))

eight_before : (number : ℕ) (bytes : List ℕ) → AreBytes bytes → AreBytes (to_le_bytes w64 number ++ bytes)
eight_before number bytes are = (small _, (small _, (small _, (small _, (small _, (small _, (small _, (small _, are))))))))

-- the bytes of a cookie are bytes
pub cookie_small : (cookie : seen.Cookie) → IsBytes (cookie_bytes cookie)
cookie_small cookie =
    let last : List ℕ = flag_byte cookie.need_eof ∷ number_bytes w32 cookie.bytes_to_skip in
    let skipped : List ℕ = number_bytes w32 cookie.chars_to_skip ++ last in
    let fed : List ℕ = number_bytes w32 cookie.bytes_to_feed ++ skipped in
    let flags : List ℕ = number_bytes w32 cookie.dec_flags ++ fed in
    let ends : AreBytes last = (flag_small cookie.need_eof, (small _, (small _, (small _, (small _, tt))))) in
    let skips : AreBytes skipped = four_before (cast_unsigned w32 cookie.chars_to_skip) last ends in
    let feeds : AreBytes fed = four_before (cast_unsigned w32 cookie.bytes_to_feed) skipped skips in
    are_bytes (cookie_bytes cookie) (eight_before (cast_unsigned w64 cookie.start_pos) flags (four_before (cast_unsigned w32 cookie.dec_flags) fed feeds))

-- a cookie that is in range is read from its bytes
cookie_read : (cookie : TextIOCookie) → FitFields cookie → cookie_of (cookie_bytes (cookie_shown cookie)) ≡ cookie_shown cookie
cookie_read cookie fit = cookie_back (cookie_shown cookie) (record {
  start_pos = fit.start_pos;
  dec_flags = fit.dec_flags;
  bytes_to_feed = fit.bytes_to_feed;
  chars_to_skip = fit.chars_to_skip;
  bytes_to_skip = fit.bytes_to_skip;
})

-- the cookie that is shown so
unshown : seen.Cookie → TextIOCookie
unshown cookie = record {
  start_pos = cookie.start_pos;
  dec_flags = cookie.dec_flags;
  bytes_to_feed = cookie.bytes_to_feed;
  chars_to_skip = cookie.chars_to_skip;
  need_eof = cookie.need_eof;
  bytes_to_skip = cookie.bytes_to_skip;
}

-- what is shown of a cookie tells it
shown_same : (a b : TextIOCookie) → cookie_shown a ≡ cookie_shown b → a ≡ b
unfolding unshown
shown_same a b same = ap unshown same

-- a reply alike to a cookie is that cookie
cookie_same : (cookie : TextIOCookie) (b : Reply) → Alike (Cookie cookie) b → Cookie cookie ≡ b
unfolding kind
cookie_same x (Cookie y) alike =
    let texts = one_word_same (hex_of (cookie_bytes (cookie_shown x))) (hex_of (cookie_bytes (cookie_shown y))) alike.rests in
    let bytes : cookie_bytes (cookie_shown x) ≡ cookie_bytes (cookie_shown y) = hex_same _ _ (cookie_small (cookie_shown x)) (cookie_small (cookie_shown y)) texts in
    ap Cookie (shown_same x y (sym (cookie_read x alike.range_a) ∙ ap cookie_of bytes ∙ cookie_read y alike.range_b))
cookie_same x b alike = absurd (omega (arith, alike.kinds))

-- a reply alike to done is done
done_same : (b : Reply) → Alike Done b → Done ≡ b
unfolding kind
done_same Done alike = refl
done_same b alike = absurd (omega (arith, alike.kinds))

-- a reply alike to not ready is not ready
not_ready_same : (b : Reply) → Alike NotReady b → NotReady ≡ b
unfolding kind
not_ready_same NotReady alike = refl
not_ready_same b alike = absurd (omega (arith, alike.kinds))

-- the words of yes and no differ
flags_same : (x y : Bool) → reply_word (Flag x) ≡ reply_word (Flag y) → x ≡ y
flags_same true true words = refl
flags_same true false words = absurd (omega (arith, ap (λ word. get_or word 0 0) words))
flags_same false true words = absurd (omega (arith, ap (λ word. get_or word 0 0) words))
flags_same false false words = refl

flag_same : (value : Bool) (b : Reply) → Alike (Flag value) b → Flag value ≡ b
unfolding kind
flag_same x (Flag y) alike = ap Flag (flags_same x y alike.words)
flag_same x b alike = absurd (omega (arith, alike.kinds))

-- a reply alike to a name, whatever that holds, is that name
name_same : (name : List ℕ) (b : Reply) → Alike (Name name) b → Name name ≡ b
unfolding kind
name_same x (Name y) alike = ap Name (encodes_same x y (one_word_same (encode_utf8_all x) (encode_utf8_all y) alike.rests))
name_same x b alike = absurd (omega (arith, alike.kinds))

-- the words of bytes that are not known to be written, and of their place
unwritten_words : (bytes : List ℕ) (place : Option ℕ) → IsInRange (Unwritten bytes place) → AreWords (reply_fields (Unwritten bytes place))
unwritten_words bytes place range = (hex_word bytes, (place_word place range.1, tt))

unwritten_parts : (x y : List ℕ) (p q : Option ℕ) → IsInRange (Unwritten x p) → IsInRange (Unwritten y q) → rest (Unwritten x p) ≡ rest (Unwritten y q) → Unwritten x p ≡ Unwritten y q
unwritten_parts x y p q range_a range_b rests =
    let fields : reply_fields (Unwritten x p) ≡ reply_fields (Unwritten y q) = rest_of_line_same (reply_fields (Unwritten x p)) (reply_fields (Unwritten y q)) (unwritten_words x p range_a) (unwritten_words y q range_b) rests in
    let hexes : hex_of x ≡ hex_of y = cc in
    let texts : place_of p ≡ place_of q = cc in
    let bytes : x ≡ y = hex_same x y range_a.0 range_b.0 hexes in
    let places : p ≡ q = place_same p q range_a.1 range_b.1 texts in
    cc

unwritten_same : (bytes : List ℕ) (place : Option ℕ) (b : Reply) → Alike (Unwritten bytes place) b → Unwritten bytes place ≡ b
unfolding kind
unwritten_same x p (Unwritten y q) alike = unwritten_parts x y p q alike.range_a alike.range_b alike.rests
unwritten_same x p b alike = absurd (omega (arith, alike.kinds))

-- a reply alike to a refusal is that refusal
refused_same : (fault : IoFault) (b : Reply) → Alike (Refused fault) b → Refused fault ≡ b
unfolding kind
refused_same f (Refused g) alike =
    ap Refused (fault_same f g alike.range_a alike.range_b (rest_of_line_same (reply_fields (Refused f)) (reply_fields (Refused g)) (fault_words f alike.range_a) (fault_words g alike.range_b) alike.rests))
refused_same f b alike = absurd (omega (arith, alike.kinds))

-- two replies of one kind whose lines go on alike are the same
same_from_alike : (a b : Reply) → Alike a b → a ≡ b
same_from_alike (Bytes bytes) b alike = bytes_same bytes b alike
same_from_alike (Text text) b alike = text_same text b alike
same_from_alike (Lines lines) b alike = lines_same lines b alike
same_from_alike (Count count) b alike = count_same count b alike
same_from_alike (Place place) b alike = place_reply_same place b alike
same_from_alike (Cookie cookie) b alike = cookie_same cookie b alike
same_from_alike Done b alike = done_same b alike
same_from_alike NotReady b alike = not_ready_same b alike
same_from_alike (Flag value) b alike = flag_same value b alike
same_from_alike (Name name) b alike = name_same name b alike
same_from_alike (Unwritten bytes place) b alike = unwritten_same bytes place b alike
same_from_alike (Refused fault) b alike = refused_same fault b alike

-- a reply's line is its first word, and what follows that
line_parts : (reply : Reply) → reply_line reply ≡ reply_word reply ++ rest reply
line_parts reply = append_assoc (reply_word reply) (spaced (reply_fields reply)) (10 ∷ [])

-- a reply's line tells it
pub same_from_line : (a b : Reply) → IsInRange a → IsInRange b → reply_line a ≡ reply_line b → a ≡ b
same_from_line a b range_a range_b lines =
    let apart : reply_word a ++ rest a ≡ reply_word b ++ rest b = sym (line_parts a) ∙ lines ∙ line_parts b in
    let parts : (reply_word a ≡ reply_word b) × (rest a ≡ rest b) = cut (reply_word a) (reply_word b) (rest a) (rest b) (reply_word_word a) (reply_word_word b) (rest_ends_word (reply_fields a)) (rest_ends_word (reply_fields b)) apart in
    same_from_alike a b (record {
      range_a = range_a;
      range_b = range_b;
      words = parts.0;
      kinds = sym (kind_of_word a) ∙ ap kind_of parts.0 ∙ kind_of_word b;
      rests = parts.1;
    })
