-- How many characters a decoding gives for its bytes: at most six for each.
use Rattle.std.proofs.Common.{◌≡◌, ℕ, zero, suc, ◌+◌, ◌-◌, ◌*◌, ◌<◌, ◌≤◌, Bool, true, false, nat_eq, nat_lt, if◌then◌else◌, List, [], ◌∷◌, ◌++◌, length as len, get_or, take, codes, decimal, Option, Some, None, IfSome, refl, ap, arith}
use Rattle.std.specs.Bool.{⊤}
use Rattle.std.proofs.Math.Nat.{mul-suc}
use Rattle.std.proofs.lemmas.Bool.{cond-true, lt-ltb}
use Rattle.std.proofs.lemmas.Fmt.{length-decimal-le}
use Rattle.std.proofs.lemmas.List.{length-append, length-take}
use Rattle.std.proofs.lemmas.List.Elements.{All-nil, All-cons, All-head, All-tail}
use Rattle.py_plain.specs.declared.encoding.Encoding.{Encoding}
use Rattle.py_plain.specs.declared.handler.Handler.{Handler}
use Rattle.py_plain.specs.declared.handler.Handler.TheVariants.{Strict, Ignore, Replace, XmlCharRefReplace, BackslashReplace, SurrogatePass, SurrogateEscape}
use Rattle.py_plain.specs.declared.unit.Unit.{Unit as Read}
use Rattle.py_plain.specs.declared.unit.Unit.TheVariants.{Character, Malformed, Cut}
use Rattle.py_plain.specs.OneByte.{is_ascii}
use Rattle.py_plain.specs.Escapes.{hex_digits, backslash_escape, surrogate_escape, each_spelled}
use Rattle.py_plain.specs.Units.{Order, first_unit, order_after}
use Rattle.py_plain.specs.UnitLaws.{IsWithin, AreBytes}
use Rattle.py_plain.specs.Handlers.{Replaced, Treatment, treatment, reads_texts, front_past_ascii, escaped}
use Rattle.py_plain.specs.Items.{FirstItem, Given, RefusedRange, Unfinished, item_of, first_item, used_behind, Item, Walk, onto_walk, walk_from, characters_of}
use Rattle.py_plain.proofs.AnyUnits.{unit_within_any}
use Rattle.py_plain.proofs.Items.{handled_given, cut_given}
use Rattle.py_plain.proofs.Looking.{escaped_whole}
use Rattle.py_codec.specs.Front.{items_for, bytes_in}

-- What stands for a refused range.

-- a treatment gives at most six characters for each byte that it uses
abbrev IsFew : Treatment → Type 0
IsFew treat = (place size : ℕ) (rest characters : List ℕ) (used : ℕ) → 1 ≤ size → AreBytes rest → treat place rest size ≡ Replaced characters used → len characters ≤ 6 * used

abbrev is-byte : ℕ → Type 0
is-byte byte = byte < 0x100

taken-bytes : (size : ℕ) (bytes : List ℕ) → AreBytes bytes → AreBytes (take size bytes)
taken-bytes zero bytes all = All-nil is-byte
taken-bytes (suc size) [] all = All-nil is-byte
taken-bytes (suc size) (byte ∷ rest) all = All-cons is-byte byte (take size rest) (All-head is-byte byte rest all) (taken-bytes size rest (All-tail is-byte byte rest all))

past-bytes-by : (ascii : Bool) (byte : ℕ) (rest : List ℕ) → byte < 0x100 → AreBytes rest → AreBytes (if ascii then [] else byte ∷ rest)
past-bytes-by true byte rest low all = All-nil is-byte
past-bytes-by false byte rest low all = All-cons is-byte byte rest low all

past-bytes : (bytes : List ℕ) → AreBytes bytes → AreBytes (front_past_ascii bytes)
past-bytes [] all = All-nil is-byte
past-bytes (byte ∷ rest) all = past-bytes-by (is_ascii byte) byte (front_past_ascii rest) (All-head is-byte byte rest all) (past-bytes rest (All-tail is-byte byte rest all))

-- each byte is spelled with few characters
each-few : (spell : ℕ → List ℕ) (most : ℕ) → ((byte : ℕ) → byte < 0x100 → len (spell byte) ≤ most) → (bytes : List ℕ) → AreBytes bytes → len (each_spelled spell bytes) ≤ most * len bytes
each-few spell most few [] all = omega arith
each-few spell most few (byte ∷ rest) all =
    let more : most * suc (len rest) ≡ most * len rest + most = mul-suc most (len rest) in
    omega (arith, more, few byte (All-head is-byte byte rest all), each-few spell most few rest (All-tail is-byte byte rest all), length-append (spell byte) (each_spelled spell rest))

backslash-few : (byte : ℕ) → byte < 0x100 → len (backslash_escape byte) ≤ 4
backslash-few byte low =
    let short : backslash_escape byte ≡ codes "\\x" ++ hex_digits 2 byte = cond-true (nat_lt byte 0x100) _ _ (lt-ltb byte 0x100 low) in
    omega (arith, ap (λ (t : List ℕ). len t) short)

surrogate-few : (byte : ℕ) → byte < 0x100 → len (surrogate_escape byte) ≤ 6
surrogate-few byte low =
    let short : len (decimal (0xDC00 + byte)) ≤ 5 = length-decimal-le 5 (0xDC00 + byte) (omega arith) (omega (arith, low)) (omega (arith, low)) in
    omega (arith, short, length-append (codes "#") (decimal (0xDC00 + byte)))

escaped-few : (bytes characters : List ℕ) (used : ℕ) → AreBytes bytes → escaped bytes ≡ Replaced characters used → len characters ≤ 6 * used
escaped-few [] characters used all is = absurd (cc)
escaped-few (byte ∷ rest) characters used all is =
    let whole : used ≡ len (byte ∷ rest) = escaped_whole (byte ∷ rest) characters used is in
    let same : each_spelled surrogate_escape (byte ∷ rest) ≡ characters = cc in
    omega (arith, whole, ap (λ (t : List ℕ). len t) same, each-few surrogate_escape 6 surrogate-few (byte ∷ rest) all)

handler-few : (handler : Handler) (encoding : Encoding) → reads_texts handler ≡ true → IsFew (treatment handler encoding)
handler-few Strict encoding reads place size rest characters used some all is = absurd (cc)
handler-few Ignore encoding reads place size rest characters used some all is =
    let same : [] ≡ characters = cc in
    omega (arith, ap (λ (t : List ℕ). len t) same)
handler-few Replace encoding reads place size rest characters used some all is =
    let same : 0xFFFD ∷ [] ≡ characters = cc in
    let whole : size ≡ used = cc in
    omega (arith, some, whole, ap (λ (t : List ℕ). len t) same)
handler-few XmlCharRefReplace encoding reads place size rest characters used some all is = absurd (cc)
handler-few BackslashReplace encoding reads place size rest characters used some all is =
    let same : each_spelled backslash_escape (take size rest) ≡ characters = cc in
    let whole : size ≡ used = cc in
    omega (arith, whole, ap (λ (t : List ℕ). len t) same, each-few backslash_escape 4 backslash-few (take size rest) (taken-bytes size rest all), length-take size rest)
handler-few SurrogatePass encoding reads place size rest characters used some all is = absurd (cc)
handler-few SurrogateEscape encoding reads place size rest characters used some all is =
    escaped-few (front_past_ascii (take size rest)) characters used (past-bytes (take size rest) (taken-bytes size rest all)) is

-- A walk.

item-few : (treat : Treatment) (last : Bool) (place left : ℕ) (bytes : List ℕ) (unit : Option Read) (characters : List ℕ) (used : ℕ) → IsFew treat → AreBytes bytes → IfSome unit (λ whole. IsWithin whole left) → item_of treat last place bytes unit ≡ Given characters used → len characters ≤ 6 * used
item-few treat last place left bytes None characters used few all within is = absurd (cc)
item-few treat last place left bytes (Some (Character c n)) characters used few all within is =
    let whole : n ≡ used = cc in
    let same : c ∷ [] ≡ characters = cc in
    omega (arith, whole, within.0, ap (λ (t : List ℕ). len t) same)
item-few treat last place left bytes (Some (Malformed n)) characters used few all within is =
    few place n bytes characters used within.0 all (handled_given n (treat place bytes n) characters used is)
item-few treat last place left bytes (Some (Cut n)) characters used few all within is =
    few place n bytes characters used within.0 all (cut_given last n (treat place bytes n) characters used is)

-- each of some items has few
abbrev AllFew : List Item → Type 0
AllFew [] = ⊤
AllFew (item ∷ items) = (len item.characters ≤ 6 * item.length) × AllFew items

onto-few : (order : Order) (place : ℕ) (first : FirstItem) (walk : Walk) → ((characters : List ℕ) (used : ℕ) → first ≡ Given characters used → len characters ≤ 6 * used) → AllFew walk.items → AllFew (onto_walk order place first walk).items
onto-few order place (Given characters used) walk here behind = (here characters used refl, behind)
onto-few order place (RefusedRange size) walk here behind = tt
onto-few order place Unfinished walk here behind = tt

walk-few : (encoding : Encoding) (treat : Treatment) (last : Bool) (order : Order) (place skip : ℕ) (bytes : List ℕ) → IsFew treat → AreBytes bytes → AllFew (walk_from encoding treat last order place skip bytes).items
walk-few encoding treat last order place skip [] few all = tt
walk-few encoding treat last order place (suc skip) (byte ∷ rest) few all = walk-few encoding treat last order (place + 1) skip rest few (All-tail is-byte byte rest all)
walk-few encoding treat last order place zero (byte ∷ rest) few all =
    let at_start = nat_eq place 0 in
    let bytes : List ℕ = byte ∷ rest in
    let first : FirstItem = first_item encoding treat last order place bytes in
    let next : Order = order_after encoding order (first_unit encoding order at_start bytes) in
    onto-few order place first (walk_from encoding treat last next (place + 1) (used_behind first) rest)
    (λ characters used is. item-few treat last place (len bytes) bytes (first_unit encoding order at_start bytes) characters used few all (unit_within_any encoding order at_start bytes) is)
    (walk-few encoding treat last next (place + 1) (used_behind first) rest few (All-tail is-byte byte rest all))

-- a front of such items has few
few-for : (want : ℕ) (items : List Item) → AllFew items → len (characters_of (items_for want items)) ≤ 6 * bytes_in (items_for want items)
few-for zero items all = omega arith
few-for (suc more) [] all = omega arith
few-for (suc more) (item ∷ items) all =
    let missing : ℕ = suc more - len item.characters in
    omega (arith, all.0, few-for missing items all.1, length-append item.characters (characters_of (items_for missing items)))

-- the front of a decoding by a handler that texts are read with
pub decoded-few : (handler : Handler) (encoding : Encoding) → reads_texts handler ≡ true → (last : Bool) (order : Order) (place : ℕ) (bytes : List ℕ) → AreBytes bytes → (want : ℕ) → len (characters_of (items_for want (walk_from encoding (treatment handler encoding) last order place 0 bytes).items)) ≤ 6 * bytes_in (items_for want (walk_from encoding (treatment handler encoding) last order place 0 bytes).items)
decoded-few handler encoding reads last order place bytes all want =
    few-for want (walk_from encoding (treatment handler encoding) last order place 0 bytes).items (walk-few encoding (treatment handler encoding) last order place 0 bytes (handler-few handler encoding reads) all)

-- the items of a slice of bytes
pub all-bytes : (bytes : List ℕ) → ((at : ℕ) → get_or bytes at 0 < 0x100) → AreBytes bytes
all-bytes [] low = All-nil is-byte
all-bytes (byte ∷ rest) low = All-cons is-byte byte rest (low 0) (all-bytes rest (λ at. low (suc at)))
