-- A refused range stands among the bytes in hand, and comes of a call that asks for some character.
use Rattle.std.proofs.Common.{◌≡◌, ◌≢◌, ℕ, zero, suc, ◌+◌, ◌<◌, ◌≤◌, ◌||◌, not, nat_le, if◌then◌else◌, Bool, true, false, List, [], ◌∷◌, length, take, nat_eq, Option, Some, None, IfSome, refl, sym, ap, ◌∙◌, arith}
use Rattle.std.proofs.lemmas.Bool.{le-leb, ltb-true}
use Rattle.std.proofs.lemmas.Bool.Decides.{nat_tests}
use Rattle.std.proofs.lemmas.List.{append-nil}
use Rattle.py_flat.specs.Lines.{has_end_after, first_line, is_ended}
use Rattle.py_plain.specs.declared.encoding.Encoding.{Encoding}
use Rattle.py_plain.specs.declared.encoding.Encoding.TheVariants.{Utf8, Latin1, Ascii, Utf16Le, Utf16Be}
use Rattle.py_plain.specs.declared.handler.Handler.{Handler}
use Rattle.py_plain.specs.declared.handler.Handler.TheVariants.{Strict, Ignore, Replace, XmlCharRefReplace, BackslashReplace, SurrogatePass, SurrogateEscape}
use Rattle.py_plain.specs.declared.newlines.Newlines.{Newlines}
use Rattle.py_plain.specs.declared.unit.Unit.{Unit as Read}
use Rattle.py_plain.specs.declared.unit.Unit.TheVariants.{Character, Malformed, Cut}
use Rattle.py_plain.specs.Units.{Order, first_unit, order_after}
use Rattle.py_plain.specs.UnitLaws.{IsWithin}
use Rattle.py_plain.specs.OneByte.{is_ascii}
use Rattle.py_plain.specs.Utf8.{Lead, Alone, Leads, Never, lead, sequence, unit_after}
use Rattle.py_plain.specs.Handlers.{Handled, Replaced, Refuses, Treatment, front_past_ascii, escaped, treatment}
use Rattle.py_plain.specs.Items.{FirstItem, Given, RefusedRange, Unfinished, AtRange, Walk, item_handled, item_of, first_item, used_behind, onto_walk, walk_from}
use Rattle.py_plain.specs.Pieces.{walk_at}
use Rattle.py_plain.specs.NewlineRule.{line_end}
use Rattle.py_plain.proofs.AnyUnits.{unit_within_any}
use Rattle.py_plain.proofs.Rows.{lead-ascii}
use Rattle.py_plain_text.specs.TextStep.{asks_any}
use Rattle.py_held_text.specs.declared.wanted.Wanted.{Wanted}
use Rattle.py_held_text.specs.declared.wanted.Wanted.TheVariants.{Characters, Line}
use Rattle.py_held_text.specs.Held.{HeldView}
use Rattle.py_held_text.specs.Finding.{enough_before}
use Rattle.py_read_text.specs.Answers.{may_refuse}
use Rattle.py_read_text.specs.Knowing.{TextView}
use Rattle.py_read_text.specs.Reading.{Coming, size_of, RefusesAt, RangeInHand}

-- Where a walk is refused.

handled : (size n : ℕ) (own : Handled) → item_handled size own ≡ RefusedRange n → size ≡ n
handled size n (Replaced characters used) is = absurd (cc)
handled size n Refuses is = cc

item_range : (treat : Treatment) (last : Bool) (place left n : ℕ) (bytes : List ℕ) (unit : Option Read) → IfSome unit (λ whole. IsWithin whole left) → item_of treat last place bytes unit ≡ RefusedRange n → (1 ≤ n) × (n ≤ left)
item_range treat last place left n bytes None within is = absurd (cc)
item_range treat last place left n bytes (Some (Character c m)) within is = absurd (cc)
item_range treat last place left n bytes (Some (Malformed m)) within is =
    let size : m ≡ n = handled m n (treat place bytes m) is in
    (omega (arith, within.0, size), omega (arith, within.1, size))
item_range treat true place left n bytes (Some (Cut m)) within is =
    let size : m ≡ n = handled m n (treat place bytes m) is in
    (omega (arith, within.0, size), omega (arith, within.1, size))
item_range treat false place left n bytes (Some (Cut m)) within is = absurd (cc)

-- a range that has bytes stands within some at a place
record StandsIn (place total start end : ℕ) : Type 0 where
  forth : place ≤ start
  some : start < end
  within : end ≤ place + total

onto_range : (order : Order) (place total start end : ℕ) (first : FirstItem) (walk : Walk) → ((n : ℕ) → first ≡ RefusedRange n → (1 ≤ n) × (n ≤ total)) → (walk.ending ≡ AtRange start end → StandsIn place total start end) → (onto_walk order place first walk).ending ≡ AtRange start end → StandsIn place total start end
onto_range order place total start end (Given characters used) walk here behind is = behind is
onto_range order place total start end (RefusedRange n) walk here behind is =
    let begins : place ≡ start = cc in
    let stops : place + n ≡ end = cc in
    let size = here n refl in
    record { forth = omega (arith, begins); some = omega (arith, begins, stops, size.0); within = omega (arith, stops, size.1) }
onto_range order place total start end Unfinished walk here behind is = absurd (cc)

stands_in : (encoding : Encoding) (treat : Treatment) (last : Bool) (order : Order) (place skip : ℕ) (bytes : List ℕ) (start end : ℕ) → (walk_from encoding treat last order place skip bytes).ending ≡ AtRange start end → StandsIn place (length bytes) start end
stands_in encoding treat last order place skip [] start end is = absurd (cc)
stands_in encoding treat last order place (suc skip) (byte ∷ rest) start end is =
    let behind : StandsIn (place + 1) (length rest) start end = stands_in encoding treat last order (place + 1) skip rest start end is in
    record { forth = omega (arith, behind.forth); some = behind.some; within = omega (arith, behind.within) }
stands_in encoding treat last order place zero (byte ∷ rest) start end is =
    let bytes : List ℕ = byte ∷ rest in
    let unit : Option Read = first_unit encoding order (nat_eq place 0) bytes in
    let first : FirstItem = first_item encoding treat last order place bytes in
    let next : Order = order_after encoding order unit in
    onto_range order place (length bytes) start end first (walk_from encoding treat last next (place + 1) (used_behind first) rest)
    (λ n refused. item_range treat last place (length bytes) n bytes unit (unit_within_any encoding order (nat_eq place 0) bytes) refused)
    (λ ending. let behind : StandsIn (place + 1) (length rest) start end = stands_in encoding treat last next (place + 1) (used_behind first) rest start end ending in record { forth = omega (arith, behind.forth); some = behind.some; within = omega (arith, behind.within) })
    is

-- Which handlers refuse none.

-- a unit that is no character is replaced
abbrev Replaces : Treatment → Read → (place : ℕ) → List ℕ → Type 0
Replaces treat (Character c m) place bytes = Unit {0}
Replaces treat (Malformed m) place bytes = treat place bytes m ≢ Refuses
Replaces treat (Cut m) place bytes = treat place bytes m ≢ Refuses

not_handled : (size n : ℕ) (own : Handled) → own ≢ Refuses → item_handled size own ≢ RefusedRange n
not_handled size n (Replaced characters used) replaces is = absurd (cc)
not_handled size n Refuses replaces is = replaces refl

not_refused : (treat : Treatment) (last : Bool) (place n : ℕ) (bytes : List ℕ) (unit : Option Read) → IfSome unit (λ whole. Replaces treat whole place bytes) → item_of treat last place bytes unit ≢ RefusedRange n
not_refused treat last place n bytes None replaces is = absurd (cc)
not_refused treat last place n bytes (Some (Character c m)) replaces is = absurd (cc)
not_refused treat last place n bytes (Some (Malformed m)) replaces is = not_handled m n (treat place bytes m) replaces is
not_refused treat true place n bytes (Some (Cut m)) replaces is = not_handled m n (treat place bytes m) replaces is
not_refused treat false place n bytes (Some (Cut m)) replaces is = absurd (cc)

-- a treatment that refuses nothing
always : (treat : Treatment) → ((place : ℕ) (bytes : List ℕ) (size : ℕ) → treat place bytes size ≢ Refuses) → (place : ℕ) (bytes : List ℕ) (unit : Option Read) → IfSome unit (λ whole. Replaces treat whole place bytes)
always treat never place bytes None = tt
always treat never place bytes (Some (Character c m)) = tt
always treat never place bytes (Some (Malformed m)) = never place bytes m
always treat never place bytes (Some (Cut m)) = never place bytes m

-- a range that begins with no ASCII byte is escaped
escapes : (ascii : Bool) (byte : ℕ) (rest : List ℕ) → ascii ≡ false → escaped (if ascii then [] else byte ∷ rest) ≢ Refuses
escapes true byte rest other is = absurd (cc)
escapes false byte rest other is = absurd (cc)

escapes_front : (byte size : ℕ) (rest : List ℕ) → is_ascii byte ≡ false → 1 ≤ size → escaped (front_past_ascii (take size (byte ∷ rest))) ≢ Refuses
escapes_front byte zero rest other some is = absurd (omega (arith, some))
escapes_front byte (suc size) rest other some is = escapes (is_ascii byte) byte (front_past_ascii (take size rest)) other is

one_byte : (ascii : Bool) (encoding : Encoding) (byte place : ℕ) (rest : List ℕ) → is_ascii byte ≡ ascii → Replaces (treatment SurrogateEscape encoding) (if ascii then Character byte 1 else Malformed 1) place (byte ∷ rest)
one_byte true encoding byte place rest is = tt
one_byte false encoding byte place rest is = escapes_front byte 1 rest is (omega arith)

-- a first byte that is ASCII is a character by itself
no_ascii : (byte : ℕ) (led : Lead) → lead byte ≡ led → led ≢ Alone → (ascii : Bool) → is_ascii byte ≡ ascii → ascii ≡ false
unfolding is_ascii
no_ascii byte led is other false tested = refl
no_ascii byte led is other true tested = absurd (other (sym is ∙ lead-ascii byte (omega arith) (omega (arith, ltb-true byte 0x80 tested))))

replaces_long : (encoding : Encoding) (byte place : ℕ) (rest : List ℕ) (unit : Read) → is_ascii byte ≡ false → IsWithin unit (length (byte ∷ rest)) → Replaces (treatment SurrogateEscape encoding) unit place (byte ∷ rest)
replaces_long encoding byte place rest (Character c m) other within = tt
replaces_long encoding byte place rest (Malformed m) other within = escapes_front byte m rest other within.0
replaces_long encoding byte place rest (Cut m) other within = escapes_front byte m rest other within.0

utf8_led : (byte place : ℕ) (rest : List ℕ) (led : Lead) → lead byte ≡ led → IsWithin (unit_after byte led rest) (length (byte ∷ rest)) → Replaces (treatment SurrogateEscape Utf8) (unit_after byte led rest) place (byte ∷ rest)
utf8_led byte place rest Alone is within = tt
utf8_led byte place rest (Leads follow low high bits) is within = replaces_long Utf8 byte place rest (sequence 1 follow low high bits rest) (no_ascii byte (Leads follow low high bits) is (λ same. absurd (cc)) (is_ascii byte) refl) within
utf8_led byte place rest Never is within = replaces_long Utf8 byte place rest (Malformed 1) (no_ascii byte Never is (λ same. absurd (cc)) (is_ascii byte) refl) within

escape_replaces : (encoding : Encoding) (order : Order) (at_start : Bool) (place : ℕ) (bytes : List ℕ) → may_refuse encoding SurrogateEscape ≡ false → IfSome (first_unit encoding order at_start bytes) (λ whole. Replaces (treatment SurrogateEscape encoding) whole place bytes)
escape_replaces Utf8 order at_start place [] never = tt
escape_replaces Utf8 order at_start place (byte ∷ rest) never = utf8_led byte place rest (lead byte) refl (unit_within_any Utf8 order at_start (byte ∷ rest))
escape_replaces Latin1 order at_start place [] never = tt
escape_replaces Latin1 order at_start place (byte ∷ rest) never = tt
escape_replaces Ascii order at_start place [] never = tt
escape_replaces Ascii order at_start place (byte ∷ rest) never = one_byte (is_ascii byte) Ascii byte place rest refl
escape_replaces Utf16Le order at_start place bytes never = absurd (cc)
escape_replaces Utf16Be order at_start place bytes never = absurd (cc)

latin_replaces : (treat : Treatment) (encoding : Encoding) (order : Order) (at_start : Bool) (place : ℕ) (bytes : List ℕ) → encoding ≡ Latin1 → IfSome (first_unit encoding order at_start bytes) (λ whole. Replaces treat whole place bytes)
latin_replaces treat Latin1 order at_start place [] is = tt
latin_replaces treat Latin1 order at_start place (byte ∷ rest) is = tt
latin_replaces treat Utf8 order at_start place bytes is = absurd (cc)
latin_replaces treat Ascii order at_start place bytes is = absurd (cc)
latin_replaces treat Utf16Le order at_start place bytes is = absurd (cc)
latin_replaces treat Utf16Be order at_start place bytes is = absurd (cc)

is_latin : (handler : Handler) → ((encoding : Encoding) → encoding ≢ Latin1 → may_refuse encoding handler ≡ true) → (encoding : Encoding) → may_refuse encoding handler ≡ false → encoding ≡ Latin1
is_latin handler others Latin1 never = refl
is_latin handler others Utf8 never = let may = others Utf8 (λ is. absurd (cc)) in absurd (cc)
is_latin handler others Ascii never = let may = others Ascii (λ is. absurd (cc)) in absurd (cc)
is_latin handler others Utf16Le never = let may = others Utf16Le (λ is. absurd (cc)) in absurd (cc)
is_latin handler others Utf16Be never = let may = others Utf16Be (λ is. absurd (cc)) in absurd (cc)

may_strict : (encoding : Encoding) → encoding ≢ Latin1 → may_refuse encoding Strict ≡ true
may_strict Latin1 other = absurd (other refl)
may_strict Utf8 other = refl
may_strict Ascii other = refl
may_strict Utf16Le other = refl
may_strict Utf16Be other = refl

may_references : (encoding : Encoding) → encoding ≢ Latin1 → may_refuse encoding XmlCharRefReplace ≡ true
may_references Latin1 other = absurd (other refl)
may_references Utf8 other = refl
may_references Ascii other = refl
may_references Utf16Le other = refl
may_references Utf16Be other = refl

may_pass : (encoding : Encoding) → encoding ≢ Latin1 → may_refuse encoding SurrogatePass ≡ true
may_pass Latin1 other = absurd (other refl)
may_pass Utf8 other = refl
may_pass Ascii other = refl
may_pass Utf16Le other = refl
may_pass Utf16Be other = refl

-- a handler that may refuse nothing in an encoding replaces what is no character
replaces : (encoding : Encoding) (handler : Handler) (order : Order) (at_start : Bool) (place : ℕ) (bytes : List ℕ) → may_refuse encoding handler ≡ false → IfSome (first_unit encoding order at_start bytes) (λ whole. Replaces (treatment handler encoding) whole place bytes)
replaces encoding Strict order at_start place bytes never = latin_replaces (treatment Strict encoding) encoding order at_start place bytes (is_latin Strict may_strict encoding never)
replaces encoding Ignore order at_start place bytes never = always (treatment Ignore encoding) (λ own some size is. absurd (cc)) place bytes (first_unit encoding order at_start bytes)
replaces encoding Replace order at_start place bytes never = always (treatment Replace encoding) (λ own some size is. absurd (cc)) place bytes (first_unit encoding order at_start bytes)
replaces encoding XmlCharRefReplace order at_start place bytes never = latin_replaces (treatment XmlCharRefReplace encoding) encoding order at_start place bytes (is_latin XmlCharRefReplace may_references encoding never)
replaces encoding BackslashReplace order at_start place bytes never = always (treatment BackslashReplace encoding) (λ own some size is. absurd (cc)) place bytes (first_unit encoding order at_start bytes)
replaces encoding SurrogatePass order at_start place bytes never = latin_replaces (treatment SurrogatePass encoding) encoding order at_start place bytes (is_latin SurrogatePass may_pass encoding never)
replaces encoding SurrogateEscape order at_start place bytes never = escape_replaces encoding order at_start place bytes never

onto_never : (order : Order) (place start end : ℕ) (first : FirstItem) (walk : Walk) → ((n : ℕ) → first ≢ RefusedRange n) → walk.ending ≢ AtRange start end → (onto_walk order place first walk).ending ≢ AtRange start end
onto_never order place start end (Given characters used) walk here behind is = behind is
onto_never order place start end (RefusedRange n) walk here behind is = here n refl
onto_never order place start end Unfinished walk here behind is = absurd (cc)

-- so a walk by it ends at no refused range
ends_never : (encoding : Encoding) (handler : Handler) → may_refuse encoding handler ≡ false → (last : Bool) (order : Order) (place skip : ℕ) (bytes : List ℕ) (start end : ℕ) → (walk_from encoding (treatment handler encoding) last order place skip bytes).ending ≢ AtRange start end
ends_never encoding handler never last order place skip [] start end is = absurd (cc)
ends_never encoding handler never last order place (suc skip) (byte ∷ rest) start end is = ends_never encoding handler never last order (place + 1) skip rest start end is
ends_never encoding handler never last order place zero (byte ∷ rest) start end is =
    let bytes : List ℕ = byte ∷ rest in
    let unit : Option Read = first_unit encoding order (nat_eq place 0) bytes in
    let treat : Treatment = treatment handler encoding in
    let first : FirstItem = first_item encoding treat last order place bytes in
    let next : Order = order_after encoding order unit in
    onto_never order place start end first (walk_from encoding treat last next (place + 1) (used_behind first) rest)
    (λ n refused. not_refused treat last place n bytes unit (replaces encoding handler order (nat_eq place 0) place bytes never) refused)
    (λ ending. ends_never encoding handler never last next (place + 1) (used_behind first) rest start end ending)
    is

refused_by : (may : Bool) (encoding : Encoding) (handler : Handler) (order : Order) (place : ℕ) (bytes : List ℕ) (start end : ℕ) → may_refuse encoding handler ≡ may → (walk_from encoding (treatment handler encoding) true order place 0 bytes).ending ≡ AtRange start end → may ≡ true
refused_by true encoding handler order place bytes start end is ending = refl
refused_by false encoding handler order place bytes start end is ending = absurd (ends_never encoding handler is true order place 0 bytes start end ending)

-- a range that is refused next is one of the bytes in hand
pub in_hand : (text : TextView) (last : Bool) (start end : ℕ) → RefusesAt (Coming last) text.held (start, end) → RangeInHand text start end
in_hand text last start end refuses =
    let held : HeldView = text.held in
    let treat : Treatment = treatment held.handler held.encoding in
    let here = ap (λ (bytes : List ℕ). (walk_at held.encoding treat true held.order held.place bytes).ending) (append-nil held.bytes) in
    let ending : (walk_at held.encoding treat true held.order held.place held.bytes).ending ≡ AtRange start end = sym here ∙ ap (λ (walk : Walk). walk.ending) (refuses.next [] (λ is. refl)) in
    let stands = stands_in held.encoding treat true held.order held.place 0 held.bytes start end ending in
    record { forth = stands.forth; some = stands.some; within = stands.within; refuses = refused_by (may_refuse held.encoding held.handler) held.encoding held.handler held.order held.place held.bytes start end refl ending }

-- What is asked for.

some_size : (fits : Bool) (size : ℕ) → fits ≡ true → (if fits then Some size else None) ≡ None → ⊥
some_size true size is none = absurd (cc)
some_size false size is none = absurd (cc)

or_true : (own other : Bool) → other ≡ true → own || other ≡ true
or_true true other is = refl
or_true false other is = is

some_more : (size : ℕ) → nat_eq (suc size) 0 ≡ false
some_more size = grind (arith, nat_tests)

-- what isn't answered before a refused range asks for some character
pub asks_past_range : (asked : Wanted) (rule : Newlines) (known : List ℕ) → enough_before asked rule known ≡ None → asks_any (size_of asked) ≡ true
asks_past_range (Characters None) rule known none = refl
asks_past_range (Characters (Some zero)) rule known none = absurd (some_size (nat_le 0 (length known)) 0 (le-leb 0 (length known) (omega arith)) none)
asks_past_range (Characters (Some (suc size))) rule known none = ap not (some_more size)
asks_past_range (Line None) rule known none = refl
asks_past_range (Line (Some zero)) rule known none = absurd (some_size (is_ended (line_end rule) (Some 0) known) (length (first_line (line_end rule) (Some 0) known)) (or_true (has_end_after (line_end rule) false known) (nat_le 0 (length known)) (le-leb 0 (length known) (omega arith))) none)
asks_past_range (Line (Some (suc size))) rule known none = ap not (some_more size)
