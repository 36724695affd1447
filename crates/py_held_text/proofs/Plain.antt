-- Known text that is the bytes that are kept.
use Rattle.std.proofs.Common.{◌≡◌, ℕ, zero, suc, ◌+◌, ◌-◌, ◌*◌, ◌^◌, ◌<◌, ◌≤◌, Bool, true, false, List, [], ◌∷◌, ◌++◌, length as len, take, drop, chars, encode_utf8_all, Option, Some, None, IfSome, Result, Ok, Err, IfOk, OnOk, OnErr, String, refl, sym, ap, subst, ◌∙◌, arith, append-nil}
use Rattle.std.specs.declared.alloc.Global.{Global}
use Rattle.std.specs.Str.{IsUtf8, IsCharBoundary}
use Rattle.std.proofs.Math.Seq.{take-add}
use Rattle.std.proofs.lemmas.List.{length-append, length-drop, length-take-le, drop-drop, drop-take, drop_all, take_all, drop-append-le, take-append-le, nil_from_length}
use Rattle.std.proofs.lemmas.Str.{IsUtf8-nil, IsUtf8-append, IsUtf8-drop, IsCharBoundary-start, chars-nil, chars-append, encodes-chars}
use Rattle.py_plain.specs.declared.encoding.Encoding.{Encoding}
use Rattle.py_plain.specs.declared.encoding.Encoding.TheVariants.{Utf8}
use Rattle.py_plain.specs.declared.handler.Handler.{Handler}
use Rattle.py_plain.specs.declared.newlines.Newlines.{Newlines}
use Rattle.py_plain.specs.Handlers.{Treatment, treatment}
use Rattle.py_plain.specs.Items.{Item, AtEnd, Walk, characters_of}
use Rattle.py_plain.specs.Pieces.{items_before}
use Rattle.py_plain.specs.Units.{Unknown}
use Rattle.py_plain.specs.NewlineRule.{line_end, read_so_far, read_all, released, holds_after}
use Rattle.py_codec.specs.declared.front.FrontDecoded.{FrontDecoded}
use Rattle.py_codec.specs.declared.front.FrontStop.TheVariants as ends
use Rattle.py_codec.specs.Answers.{text_of}
use Rattle.py_codec.specs.Decoding.{walk_here}
use Rattle.py_codec.specs.Front.{items_for, bytes_in, front_stop}
use Rattle.py_codec.proofs.Passing.{Passes-run}
use Rattle.py_codec.proofs.Continuing.{here-end}
use Rattle.py_blocks.specs.declared.fronts.TextFront.{TextFront}
use Rattle.py_blocks.proofs.OwnAscii.{own_utf8}
use Rattle.py_blocks.proofs.Running.{IsRun-front}
use Rattle.py_blocks.proofs.Written.{chars_within}
use Rattle.py_text.proofs.Joining.{read-none, holds-none}
use Rattle.py_held_text.specs.declared.decoding.Decoded.{Decoded}
use Rattle.py_held_text.specs.declared.plain_text.PlainText.{PlainText}
use Rattle.py_held_text.specs.Finding.{IsFrontOf}
use Rattle.py_held_text.specs.Known.{KnownView, reading, ended, IsPart}
use Rattle.py_held_text.specs.LineSearch.{IsSearched}
use Rattle.py_held_text.specs.Plain.{plain_of, known_of, nothing_known, IsShared, IsPlainPart, IsPlainly}
use Rattle.py_held_text.proofs.Knowing.{searched-none, searched-more, last-none, IsGiven, front-given}

-- What a call answers.

pub ok-more : {T E P Q : Type 0} (result : Result T E) → (P → Q) → OnOk result P → OnOk result Q
ok-more (Ok value) more is = more is
ok-more (Err why) more is = tt

pub ok-any : {T E P : Type 0} (result : Result T E) → P → OnOk result P
ok-any (Ok value) is = is
ok-any (Err why) is = tt

pub if-text : {E : Type 0} (result : Result (String Global) E) (cs other : List ℕ) → cs ≡ other → IfOk result (λ text. text_of text ≡ cs) → IfOk result (λ text. text_of text ≡ other)
if-text (Ok text) cs other same is = is ∙ same
if-text (Err why) cs other same is = tt

-- Where the known text stands.

-- nothing of the bytes is known text
pub own-only : (own : KnownView) (size decoded : ℕ) (bytes : List ℕ) → size ≡ 0 → known_of own size decoded bytes ≡ own
own-only own size decoded bytes none =
    ap (λ (n : ℕ). known_of own n decoded bytes) none
    ∙ ap (λ (cs : List ℕ). record own { characters = cs }) (ap (λ (cs : List ℕ). own.characters ++ cs) chars-nil ∙ append-nil own.characters)

-- all of it stands in them
abbrev pub plainly_known : Newlines → List ℕ → KnownView
plainly_known newline text = record { newline = newline; characters = chars text; cr = false }

pub plain-only : (own : KnownView) (plain : PlainText) (decoded : ℕ) (bytes : List ℕ) → IsShared own plain decoded bytes → 1 ≤ plain.bytes → known_of own plain.bytes decoded bytes ≡ plainly_known own.newline (plain_of plain.bytes decoded bytes)
plain-only own plain decoded bytes shared some = ap (λ (known : KnownView). known_of known plain.bytes decoded bytes) (shared.alone some)

pub plain-length : (size decoded : ℕ) (bytes : List ℕ) → size ≤ decoded → decoded ≤ len bytes → len (plain_of size decoded bytes) ≡ size
plain-length size decoded bytes within all = length-take-le size (drop (decoded - size) bytes) (omega (arith, within, all, length-drop (decoded - size) bytes))

-- the same bytes are known text
pub shown-same : (own : KnownView) (size decoded other : ℕ) (bytes items : List ℕ) → plain_of size decoded bytes ≡ plain_of size other items → known_of own size decoded bytes ≡ known_of own size other items
shown-same own size decoded other bytes items same = ap (λ (t : List ℕ). record own { characters = own.characters ++ chars t }) same

pub shared-as : (own : KnownView) (plain : PlainText) (decoded now : ℕ) (bytes items : List ℕ) → plain.bytes ≤ now → plain_of plain.bytes now items ≡ plain_of plain.bytes decoded bytes → IsShared own plain decoded bytes → IsShared own plain now items
shared-as own plain decoded now bytes items within same shared = record {
  within = within;
  utf8 = subst IsUtf8 (sym same) shared.utf8;
  counted = shared.counted ∙ ap (λ (t : List ℕ). len (chars t)) (sym same);
  open_line = subst (λ (t : List ℕ). IsSearched (line_end own.newline) (chars t) plain.searched) (sym same) shared.open_line;
  alone = shared.alone;
}

-- none is
abbrev pub IsNone : PlainText → Type 0
IsNone plain = (plain.bytes ≡ 0) × ((plain.count ≡ 0) × (plain.searched ≡ 0))

none-is : (plain : PlainText) → IsNone plain → plain ≡ record { bytes = 0; count = 0; searched = 0 }
none-is plain none =
    ap (λ (n : ℕ). record { bytes = n; count = plain.count; searched = plain.searched }) none.0
    ∙ (ap (λ (n : ℕ). record { bytes = 0; count = n; searched = plain.searched }) none.1.0
    ∙ ap (λ (n : ℕ). record { bytes = 0; count = 0; searched = n }) none.1.1)

pub shared-none : (own : KnownView) (plain : PlainText) (decoded : ℕ) (bytes : List ℕ) → IsNone plain → IsShared own plain decoded bytes
shared-none own plain decoded bytes none = subst (λ (p : PlainText). IsShared own p decoded bytes) (sym (none-is plain none)) (record {
  within = omega arith;
  utf8 = IsUtf8-nil;
  counted = ap (λ (t : List ℕ). len t) (sym chars-nil);
  open_line = searched-none (line_end own.newline) (chars []);
  alone = λ some. absurd (omega (arith, some));
})

-- bytes before them are removed
pub plain-forgot : (size gone decoded : ℕ) (bytes now : List ℕ) → gone + size ≤ decoded → now ≡ drop gone bytes → plain_of size (decoded - gone) now ≡ plain_of size decoded bytes
plain-forgot size gone decoded bytes now within is =
    let there : gone + (decoded - gone - size) ≡ decoded - size = omega (arith, within) in
    ap (λ (b : List ℕ). plain_of size (decoded - gone) b) is
    ∙ ap (take size) (drop-drop (decoded - gone - size) gone bytes ∙ ap (λ (n : ℕ). drop n bytes) there)

-- bytes are put behind
pub plain-pushed : (size decoded : ℕ) (bytes now part : List ℕ) → size ≤ decoded → decoded ≤ len bytes → now ≡ bytes ++ part → plain_of size decoded now ≡ plain_of size decoded bytes
plain-pushed size decoded bytes now part within all is =
    ap (plain_of size decoded) is
    ∙ (ap (take size) (drop-append-le (decoded - size) bytes part (omega (arith, within, all)))
    ∙ take-append-le size (drop (decoded - size) bytes) part (omega (arith, within, all, length-drop (decoded - size) bytes)))

-- Decoding.

-- bytes behind them are known text, too
plain-more : (size decoded more : ℕ) (bytes : List ℕ) → size ≤ decoded → plain_of (size + more) (decoded + more) bytes ≡ plain_of size decoded bytes ++ take more (drop decoded bytes)
plain-more size decoded more bytes within =
    let from : (decoded + more) - (size + more) ≡ decoded - size = omega (arith, within) in
    let there : (decoded - size) + size ≡ decoded = omega (arith, within) in
    ap (λ (n : ℕ). take (size + more) (drop n bytes)) from
    ∙ (take-add size more (drop (decoded - size) bytes)
    ∙ ap (λ (t : List ℕ). plain_of size decoded bytes ++ take more t) (drop-drop size (decoded - size) bytes ∙ ap (λ (n : ℕ). drop n bytes) there))

pub shared-more : (own : KnownView) (plain now : PlainText) (decoded : ℕ) (bytes part : List ℕ) → own ≡ nothing_known own.newline → IsShared own plain decoded bytes → IsUtf8 part → part ≡ take (len part) (drop decoded bytes) → now.bytes ≡ plain.bytes + len part → now.count ≡ plain.count + len (chars part) → now.searched ≡ plain.searched → IsShared own now (decoded + len part) bytes
shared-more own plain now decoded bytes part none shared utf8 part_is more counted searched =
    let before : List ℕ = plain_of plain.bytes decoded bytes in
    let whole : plain_of now.bytes (decoded + len part) bytes ≡ before ++ part =
    ap (λ (n : ℕ). plain_of n (decoded + len part) bytes) more ∙ (plain-more plain.bytes decoded (len part) bytes shared.within ∙ ap (λ (t : List ℕ). before ++ t) (sym part_is)) in
    let both : chars (before ++ part) ≡ chars before ++ chars part = chars-append before part shared.utf8 in
    record {
      within = omega (arith, more, shared.within);
      utf8 = subst IsUtf8 (sym whole) (IsUtf8-append before part shared.utf8 utf8);
      counted = omega (arith, counted, shared.counted, ap (λ (t : List ℕ). len t) both, length-append (chars before) (chars part), ap (λ (t : List ℕ). len (chars t)) whole);
      open_line = subst (λ (t : List ℕ). IsSearched (line_end own.newline) (chars t) now.searched) (sym whole)
          (subst (λ (cs : List ℕ). IsSearched (line_end own.newline) cs now.searched) (sym both)
          (subst (λ (n : ℕ). IsSearched (line_end own.newline) (chars before ++ chars part) n) (sym searched) (searched-more (line_end own.newline) (chars before) (chars part) plain.searched shared.open_line)));
      alone = λ some. none;
    }

pub known-more : (own : KnownView) (plain now : PlainText) (decoded : ℕ) (bytes part cs : List ℕ) → own ≡ nothing_known own.newline → IsShared own plain decoded bytes → part ≡ take (len part) (drop decoded bytes) → now.bytes ≡ plain.bytes + len part → cs ≡ chars part → read_so_far own.newline false (chars part) ≡ chars part → holds_after own.newline false (chars part) ≡ false → known_of own now.bytes (decoded + len part) bytes ≡ reading (known_of own plain.bytes decoded bytes) cs
known-more own plain now decoded bytes part cs none shared part_is more cs_are reads holds =
    let before : List ℕ = plain_of plain.bytes decoded bytes in
    let newline : Newlines = own.newline in
    let whole : plain_of now.bytes (decoded + len part) bytes ≡ before ++ part =
    ap (λ (n : ℕ). plain_of n (decoded + len part) bytes) more ∙ (plain-more plain.bytes decoded (len part) bytes shared.within ∙ ap (λ (t : List ℕ). before ++ t) (sym part_is)) in
    ap (λ (known : KnownView). known_of known now.bytes (decoded + len part) bytes) none
    ∙ (ap (plainly_known newline) whole
    ∙ (ap (λ (t : List ℕ). record { newline = newline; characters = t; cr = false }) (chars-append before part shared.utf8 ∙ ap (λ (t : List ℕ). chars before ++ t) (sym reads))
    ∙ (ap (λ (held : Bool). record { newline = newline; characters = chars before ++ read_so_far newline false (chars part); cr = held }) (sym holds)
    ∙ (ap (reading (plainly_known newline before)) (sym cs_are)
    ∙ ap (λ (known : KnownView). reading (known_of known plain.bytes decoded bytes) cs) (sym none)))))

none-for : (want : ℕ) → items_for want [] ≡ []
none-for zero = refl
none-for (suc more) = refl

-- the decoding of a text in UTF-8 is the text, where no fewer characters are wanted than it has bytes
pub record IsWholly (want : ℕ) (part : List ℕ) (walk : Walk) (behind : ℕ → Walk) : Type 0 where
  pub used : bytes_in (items_for want walk.items) ≡ len part
  pub characters : characters_of (items_for want walk.items) ≡ chars part
  pub ending : walk.ending ≡ AtEnd
  pub goes_on : walk ≡ items_before (items_for want walk.items) (behind (len part))

pub wholly : (handler : Handler) (encoding : Encoding) (last : Bool) (want : ℕ) (part : List ℕ) → encoding ≡ Utf8 → IsUtf8 part → len part ≤ want → IsWholly want part (walk_here encoding (treatment handler encoding) last part 0) (walk_here encoding (treatment handler encoding) last part)
wholly handler encoding last want part is utf8 few =
    let treat : Treatment = treatment handler Utf8 in
    let walk : Walk = walk_here Utf8 treat last part 0 in
    let size : ℕ = len part in
    let all : take size part ≡ part = take_all size part (omega arith) in
    let whole : IsUtf8 (take size part) = subst IsUtf8 (sym all) utf8 in
    let text : List ℕ = chars (take size part) in
    let run = IsRun-front Utf8 part [] text size (omega arith) whole (own_utf8 (take size part) whole) refl in
    let passes = Passes-run Utf8 treat last part 0 want size [] text run few in
    let there : 0 + size ≡ size = omega arith in
    let end = here-end Utf8 treat last part (0 + size) (drop_all (0 + size) part (omega arith)) in
    let lacks : ℕ = want - len run.text in
    let items : items_for want walk.items ≡ passes.items = passes.front ∙ (ap (λ (w : Walk). passes.items ++ items_for lacks w.items) end ∙ (ap (λ (is : List Item). passes.items ++ is) (none-for lacks) ∙ append-nil passes.items)) in
    let own : IsWholly want part walk (walk_here Utf8 treat last part) = record {
      used = ap bytes_in items ∙ sym passes.used_is;
      characters = ap characters_of items ∙ (sym passes.appended ∙ ap chars all);
      ending = ap (λ (w : Walk). w.ending) passes.whole ∙ ap (λ (w : Walk). w.ending) end;
      goes_on = passes.whole ∙ (ap (λ (n : ℕ). items_before passes.items (walk_here Utf8 treat last part n)) there ∙ ap (λ (is : List Item). items_before is (walk_here Utf8 treat last part size)) (sym items));
    } in
    subst (λ (e : Encoding). IsWholly want part (walk_here e (treatment handler e) last part 0) (walk_here e (treatment handler e) last part)) (sym is) own

pub plain-part : (handler : Handler) (encoding : Encoding) (last : Bool) (want : ℕ) (part : List ℕ) (now : Decoded) → encoding ≡ Utf8 → IsUtf8 part → len part ≤ want → len part < 2 ^ 63 → IsPlainly want part now → IsPart want (walk_here encoding (treatment handler encoding) last part 0) (walk_here encoding (treatment handler encoding) last part) now.front
plain-part handler encoding last want part now is utf8 few fits plainly =
    let walk : Walk = walk_here encoding (treatment handler encoding) last part 0 in
    let own = wholly handler encoding last want part is utf8 few in
    let short = chars_within part utf8 in
    record {
      used = plainly.used ∙ sym own.used;
      chars = plainly.chars ∙ ap (λ (t : List ℕ). len t) (sym own.characters);
      few = omega (arith, plainly.used, plainly.chars, short);
      fits = omega (arith, plainly.chars, short, fits);
      stop = plainly.stop ∙ ap (front_stop (want - now.front.chars)) (sym own.ending);
      goes_on = own.goes_on ∙ ap (λ (n : ℕ). items_before (items_for want walk.items) (walk_here encoding (treatment handler encoding) last part n)) (sym plainly.used);
    }

-- why there are no more characters
pub stop-wanted : (want chars : ℕ) → chars ≡ want → ends.Wanted ≡ front_stop (want - chars) AtEnd
stop-wanted want chars is =
    let none : 0 ≡ want - chars = omega (arith, is) in
    ap (λ (n : ℕ). front_stop n AtEnd) none

stop-drained : (missing : ℕ) → 1 ≤ missing → ends.Drained ≡ front_stop missing AtEnd
stop-drained zero some = absurd (omega (arith, some))
stop-drained (suc missing) some = refl

pub stop-short : (want chars : ℕ) → chars ≤ want → (chars ≡ want → ⊥) → ends.Drained ≡ front_stop (want - chars) AtEnd
stop-short want chars few other = stop-drained (want - chars) (some (want - chars) refl)
  where
    some : (missing : ℕ) → want - chars ≡ missing → 1 ≤ missing
    some zero is = absurd (other (omega (arith, is, few)))
    some (suc missing) is = omega arith

-- nothing was given
pub known-still : (own : KnownView) (plain : PlainText) (decoded used : ℕ) (bytes cs : List ℕ) → IsShared own plain decoded bytes → 1 ≤ plain.bytes → used ≡ 0 → len cs ≤ 6 * used → known_of own plain.bytes (decoded + used) bytes ≡ reading (known_of own plain.bytes decoded bytes) cs
known-still own plain decoded used bytes cs shared some none few =
    let text : List ℕ = plain_of plain.bytes decoded bytes in
    let newline : Newlines = own.newline in
    let here : decoded + used ≡ decoded = omega (arith, none) in
    let empty : cs ≡ [] = nil_from_length cs (omega (arith, none, few)) in
    ap (λ (n : ℕ). known_of own plain.bytes n bytes) here
    ∙ (plain-only own plain decoded bytes shared some
    ∙ (ap (λ (t : List ℕ). record { newline = newline; characters = t; cr = false }) (sym (append-nil (chars text)) ∙ ap (λ (t : List ℕ). chars text ++ t) (sym (read-none newline false)))
    ∙ (ap (λ (held : Bool). record { newline = newline; characters = chars text ++ read_so_far newline false []; cr = held }) (sym (holds-none newline))
    ∙ (ap (reading (plainly_known newline text)) (sym empty)
    ∙ ap (λ (known : KnownView). reading known cs) (sym (plain-only own plain decoded bytes shared some))))))

-- A front that is given.

pub plain-given : (own : KnownView) (plain : PlainText) (decoded : ℕ) (bytes : List ℕ) (front : TextFront) → IsShared own plain decoded bytes → 1 ≤ plain.bytes → IsFrontOf (known_of own plain.bytes decoded bytes).characters front → IsGiven (chars (plain_of plain.bytes decoded bytes)) (plain_of plain.bytes decoded bytes) 0 front
plain-given own plain decoded bytes front shared some begins =
    let text : List ℕ = plain_of plain.bytes decoded bytes in
    front-given (chars text) text 0 front shared.utf8 (IsCharBoundary-start text shared.utf8) refl
    (subst (λ (known : KnownView). IsFrontOf known.characters front) (plain-only own plain decoded bytes shared some) begins)

-- the bytes behind it
pub plain-behind : (size given decoded : ℕ) (bytes : List ℕ) → given ≤ size → size ≤ decoded → plain_of (size - given) decoded bytes ≡ drop given (plain_of size decoded bytes)
plain-behind size given decoded bytes within all =
    let rest : ℕ = size - given in
    let whole : size ≡ given + rest = omega (arith, within) in
    let from : (decoded - size) + given ≡ decoded - rest = omega (arith, within, all) in
    sym (ap (λ (n : ℕ). drop given (take n (drop (decoded - size) bytes))) whole
    ∙ (drop-take given rest (drop (decoded - size) bytes)
    ∙ ap (take rest) (drop-drop given (decoded - size) bytes ∙ ap (λ (n : ℕ). drop n bytes) from)))

pub shared-given : (own : KnownView) (plain now : PlainText) (decoded : ℕ) (bytes : List ℕ) (front : TextFront) → IsShared own plain decoded bytes → 1 ≤ plain.bytes → decoded ≤ len bytes → IsFrontOf (known_of own plain.bytes decoded bytes).characters front → now.bytes ≡ plain.bytes - front.bytes → now.count ≡ plain.count - front.chars → now.searched ≡ 0 → IsShared own now decoded bytes × (known_of own now.bytes decoded bytes ≡ record (known_of own plain.bytes decoded bytes) { characters = drop front.chars (known_of own plain.bytes decoded bytes).characters })
shared-given own plain now decoded bytes front shared some all begins left counted searched =
    let text : List ℕ = plain_of plain.bytes decoded bytes in
    let given = plain-given own plain decoded bytes front shared some begins in
    let size : len text ≡ plain.bytes = plain-length plain.bytes decoded bytes shared.within all in
    let within : front.bytes ≤ plain.bytes = omega (arith, given.boundary.0, size) in
    let from : 0 + front.bytes ≡ front.bytes = omega arith in
    let rest : plain_of now.bytes decoded bytes ≡ drop (0 + front.bytes) text = ap (λ (n : ℕ). plain_of n decoded bytes) left ∙ (plain-behind plain.bytes front.bytes decoded bytes within shared.within ∙ ap (λ (n : ℕ). drop n text) (sym from)) in
    let rest_chars : chars (plain_of now.bytes decoded bytes) ≡ drop front.chars (chars text) = ap chars rest ∙ given.left in
    let none : own ≡ nothing_known own.newline = shared.alone some in (
      record {
        within = omega (arith, left, shared.within);
        utf8 = subst IsUtf8 (sym rest) (IsUtf8-drop text (0 + front.bytes) shared.utf8 given.boundary);
        counted = omega (arith, counted, shared.counted, ap (λ (t : List ℕ). len t) rest_chars, length-drop front.chars (chars text));
        open_line = subst (λ (n : ℕ). IsSearched (line_end own.newline) (chars (plain_of now.bytes decoded bytes)) n) (sym searched) (searched-none (line_end own.newline) (chars (plain_of now.bytes decoded bytes)));
        alone = λ more. none;
      },
      ap (λ (known : KnownView). known_of known now.bytes decoded bytes) none
          ∙ (ap (λ (cs : List ℕ). record { newline = own.newline; characters = cs; cr = false }) rest_chars
          ∙ ap (λ (known : KnownView). record known { characters = drop front.chars known.characters }) (sym (plain-only own plain decoded bytes shared some))),
    )

-- A CR that is released.

pub ended-plainly : (newline : Newlines) (cs : List ℕ) → cs ++ read_all newline false [] ≡ cs
ended-plainly newline cs = ap (λ (t : List ℕ). cs ++ t) (last-none newline false (holds-none newline)) ∙ append-nil cs

-- a CR is held behind no bytes that are known text
pub plain-ended : (own : KnownView) (plain : PlainText) (decoded : ℕ) (bytes : List ℕ) → IsShared own plain decoded bytes → 1 ≤ plain.bytes → known_of own plain.bytes decoded bytes ≡ ended (known_of own plain.bytes decoded bytes)
plain-ended own plain decoded bytes shared some =
    let text : List ℕ = plain_of plain.bytes decoded bytes in
    let known = plain-only own plain decoded bytes shared some in
    known
    ∙ (ap (λ (cs : List ℕ). record { newline = own.newline; characters = cs; cr = false }) (sym (ended-plainly own.newline (chars text)))
    ∙ ap ended (sym known))

-- where no bytes are, what is known by the same rule is known in any text
pub shared-empty : (own after : KnownView) (plain : PlainText) (decoded : ℕ) (bytes : List ℕ) → plain.bytes ≡ 0 → after.newline ≡ own.newline → IsShared own plain decoded bytes → IsShared after plain decoded bytes
shared-empty own after plain decoded bytes none same shared = record {
  within = shared.within;
  utf8 = shared.utf8;
  counted = shared.counted;
  open_line = subst (λ (newline : Newlines). IsSearched (line_end newline) (chars (plain_of plain.bytes decoded bytes)) plain.searched) (sym same) shared.open_line;
  alone = λ some. absurd (omega (arith, some, none));
}

-- how many characters are known
pub plain-count : (own : KnownView) (plain : PlainText) (decoded : ℕ) (bytes : List ℕ) → IsShared own plain decoded bytes → 1 ≤ plain.bytes → plain.count ≡ len (known_of own plain.bytes decoded bytes).characters
plain-count own plain decoded bytes shared some = shared.counted ∙ ap (λ (known : KnownView). len known.characters) (sym (plain-only own plain decoded bytes shared some))

-- Bytes that are known text are copied to a text of its own.

pub copied-known : (own : KnownView) (plain : PlainText) (decoded : ℕ) (bytes : List ℕ) → IsShared own plain decoded bytes → 1 ≤ plain.bytes → record own { characters = drop 0 (chars (plain_of plain.bytes decoded bytes)); cr = false } ≡ known_of own plain.bytes decoded bytes
copied-known own plain decoded bytes shared some = sym (plain-only own plain decoded bytes shared some)

-- what was decoded behind it is known there
pub copied-reading : {E : Type 0} (result : Result Decoded E) (copied after known : KnownView) (size decoded : ℕ) (bytes cs : List ℕ) → size ≡ 0 → copied ≡ known → OnOk result (after ≡ reading copied cs) → IfOk result (λ now. known_of after size (decoded + now.front.used) bytes ≡ reading known cs)
copied-reading (Ok now) copied after known size decoded bytes cs none same is = own-only after size (decoded + now.front.used) bytes none ∙ (is ∙ ap (λ (k : KnownView). reading k cs) same)
copied-reading (Err why) copied after known size decoded bytes cs none same is = tt

pub copied-same : {T E : Type 0} (result : Result T E) (copied after known : KnownView) (size decoded : ℕ) (bytes : List ℕ) → size ≡ 0 → copied ≡ known → OnErr result (after ≡ copied) → OnErr result (known_of after size decoded bytes ≡ known)
copied-same (Ok now) copied after known size decoded bytes none same is = tt
copied-same (Err why) copied after known size decoded bytes none same is = own-only after size decoded bytes none ∙ (is ∙ same)

-- none of the bytes is known text, wherever the decoding came to
none-shared : (own after : KnownView) (plain : PlainText) (decoded more : ℕ) (bytes : List ℕ) → plain.bytes ≡ 0 → after.newline ≡ own.newline → IsShared own plain decoded bytes → IsShared after plain (decoded + more) bytes
none-shared own after plain decoded more bytes none same shared =
    let text : plain_of plain.bytes (decoded + more) bytes ≡ plain_of plain.bytes decoded bytes = ap (λ (n : ℕ). plain_of n (decoded + more) bytes) none ∙ ap (λ (n : ℕ). plain_of n decoded bytes) (sym none) in
    shared-as after plain decoded (decoded + more) bytes bytes (omega (arith, none)) text (shared-empty own after plain decoded bytes none same shared)

pub copied-shared : {E : Type 0} (result : Result Decoded E) (copied after : KnownView) (plain : PlainText) (decoded : ℕ) (bytes cs : List ℕ) → plain.bytes ≡ 0 → OnOk result (after ≡ reading copied cs) → IsShared copied plain decoded bytes → IfOk result (λ now. IsShared after plain (decoded + now.front.used) bytes)
copied-shared (Ok now) copied after plain decoded bytes cs none is shared = none-shared copied after plain decoded now.front.used bytes none (ap (λ (k : KnownView). k.newline) is) shared
copied-shared (Err why) copied after plain decoded bytes cs none is shared = tt

pub copied-still : {T E : Type 0} (result : Result T E) (copied after : KnownView) (plain : PlainText) (decoded : ℕ) (bytes : List ℕ) → OnErr result (after ≡ copied) → IsShared copied plain decoded bytes → OnErr result (IsShared after plain decoded bytes)
copied-still (Ok now) copied after plain decoded bytes is shared = tt
copied-still (Err why) copied after plain decoded bytes is shared = subst (λ (k : KnownView). IsShared k plain decoded bytes) (sym is) shared

-- bytes that give nothing leave them
pub still-shared : (own : KnownView) (plain : PlainText) (decoded used : ℕ) (bytes : List ℕ) → used ≡ 0 → IsShared own plain decoded bytes → IsShared own plain (decoded + used) bytes
still-shared own plain decoded used bytes none shared =
    let here : decoded ≡ decoded + used = omega (arith, none) in
    subst (λ (n : ℕ). IsShared own plain n bytes) here shared

-- where nothing is known, none of the bytes is
pub nothing-plain : (own : KnownView) (plain : PlainText) (decoded : ℕ) (bytes : List ℕ) → IsShared own plain decoded bytes → decoded ≤ len bytes → (known_of own plain.bytes decoded bytes).characters ≡ [] → plain.bytes ≡ 0
nothing-plain own plain decoded bytes shared all none =
    let text : List ℕ = plain_of plain.bytes decoded bytes in
    let no_chars : chars text ≡ [] = nil_from_length (chars text) (omega (arith, ap (λ (t : List ℕ). len t) none, length-append own.characters (chars text))) in
    let spelled : text ≡ encode_utf8_all (chars text) = sym (encodes-chars text shared.utf8) in
    omega (arith, plain-length plain.bytes decoded bytes shared.within all, ap (λ (t : List ℕ). len t) spelled, ap (λ (t : List ℕ). len (encode_utf8_all t)) no_chars)

-- the last of some bytes, all of which are decoded
pub plain-last : (size decoded : ℕ) (bytes left : List ℕ) → size ≤ decoded → decoded ≡ len bytes → left ≡ drop (decoded - size) bytes → left ≡ plain_of size decoded bytes
plain-last size decoded bytes left within all is = is ∙ sym (take_all size (drop (decoded - size) bytes) (omega (arith, within, all, length-drop (decoded - size) bytes)))
