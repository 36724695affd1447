-- A text that is known: what stands behind what was given, and what changes it.
use Rattle.std.proofs.Common.{◌≡◌, ℕ, ◌+◌, ◌-◌, ◌^◌, ◌<◌, ◌≤◌, Bool, false, Result, Ok, Err, OnErr, List, [], ◌++◌, length, take, drop, chars, encode_utf8_all, String, string_bytes, refl, sym, ap, subst, ◌∙◌, arith, append_assoc}
use Rattle.std.specs.declared.alloc.Global.{Global}
use Rattle.std.specs.Str.{IsUtf8, IsCharBoundary}
use Rattle.std.proofs.lemmas.List.{length-append, length-drop, take-append-drop, length-take-le, drop-drop, take_all}
use Rattle.std.proofs.lemmas.Str.{IsUtf8-string_bytes, IsUtf8-drop, IsUtf8-take, IsCharBoundary-end, IsCharBoundary-start, IsCharBoundary-from_rest, chars-append, chars-nil, encodes-chars}
use Rattle.py_flat.specs.Lines.{LineEnd, line_after, has_end_after}
use Rattle.py_plain.specs.declared.newlines.Newlines.{Newlines}
use Rattle.py_plain.specs.NewlineRule.{line_end, released, read_all, holds_after}
use Rattle.py_codec.specs.Answers.{text_of}
use Rattle.py_blocks.proofs.Written.{chars_within}
use Rattle.py_text.proofs.Joining.{read-none, holds-none}
use Rattle.py_blocks.specs.declared.fronts.TextFront.{TextFront}
use Rattle.py_held_text.specs.Finding.{IsFrontOf}
use Rattle.py_held_text.specs.LineSearch.{IsSearched}
use Rattle.py_held_text.specs.Known.{IsKnown}
use Rattle.py_held_text.proofs.Parts.{IsCut, cut}

-- Searches.

pub searched-none : (end : LineEnd) (cs : List ℕ) → IsSearched end cs 0
searched-none end cs = record { front = []; rest = cs; whole = refl; bytes_are = refl; line = λ more. refl; ends = λ more. refl }

pub searched-more : (end : LineEnd) (cs more : List ℕ) (searched : ℕ) → IsSearched end cs searched → IsSearched end (cs ++ more) searched
searched-more end cs more searched was = record {
  front = was.front;
  rest = was.rest ++ more;
  whole = ap (λ (t : List ℕ). t ++ more) was.whole ∙ append_assoc was.front was.rest more;
  bytes_are = was.bytes_are;
  line = λ further.
      ap (line_after end false) (append_assoc cs more further)
      ∙ (was.line (more ++ further)
      ∙ ap (λ (t : List ℕ). was.front ++ line_after end false t) (sym (append_assoc was.rest more further)));
  ends = λ further.
      ap (has_end_after end false) (append_assoc cs more further)
      ∙ (was.ends (more ++ further)
      ∙ ap (has_end_after end false) (sym (append_assoc was.rest more further)));
}

-- What stands in a text.

-- the characters before and behind a place
record AreParts (bytes : List ℕ) (given : ℕ) : Type 0 where
  front : List ℕ
  whole : chars bytes ≡ front ++ chars (drop given bytes)
  place : given ≡ length (encode_utf8_all front)

parts : (bytes : List ℕ) (given : ℕ) → IsUtf8 bytes → IsCharBoundary bytes given → AreParts bytes given
parts bytes given utf8 boundary =
    let before : IsUtf8 (take given bytes) = IsUtf8-take bytes given utf8 boundary in
    record {
      front = chars (take given bytes);
      whole = ap chars (sym (take-append-drop given bytes)) ∙ chars-append (take given bytes) (drop given bytes) before;
      place = sym (ap (λ (t : List ℕ). length t) (encodes-chars (take given bytes) before) ∙ length-take-le given bytes boundary.0);
    }

-- nothing stands in it
pub known-empty : (newline : Newlines) (bytes : List ℕ) (count : ℕ) (cr : Bool) → bytes ≡ [] → count ≡ 0 → holds_after newline cr [] ≡ cr → IsKnown newline bytes 0 count 0 cr
known-empty newline bytes count cr none no_count holds =
    let empty : IsKnown newline [] 0 0 0 cr = record {
      boundary = IsCharBoundary-end [];
      counted = sym (ap (λ (t : List ℕ). length t) chars-nil);
      open_line = searched-none (line_end newline) (chars []);
      holds = holds;
    } in
    subst (λ (n : ℕ). IsKnown newline bytes 0 n 0 cr) (sym no_count) (subst (λ (t : List ℕ). IsKnown newline t 0 0 0 cr) (sym none) empty)

-- more stands behind it
pub grown : (newline : Newlines) (before after : List ℕ) (given : ℕ) (more : List ℕ) → IsUtf8 before → IsUtf8 after → IsCharBoundary before given → chars after ≡ chars before ++ more → IsCharBoundary after given × (chars (drop given after) ≡ chars (drop given before) ++ more)
grown newline before after given more utf8 utf8_after boundary is =
    let own = parts before given utf8 boundary in
    let rest : List ℕ = chars (drop given before) ++ more in
    let at = cut after own.front rest given utf8_after (is ∙ (ap (λ (t : List ℕ). t ++ more) own.whole ∙ append_assoc own.front (chars (drop given before)) more)) own.place in
    (at.boundary, at.rest_chars)

pub known-grown : (newline : Newlines) (before after : String Global) (given count searched : ℕ) (cr : Bool) (more : List ℕ) (now : Bool) (total : ℕ) → IsKnown newline (string_bytes before) given count searched cr → text_of after ≡ text_of before ++ more → total ≡ count + length more → holds_after newline now [] ≡ now → IsKnown newline (string_bytes after) given total searched now
known-grown newline before after given count searched cr more now total known is total_is holds =
    let rest : List ℕ = drop given (string_bytes before) in
    let behind = grown newline (string_bytes before) (string_bytes after) given more (IsUtf8-string_bytes before) (IsUtf8-string_bytes after) known.boundary is in
    record {
      boundary = behind.0;
      counted = omega (arith, total_is, known.counted, ap (λ (t : List ℕ). length t) behind.1, length-append (chars rest) more);
      open_line = subst (λ (t : List ℕ). IsSearched (line_end newline) t searched) (sym behind.1) (searched-more (line_end newline) (chars rest) more searched known.open_line);
      holds = holds;
    }

pub text-grown : (newline : Newlines) (before after : String Global) (given count searched : ℕ) (cr : Bool) (more : List ℕ) → IsKnown newline (string_bytes before) given count searched cr → text_of after ≡ text_of before ++ more → chars (drop given (string_bytes after)) ≡ chars (drop given (string_bytes before)) ++ more
text-grown newline before after given count searched cr more known is =
    (grown newline (string_bytes before) (string_bytes after) given more (IsUtf8-string_bytes before) (IsUtf8-string_bytes after) known.boundary is).1

-- a text has no more characters than memory has bytes
pub rest-fits : (text : String Global) (given : ℕ) → IsCharBoundary (string_bytes text) given → length (chars (drop given (string_bytes text))) < 2 ^ 63
rest-fits text given boundary =
    let bytes : List ℕ = string_bytes text in
    omega (arith, chars_within (drop given bytes) (IsUtf8-drop bytes given (IsUtf8-string_bytes text) boundary), length-drop given bytes, text.bytes.ok.0, text.bytes.ok.1, text.bytes.small)

pub counted-fits : (newline : Newlines) (before after : String Global) (given count searched : ℕ) (cr : Bool) (more : List ℕ) → IsKnown newline (string_bytes before) given count searched cr → text_of after ≡ text_of before ++ more → count + length more < 2 ^ 63
counted-fits newline before after given count searched cr more known is =
    let behind = grown newline (string_bytes before) (string_bytes after) given more (IsUtf8-string_bytes before) (IsUtf8-string_bytes after) known.boundary is in
    omega (arith, rest-fits after given behind.0, known.counted, ap (λ (t : List ℕ). length t) behind.1, length-append (chars (drop given (string_bytes before))) more)

-- the same characters are the same bytes
pub same-bytes : (one other : String Global) → text_of one ≡ text_of other → string_bytes one ≡ string_bytes other
same-bytes one other is = sym (encodes-chars (string_bytes one) (IsUtf8-string_bytes one)) ∙ (ap encode_utf8_all is ∙ encodes-chars (string_bytes other) (IsUtf8-string_bytes other))

pub known-same : (newline : Newlines) (before after : List ℕ) (given count searched : ℕ) (cr : Bool) → after ≡ before → IsKnown newline before given count searched cr → IsKnown newline after given count searched cr
known-same newline before after given count searched cr is known = subst (λ (t : List ℕ). IsKnown newline t given count searched cr) (sym is) known

-- Where nothing comes.

-- a rule gives an LF for a CR that is held
pub last-none : (newline : Newlines) (cr : Bool) → holds_after newline cr [] ≡ cr → read_all newline cr [] ≡ released cr
last-none newline cr holds = ap (λ (t : List ℕ). t ++ released (holds_after newline cr [])) (read-none newline cr) ∙ ap released holds

-- A front that is given.

-- a front of what is known, in the bytes of the text
pub given-cut : (cs bytes : List ℕ) (given : ℕ) (front : TextFront) → IsUtf8 bytes → IsCharBoundary bytes given → cs ≡ chars (drop given bytes) → IsFrontOf cs front → IsCut (drop given bytes) (take front.chars cs) (drop front.chars cs) front.bytes
given-cut cs bytes given front utf8 boundary is begins =
    cut (drop given bytes) (take front.chars cs) (drop front.chars cs) front.bytes (IsUtf8-drop bytes given utf8 boundary) (sym is ∙ sym (take-append-drop front.chars cs)) begins.bytes

-- what stands after an error
pub on-err : {T E P : Type 0} (result : Result T E) → P → OnErr result P
on-err (Ok value) is = tt
on-err (Err why) is = is

-- all that is known, as a front
pub all-front : (cs bytes rest : List ℕ) (given count : ℕ) → IsUtf8 bytes → IsCharBoundary bytes given → cs ≡ chars (drop given bytes) → count ≡ length (chars (drop given bytes)) → rest ≡ drop given bytes → IsFrontOf cs (record { chars = count; bytes = length rest })
all-front cs bytes rest given count utf8 boundary is counted rest_is =
    let size : count ≡ length cs = counted ∙ ap (λ (t : List ℕ). length t) (sym is) in
    record {
      within = omega (arith, size);
      bytes = ap (λ (t : List ℕ). length t) (rest_is ∙ (sym (encodes-chars (drop given bytes) (IsUtf8-drop bytes given utf8 boundary)) ∙ ap encode_utf8_all (sym is ∙ sym (take_all count cs (omega (arith, size))))));
    }

-- a front that is given, and what is known behind it
pub record IsGiven (cs bytes : List ℕ) (given : ℕ) (front : TextFront) : Type 0 where
  pub boundary : IsCharBoundary bytes (given + front.bytes)
  pub text : chars (take front.bytes (drop given bytes)) ≡ take front.chars cs
  pub left : chars (drop (given + front.bytes) bytes) ≡ drop front.chars cs

pub front-given : (cs bytes : List ℕ) (given : ℕ) (front : TextFront) → IsUtf8 bytes → IsCharBoundary bytes given → cs ≡ chars (drop given bytes) → IsFrontOf cs front → IsGiven cs bytes given front
front-given cs bytes given front utf8 boundary is begins =
    let own = given-cut cs bytes given front utf8 boundary is begins in
    record {
      boundary = IsCharBoundary-from_rest bytes given front.bytes boundary.0 own.boundary;
      text = own.front_chars;
      left = ap chars (sym (drop-drop front.bytes given bytes)) ∙ own.rest_chars;
    }

-- what is known behind a front that is given
pub known-behind : (newline : Newlines) (cs bytes : List ℕ) (given count searched : ℕ) (cr : Bool) (front : TextFront) → IsKnown newline bytes given count searched cr → cs ≡ chars (drop given bytes) → IsGiven cs bytes given front → IsKnown newline bytes (given + front.bytes) (count - front.chars) 0 cr
known-behind newline cs bytes given count searched cr front known is own = record {
  boundary = own.boundary;
  counted = omega (arith, known.counted, ap (λ (t : List ℕ). length t) is, ap (λ (t : List ℕ). length t) own.left, length-drop front.chars cs);
  open_line = searched-none (line_end newline) (chars (drop (given + front.bytes) bytes));
  holds = known.holds;
}

-- memory has no text with more bytes
pub text-fits : (text : String Global) → length (string_bytes text) < 2 ^ 63
text-fits text = omega (arith, text.bytes.ok.0, text.bytes.ok.1, text.bytes.small)

-- what stands between two places
pub between : (bytes seen part : List ℕ) (given size : ℕ) → seen ≡ bytes → part ≡ take ((given + size) - given) (drop given seen) → part ≡ take size (drop given bytes)
between bytes seen part given size same is =
    let long : (given + size) - given ≡ size = omega arith in
    is ∙ (ap (λ (n : ℕ). take n (drop given seen)) long ∙ ap (λ (t : List ℕ). take size (drop given t)) same)

-- what stands up to a place, from the start
pub from-start : (bytes : List ℕ) (given size : ℕ) → given ≡ 0 → take (given + size) bytes ≡ take size (drop given bytes)
from-start bytes given size none =
    let same : given + size ≡ size = omega (arith, none) in
    ap (λ (n : ℕ). take n bytes) same ∙ ap (λ (n : ℕ). take size (drop n bytes)) (sym none)

pub all-from : (bytes : List ℕ) (given : ℕ) → given ≡ 0 → drop given bytes ≡ bytes
all-from bytes given none = ap (λ (n : ℕ). drop n bytes) none

-- what is known behind a front that is given, in a text of its own
pub known-rest : (newline : Newlines) (cs bytes : List ℕ) (given count searched : ℕ) (cr : Bool) (front : TextFront) (rest : String Global) → IsKnown newline bytes given count searched cr → cs ≡ chars (drop given bytes) → IsGiven cs bytes given front → string_bytes rest ≡ drop (given + front.bytes) bytes → IsKnown newline (string_bytes rest) 0 (count - front.chars) 0 cr
known-rest newline cs bytes given count searched cr front rest known is own rest_is =
    let behind = known-behind newline cs bytes given count searched cr front known is own in
    record {
      boundary = IsCharBoundary-start (string_bytes rest) (IsUtf8-string_bytes rest);
      counted = behind.counted ∙ ap (λ (t : List ℕ). length (chars t)) (sym rest_is);
      open_line = searched-none (line_end newline) (chars (string_bytes rest));
      holds = behind.holds;
    }

-- A text that is put in place of another.

-- how many characters it has
pub all-counted : (text : String Global) (seen : List ℕ) (most count : ℕ) → 2 ^ 63 ≤ most → seen ≡ string_bytes text → count ≡ length (take most (chars seen)) → count ≡ length (text_of text)
all-counted text seen most count many seen_is counted =
    let fits : length (text_of text) ≤ most = omega (arith, many, chars_within (string_bytes text) (IsUtf8-string_bytes text), text-fits text) in
    counted ∙ (ap (λ (t : List ℕ). length (take most (chars t))) seen_is ∙ ap (λ (t : List ℕ). length t) (take_all most (text_of text) fits))

-- it is known but for a front
pub known-put : (newline : Newlines) (text : String Global) (front : TextFront) → IsFrontOf (text_of text) front → (count : ℕ) → count ≡ length (text_of text) → IsKnown newline (string_bytes text) front.bytes (count - front.chars) 0 false × (chars (drop front.bytes (string_bytes text)) ≡ drop front.chars (text_of text))
known-put newline text front begins count counted =
    let bytes : List ℕ = string_bytes text in
    let own = front-given (text_of text) bytes 0 front (IsUtf8-string_bytes text) (IsCharBoundary-start bytes (IsUtf8-string_bytes text)) refl begins in
    let all : IsKnown newline bytes 0 count 0 false = record {
      boundary = IsCharBoundary-start bytes (IsUtf8-string_bytes text);
      counted = counted;
      open_line = searched-none (line_end newline) (chars bytes);
      holds = holds-none newline;
    } in
    let size : 0 + front.bytes ≡ front.bytes = omega arith in (
      subst (λ (n : ℕ). IsKnown newline bytes n (count - front.chars) 0 false) size (known-behind newline (text_of text) bytes 0 count 0 false front all refl own),
      ap (λ (n : ℕ). chars (drop n bytes)) (sym size) ∙ own.left,
    )
