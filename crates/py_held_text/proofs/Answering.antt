-- Fronts of a text that answer a call.
use Rattle.std.proofs.Common.{◌≡◌, ℕ, zero, suc, ◌-◌, ◌≤◌, Bool, true, false, nat_eq, nat_le, if◌then◌else◌, List, [], ◌∷◌, ◌++◌, length, take, drop, chars, encode_utf8_all, Option, Some, None, Ok, Err, refl, sym, ap, subst, ◌∙◌, arith, append_assoc, le-leb}
use Rattle.std.specs.Str.{IsUtf8}
use Rattle.std.proofs.lemmas.List.{length-append, length-take-le, take_all, take_at, take-append-le, take-append-drop}
use Rattle.std.proofs.lemmas.Str.{length-le-encodes, encodes-chars}
use Rattle.py_flat.specs.Lines.{LineEnd, Lf, Cr, CrLf, AnyEnd, lf, cr, line_after, has_end_after, first_line}
use Rattle.py_flat.proofs.Cutting.{first_line_is_front}
use Rattle.py_plain.specs.declared.newlines.Newlines.{Newlines}
use Rattle.py_plain.specs.NewlineRule.{line_end}
use Rattle.py_blocks.specs.declared.fronts.TextFront.{TextFront}
use Rattle.py_plain.specs.FindNewline.{kept_back, newline_place}
use Rattle.py_held_text.specs.Finding.{IsFrontOf, line_in_hand}
use Rattle.py_held_text.specs.LineSearch.{IsBegin}
use Rattle.py_plain.proofs.LineEnds.{here}
use Rattle.py_held_text.proofs.Lines.{found-at, missed-at, line-open}
use Rattle.py_held_text.proofs.Parts.{IsCut, cut, spelled-both}

-- Lines.

-- a line is cut off a text
pub line-cut : (text line : List ℕ) (bytes : ℕ) → IsUtf8 text → (begin : IsBegin (chars text) line bytes) → IsCut text line begin.rest bytes
line-cut text line bytes utf8 begin = cut text line begin.rest bytes utf8 begin.whole begin.bytes_are

-- what stands before a place
pub from-start : (text part : List ℕ) (place : ℕ) → part ≡ take (place - 0) text → part ≡ take place text
from-start text part place is =
    let same : place - 0 ≡ place = omega arith in
    is ∙ ap (λ (n : ℕ). take n text) same

-- what a front of a line is in the text
pub record InText (cs line : List ℕ) (most : ℕ) (found : TextFront) : Type 0 where
  pub count : found.chars ≡ length (take most line)
  pub front : IsFrontOf cs found
  pub taken : take found.chars cs ≡ take most line

pub line-of : (text part line : List ℕ) (bytes most : ℕ) (front : TextFront) → IsUtf8 text → part ≡ take bytes text → IsBegin (chars text) line bytes → front.chars ≡ length (take most (chars part)) → IsFrontOf (chars part) front → InText (chars text) line most front
line-of text part line bytes most front utf8 part_is begin counted begins =
    let same : chars part ≡ line = ap chars part_is ∙ (line-cut text line bytes utf8 begin).front_chars in
    let count : front.chars ≡ length (take most line) = counted ∙ ap (λ (t : List ℕ). length (take most t)) same in
    let own : IsFrontOf line front = subst (λ (t : List ℕ). IsFrontOf t front) same begins in
    let shared : take front.chars (chars text) ≡ take front.chars line = ap (take front.chars) begin.whole ∙ take-append-le front.chars line begin.rest own.within in
    record {
      count = count;
      front = record {
        within = omega (arith, own.within, ap (λ (t : List ℕ). length t) begin.whole, length-append line begin.rest);
        bytes = own.bytes ∙ ap (λ (t : List ℕ). length (encode_utf8_all t)) (sym shared);
      };
      taken = shared ∙ (ap (λ (n : ℕ). take n line) count ∙ (ap (take (length (take most line))) (sym (take-append-drop most line)) ∙ take_at (take most line) (drop most line) (length (take most line)) refl));
    }

-- a line has no more characters than bytes
pub whole-taken : (cs line : List ℕ) (bytes : ℕ) → IsBegin cs line bytes → take bytes line ≡ line
whole-taken cs line bytes begin = take_all bytes line (omega (arith, begin.bytes_are, length-le-encodes line))

-- a size that is in hand
in-if : (size total : ℕ) → size ≤ total → ◌≡◌ {A = Option ℕ} (Some size) (if nat_le size total then Some size else None)
in-if size total within = ap (λ (b : Bool). if b then Some size else None) (sym (le-leb size total within))

pub line-count : (end : LineEnd) (cs : List ℕ) (bytes count : ℕ) → IsBegin cs (line_after end false (cs ++ lf ∷ [])) bytes → count ≡ length (take bytes (line_after end false (cs ++ lf ∷ []))) → Some count ≡ line_in_hand end None cs
line-count end cs bytes count begin counted =
    let line : List ℕ = line_after end false (cs ++ lf ∷ []) in
    let size : count ≡ length line = counted ∙ ap (λ (t : List ℕ). length t) (whole-taken cs line bytes begin) in
    ap (λ (n : ℕ). Some n) size ∙ in-if (length line) (length cs) (omega (arith, ap (λ (t : List ℕ). length t) begin.whole, length-append line begin.rest))

-- a line that is all of a text
pub line-all : (end : LineEnd) (text : List ℕ) (bytes count : ℕ) → IsUtf8 text → bytes ≡ length text → IsBegin (chars text) (line_after end false (chars text ++ lf ∷ [])) bytes → count ≡ length (chars text) → (◌≡◌ {A = Option ℕ} (Some count) (line_in_hand end None (chars text))) × IsFrontOf (chars text) (record { chars = count; bytes = bytes })
line-all end text bytes count utf8 all begin counted =
    let cs : List ℕ = chars text in
    let line : List ℕ = line_after end false (cs ++ lf ∷ []) in
    let spelled = spelled-both line begin.rest in
    let whole : length (encode_utf8_all cs) ≡ bytes = ap (λ (t : List ℕ). length t) (encodes-chars text utf8) ∙ sym all in
    let none : length begin.rest ≡ 0 = omega (arith, whole, spelled, begin.bytes_are, ap (λ (t : List ℕ). length (encode_utf8_all t)) begin.whole, length-le-encodes begin.rest) in
    let size : count ≡ length line = omega (arith, counted, none, ap (λ (t : List ℕ). length t) begin.whole, length-append line begin.rest) in (
      line-count end cs bytes count begin (size ∙ ap (λ (t : List ℕ). length t) (sym (whole-taken cs line bytes begin))),
      record {
        within = omega (arith, counted);
        bytes = sym whole ∙ ap (λ (t : List ℕ). length (encode_utf8_all t)) (sym (take_all count cs (omega (arith, counted))));
      },
    )

-- At most n characters of a line.

here-same : (end : LineEnd) (after_cr : Bool) (c d : ℕ) (ds ys : List ℕ) → here end after_cr c ((d ∷ ds) ++ ys) ≡ here end after_cr c (d ∷ ds)
here-same Lf after_cr c d ds ys = refl
here-same Cr after_cr c d ds ys = refl
here-same CrLf after_cr c d ds ys = refl
here-same AnyEnd after_cr c d ds ys = refl

take-if : (n : ℕ) (b : Bool) (xs ys : List ℕ) → take n xs ≡ ys → take n (if b then [] else xs) ≡ (if b then [] else ys)
take-if zero true xs ys is = refl
take-if (suc n) true xs ys is = refl
take-if n false xs ys is = is

last-if : (b : Bool) → ◌≡◌ {A = List ℕ} [] (if b then [] else [])
last-if true = refl
last-if false = refl

-- a front of some characters has as much of their first line as its own first line
take-line : (end : LineEnd) (after_cr : Bool) (cs ys : List ℕ) → take (length cs) (line_after end after_cr (cs ++ ys)) ≡ line_after end after_cr cs
take-line end after_cr [] ys = refl
take-line end after_cr (c ∷ []) ys = ap (λ (t : List ℕ). c ∷ t) (last-if (here end after_cr c []))
take-line end after_cr (c ∷ d ∷ ds) ys =
    let behind : List ℕ = line_after end (nat_eq c cr) ((d ∷ ds) ++ ys) in
    ap (λ (b : Bool). take (suc (length (d ∷ ds))) (c ∷ (if b then [] else behind))) (here-same end after_cr c d ds ys)
    ∙ ap (λ (t : List ℕ). c ∷ t) (take-if (length (d ∷ ds)) (here end after_cr c (d ∷ ds)) behind (line_after end (nat_eq c cr) (d ∷ ds)) (take-line end (nat_eq c cr) (d ∷ ds) ys))

limited-line : (end : LineEnd) (limit : ℕ) (cs : List ℕ) → limit ≤ length cs → first_line end (Some limit) (cs ++ lf ∷ []) ≡ line_after end false (take limit cs)
limited-line end limit cs within =
    let part : List ℕ = take limit cs in
    let size : length part ≡ limit = length-take-le limit cs within in
    ap (λ (t : List ℕ). take limit (line_after end false (t ++ lf ∷ []))) (sym (take-append-drop limit cs))
    ∙ (ap (λ (t : List ℕ). take limit (line_after end false t)) (append_assoc part (drop limit cs) (lf ∷ []))
    ∙ (ap (λ (n : ℕ). take n (line_after end false (part ++ (drop limit cs ++ lf ∷ [])))) (sym size)
    ∙ take-line end false part (drop limit cs ++ lf ∷ [])))

pub limited-count : (end : LineEnd) (limit count : ℕ) (cs : List ℕ) → limit ≤ length cs → count ≡ length (line_after end false (take limit cs)) → Some count ≡ line_in_hand end (Some limit) cs
limited-count end limit count cs within counted =
    let line : List ℕ = line_after end false (take limit cs) in
    let behind = first_line_is_front end None (take limit cs) in
    let same : first_line end (Some limit) (cs ++ lf ∷ []) ≡ line = limited-line end limit cs within in
    ap (λ (n : ℕ). Some n) counted
    ∙ (in-if (length line) (length cs) (omega (arith, within, length-take-le limit cs within, ap (λ (t : List ℕ). length t) behind.1, length-append line behind.0))
    ∙ ap (λ (t : List ℕ). if nat_le (length t) (length cs) then Some (length t) else None) (sym same))

-- the front of n characters
pub record IsPart (cs : List ℕ) (limit : ℕ) (front : TextFront) : Type 0 where
  pub whole : cs ≡ take limit cs ++ drop limit cs
  pub bytes : front.bytes ≡ length (encode_utf8_all (take limit cs))
  pub count : front.chars ≡ limit

pub part-of : (cs : List ℕ) (limit : ℕ) (front : TextFront) → limit ≤ length cs → front.chars ≡ length (take limit cs) → IsFrontOf cs front → IsPart cs limit front
part-of cs limit front within counted begins =
    let count : front.chars ≡ limit = counted ∙ length-take-le limit cs within in
    record {
      whole = sym (take-append-drop limit cs);
      bytes = begins.bytes ∙ ap (λ (n : ℕ). length (encode_utf8_all (take n cs))) count;
      count = count;
    }

pub part-begin : (cs : List ℕ) (limit : ℕ) (front : TextFront) → IsPart cs limit front → IsBegin cs (take limit cs) front.bytes
part-begin cs limit front part = record { rest = drop limit cs; whole = part.whole; bytes_are = part.bytes }

-- the first line of such a front begins the text
pub part-line : (newline : Newlines) (cs found : List ℕ) (limit size : ℕ) → found ≡ take limit cs → Ok size ≡ newline_place newline found → IsBegin cs (line_after (line_end newline) false (take limit cs)) size
part-line newline cs found limit size same is =
    let end : LineEnd = line_end newline in
    let part : List ℕ = take limit cs in
    let line : List ℕ = line_after end false part in
    let at = found-at (has_end_after end false part) size (length (encode_utf8_all line)) (length (encode_utf8_all part) - kept_back end part) (is ∙ ap (newline_place newline) same) in
    let behind = first_line_is_front end None part in
    record {
      rest = behind.0 ++ drop limit cs;
      whole = sym (take-append-drop limit cs) ∙ (ap (λ (t : List ℕ). t ++ drop limit cs) (sym behind.1) ∙ append_assoc line behind.0 (drop limit cs));
      bytes_are = at.1;
    }

-- or it is a line that isn't ended
pub part-open : (newline : Newlines) (cs found : List ℕ) (limit further : ℕ) → found ≡ take limit cs → Err further ≡ newline_place newline found → line_after (line_end newline) false (take limit cs) ≡ take limit cs
part-open newline cs found limit further same is =
    let end : LineEnd = line_end newline in
    let part : List ℕ = take limit cs in
    let at = missed-at (has_end_after end false part) further (length (encode_utf8_all (line_after end false part))) (length (encode_utf8_all part) - kept_back end part) (is ∙ ap (newline_place newline) same) in
    line-open end part at.0
