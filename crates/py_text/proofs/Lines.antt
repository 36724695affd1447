-- The bytes of a text by the writing rule, cut at its first LF.
use Rattle.std.proofs.Common.{◌≡◌, ◌⊎◌, inl, inr, ℕ, ◌+◌, ◌*◌, ◌≤◌, Result, Ok, Err, OnErr, Bool, true, false, ◌||◌, nat_eq, if◌then◌else◌, List, [], ◌∷◌, ◌++◌, length as len, take, refl, sym, ap, subst, ◌∙◌, arith, append-nil, append_assoc}
use Rattle.std.specs.Char.{encode_utf8}
use Rattle.std.specs.List.{list_any}
use Rattle.std.specs.Str.{chars}
use Rattle.std.proofs.lemmas.Bool.{eqb-true}
use Rattle.std.proofs.lemmas.List.{length-append, take-append-le, take_all, nil_from_length}
use Rattle.std.proofs.lemmas.Str.{chars-nil}
use Rattle.py_flat.specs.Lines.{lf, cr}
use Rattle.py_plain.specs.declared.encoding.Encoding.{Encoding}
use Rattle.py_plain.specs.declared.encoding.Encoding.TheVariants.{Utf8, Latin1, Ascii, Utf16Le, Utf16Be}
use Rattle.py_plain.specs.declared.handler.Handler.{Handler}
use Rattle.py_plain.specs.declared.newlines.Newlines.{Newlines}
use Rattle.py_plain.specs.declared.newlines.Newlines.TheVariants as rule
use Rattle.py_plain.specs.Escapes.{each_spelled}
use Rattle.py_plain_text.specs.TextWriting.{written_end}
use Rattle.py_text.specs.declared.coder.Coder.{Coder}
use Rattle.py_text.specs.WrittenCuts.{behind_run, IsCutAtLf}
use Rattle.py_text.specs.EachWritten.{IsWhole, character_bytes, written_character, each_encoded, each_written}
use Rattle.py_text.proofs.Spelled.{each-both, each-same, each-long}
use Rattle.py_text.proofs.EachWritten.{whole-parts, because-whole, end-bytes}

neither : (a b : Bool) → (a || b) ≡ false → (a ≡ false) × (b ≡ false)
neither true b is = absurd (cc)
neither false b is = (refl, is)

-- a character that is no LF stays
other-stays : (coder : Coder) (newline : Newlines) (c : ℕ) (is_lf : Bool) → is_lf ≡ false → each_spelled (character_bytes coder.errors coder.encoding) (if is_lf then written_end newline else c ∷ []) ≡ character_bytes coder.errors coder.encoding c
other-stays coder newline c true is = absurd (cc)
other-stays coder newline c false is = append-nil (character_bytes coder.errors coder.encoding c)

-- a run without an LF stays
pub plain-each : (coder : Coder) (newline : Newlines) (run : List ℕ) → list_any (λ c. nat_eq c lf) run ≡ false → each_written coder newline run ≡ each_encoded coder run
plain-each coder newline [] plain = refl
plain-each coder newline (c ∷ run) plain =
    let parts = neither (nat_eq c lf) (list_any (λ c. nat_eq c lf) run) plain in
    ap (λ (t : List ℕ). t ++ each_written coder newline run) (other-stays coder newline c (nat_eq c lf) parts.0)
    ∙ ap (λ (t : List ℕ). character_bytes coder.errors coder.encoding c ++ t) (plain-each coder newline run parts.1)

-- the last run of a text
pub cut-last : (coder : Coder) (newline : Newlines) (text run : List ℕ) (ended : Bool) (left : List ℕ) → IsCutAtLf text run ended left → ended ≡ false → each_written coder newline text ≡ each_encoded coder run
cut-last coder newline text run true left cut is = absurd (cc)
cut-last coder newline text run false left cut is =
    ap (each_written coder newline) (cut.whole ∙ append-nil run) ∙ plain-each coder newline run cut.plain

-- a run, the line end for the LF behind it, and the rest
pub cut-ended : (coder : Coder) (newline : Newlines) (text run : List ℕ) (ended : Bool) (left : List ℕ) → IsCutAtLf text run ended left → ended ≡ true → each_written coder newline text ≡ each_encoded coder run ++ (each_encoded coder (written_end newline) ++ each_written coder newline left)
cut-ended coder newline text run false left cut is = absurd (cc)
cut-ended coder newline text run true left cut is =
    ap (each_written coder newline) cut.whole
    ∙ (each-both (written_character coder newline) run (lf ∷ left)
    ∙ ap (λ (t : List ℕ). t ++ (each_encoded coder (written_end newline) ++ each_written coder newline left)) (plain-each coder newline run cut.plain))

-- Lengths.

pub last-long : (coder : Coder) (newline : Newlines) (text run : List ℕ) (ended : Bool) (left : List ℕ) → IsCutAtLf text run ended left → ended ≡ false → (len (each_written coder newline text) ≡ len (each_encoded coder run)) × (len text ≡ len run)
last-long coder newline text run true left cut is = absurd (cc)
last-long coder newline text run false left cut is = (ap len (cut-last coder newline text run false left cut refl), ap len (cut.whole ∙ append-nil run))

pub ended-long : (coder : Coder) (newline : Newlines) (text run : List ℕ) (ended : Bool) (left : List ℕ) → IsCutAtLf text run ended left → ended ≡ true → (len (each_written coder newline text) ≡ len (each_encoded coder run) + (len (each_encoded coder (written_end newline)) + len (each_written coder newline left))) × (len text ≡ len run + (len left + 1))
ended-long coder newline text run false left cut is = absurd (cc)
ended-long coder newline text run true left cut is = (
  ap len (cut-ended coder newline text run true left cut refl)
      ∙ (length-append (each_encoded coder run) (each_encoded coder (written_end newline) ++ each_written coder newline left)
      ∙ ap (λ (n : ℕ). len (each_encoded coder run) + n) (length-append (each_encoded coder (written_end newline)) (each_written coder newline left))),
  omega (arith, ap len cut.whole, length-append run (lf ∷ left)),
)

-- a CR has as many bytes as an LF
cr-as-long : (handler : Handler) (encoding : Encoding) → len (character_bytes handler encoding cr) ≡ len (character_bytes handler encoding lf)
unfolding encode_utf8
cr-as-long handler Utf8 = refl
cr-as-long handler Latin1 = refl
cr-as-long handler Ascii = refl
cr-as-long handler Utf16Le = refl
cr-as-long handler Utf16Be = refl

-- no line end has more than twice the bytes of an LF
end-twice : (coder : Coder) (newline : Newlines) → len (each_encoded coder (written_end newline)) ≤ 2 * len (character_bytes coder.errors coder.encoding lf)
end-twice coder rule.Universal = omega (arith, length-append (character_bytes coder.errors coder.encoding lf) [])
end-twice coder rule.Passthrough = omega (arith, length-append (character_bytes coder.errors coder.encoding lf) [])
end-twice coder rule.Lf = omega (arith, length-append (character_bytes coder.errors coder.encoding lf) [])
end-twice coder rule.Cr = omega (arith, length-append (character_bytes coder.errors coder.encoding cr) [], cr-as-long coder.errors coder.encoding)
end-twice coder rule.Crlf = omega (arith, length-append (character_bytes coder.errors coder.encoding cr) (character_bytes coder.errors coder.encoding lf ++ []), length-append (character_bytes coder.errors coder.encoding lf) [], cr-as-long coder.errors coder.encoding)

-- no character comes to more than twice its bytes
one-twice : (coder : Coder) (newline : Newlines) (c : ℕ) (is_lf : Bool) → nat_eq c lf ≡ is_lf → len (each_spelled (character_bytes coder.errors coder.encoding) (if is_lf then written_end newline else c ∷ [])) ≤ 2 * len (character_bytes coder.errors coder.encoding c)
one-twice coder newline c false is = omega (arith, ap len (other-stays coder newline c false refl))
one-twice coder newline c true is = omega (arith, end-twice coder newline, ap (λ (n : ℕ). len (character_bytes coder.errors coder.encoding n)) (eqb-true c lf is))

pub text-twice : (coder : Coder) (newline : Newlines) (text : List ℕ) → len (each_written coder newline text) ≤ 2 * len (each_encoded coder text)
text-twice coder newline [] = omega arith
text-twice coder newline (c ∷ text) = omega (arith, length-append (written_character coder newline c) (each_written coder newline text), length-append (character_bytes coder.errors coder.encoding c) (each_encoded coder text), one-twice coder newline c (nat_eq c lf) refl, text-twice coder newline text)

-- nor to fewer than them
end-least : (coder : Coder) (newline : Newlines) → len (character_bytes coder.errors coder.encoding lf) ≤ len (each_encoded coder (written_end newline))
end-least coder rule.Universal = omega (arith, length-append (character_bytes coder.errors coder.encoding lf) [])
end-least coder rule.Passthrough = omega (arith, length-append (character_bytes coder.errors coder.encoding lf) [])
end-least coder rule.Lf = omega (arith, length-append (character_bytes coder.errors coder.encoding lf) [])
end-least coder rule.Cr = omega (arith, length-append (character_bytes coder.errors coder.encoding cr) [], cr-as-long coder.errors coder.encoding)
end-least coder rule.Crlf = omega (arith, length-append (character_bytes coder.errors coder.encoding cr) (character_bytes coder.errors coder.encoding lf ++ []), length-append (character_bytes coder.errors coder.encoding lf) [])

one-least : (coder : Coder) (newline : Newlines) (c : ℕ) (is_lf : Bool) → nat_eq c lf ≡ is_lf → len (character_bytes coder.errors coder.encoding c) ≤ len (each_spelled (character_bytes coder.errors coder.encoding) (if is_lf then written_end newline else c ∷ []))
one-least coder newline c false is = omega (arith, ap len (other-stays coder newline c false refl))
one-least coder newline c true is = omega (arith, end-least coder newline, ap (λ (n : ℕ). len (character_bytes coder.errors coder.encoding n)) (eqb-true c lf is))

pub text-least : (coder : Coder) (newline : Newlines) (text : List ℕ) → len (each_encoded coder text) ≤ len (each_written coder newline text)
text-least coder newline [] = omega arith
text-least coder newline (c ∷ text) = omega (arith, length-append (written_character coder newline c) (each_written coder newline text), length-append (character_bytes coder.errors coder.encoding c) (each_encoded coder text), one-least coder newline c (nat_eq c lf) refl, text-least coder newline text)

-- a line end is of one or two characters
pub end-few : (newline : Newlines) → len (written_end newline) ≤ 2
end-few rule.Universal = omega arith
end-few rule.Passthrough = omega arith
end-few rule.Lf = omega arith
end-few rule.Cr = omega arith
end-few rule.Crlf = omega arith

-- Rules that write an LF as it is.

-- an LF that is written as it is
end-stays : (coder : Coder) (newline : Newlines) (c : ℕ) (is_lf : Bool) → nat_eq c lf ≡ is_lf → written_end newline ≡ lf ∷ [] → each_spelled (character_bytes coder.errors coder.encoding) (if is_lf then written_end newline else c ∷ []) ≡ character_bytes coder.errors coder.encoding c
end-stays coder newline c true is keeps =
    ap (each_spelled (character_bytes coder.errors coder.encoding)) (keeps ∙ ap (λ (n : ℕ). n ∷ []) (sym (eqb-true c lf is)))
    ∙ append-nil (character_bytes coder.errors coder.encoding c)
end-stays coder newline c false is keeps = append-nil (character_bytes coder.errors coder.encoding c)

pub keeps-each : (coder : Coder) (newline : Newlines) (text : List ℕ) → written_end newline ≡ lf ∷ [] → each_written coder newline text ≡ each_encoded coder text
keeps-each coder newline text keeps =
    each-same (written_character coder newline) (character_bytes coder.errors coder.encoding) (λ c. end-stays coder newline c (nat_eq c lf) refl keeps) text

pub three-keep : (newline : Newlines) → (newline ≡ rule.Universal) ⊎ ((newline ≡ rule.Passthrough) ⊎ (newline ≡ rule.Lf)) → written_end newline ≡ lf ∷ []
three-keep newline (inl is) = ap written_end is
three-keep newline (inr (inl is)) = ap written_end is
three-keep newline (inr (inr is)) = ap written_end is

-- a CR has as many bytes as an LF
cr-long : (handler : Handler) (encoding : Encoding) → len (character_bytes handler encoding cr) ≡ len (character_bytes handler encoding lf)
unfolding encode_utf8
cr-long handler Utf8 = refl
cr-long handler Latin1 = refl
cr-long handler Ascii = refl
cr-long handler Utf16Le = refl
cr-long handler Utf16Be = refl

end-long : (coder : Coder) (c : ℕ) (is_lf : Bool) → nat_eq c lf ≡ is_lf → len (each_spelled (character_bytes coder.errors coder.encoding) (if is_lf then cr ∷ [] else c ∷ [])) ≡ len (character_bytes coder.errors coder.encoding c)
end-long coder c true is =
    ap len (append-nil (character_bytes coder.errors coder.encoding cr))
    ∙ (cr-long coder.errors coder.encoding
    ∙ ap (λ (n : ℕ). len (character_bytes coder.errors coder.encoding n)) (sym (eqb-true c lf is)))
end-long coder c false is = ap len (append-nil (character_bytes coder.errors coder.encoding c))

-- each rule but that of CR LF leaves a text as long as it was
pub four-long : (coder : Coder) (newline : Newlines) (text : List ℕ) → (newline ≡ rule.Universal) ⊎ ((newline ≡ rule.Passthrough) ⊎ ((newline ≡ rule.Lf) ⊎ (newline ≡ rule.Cr))) → len (each_encoded coder text) ≡ len (each_written coder newline text)
four-long coder newline text (inl is) = ap len (sym (keeps-each coder newline text (ap written_end is)))
four-long coder newline text (inr (inl is)) = ap len (sym (keeps-each coder newline text (ap written_end is)))
four-long coder newline text (inr (inr (inl is))) = ap len (sym (keeps-each coder newline text (ap written_end is)))
four-long coder newline text (inr (inr (inr is))) =
    sym (ap (λ (n : Newlines). len (each_written coder n text)) is
    ∙ each-long (written_character coder rule.Cr) (character_bytes coder.errors coder.encoding) (λ c. end-long coder c (nat_eq c lf) refl) text)

-- What of a text is refused.

-- nothing of a run is refused
pub run-whole : (coder : Coder) (text run : List ℕ) (ended : Bool) (left : List ℕ) → IsCutAtLf text run ended left → IsWhole coder.errors coder.encoding text → IsWhole coder.errors coder.encoding run
run-whole coder text run ended left cut whole =
    (whole-parts coder.errors coder.encoding run (behind_run ended left) (subst (IsWhole coder.errors coder.encoding) cut.whole whole)).0

-- nor of what stands behind an LF
pub left-whole : (coder : Coder) (text run : List ℕ) (ended : Bool) (left : List ℕ) → IsCutAtLf text run ended left → ended ≡ true → IsWhole coder.errors coder.encoding text → IsWhole coder.errors coder.encoding left
left-whole coder text run false left cut is whole = absurd (cc)
left-whole coder text run true left cut is whole =
    let behind = (whole-parts coder.errors coder.encoding run (lf ∷ left) (subst (IsWhole coder.errors coder.encoding) cut.whole whole)).1 in
    (whole-parts coder.errors coder.encoding (lf ∷ []) left behind).1

-- no line end is refused
pub end-whole : (coder : Coder) (newline : Newlines) (end : List ℕ) → end ≡ written_end newline → IsWhole coder.errors coder.encoding end
end-whole coder newline end is =
    subst (IsWhole coder.errors coder.encoding) (sym is) (because-whole coder.errors coder.encoding (written_end newline) (inr (end-bytes coder.encoding newline)))

-- Appending.

-- some bytes are done, and they and those of what is left are all
abbrev pub IsDone : Coder → Newlines → (before out text left : List ℕ) → Type 0
IsDone coder newline before out text left = (done : List ℕ) × (out ≡ before ++ done) × (done ++ each_written coder newline left ≡ each_written coder newline text)

pub done-none : (coder : Coder) (newline : Newlines) (before text : List ℕ) → IsDone coder newline before before text text
done-none coder newline before text = ([], sym (append-nil before), refl)

-- nothing is left, and nothing is written of it
pub nothing-written : (coder : Coder) (newline : Newlines) (left : List ℕ) → len left ≡ 0 → each_written coder newline (chars left) ≡ []
nothing-written coder newline left empty = ap (λ (t : List ℕ). each_written coder newline (chars t)) (nil_from_length left empty) ∙ ap (each_written coder newline) chars-nil

pub done-nothing : (coder : Coder) (newline : Newlines) (before out text left : List ℕ) → IsDone coder newline before out text left → each_written coder newline left ≡ [] → out ≡ before ++ each_written coder newline text
done-nothing coder newline before out text left done none =
    done.1 ∙ ap (λ (t : List ℕ). before ++ t) (sym (append-nil done.0) ∙ (ap (λ (t : List ℕ). done.0 ++ t) (sym none) ∙ done.2))

pub done-last : (coder : Coder) (newline : Newlines) (before out after text left run : List ℕ) (ended : Bool) (behind : List ℕ) → IsDone coder newline before out text left → IsCutAtLf left run ended behind → ended ≡ false → after ≡ out ++ each_encoded coder run → after ≡ before ++ each_written coder newline text
done-last coder newline before out after text left run ended behind done cut is pushed =
    pushed
    ∙ (ap (λ (t : List ℕ). t ++ each_encoded coder run) done.1
    ∙ (append_assoc before done.0 (each_encoded coder run)
    ∙ ap (λ (t : List ℕ). before ++ t) (ap (λ (t : List ℕ). done.0 ++ t) (sym (cut-last coder newline left run ended behind cut is)) ∙ done.2)))

pub done-ended : (coder : Coder) (newline : Newlines) (before out middle after text left run end : List ℕ) (ended : Bool) (behind : List ℕ) → IsDone coder newline before out text left → IsCutAtLf left run ended behind → ended ≡ true → middle ≡ out ++ each_encoded coder run → end ≡ written_end newline → after ≡ middle ++ each_encoded coder end → IsDone coder newline before after text behind
done-ended coder newline before out middle after text left run end ended behind done cut is first end_is second =
    let first_bytes : List ℕ = each_encoded coder run in
    let end_bytes : List ℕ = each_encoded coder (written_end newline) in
    let rest : List ℕ = each_written coder newline behind in (
      done.0 ++ (first_bytes ++ end_bytes),
      second
          ∙ (ap (λ (t : List ℕ). middle ++ each_encoded coder t) end_is
          ∙ (ap (λ (t : List ℕ). t ++ end_bytes) (first ∙ ap (λ (t : List ℕ). t ++ first_bytes) done.1)
          ∙ (append_assoc (before ++ done.0) first_bytes end_bytes
          ∙ append_assoc before done.0 (first_bytes ++ end_bytes)))),
      append_assoc done.0 (first_bytes ++ end_bytes) rest
          ∙ (ap (λ (t : List ℕ). done.0 ++ t) (append_assoc first_bytes end_bytes rest ∙ sym (cut-ended coder newline left run ended behind cut is))
          ∙ done.2),
    )

-- what stood before is the front of what was appended to
pub front-kept : (before done after : List ℕ) → after ≡ before ++ done → take (len before) after ≡ before
front-kept before done after is =
    ap (take (len before)) is ∙ (take-append-le (len before) before done (omega arith) ∙ take_all (len before) before (omega arith))

pub same-kept : (before after : List ℕ) → after ≡ before → take (len before) after ≡ before
same-kept before after is = ap (take (len before)) is ∙ take_all (len before) before (omega arith)

-- The line end of a rule as a text.

pub lf-text : (newline : Newlines) → (newline ≡ rule.Universal) ⊎ ((newline ≡ rule.Passthrough) ⊎ (newline ≡ rule.Lf)) → chars (10 ∷ []) ≡ written_end newline
unfolding chars
lf-text newline is = sym (three-keep newline is)

pub cr-text : (newline : Newlines) → newline ≡ rule.Cr → chars (13 ∷ []) ≡ written_end newline
unfolding chars
cr-text newline is = sym (ap written_end is)

pub cr-lf-text : (newline : Newlines) → newline ≡ rule.Crlf → chars (13 ∷ 10 ∷ []) ≡ written_end newline
unfolding chars
cr-lf-text newline is = sym (ap written_end is)

-- a run is no longer than the text that it begins
pub run-within : (text run : List ℕ) (ended : Bool) (left : List ℕ) → IsCutAtLf text run ended left → len run ≤ len text
run-within text run ended left cut = omega (arith, ap len cut.whole, length-append run (behind_run ended left))

-- what follows from what an error leaves
pub on-err : {T E : Type 0} (answer : Result T E) (P Q : Type 0) → (P → Q) → OnErr answer P → OnErr answer Q
on-err (Ok value) P Q leads known = known
on-err (Err why) P Q leads known = leads known
