-- A text with a line end is written as some bytes, where nothing of it is refused.
use Rattle.std.proofs.Common.{◌≡◌, ◌≢◌, ℕ, Bool, true, false, nat_eq, ◌||◌, List, [], ◌∷◌, ◌++◌, None, refl, sym, subst, eqb-true}
use lib.Utf8.{encode}
use Rattle.std.specs.List.{list_any}
use Rattle.py_flat.specs.Lines.{lf, cr}
use Rattle.py_plain.specs.declared.encoding.Encoding.{Encoding}
use Rattle.py_plain.specs.declared.encoding.Encoding.TheVariants.{Utf8, Latin1, Ascii, Utf16Le, Utf16Be}
use Rattle.py_plain.specs.declared.handler.Handler.{Handler}
use Rattle.py_plain.specs.declared.newlines.Newlines.{Newlines}
use Rattle.py_plain.specs.declared.newlines.Newlines.TheVariants as rule
use Rattle.py_plain.specs.Escapes.{each_spelled}
use Rattle.py_plain_text.specs.TextFile.{TextSettings}
use Rattle.py_plain_text.specs.TextWriting.{written_as, written_bytes, written_refusal}
use Rattle.py_read_text.specs.Owing.{has_line_end}
use Rattle.py_text.specs.EachWritten.{character_bytes}
use Rattle.py_text.proofs.EachWritten.{written-each}

-- an LF or a CR
abbrev ends : ℕ → Bool
ends c = nat_eq c lf || nat_eq c cr

abbrev bytes_of : Handler → Encoding → Newlines → ℕ → List ℕ
bytes_of handler encoding newline c = each_spelled (character_bytes handler encoding) (written_as newline c)

-- whether there are some bytes
abbrev has_some : List ℕ → Bool
has_some [] = false
has_some (byte ∷ more) = true

some-of : (bytes : List ℕ) → has_some bytes ≡ true → bytes ≢ []
some-of [] has = absurd (cc)
some-of (byte ∷ more) has = λ none. absurd (cc)

lf-has : (handler : Handler) (encoding : Encoding) (newline : Newlines) → has_some (bytes_of handler encoding newline lf) ≡ true
unfolding encode
lf-has handler Utf8 rule.Universal = refl
lf-has handler Utf8 rule.Passthrough = refl
lf-has handler Utf8 rule.Lf = refl
lf-has handler Utf8 rule.Cr = refl
lf-has handler Utf8 rule.Crlf = refl
lf-has handler Latin1 rule.Universal = refl
lf-has handler Latin1 rule.Passthrough = refl
lf-has handler Latin1 rule.Lf = refl
lf-has handler Latin1 rule.Cr = refl
lf-has handler Latin1 rule.Crlf = refl
lf-has handler Ascii rule.Universal = refl
lf-has handler Ascii rule.Passthrough = refl
lf-has handler Ascii rule.Lf = refl
lf-has handler Ascii rule.Cr = refl
lf-has handler Ascii rule.Crlf = refl
lf-has handler Utf16Le rule.Universal = refl
lf-has handler Utf16Le rule.Passthrough = refl
lf-has handler Utf16Le rule.Lf = refl
lf-has handler Utf16Le rule.Cr = refl
lf-has handler Utf16Le rule.Crlf = refl
lf-has handler Utf16Be rule.Universal = refl
lf-has handler Utf16Be rule.Passthrough = refl
lf-has handler Utf16Be rule.Lf = refl
lf-has handler Utf16Be rule.Cr = refl
lf-has handler Utf16Be rule.Crlf = refl

cr-has : (handler : Handler) (encoding : Encoding) (newline : Newlines) → has_some (bytes_of handler encoding newline cr) ≡ true
unfolding encode
cr-has handler Utf8 newline = refl
cr-has handler Latin1 newline = refl
cr-has handler Ascii newline = refl
cr-has handler Utf16Le newline = refl
cr-has handler Utf16Be newline = refl

end-some : (handler : Handler) (encoding : Encoding) (newline : Newlines) (c : ℕ) (is_lf is_cr : Bool) → nat_eq c lf ≡ is_lf → nat_eq c cr ≡ is_cr → (is_lf || is_cr) ≡ true → bytes_of handler encoding newline c ≢ []
end-some handler encoding newline c true is_cr first second is = subst (λ (own : ℕ). bytes_of handler encoding newline own ≢ []) (sym (eqb-true c lf first)) (some-of (bytes_of handler encoding newline lf) (lf-has handler encoding newline))
end-some handler encoding newline c false true first second is = subst (λ (own : ℕ). bytes_of handler encoding newline own ≢ []) (sym (eqb-true c cr second)) (some-of (bytes_of handler encoding newline cr) (cr-has handler encoding newline))
end-some handler encoding newline c false false first second is = absurd (cc)

front-some : (front back : List ℕ) → front ≢ [] → front ++ back ≢ []
front-some [] back some = absurd (some refl)
front-some (byte ∷ more) back some = λ none. absurd (cc)

pub back-some : (front back : List ℕ) → back ≢ [] → front ++ back ≢ []
back-some [] back some = some
back-some (byte ∷ more) back some = λ none. absurd (cc)

step-some : (handler : Handler) (encoding : Encoding) (newline : Newlines) (c : ℕ) (text : List ℕ) (ended : Bool) → ends c ≡ ended → (ended || list_any ends text) ≡ true → (list_any ends text ≡ true → each_spelled (bytes_of handler encoding newline) text ≢ []) → each_spelled (bytes_of handler encoding newline) (c ∷ text) ≢ []
step-some handler encoding newline c text true here any behind = front-some (bytes_of handler encoding newline c) (each_spelled (bytes_of handler encoding newline) text) (end-some handler encoding newline c (nat_eq c lf) (nat_eq c cr) refl refl here)
step-some handler encoding newline c text false here any behind = back-some (bytes_of handler encoding newline c) (each_spelled (bytes_of handler encoding newline) text) (behind any)

each-some : (handler : Handler) (encoding : Encoding) (newline : Newlines) (text : List ℕ) → list_any ends text ≡ true → each_spelled (bytes_of handler encoding newline) text ≢ []
each-some handler encoding newline [] is = absurd (cc)
each-some handler encoding newline (c ∷ text) is = step-some handler encoding newline c text (ends c) refl is (each-some handler encoding newline text)

-- a text with a line end, of which nothing is refused, is written as some bytes
pub ended-some : (settings : TextSettings) (text : List ℕ) → written_refusal settings text ≡ None → has_line_end text ≡ true → written_bytes settings text ≢ []
ended-some settings text whole is = subst (λ (bytes : List ℕ). bytes ≢ []) (sym (written-each settings.handler settings.encoding settings.newline text whole)) (each-some settings.handler settings.encoding settings.newline text is)
