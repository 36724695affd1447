-- A CR that is held, behind which another character than an LF came: it is an LF by itself, and what came is read as from there.
use Rattle.std.proofs.Common.{◌≡◌, ℕ, ◌+◌, ◌≤◌, Bool, true, false, true≢false, nat_eq, ◌||◌, if◌then◌else◌, List, [], ◌∷◌, ◌++◌, length, drop, chars, get_or, ◌≢◌, refl, sym, ap, ◌∙◌, arith, append_assoc, append-nil}
use Rattle.std.specs.Char.{encode_utf8}
use Rattle.std.specs.Str.{IsUtf8, encode_utf8_all}
use Rattle.std.proofs.lemmas.Bool.{false≢true, eqb-true}
use Rattle.std.proofs.lemmas.List.{length-append, nil_from_length}
use Rattle.std.proofs.lemmas.Str.{chars-nil, encode_ascii, encodes-chars}
use Rattle.std.proofs.Math.Seq.{drop-append_seam}
use Rattle.py_flat.specs.Lines.{lf, cr}
use Rattle.py_plain.specs.declared.newlines.Newlines.{Newlines}
use Rattle.py_plain.specs.declared.newlines.Newlines.TheVariants as rule
use Rattle.py_plain.specs.NewlineRule.{released, universal, ends_held, read_so_far, holds_after, read_all}
use Rattle.py_text.proofs.Copying.{not-true, begins-with}
use Rattle.py_held_text.specs.Held.{read_until}
use Rattle.py_held_text.specs.Known.{may_cut}
use Rattle.py_held_text.proofs.Reading.{one-if, released-length}

universal-alone : (c : ℕ) (cs : List ℕ) → nat_eq c lf ≡ false → universal true (c ∷ cs) ≡ lf ∷ universal false (c ∷ cs)
universal-alone c cs isnt = ap (λ (b : Bool). lf ∷ ((if nat_eq c cr || b then [] else c ∷ []) ++ universal (nat_eq c cr) cs)) isnt

so-far-alone : (newline : Newlines) (held : Bool) (came rest : List ℕ) → may_cut held came ≡ false → holds_after newline held [] ≡ held → read_so_far newline held (came ++ rest) ≡ released held ++ read_so_far newline false (came ++ rest)
so-far-alone newline false came rest apart holds = refl
so-far-alone newline true [] rest apart holds = absurd (true≢false apart)
so-far-alone rule.Universal true (c ∷ came) rest apart holds = universal-alone c (came ++ rest) apart
so-far-alone rule.Passthrough true (c ∷ came) rest apart holds = absurd (true≢false (sym holds))
so-far-alone rule.Lf true (c ∷ came) rest apart holds = absurd (true≢false (sym holds))
so-far-alone rule.Cr true (c ∷ came) rest apart holds = absurd (true≢false (sym holds))
so-far-alone rule.Crlf true (c ∷ came) rest apart holds = absurd (true≢false (sym holds))

all-alone : (newline : Newlines) (held : Bool) (came rest : List ℕ) → may_cut held came ≡ false → holds_after newline held [] ≡ held → read_all newline held (came ++ rest) ≡ released held ++ read_all newline false (came ++ rest)
all-alone newline false came rest apart holds = refl
all-alone newline true [] rest apart holds = absurd (true≢false apart)
all-alone rule.Universal true (c ∷ came) rest apart holds = ap (λ (t : List ℕ). t ++ released (ends_held (nat_eq c cr) (came ++ rest))) (universal-alone c (came ++ rest) apart)
all-alone rule.Passthrough true (c ∷ came) rest apart holds = absurd (true≢false (sym holds))
all-alone rule.Lf true (c ∷ came) rest apart holds = absurd (true≢false (sym holds))
all-alone rule.Cr true (c ∷ came) rest apart holds = absurd (true≢false (sym holds))
all-alone rule.Crlf true (c ∷ came) rest apart holds = absurd (true≢false (sym holds))

until-alone : (end : Bool) (newline : Newlines) (held : Bool) (came rest : List ℕ) → may_cut held came ≡ false → holds_after newline held [] ≡ held → read_until end newline held (came ++ rest) ≡ released held ++ read_until end newline false (came ++ rest)
until-alone true newline held came rest apart holds = all-alone newline held came rest apart holds
until-alone false newline held came rest apart holds = so-far-alone newline held came rest apart holds

-- behind what is known and that LF stands what is read from there
pub behind-alone : (end : Bool) (newline : Newlines) (held : Bool) (known came rest all : List ℕ) → may_cut held came ≡ false → holds_after newline held [] ≡ held → all ≡ came ++ rest → drop (length known + one-if held) (known ++ read_until end newline held all) ≡ read_until end newline false all
behind-alone end newline held known came rest all apart holds is =
    let given : List ℕ = known ++ released held in
    let behind : List ℕ = read_until end newline false all in
    let size : length known + one-if held ≡ length given = omega (arith, length-append known (released held), released-length held) in
    let whole : read_until end newline held all ≡ released held ++ behind =
    ap (read_until end newline held) is ∙ (until-alone end newline held came rest apart holds ∙ ap (λ (cs : List ℕ). released held ++ read_until end newline false cs) (sym is)) in
    ap (λ (n : ℕ). drop n (known ++ read_until end newline held all)) size
    ∙ (ap (λ (cs : List ℕ). drop (length given) (known ++ cs)) whole
    ∙ (ap (drop (length given)) (sym (append_assoc known (released held) behind))
    ∙ drop-append_seam given behind))

-- that LF is among what is given of what came
pub given-alone : (newline : Newlines) (held : Bool) (came : List ℕ) → may_cut held came ≡ false → holds_after newline held [] ≡ held → one-if held ≤ length (read_so_far newline held came)
given-alone newline held came apart holds =
    let whole = so-far-alone newline held came [] apart holds in
    omega (arith, ap (λ (cs : List ℕ). length (read_so_far newline held cs)) (append-nil came), ap (λ (cs : List ℕ). length cs) whole, length-append (released held) (read_so_far newline false (came ++ [])), released-length held)

-- By the first byte of a text.

begins-lf : (text : List ℕ) → text ≢ [] → nat_eq (get_or text 0 0) lf ≡ true → text ≡ lf ∷ drop 1 text
begins-lf [] some is = absurd (some refl)
begins-lf (byte ∷ rest) some is = ap (λ (b : ℕ). b ∷ rest) (eqb-true byte lf is)

apart-other : (cs : List ℕ) → encode_utf8_all cs ≢ [] → nat_eq (get_or (encode_utf8_all cs) 0 0) lf ≡ false → may_cut true cs ≡ false
apart-other [] some isnt = absurd (some refl)
apart-other (c ∷ cs) some isnt =
    not-true (nat_eq c lf) (λ is. false≢true (sym isnt ∙ ap (λ (bs : List ℕ). nat_eq (get_or (bs ++ encode_utf8_all cs) 0 0) lf) (ap encode_utf8 (eqb-true c lf is) ∙ encode_ascii lf (omega arith))))

cut-by : (text : List ℕ) (begins : Bool) → IsUtf8 text → text ≢ [] → nat_eq (get_or text 0 0) lf ≡ begins → begins ≡ may_cut true (chars text)
cut-by text true utf8 some is = sym (ap (may_cut true) (begins-with text (drop 1 text) lf utf8 (omega arith) (begins-lf text some is)))
cut-by text false utf8 some is =
    let same : encode_utf8_all (chars text) ≡ text = encodes-chars text utf8 in
    sym (apart-other (chars text) (λ none. some (sym same ∙ none)) (ap (λ (bs : List ℕ). nat_eq (get_or bs 0 0) lf) same ∙ is))

pub cut-first : (bytes text : List ℕ) (held : Bool) → IsUtf8 text → held ≡ true → nat_eq (length text) 0 ≡ false → bytes ≡ text → nat_eq (get_or bytes 0 0) lf ≡ may_cut held (chars text)
cut-first bytes text held utf8 is some are =
    ap (λ (bs : List ℕ). nat_eq (get_or bs 0 0) lf) are
    ∙ (cut-by text (nat_eq (get_or text 0 0) lf) utf8 (λ none. true≢false (ap (λ (bs : List ℕ). nat_eq (length bs) 0) (sym none) ∙ some)) refl
    ∙ ap (λ (b : Bool). may_cut b (chars text)) (sym is))

pub cut-none : (text : List ℕ) (held : Bool) → held ≡ true → nat_eq (length text) 0 ≡ true → true ≡ may_cut held (chars text)
cut-none text held is none =
    sym (ap (λ (bs : List ℕ). may_cut held (chars bs)) (nil_from_length text (eqb-true (length text) 0 none)) ∙ (ap (may_cut held) chars-nil ∙ ap (λ (b : Bool). may_cut b []) is))
