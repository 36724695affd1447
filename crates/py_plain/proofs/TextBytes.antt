-- The bytes of a text, one character at a time.
use Rattle.std.proofs.Common.{◌≡◌, ℕ, ◌+◌, ◌<◌, true, false, List, [], ◌∷◌, ◌++◌, length, take, drop, get_or, Option, Some, None, refl, sym, ap, ◌∙◌}
use Rattle.std.proofs.lemmas.List.{append_assoc, append-nil, take_more, drop_more, take-append-drop}
use Rattle.std.proofs.Math.Seq.{take-append_seam}
use Rattle.py_plain.specs.declared.encoding.Encoding.{Encoding}
use Rattle.py_plain.specs.Encode.{own_bytes, joined_bytes, text_bytes}
use Rattle.py_plain.specs.Writing.{Writes}

-- bytes joined, where all are there, are one list
pub joined-assoc : (a b c : Option (List ℕ)) → joined_bytes a (joined_bytes b c) ≡ joined_bytes (joined_bytes a b) c
joined-assoc None b c = refl
joined-assoc (Some x) None c = refl
joined-assoc (Some x) (Some y) None = refl
joined-assoc (Some x) (Some y) (Some z) = ap Some (sym (append_assoc x y z))

pub joined-first : (b : Option (List ℕ)) → joined_bytes (Some []) b ≡ b
joined-first None = refl
joined-first (Some bytes) = refl

pub joined-last : (a : Option (List ℕ)) → joined_bytes a (Some []) ≡ a
joined-last None = refl
joined-last (Some bytes) = ap Some (append-nil bytes)

-- the bytes of one text after another
pub text_bytes-append : (encoding : Encoding) (text more : List ℕ) → text_bytes encoding (text ++ more) ≡ joined_bytes (text_bytes encoding text) (text_bytes encoding more)
text_bytes-append encoding [] more = sym (joined-first (text_bytes encoding more))
text_bytes-append encoding (c ∷ text) more =
    ap (λ o. joined_bytes (own_bytes encoding c) o) (text_bytes-append encoding text more) ∙ joined-assoc (own_bytes encoding c) (text_bytes encoding text) (text_bytes encoding more)

-- what an answer says
pub Writes-yes : (o : Option (List ℕ)) (before after : List ℕ) → Writes o before after true → (bytes : List ℕ) × (o ≡ Some bytes) × (after ≡ before ++ bytes)
Writes-yes None before after writes = absurd (cc)
Writes-yes (Some bytes) before after writes = (bytes, refl, writes.0)

pub Writes-no : (o : Option (List ℕ)) (before after : List ℕ) → Writes o before after false → (o ≡ None) × (after ≡ before)
Writes-no None before after writes = (refl, writes.0)
Writes-no (Some bytes) before after writes = absurd (cc)

-- a character's bytes stand after those of the characters before it
pub Writes-more : (encoding : Encoding) (text : List ℕ) (at c : ℕ) (old now after : List ℕ) → at < length text → c ≡ get_or text at c → Writes (text_bytes encoding (take at text)) old now true → Writes (own_bytes encoding c) now after true → Writes (text_bytes encoding (take (at + 1) text)) old after true
Writes-more encoding text at c old now after inside is front here =
    let done = Writes-yes (text_bytes encoding (take at text)) old now front in
    let next = Writes-yes (own_bytes encoding c) now after here in
    let bytes : text_bytes encoding (take (at + 1) text) ≡ Some (done.0 ++ next.0) =
    ap (λ cs. text_bytes encoding cs) (take_more text at c inside ∙ ap (λ x. take at text ++ x ∷ []) (sym is))
    ∙ text_bytes-append encoding (take at text) (c ∷ [])
    ∙ ap (λ o. joined_bytes (text_bytes encoding (take at text)) o) (joined-last (own_bytes encoding c))
    ∙ ap (λ o. joined_bytes o (own_bytes encoding c)) done.1
    ∙ ap (λ o. joined_bytes (Some done.0) o) next.1 in
    rw bytes (next.2 ∙ ap (λ out. out ++ next.0) done.2 ∙ append_assoc old done.0 next.0, refl)

-- a text with a character without bytes has none, and what was written before it is taken back
pub Writes-none : (encoding : Encoding) (text : List ℕ) (at c : ℕ) (old now after : List ℕ) → at < length text → c ≡ get_or text at c → Writes (text_bytes encoding (take at text)) old now true → Writes (own_bytes encoding c) now after false → Writes (text_bytes encoding text) old (take (length old) after) false
Writes-none encoding text at c old now after inside is front here =
    let done = Writes-yes (text_bytes encoding (take at text)) old now front in
    let none = Writes-no (own_bytes encoding c) now after here in
    let rest = text_bytes encoding (drop (at + 1) text) in
    let bytes : text_bytes encoding text ≡ None =
    ap (λ cs. text_bytes encoding cs) (sym (take-append-drop at text) ∙ ap (λ cs. take at text ++ cs) (drop_more text at c inside ∙ ap (λ x. x ∷ drop (at + 1) text) (sym is)))
    ∙ text_bytes-append encoding (take at text) (c ∷ drop (at + 1) text)
    ∙ ap (λ o. joined_bytes o (joined_bytes (own_bytes encoding c) rest)) done.1
    ∙ ap (λ o. joined_bytes (Some done.0) (joined_bytes o rest)) none.0 in
    rw bytes (ap (λ out. take (length old) out) (none.1 ∙ done.2) ∙ take-append_seam old done.0, refl)
