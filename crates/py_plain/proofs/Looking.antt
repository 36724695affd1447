-- The handlers of texts that are read look at nothing but the refused range.
use Rattle.std.proofs.Common.{◌≡◌, ℕ, suc, ◌≤◌, true, List, [], ◌∷◌, length as len, take, refl, sym, ap, ◌∙◌, arith}
use Rattle.std.proofs.lemmas.List.{length-take, take-take}
use Rattle.std.proofs.lemmas.Bool.{cond-false, cond_both}
use Rattle.py_plain.specs.declared.encoding.Encoding.{Encoding}
use Rattle.py_plain.specs.declared.handler.Handler.{Handler}
use Rattle.py_plain.specs.declared.handler.Handler.TheVariants.{Strict, Ignore, Replace, XmlCharRefReplace, BackslashReplace, SurrogatePass, SurrogateEscape}
use Rattle.py_plain.specs.OneByte.{is_ascii}
use Rattle.py_plain.specs.Escapes.{backslash_escape, each_spelled}
use Rattle.py_plain.specs.Handlers.{Treatment, Replaced, front_past_ascii, escaped, treatment, reads_texts}
use Rattle.py_plain.specs.Pieces.{LooksAtRange}

-- a front is no longer than the whole
pub front_within : (bytes : List ℕ) → len (front_past_ascii bytes) ≤ len bytes
front_within [] = omega arith
front_within (byte ∷ rest) =
    let front = front_within rest in
    cond_both (is_ascii byte) [] (byte ∷ front_past_ascii rest) (λ xs. len xs ≤ suc (len rest)) (λ ascii. omega arith) (λ other. omega (arith, front))

-- bytes that are escaped are all used
pub escaped_whole : (bytes characters : List ℕ) (used : ℕ) → escaped bytes ≡ Replaced characters used → used ≡ len bytes
escaped_whole [] characters used is = absurd (cc)
escaped_whole (byte ∷ rest) characters used is = cc

pub reading : (handler : Handler) (encoding : Encoding) → reads_texts handler ≡ true → LooksAtRange (treatment handler encoding)
reading Strict encoding reads = record {
  same = λ place size rest other front. refl;
  within = λ place size rest characters used is. absurd (cc);
}
reading Ignore encoding reads = record {
  same = λ place size rest other front. refl;
  within = λ place size rest characters used is. let same : size ≡ used = cc in omega arith;
}
reading Replace encoding reads = record {
  same = λ place size rest other front. refl;
  within = λ place size rest characters used is. let same : size ≡ used = cc in omega arith;
}
reading XmlCharRefReplace encoding reads = absurd (cc)
reading BackslashReplace encoding reads = record {
  same = λ place size rest other front. ap (λ bytes. Replaced (each_spelled backslash_escape bytes) size) front;
  within = λ place size rest characters used is. let same : size ≡ used = cc in omega arith;
}
reading SurrogatePass encoding reads = absurd (cc)
reading SurrogateEscape encoding reads = record {
  same = λ place size rest other front. ap (λ bytes. escaped (front_past_ascii bytes)) front;
  within = λ place size rest characters used is.
      omega (arith, escaped_whole (front_past_ascii (take size rest)) characters used is, front_within (take size rest), length-take size rest);
}

-- What a handler makes of a range it makes of the bytes that it used of it.

-- a treatment that uses a byte at least, and makes the same of the bytes that it used alone
pub record UsesItsBytes (treat : Treatment) : Type 0 where
  pub some : (place size : ℕ) (rest characters : List ℕ) (used : ℕ) → 1 ≤ size → treat place rest size ≡ Replaced characters used → 1 ≤ used
  pub alone : (place size : ℕ) (rest characters : List ℕ) (used : ℕ) → treat place rest size ≡ Replaced characters used → treat place (take used rest) used ≡ Replaced characters used

-- the bytes up to the first ASCII one are a front of them
front_taken : (bytes : List ℕ) → front_past_ascii bytes ≡ take (len (front_past_ascii bytes)) bytes
front_taken [] = refl
front_taken (byte ∷ rest) =
    cond_both (is_ascii byte) [] (byte ∷ front_past_ascii rest) (λ front. front ≡ take (len front) (byte ∷ rest)) (λ ascii. refl) (λ other. ap (λ bytes. byte ∷ bytes) (front_taken rest))

-- the front of bytes before their first ASCII byte has no ASCII byte itself
front_again : (bytes : List ℕ) → front_past_ascii (front_past_ascii bytes) ≡ front_past_ascii bytes
front_again [] = refl
front_again (byte ∷ rest) =
    cond_both (is_ascii byte) [] (byte ∷ front_past_ascii rest) (λ front. front_past_ascii front ≡ front) (λ ascii. refl)
    (λ other. cond-false (is_ascii byte) [] (byte ∷ front_past_ascii (front_past_ascii rest)) other ∙ ap (λ bytes. byte ∷ bytes) (front_again rest))

escaped_some : (bytes characters : List ℕ) (used : ℕ) → escaped bytes ≡ Replaced characters used → 1 ≤ used
escaped_some [] characters used is = absurd (cc)
escaped_some (byte ∷ rest) characters used is = let same : suc (len rest) ≡ used = cc in omega arith

-- what is escaped of a range, by the bytes that are used
front_alone : (size used : ℕ) (rest : List ℕ) → used ≡ len (front_past_ascii (take size rest)) → front_past_ascii (take used (take used rest)) ≡ front_past_ascii (take size rest)
front_alone size used rest is =
    let front = front_past_ascii (take size rest) in
    let within : used ≤ size = omega (arith, front_within (take size rest), length-take size rest) in
    let taken : take used (take used rest) ≡ front =
    take-take used used rest (omega arith)
    ∙ (sym (take-take used size rest within)
    ∙ (ap (λ count. take count (take size rest)) is ∙ sym (front_taken (take size rest)))) in
    ap front_past_ascii taken ∙ front_again (take size rest)

pub using : (handler : Handler) (encoding : Encoding) → reads_texts handler ≡ true → UsesItsBytes (treatment handler encoding)
using Strict encoding reads = record {
  some = λ place size rest characters used more is. absurd (cc);
  alone = λ place size rest characters used is. absurd (cc);
}
using Ignore encoding reads = record {
  some = λ place size rest characters used more is. let same : size ≡ used = cc in omega arith;
  alone = λ place size rest characters used is. cc;
}
using Replace encoding reads = record {
  some = λ place size rest characters used more is. let same : size ≡ used = cc in omega arith;
  alone = λ place size rest characters used is. cc;
}
using XmlCharRefReplace encoding reads = absurd (cc)
using BackslashReplace encoding reads = record {
  some = λ place size rest characters used more is. let same : size ≡ used = cc in omega arith;
  alone = λ place size rest characters used is.
      let same : size ≡ used = cc in
      ap (λ bytes. Replaced (each_spelled backslash_escape bytes) used) (take-take used used rest (omega arith))
      ∙ (ap (λ count. Replaced (each_spelled backslash_escape (take count rest)) count) (sym same) ∙ is);
}
using SurrogatePass encoding reads = absurd (cc)
using SurrogateEscape encoding reads = record {
  some = λ place size rest characters used more is. escaped_some (front_past_ascii (take size rest)) characters used is;
  alone = λ place size rest characters used is.
      ap escaped (front_alone size used rest (escaped_whole (front_past_ascii (take size rest)) characters used is)) ∙ is;
}
