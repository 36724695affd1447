-- The decoding of a text's own bytes is that text, in any encoding.
use Rattle.std.proofs.Common.{◌≡◌, ℕ, ◌+◌, Bool, nat_eq, List, [], ◌∷◌, ◌++◌, length as len, Option, Some, None, refl, sym, ap, subst, ◌∙◌, arith}
use Rattle.std.specs.List.{All}
use Rattle.std.specs.Char.{IsScalar}
use Rattle.std.proofs.Math.Seq.{drop-append_seam}
use Rattle.std.proofs.lemmas.List.{append_assoc, append-nil, length-append}
use Rattle.std.proofs.lemmas.List.Elements.{All-head, All-tail}
use Rattle.py_plain.specs.declared.encoding.Encoding.{Encoding}
use Rattle.py_plain.specs.Units.{Order}
use Rattle.py_plain.specs.Handlers.{Treatment}
use Rattle.py_plain.specs.Items.{Walk, AtEnd, Given, onto_walk, walk_from, characters_of}
use Rattle.py_plain.specs.Encode.{own_bytes, joined_bytes, text_bytes}
use Rattle.py_plain.proofs.OwnBytes.{own_unit}
use Rattle.py_plain.proofs.Walks.{walk-character}

-- bytes that are two joined
pub record AreJoined (one more : Option (List ℕ)) (bytes : List ℕ) : Type 0 where
  pub front : List ℕ
  pub back : List ℕ
  pub front_is : one ≡ Some front
  pub back_is : more ≡ Some back
  pub whole : bytes ≡ front ++ back

pub joined_bytes-parts : (one more : Option (List ℕ)) (bytes : List ℕ) → joined_bytes one more ≡ Some bytes → AreJoined one more bytes
joined_bytes-parts None more bytes is = absurd (cc)
joined_bytes-parts (Some front) None bytes is = absurd (cc)
joined_bytes-parts (Some front) (Some back) bytes is = record { front = front; back = back; front_is = refl; back_is = refl; whole = cc }

-- a walk has a text, and then what another walk has
pub record IsTextBefore (text : List ℕ) (walk behind : Walk) : Type 0 where
  pub characters : characters_of walk.items ≡ text ++ characters_of behind.items
  pub ending : walk.ending ≡ behind.ending

character_before : (order : Order) (c place n : ℕ) (text : List ℕ) (walk between behind : Walk) → walk ≡ onto_walk order place (Given (c ∷ []) n) between → IsTextBefore text between behind → IsTextBefore (c ∷ text) walk behind
character_before order c place n text walk between behind is before = record {
  characters = ap (λ (w : Walk). characters_of w.items) is ∙ ap (λ (cs : List ℕ). c ∷ cs) before.characters;
  ending = ap (λ (w : Walk). w.ending) is ∙ before.ending;
}

-- the bytes that a text is written as are read as that text, and then what stands after them is read
pub walk-own : (encoding : Encoding) (treat : Treatment) (last : Bool) (order : Order) (place : ℕ) (text bytes rest : List ℕ) → All IsScalar text → text_bytes encoding text ≡ Some bytes → IsTextBefore text (walk_from encoding treat last order place 0 (bytes ++ rest)) (walk_from encoding treat last order (place + len bytes) 0 rest)
walk-own encoding treat last order place [] bytes rest scalars is =
    let none : [] ≡ bytes = cc in
    let here : place ≡ place + len bytes = omega (arith, ap len none) in
    let same : walk_from encoding treat last order place 0 (bytes ++ rest) ≡ walk_from encoding treat last order (place + len bytes) 0 rest =
    ap (λ (bs : List ℕ). walk_from encoding treat last order place 0 (bs ++ rest)) (sym none) ∙ ap (λ (p : ℕ). walk_from encoding treat last order p 0 rest) here in
    record { characters = ap (λ (w : Walk). characters_of w.items) same; ending = ap (λ (w : Walk). w.ending) same }
walk-own encoding treat last order place (c ∷ text) bytes rest scalars is =
    let parts = joined_bytes-parts (own_bytes encoding c) (text_bytes encoding text) bytes is in
    let own = parts.front in
    let behind = parts.back ++ rest in
    let unit = own_unit encoding order (nat_eq place 0) c own behind (All-head IsScalar c text scalars) parts.front_is in
    let further = walk-own encoding treat last order (place + len own) text parts.back rest (All-tail IsScalar c text scalars) parts.back_is in
    let far : place + len own + len parts.back ≡ place + len bytes = omega (arith, length-append own parts.back, ap len parts.whole) in
    let split : bytes ++ rest ≡ own ++ behind = ap (λ (bs : List ℕ). bs ++ rest) parts.whole ∙ append_assoc own parts.back rest in
    let first : walk_from encoding treat last order place 0 (bytes ++ rest) ≡ onto_walk order place (Given (c ∷ []) (len own)) (walk_from encoding treat last order (place + len own) 0 behind) =
    ap (λ (bs : List ℕ). walk_from encoding treat last order place 0 bs) split
    ∙ (walk-character encoding treat last order place (own ++ behind) c (len own) unit
    ∙ ap (λ (bs : List ℕ). onto_walk order place (Given (c ∷ []) (len own)) (walk_from encoding treat last order (place + len own) 0 bs)) (drop-append_seam own behind)) in
    subst (λ (p : ℕ). IsTextBefore (c ∷ text) (walk_from encoding treat last order place 0 (bytes ++ rest)) (walk_from encoding treat last order p 0 rest)) far
    (character_before order c place (len own) text _ _ _ first further)

-- the bytes of a text are read as that text, to the end, where nothing stands after them
pub walk-text : (encoding : Encoding) (treat : Treatment) (last : Bool) (order : Order) (place : ℕ) (text bytes : List ℕ) → All IsScalar text → text_bytes encoding text ≡ Some bytes → (characters_of (walk_from encoding treat last order place 0 bytes).items ≡ text) × ((walk_from encoding treat last order place 0 bytes).ending ≡ AtEnd)
walk-text encoding treat last order place text bytes scalars is =
    let before = walk-own encoding treat last order place text bytes [] scalars is in
    let whole : walk_from encoding treat last order place 0 bytes ≡ walk_from encoding treat last order place 0 (bytes ++ []) = ap (λ (bs : List ℕ). walk_from encoding treat last order place 0 bs) (sym (append-nil bytes)) in
    (ap (λ (w : Walk). characters_of w.items) whole ∙ (before.characters ∙ append-nil text), ap (λ (w : Walk). w.ending) whole ∙ before.ending)
