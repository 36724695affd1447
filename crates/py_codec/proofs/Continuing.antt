-- What was decoded up to a place, and what comes from there on, are the whole decoding.
use Rattle.std.proofs.Common.{◌≡◌, ℕ, suc, ◌+◌, ◌-◌, ◌≤◌, Bool, nat_eq, None, List, [], ◌∷◌, ◌++◌, length, take, drop, Ok, Err, refl, sym, ap, ◌∙◌, arith}
use Rattle.std.proofs.lemmas.List.{append-nil, append_assoc, take-append-drop, drop-drop, length-drop, length-take-le}
use Rattle.py_flat.specs.declared.fault.IoFault.{IoFault}
use Rattle.py_plain.specs.declared.encoding.Encoding.{Encoding}
use Rattle.py_plain.specs.declared.encoding.Encoding.TheVariants.{Utf8, Latin1, Ascii, Utf16Le, Utf16Be}
use Rattle.py_plain.specs.Units.{Order, Unknown, first_unit}
use Rattle.py_plain.specs.Handlers.{Treatment}
use Rattle.py_plain.specs.Items.{Given, RefusedRange, Unfinished, item_of, first_item, used_behind, ends, onto_walk, Ending, AtEnd, AtRange, AtCut, Walk, walk_from, characters_of}
use Rattle.py_plain.proofs.Walks.{walk-given}
use Rattle.py_plain.proofs.OwnText.{walk-own}
use Rattle.py_blocks.specs.Runs.{IsRun}
use Rattle.py_codec.specs.Decoding.{ended, decoding_of, walk_here}

pub record Continues (encoding : Encoding) (treat : Treatment) (last : Bool) (bytes : List ℕ) (place : ℕ) (out : List ℕ) : Type 0 where
  pub inside : place ≤ length bytes
  pub characters : out ++ characters_of (walk_here encoding treat last bytes place).items ≡ characters_of (walk_here encoding treat last bytes 0).items
  pub ending : (walk_here encoding treat last bytes place).ending ≡ (walk_here encoding treat last bytes 0).ending

-- a walk from the start goes on with nothing out
pub Continues-start : (encoding : Encoding) (treat : Treatment) (last : Bool) (bytes out : List ℕ) → out ≡ [] → Continues encoding treat last bytes 0 out
Continues-start encoding treat last bytes out none = record {
  inside = omega arith;
  characters = ap (λ o. o ++ characters_of (walk_here encoding treat last bytes 0).items) none;
  ending = refl;
}

-- more is out after more bytes, where the walk from the one place has it before that from the other
further : (encoding : Encoding) (treat : Treatment) (last : Bool) (bytes : List ℕ) (place to : ℕ) (before after cs : List ℕ) → to ≤ length bytes → characters_of (walk_here encoding treat last bytes place).items ≡ cs ++ characters_of (walk_here encoding treat last bytes to).items → (walk_here encoding treat last bytes place).ending ≡ (walk_here encoding treat last bytes to).ending → after ≡ before ++ cs → Continues encoding treat last bytes place before → Continues encoding treat last bytes to after
further encoding treat last bytes place to before after cs inside characters ending appended continues = record {
  inside = inside;
  characters =
      let behind = characters_of (walk_here encoding treat last bytes to).items in
      ap (λ o. o ++ behind) appended ∙ append_assoc before cs behind ∙ ap (λ o. before ++ o) (sym characters) ∙ continues.characters;
  ending = sym ending ∙ continues.ending;
}

-- a run of whole characters is out
pub Continues-run : (encoding : Encoding) (treat : Treatment) (last : Bool) (bytes : List ℕ) (place run : ℕ) (before after : List ℕ) → IsRun encoding (drop place bytes) before after run → Continues encoding treat last bytes place before → Continues encoding treat last bytes (place + run) after
Continues-run encoding treat last bytes place run before after is continues =
    let left = drop place bytes in
    let own = walk-own encoding treat last Unknown place is.text (take run left) (drop run left) is.scalars is.written in
    let split : walk_here encoding treat last bytes place ≡ walk_from encoding treat last Unknown place 0 (take run left ++ drop run left) = ap (λ b. walk_from encoding treat last Unknown place 0 b) (sym (take-append-drop run left)) in
    let behind : walk_from encoding treat last Unknown (place + length (take run left)) 0 (drop run left) ≡ walk_here encoding treat last bytes (place + run) =
    ap (λ n. walk_from encoding treat last Unknown (place + n) 0 (drop run left)) (length-take-le run left is.within) ∙ ap (λ b. walk_from encoding treat last Unknown (place + run) 0 b) (drop-drop run place bytes) in
    further encoding treat last bytes place (place + run) before after is.text (omega (arith, is.within, length-drop place bytes, continues.inside))
    (ap (λ (w : Walk). characters_of w.items) split ∙ own.characters ∙ ap (λ (w : Walk). is.text ++ characters_of w.items) behind)
    (ap (λ (w : Walk). w.ending) split ∙ own.ending ∙ ap (λ (w : Walk). w.ending) behind)
    is.appended continues

-- no bytes begin with nothing
unit-none : (encoding : Encoding) (order : Order) (at_start : Bool) → first_unit encoding order at_start [] ≡ None
unit-none Utf8 order at_start = refl
unit-none Latin1 order at_start = refl
unit-none Ascii order at_start = refl
unit-none Utf16Le order at_start = refl
unit-none Utf16Be order at_start = refl

item-none : (encoding : Encoding) (treat : Treatment) (last : Bool) (place : ℕ) → first_item encoding treat last Unknown place [] ≡ Unfinished
item-none encoding treat last place = ap (item_of treat last place []) (unit-none encoding Unknown (nat_eq place 0))

-- a walk that begins with an item that is given
walk_given : (encoding : Encoding) (treat : Treatment) (last : Bool) (place used : ℕ) (left cs : List ℕ) → 1 ≤ used → first_item encoding treat last Unknown place left ≡ Given cs used → walk_from encoding treat last Unknown place 0 left ≡ onto_walk Unknown place (Given cs used) (walk_from encoding treat last Unknown (place + used) 0 (drop used left))
walk_given encoding treat last place used [] cs some first =
    let none = item-none encoding treat last place in
    absurd (cc)
walk_given encoding treat last place used (byte ∷ rest) cs some first =
    let behind : suc (used - 1) ≡ used = omega arith in
    walk-given encoding treat last Unknown place byte rest cs used some first
    ∙ ap (λ k. onto_walk Unknown place (Given cs used) (walk_from encoding treat last Unknown (place + used) 0 (drop k (byte ∷ rest)))) behind

-- the walk from a place on begins with the item there, and goes on behind it
pub here-given : (encoding : Encoding) (treat : Treatment) (last : Bool) (bytes : List ℕ) (place used : ℕ) (cs : List ℕ) → 1 ≤ used → first_item encoding treat last Unknown place (drop place bytes) ≡ Given cs used → walk_here encoding treat last bytes place ≡ onto_walk Unknown place (Given cs used) (walk_here encoding treat last bytes (place + used))
here-given encoding treat last bytes place used cs some first =
    walk_given encoding treat last place used (drop place bytes) cs some first
    ∙ ap (λ b. onto_walk Unknown place (Given cs used) (walk_from encoding treat last Unknown (place + used) 0 b)) (drop-drop used place bytes)

-- an item that is given is out
pub Continues-given : (encoding : Encoding) (treat : Treatment) (last : Bool) (bytes : List ℕ) (place used : ℕ) (before after cs : List ℕ) → 1 ≤ used → place + used ≤ length bytes → first_item encoding treat last Unknown place (drop place bytes) ≡ Given cs used → after ≡ before ++ cs → Continues encoding treat last bytes place before → Continues encoding treat last bytes (place + used) after
Continues-given encoding treat last bytes place used before after cs some inside first appended continues =
    let step = here-given encoding treat last bytes place used cs some first in
    further encoding treat last bytes place (place + used) before after cs inside
    (ap (λ (w : Walk). characters_of w.items) step) (ap (λ (w : Walk). w.ending) step) appended continues

-- where the walk from a place on has no items, what is out is all
all_out : (encoding : Encoding) (treat : Treatment) (last : Bool) (bytes : List ℕ) (place : ℕ) (out : List ℕ) (ending : Ending) (refusal : ℕ → ℕ → IoFault) → walk_here encoding treat last bytes place ≡ ends Unknown ending → Continues encoding treat last bytes place out → decoding_of (walk_here encoding treat last bytes 0) (length bytes) refusal ≡ ended out (length bytes) refusal ending
all_out encoding treat last bytes place out ending refusal here continues =
    let characters : characters_of (walk_here encoding treat last bytes 0).items ≡ out =
    sym continues.characters ∙ ap (λ (w : Walk). out ++ characters_of w.items) here ∙ append-nil out in
    let ends : (walk_here encoding treat last bytes 0).ending ≡ ending = sym continues.ending ∙ ap (λ (w : Walk). w.ending) here in
    ap (λ cs. ended cs (length bytes) refusal (walk_here encoding treat last bytes 0).ending) characters ∙ ap (λ e. ended out (length bytes) refusal e) ends

-- the walk from the end of the bytes on
pub here-end : (encoding : Encoding) (treat : Treatment) (last : Bool) (bytes : List ℕ) (place : ℕ) → drop place bytes ≡ [] → walk_here encoding treat last bytes place ≡ ends Unknown AtEnd
here-end encoding treat last bytes place is = ap (λ b. walk_from encoding treat last Unknown place 0 b) is

-- the walk from a place on where bytes stand that may still become a character
pub here-cut : (encoding : Encoding) (treat : Treatment) (last : Bool) (bytes : List ℕ) (place byte : ℕ) (rest : List ℕ) → drop place bytes ≡ byte ∷ rest → first_item encoding treat last Unknown place (byte ∷ rest) ≡ Unfinished → walk_here encoding treat last bytes place ≡ ends Unknown (AtCut place)
here-cut encoding treat last bytes place byte rest is first =
    ap (λ b. walk_from encoding treat last Unknown place 0 b) is ∙ ap (λ item. onto_walk Unknown place item (walk_from encoding treat last Unknown (place + 1) (used_behind item) rest)) first

-- the walk from a place on where a refused range stands
pub here-refused : (encoding : Encoding) (treat : Treatment) (last : Bool) (bytes : List ℕ) (place size : ℕ) (left : List ℕ) → drop place bytes ≡ left → first_item encoding treat last Unknown place left ≡ RefusedRange size → walk_here encoding treat last bytes place ≡ ends Unknown (AtRange place (place + size))
here-refused encoding treat last bytes place size [] is first =
    let none = item-none encoding treat last place in
    absurd (cc)
here-refused encoding treat last bytes place size (byte ∷ rest) is first =
    ap (λ b. walk_from encoding treat last Unknown place 0 b) is ∙ ap (λ item. onto_walk Unknown place item (walk_from encoding treat last Unknown (place + 1) (used_behind item) rest)) first

unfinished : (encoding : Encoding) (treat : Treatment) (last : Bool) (bytes : List ℕ) (place : ℕ) (out : List ℕ) (refusal : ℕ → ℕ → IoFault) (left : List ℕ) → drop place bytes ≡ left → first_item encoding treat last Unknown place left ≡ Unfinished → Continues encoding treat last bytes place out → decoding_of (walk_here encoding treat last bytes 0) (length bytes) refusal ≡ Ok (out, place)
unfinished encoding treat last bytes place out refusal [] is first continues =
    let all : length bytes ≡ place = omega (arith, length-drop place bytes, ap length is, continues.inside) in
    all_out encoding treat last bytes place out AtEnd refusal (here-end encoding treat last bytes place is) continues ∙ ap (λ n. Ok (out, n)) all
unfinished encoding treat last bytes place out refusal (byte ∷ rest) is first continues =
    all_out encoding treat last bytes place out (AtCut place) refusal (here-cut encoding treat last bytes place byte rest is first) continues

-- where the first item is unfinished, there is no more to decode
pub answer-unfinished : (encoding : Encoding) (treat : Treatment) (last : Bool) (bytes : List ℕ) (place : ℕ) (out after : List ℕ) (refusal : ℕ → ℕ → IoFault) → first_item encoding treat last Unknown place (drop place bytes) ≡ Unfinished → after ≡ out → Continues encoding treat last bytes place out → decoding_of (walk_here encoding treat last bytes 0) (length bytes) refusal ≡ Ok (after, place)
answer-unfinished encoding treat last bytes place out after refusal first same continues =
    unfinished encoding treat last bytes place out refusal (drop place bytes) refl first continues ∙ ap (λ o. Ok (o, place)) (sym same)

-- a refused range that comes first of what is left is the refusal of all
pub answer-refused : (encoding : Encoding) (treat : Treatment) (last : Bool) (bytes : List ℕ) (place size : ℕ) (out : List ℕ) (refusal : ℕ → ℕ → IoFault) (why : IoFault) → first_item encoding treat last Unknown place (drop place bytes) ≡ RefusedRange size → why ≡ refusal place (place + size) → Continues encoding treat last bytes place out → decoding_of (walk_here encoding treat last bytes 0) (length bytes) refusal ≡ Err why
answer-refused encoding treat last bytes place size out refusal why first is continues =
    all_out encoding treat last bytes place out (AtRange place (place + size)) refusal (here-refused encoding treat last bytes place size (drop place bytes) refl first) continues ∙ ap (λ w. Err w) (sym is)
