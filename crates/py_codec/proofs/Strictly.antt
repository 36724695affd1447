-- What is decoded strictly are the own bytes of the text.
use Rattle.std.proofs.Common.{◌≡◌, ℕ, zero, suc, ◌+◌, ◌-◌, ◌<◌, Bool, true, false, nat_eq, List, [], ◌∷◌, ◌++◌, length as len, take, drop, Option, Some, None, Ok, refl, sym, ap, ◌∙◌, arith}
use Rattle.std.specs.List.{All}
use Rattle.std.proofs.lemmas.List.{drop-drop}
use Rattle.std.proofs.lemmas.List.Elements.{All-nil, All-cons, All-head, All-tail}
use Rattle.py_plain.specs.declared.encoding.Encoding.{Encoding}
use Rattle.py_plain.specs.declared.handler.Handler.TheVariants.{Strict}
use Rattle.py_plain.specs.declared.unit.Unit.{Unit as Read}
use Rattle.py_plain.specs.declared.unit.Unit.TheVariants.{Character, Malformed, Cut}
use Rattle.py_plain.specs.Units.{Order, Unknown, first_unit}
use Rattle.py_plain.specs.UnitLaws.{AreBytes}
use Rattle.py_plain.specs.Alone.{bytes_of_item}
use Rattle.py_plain.specs.Handlers.{treatment}
use Rattle.py_plain.specs.Items.{Item, FirstItem, Given, RefusedRange, Unfinished, item_of, first_item, used_behind, Ending, AtEnd, AtRange, AtCut, Walk, onto_walk, walk_from, characters_of}
use Rattle.py_plain.specs.Encode.{own_bytes, joined_bytes, text_bytes}
use Rattle.py_plain.proofs.OwnBytes.{unit_own}
use Rattle.py_codec.specs.declared.handler_ref.HandlerRef.TheVariants.{Builtin}
use Rattle.py_codec.specs.ErrorHandler.{DecodeMeaning}
use Rattle.py_codec.specs.Treating.{decode_fault}
use Rattle.py_codec.specs.Decoding.{walk_by, decoding_by}
use Rattle.py_codec.specs.Laws.{came_past, bytes_of_items}
use Rattle.py_codec.proofs.Ended.{CameTo, answered}
use Rattle.py_codec.proofs.Covering.{none_lost}

-- an item that is a character, whose own bytes are those of the item
pub record IsOwnItem (encoding : Encoding) (bytes : List ℕ) (item : Item) : Type 0 where
  pub character : ℕ
  pub characters_are : item.characters ≡ character ∷ []
  pub own : own_bytes encoding character ≡ Some (bytes_of_item 0 bytes item)

-- items that are characters, each with its own bytes, have the bytes of their text
items_own : (encoding : Encoding) (bytes : List ℕ) (items : List Item) → All (IsOwnItem encoding bytes) items → text_bytes encoding (characters_of items) ≡ Some (bytes_of_items 0 bytes items)
items_own encoding bytes [] all = refl
items_own encoding bytes (item ∷ items) all =
    let head = All-head (IsOwnItem encoding bytes) item items all in
    let behind = items_own encoding bytes items (All-tail (IsOwnItem encoding bytes) item items all) in
    ap (λ (cs : List ℕ). text_bytes encoding (cs ++ characters_of items)) head.characters_are
    ∙ (ap (λ (own : Option (List ℕ)). joined_bytes own (text_bytes encoding (characters_of items))) head.own
    ∙ ap (joined_bytes (Some (bytes_of_item 0 bytes item))) behind)

-- a strict item is a character that is read
item_read : (encoding : Encoding) (last : Bool) (place : ℕ) (rest : List ℕ) (unit : Option Read) (characters : List ℕ) (used : ℕ) → item_of (treatment Strict encoding) last place rest unit ≡ Given characters used → (c : ℕ) × (characters ≡ c ∷ []) × (unit ≡ Some (Character c used))
item_read encoding last place rest None characters used is = absurd (cc)
item_read encoding last place rest (Some (Character c n)) characters used is =
    let same : n ≡ used = cc in
    (c, cc, ap (λ (k : ℕ). Some (Character c k)) same)
item_read encoding last place rest (Some (Malformed n)) characters used is = absurd (cc)
item_read encoding true place rest (Some (Cut n)) characters used is = absurd (cc)
item_read encoding false place rest (Some (Cut n)) characters used is = absurd (cc)

own_onto : (encoding : Encoding) (order : Order) (bytes : List ℕ) (place : ℕ) (first : FirstItem) (walk : Walk) → ((characters : List ℕ) (used : ℕ) → first ≡ Given characters used → IsOwnItem encoding bytes (record { start = place; length = used; order = order; characters = characters })) → All (IsOwnItem encoding bytes) walk.items → All (IsOwnItem encoding bytes) (onto_walk order place first walk).items
own_onto encoding order bytes place (Given characters used) walk here behind = All-cons (IsOwnItem encoding bytes) (record { start = place; length = used; order = order; characters = characters }) walk.items (here characters used refl) behind
own_onto encoding order bytes place (RefusedRange size) walk here behind = All-nil (IsOwnItem encoding bytes)
own_onto encoding order bytes place Unfinished walk here behind = All-nil (IsOwnItem encoding bytes)

own_here : (encoding : Encoding) (last : Bool) (order : Order) (bytes : List ℕ) (place : ℕ) (tail characters : List ℕ) (used : ℕ) → tail ≡ drop place bytes → AreBytes tail → first_item encoding (treatment Strict encoding) last order place tail ≡ Given characters used → IsOwnItem encoding bytes (record { start = place; length = used; order = order; characters = characters })
own_here encoding last order bytes place tail characters used tail_is are is =
    let at_start = nat_eq place 0 in
    let unit = item_read encoding last place tail (first_unit encoding order at_start tail) characters used is in
    let own = unit_own encoding order at_start tail unit.0 used are unit.2 in
    let here : place ≡ place - 0 = omega arith in
    record {
      character = unit.0;
      characters_are = unit.1;
      own = own.1 ∙ (ap (λ (bs : List ℕ). Some (take used bs)) tail_is ∙ ap (λ (k : ℕ). Some (take used (drop k bytes))) here);
    }

own_items : (encoding : Encoding) (last : Bool) (order : Order) (bytes : List ℕ) (place skip : ℕ) (tail : List ℕ) → tail ≡ drop place bytes → AreBytes tail → All (IsOwnItem encoding bytes) (walk_from encoding (treatment Strict encoding) last order place skip tail).items
own_items encoding last order bytes place skip [] tail_is are = All-nil (IsOwnItem encoding bytes)
own_items encoding last order bytes place (suc skip) (byte ∷ rest) tail_is are =
    own_items encoding last order bytes (place + 1) skip rest (ap (drop 1) tail_is ∙ drop-drop 1 place bytes) (All-tail (λ (b : ℕ). b < 0x100) byte rest are)
own_items encoding last order bytes place zero (byte ∷ rest) tail_is are =
    let first : FirstItem = first_item encoding (treatment Strict encoding) last order place (byte ∷ rest) in
    own_onto encoding order bytes place first (walk_from encoding (treatment Strict encoding) last order (place + 1) (used_behind first) rest)
    (λ characters used is. own_here encoding last order bytes place (byte ∷ rest) characters used tail_is are is)
    (own_items encoding last order bytes (place + 1) (used_behind first) rest (ap (drop 1) tail_is ∙ drop-drop 1 place bytes) (All-tail (λ (b : ℕ). b < 0x100) byte rest are))

-- an answered walk came past what it used
came_used : (bytes : List ℕ) (ending : Ending) (used : ℕ) → CameTo (len bytes) ending used → came_past bytes ending ≡ used
came_used bytes AtEnd used came = sym came
came_used bytes (AtCut start) used came = sym came
came_used bytes (AtRange start end) used came = absurd came

pub back : {H : Type 0} (meaning : H → DecodeMeaning) (encoding : Encoding) (last : Bool) (bytes text : List ℕ) (used : ℕ) → AreBytes bytes → decoding_by meaning (Builtin Strict) encoding last bytes ≡ Ok (text, used) → text_bytes encoding text ≡ Some (take used bytes)
back meaning encoding last bytes text used are is =
    let walk : Walk = walk_by meaning (Builtin Strict) encoding last bytes in
    let ends = answered (characters_of walk.items) (len bytes) (decode_fault meaning (Builtin Strict) encoding bytes) walk.ending text used is in
    ap (text_bytes encoding) (sym ends.text_is)
    ∙ (items_own encoding bytes walk.items (own_items encoding last Unknown bytes 0 0 bytes refl are)
    ∙ (ap (λ (bs : List ℕ). Some bs) (none_lost meaning (Builtin Strict) encoding last bytes)
    ∙ ap (λ (k : ℕ). Some (take k bytes)) (came_used bytes walk.ending used ends.came)))
