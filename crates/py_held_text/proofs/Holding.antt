-- What a text has in hand after a decoding.
use Rattle.std.proofs.Common.{◌≡◌, ℕ, zero, suc, ◌+◌, ◌≤◌, Bool, true, false, ◌||◌, nat_eq, List, [], ◌∷◌, ◌++◌, length as len, take, drop, Option, Some, None, Result, Ok, Err, OnOk, IfSome, refl, sym, ap, subst, ◌∙◌, arith, append_assoc, append-nil, true≢false}
use Rattle.std.proofs.lemmas.List.{length-append, take-append-drop, drop_all, take_all}
use Rattle.py_plain.specs.declared.encoding.Encoding.{Encoding}
use Rattle.py_plain.specs.declared.newlines.Newlines.{Newlines}
use Rattle.py_plain.specs.declared.unit.Unit.{Unit as Read}
use Rattle.py_plain.specs.declared.unit.Unit.TheVariants.{Character, Malformed, Cut}
use Rattle.py_plain.specs.Units.{Order, Unknown, first_unit}
use Rattle.py_plain.specs.UnitLaws.{IsWithin}
use Rattle.py_plain.specs.Handlers.{Handled, Replaced, Refuses, Treatment, treatment, reads_texts}
use Rattle.py_plain.specs.Items.{Item, Ending, AtEnd, AtRange, AtCut, Walk, FirstItem, Given, RefusedRange, Unfinished, item_handled, item_of, first_item, used_behind, ends, onto_walk, walk_from, characters_of, refusal_of}
use Rattle.py_plain.specs.NewlineRule.{read_so_far, read_all, holds_after}
use Rattle.py_plain.specs.Pieces.{LooksAtRange, walk_at, items_before}
use Rattle.py_plain.proofs.AnyUnits.{unit_within_any}
use Rattle.py_plain.proofs.Looking.{reading as looks_at}
use Rattle.py_plain.proofs.Walks.{walk-order}
use Rattle.py_plain_text.specs.Rest.{Rest}
use Rattle.py_codec.specs.declared.front.FrontDecoded.{FrontDecoded}
use Rattle.py_codec.specs.declared.front.FrontStop.TheVariants as stopped
use Rattle.py_codec.specs.Decoding.{walk_here}
use Rattle.py_codec.specs.Front.{items_for, front_stop}
use Rattle.py_incremental.proofs.Cuts.{walk_cut}
use Rattle.py_incremental.proofs.Feeding.{ignores}
use Rattle.py_incremental.proofs.Moving.{IgnoresPlace, moved}
use Rattle.py_text.specs.declared.coder.Coder.{Coder}
use Rattle.py_text.proofs.Joining.{read-both}
use Rattle.py_held_text.specs.declared.base.Mark.{Mark}
use Rattle.py_held_text.specs.Held.{HeldView, mark_by}
use Rattle.py_flat.specs.declared.fault.IoFault.{IoFault}
use Rattle.py_held_text.specs.declared.held_stop.HeldStop.{HeldStop}
use Rattle.py_held_text.specs.Decodes.{Decodes, IsDrained, RefusesNext, PartOutcome, DecodeOutcome}
use Rattle.py_held_text.specs.Known.{KnownView, reading, may_cut, IsPart}
use Rattle.py_held_text.proofs.Decoded.{IsAll, part-all, lacks-refused}
use Rattle.py_held_text.proofs.Reading.{all-both, one-if, read-few}
use Rattle.py_held_text.proofs.Shifting.{shift-items, passes-there}
use Rattle.py_held_text.proofs.Walking.{Leaves, rest-none, rest-ending, split, passed, part-left, still, precedes}

-- Where a walk is refused.

handled-range : (size n : ℕ) (handled : Handled) → item_handled size handled ≡ RefusedRange n → size ≡ n
handled-range size n (Replaced characters used) is = absurd (cc)
handled-range size n Refuses is = cc

item-range : (treat : Treatment) (last : Bool) (place left n : ℕ) (bytes : List ℕ) (unit : Option Read) → IfSome unit (λ whole. IsWithin whole left) → item_of treat last place bytes unit ≡ RefusedRange n → n ≤ left
item-range treat last place left n bytes None within is = absurd (cc)
item-range treat last place left n bytes (Some (Character c m)) within is = absurd (cc)
item-range treat last place left n bytes (Some (Malformed m)) within is = omega (arith, within.1, handled-range m n (treat place bytes m) is)
item-range treat true place left n bytes (Some (Cut m)) within is = omega (arith, within.1, handled-range m n (treat place bytes m) is)
item-range treat false place left n bytes (Some (Cut m)) within is = absurd (cc)

-- a range stands within some bytes at a place
abbrev RangeIn : (place total start end : ℕ) → Type 0
RangeIn place total start end = (start ≤ end) × (end ≤ place + total)

onto-range : (order : Order) (place total start end : ℕ) (first : FirstItem) (walk : Walk) → ((n : ℕ) → first ≡ RefusedRange n → n ≤ total) → (walk.ending ≡ AtRange start end → RangeIn place total start end) → (onto_walk order place first walk).ending ≡ AtRange start end → RangeIn place total start end
onto-range order place total start end (Given characters used) walk here behind is = behind is
onto-range order place total start end (RefusedRange n) walk here behind is =
    let begins : place ≡ start = cc in
    let stops : place + n ≡ end = cc in
    (omega (arith, begins, stops), omega (arith, stops, here n refl))
onto-range order place total start end Unfinished walk here behind is = absurd (cc)

pub range-in : (encoding : Encoding) (treat : Treatment) (last : Bool) (order : Order) (place skip : ℕ) (bytes : List ℕ) (start end : ℕ) → (walk_from encoding treat last order place skip bytes).ending ≡ AtRange start end → RangeIn place (len bytes) start end
range-in encoding treat last order place skip [] start end is = absurd (cc)
range-in encoding treat last order place (suc skip) (byte ∷ rest) start end is =
    let behind = range-in encoding treat last order (place + 1) skip rest start end is in
    (behind.0, omega (arith, behind.1))
range-in encoding treat last order place zero (byte ∷ rest) start end is =
    let bytes : List ℕ = byte ∷ rest in
    let unit : Option Read = first_unit encoding order (nat_eq place 0) bytes in
    let first : FirstItem = first_item encoding treat last order place bytes in
    onto-range order place (len bytes) start end first (walk_from encoding treat last order (place + 1) (used_behind first) rest)
    (λ n refused. item-range treat last place (len bytes) n bytes unit (unit_within_any encoding order (nat_eq place 0) bytes) refused)
    (λ ending. let behind = range-in encoding treat last order (place + 1) (used_behind first) rest start end ending in (behind.0, omega (arith, behind.1)))
    is

-- Why a front has no more.

pub stop-range : (ending : Ending) (start end : ℕ) → front_stop 1 ending ≡ stopped.Refused start end → ending ≡ AtRange start end
stop-range AtEnd start end is = absurd (cc)
stop-range (AtCut at) start end is = absurd (cc)
stop-range (AtRange from to) start end is =
    let begins : from ≡ start = cc in
    let stops : to ≡ end = cc in
    ap (λ (s : ℕ). AtRange s to) begins ∙ ap (AtRange start) stops

pub stop-drained : (ending : Ending) → front_stop 1 ending ≡ stopped.Drained → refusal_of ending ≡ None
stop-drained AtEnd is = refl
stop-drained (AtCut at) is = refl
stop-drained (AtRange from to) is = absurd (cc)

moved-refusal : (by : ℕ) (ending : Ending) → refusal_of ending ≡ None → refusal_of (moved by ending) ≡ None
moved-refusal by AtEnd is = refl
moved-refusal by (AtCut at) is = refl
moved-refusal by (AtRange start end) is = absurd (cc)

-- What is left.

rest-same : (one other : List ℕ) (a b : Option (ℕ × ℕ)) → one ≡ other → a ≡ b → ◌≡◌ {A = Rest} (record { characters = one; refusal = a }) (record { characters = other; refusal = b })
rest-same one other a b characters refusal = ap (λ (cs : List ℕ). record { characters = cs; refusal = a }) characters ∙ ap (λ (r : Option (ℕ × ℕ)). record { characters = other; refusal = r }) refusal

-- what a decoding moved to what is known, and what comes behind it
moved-all : (newline : Newlines) (cr : Bool) (known cs whole behind : List ℕ) → whole ≡ cs ++ behind → (known ++ read_so_far newline cr cs) ++ read_all newline (holds_after newline cr cs) behind ≡ known ++ read_all newline cr whole
moved-all newline cr known cs whole behind is =
    append_assoc known (read_so_far newline cr cs) (read_all newline (holds_after newline cr cs) behind)
    ∙ ap (λ (t : List ℕ). known ++ t) (sym (all-both newline cr cs behind) ∙ ap (read_all newline cr) (sym is))

moved-so-far : (newline : Newlines) (cr : Bool) (known cs whole behind : List ℕ) → whole ≡ cs ++ behind → (known ++ read_so_far newline cr cs) ++ read_so_far newline (holds_after newline cr cs) behind ≡ known ++ read_so_far newline cr whole
moved-so-far newline cr known cs whole behind is =
    append_assoc known (read_so_far newline cr cs) (read_so_far newline (holds_after newline cr cs) behind)
    ∙ ap (λ (t : List ℕ). known ++ t) (sym (read-both newline cr cs behind) ∙ ap (read_so_far newline cr) (sym is))

-- what a text has in hand, by its parts
abbrev pub held-by : Coder → KnownView → (front : ℕ) → List ℕ → (given : ℕ) → Option Mark → (ended : Bool) → List ℕ → (place room : ℕ) → HeldView
held-by coder known front back given mark ended bytes place room = record { encoding = coder.encoding; handler = coder.errors; newline = known.newline; known = known.characters; cr = known.cr; front = front; back = back; given = given; mark = mark; ended = ended; bytes = bytes; place = place; order = Unknown; room = room }

-- the mark once more is decoded, by the characters that came
abbrev pub marked-by : Option Mark → KnownView → (came : List ℕ) → (back : List ℕ) → Option Mark
marked-by mark known came back = mark_by mark (may_cut known.cr came) (len known.characters + one-if known.cr) (len back)

-- the decoding of some bytes alone
abbrev pub whole-walk : Coder → Bool → List ℕ → Walk
whole-walk coder last bytes = walk_at coder.encoding (treatment coder.errors coder.encoding) last Unknown 0 bytes

-- some items of them were decoded
abbrev pub PartDecoded : Coder → Bool → (want : ℕ) → List ℕ → FrontDecoded → Type 0
PartDecoded coder last want bytes decoded = IsPart want (whole-walk coder last bytes) (walk_here coder.encoding (treatment coder.errors coder.encoding) last bytes) decoded

-- a range that refuses a front lies within its bytes
pub refused-within : (coder : Coder) (last : Bool) (want : ℕ) (bytes : List ℕ) (decoded : FrontDecoded) (start end : ℕ) → PartDecoded coder last want bytes decoded → decoded.stop ≡ stopped.Refused start end → RangeIn 0 (len bytes) start end
refused-within coder last want bytes decoded start end part is_refused =
    let all = part-all want (whole-walk coder last bytes) _ decoded part (lacks-refused _ _ start end (sym part.stop ∙ is_refused)) in
    range-in coder.encoding (treatment coder.errors coder.encoding) last Unknown 0 0 bytes start end (stop-range _ start end (sym all.stop ∙ is_refused))

-- those items
abbrev pub part-items : Coder → Bool → (want : ℕ) → List ℕ → List Item
part-items coder last want bytes = items_for want (whole-walk coder last bytes).items

leaves-by : (coder : Coder) (last : Bool) (want : ℕ) (bytes : List ℕ) (decoded : FrontDecoded) → PartDecoded coder last want bytes decoded → decoded.used ≤ len bytes → Leaves coder.encoding (treatment coder.errors coder.encoding) last bytes decoded.used (part-items coder last want bytes)
leaves-by coder last want bytes decoded part within = record { within = within; goes_on = part.goes_on }

decodes-here : (coder : Coder) (known : KnownView) (front : ℕ) (back : List ℕ) (given : ℕ) (mark : Option Mark) (ended : Bool) (bytes : List ℕ) (size place room more_room want : ℕ) (last : Bool) (decoded : FrontDecoded) → reads_texts coder.errors ≡ true → holds_after known.newline known.cr [] ≡ known.cr → (last ≡ true → size ≡ len bytes) → PartDecoded coder last want (take size bytes) decoded → decoded.used ≤ len (take size bytes) → room ≤ more_room → Decodes last (held-by coder known front back given mark ended bytes place room) (held-by coder (reading known (characters_of (part-items coder last want (take size bytes)))) front (back ++ take decoded.used bytes) given (marked-by mark known (characters_of (part-items coder last want (take size bytes))) back) (last || ended) (drop decoded.used bytes) (place + decoded.used) more_room)
decodes-here coder known front back given mark ended bytes size place room more_room want last decoded reads holds all part within more =
    let encoding : Encoding = coder.encoding in
    let treat : Treatment = treatment coder.errors encoding in
    let items : List Item = part-items coder last want (take size bytes) in
    let cs : List ℕ = characters_of items in
    let used : ℕ = decoded.used in
    let rest : List ℕ = drop used bytes in
    let passes = passed encoding treat (looks_at coder.errors encoding reads) last bytes size used items all (leaves-by coder last want (take size bytes) decoded part within) in
    record {
      settings = record { encoding = refl; handler = refl; newline = refl };
      used = used;
      within = passes.within;
      bytes = refl;
      place = refl;
      order = refl;
      room = more;
      back = refl;
      whole = append_assoc back (take used bytes) rest ∙ ap (λ (t : List ℕ). back ++ t) (take-append-drop used bytes);
      front = refl;
      given = refl;
      holds = holds;
      came = cs;
      mark = refl;
      ended = refl;
      grows = refl;
      few = omega (arith, read-few known.newline known.cr cs, length-append known.characters (read_so_far known.newline known.cr cs), part.few, part.chars);
      left = λ further none.
          let walks = precedes encoding treat (ignores coder.errors encoding) true place used (bytes ++ further) (rest ++ further) items (passes.whole further none) in
          rest-same _ _ _ _ (moved-all known.newline known.cr known.characters cs _ _ walks.characters) (sym walks.refusal);
      so_far = λ is further.
          let walks = precedes encoding treat (ignores coder.errors encoding) false place used (bytes ++ further) (rest ++ further) items (passes.so_far is further) in
          rest-same _ _ _ _ (moved-so-far known.newline known.cr known.characters cs _ _ walks.characters) (sym walks.refusal);
      items = λ further none. (shift-items place items, passes-there encoding treat (ignores coder.errors encoding) true place used (bytes ++ further) (rest ++ further) items (passes.whole further none));
      gives = λ further none. (precedes encoding treat (ignores coder.errors encoding) true place used (bytes ++ further) (rest ++ further) items (passes.whole further none)).characters;
      gives_so_far = λ is further. (precedes encoding treat (ignores coder.errors encoding) false place used (bytes ++ further) (rest ++ further) items (passes.so_far is further)).characters;
    }

-- a decoding is what a text in hand does
pub decodes-by : (coder : Coder) (known after : KnownView) (front : ℕ) (back back_now : List ℕ) (given : ℕ) (mark mark_now : Option Mark) (ended ended_now : Bool) (bytes rest : List ℕ) (size place room more_room want : ℕ) (last : Bool) (decoded : FrontDecoded) → reads_texts coder.errors ≡ true → holds_after known.newline known.cr [] ≡ known.cr → (last ≡ true → size ≡ len bytes) → PartDecoded coder last want (take size bytes) decoded → after ≡ reading known (characters_of (part-items coder last want (take size bytes))) → decoded.used ≤ len (take size bytes) → rest ≡ drop decoded.used bytes → back_now ≡ back ++ take decoded.used bytes → mark_now ≡ marked-by mark known (characters_of (part-items coder last want (take size bytes))) back → ended_now ≡ (last || ended) → room ≤ more_room → Decodes last (held-by coder known front back given mark ended bytes place room) (held-by coder after front back_now given mark_now ended_now rest (place + decoded.used) more_room)
decodes-by coder known after front back back_now given mark mark_now ended ended_now bytes rest size place room more_room want last decoded reads holds all part after_is within rest_is back_is mark_is ended_is more =
    subst (λ (k : KnownView). Decodes last (held-by coder known front back given mark ended bytes place room) (held-by coder k front back_now given mark_now ended_now rest (place + decoded.used) more_room)) (sym after_is)
    (subst (λ (r : List ℕ). Decodes last (held-by coder known front back given mark ended bytes place room) (held-by coder (reading known (characters_of (part-items coder last want (take size bytes)))) front back_now given mark_now ended_now r (place + decoded.used) more_room)) (sym rest_is)
    (subst (λ (b : List ℕ). Decodes last (held-by coder known front back given mark ended bytes place room) (held-by coder (reading known (characters_of (part-items coder last want (take size bytes)))) front b given mark_now ended_now (drop decoded.used bytes) (place + decoded.used) more_room)) (sym back_is)
    (subst (λ (m : Option Mark). Decodes last (held-by coder known front back given mark ended bytes place room) (held-by coder (reading known (characters_of (part-items coder last want (take size bytes)))) front (back ++ take decoded.used bytes) given m ended_now (drop decoded.used bytes) (place + decoded.used) more_room)) (sym mark_is)
    (subst (λ (e : Bool). Decodes last (held-by coder known front back given mark ended bytes place room) (held-by coder (reading known (characters_of (part-items coder last want (take size bytes)))) front (back ++ take decoded.used bytes) given (marked-by mark known (characters_of (part-items coder last want (take size bytes))) back) e (drop decoded.used bytes) (place + decoded.used) more_room)) (sym ended_is)
    (decodes-here coder known front back given mark ended bytes size place room more_room want last decoded reads holds all part within more)))))

-- a part that is all
pub all-of : (coder : Coder) (last : Bool) (want : ℕ) (bytes : List ℕ) (size : ℕ) (decoded : FrontDecoded) → size ≡ len bytes → PartDecoded coder last want (take size bytes) decoded → PartDecoded coder last want bytes decoded
all-of coder last want bytes size decoded is part = subst (λ (b : List ℕ). PartDecoded coder last want b decoded) (take_all size bytes (omega (arith, is))) part

-- a decoding of a part, where more may come
pub part-decodes : (all : Bool) (size want : ℕ) (old new : HeldView) (result : Result (Option HeldStop) IoFault) → (all ≡ true → size ≡ len old.bytes) → PartOutcome false size want old result new → DecodeOutcome all old result new
part-decodes all size want old new (Ok None) is outcome = (outcome.0, λ every. (outcome.1 (is every)).some)
part-decodes all size want old new (Ok (Some stop)) is outcome = outcome
part-decodes all size want old new (Err why) is outcome = outcome

-- a decoding of bytes that are known text as they are
pub plain-decodes : (all : Bool) (size want : ℕ) (old new : HeldView) (result : Result (Option HeldStop) IoFault) → 1 ≤ size → OnOk result (len new.bytes + size ≡ len old.bytes) → PartOutcome false size want old result new → DecodeOutcome all old result new
plain-decodes all size want old new (Ok None) some used outcome = (outcome.0, λ every. omega (arith, some, used))
plain-decodes all size want old new (Ok (Some stop)) some used outcome = outcome
plain-decodes all size want old new (Err why) some used outcome = outcome

-- Nothing is left that is an item.

empty-by : (encoding : Encoding) (treat : Treatment) (place byte : ℕ) (rest : List ℕ) (first : FirstItem) (walk : Walk) → (first ≡ Unfinished → ⊥) → (onto_walk Unknown place first walk).items ≡ [] → refusal_of (onto_walk Unknown place first walk).ending ≡ None → byte ∷ rest ≡ []
empty-by encoding treat place byte rest (Given characters used) walk finished none ends = absurd (cc)
empty-by encoding treat place byte rest (RefusedRange n) walk finished none ends = absurd (cc)
empty-by encoding treat place byte rest Unfinished walk finished none ends = absurd (finished refl)

last-empty : (encoding : Encoding) (treat : Treatment) (place : ℕ) (bytes : List ℕ) → (walk_at encoding treat true Unknown place bytes).items ≡ [] → refusal_of (walk_at encoding treat true Unknown place bytes).ending ≡ None → bytes ≡ []
last-empty encoding treat place [] none ends = refl
last-empty encoding treat place (byte ∷ rest) none ends =
    let first : FirstItem = first_item encoding treat true Unknown place (byte ∷ rest) in
    let behind : FirstItem → Walk = λ item. walk_from encoding treat true Unknown (place + 1) (used_behind item) rest in
    empty-by encoding treat place byte rest first (behind first)
    (λ unfinished. true≢false (walk_cut encoding treat true Unknown place 0 (byte ∷ rest) place (ap (λ (item : FirstItem). (onto_walk Unknown place item (behind item)).ending) unfinished)).more)
    none ends

empty-if : (encoding : Encoding) (treat : Treatment) (last : Bool) (place : ℕ) (bytes : List ℕ) → (walk_at encoding treat last Unknown place bytes).items ≡ [] → refusal_of (walk_at encoding treat last Unknown place bytes).ending ≡ None → last ≡ true → bytes ≡ []
empty-if encoding treat true place bytes none ends is = last-empty encoding treat place bytes none ends
empty-if encoding treat false place bytes none ends is = absurd (cc)

pub drained-by : (coder : Coder) (after : KnownView) (front : ℕ) (back : List ℕ) (given : ℕ) (mark : Option Mark) (ended : Bool) (bytes rest : List ℕ) (place room want : ℕ) (last : Bool) (decoded : FrontDecoded) → PartDecoded coder last want bytes decoded → IsAll want (whole-walk coder last bytes) decoded → decoded.used ≤ len bytes → rest ≡ drop decoded.used bytes → decoded.stop ≡ stopped.Drained → IsDrained last (held-by coder after front back given mark ended rest (place + decoded.used) room)
drained-by coder after front back given mark ended bytes rest place room want last decoded part all within rest_is is_drained =
    let encoding : Encoding = coder.encoding in
    let treat : Treatment = treatment coder.errors encoding in
    let used : ℕ = decoded.used in
    let left : List ℕ = drop used bytes in
    let items : List Item = part-items coder last want bytes in
    let leaves = leaves-by coder last want bytes decoded part within in
    let none = rest-none encoding treat last bytes used items leaves all.items in
    let ending : Ending = (walk_at encoding treat last Unknown used left).ending in
    let refusal : refusal_of ending ≡ None = ap refusal_of (rest-ending encoding treat last bytes used items leaves) ∙ stop-drained (whole-walk coder last bytes).ending (sym all.stop ∙ is_drained) in
    let here : walk_at encoding treat last Unknown (place + used) (rest ++ []) ≡ ends Unknown (moved place ending) =
    ap (walk_at encoding treat last Unknown (place + used)) (append-nil rest ∙ rest_is) ∙ still encoding treat last place used left (ignores coder.errors encoding) none in
    record {
      items = ap (λ (w : Walk). w.items) here;
      refusal = ap (λ (w : Walk). refusal_of w.ending) here ∙ moved-refusal place ending refusal;
      none = λ is. rest_is ∙ empty-if encoding treat last used left none refusal is;
    }

-- A range comes next that is refused.

-- a walk that has no items
is-ends : (walk : Walk) (ending : Ending) → walk.items ≡ [] → walk.order ≡ Unknown → walk.ending ≡ ending → walk ≡ ends Unknown ending
is-ends walk ending none unknown is =
    ap (λ (items : List Item). record walk { items = items }) none
    ∙ (ap (λ (order : Order). record { items = []; order = order; ending = walk.ending }) unknown
    ∙ ap (ends Unknown) is)

refuses-while : (encoding : Encoding) (treat : Treatment) → LooksAtRange treat → (final : Bool) (place : ℕ) (bytes more : List ℕ) (start end : ℕ) → (walk_at encoding treat false Unknown place bytes).items ≡ [] → (walk_at encoding treat false Unknown place bytes).ending ≡ AtRange start end → walk_at encoding treat final Unknown place (bytes ++ more) ≡ ends Unknown (AtRange start end)
refuses-while encoding treat looks final place bytes more start end none is =
    split encoding treat looks final place bytes more (AtRange start end) is ∙ ap (λ (items : List Item). items_before items (ends Unknown (AtRange start end))) none

refuses-whole : (encoding : Encoding) (treat : Treatment) → LooksAtRange treat → (last : Bool) (place : ℕ) (bytes more : List ℕ) (start end : ℕ) → (walk_at encoding treat last Unknown place bytes).items ≡ [] → (walk_at encoding treat last Unknown place bytes).ending ≡ AtRange start end → (last ≡ true → more ≡ []) → walk_at encoding treat true Unknown place (bytes ++ more) ≡ ends Unknown (AtRange start end)
refuses-whole encoding treat looks true place bytes more start end none is last =
    ap (λ (m : List ℕ). walk_at encoding treat true Unknown place (bytes ++ m)) (last refl)
    ∙ (ap (walk_at encoding treat true Unknown place) (append-nil bytes)
    ∙ is-ends (walk_at encoding treat true Unknown place bytes) (AtRange start end) none (walk-order encoding treat true Unknown place 0 bytes) is)
refuses-whole encoding treat looks false place bytes more start end none is last = refuses-while encoding treat looks true place bytes more start end none is

refuses-so-far : (encoding : Encoding) (treat : Treatment) → LooksAtRange treat → (last : Bool) (place : ℕ) (bytes more : List ℕ) (start end : ℕ) → (walk_at encoding treat last Unknown place bytes).items ≡ [] → (walk_at encoding treat last Unknown place bytes).ending ≡ AtRange start end → last ≡ false → walk_at encoding treat false Unknown place (bytes ++ more) ≡ ends Unknown (AtRange start end)
refuses-so-far encoding treat looks true place bytes more start end none is more_comes = absurd (true≢false more_comes)
refuses-so-far encoding treat looks false place bytes more start end none is more_comes = refuses-while encoding treat looks false place bytes more start end none is

-- a walk that has no items, at the place of the stream
ends-there : (encoding : Encoding) (treat : Treatment) (final : Bool) (by place : ℕ) (bytes : List ℕ) (start end : ℕ) → IgnoresPlace treat → walk_at encoding treat final Unknown place bytes ≡ ends Unknown (AtRange start end) → walk_at encoding treat final Unknown (by + place) bytes ≡ ends Unknown (AtRange (by + start) (by + end))
ends-there encoding treat final by place bytes start end anywhere is =
    still encoding treat final by place bytes anywhere (ap (λ (w : Walk). w.items) is) ∙ ap (λ (w : Walk). ends Unknown (moved by w.ending)) is

-- a range that is refused comes next, whatever stands behind the part that it was met in
pub refuses-by : (coder : Coder) (after : KnownView) (front : ℕ) (back : List ℕ) (given : ℕ) (mark : Option Mark) (ended : Bool) (bytes rest : List ℕ) (size place room want : ℕ) (last : Bool) (decoded : FrontDecoded) (start end : ℕ) → reads_texts coder.errors ≡ true → (last ≡ true → size ≡ len bytes) → PartDecoded coder last want (take size bytes) decoded → IsAll want (whole-walk coder last (take size bytes)) decoded → decoded.used ≤ len (take size bytes) → rest ≡ drop decoded.used bytes → decoded.stop ≡ stopped.Refused start end → RefusesNext last (held-by coder after front back given mark ended rest (place + decoded.used) room) (place + start) (place + end)
refuses-by coder after front back given mark ended bytes rest size place room want last decoded start end reads whole part all within rest_is is_refused =
    let encoding : Encoding = coder.encoding in
    let treat : Treatment = treatment coder.errors encoding in
    let used : ℕ = decoded.used in
    let front_bytes : List ℕ = take size bytes in
    let left : List ℕ = drop used front_bytes in
    let tail : List ℕ = drop size bytes in
    let looks : LooksAtRange treat = looks_at coder.errors encoding reads in
    let items : List Item = part-items coder last want front_bytes in
    let leaves = leaves-by coder last want front_bytes decoded part within in
    let none = rest-none encoding treat last front_bytes used items leaves all.items in
    let ending = rest-ending encoding treat last front_bytes used items leaves ∙ stop-range (whole-walk coder last front_bytes).ending start end (sym all.stop ∙ is_refused) in
    let joined : (more : List ℕ) → rest ++ more ≡ left ++ (tail ++ more) = λ more. ap (λ (b : List ℕ). b ++ more) (rest_is ∙ part-left bytes size used within) ∙ append_assoc left tail more in
    let nothing : (more : List ℕ) → (last ≡ true → more ≡ []) → last ≡ true → tail ++ more ≡ [] = λ more ends_so is. ap (λ (b : List ℕ). b ++ more) (drop_all size bytes (omega (arith, whole is))) ∙ ends_so is in
    record {
      whole = λ more ends_so. ap (walk_at encoding treat true Unknown (place + used)) (joined more) ∙ ends-there encoding treat true place used (left ++ (tail ++ more)) start end (ignores coder.errors encoding) (refuses-whole encoding treat looks last used left (tail ++ more) start end none ending (nothing more ends_so));
      so_far = λ more_comes more. ap (walk_at encoding treat false Unknown (place + used)) (joined more) ∙ ends-there encoding treat false place used (left ++ (tail ++ more)) start end (ignores coder.errors encoding) (refuses-so-far encoding treat looks last used left (tail ++ more) start end none ending more_comes);
    }
