-- The front of a decoding, passed some items at a time.
use Rattle.std.proofs.Common.{◌≡◌, ℕ, zero, suc, ◌+◌, ◌-◌, ◌^◌, ◌<◌, ◌≤◌, Bool, nat_eq, List, [], ◌∷◌, ◌++◌, length as len, take, drop, Some, IfSome, Result, Ok, Err, IfOk, String, refl, sym, ap, subst, ◌∙◌, arith}
use Rattle.std.specs.declared.alloc.AllocError.{AllocError}
use Rattle.std.specs.declared.alloc.Global.{Global}
use Rattle.std.specs.Char.{IsScalar}
use Rattle.std.specs.List.{All}
use Rattle.std.proofs.Math.Seq.{drop-append_seam}
use Rattle.std.proofs.lemmas.List.{append-nil, append_assoc, length-append, length-take-le, take-append-drop, drop-drop}
use Rattle.std.proofs.lemmas.List.Elements.{All-head, All-tail}
use Rattle.py_plain.specs.declared.encoding.Encoding.{Encoding}
use Rattle.py_plain.specs.Units.{Order, Unknown}
use Rattle.py_plain.specs.UnitLaws.{IsWithin}
use Rattle.py_plain.specs.Handlers.{Treatment}
use Rattle.py_plain.specs.Items.{Item, Given, RefusedRange, Unfinished, first_item, Ending, AtEnd, AtRange, AtCut, Walk, ends, onto_walk, walk_from, characters_of}
use Rattle.py_plain.specs.Pieces.{items_before}
use Rattle.py_plain.specs.Encode.{own_bytes, text_bytes}
use Rattle.py_plain.proofs.AnyUnits.{unit_within_any}
use Rattle.py_plain.proofs.OwnBytes.{own_unit}
use Rattle.py_plain.proofs.OwnText.{joined_bytes-parts}
use Rattle.py_plain.proofs.Walks.{walk-character, characters-append}
use Rattle.py_codec.specs.declared.front.FrontStop.{FrontStop}
use Rattle.py_codec.specs.declared.front.FrontStop.TheVariants.{Wanted, Refused, Drained}
use Rattle.py_codec.specs.declared.front.Passed.{Passed}
use Rattle.py_codec.specs.Answers.{text_of}
use Rattle.py_blocks.specs.Runs.{IsRun}
use Rattle.py_codec.specs.Decoding.{walk_here}
use Rattle.py_codec.specs.Front.{items_for, bytes_in, front_stop, GivesFront}
use Rattle.py_codec.specs.Passing.{Passes, Stops, PassOutcome}
use Rattle.py_blocks.proofs.Appended.{chars-fit}
use Rattle.py_codec.proofs.Continuing.{here-end, here-cut, here-refused}

-- Passing.

bytes_in-append : (items more : List Item) → bytes_in (items ++ more) ≡ bytes_in items + bytes_in more
bytes_in-append [] more = omega arith
bytes_in-append (item ∷ items) more = omega (arith, bytes_in-append items more)

-- nothing is passed
pub Passes-none : (walk behind : Walk) (want : ℕ) (before after : List ℕ) (used : ℕ) → walk ≡ behind → after ≡ before → used ≡ 0 → Passes walk behind want before after used 0 0
Passes-none walk behind want before after used is same none =
    let all : want ≡ want - 0 = omega arith in
    record {
      items = [];
      front = ap (λ (w : Walk). items_for want w.items) is ∙ ap (λ (k : ℕ). items_for k behind.items) all;
      whole = is;
      appended = same ∙ sym (append-nil before);
      used_is = none;
      chars_is = refl;
      count_is = refl;
    }

-- what is passed, in other words for the same
pub Passes-as : (walk behind other : Walk) (want : ℕ) (before after text : List ℕ) (used size chars given count further : ℕ) → behind ≡ other → after ≡ text → used ≡ size → chars ≡ given → count ≡ further → Passes walk behind want before after used chars count → Passes walk other want before text size given further
Passes-as walk behind other want before after text used size chars given count further there texts sizes givens counts passes = record {
  items = passes.items;
  front = passes.front ∙ (ap (λ (k : ℕ). passes.items ++ items_for (want - k) behind.items) givens ∙ ap (λ (w : Walk). passes.items ++ items_for (want - given) w.items) there);
  whole = passes.whole ∙ ap (items_before passes.items) there;
  appended = sym texts ∙ passes.appended;
  used_is = sym sizes ∙ passes.used_is;
  chars_is = sym givens ∙ passes.chars_is;
  count_is = sym counts ∙ passes.count_is;
}

-- items are passed, and then more
Passes-more : (walk between behind : Walk) (want : ℕ) (before middle after : List ℕ) (used chars count more given further : ℕ) → Passes walk between want before middle used chars count → Passes between behind (want - chars) middle after more given further → Passes walk behind want before after (used + more) (chars + given) (count + further)
Passes-more walk between behind want before middle after used chars count more given further first second =
    let items : List Item = first.items ++ second.items in
    let both : characters_of items ≡ characters_of first.items ++ characters_of second.items = characters-append first.items second.items in
    let lacks : want - chars - given ≡ want - (chars + given) = omega arith in
    record {
      items = items;
      front = first.front
          ∙ (ap (λ (is : List Item). first.items ++ is) second.front
          ∙ (sym (append_assoc first.items second.items (items_for (want - chars - given) behind.items))
          ∙ ap (λ (k : ℕ). items ++ items_for k behind.items) lacks));
      whole = first.whole
          ∙ (ap (items_before first.items) second.whole
          ∙ ap (λ (is : List Item). record behind { items = is }) (sym (append_assoc first.items second.items behind.items)));
      appended = second.appended
          ∙ (ap (λ (cs : List ℕ). cs ++ characters_of second.items) first.appended
          ∙ (append_assoc before (characters_of first.items) (characters_of second.items)
          ∙ ap (λ (cs : List ℕ). before ++ cs) (sym both)));
      used_is = omega (arith, first.used_is, second.used_is, bytes_in-append first.items second.items);
      chars_is = omega (arith, first.chars_is, second.chars_is, ap (λ (cs : List ℕ). len cs) both, length-append (characters_of first.items) (characters_of second.items));
      count_is = omega (arith, first.count_is, second.count_is, length-append first.items second.items);
    }

-- more is passed, with the steps that both took
pub Passes-next : (walk : Walk) (ahead : ℕ → Walk) (want : ℕ) (before middle after : List ℕ) (used chars more given steps now later : ℕ) → steps ≤ now → now ≤ later → Passes walk (ahead used) want before middle used chars (now - steps) → Passes (ahead used) (ahead (used + more)) (want - chars) middle after more given (later - now) → Passes walk (ahead (used + more)) want before after (used + more) (chars + given) (later - steps)
Passes-next walk ahead want before middle after used chars more given steps now later since further first second =
    let taken : now - steps + (later - now) ≡ later - steps = omega (arith, since, further) in
    Passes-as walk (ahead (used + more)) (ahead (used + more)) want before after after (used + more) (used + more) (chars + given) (chars + given) (now - steps + (later - now)) (later - steps) refl refl refl refl taken
    (Passes-more walk (ahead used) (ahead (used + more)) want before middle after used chars (now - steps) more given (later - now) first second)

one_for : (want : ℕ) (item : Item) (items : List Item) → 1 ≤ want → items_for want (item ∷ items) ≡ item ∷ items_for (want - len item.characters) items
one_for zero item items some = absurd (omega (arith, some))
one_for (suc more) item items some = refl

-- one item is passed, where any characters are wanted
pub Passes-item : (order : Order) (walk behind : Walk) (place want used : ℕ) (before after characters : List ℕ) → 1 ≤ want → walk ≡ onto_walk order place (Given characters used) behind → after ≡ before ++ characters → Passes walk behind want before after used (len characters) 1
Passes-item order walk behind place want used before after characters some is more =
    let item : Item = record { start = place; length = used; order = order; characters = characters } in
    record {
      items = item ∷ [];
      front = ap (λ (w : Walk). items_for want w.items) is ∙ one_for want item behind.items some;
      whole = is;
      appended = more ∙ ap (λ (cs : List ℕ). before ++ cs) (sym (append-nil characters));
      used_is = omega arith;
      chars_is = ap (λ (cs : List ℕ). len cs) (sym (append-nil characters));
      count_is = refl;
    }

-- no more characters were passed than memory has
pub passed_fit : (walk behind : Walk) (want : ℕ) (before after : String Global) (used chars count : ℕ) → Passes walk behind want (text_of before) (text_of after) used chars count → chars < 2 ^ 63
passed_fit walk behind want before after used chars count passes =
    omega (arith, passes.chars_is, ap (λ (cs : List ℕ). len cs) passes.appended, length-append (text_of before) (characters_of passes.items), chars-fit after)

-- Runs of characters.

empty : (cs : List ℕ) → len cs ≤ 0 → cs ≡ []
empty [] none = refl
empty (c ∷ cs) none = absurd (omega (arith, none))

-- a character has a byte
own_some : (encoding : Encoding) (c : ℕ) (own : List ℕ) → IsScalar c → own_bytes encoding c ≡ Some own → 1 ≤ len own
own_some encoding c own scalar is =
    let unit = own_unit encoding Unknown (nat_eq 0 0) c own [] scalar is in
    let within = subst (λ unit. IfSome unit (λ u. IsWithin u (len (own ++ [])))) unit (unit_within_any encoding Unknown (nat_eq 0 0) (own ++ [])) in
    within.0

-- a text has no more characters than bytes
text_short : (encoding : Encoding) (text bytes : List ℕ) → All IsScalar text → text_bytes encoding text ≡ Some bytes → len text ≤ len bytes
text_short encoding [] bytes scalars is = omega arith
text_short encoding (c ∷ text) bytes scalars is =
    let parts = joined_bytes-parts (own_bytes encoding c) (text_bytes encoding text) bytes is in
    omega (
      arith,
      own_some encoding c parts.front (All-head IsScalar c text scalars) parts.front_is,
      text_short encoding text parts.back (All-tail IsScalar c text scalars) parts.back_is,
      ap (λ (bs : List ℕ). len bs) parts.whole,
      length-append parts.front parts.back,
    )

-- the bytes of a text are passed, where no fewer characters are wanted
Passes-own : (encoding : Encoding) (treat : Treatment) (last : Bool) (order : Order) (place want : ℕ) (text bytes rest before : List ℕ) → All IsScalar text → text_bytes encoding text ≡ Some bytes → len text ≤ want → Passes (walk_from encoding treat last order place 0 (bytes ++ rest)) (walk_from encoding treat last order (place + len bytes) 0 rest) want before (before ++ text) (len bytes) (len text) (len text)
Passes-own encoding treat last order place want [] bytes rest before scalars is few =
    let none : [] ≡ bytes = cc in
    let here : place ≡ place + len bytes = omega (arith, ap (λ (bs : List ℕ). len bs) none) in
    let same : walk_from encoding treat last order place 0 (bytes ++ rest) ≡ walk_from encoding treat last order (place + len bytes) 0 rest =
    ap (λ (bs : List ℕ). walk_from encoding treat last order place 0 (bs ++ rest)) (sym none) ∙ ap (λ (p : ℕ). walk_from encoding treat last order p 0 rest) here in
    Passes-none _ _ want before (before ++ []) (len bytes) same (append-nil before) (ap (λ (bs : List ℕ). len bs) (sym none))
Passes-own encoding treat last order place want (c ∷ text) bytes rest before scalars is few =
    let parts = joined_bytes-parts (own_bytes encoding c) (text_bytes encoding text) bytes is in
    let own : List ℕ = parts.front in
    let behind : List ℕ = parts.back ++ rest in
    let unit = own_unit encoding order (nat_eq place 0) c own behind (All-head IsScalar c text scalars) parts.front_is in
    let split : bytes ++ rest ≡ own ++ behind = ap (λ (bs : List ℕ). bs ++ rest) parts.whole ∙ append_assoc own parts.back rest in
    let first : walk_from encoding treat last order place 0 (bytes ++ rest) ≡ onto_walk order place (Given (c ∷ []) (len own)) (walk_from encoding treat last order (place + len own) 0 behind) =
    ap (λ (bs : List ℕ). walk_from encoding treat last order place 0 bs) split
    ∙ (walk-character encoding treat last order place (own ++ behind) c (len own) unit
    ∙ ap (λ (bs : List ℕ). onto_walk order place (Given (c ∷ []) (len own)) (walk_from encoding treat last order (place + len own) 0 bs)) (drop-append_seam own behind)) in
    let one = Passes-item order _ _ place want (len own) before (before ++ c ∷ []) (c ∷ []) (omega (arith, few)) first refl in
    let further = Passes-own encoding treat last order (place + len own) (want - 1) text parts.back rest (before ++ c ∷ []) (All-tail IsScalar c text scalars) parts.back_is (omega (arith, few)) in
    let both = Passes-more _ _ _ want before (before ++ c ∷ []) ((before ++ c ∷ []) ++ text) (len own) 1 1 (len parts.back) (len text) (len text) one further in
    let size : len own + len parts.back ≡ len bytes = omega (arith, length-append own parts.back, ap (λ (bs : List ℕ). len bs) parts.whole) in
    let far : place + len own + len parts.back ≡ place + len bytes = omega (arith, size) in
    let more : 1 + len text ≡ suc (len text) = omega arith in
    Passes-as _ _ _ want before _ _ _ _ _ _ _ _
    (ap (λ (p : ℕ). walk_from encoding treat last order p 0 rest) far) (append_assoc before (c ∷ []) text) size more more both

-- a run of whole characters is passed, in no more bytes than characters are wanted
pub Passes-run : (encoding : Encoding) (treat : Treatment) (last : Bool) (bytes : List ℕ) (place want run : ℕ) (before after : List ℕ) (is : IsRun encoding (drop place bytes) before after run) → run ≤ want → Passes (walk_here encoding treat last bytes place) (walk_here encoding treat last bytes (place + run)) want before after run (len is.text) (len is.text)
Passes-run encoding treat last bytes place want run before after is few =
    let left : List ℕ = drop place bytes in
    let size : len (take run left) ≡ run = length-take-le run left is.within in
    let short = text_short encoding is.text (take run left) is.scalars is.written in
    let own = Passes-own encoding treat last Unknown place want is.text (take run left) (drop run left) before is.scalars is.written (omega (arith, short, size, few)) in
    let split : take run left ++ drop run left ≡ left = take-append-drop run left in
    let there : walk_from encoding treat last Unknown (place + len (take run left)) 0 (drop run left) ≡ walk_here encoding treat last bytes (place + run) =
    ap (λ (n : ℕ). walk_from encoding treat last Unknown (place + n) 0 (drop run left)) size ∙ ap (λ (b : List ℕ). walk_from encoding treat last Unknown (place + run) 0 b) (drop-drop run place bytes) in
    Passes-as _ _ _ want before _ _ _ _ _ _ _ _ there (sym is.appended) size refl refl
    (subst (λ (b : List ℕ). Passes (walk_from encoding treat last Unknown place 0 b) (walk_from encoding treat last Unknown (place + len (take run left)) 0 (drop run left)) want before (before ++ is.text) (len (take run left)) (len is.text) (len is.text)) split own)

-- a run of no bytes has no characters
pub run_none : (encoding : Encoding) (bytes before after : List ℕ) (run : ℕ) → IsRun encoding bytes before after run → run ≡ 0 → after ≡ before
run_none encoding bytes before after run is none =
    let short = text_short encoding is.text (take run bytes) is.scalars is.written in
    is.appended ∙ (ap (λ (cs : List ℕ). before ++ cs) (empty is.text (omega (arith, short, length-take-le run bytes is.within, none))) ∙ append-nil before)

-- an item that is passed from a text is so from the same text before it, and from the same number of steps
pub pass_from : (want left : ℕ) (walk : Walk) (ahead : ℕ → Walk) (before between after : List ℕ) (one steps : ℕ) (result : Result Passed AllocError) → 1 ≤ want → between ≡ before → one ≡ steps → IfOk result (λ passed. (n : ℕ) → 1 ≤ n → PassOutcome n left walk ahead between after one passed) → IfOk result (PassOutcome want left walk ahead before after steps)
pass_from want left walk ahead before between after one steps (Ok passed) some same count outcome =
    subst (λ (text : List ℕ). PassOutcome want left walk ahead text after steps passed) same
    (subst (λ (n : ℕ). PassOutcome want left walk ahead between after n passed) count (outcome want some))
pass_from want left walk ahead before between after one steps (Err why) some same count outcome = tt

-- What a front comes to.

none_for : (want : ℕ) (items : List Item) → items ≡ [] → items_for want items ≡ []
none_for zero items none = refl
none_for (suc more) [] none = refl
none_for (suc more) (item ∷ items) none = absurd (cc)

-- the items that were passed are the front, where nothing that stands behind them belongs to it
whole_front : (walk behind : Walk) (want : ℕ) (before after : List ℕ) (used chars count : ℕ) (passes : Passes walk behind want before after used chars count) → items_for (want - chars) behind.items ≡ [] → items_for want walk.items ≡ passes.items
whole_front walk behind want before after used chars count passes none =
    passes.front ∙ (ap (λ (is : List Item). passes.items ++ is) none ∙ append-nil passes.items)

-- what was passed is the front, where nothing behind it belongs to it
came_to : (walk : Walk) (ahead : Order → ℕ → Walk) (want : ℕ) (before after : List ℕ) (used chars count steps later : ℕ) (stop : FrontStop) → Passes walk (ahead Unknown used) want before after used chars count → items_for (want - chars) (ahead Unknown used).items ≡ [] → stop ≡ front_stop (want - chars) (ahead Unknown used).ending → steps + count ≤ later → later ≤ steps + count + 1 → GivesFront want (items_for want walk.items) walk ahead before after steps later (record { used = used; chars = chars; stop = stop })
came_to walk ahead want before after used chars count steps later stop passes none stop_is least most =
    let behind : Walk = ahead Unknown used in
    let whole = whole_front walk behind want before after used chars count passes none in
    let front : GivesFront want passes.items walk ahead before after steps later (record { used = used; chars = chars; stop = stop }) = (
      record {
        used = passes.used_is;
        chars = passes.chars_is;
        stop = stop_is
            ∙ (ap (λ (k : ℕ). front_stop (want - k) behind.ending) passes.chars_is
            ∙ ap (λ (w : Walk). front_stop (want - len (characters_of passes.items)) w.ending) (sym passes.whole));
      },
      (Unknown, passes.whole),
      passes.appended,
      (omega (arith, passes.count_is, least), omega (arith, passes.count_is, most)),
    ) in
    subst (λ (items : List Item). GivesFront want items walk ahead before after steps later (record { used = used; chars = chars; stop = stop })) (sym whole) front

-- as many characters as are wanted were passed
pub front_enough : (walk : Walk) (ahead : Order → ℕ → Walk) (want : ℕ) (before after : List ℕ) (used chars count steps later : ℕ) → Passes walk (ahead Unknown used) want before after used chars count → want ≤ chars → later ≡ steps + count → GivesFront want (items_for want walk.items) walk ahead before after steps later (record { used = used; chars = chars; stop = Wanted })
front_enough walk ahead want before after used chars count steps later passes enough taken =
    let none : want - chars ≡ 0 = omega (arith, enough) in
    came_to walk ahead want before after used chars count steps later Wanted passes (ap (λ (k : ℕ). items_for k (ahead Unknown used).items) none) (sym (ap (λ (k : ℕ). front_stop k (ahead Unknown used).ending) none)) (omega (arith, taken)) (omega (arith, taken))

lacking : (missing : ℕ) (ending : Ending) → 1 ≤ missing → front_stop 1 ending ≡ front_stop missing ending
lacking zero ending some = absurd (omega (arith, some))
lacking (suc more) AtEnd some = refl
lacking (suc more) (AtRange start end) some = refl
lacking (suc more) (AtCut start) some = refl

-- characters are wanted, and behind what was passed there are no items
pub front_stopped : (walk : Walk) (ahead : Order → ℕ → Walk) (want : ℕ) (before after : List ℕ) (used chars count steps later : ℕ) (stop : FrontStop) → Passes walk (ahead Unknown used) want before after used chars count → chars < want → Stops (ahead Unknown used) stop → steps + count ≤ later → later ≤ steps + count + 1 → GivesFront want (items_for want walk.items) walk ahead before after steps later (record { used = used; chars = chars; stop = stop })
front_stopped walk ahead want before after used chars count steps later stop passes lacks stops least most =
    came_to walk ahead want before after used chars count steps later stop passes (none_for (want - chars) (ahead Unknown used).items stops.0) (stops.1 ∙ lacking (want - chars) (ahead Unknown used).ending (omega (arith, lacks))) least most

-- what was passed is no more than the front
pub passed_within : (walk behind : Walk) (want : ℕ) (before after : List ℕ) (used chars count : ℕ) → Passes walk behind want before after used chars count → count ≤ len (items_for want walk.items)
passed_within walk behind want before after used chars count passes =
    omega (arith, passes.count_is, ap (λ (is : List Item). len is) passes.front, length-append passes.items (items_for (want - chars) behind.items))

-- What stops a front.

stops_at : (walk : Walk) (order : Order) (ending : Ending) (stop : FrontStop) → walk ≡ ends order ending → stop ≡ front_stop 1 ending → Stops walk stop
stops_at walk order ending stop is stop_is = (ap (λ (w : Walk). w.items) is, stop_is ∙ ap (λ (w : Walk). front_stop 1 w.ending) (sym is))

-- no bytes are left
pub stops_end : (encoding : Encoding) (treat : Treatment) (last : Bool) (bytes : List ℕ) (place : ℕ) → drop place bytes ≡ [] → Stops (walk_here encoding treat last bytes place) Drained
stops_end encoding treat last bytes place none = stops_at _ Unknown AtEnd Drained (here-end encoding treat last bytes place none) refl

stops_left : (encoding : Encoding) (treat : Treatment) (last : Bool) (bytes : List ℕ) (place : ℕ) (left : List ℕ) → drop place bytes ≡ left → first_item encoding treat last Unknown place left ≡ Unfinished → Stops (walk_here encoding treat last bytes place) Drained
stops_left encoding treat last bytes place [] is first = stops_end encoding treat last bytes place is
stops_left encoding treat last bytes place (byte ∷ rest) is first = stops_at _ Unknown (AtCut place) Drained (here-cut encoding treat last bytes place byte rest is first) refl

-- what is left is unfinished
pub stops_unfinished : (encoding : Encoding) (treat : Treatment) (last : Bool) (bytes : List ℕ) (place : ℕ) → first_item encoding treat last Unknown place (drop place bytes) ≡ Unfinished → Stops (walk_here encoding treat last bytes place) Drained
stops_unfinished encoding treat last bytes place first = stops_left encoding treat last bytes place (drop place bytes) refl first

-- a refused range comes first of what is left
pub stops_refused : (encoding : Encoding) (treat : Treatment) (last : Bool) (bytes : List ℕ) (place size : ℕ) → first_item encoding treat last Unknown place (drop place bytes) ≡ RefusedRange size → Stops (walk_here encoding treat last bytes place) (Refused place (place + size))
stops_refused encoding treat last bytes place size first =
    stops_at _ Unknown (AtRange place (place + size)) (Refused place (place + size)) (here-refused encoding treat last bytes place size (drop place bytes) refl first) refl
