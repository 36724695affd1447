-- The decoding of bytes in hand, and of what comes behind them, after a front of them was decoded.
use Rattle.std.proofs.Common.{◌≡◌, ℕ, ◌+◌, ◌-◌, ◌≤◌, Bool, true, false, List, [], ◌∷◌, ◌++◌, length as len, take, drop, refl, sym, ap, subst, ◌∙◌, arith, append-nil, append_assoc, true≢false}
use Rattle.std.proofs.lemmas.List.{length-drop, length-take, drop-drop, drop-append-le, take-append-drop, take_all}
use Rattle.py_plain.specs.declared.encoding.Encoding.{Encoding}
use Rattle.py_plain.specs.Units.{Order, Unknown}
use Rattle.py_plain.specs.Handlers.{Treatment}
use Rattle.py_plain.specs.Items.{Item, Ending, AtEnd, AtRange, AtCut, Walk, FirstItem, Given, RefusedRange, Unfinished, first_item, used_behind, ends, onto_walk, walk_from, characters_of, refusal_of}
use Rattle.py_plain.specs.Pieces.{LooksAtRange, walk_at, items_before, place_behind, unused, unless_refused}
use Rattle.py_plain.proofs.Joining.{two}
use Rattle.py_plain.proofs.Walks.{walk-order, characters-append}
use Rattle.py_incremental.proofs.Cuts.{walk_cut}
use Rattle.py_incremental.proofs.Moving.{IgnoresPlace, moved, IsBehind, first_anywhere, walk_moved}

abbrev behind-first : List Item → List Item
behind-first [] = []
behind-first (item ∷ items) = items

-- items that are all, and others behind them, which are none
none-more : (items more : List Item) → items ≡ items ++ more → more ≡ []
none-more [] more is = sym is
none-more (item ∷ items) more is = none-more items more (ap behind-first is)

-- some items of some bytes were decoded: the decoding goes on behind them
pub record Leaves (encoding : Encoding) (treat : Treatment) (last : Bool) (bytes : List ℕ) (used : ℕ) (items : List Item) : Type 0 where
  pub within : used ≤ len bytes
  pub goes_on : walk_at encoding treat last Unknown 0 bytes ≡ items_before items (walk_at encoding treat last Unknown used (drop used bytes))

-- where they are all, nothing of the rest is an item
pub rest-none : (encoding : Encoding) (treat : Treatment) (last : Bool) (bytes : List ℕ) (used : ℕ) (items : List Item) → Leaves encoding treat last bytes used items → items ≡ (walk_at encoding treat last Unknown 0 bytes).items → (walk_at encoding treat last Unknown used (drop used bytes)).items ≡ []
rest-none encoding treat last bytes used items leaves all =
    none-more items (walk_at encoding treat last Unknown used (drop used bytes)).items (all ∙ ap (λ (w : Walk). w.items) leaves.goes_on)

pub rest-ending : (encoding : Encoding) (treat : Treatment) (last : Bool) (bytes : List ℕ) (used : ℕ) (items : List Item) → Leaves encoding treat last bytes used items → (walk_at encoding treat last Unknown used (drop used bytes)).ending ≡ (walk_at encoding treat last Unknown 0 bytes).ending
rest-ending encoding treat last bytes used items leaves = ap (λ (w : Walk). w.ending) (sym leaves.goes_on)

-- a front and what comes behind it, by how the front ends
abbrev pub on-behind : Encoding → Treatment → Bool → List ℕ → List Item → Ending → (place : ℕ) → (left : List ℕ) → Walk
on-behind encoding treat final more items ending place left = items_before items (unless_refused Unknown ending (walk_at encoding treat final Unknown place (left ++ more)))

-- a walk over a front and more, by the walk over the front
pub split : (encoding : Encoding) (treat : Treatment) → LooksAtRange treat → (final : Bool) (place : ℕ) (front more : List ℕ) (ending : Ending) → (walk_at encoding treat false Unknown place front).ending ≡ ending → walk_at encoding treat final Unknown place (front ++ more) ≡ on-behind encoding treat final more (walk_at encoding treat false Unknown place front).items ending (place_behind place front ending) (unused place front ending)
split encoding treat looks final place front more ending is =
    let first : Walk = walk_at encoding treat false Unknown place front in
    sym (two encoding treat looks final Unknown place front more)
    ∙ (ap (λ (order : Order). items_before first.items (unless_refused order first.ending (walk_at encoding treat final order (place_behind place front first.ending) (unused place front first.ending ++ more)))) (walk-order encoding treat false Unknown place 0 front)
    ∙ ap (λ (e : Ending). on-behind encoding treat final more first.items e (place_behind place front e) (unused place front e)) is)

-- the rest of a front goes on where the front does
same-behind : (encoding : Encoding) (treat : Treatment) (final : Bool) (bytes more : List ℕ) (used : ℕ) (items : List Item) (ending : Ending) → used ≤ len bytes → (walk_at encoding treat false Unknown used (drop used bytes)).ending ≡ ending → on-behind encoding treat final more items ending (place_behind 0 bytes ending) (unused 0 bytes ending) ≡ on-behind encoding treat final more items ending (place_behind used (drop used bytes) ending) (unused used (drop used bytes) ending)
same-behind encoding treat final bytes more used items AtEnd within is =
    let same : 0 + len bytes ≡ used + len (drop used bytes) = omega (arith, length-drop used bytes) in
    ap (λ (p : ℕ). on-behind encoding treat final more items AtEnd p []) same
same-behind encoding treat final bytes more used items (AtRange start end) within is = refl
same-behind encoding treat final bytes more used items (AtCut start) within is =
    let cut = walk_cut encoding treat false Unknown used 0 (drop used bytes) start is in
    let same : start - 0 ≡ used + (start - used) = omega (arith, cut.past) in
    ap (λ (left : List ℕ). on-behind encoding treat final more items (AtCut start) start left) (ap (λ (k : ℕ). drop k bytes) same ∙ sym (drop-drop (start - used) used bytes))

pub both-before : (first second : List Item) (walk : Walk) → items_before (first ++ second) walk ≡ items_before first (items_before second walk)
both-before first second walk = ap (λ (items : List Item). record walk { items = items }) (append_assoc first second walk.items)

-- whatever comes behind, while more may come
on-while : (encoding : Encoding) (treat : Treatment) → LooksAtRange treat → (bytes : List ℕ) (used : ℕ) (items : List Item) → Leaves encoding treat false bytes used items → (final : Bool) (more : List ℕ) → walk_at encoding treat final Unknown 0 (bytes ++ more) ≡ items_before items (walk_at encoding treat final Unknown used (drop used bytes ++ more))
on-while encoding treat looks bytes used items leaves final more =
    let rest : List ℕ = drop used bytes in
    let all : List Item = (walk_at encoding treat false Unknown 0 bytes).items in
    let behind : List Item = (walk_at encoding treat false Unknown used rest).items in
    let ending : Ending = (walk_at encoding treat false Unknown used rest).ending in
    split encoding treat looks final 0 bytes more ending (sym (rest-ending encoding treat false bytes used items leaves))
    ∙ (same-behind encoding treat final bytes more used all ending leaves.within refl
    ∙ (ap (λ (is : List Item). on-behind encoding treat final more is ending (place_behind used rest ending) (unused used rest ending)) (ap (λ (w : Walk). w.items) leaves.goes_on)
    ∙ (both-before items behind (unless_refused Unknown ending (walk_at encoding treat final Unknown (place_behind used rest ending) (unused used rest ending ++ more)))
    ∙ ap (items_before items) (sym (split encoding treat looks final used rest more ending refl)))))

-- nothing comes behind
on-last : (encoding : Encoding) (treat : Treatment) (last : Bool) (bytes more : List ℕ) (used : ℕ) (items : List Item) → Leaves encoding treat last bytes used items → more ≡ [] → walk_at encoding treat last Unknown 0 (bytes ++ more) ≡ items_before items (walk_at encoding treat last Unknown used (drop used bytes ++ more))
on-last encoding treat last bytes more used items leaves none =
    ap (λ (m : List ℕ). walk_at encoding treat last Unknown 0 (bytes ++ m)) none
    ∙ (ap (walk_at encoding treat last Unknown 0) (append-nil bytes)
    ∙ (leaves.goes_on
    ∙ ap (λ (b : List ℕ). items_before items (walk_at encoding treat last Unknown used b)) (sym (append-nil (drop used bytes)) ∙ ap (λ (m : List ℕ). drop used bytes ++ m) (sym none))))

-- Some items of the first bytes in hand, whatever comes behind those.

-- some items of some bytes were decoded: whatever comes behind the bytes, the decoding goes on behind the items; `last` says that nothing
-- comes
pub record Passed (encoding : Encoding) (treat : Treatment) (last : Bool) (bytes : List ℕ) (used : ℕ) (items : List Item) : Type 0 where
  pub within : used ≤ len bytes
  pub whole : (more : List ℕ) → (last ≡ true → more ≡ []) → walk_at encoding treat true Unknown 0 (bytes ++ more) ≡ items_before items (walk_at encoding treat true Unknown used (drop used bytes ++ more))
  pub so_far : last ≡ false → (more : List ℕ) → walk_at encoding treat false Unknown 0 (bytes ++ more) ≡ items_before items (walk_at encoding treat false Unknown used (drop used bytes ++ more))

-- a part of some bytes, and what comes behind it
pub part-joined : (bytes more : List ℕ) (size : ℕ) → bytes ++ more ≡ take size bytes ++ (drop size bytes ++ more)
part-joined bytes more size = ap (λ (b : List ℕ). b ++ more) (sym (take-append-drop size bytes)) ∙ append_assoc (take size bytes) (drop size bytes) more

-- what is left of a part, and what stands behind it
pub part-left : (bytes : List ℕ) (size used : ℕ) → used ≤ len (take size bytes) → drop used bytes ≡ drop used (take size bytes) ++ drop size bytes
part-left bytes size used within = ap (drop used) (sym (take-append-drop size bytes)) ∙ drop-append-le used (take size bytes) (drop size bytes) within

passed-while : (encoding : Encoding) (treat : Treatment) → LooksAtRange treat → (bytes : List ℕ) (size used : ℕ) (items : List Item) → Leaves encoding treat false (take size bytes) used items → (final : Bool) (more : List ℕ) → walk_at encoding treat final Unknown 0 (bytes ++ more) ≡ items_before items (walk_at encoding treat final Unknown used (drop used bytes ++ more))
passed-while encoding treat looks bytes size used items leaves final more =
    let part : List ℕ = take size bytes in
    let tail : List ℕ = drop size bytes in
    ap (walk_at encoding treat final Unknown 0) (part-joined bytes more size)
    ∙ (on-while encoding treat looks part used items leaves final (tail ++ more)
    ∙ ap (λ (b : List ℕ). items_before items (walk_at encoding treat final Unknown used b)) (sym (append_assoc (drop used part) tail more) ∙ ap (λ (b : List ℕ). b ++ more) (sym (part-left bytes size used leaves.within))))

pub passed : (encoding : Encoding) (treat : Treatment) → LooksAtRange treat → (last : Bool) (bytes : List ℕ) (size used : ℕ) (items : List Item) → (last ≡ true → size ≡ len bytes) → Leaves encoding treat last (take size bytes) used items → Passed encoding treat last bytes used items
passed encoding treat looks true bytes size used items all leaves =
    let is : take size bytes ≡ bytes = take_all size bytes (omega (arith, all refl)) in
    let own : Leaves encoding treat true bytes used items = subst (λ (b : List ℕ). Leaves encoding treat true b used items) is leaves in
    record {
      within = own.within;
      whole = λ more none. on-last encoding treat true bytes more used items own (none refl);
      so_far = λ more_comes. absurd (true≢false more_comes);
    }
passed encoding treat looks false bytes size used items all leaves = record {
  within = omega (arith, leaves.within, length-take size bytes);
  whole = λ more none. passed-while encoding treat looks bytes size used items leaves true more;
  so_far = λ more_comes more. passed-while encoding treat looks bytes size used items leaves false more;
}

-- A walk without items, at another place.

still-by : (order : Order) (by place : ℕ) (first : FirstItem) (here there : Walk) → (onto_walk order place first here).items ≡ [] → onto_walk order (by + place) first there ≡ ends order (moved by (onto_walk order place first here).ending)
still-by order by place (Given characters used) here there none = absurd (cc)
still-by order by place (RefusedRange size) here there none =
    let same : by + place + size ≡ by + (place + size) = omega arith in
    ap (λ (end : ℕ). ends order (AtRange (by + place) end)) same
still-by order by place Unfinished here there none = refl

pub still : (encoding : Encoding) (treat : Treatment) (last : Bool) (by place : ℕ) (bytes : List ℕ) → IgnoresPlace treat → (walk_at encoding treat last Unknown place bytes).items ≡ [] → walk_at encoding treat last Unknown (by + place) bytes ≡ ends Unknown (moved by (walk_at encoding treat last Unknown place bytes).ending)
still encoding treat last by place [] ignores none = refl
still encoding treat last by place (byte ∷ rest) ignores none =
    let first : FirstItem = first_item encoding treat last Unknown place (byte ∷ rest) in
    ap (λ (item : FirstItem). onto_walk Unknown (by + place) item (walk_from encoding treat last Unknown (by + place + 1) (used_behind item) rest)) (first_anywhere encoding treat last Unknown (by + place) place (byte ∷ rest) ignores)
    ∙ still-by Unknown by place first (walk_from encoding treat last Unknown (place + 1) (used_behind first) rest) _ none

-- What is left, at the place of the stream.

-- a decoding has some characters before those of another, and the same refusal
pub record Precedes (cs : List ℕ) (whole behind : Walk) : Type 0 where
  pub characters : characters_of whole.items ≡ cs ++ characters_of behind.items
  pub refusal : refusal_of whole.ending ≡ refusal_of behind.ending

pub precedes : (encoding : Encoding) (treat : Treatment) → IgnoresPlace treat → (final : Bool) (place used : ℕ) (bytes rest : List ℕ) (items : List Item) → walk_at encoding treat final Unknown 0 bytes ≡ items_before items (walk_at encoding treat final Unknown used rest) → Precedes (characters_of items) (walk_at encoding treat final Unknown place bytes) (walk_at encoding treat final Unknown (place + used) rest)
precedes encoding treat ignores final place used bytes rest items is =
    let here : place + 0 ≡ place = omega arith in
    let near : Walk = walk_at encoding treat final Unknown used rest in
    let whole : IsBehind [] place (walk_at encoding treat final Unknown place bytes) (walk_at encoding treat final Unknown 0 bytes) = subst (λ (p : ℕ). IsBehind [] place (walk_at encoding treat final Unknown p bytes) (walk_at encoding treat final Unknown 0 bytes)) here (walk_moved encoding treat final Unknown place 0 0 bytes ignores) in
    let behind = walk_moved encoding treat final Unknown place used 0 rest ignores in
    record {
      characters = whole.characters ∙ (ap (λ (w : Walk). characters_of w.items) is ∙ (characters-append items near.items ∙ ap (λ (cs : List ℕ). characters_of items ++ cs) (sym behind.characters)));
      refusal = ap refusal_of (whole.ending ∙ (ap (λ (w : Walk). moved place w.ending) is ∙ sym behind.ending));
    }
