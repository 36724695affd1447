-- What is told from a base is what is told from the text's own place.
use Rattle.std.proofs.Common.{◌≡◌, ◌⊎◌, inl, inr, ℕ, suc, ◌+◌, ◌-◌, ◌≤◌, Bool, true, false, ◌&&◌, nat_eq, if◌then◌else◌, List, [], ◌∷◌, ◌++◌, length as len, drop, refl, sym, ap, subst, ◌∙◌, arith, append-nil, append_assoc}
use Rattle.std.proofs.lemmas.Bool.{and_parts, cases_lt, eqb-true}
use Rattle.std.proofs.lemmas.List.{length-append, length-drop}
use Rattle.py_flat.specs.Lines.{lf, begins_with_lf}
use Rattle.py_plain.specs.declared.newlines.Newlines.{Newlines}
use Rattle.py_plain.specs.Units.{Order, Unknown}
use Rattle.py_plain.specs.Handlers.{reads_texts}
use Rattle.py_plain.specs.Items.{Item, Walk, Ending, characters_of}
use Rattle.py_plain.specs.Pieces.{walk_at}
use Rattle.py_plain.proofs.Walks.{characters-append}
use Rattle.py_plain_text.specs.TextFile.{TextFile, clean_at}
use Rattle.py_plain_text.specs.Rest.{Rest, decoded}
use Rattle.py_plain_text.specs.Telling.{placed, end_of_item, told}
use Rattle.py_plain_text.proofs.Translated.{none_read}
use Rattle.py_plain_text.proofs.Inside.{treat_of, from_byte, read_of, Walks, Begins, begins}
use Rattle.py_telling.specs.Spots.{spot_cookie, holds, adds, spot_behind}
use Rattle.py_telling.specs.Bases.{given_since, GoesOnFrom}
use Rattle.py_telling.proofs.Walking.{nothing, spot_step, spot_inside}
use Rattle.py_telling.proofs.Counting.{Kind, none_held, holds_more, held_added, grows, adds_within, joint, parted, joined}
use Rattle.py_telling.proofs.Boundaries.{either, held_of, walks_next}
use Rattle.py_telling.proofs.Telling.{joint_spot, left_behind, told_at_spot}

-- An item that the spot lies behind.

pub spot_past : (newline : Newlines) (left : ℕ) (held : Bool) (here : ℕ) (item : Item) (items : List Item) → Kind item.characters → adds held item.characters ≤ left → (1 ≤ left) ⊎ ((held && begins_with_lf (item.characters ++ characters_of items)) ≡ true) → spot_behind newline left held here (item ∷ items) ≡ spot_behind newline (left - adds held item.characters) (holds newline held item.characters) (end_of_item item) items
spot_past newline left held here item items kind within (inl some) = spot_step newline left held here item items some within
spot_past newline left held here item items kind within (inr is) = elim (cases_lt 0 left) [
  | inl some ↦ spot_step newline left held here item items (omega (arith, some)) within
  | inr none ↦ joint_spot newline left held here item items kind (omega (arith, none)) is
]

-- A walk that begins at a boundary.

-- whether a CR is held behind some characters doesn't turn on what stood before them
holds_any : (newline : Newlines) (held : Bool) (cs : List ℕ) → 1 ≤ len cs → holds newline held cs ≡ holds newline false cs
holds_any newline held [] some = absurd (omega (arith, some))
holds_any newline held (c ∷ cs) some = refl

-- one less is added where an LF is one with a CR that is held
adds_less : (held : Bool) (cs more : List ℕ) → 1 ≤ len cs → (joins : Bool) → (held && begins_with_lf (cs ++ more)) ≡ joins → adds held cs ≡ len cs - (if joins then 1 else 0)
adds_less held [] more some joins is = absurd (omega (arith, some))
adds_less held (c ∷ cs) more some joins is = ap (λ (b : Bool). suc (len cs) - (if b then 1 else 0)) is

-- then it is the one character of its item
joint_alone : (held : Bool) (cs more : List ℕ) → Kind cs → 1 ≤ len cs → (held && begins_with_lf (cs ++ more)) ≡ true → len cs ≡ 1
joint_alone held [] more kind some is = absurd (omega (arith, some))
joint_alone held (c ∷ cs) more (inl single) some is = ap len single.1
joint_alone held (c ∷ cs) more (inr unbroken) some is = absurd (omega (arith, unbroken.0, eqb-true c lf (and_parts held (nat_eq c lf) is).1))

-- what is told where a CR is held is what is told where none is, and an LF that is one with it isn't counted
abbrev TellsAlike : Newlines → (held : Bool) → (less left : ℕ) → (here : ℕ) → List Item → Type 0
TellsAlike newline held less left here items = spot_behind newline less held here items ≡ spot_behind newline left false here items

alike_some : (newline : Newlines) (held : Bool) (less left here : ℕ) (item : Item) (items : List Item) → Kind item.characters → 1 ≤ len item.characters → 1 ≤ left → (joins : Bool) → (held && begins_with_lf (item.characters ++ characters_of items)) ≡ joins → less + (if joins then 1 else 0) ≡ left → TellsAlike newline held less left here (item ∷ items)
alike_some newline held less left here item items kind several some true is counted =
    let cs : List ℕ = item.characters in
    let alone : len cs ≡ 1 = joint_alone held cs (characters_of items) kind several is in
    let none : adds held cs ≡ 0 = adds_less held cs (characters_of items) several true is ∙ omega (arith, alone) in
    let one : adds false cs ≡ 1 = omega (arith, alone) in
    let same : less - adds held cs ≡ left - adds false cs = omega (arith, counted, none, one) in
    spot_past newline less held here item items kind (omega (arith, none)) (inr is)
    ∙ (ap (λ (n : ℕ). spot_behind newline n (holds newline held cs) (end_of_item item) items) same
    ∙ (ap (λ (h : Bool). spot_behind newline (left - adds false cs) h (end_of_item item) items) (holds_any newline held cs several)
    ∙ sym (spot_step newline left false here item items some (omega (arith, one, some)))))
alike_some newline held less left here item items kind several some false is counted =
    let cs : List ℕ = item.characters in
    let all : adds held cs ≡ adds false cs = adds_less held cs (characters_of items) several false is in
    let same : less ≡ left = omega (arith, counted) in
    elim (cases_lt left (adds false cs)) [
      | inl inside ↦ spot_inside newline less held here item items (omega (arith, same, some)) (omega (arith, same, all, inside))
          ∙ (ap (λ (n : ℕ). record { start = item.start; length = item.length; skipped = n }) same
          ∙ sym (spot_inside newline left false here item items some inside))
      | inr within ↦ spot_step newline less held here item items (omega (arith, same, some)) (omega (arith, same, all, within))
          ∙ (ap (λ (n : ℕ). spot_behind newline n (holds newline held cs) (end_of_item item) items) (omega (arith, same, all))
          ∙ (ap (λ (h : Bool). spot_behind newline (left - adds false cs) h (end_of_item item) items) (holds_any newline held cs several)
          ∙ sym (spot_step newline left false here item items some within)))
    ]

past_if : (held : Bool) (less left : ℕ) (cs : List ℕ) → 1 ≤ left → (joins : Bool) → (held && begins_with_lf cs) ≡ joins → less + (if joins then 1 else 0) ≡ left → (1 ≤ less) ⊎ ((held && begins_with_lf cs) ≡ true)
past_if held less left cs some true is counted = inr is
past_if held less left cs some false is counted = inl (omega (arith, counted, some))

passed : (newline : Newlines) (held : Bool) (left here : ℕ) (items : List Item) (cs : List ℕ) → cs ≡ [] → spot_behind newline (left - adds held cs) (holds newline held cs) here items ≡ spot_behind newline left held here items
passed newline held left here items cs none =
    let nothing_added : left - adds held cs ≡ left = omega (arith, ap len none, adds_within held cs) in
    ap (λ (n : ℕ). spot_behind newline n (holds newline held cs) here items) nothing_added
    ∙ ap (λ (t : List ℕ). spot_behind newline left (holds newline held t) here items) none

-- an item without characters is passed
alike_none : (newline : Newlines) (held : Bool) (less left here : ℕ) (item : Item) (items : List Item) → Kind item.characters → item.characters ≡ [] → 1 ≤ left → (joins : Bool) → (held && begins_with_lf (characters_of items)) ≡ joins → less + (if joins then 1 else 0) ≡ left → TellsAlike newline held less left (end_of_item item) items → TellsAlike newline held less left here (item ∷ items)
alike_none newline held less left here item items kind none some joins is counted behind =
    let cs : List ℕ = item.characters in
    let whole : (held && begins_with_lf (cs ++ characters_of items)) ≡ joins = ap (λ (t : List ℕ). held && begins_with_lf (t ++ characters_of items)) none ∙ is in
    let past : (1 ≤ less) ⊎ ((held && begins_with_lf (cs ++ characters_of items)) ≡ true) = past_if held less left (cs ++ characters_of items) some joins whole counted in
    let passes : (h : Bool) (n : ℕ) → spot_behind newline (n - adds h cs) (holds newline h cs) (end_of_item item) items ≡ spot_behind newline n h (end_of_item item) items = λ h n. passed newline h n (end_of_item item) items cs none in
    let empty : len cs ≡ 0 = ap len none in
    spot_past newline less held here item items kind (omega (arith, empty, adds_within held cs)) past
    ∙ (passes held less
    ∙ (behind
    ∙ (sym (passes false left)
    ∙ sym (spot_step newline left false here item items some (omega (arith, empty, adds_within false cs))))))

alike : (file : TextFile) → reads_texts file.settings.handler ≡ true → (ending : Ending) (place : ℕ) (items : List Item) → Walks file place items ending → (held : Bool) (less left : ℕ) → 1 ≤ left → (joins : Bool) → (held && begins_with_lf (characters_of items)) ≡ joins → less + (if joins then 1 else 0) ≡ left → TellsAlike file.settings.newline held less left place items
alike file reads ending place [] walks held less left some joins is counted = refl
alike file reads ending place (item ∷ items) walks held less left some joins is counted =
    let cs : List ℕ = item.characters in
    let begin : Begins file place item items ending = begins file reads place item items ending walks in
    elim (cases_lt 0 (len cs)) [
      | inl several ↦ alike_some file.settings.newline held less left place item items begin.is.kind (omega (arith, several)) some joins is counted
      | inr none ↦ (
          let empty : cs ≡ [] = nothing cs (omega (arith, none)) in
          let next : (held && begins_with_lf (characters_of items)) ≡ joins = ap (λ (t : List ℕ). held && begins_with_lf (t ++ characters_of items)) (sym empty) ∙ is in
          alike_none file.settings.newline held less left place item items begin.is.kind empty some joins next counted
          (alike file reads ending (end_of_item item) items (walks_next file place item items ending begin) held less left some joins next counted)
          )
    ]

-- The items before a boundary.

-- no fewer are given with items more
never_fewer : (file : TextFile) → reads_texts file.settings.handler ≡ true → (ending : Ending) (place : ℕ) (before : List ℕ) (items more : List Item) → Walks file place (items ++ more) ending → len (read_of file before) ≤ len (read_of file (before ++ characters_of items))
never_fewer file reads ending place before [] more walks = omega (arith, ap (λ (t : List ℕ). len (read_of file t)) (append-nil before))
never_fewer file reads ending place before (item ∷ items) more walks =
    let cs : List ℕ = item.characters in
    let begin : Begins file place item (items ++ more) ending = begins file reads place item (items ++ more) ending walks in
    omega (
      arith,
      grows file.settings.newline before cs begin.is.kind,
      never_fewer file reads ending (end_of_item item) (before ++ cs) items more (walks_next file place item (items ++ more) ending begin),
      ap (λ (t : List ℕ). len (read_of file t)) (append_assoc before cs (characters_of items)),
    )

-- where items give none, and a CR is held behind them, it is held before them, and they have no characters
stays : (file : TextFile) → reads_texts file.settings.handler ≡ true → (ending : Ending) (place : ℕ) (before : List ℕ) (items more : List Item) → Walks file place (items ++ more) ending → held_of file (before ++ characters_of items) ≡ true → len (read_of file (before ++ characters_of items)) ≤ len (read_of file before) → (held_of file before ≡ true) × (len (characters_of items) ≡ 0)
stays file reads ending place before [] more walks held none = (ap (held_of file) (sym (append-nil before)) ∙ held, refl)
stays file reads ending place before (item ∷ items) more walks held none =
    let cs : List ℕ = item.characters in
    let newline : Newlines = file.settings.newline in
    let begin : Begins file place item (items ++ more) ending = begins file reads place item (items ++ more) ending walks in
    let next : Walks file (end_of_item item) (items ++ more) ending = walks_next file place item (items ++ more) ending begin in
    let same : (before ++ cs) ++ characters_of items ≡ before ++ (cs ++ characters_of items) = append_assoc before cs (characters_of items) in
    let grown : len (read_of file (before ++ cs)) ≡ len (read_of file before) + adds (held_of file before) cs = grows newline before cs begin.is.kind in
    let further : len (read_of file (before ++ cs)) ≤ len (read_of file ((before ++ cs) ++ characters_of items)) = never_fewer file reads ending (end_of_item item) (before ++ cs) items more next in
    let long : len (read_of file ((before ++ cs) ++ characters_of items)) ≡ len (read_of file (before ++ (cs ++ characters_of items))) = ap (λ (t : List ℕ). len (read_of file t)) same in
    let behind = stays file reads ending (end_of_item item) (before ++ cs) items more next (ap (held_of file) same ∙ held) (omega (arith, long, none, grown)) in
    elim (held_added newline (held_of file before) cs begin.is.kind (sym (holds_more newline before cs) ∙ behind.0)) [
      | inl before_it ↦ (before_it.0, omega (arith, length-append cs (characters_of items), before_it.1, behind.1))
      | inr added ↦ absurd (omega (arith, added, grown, further, long, none))
    ]

begins_later : (xs ys : List ℕ) → len xs ≡ 0 → begins_with_lf ys ≡ true → begins_with_lf (xs ++ ys) ≡ true
begins_later xs ys none is = ap (λ (t : List ℕ). begins_with_lf (t ++ ys)) (nothing xs none) ∙ is

both : (a b : Bool) → a ≡ true → b ≡ true → (a && b) ≡ true
both a b one two = rw (one, two) refl

goes_past : (file : TextFile) → reads_texts file.settings.handler ≡ true → (ending : Ending) (place : ℕ) (before : List ℕ) (item : Item) (items more : List Item) (left rest : ℕ) → Walks file place (item ∷ (items ++ more)) ending → len (read_of file before) + left ≡ len (read_of file (before ++ (item.characters ++ characters_of items))) + rest → (1 ≤ rest) ⊎ (joint file.settings.newline (before ++ (item.characters ++ characters_of items)) (characters_of more) ≡ true) → (1 ≤ left) ⊎ ((held_of file before && begins_with_lf (item.characters ++ characters_of (items ++ more))) ≡ true)
goes_past file reads ending place before item items more left rest walks counted (inl some) =
    inl (omega (arith, counted, some, never_fewer file reads ending place before (item ∷ items) more walks))
goes_past file reads ending place before item items more left rest walks counted (inr joins) = elim (cases_lt 0 left) [
  | inl some ↦ inl (omega (arith, some))
  | inr none ↦ (
      let cs : List ℕ = item.characters ++ characters_of items in
      let parts = and_parts (held_of file (before ++ cs)) (begins_with_lf (characters_of more)) joins in
      let still = stays file reads ending place before (item ∷ items) more walks parts.0 (omega (arith, none, counted)) in
      let all : cs ++ characters_of more ≡ item.characters ++ characters_of (items ++ more) =
      append_assoc item.characters (characters_of items) (characters_of more)
      ∙ ap (λ (t : List ℕ). item.characters ++ t) (sym (characters-append items more)) in
      inr (both (held_of file before) (begins_with_lf (item.characters ++ characters_of (items ++ more))) still.0
      (ap begins_with_lf (sym all) ∙ begins_later cs (characters_of more) still.1 parts.1))
      )
]

-- the spot lies behind some items
pub spot_through : (file : TextFile) → reads_texts file.settings.handler ≡ true → (ending : Ending) (place base : ℕ) (before : List ℕ) (items more : List Item) (left rest : ℕ) → Walks file place (items ++ more) ending → ((there : ℕ) → Walks file there more ending → there ≡ base) → len (read_of file before) + left ≡ len (read_of file (before ++ characters_of items)) + rest → (1 ≤ rest) ⊎ (joint file.settings.newline (before ++ characters_of items) (characters_of more) ≡ true) → spot_behind file.settings.newline left (held_of file before) place (items ++ more) ≡ spot_behind file.settings.newline rest (held_of file (before ++ characters_of items)) base more
spot_through file reads ending place base before [] more left rest walks reaches counted some =
    let newline : Newlines = file.settings.newline in
    let same : before ≡ before ++ [] = sym (append-nil before) in
    let all : left ≡ rest = omega (arith, counted, ap (λ (t : List ℕ). len (read_of file t)) same) in
    ap (λ (p : ℕ). spot_behind newline left (held_of file before) p more) (reaches place walks)
    ∙ (ap (λ (n : ℕ). spot_behind newline n (held_of file before) base more) all
    ∙ ap (λ (t : List ℕ). spot_behind newline rest (held_of file t) base more) same)
spot_through file reads ending place base before (item ∷ items) more left rest walks reaches counted some =
    let cs : List ℕ = item.characters in
    let newline : Newlines = file.settings.newline in
    let held : Bool = held_of file before in
    let begin : Begins file place item (items ++ more) ending = begins file reads place item (items ++ more) ending walks in
    let next : Walks file (end_of_item item) (items ++ more) ending = walks_next file place item (items ++ more) ending begin in
    let same : (before ++ cs) ++ characters_of items ≡ before ++ (cs ++ characters_of items) = append_assoc before cs (characters_of items) in
    let long : len (read_of file ((before ++ cs) ++ characters_of items)) ≡ len (read_of file (before ++ (cs ++ characters_of items))) = ap (λ (t : List ℕ). len (read_of file t)) same in
    let grown : len (read_of file (before ++ cs)) ≡ len (read_of file before) + adds held cs = grows newline before cs begin.is.kind in
    let further : len (read_of file (before ++ cs)) ≤ len (read_of file ((before ++ cs) ++ characters_of items)) = never_fewer file reads ending (end_of_item item) (before ++ cs) items more next in
    let within : adds held cs ≤ left = omega (arith, grown, further, long, counted) in
    let behind = spot_through file reads ending (end_of_item item) base (before ++ cs) items more (left - adds held cs) rest next reaches (omega (arith, grown, long, counted, within))
    (subst (λ (t : List ℕ). (1 ≤ rest) ⊎ (joint newline t (characters_of more) ≡ true)) (sym same) some) in
    spot_past newline left held place item (items ++ more) begin.is.kind within (goes_past file reads ending place before item items more left rest walks counted some)
    ∙ (ap (λ (h : Bool). spot_behind newline (left - adds held cs) h (end_of_item item) (items ++ more)) (sym (holds_more newline before cs))
    ∙ (behind
    ∙ ap (λ (t : List ℕ). spot_behind newline rest (held_of file t) base more) same))

-- What is told.

-- the items from a base on
abbrev items_since : TextFile → (base : ℕ) → List Item
items_since file base = (decoded (placed file (clean_at base Unknown))).items

-- as many are left on both sides
lengths_left : (file : TextFile) (base given : ℕ) (items : List Item) → GoesOnFrom base given items file → len (read_of file (characters_of (decoded file).items)) + given ≡ len (read_of file (characters_of (items_since file base))) + file.place.taken
lengths_left file base given items goes_on =
    let whole : List ℕ = read_of file (characters_of (decoded file).items) in
    let since : List ℕ = read_of file (characters_of (items_since file base)) in
    let left : drop file.place.taken whole ≡ drop given since = sym (ap (left_behind file) goes_on.front) ∙ ap (λ (rest : Rest). rest.characters) goes_on.same_left in
    omega (arith, ap len left, length-drop file.place.taken whole, length-drop given since, goes_on.taken, goes_on.given)

-- a text tells the spot behind the characters that were given since a base
by_spot : (file : TextFile) (base given : ℕ) (items : List Item) → GoesOnFrom base given items file → (dirty : Bool) → spot_behind file.settings.newline file.place.taken false file.place.at (decoded file).items ≡ spot_behind file.settings.newline given false base (items_since file base) → told file ≡ told (placed file (given_since base given dirty))
by_spot file base given items goes_on dirty same =
    told_at_spot file goes_on.reads goes_on.order goes_on.front goes_on.taken
    ∙ (ap spot_cookie same
    ∙ sym (told_at_spot (placed file (given_since base given dirty)) goes_on.reads refl refl goes_on.given))

-- the base is the text's own byte
spot_own : (file : TextFile) (base given : ℕ) (items : List Item) → GoesOnFrom base given items file → base ≡ file.place.at → spot_behind file.settings.newline file.place.taken false file.place.at (decoded file).items ≡ spot_behind file.settings.newline given false base (items_since file base)
spot_own file base given items goes_on same =
    let newline : Newlines = file.settings.newline in
    let own : (decoded file).items ≡ items_since file base =
    ap (λ (o : Order). (walk_at file.settings.encoding (treat_of file) true o file.place.at (drop file.place.at file.bytes)).items) goes_on.order
    ∙ ap (λ (p : ℕ). (walk_at file.settings.encoding (treat_of file) true Unknown p (drop p file.bytes)).items) (sym same) in
    let taken : file.place.taken ≡ given = omega (arith, lengths_left file base given items goes_on, ap (λ (is : List Item). len (read_of file (characters_of is))) own) in
    ap (λ (is : List Item). spot_behind newline file.place.taken false file.place.at is) own
    ∙ (ap (λ (n : ℕ). spot_behind newline n false file.place.at (items_since file base)) taken
    ∙ ap (λ (p : ℕ). spot_behind newline given false p (items_since file base)) (sym same))

-- the items from a base on are walked in the text
since_walks : (file : TextFile) (base : ℕ) → file.place.order ≡ Unknown → (ending : Ending) → (decoded (placed file (clean_at base Unknown))).ending ≡ ending → Walks file base (items_since file base) ending
since_walks file base unknown ending is =
    let same : from_byte file base ≡ decoded (placed file (clean_at base Unknown)) = ap (λ (o : Order). walk_at file.settings.encoding (treat_of file) true o base (drop base file.bytes)) unknown in
    record { items_are = ap (λ (w : Walk). w.items) same; ending_is = ap (λ (w : Walk). w.ending) same ∙ is }

-- some items are walked from one byte alone
one_byte : (file : TextFile) → reads_texts file.settings.handler ≡ true → (ending : Ending) (base there : ℕ) (more : List Item) → 1 ≤ len (read_of file (characters_of more)) → Walks file base more ending → Walks file there more ending → there ≡ base
one_byte file reads ending base there [] some walks other = absurd (omega (arith, some, ap len (none_read file.settings.newline)))
one_byte file reads ending base there (item ∷ more) some walks other = sym (begins file reads there item more ending other).start ∙ (begins file reads base item more ending walks).start

spot_later : (file : TextFile) (base given : ℕ) (items : List Item) → GoesOnFrom base given items file → 1 ≤ given → (joins : Bool) → joint file.settings.newline (characters_of items) (characters_of (items_since file base)) ≡ joins → (rest : ℕ) → rest + (if joins then 1 else 0) ≡ given → file.place.taken ≡ len (read_of file (characters_of items)) + rest → (1 ≤ rest) ⊎ (joint file.settings.newline (characters_of items) (characters_of (items_since file base)) ≡ true) → spot_behind file.settings.newline file.place.taken false file.place.at (decoded file).items ≡ spot_behind file.settings.newline given false base (items_since file base)
spot_later file base given items goes_on some joins is rest counted taken past =
    let newline : Newlines = file.settings.newline in
    let more : List Item = items_since file base in
    let ending : Ending = (decoded (placed file (clean_at base Unknown))).ending in
    let all : (decoded file).items ≡ items ++ more = ap (λ (w : Walk). w.items) goes_on.boundary in
    let walks : Walks file file.place.at (items ++ more) ending = record { items_are = all; ending_is = ap (λ (w : Walk). w.ending) goes_on.boundary } in
    let since : Walks file base more ending = since_walks file base goes_on.order ending refl in
    let reaches : (there : ℕ) → Walks file there more ending → there ≡ base = λ there other. one_byte file goes_on.reads ending base there more (omega (arith, some, goes_on.given)) since other in
    ap (λ (is : List Item). spot_behind newline file.place.taken false file.place.at is) all
    ∙ (ap (λ (h : Bool). spot_behind newline file.place.taken h file.place.at (items ++ more)) (sym (none_held newline))
    ∙ (spot_through file goes_on.reads ending file.place.at base [] items more file.place.taken rest walks reaches (omega (arith, taken, ap len (none_read newline))) past
    ∙ alike file goes_on.reads ending base more since (held_of file (characters_of items)) rest given some joins is counted))

spot_since : (file : TextFile) (base given : ℕ) (items : List Item) → GoesOnFrom base given items file → 1 ≤ given → (joins : Bool) → joint file.settings.newline (characters_of items) (characters_of (items_since file base)) ≡ joins → spot_behind file.settings.newline file.place.taken false file.place.at (decoded file).items ≡ spot_behind file.settings.newline given false base (items_since file base)
spot_since file base given items goes_on some joins is =
    let newline : Newlines = file.settings.newline in
    let first : List ℕ = characters_of items in
    let more : List ℕ = characters_of (items_since file base) in
    let all : characters_of (decoded file).items ≡ first ++ more = ap (λ (w : Walk). characters_of w.items) goes_on.boundary ∙ characters-append items (items_since file base) in
    let long : len (read_of file (characters_of (decoded file).items)) ≡ len (read_of file (first ++ more)) = ap (λ (t : List ℕ). len (read_of file t)) all in
    let left = lengths_left file base given items goes_on in
    elim (either joins) [
      | inl joins_it ↦ (
          let joint_is : joint newline first more ≡ true = is ∙ joins_it in
          spot_later file base given items goes_on some true joint_is (given - 1) (omega (arith, some)) (omega (arith, some, left, long, joined newline first more joint_is)) (inr joint_is)
          )
      | inr stands_apart ↦ (
          let apart_is : joint newline first more ≡ false = is ∙ stands_apart in
          spot_later file base given items goes_on some false apart_is given (omega arith)
          (omega (arith, left, long, ap len (parted newline first more apart_is), length-append (read_of file first) (read_of file more))) (inl some)
          )
    ]

-- what is told from a base is what is told from the text's own place
pub told_since : (file : TextFile) (base given : ℕ) (items : List Item) → GoesOnFrom base given items file → (dirty : Bool) → told file ≡ told (placed file (given_since base given dirty))
told_since file base given items goes_on dirty = by_spot file base given items goes_on dirty (elim goes_on.moved [
  | inl some ↦ spot_since file base given items goes_on some (joint file.settings.newline (characters_of items) (characters_of (items_since file base))) refl
  | inr same ↦ spot_own file base given items goes_on same
])
