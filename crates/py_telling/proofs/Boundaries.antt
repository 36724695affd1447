-- Which boundaries between items give what is left of a text.
use Rattle.std.proofs.Common.{if◌then◌else◌, ◌≡◌, ◌⊎◌, inl, inr, ℕ, ◌+◌, ◌≤◌, Bool, true, false, nat_eq, List, [], ◌∷◌, ◌++◌, length as len, map, find, drop, Some, None, refl, sym, ap, subst, ◌∙◌, arith, append_assoc}
use Rattle.std.proofs.lemmas.Bool.{and_parts, false_from_ne_true, cond-false}
use Rattle.std.proofs.lemmas.List.{length-append, length-drop}
use Rattle.std.proofs.lemmas.Slice.Eq.{bytes_eq-Decides}
use Rattle.std.proofs.Math.Seq.{drop-append_seam}
use Rattle.py_plain.specs.Units.{Order}
use Rattle.py_plain.specs.Handlers.{reads_texts}
use Rattle.py_plain.specs.Items.{Item, Ending, characters_of, refusal_of}
use Rattle.py_plain_text.specs.TextFile.{TextFile, clean_at}
use Rattle.py_plain_text.specs.Rest.{text_rest}
use Rattle.py_plain_text.specs.Telling.{order_at, placed, gives_rest, end_of_item}
use Rattle.py_plain_text.proofs.Inside.{read_of, Walks, Begins, begins, same_way, gives_at}
use Rattle.py_telling.specs.Spots.{holds}
use Rattle.py_telling.proofs.Counting.{held_behind_all, Kind, holds_more, grows, held_added, joint, parted, joined}

-- either way
pub either : (test : Bool) → (test ≡ true) ⊎ (test ≡ false)
either true = inl refl
either false = inr refl

-- whether a CR is held behind some characters of a text
abbrev pub held_of : TextFile → List ℕ → Bool
held_of file before = held_behind_all file.settings.newline before

-- what the decoding of a text gives behind some items, of which these are the characters
pub record StandsAmong (file : TextFile) (ending : Ending) (place : ℕ) (before : List ℕ) (items : List Item) : Type 0 where
  pub walks : Walks file place items ending
  pub characters : (text_rest file).characters ≡ drop file.place.taken (read_of file (before ++ characters_of items))
  pub refusal : (text_rest file).refusal ≡ refusal_of ending
  pub within : file.place.taken ≤ len (read_of file (before ++ characters_of items))

-- a boundary that gives what is left
pub gives_is : (file : TextFile) (ending : Ending) (place : ℕ) (items : List Item) → Walks file place items ending → gives_rest file place ≡ true → read_of file (characters_of items) ≡ (text_rest file).characters
gives_is file ending place items walks gives =
    let order : order_at file place ≡ file.place.order = same_way (nat_eq place file.place.at) file.place.order in
    let parts = and_parts _ _ gives in
    sym (ap (λ (is : List Item). read_of file (characters_of is)) walks.items_are)
    ∙ (sym (ap (λ (o : Order). (text_rest (placed file (clean_at place o))).characters) order)
    ∙ (bytes_eq-Decides (text_rest (placed file (clean_at place (order_at file place)))).characters (text_rest file).characters).0 parts.0)

gives_long : (file : TextFile) (ending : Ending) (place : ℕ) (before : List ℕ) (items : List Item) → StandsAmong file ending place before items → gives_rest file place ≡ true → len (read_of file (characters_of items)) + file.place.taken ≡ len (read_of file (before ++ characters_of items))
gives_long file ending place before items stands gives =
    let same : len (read_of file (characters_of items)) ≡ len (drop file.place.taken (read_of file (before ++ characters_of items))) = ap len (gives_is file ending place items stands.walks gives ∙ stands.characters) in
    omega (arith, same, stands.within, length-drop file.place.taken (read_of file (before ++ characters_of items)))

-- then so many were given: all before it, or where it is inside CR LF one less
pub gives_count : (file : TextFile) (ending : Ending) (place : ℕ) (before : List ℕ) (items : List Item) → StandsAmong file ending place before items → gives_rest file place ≡ true → (joins : Bool) → joint file.settings.newline before (characters_of items) ≡ joins → (if joins then file.place.taken + 1 else file.place.taken) ≡ len (read_of file before)
gives_count file ending place before items stands gives true is =
    omega (arith, gives_long file ending place before items stands gives, joined file.settings.newline before (characters_of items) is)
gives_count file ending place before items stands gives false is =
    omega (arith, gives_long file ending place before items stands gives, ap len (parted file.settings.newline before (characters_of items) is), length-append (read_of file before) (read_of file (characters_of items)))

-- where all before it were given, and it isn't inside CR LF, a boundary gives what is left
pub gives_here : (file : TextFile) (ending : Ending) (place : ℕ) (before : List ℕ) (items : List Item) → StandsAmong file ending place before items → joint file.settings.newline before (characters_of items) ≡ false → file.place.taken ≡ len (read_of file before) → gives_rest file place ≡ true
gives_here file ending place before items stands alone counted =
    let left : (text_rest file).characters ≡ read_of file (characters_of items) =
    stands.characters
    ∙ (ap (drop file.place.taken) (parted file.settings.newline before (characters_of items) alone)
    ∙ (ap (λ (n : ℕ). drop n (read_of file before ++ read_of file (characters_of items))) counted
    ∙ drop-append_seam (read_of file before) (read_of file (characters_of items)))) in
    gives_at file place items ending stands.walks (sym left) (sym stands.refusal)

-- the walk behind an item
pub walks_next : (file : TextFile) (place : ℕ) (item : Item) (items : List Item) (ending : Ending) → Begins file place item items ending → Walks file (end_of_item item) items ending
walks_next file place item items ending begin =
    let there : place + item.length ≡ item.start + item.length = omega (arith, begin.start) in
    subst (λ (p : ℕ). Walks file p items ending) there begin.behind

-- the next boundary
pub stands_next : (file : TextFile) (ending : Ending) (place : ℕ) (before : List ℕ) (item : Item) (items : List Item) → StandsAmong file ending place before (item ∷ items) → Begins file place item items ending → StandsAmong file ending (end_of_item item) (before ++ item.characters) items
stands_next file ending place before item items stands begin =
    let same : before ++ (item.characters ++ characters_of items) ≡ (before ++ item.characters) ++ characters_of items = sym (append_assoc before item.characters (characters_of items)) in
    record {
      walks = walks_next file place item items ending begin;
      characters = stands.characters ∙ ap (λ (t : List ℕ). drop file.place.taken (read_of file t)) same;
      refusal = stands.refusal;
      within = subst (λ (t : List ℕ). file.place.taken ≤ len (read_of file t)) same stands.within;
    }

-- Behind the place.

-- more was given before a boundary than was taken, a CR that is held there apart
pub record IsPast (file : TextFile) (before : List ℕ) : Type 0 where
  pub past : file.place.taken + 1 ≤ len (read_of file before)
  pub held : held_of file before ≡ true → file.place.taken + 2 ≤ len (read_of file before)

past_fails : (file : TextFile) (ending : Ending) (place : ℕ) (before : List ℕ) (items : List Item) → StandsAmong file ending place before items → IsPast file before → (joins : Bool) → joint file.settings.newline before (characters_of items) ≡ joins → gives_rest file place ≡ true → ⊥
past_fails file ending place before items stands past true is gives =
    let held : held_of file before ≡ true = (and_parts _ _ is).0 in
    omega (arith, gives_count file ending place before items stands gives true is, past.held held)
past_fails file ending place before items stands past false is gives =
    omega (arith, gives_count file ending place before items stands gives false is, past.past)

held_past : (file : TextFile) (before cs : List ℕ) → Kind cs → IsPast file before → holds file.settings.newline (held_of file before) cs ≡ true → file.place.taken + 2 ≤ len (read_of file (before ++ cs))
held_past file before cs kind past held =
    elim (held_added file.settings.newline (held_of file before) cs kind held) [
      | inl before_it ↦ omega (arith, past.held before_it.0, grows file.settings.newline before cs kind)
      | inr added ↦ omega (arith, past.past, added, grows file.settings.newline before cs kind)
    ]

past_next : (file : TextFile) (before cs : List ℕ) → Kind cs → IsPast file before → IsPast file (before ++ cs)
past_next file before cs kind past = record {
  past = omega (arith, past.past, grows file.settings.newline before cs kind);
  held = λ held. held_past file before cs kind past (sym (holds_more file.settings.newline before cs) ∙ held);
}

pub find_next : (test : ℕ → Bool) (x : ℕ) (xs : List ℕ) → test x ≡ false → find test (x ∷ xs) ≡ find test xs
find_next test x xs fails = cond-false (test x) (Some x) (find test xs) fails

-- no boundary further on gives what is left
pub none_gives : (file : TextFile) → reads_texts file.settings.handler ≡ true → (ending : Ending) (place : ℕ) (before : List ℕ) (items : List Item) → StandsAmong file ending place before items → IsPast file before → find (gives_rest file) (place ∷ map end_of_item items) ≡ None
none_gives file reads ending place before [] stands past =
    find_next (gives_rest file) place [] (false_from_ne_true (gives_rest file place) (past_fails file ending place before [] stands past (joint file.settings.newline before []) refl))
none_gives file reads ending place before (item ∷ items) stands past =
    let begin : Begins file place item items ending = begins file reads place item items ending stands.walks in
    find_next (gives_rest file) place (map end_of_item (item ∷ items)) (false_from_ne_true (gives_rest file place) (past_fails file ending place before (item ∷ items) stands past (joint file.settings.newline before (characters_of (item ∷ items))) refl))
    ∙ none_gives file reads ending (end_of_item item) (before ++ item.characters) items (stands_next file ending place before item items stands begin) (past_next file before item.characters begin.is.kind past)
