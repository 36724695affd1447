-- A cookie of a place inside an item brings back what was left where it was told.
use Rattle.std.proofs.Common.{◌≡◌, inl, inr, ℕ, zero, suc, ◌+◌, ◌-◌, ◌<◌, ◌≤◌, pos, Bool, true, false, not, ◌&&◌, nat_eq, nat_lt, nat_le, List, [], ◌∷◌, ◌++◌, length as len, map, find, take, drop, Option, Some, None, encode_utf8_all, if◌then◌else◌, refl, sym, ap, subst, ◌∙◌, arith, append_assoc, append-nil}
use Rattle.std.specs.List.{All}
use Rattle.std.proofs.lemmas.Bool.{cases_lt, false≢true, lt-ltb, le-ltb, eq-eqb, cond-true, cond-false}
use Rattle.std.proofs.lemmas.Bool.Decides.{nat_tests}
use Rattle.std.proofs.lemmas.List.{length-append, length-drop, length-take-le, drop-append-le, drop-drop}
use Rattle.std.proofs.lemmas.List.Elements.{All-head}
use Rattle.std.proofs.lemmas.Slice.Eq.{bytes_eq-Decides}
use Rattle.std.proofs.Math.Seq.{drop-append_seam, drop-append-add}
use Rattle.py_flat.specs.Lines.{lf}
use Rattle.py_plain.specs.declared.encoding.Encoding.{Encoding}
use Rattle.py_plain.specs.declared.newlines.Newlines.{Newlines}
use Rattle.py_plain.specs.declared.newlines.Newlines.TheVariants as rule
use Rattle.py_plain.specs.Units.{Order}
use Rattle.py_plain.specs.Handlers.{Treatment, treatment, reads_texts}
use Rattle.py_plain.specs.Items.{Item, Walk, Ending, AtEnd, FirstItem, Given, RefusedRange, Unfinished, first_item, onto_walk, walk_from, plain, characters_of, refusal_of}
use Rattle.py_plain.specs.NewlineRule.{ends_held, translated}
use Rattle.py_plain.specs.Alone.{DecodesAlone}
use Rattle.py_plain.proofs.Items.{each_alone}
use Rattle.py_plain.proofs.Walks.{decoding-given}
use Rattle.py_plain_text.specs.TextFile.{TextFile, clean_at}
use Rattle.py_plain_text.specs.Rest.{Rest, text_rest}
use Rattle.py_plain_text.specs.Cookie.{Cookie, flags_of, order_of}
use Rattle.py_plain_text.specs.Landing.{Stands, CantRestore, fed_by, skips, start_place, only_item, skips_within, is_restorable, place_inside, lands}
use Rattle.py_plain_text.specs.Telling.{Inside, order_at, placed, same_range, same_rest, gives_rest, end_of_item, inside_items, inside_cookie, told_inside}
use Rattle.py_plain_text.specs.CookieLaws.{GivesBack, alone_at, IsItemAt}
use Rattle.py_plain_text.proofs.Cookies.{flags-order}
use Rattle.py_plain_text.proofs.Unbroken.{Unbroken, IsItem, first_is_item}
use Rattle.py_plain_text.proofs.Translated.{joins, apart, onto_cr, unbroken_stay, none_read, one_read}

-- the treatment of a text, and its decoding from a byte on
abbrev pub treat_of : TextFile → Treatment
treat_of file = treatment file.settings.handler file.settings.encoding

abbrev pub from_byte : TextFile → ℕ → Walk
from_byte file place = plain file.settings.encoding (treat_of file) file.place.order file.bytes place

abbrev pub read_of : TextFile → List ℕ → List ℕ
read_of file cs = translated file.settings.newline cs

-- a decoding from a byte on has these items, and ends so
pub record Walks (file : TextFile) (place : ℕ) (items : List Item) (ending : Ending) : Type 0 where
  pub items_are : (from_byte file place).items ≡ items
  pub ending_is : (from_byte file place).ending ≡ ending

-- One item after the other.

-- some bytes are walked by the item that they begin with
pub onto_some : (encoding : Encoding) (treat : Treatment) (order : Order) (place : ℕ) (bytes : List ℕ) → 1 ≤ len bytes → (walk : Walk) × (walk_from encoding treat true order place 0 bytes ≡ onto_walk order place (first_item encoding treat true order place bytes) walk)
onto_some encoding treat order place [] some = absurd (omega (arith, some))
onto_some encoding treat order place (byte ∷ rest) some = (_, refl)

-- a decoding that has an item begins with it, and goes on behind it
pub record Begins (file : TextFile) (place : ℕ) (item : Item) (items : List Item) (ending : Ending) : Type 0 where
  pub inside : place < len file.bytes
  pub start : item.start ≡ place
  pub order : item.order ≡ file.place.order
  pub first : first_item file.settings.encoding (treat_of file) true file.place.order place (drop place file.bytes) ≡ Given item.characters item.length
  pub is : IsItem (len (drop place file.bytes)) item.characters item.length
  pub behind : Walks file (place + item.length) items ending

begins_by : (file : TextFile) → reads_texts file.settings.handler ≡ true → (place : ℕ) (item : Item) (items : List Item) (ending : Ending) → place < len file.bytes → Walks file place (item ∷ items) ending → (first : FirstItem) → first_item file.settings.encoding (treat_of file) true file.place.order place (drop place file.bytes) ≡ first → Begins file place item items ending
begins_by file reads place item items ending inside walks (Given characters used) is =
    let nature : IsItem (len (drop place file.bytes)) characters used = first_is_item file.settings.handler file.settings.encoding reads file.place.order place (drop place file.bytes) characters used is in
    let whole : from_byte file place ≡ onto_walk file.place.order place (Given characters used) (from_byte file (place + used)) = decoding-given file.settings.encoding (treat_of file) true file.place.order file.bytes place characters used inside nature.some is in
    let read : Item = record { start = place; length = used; order = file.place.order; characters = characters } in
    let all : read ∷ (from_byte file (place + used)).items ≡ item ∷ items = sym (ap (λ (w : Walk). w.items) whole) ∙ walks.items_are in
    let same : read ≡ item = cc in
    let more : (from_byte file (place + used)).items ≡ items = cc in
    let ending_is : (from_byte file (place + used)).ending ≡ ending = sym (ap (λ (w : Walk). w.ending) whole) ∙ walks.ending_is in
    subst (λ (i : Item). Begins file place i items ending) same (record { inside = inside; start = refl; order = refl; first = is; is = nature; behind = record { items_are = more; ending_is = ending_is } })
begins_by file reads place item items ending inside walks (RefusedRange size) is =
    let walked = onto_some file.settings.encoding (treat_of file) file.place.order place (drop place file.bytes) (omega (arith, length-drop place file.bytes)) in
    let none : [] ≡ item ∷ items = sym (ap (λ (w : Walk). w.items) (walked.1 ∙ ap (λ (f : FirstItem). onto_walk file.place.order place f walked.0) is)) ∙ walks.items_are in
    absurd (cc)
begins_by file reads place item items ending inside walks Unfinished is =
    let walked = onto_some file.settings.encoding (treat_of file) file.place.order place (drop place file.bytes) (omega (arith, length-drop place file.bytes)) in
    let none : [] ≡ item ∷ items = sym (ap (λ (w : Walk). w.items) (walked.1 ∙ ap (λ (f : FirstItem). onto_walk file.place.order place f walked.0) is)) ∙ walks.items_are in
    absurd (cc)

pub none_left : (encoding : Encoding) (treat : Treatment) (order : Order) (place : ℕ) (bytes : List ℕ) → len bytes ≡ 0 → (walk_from encoding treat true order place 0 bytes).items ≡ []
none_left encoding treat order place [] none = refl
none_left encoding treat order place (byte ∷ rest) none = absurd (omega (arith, none))

pub begins : (file : TextFile) → reads_texts file.settings.handler ≡ true → (place : ℕ) (item : Item) (items : List Item) (ending : Ending) → Walks file place (item ∷ items) ending → Begins file place item items ending
begins file reads place item items ending walks = elim (cases_lt place (len file.bytes)) [
  | inl inside ↦ begins_by file reads place item items ending inside walks (first_item file.settings.encoding (treat_of file) true file.place.order place (drop place file.bytes)) refl
  | inr past ↦ (
      let none : [] ≡ item ∷ items = sym (none_left file.settings.encoding (treat_of file) file.place.order place (drop place file.bytes) (omega (arith, past, length-drop place file.bytes))) ∙ walks.items_are in
      absurd (cc)
      )
]

-- the item that a decoding begins with is all that its bytes are by themselves
pub item_at : (file : TextFile) → reads_texts file.settings.handler ≡ true → (place : ℕ) (item : Item) (items : List Item) (ending : Ending) → Walks file place (item ∷ items) ending → Begins file place item items ending → IsItemAt file item.start item.length item
item_at file reads place item items ending walks begin =
    let treat : Treatment = treat_of file in
    let all : All (DecodesAlone file.settings.encoding treat place (drop place file.bytes)) (item ∷ items) = subst (All (DecodesAlone file.settings.encoding treat place (drop place file.bytes))) walks.items_are (each_alone file.settings.handler file.settings.encoding reads true file.place.order place (drop place file.bytes)) in
    let alone : DecodesAlone file.settings.encoding treat place (drop place file.bytes) item = All-head (DecodesAlone file.settings.encoding treat place (drop place file.bytes)) item items all in
    let far : drop (item.start - place) (drop place file.bytes) ≡ drop item.start file.bytes = drop-drop (item.start - place) place file.bytes ∙ ap (λ (n : ℕ). drop n file.bytes) (omega (arith, begin.start)) in
    let same : alone_at file item.start item.length ≡ walk_from file.settings.encoding treat true item.order item.start 0 (take item.length (drop (item.start - place) (drop place file.bytes))) =
    ap (λ (o : Order). walk_from file.settings.encoding treat true o item.start 0 (take item.length (drop item.start file.bytes))) (sym begin.order)
    ∙ ap (λ (bs : List ℕ). walk_from file.settings.encoding treat true item.order item.start 0 (take item.length bs)) (sym far) in
    record {
      some = begin.is.some;
      few = begin.is.small;
      within = omega (arith, begin.start, begin.inside, begin.is.within, length-drop place file.bytes);
      items = ap (λ (w : Walk). w.items) same ∙ alone.0;
      ending = ap (λ (w : Walk). w.ending) same ∙ alone.1;
      whole = refl;
    }

-- A cookie inside an item.

only_is : (size : ℕ) (items : List Item) (ending : Ending) (item : Item) → items ≡ item ∷ [] → ending ≡ AtEnd → item.length ≡ size → only_item size items ending ≡ Some item.characters
only_is size items ending item one end whole =
    ap (λ (is : List Item). only_item size is ending) one
    ∙ (ap (only_item size (item ∷ [])) end
    ∙ cond-true (nat_eq item.length size) (Some item.characters) None (eq-eqb item.length size whole))

at_least : (m n : ℕ) → m ≤ n → nat_le m n ≡ true
at_least m n less = grind (arith, nat_tests)

all_true : (a b c d e : Bool) → a ≡ true → b ≡ true → c ≡ true → d ≡ true → e ≡ true → (a && ((b && (c && d)) && e)) ≡ true
all_true a b c d e one two three four five = rw (one, two, three, four, five) refl

-- the cookie of so many characters of an item
abbrev pub cookie_in : TextFile → (start size count : ℕ) → Item → Cookie
cookie_in file start size count item = inside_cookie file.place.order (record { start = start; length = size; taken = take count item.characters })

-- it gives back what is left of the text
abbrev pub Restores : TextFile → Cookie → Type 0
Restores file cookie = GivesBack file (lands file cookie) × (fed_by cookie ≤ 4)

pub restorable : (file : TextFile) (start size count : ℕ) (item : Item) → file.can.readable ≡ true → IsItemAt file start size item → count < len item.characters → is_restorable file (cookie_in file start size count item) ≡ true
restorable file start size count item readable stands less =
    let treat : Treatment = treat_of file in
    let order : Order = order_of (pos (flags_of file.place.order)) in
    let bytes : List ℕ = take size (drop start file.bytes) in
    let taken : List ℕ = take count item.characters in
    let walk : Walk = walk_from file.settings.encoding treat true order start 0 bytes in
    let same : walk ≡ alone_at file start size = ap (λ (o : Order). walk_from file.settings.encoding treat true o start 0 bytes) (flags-order file.place.order) in
    let only : only_item size walk.items walk.ending ≡ Some item.characters = only_is size walk.items walk.ending item (ap (λ (w : Walk). w.items) same ∙ stands.items) (ap (λ (w : Walk). w.ending) same ∙ stands.ending) stands.whole in
    let lie : len bytes ≡ size = length-take-le size (drop start file.bytes) (omega (arith, length-drop start file.bytes, stands.within)) in
    let within : skips_within (cookie_in file start size count item) (Some item.characters) ≡ true =
    ap (λ (n : ℕ). nat_lt n (len item.characters) && nat_eq (len (encode_utf8_all (take n item.characters))) (len (encode_utf8_all taken))) (length-take-le count item.characters (omega (arith, less)))
    ∙ (ap (λ (b : Bool). b && nat_eq (len (encode_utf8_all taken)) (len (encode_utf8_all taken))) (lt-ltb count (len item.characters) less)
    ∙ eq-eqb (len (encode_utf8_all taken)) (len (encode_utf8_all taken)) refl) in
    all_true file.can.readable (nat_le 1 size) (nat_le size 4) (nat_eq (len bytes) size) (skips_within (cookie_in file start size count item) (only_item size walk.items walk.ending)) readable (at_least 1 size stands.some) (at_least size 4 stands.few) (eq-eqb (len bytes) size lie) (ap (skips_within (cookie_in file start size count item)) only ∙ within)

rest_is : (rest : Rest) (characters : List ℕ) (refusal : Option (ℕ × ℕ)) → characters ≡ rest.characters → refusal ≡ rest.refusal → record { characters = characters; refusal = refusal } ≡ rest
rest_is rest characters refusal first second = rw (first, second) refl

-- what is left behind so many characters of an item, and behind it, is what was left
pub record IsLeft (file : TextFile) (start size count : ℕ) (item : Item) : Type 0 where
  pub characters : drop count item.characters ++ read_of file (characters_of (from_byte file (start + size)).items) ≡ (text_rest file).characters
  pub refusal : refusal_of (from_byte file (start + size)).ending ≡ (text_rest file).refusal

left_inside : (file : TextFile) (start size count : ℕ) (item : Item) → IsItemAt file start size item → count < len item.characters → IsLeft file start size count item → text_rest (placed file (place_inside (cookie_in file start size count item))) ≡ text_rest file
left_inside file start size count item stands less left =
    let enc : Encoding = file.settings.encoding in
    let treat : Treatment = treat_of file in
    let taken : List ℕ = take count item.characters in
    let order : order_of (pos (flags_of file.place.order)) ≡ file.place.order = flags-order file.place.order in
    let long : len taken ≡ count = length-take-le count item.characters (omega (arith, less)) in
    let behind : List ℕ = read_of file (characters_of (from_byte file (start + size)).items) in
    let characters =
    ap (λ (o : Order). drop (len taken) (characters_of (walk_from enc treat true o start 0 (take size (drop start file.bytes))).items) ++ read_of file (characters_of (plain enc treat o file.bytes (start + size)).items)) order
    ∙ (ap (λ (items : List Item). drop (len taken) (characters_of items) ++ behind) stands.items
    ∙ (ap (λ (cs : List ℕ). drop (len taken) cs ++ behind) (append-nil item.characters)
    ∙ (ap (λ (n : ℕ). drop n item.characters ++ behind) long
    ∙ left.characters))) in
    let refusal = ap (λ (o : Order). refusal_of (plain enc treat o file.bytes (start + size)).ending) order ∙ left.refusal in
    rest_is (text_rest file) _ _ characters refusal

pub landed : (file : TextFile) (cookie : Cookie) → skips cookie ≡ true → is_restorable file cookie ≡ true → lands file cookie ≡ Stands (place_inside cookie)
landed file cookie skipped restored =
    ap (λ (b : Bool). if not b then Stands (start_place cookie) else if is_restorable file cookie then Stands (place_inside cookie) else CantRestore (start_place cookie)) skipped
    ∙ ap (λ (b : Bool). if b then Stands (place_inside cookie) else CantRestore (start_place cookie)) restored

not_none : (n : ℕ) → 1 ≤ n → not (nat_eq n 0) ≡ true
not_none n some = let isnt : nat_eq n 0 ≡ false = grind (arith, nat_tests) in ap not isnt

-- a cookie inside an item brings back what was left
pub restores_inside : (file : TextFile) (start size count : ℕ) (item : Item) → file.can.readable ≡ true → IsItemAt file start size item → 1 ≤ count → count < len item.characters → IsLeft file start size count item → Restores file (cookie_in file start size count item)
restores_inside file start size count item readable stands some less left =
    let cookie : Cookie = cookie_in file start size count item in
    let skipped : skips cookie ≡ true = ap (λ (n : ℕ). not (nat_eq n 0)) (length-take-le count item.characters (omega (arith, less))) ∙ not_none count some in (
      subst (GivesBack file) (sym (landed file cookie skipped (restorable file start size count item readable stands less))) (left_inside file start size count item stands less left),
      stands.few,
    )

-- A boundary.

pub same_way : (test : Bool) (order : Order) → (if test then order else order) ≡ order
same_way true order = refl
same_way false order = refl

range_same : (range : Option (ℕ × ℕ)) → same_range range range ≡ true
range_same None = refl
range_same (Some range) = rw (eq-eqb range.0 range.0 refl, eq-eqb range.1 range.1 refl) refl

rest_same : (one other : Rest) → one ≡ other → same_rest one other ≡ true
rest_same one other is =
    ap (λ (rest : Rest). same_rest rest other) is
    ∙ (ap (λ (b : Bool). b && same_range other.refusal other.refusal) ((bytes_eq-Decides other.characters other.characters).1 refl)
    ∙ range_same other.refusal)

-- a decoding from a byte on that is what is left
pub gives_at : (file : TextFile) (place : ℕ) (items : List Item) (ending : Ending) → Walks file place items ending → read_of file (characters_of items) ≡ (text_rest file).characters → refusal_of ending ≡ (text_rest file).refusal → gives_rest file place ≡ true
gives_at file place items ending walks characters refusal =
    let order : order_at file place ≡ file.place.order = same_way (nat_eq place file.place.at) file.place.order in
    rest_same (text_rest (placed file (clean_at place (order_at file place)))) (text_rest file)
    (ap (λ (o : Order). text_rest (placed file (clean_at place o))) order
    ∙ rest_is (text_rest file) _ _ (ap (λ (is : List Item). read_of file (characters_of is)) walks.items_are ∙ characters) (ap refusal_of walks.ending_is ∙ refusal))

-- A place behind the first items.

drop_past : (count : ℕ) (xs : List ℕ) → len xs ≤ count → drop count xs ≡ []
drop_past zero [] past = refl
drop_past zero (x ∷ xs) past = absurd (omega (arith, past))
drop_past (suc count) [] past = refl
drop_past (suc count) (x ∷ xs) past = drop_past count xs (omega (arith, past))

nothing_of : (xs : List ℕ) → len xs ≤ 0 → xs ≡ []
nothing_of [] none = refl
nothing_of (x ∷ xs) none = absurd (omega (arith, none))

none_and : (a b : Bool) → b ≡ false → (a && b) ≡ false
none_and true b none = none
none_and false b none = refl

not_joined : (newline : Newlines) (before : List ℕ) (c : ℕ) → 14 ≤ c → joins newline before c ≡ false
not_joined rule.Universal before c above = let isnt : nat_eq c lf ≡ false = grind (arith, nat_tests) in none_and (ends_held false before) (nat_eq c lf) isnt
not_joined rule.Passthrough before c above = refl
not_joined rule.Lf before c above = refl
not_joined rule.Cr before c above = refl
not_joined rule.Crlf before c above = refl

-- where no boundary up to here gives what is left, `count` characters are read behind those of the items before
pub record StandsBehind (file : TextFile) (count : ℕ) (ending : Ending) (place : ℕ) (before : List ℕ) (items : List Item) : Type 0 where
  pub walks : Walks file place items ending
  pub characters : (text_rest file).characters ≡ drop count (read_of file (before ++ characters_of items))
  pub refusal : (text_rest file).refusal ≡ refusal_of ending
  pub reached : len (read_of file before) ≤ count
  pub isnt : gives_rest file place ≡ false

-- all before was read
no_items : (file : TextFile) (count : ℕ) (ending : Ending) (place : ℕ) (before : List ℕ) → StandsBehind file count ending place before [] → ⊥
no_items file count ending place before stands =
    let none : (text_rest file).characters ≡ [] = stands.characters ∙ (ap (λ (t : List ℕ). drop count (read_of file t)) (append-nil before) ∙ drop_past count (read_of file before) stands.reached) in
    let gives : gives_rest file place ≡ true = gives_at file place [] ending stands.walks (none_read file.settings.newline ∙ sym none) (sym stands.refusal) in
    false≢true (sym stands.isnt ∙ gives)

-- the place isn't between the items
not_between : (file : TextFile) (count : ℕ) (ending : Ending) (place : ℕ) (before : List ℕ) (items : List Item) → StandsBehind file count ending place before items → read_of file (before ++ characters_of items) ≡ read_of file before ++ read_of file (characters_of items) → count ≡ len (read_of file before) → ⊥
not_between file count ending place before items stands parts is =
    let rest : (text_rest file).characters ≡ read_of file (characters_of items) =
    stands.characters
    ∙ (ap (drop count) parts
    ∙ (ap (λ (n : ℕ). drop n (read_of file before ++ read_of file (characters_of items))) is
    ∙ drop-append_seam (read_of file before) (read_of file (characters_of items)))) in
    let gives : gives_rest file place ≡ true = gives_at file place items ending stands.walks (sym rest) (sym stands.refusal) in
    false≢true (sym stands.isnt ∙ gives)

-- an item with one character is no item to stand inside of
not_in_one : (file : TextFile) (count : ℕ) (ending : Ending) (place : ℕ) (before : List ℕ) (item : Item) (items : List Item) (c : ℕ) → StandsBehind file count ending place before (item ∷ items) → item.characters ≡ c ∷ [] → count < len (read_of file (before ++ item.characters)) → (joined : Bool) → joins file.settings.newline before c ≡ joined → ⊥
not_in_one file count ending place before item items c stands one less true joined =
    let same : read_of file (before ++ item.characters) ≡ read_of file before = ap (λ (cs : List ℕ). read_of file (before ++ cs)) one ∙ onto_cr file.settings.newline before c joined in
    omega (arith, less, stands.reached, ap len same)
not_in_one file count ending place before item items c stands one less false alone =
    let more : List ℕ = characters_of items in
    let same : read_of file (before ++ item.characters) ≡ read_of file before ++ read_of file (c ∷ []) = ap (λ (cs : List ℕ). read_of file (before ++ cs)) one ∙ apart file.settings.newline before c [] alone in
    let parts : read_of file (before ++ (item.characters ++ more)) ≡ read_of file before ++ read_of file (item.characters ++ more) =
    ap (λ (cs : List ℕ). read_of file (before ++ (cs ++ more))) one
    ∙ (apart file.settings.newline before c more alone
    ∙ ap (λ (cs : List ℕ). read_of file before ++ read_of file (cs ++ more)) (sym one)) in
    let longer : len (read_of file (before ++ item.characters)) ≡ len (read_of file before) + 1 = ap len same ∙ (length-append (read_of file before) (read_of file (c ∷ [])) ∙ ap (λ (n : ℕ). len (read_of file before) + n) (one_read file.settings.newline c)) in
    not_between file count ending place before (item ∷ items) stands parts (omega (arith, less, longer, stands.reached))

-- characters without a line end, behind others
unbroken_behind : (file : TextFile) (before cs ys : List ℕ) → Unbroken cs → 1 ≤ len cs → read_of file (before ++ (cs ++ ys)) ≡ read_of file before ++ (cs ++ read_of file ys)
unbroken_behind file before [] ys known some = absurd (omega (arith, some))
unbroken_behind file before (c ∷ cs) ys known some =
    apart file.settings.newline before c (cs ++ ys) (not_joined file.settings.newline before c known.0)
    ∙ ap (λ (t : List ℕ). read_of file before ++ t) (unbroken_stay file.settings.newline (c ∷ cs) ys known)

-- inside what stands for a refused range
in_range : (file : TextFile) → file.can.readable ≡ true → (count : ℕ) (ending : Ending) (place : ℕ) (before : List ℕ) (item : Item) (items : List Item) → StandsBehind file count ending place before (item ∷ items) → Begins file place item items ending → IsItemAt file item.start item.length item → Unbroken item.characters → 1 ≤ len item.characters → count < len (read_of file (before ++ item.characters)) → Restores file (cookie_in file item.start item.length (count - len (read_of file before)) item)
in_range file readable count ending place before item items stands begin whole known some less =
    let first : ℕ = len (read_of file before) in
    let k : ℕ = count - first in
    let more : List ℕ = characters_of items in
    let cs : List ℕ = item.characters in
    let parts : read_of file (before ++ (cs ++ more)) ≡ read_of file before ++ (cs ++ read_of file more) = unbroken_behind file before cs more known some in
    let alone : read_of file (before ++ cs) ≡ read_of file before ++ cs =
    ap (λ (t : List ℕ). read_of file (before ++ t)) (sym (append-nil cs))
    ∙ (unbroken_behind file before cs [] known some
    ∙ (ap (λ (t : List ℕ). read_of file before ++ (cs ++ t)) (none_read file.settings.newline)
    ∙ ap (λ (t : List ℕ). read_of file before ++ t) (append-nil cs))) in
    let longer : len (read_of file (before ++ cs)) ≡ first + len cs = ap len alone ∙ length-append (read_of file before) cs in
    let fits : k < len cs = omega (arith, less, longer, stands.reached) in
    let counted : count ≡ first + k = omega (arith, stands.reached) in
    let rest : (text_rest file).characters ≡ drop k cs ++ read_of file more =
    stands.characters
    ∙ (ap (drop count) parts
    ∙ (ap (λ (n : ℕ). drop n (read_of file before ++ (cs ++ read_of file more))) counted
    ∙ (drop-append-add (read_of file before) (cs ++ read_of file more) k
    ∙ drop-append-le k cs (read_of file more) (omega (arith, fits))))) in
    let there : place + item.length ≡ item.start + item.length = omega (arith, begin.start) in
    let behind : Walks file (item.start + item.length) items ending = subst (λ (p : ℕ). Walks file p items ending) there begin.behind in
    let left : IsLeft file item.start item.length k item = record {
      characters = ap (λ (is : List Item). drop k cs ++ read_of file (characters_of is)) behind.items_are ∙ sym rest;
      refusal = ap refusal_of behind.ending_is ∙ sym stands.refusal;
    } in
    elim (cases_lt 0 k) [
      | inl inner ↦ restores_inside file item.start item.length k item readable whole (omega (arith, inner)) fits left
      | inr none ↦ (
          let between : read_of file (before ++ (cs ++ more)) ≡ read_of file before ++ read_of file (cs ++ more) = parts ∙ ap (λ (t : List ℕ). read_of file before ++ t) (sym (unbroken_stay file.settings.newline cs more known)) in
          absurd (not_between file count ending place before (item ∷ items) stands between (omega (arith, none, counted)))
          )
    ]

inside_this : (file : TextFile) → file.can.readable ≡ true → (count : ℕ) (ending : Ending) (place : ℕ) (before : List ℕ) (item : Item) (items : List Item) → StandsBehind file count ending place before (item ∷ items) → Begins file place item items ending → IsItemAt file item.start item.length item → count < len (read_of file (before ++ item.characters)) → Restores file (cookie_in file item.start item.length (count - len (read_of file before)) item)
inside_this file readable count ending place before item items stands begin whole less = elim begin.is.kind [
  | inl single ↦ absurd (not_in_one file count ending place before item items single.0 stands single.1 less (joins file.settings.newline before single.0) refl)
  | inr known ↦ elim (cases_lt 0 (len item.characters)) [
    | inl some ↦ in_range file readable count ending place before item items stands begin whole known (omega (arith, some)) less
    | inr none ↦ (
        let nothing : item.characters ≡ [] = nothing_of item.characters (omega (arith, none)) in
        let same : read_of file (before ++ item.characters) ≡ read_of file before = ap (λ (cs : List ℕ). read_of file (before ++ cs)) nothing ∙ ap (read_of file) (append-nil before) in
        absurd (omega (arith, less, stands.reached, ap len same))
        )
  ]
]

none_found : (passes : Bool) (x : ℕ) (behind : Option ℕ) → (if passes then Some x else behind) ≡ None → (passes ≡ false) × (behind ≡ None)
none_found true x behind none = absurd (cc)
none_found false x behind none = (refl, none)

pub find_behind : (test : ℕ → Bool) (x : ℕ) (xs : List ℕ) → find test (x ∷ xs) ≡ None → (test x ≡ false) × (find test xs ≡ None)
find_behind test x xs none = none_found (test x) x (find test xs) none

-- the item in which the character stands that comes next
pub inside_back : (file : TextFile) → file.can.readable ≡ true → reads_texts file.settings.handler ≡ true → (count : ℕ) (ending : Ending) (place : ℕ) (before : List ℕ) (items : List Item) → StandsBehind file count ending place before items → find (gives_rest file) (map end_of_item items) ≡ None → Restores file (told_inside file (inside_items file.settings.newline count before items))
inside_back file readable reads count ending place before [] stands none = absurd (no_items file count ending place before stands)
inside_back file readable reads count ending place before (item ∷ items) stands none =
    let begin : Begins file place item items ending = begins file reads place item items ending stands.walks in
    let here : Option Inside = Some (record { start = item.start; length = item.length; taken = take (count - len (read_of file before)) item.characters }) in
    let behind : Option Inside = inside_items file.settings.newline count (before ++ item.characters) items in
    elim (cases_lt count (len (read_of file (before ++ item.characters)))) [
      | inl less ↦ (
          let found : inside_items file.settings.newline count before (item ∷ items) ≡ here = cond-true (nat_lt count (len (read_of file (before ++ item.characters)))) here behind (lt-ltb count (len (read_of file (before ++ item.characters))) less) in
          subst (λ (o : Option Inside). Restores file (told_inside file o)) (sym found)
          (inside_this file readable count ending place before item items stands begin (item_at file reads place item items ending stands.walks begin) less)
          )
      | inr past ↦ (
          let found : inside_items file.settings.newline count before (item ∷ items) ≡ behind = cond-false (nat_lt count (len (read_of file (before ++ item.characters)))) here behind (le-ltb count (len (read_of file (before ++ item.characters))) past) in
          let next = find_behind (gives_rest file) (end_of_item item) (map end_of_item items) none in
          let there : item.start + item.length ≡ place + item.length = omega (arith, begin.start) in
          let stands_behind : StandsBehind file count ending (place + item.length) (before ++ item.characters) items = record {
            walks = begin.behind;
            characters = stands.characters ∙ ap (λ (t : List ℕ). drop count (read_of file t)) (sym (append_assoc before item.characters (characters_of items)));
            refusal = stands.refusal;
            reached = past;
            isnt = ap (gives_rest file) (sym there) ∙ next.0;
          } in
          subst (λ (o : Option Inside). Restores file (told_inside file o)) (sym found)
          (inside_back file readable reads count ending (place + item.length) (before ++ item.characters) items stands_behind next.1)
          )
    ]
