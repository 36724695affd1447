-- The cookie that tells a place brings back what was left there.
use Rattle.std.proofs.Common.{◌≡◌, inl, inr, ℕ, ◌+◌, ◌-◌, ◌<◌, ◌≤◌, Bool, true, false, not, nat_lt, List, [], ◌++◌, length as len, map, find, take, drop, Option, Some, None, if◌then◌else◌, refl, sym, ap, subst, ◌∙◌, arith, append-nil}
use Rattle.std.proofs.lemmas.Bool.{cases_lt, false≢true, lt-ltb, le-ltb, cond-true, cond-false}
use Rattle.std.proofs.lemmas.List.{length-drop, drop-append-le, drop-drop}
use Rattle.std.proofs.Math.Seq.{drop-append-add}
use Rattle.py_plain.specs.Handlers.{reads_texts}
use Rattle.py_plain.specs.Items.{Item, characters_of, refusal_of}
use Rattle.py_plain_text.specs.TextFile.{Front, TextFile}
use Rattle.py_plain_text.specs.Rest.{front_characters, decoded, text_rest}
use Rattle.py_plain_text.specs.Cookie.{Cookie}
use Rattle.py_plain_text.specs.Landing.{Stands, CantRestore, fed_by, skips, start_place, is_restorable, place_inside, lands}
use Rattle.py_plain_text.specs.Telling.{Inside, gives_rest, end_of_item, boundaries, front_left, inside_front, inside_decoded, inside_of, inside_cookie, told_inside, told_at, told}
use Rattle.py_plain_text.specs.CookieLaws.{GivesBack, alone_at, IsFront, FrontStands, StandsInText}
use Rattle.py_plain_text.proofs.Cookies.{told-boundary-back}
use Rattle.py_plain_text.proofs.Translated.{none_read}
use Rattle.py_plain_text.proofs.Inside.{from_byte, read_of, cookie_in, Restores, IsLeft, restores_inside, gives_at, find_behind, inside_back}

-- what is left behind a front
abbrev behind_front : TextFile → Option Front → List ℕ
behind_front file front = drop file.place.taken (front_characters file.settings file.place.order file.bytes front ++ read_of file (characters_of (decoded file).items))

-- behind the front all goes on from a byte
decoded_back : (file : TextFile) → file.can.readable ≡ true → reads_texts file.settings.handler ≡ true → (count : ℕ) → find (gives_rest file) (boundaries file) ≡ None → (text_rest file).characters ≡ drop count (read_of file (characters_of (decoded file).items)) → Restores file (told_inside file (inside_decoded file count))
decoded_back file readable reads count none left =
    let next = find_behind (gives_rest file) file.place.at (map end_of_item (decoded file).items) none in
    inside_back file readable reads count (decoded file).ending file.place.at [] (decoded file).items
    (record { walks = record { items_are = refl; ending_is = refl }; characters = left; refusal = refl; reached = omega (arith, ap len (none_read file.settings.newline)); isnt = next.0 })
    next.1

-- inside the front
front_back : (file : TextFile) (front : Front) → file.can.readable ≡ true → file.place.front ≡ Some front → IsFront file front → file.place.taken < len (front_left file front) → Restores file (told_inside file (Some (inside_front file front)))
front_back file front readable is stands less =
    let item : Item = stands.item in
    let taken : ℕ = file.place.taken in
    let count : ℕ = front.skipped + taken in
    let more : List ℕ = read_of file (characters_of (decoded file).items) in
    let cs : List ℕ = item.characters in
    let whole : characters_of (alone_at file front.start front.length).items ≡ cs = ap characters_of stands.stands.items ∙ append-nil cs in
    let of_front : front_left file front ≡ drop front.skipped cs = ap (drop front.skipped) whole in
    let fits : count < len cs = omega (arith, less, ap len of_front, length-drop front.skipped cs) in
    let left : (text_rest file).characters ≡ drop count cs ++ more =
    ap (behind_front file) is
    ∙ (ap (λ (t : List ℕ). drop taken (t ++ more)) of_front
    ∙ (drop-append-le taken (drop front.skipped cs) more (omega (arith, less, ap len of_front))
    ∙ ap (λ (t : List ℕ). t ++ more) (drop-drop taken front.skipped cs))) in
    let rest : IsLeft file front.start front.length count item = record {
      characters = ap (λ (p : ℕ). drop count cs ++ read_of file (characters_of (from_byte file p).items)) (sym stands.behind) ∙ sym left;
      refusal = ap (λ (p : ℕ). refusal_of (from_byte file p).ending) (sym stands.behind);
    } in
    let cookie : cookie_in file front.start front.length count item ≡ told_inside file (Some (inside_front file front)) =
    ap (λ (t : List ℕ). inside_cookie file.place.order (record { start = front.start; length = front.length; taken = take count t })) (sym whole) in
    subst (Restores file) cookie (restores_inside file front.start front.length count item readable stands.stands (omega (arith, stands.skips)) fits rest)

by_front : (file : TextFile) → file.can.readable ≡ true → reads_texts file.settings.handler ≡ true → FrontStands file file.place.front → find (gives_rest file) (boundaries file) ≡ None → (front : Option Front) → file.place.front ≡ front → Restores file (told_inside file (inside_of file front))
by_front file readable reads stands none None is = decoded_back file readable reads file.place.taken none (ap (behind_front file) is)
by_front file readable reads stands none (Some front) is =
    let taken : ℕ = file.place.taken in
    let left : List ℕ = front_left file front in
    let here : Option Inside = Some (inside_front file front) in
    let behind : Option Inside = inside_decoded file (taken - len left) in
    elim (cases_lt taken (len left)) [
      | inl less ↦ subst (λ (o : Option Inside). Restores file (told_inside file o)) (sym (cond-true (nat_lt taken (len left)) here behind (lt-ltb taken (len left) less)))
          (front_back file front readable is (subst (FrontStands file) is stands) less)
      | inr past ↦ (
          let counted : taken ≡ len left + (taken - len left) = omega (arith, past) in
          let more : List ℕ = read_of file (characters_of (decoded file).items) in
          let rest : (text_rest file).characters ≡ drop (taken - len left) more =
          ap (behind_front file) is
          ∙ (ap (λ (n : ℕ). drop n (left ++ more)) counted
          ∙ drop-append-add left more (taken - len left)) in
          subst (λ (o : Option Inside). Restores file (told_inside file o)) (sym (cond-false (nat_lt taken (len left)) here behind (le-ltb taken (len left) past)))
          (decoded_back file readable reads (taken - len left) none rest)
          )
    ]

-- a text from which nothing was taken gives back what is left at its byte
pub gives_here : (file : TextFile) → file.place.front ≡ None → file.place.taken ≡ 0 → gives_rest file file.place.at ≡ true
gives_here file front taken =
    let left : (text_rest file).characters ≡ read_of file (characters_of (decoded file).items) =
    ap (behind_front file) front ∙ ap (λ (n : ℕ). drop n (read_of file (characters_of (decoded file).items))) taken in
    gives_at file file.place.at (decoded file).items (decoded file).ending (record { items_are = refl; ending_is = refl }) (sym left) refl

pub at_byte : (file : TextFile) → file.place.front ≡ None → file.place.taken ≡ 0 → find (gives_rest file) (boundaries file) ≡ None → ⊥
at_byte file front taken none =
    let next = find_behind (gives_rest file) file.place.at (map end_of_item (decoded file).items) none in
    false≢true (sym next.0 ∙ gives_here file front taken)

by_ability : (file : TextFile) → StandsInText file → find (gives_rest file) (boundaries file) ≡ None → (readable : Bool) → file.can.readable ≡ readable → Restores file (told_inside file (inside_of file file.place.front))
by_ability file stands none true is = by_front file is (stands.reads is) stands.front none file.place.front refl
by_ability file stands none false is = let still = stands.clean (stands.still is) in absurd (at_byte file still.0 still.1 none)

by_boundary : (file : TextFile) → StandsInText file → (found : Option ℕ) → find (gives_rest file) (boundaries file) ≡ found → Restores file (told file)
by_boundary file stands (Some boundary) is = (told-boundary-back file boundary is, subst (λ (o : Option ℕ). fed_by (told_at file o) ≤ 4) (sym is) (omega arith))
by_boundary file stands None is = subst (λ (o : Option ℕ). Restores file (told_at file o)) (sym is) (by_ability file stands is file.can.readable refl)

-- the cookie that is told brings back what is left, and feeds four bytes at most
pub told_back : (file : TextFile) → StandsInText file → Restores file (told file)
told_back file stands = by_boundary file stands (find (gives_rest file) (boundaries file)) refl

inside_by : (file : TextFile) (cookie : Cookie) → GivesBack file (lands file cookie) → skips cookie ≡ true → (restorable : Bool) → is_restorable file cookie ≡ restorable → restorable ≡ true
inside_by file cookie back skipped true is = refl
inside_by file cookie back skipped false is =
    let cant : lands file cookie ≡ CantRestore (start_place cookie) =
    ap (λ (b : Bool). if not b then Stands (start_place cookie) else if is_restorable file cookie then Stands (place_inside cookie) else CantRestore (start_place cookie)) skipped
    ∙ ap (λ (b : Bool). if b then Stands (place_inside cookie) else CantRestore (start_place cookie)) is in
    absurd (subst (GivesBack file) cant back)

-- where it skips, it does so inside one item
pub told_inside_one : (file : TextFile) → StandsInText file → skips (told file) ≡ true → is_restorable file (told file) ≡ true
told_inside_one file stands skipped = inside_by file (told file) (told_back file stands).0 skipped (is_restorable file (told file)) refl
