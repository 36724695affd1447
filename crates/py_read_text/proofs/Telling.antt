-- Where a text stands, by what it has in hand.
use Rattle.std.proofs.Common.{◌≡◌, ◌≢◌, ◌⊎◌, inl, inr, ℕ, ◌+◌, ◌-◌, ◌<◌, ◌≤◌, Bool, true, false, List, [], ◌++◌, length, drop, Option, Some, None, is_some, unwrap_or, refl, sym, ap, ◌∙◌, subst, arith}
use Rattle.std.proofs.lemmas.List.{append-nil, length-append, length-drop, drop-append-le}
use Rattle.std.proofs.Math.Seq.{drop-append_seam}
use Rattle.py_flat.specs.declared.life.Life.TheVariants as life
use Rattle.py_flat.specs.Bytes.{left_at}
use Rattle.py_plain.specs.declared.encoding.Encoding.{Encoding}
use Rattle.py_plain.specs.declared.handler.Handler.{Handler}
use Rattle.py_plain.specs.declared.newlines.Newlines.{Newlines}
use Rattle.py_plain.specs.Units.{Order, Unknown}
use Rattle.py_plain.specs.Handlers.{treatment, reads_texts}
use Rattle.py_plain.specs.Items.{Walk, characters_of, refusal_of}
use Rattle.py_plain.specs.Pieces.{walk_at, items_before}
use Rattle.py_plain.specs.NewlineRule.{read_all}
use Rattle.py_plain_text.specs.TextFile.{Front, TextFile}
use Rattle.py_plain_text.specs.Rest.{Rest}
use Rattle.py_plain_text.specs.CookieLaws.{IsFront, FrontStands}
use Rattle.py_plain_text.specs.Telling.{placed, front_left, told}
use Rattle.py_telling.specs.declared.told.Told.{Told}
use Rattle.py_telling.specs.InHand.{surely_given}
use Rattle.py_telling.specs.Bases.{GoesOnFrom, given_since}
use Rattle.py_telling.specs.ToldView.{told_shown, IsToldAmong}
use Rattle.py_telling.proofs.Anywhere.{alike_anywhere}
use Rattle.py_telling.specs.Spots.{spot_cookie}
use Rattle.py_telling.proofs.Bases.{told_since}
use Rattle.py_telling.proofs.Fronts.{told_past_front, told_front_spot}
use Rattle.py_stream.specs.Buffer.{WhereShown, flat_of}
use Rattle.py_held_text.specs.Held.{HeldView, ahead, base_of, whole_of, left_with}
use Rattle.py_held_text.specs.Bases.{rebased, with_gone, without}
use Rattle.py_read_text.specs.Knowing.{TextView, place_of, shown_file, front_told, front_shown, from_place, with_given, front_of, IsInside, StandsInside, KnowsSpot, ReadsBy}
use Rattle.py_read_text.specs.Owing.{begins}
use Rattle.py_read_text.specs.Reading.{rest_of}
use Rattle.py_read_text.proofs.Steps.{Tied, behind_given}
use Rattle.py_read_text.proofs.Answering.{Holds, tied_of}

abbrev walk_by : Encoding → Handler → Order → (place : ℕ) → List ℕ → Walk
walk_by encoding handler order place bytes = walk_at encoding (treatment handler encoding) true order place bytes

abbrev rest_by : Newlines → Walk → Rest
rest_by newline walk = record { characters = read_all newline false (characters_of walk.items); refusal = refusal_of walk.ending }

-- the decoding from the base on, by the settings
seen : (text : TextView) → ReadsBy text.settings text.held → KnowsSpot text.settings (flat_of text.buffer).bytes text.buffer.place text.at text.held → ahead (rebased text.held) true (left_at (flat_of text.buffer).bytes text.buffer.place) ≡ walk_by text.settings.encoding text.settings.handler Unknown (base_of text.held) (left_at (flat_of text.buffer).bytes (base_of text.held))
seen text by spot =
    let held : HeldView = text.held in
    let base : ℕ = base_of held in
    let all : List ℕ = whole_of held ++ left_at (flat_of text.buffer).bytes text.buffer.place in
    let here : base + 0 ≡ base = omega arith in
    ap (λ (encoding : Encoding). walk_by encoding held.handler held.order (base + 0) all) by.encoding
    ∙ (ap (λ (handler : Handler). walk_by text.settings.encoding handler held.order (base + 0) all) by.handler
    ∙ (ap (λ (order : Order). walk_by text.settings.encoding text.settings.handler order (base + 0) all) spot.order
    ∙ (ap (λ (place : ℕ). walk_by text.settings.encoding text.settings.handler Unknown place all) here
    ∙ ap (walk_by text.settings.encoding text.settings.handler Unknown base) (sym spot.lies))))

-- what the text has from the base on, where no known character stands before that: what was given since, and what is left
from_base_on : (text : TextView) → text.held.front ≡ 0 → ReadsBy text.settings text.held → (spot : KnowsSpot text.settings (flat_of text.buffer).bytes text.buffer.place text.at text.held) → rest_by text.settings.newline (walk_by text.settings.encoding text.settings.handler Unknown (base_of text.held) (left_at (flat_of text.buffer).bytes (base_of text.held))) ≡ with_gone spot.gone (rest_of text)
from_base_on text none by spot =
    sym (ap (λ (newline : Newlines). rest_by newline (ahead (rebased text.held) true (left_at (flat_of text.buffer).bytes text.buffer.place))) by.newline
    ∙ ap (rest_by text.settings.newline) (seen text by spot))
    ∙ (spot.bases.base.left
    ∙ ap (λ (count : ℕ). with_gone spot.gone (without count (rest_of text))) none)

-- as many of its characters as there are were given
given_within : (given behind all : List ℕ) (count : ℕ) → all ≡ given ++ behind → length given ≡ count → count ≤ length all
given_within given behind all count is counted = omega (arith, counted, ap length is, length-append given behind)

-- The characters that were taken behind the front.

-- those that a text had in its front
abbrev front_in : TextView → List ℕ
front_in text = front_of text.settings (flat_of text.buffer).bytes text.front

-- how many were taken behind it
abbrev taken_behind : TextView → ℕ
taken_behind text = text.taken - length (front_in text)

-- of what a text has from the byte of its place on so many characters were given
record GaveBehind (text : TextView) (taken : ℕ) : Type 0 where
  given : List ℕ
  count : length given ≡ taken
  left : left_with (from_place text.settings text.at) (left_at (flat_of text.buffer).bytes text.at) ≡ with_given given (rest_of text)

abbrev rest_with : List ℕ → Option (ℕ × ℕ) → Rest
rest_with characters refusal = record { characters = characters; refusal = refusal }

-- all of the front was taken
front_taken : (text : TextView) → Tied text → text.held.front ≡ 0 → length (front_in text) ≤ text.taken
front_taken text tied none = omega (arith, tied.knows.stands, none)

gave_behind : (text : TextView) → Tied text → text.held.front ≡ 0 → GaveBehind text (taken_behind text)
gave_behind text tied none =
    let knows = tied.knows in
    let front : List ℕ = front_in text in
    let size : ℕ = length front in
    let behind : Rest = left_with (from_place text.settings text.at) (left_at (flat_of text.buffer).bytes text.at) in
    let left : Rest = rest_of text in
    let within : size ≤ length knows.given = omega (arith, front_taken text tied none, knows.count) in
    let characters : behind.characters ≡ drop size knows.given ++ left.characters =
    sym (drop-append_seam front behind.characters)
    ∙ (ap (λ (rest : Rest). drop size rest.characters) knows.left
    ∙ drop-append-le size knows.given left.characters within) in
    record {
      given = drop size knows.given;
      count = omega (arith, length-drop size knows.given, knows.count);
      left = ap (λ (cs : List ℕ). rest_with cs behind.refusal) characters ∙ ap (λ (own : Option (ℕ × ℕ)). rest_with (drop size knows.given ++ left.characters) own) (ap (λ (rest : Rest). rest.refusal) knows.left);
    }

-- the text, with so many characters taken from the byte of its place on
abbrev behind_file : TextView → (taken : ℕ) → TextFile
behind_file text taken = placed (shown_file text) (given_since text.at taken text.dirty)

-- where all of its front was taken a text tells what it tells without it
told_behind : (text : TextView) (front : Option Front) → text.front ≡ front → length (front_of text.settings (flat_of text.buffer).bytes front) ≤ text.taken → told (shown_file text) ≡ told (behind_file text (text.taken - length (front_of text.settings (flat_of text.buffer).bytes front)))
told_behind text None is past =
    let same : text.taken ≡ text.taken - 0 = omega arith in
    ap (λ (front : Option Front). told (placed (shown_file text) (record (place_of text) { front = front }))) is ∙ ap (λ (taken : ℕ). told (behind_file text taken)) same
told_behind text (Some front) is past = told_past_front (shown_file text) front is past

-- a text goes on behind the characters that were given since the base of what it has in hand
goes_on : (text : TextView) (taken : ℕ) → (tied : Tied text) → text.held.front ≡ 0 → GaveBehind text taken → reads_texts text.settings.handler ≡ true → ReadsBy text.settings text.held → GoesOnFrom (base_of text.held) text.held.given tied.knows.spot.items (behind_file text taken)
goes_on text taken tied none gave reads by =
    let spot = tied.knows.spot in
    let left : Rest = rest_of text in
    let from = from_base_on text none by spot in
    record {
      reads = reads;
      front = refl;
      order = refl;
      boundary = spot.behind ∙ ap (items_before spot.items) (seen text by spot);
      same_left =
          ap (λ (rest : Rest). rest_with (drop taken rest.characters) rest.refusal) gave.left
          ∙ (ap (λ (cs : List ℕ). rest_with cs left.refusal) (behind_given gave.given left.characters taken gave.count)
          ∙ sym (ap (λ (rest : Rest). rest_with (drop text.held.given rest.characters) rest.refusal) from
          ∙ ap (λ (cs : List ℕ). rest_with cs left.refusal) (behind_given spot.gone left.characters text.held.given spot.bases.base.count)));
      taken = given_within gave.given left.characters _ taken (ap (λ (rest : Rest). rest.characters) gave.left) gave.count;
      given = given_within spot.gone left.characters _ text.held.given (ap (λ (rest : Rest). rest.characters) from) spot.bases.base.count;
      moved = spot.moved;
    }

-- what is told by the bytes from the base on is what the text tells, where these surely give what was given since, and no known character
-- stands before the base
tells : (text : TextView) (last : Bool) (shown : Told) → Tied text → text.held.front ≡ 0 → reads_texts text.settings.handler ≡ true → ReadsBy text.settings text.held → (last ≡ true → left_at (flat_of text.buffer).bytes text.buffer.place ≡ []) → text.held.given ≤ length (surely_given text.held.encoding text.held.handler text.held.newline last (whole_of text.held)) → IsToldAmong text.held.encoding text.held.handler text.held.newline last (base_of text.held) text.held.given (whole_of text.held) shown → told_shown shown ≡ told (shown_file text)
tells text last shown tied none reads by ends sure among =
    let spot = tied.knows.spot in
    let taken : ℕ = taken_behind text in
    among sure (placed (shown_file text) (given_since (base_of text.held) text.held.given text.dirty))
    (record { encoding_is = sym by.encoding; handler_is = sym by.handler; newline_is = sym by.newline; front = refl; at = refl; order = refl; taken = refl })
    (record { more = left_at (flat_of text.buffer).bytes text.buffer.place; bytes_are = spot.lies; last_are = ends })
    ∙ (sym (told_since (behind_file text taken) (base_of text.held) text.held.given spot.items (goes_on text taken tied none (gave_behind text tied none) reads by) text.dirty)
    ∙ sym (told_behind text text.front refl (front_taken text tied none)))

-- Where nothing comes behind what is in hand.

-- its bytes from the base on surely give what was given since
sure_at_end : (text : TextView) → (spot : KnowsSpot text.settings (flat_of text.buffer).bytes text.buffer.place text.at text.held) → left_at (flat_of text.buffer).bytes text.buffer.place ≡ [] → text.held.given ≤ length (surely_given text.held.encoding text.held.handler text.held.newline true (whole_of text.held))
sure_at_end text spot none =
    let held : HeldView = text.held in
    let gives : Order → (place : ℕ) → List ℕ → List ℕ = λ order place bytes. read_all held.newline false (characters_of (walk_by held.encoding held.handler order place bytes).items) in
    let there : gives held.order (base_of held + 0) (whole_of held ++ left_at (flat_of text.buffer).bytes text.buffer.place) ≡ spot.gone ++ drop held.front (rest_of text).characters = ap (λ (rest : Rest). rest.characters) spot.bases.base.left in
    let bytes : whole_of held ++ left_at (flat_of text.buffer).bytes text.buffer.place ≡ whole_of held = ap (λ (xs : List ℕ). whole_of held ++ xs) none ∙ append-nil (whole_of held) in
    given_within spot.gone (drop held.front (rest_of text).characters) (gives Unknown 0 (whole_of held)) held.given
    (ap (read_all held.newline false) (alike_anywhere held.handler held.encoding true Unknown 0 (base_of held + 0) (whole_of held)).characters
    ∙ (ap (λ (order : Order). gives order (base_of held + 0) (whole_of held)) (sym spot.order)
    ∙ (ap (gives held.order (base_of held + 0)) (sym bytes) ∙ there)))
    spot.bases.base.count

tells_at_end : (text : TextView) (shown : Told) → Tied text → text.held.front ≡ 0 → reads_texts text.settings.handler ≡ true → ReadsBy text.settings text.held → left_at (flat_of text.buffer).bytes text.buffer.place ≡ [] → IsToldAmong text.held.encoding text.held.handler text.held.newline true (base_of text.held) text.held.given (whole_of text.held) shown → told_shown shown ≡ told (shown_file text)
tells_at_end text shown tied front reads by none among = tells text true shown tied front reads by (λ last. none) (sure_at_end text tied.knows.spot none) among

-- Of a text of which characters were taken, or that was put inside an item.

-- a text behind a front reads
front_reads : (text : TextView) → Holds text → (text.front ≡ None → ⊥) → (reads : Bool) → text.buffer.can.readable ≡ reads → reads ≡ true
front_reads text is some true can = refl
front_reads text is some false can = absurd (some (is.still can))

-- and so does one of which characters were taken
reads_on : (text : TextView) → Holds text → (text.front ≡ None → text.taken ≢ 0) → text.buffer.can.readable ≡ true
reads_on text is some = by_front text.front refl
  where
    by_front : (front : Option Front) → text.front ≡ front → text.buffer.can.readable ≡ true
    by_front (Some front) there = front_reads text is (λ none. let never = sym there ∙ none in absurd (cc)) text.buffer.can.readable refl
    by_front None there = by_ahead is.ahead
      where
        by_ahead : (text.at ≡ text.buffer.place) ⊎ ((text.buffer.owed.bytes ≡ []) × (text.buffer.can.readable ≡ true)) → text.buffer.can.readable ≡ true
        by_ahead (inl here) = absurd (some there (omega (arith, here, is.stands, is.forth, is.few, ap (λ (front : Option Front). begins front text.at) there)))
        by_ahead (inr reads) = reads.1

-- by whether a decoding knew that no bytes come behind those in hand
tells_by : (text : TextView) (shown : Told) (tied : Tied text) → text.held.front ≡ 0 → reads_texts text.settings.handler ≡ true → ReadsBy text.settings text.held → (ended : Bool) → text.held.ended ≡ ended → IsToldAmong text.held.encoding text.held.handler text.held.newline ended (base_of text.held) text.held.given (whole_of text.held) shown → (ended ≡ false → text.held.given ≤ length (surely_given text.held.encoding text.held.handler text.held.newline false (whole_of text.held))) → told_shown shown ≡ told (shown_file text)
tells_by text shown tied none reads by true knew among sure = tells_at_end text shown tied none reads by (tied.knows.spot.ended knew) among
tells_by text shown tied none reads by false knew among sure = tells text false shown tied none reads by (λ last. absurd (cc)) (sure refl) among

-- it is told by what is in hand, where no known character stands before the base
pub tells_taken : (text : TextView) (shown : Told) → Holds text → text.buffer.life ≡ life.Live → (text.front ≡ None → text.taken ≢ 0) → text.held.front ≡ 0 → reads_texts text.held.handler ≡ true → IsToldAmong text.held.encoding text.held.handler text.held.newline text.held.ended (base_of text.held) text.held.given (whole_of text.held) shown → (text.held.ended ≡ false → text.held.given ≤ length (surely_given text.held.encoding text.held.handler text.held.newline false (whole_of text.held))) → WhereShown text.buffer (told_shown shown ≡ told (shown_file text))
tells_taken text shown is live some none reads among sure shows =
    let can = reads_on text is some in
    let by = is.reads_by can in
    tells_by text shown (tied_of text live can is shows) none (subst (λ (handler : Handler). reads_texts handler ≡ true) by.handler reads) by text.held.ended refl among sure

-- Of a text of whose front some is left.

-- where a text was put, whose front has some left, is that front
pub put_inside : (inside : Option Told) (other put : Told) (at taken left : ℕ) → put ≡ unwrap_or inside other → StandsInside (front_shown inside) at taken left → 1 ≤ left → (front_shown inside ≡ Some (front_told put)) × IsInside (front_told put) at taken left
put_inside None other put at taken left is inside some = absurd (omega (arith, inside, some))
put_inside (Some told) other put at taken left is inside some = (ap (λ (own : Told). Some (front_told own)) (sym is), subst (λ (own : Told). IsInside (front_told own) at taken left) (sym is) inside)

-- where a text was put inside an item it has a front
pub shown_inside : (inside : Option Told) → is_some inside ≡ true → front_shown inside ≡ None → ⊥
shown_inside None is none = absurd (cc)
shown_inside (Some told) is none = absurd (cc)

-- it is told by that front
pub tells_inside : (text : TextView) (shown : Told) (front : Front) → Holds text → text.buffer.life ≡ life.Live → text.front ≡ Some front → 1 ≤ text.held.front → reads_texts text.held.handler ≡ true → shown.start ≡ front.start → shown.length ≡ front.length → shown.skipped ≡ front.skipped + text.taken → WhereShown text.buffer (told_shown shown ≡ told (shown_file text))
tells_inside text shown front is live there some reads start length_is skipped shows =
    let can = front_reads text is (λ none. let never = sym there ∙ none in absurd (cc)) text.buffer.can.readable refl in
    let by = is.reads_by can in
    let knows = (tied_of text live can is shows).knows in
    let file : TextFile = shown_file text in
    let stands : IsFront file front = subst (FrontStands file) there (knows.item file refl refl refl refl refl) in
    let less : text.taken < length (front_left file front) = omega (arith, some, knows.stands, ap (λ (own : Option Front). length (front_of text.settings (flat_of text.buffer).bytes own)) there) in
    ap spot_cookie (rw (start, length_is, skipped) refl)
    ∙ sym (told_front_spot file front (subst (λ (handler : Handler). reads_texts handler ≡ true) by.handler reads) refl stands there less)
