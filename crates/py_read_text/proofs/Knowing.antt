-- How what is known of a text stays tied to the bytes below.
use Rattle.std.proofs.Common.{◌≡◌, ℕ, ◌+◌, ◌-◌, ◌≤◌, nat_lt, if◌then◌else◌, Bool, true, false, List, [], ◌∷◌, ◌++◌, length, take, drop, Option, Some, None, IfSome, refl, sym, ap, subst, ◌∙◌, arith}
use Rattle.std.proofs.lemmas.Bool.{ltb-true}
use Rattle.std.proofs.lemmas.List.{append-nil, append_assoc, length-append, length-drop, length-take-le, take-append-drop, drop-drop}
use Rattle.std.proofs.Math.Seq.{take-add, drop-append_seam, take-append_seam}
use Rattle.py_flat.specs.Bytes.{left_at}
use Rattle.py_flat.specs.BinaryStep.{IsFrontOf}
use Rattle.py_plain.specs.Handlers.{treatment}
use Rattle.py_plain.specs.Items.{Walk, characters_of, refusal_of}
use Rattle.py_plain.specs.Pieces.{walk_at}
use Rattle.py_plain.specs.NewlineRule.{read_so_far, read_all}
use Rattle.py_plain_text.specs.TextFile.{Front, TextSettings}
use Rattle.py_plain_text.specs.Rest.{Rest}
use Rattle.py_held_text.specs.declared.base.Mark.{Mark}
use Rattle.py_held_text.specs.declared.base.BaseMove.{BaseMove}
use Rattle.py_held_text.specs.Held.{HeldView, ahead, base_behind, given_on, whole_of, left_with, left_so_far}
use Rattle.py_read_text.specs.Waiting.{bytes_between}
use Rattle.py_read_text.specs.Knowing.{from_place, with_given, front_of, HasFront, KnowsTold}
use Rattle.py_read_text.specs.Reading.{Follows}
use Rattle.py_read_text.proofs.Spots.{spot_follows, spot_part, spot_given}

-- a list is a front of itself
itself : (xs : List ℕ) → IsFrontOf xs xs
itself xs = ([], append-nil xs)

-- What is in hand was looked at.

pub knows_follows : (settings : TextSettings) (bytes : List ℕ) (far : ℕ) (front : Option Front) (at taken : ℕ) (Behind : List ℕ → Type 0) (old new : HeldView) → Follows Behind old new → ((more : List ℕ) → IsFrontOf more (left_at bytes far) → Behind more) → KnowsTold settings bytes far front at taken old → KnowsTold settings bytes far front at taken new
knows_follows settings bytes far front at taken Behind old new follows may told =
    let rest : List ℕ = left_at bytes far in
    record {
      item = told.item;
      stands = follows.front ∙ told.stands;
      given = told.given;
      count = told.count;
      within = told.within;
      left = told.left ∙ ap (with_given told.given) (sym (follows.left rest (may rest (itself rest))));
      shows = λ more own. omega (arith, told.shows more own, follows.shows more (may more own));
      sound = λ more own none. told.sound more own (follows.sound more (may more own) none);
      whole = λ none. told.whole none ∙ ap (λ (xs : List ℕ). xs ++ rest) (sym follows.whole);
      spot = spot_follows settings bytes far at Behind old new follows (may rest (itself rest)) told.spot;
    }

-- nothing but nothing comes behind the end
pub ends_behind : (bytes : List ℕ) (far : ℕ) → left_at bytes far ≡ [] → (more : List ℕ) → IsFrontOf more (left_at bytes far) → more ≡ []
ends_behind bytes far end more front = nothing_before more front.0 (front.1 ∙ end)
  where
    nothing_before : (xs ys : List ℕ) → xs ++ ys ≡ [] → xs ≡ []
    nothing_before [] ys none = refl
    nothing_before (x ∷ xs) ys none = absurd (cc)

-- Bytes were put behind those in hand.

abbrev pub with_part : HeldView → List ℕ → ℕ → HeldView
with_part held part room = record held { bytes = held.bytes ++ part; room = room }

-- all bytes from the base on, with those that came
pub whole_part : (held : HeldView) (part : List ℕ) → whole_of held ++ part ≡ held.back ++ (held.bytes ++ part)
whole_part held part = append_assoc held.back held.bytes part

left_part : (held : HeldView) (part more : List ℕ) (room : ℕ) → left_with (with_part held part room) more ≡ left_with held (part ++ more)
left_part held part more room =
    ap (λ (all : List ℕ). let walk : Walk = walk_at held.encoding (treatment held.handler held.encoding) true held.order held.place all in let rest : Rest = record { characters = held.known ++ read_all held.newline held.cr (characters_of walk.items); refusal = refusal_of walk.ending } in rest) (append_assoc held.bytes part more)

so_far_part : (held : HeldView) (part more : List ℕ) (room : ℕ) → left_so_far (with_part held part room) more ≡ left_so_far held (part ++ more)
so_far_part held part more room =
    ap (λ (all : List ℕ). let walk : Walk = walk_at held.encoding (treatment held.handler held.encoding) false held.order held.place all in let rest : Rest = record { characters = held.known ++ read_so_far held.newline held.cr (characters_of walk.items); refusal = refusal_of walk.ending } in rest) (append_assoc held.bytes part more)

-- what is left behind a front of what is left
behind_front : (bytes part : List ℕ) (far : ℕ) → (front : IsFrontOf part (left_at bytes far)) → left_at bytes (far + length part) ≡ front.0
behind_front bytes part far front = sym (drop-drop (length part) far bytes) ∙ (ap (drop (length part)) (sym front.1) ∙ drop-append_seam part front.0)

split_front : (bytes part : List ℕ) (far : ℕ) → (front : IsFrontOf part (left_at bytes far)) → left_at bytes far ≡ part ++ left_at bytes (far + length part)
split_front bytes part far front = sym front.1 ∙ ap (λ (xs : List ℕ). part ++ xs) (sym (behind_front bytes part far front))

-- the bytes taken since the text place, with those that came
between_front : (bytes part : List ℕ) (at far : ℕ) → at ≤ far → IsFrontOf part (left_at bytes far) → bytes_between bytes at (far + length part) ≡ bytes_between bytes at far ++ part
between_front bytes part at far forth front =
    let from : List ℕ = left_at bytes at in
    let count : ℕ = far - at in
    let size : (far + length part) - at ≡ count + length part = omega (arith, forth) in
    let rest : drop count from ≡ left_at bytes far = drop-drop count at bytes ∙ ap (λ (n : ℕ). drop n bytes) (omega (arith, forth)) in
    ap (λ (n : ℕ). take n from) size
    ∙ (take-add count (length part) from
    ∙ ap (λ (xs : List ℕ). take count from ++ xs) (ap (take (length part)) (rest ∙ sym front.1) ∙ take-append_seam part front.0))

pub knows_part : (settings : TextSettings) (bytes : List ℕ) (far : ℕ) (front : Option Front) (at taken : ℕ) (held : HeldView) (part : List ℕ) (room : ℕ) → at ≤ far → IsFrontOf part (left_at bytes far) → KnowsTold settings bytes far front at taken held → KnowsTold settings bytes (far + length part) front at taken (with_part held part room)
knows_part settings bytes far front at taken held part room forth ahead told =
    let behind : List ℕ = left_at bytes (far + length part) in
    let split = split_front bytes part far ahead in
    let longer : (more : List ℕ) → IsFrontOf more behind → IsFrontOf (part ++ more) (left_at bytes far) = λ more own. (own.0, append_assoc part more own.0 ∙ (ap (λ (xs : List ℕ). part ++ xs) own.1 ∙ sym split)) in
    let taken_bytes : (more : List ℕ) → bytes_between bytes at (far + length part) ++ more ≡ bytes_between bytes at far ++ (part ++ more) = λ more. ap (λ (xs : List ℕ). xs ++ more) (between_front bytes part at far forth ahead) ∙ append_assoc (bytes_between bytes at far) part more in
    record {
      item = told.item;
      stands = told.stands;
      given = told.given;
      count = told.count;
      within = omega (arith, told.within, ap length ahead.1, length-append part ahead.0, length-drop far bytes);
      left = told.left ∙ ap (with_given told.given) (ap (left_with held) split ∙ sym (left_part held part behind room));
      shows = λ more own. subst (λ (all : List ℕ). length (front_of settings bytes front) + length (left_so_far (from_place settings at) all).characters ≤ taken + length (left_so_far (with_part held part room) more).characters) (sym (taken_bytes more))
          (subst (λ (rest : Rest). length (front_of settings bytes front) + length (left_so_far (from_place settings at) (bytes_between bytes at far ++ (part ++ more))).characters ≤ taken + length rest.characters) (sym (so_far_part held part more room)) (told.shows (part ++ more) (longer more own)));
      sound = λ more own none. subst (λ (all : List ℕ). (left_so_far (from_place settings at) all).refusal ≡ None) (sym (taken_bytes more))
          (told.sound (part ++ more) (longer more own) (sym (ap (λ (rest : Rest). rest.refusal) (so_far_part held part more room)) ∙ none));
      whole = λ none. told.whole none ∙ (ap (λ (xs : List ℕ). whole_of held ++ xs) split ∙ (sym (append_assoc (whole_of held) part behind) ∙ ap (λ (xs : List ℕ). xs ++ behind) (whole_part held part)));
      spot = spot_part settings bytes far at held part room split told.spot;
    }

-- Characters were given.

abbrev pub without_front : HeldView → (count room : ℕ) → HeldView
without_front held count room = record (given_on count held) { room = room }

-- where none were given the base stays
passed_none : (front given : ℕ) (mark : Option Mark) → (base_behind 0 front given mark).passed ≡ 0
passed_none front given None = refl
passed_none front given (Some mark) = by_if (nat_lt mark.count 0) _ _ (λ past. absurd (omega (arith, ltb-true mark.count 0 past))) refl
  where
    by_if : (past : Bool) (one other : BaseMove) → (past ≡ true → one.passed ≡ 0) → other.passed ≡ 0 → (if past then one else other).passed ≡ 0
    by_if true one other moves stays = moves refl
    by_if false one other moves stays = stays

pub given_none : (held : HeldView) (count room : ℕ) → count ≡ 0 → whole_of (without_front held count room) ≡ whole_of held
given_none held count room none = ap (λ (n : ℕ). drop (base_behind n held.front held.given held.mark).passed held.back ++ held.bytes) none ∙ ap (λ (n : ℕ). drop n held.back ++ held.bytes) (passed_none held.front held.given held.mark)

-- so many characters stand before a base once others were given, and before the mark behind it too
abbrev FrontLeft : ℕ → BaseMove → Type 0
FrontLeft left base = (base.front ≡ left) × IfSome base.mark (λ (mark : Mark). left ≤ mark.count)

-- those of the front are given first
front_by : (count front given : ℕ) (mark : Option Mark) → IfSome mark (λ (own : Mark). front ≤ own.count) → FrontLeft (front - count) (base_behind count front given mark)
front_by count front given None marked = (refl, tt)
front_by count front given (Some mark) marked = by_past (nat_lt mark.count count) refl
  where
    moved : BaseMove
    moved = record { passed = mark.passed; front = 0; given = count - mark.count; mark = None }

    stays : BaseMove
    stays = record { passed = 0; front = front - count; given = given + (count - front); mark = Some (record mark { count = mark.count - count }) }

    by_past : (past : Bool) → nat_lt mark.count count ≡ past → FrontLeft (front - count) (if past then moved else stays)
    by_past true is = (omega (arith, marked, ltb-true mark.count count is), tt)
    by_past false is = (refl, omega (arith, marked))

pub front_given : (held : HeldView) (count room : ℕ) → HasFront held → (without_front held count room).front ≡ held.front - count
front_given held count room has = (front_by count held.front held.given held.mark has.marked).0

pub has_given : (held : HeldView) (count room : ℕ) → count ≤ length held.known → HasFront held → HasFront (without_front held count room)
has_given held count room within has =
    let left = front_by count held.front held.given held.mark has.marked in
    record {
      among = omega (arith, left.0, within, has.among, length-drop count held.known);
      marked = subst (λ (front : ℕ). IfSome (without_front held count room).mark (λ (mark : Mark). front ≤ mark.count)) (sym left.0) left.1;
    }

given_characters : (given known behind : List ℕ) (count : ℕ) → given ++ (known ++ behind) ≡ (given ++ take count known) ++ (drop count known ++ behind)
given_characters given known behind count =
    sym (append_assoc given (take count known) (drop count known ++ behind)
    ∙ ap (λ (xs : List ℕ). given ++ xs) (sym (append_assoc (take count known) (drop count known) behind) ∙ ap (λ (xs : List ℕ). xs ++ behind) (take-append-drop count known)))

pub knows_given : (settings : TextSettings) (bytes : List ℕ) (far : ℕ) (front : Option Front) (at taken : ℕ) (held : HeldView) (count room : ℕ) → count ≤ length held.known → HasFront held → KnowsTold settings bytes far front at taken held → KnowsTold settings bytes far front at (taken + count) (without_front held count room)
knows_given settings bytes far front at taken held count room within has told =
    let rest : Rest = left_with held (left_at bytes far) in
    let behind : List ℕ = read_all held.newline held.cr (characters_of (ahead held true (left_at bytes far)).items) in
    let sizes : (more : List ℕ) → count + length (left_so_far (without_front held count room) more).characters ≡ length (left_so_far held more).characters = λ more.
    let sure : List ℕ = read_so_far held.newline held.cr (characters_of (ahead held false more).items) in
    omega (arith, within, length-append held.known sure, length-append (drop count held.known) sure, length-drop count held.known) in
    record {
      item = told.item;
      stands = omega (arith, front_given held count room has, told.stands);
      given = told.given ++ take count held.known;
      count = omega (arith, told.count, length-append told.given (take count held.known), length-take-le count held.known within);
      within = told.within;
      left = told.left ∙ ap (λ (cs : List ℕ). let all : Rest = record { characters = cs; refusal = rest.refusal } in all) (given_characters told.given held.known behind count);
      shows = λ more own. omega (arith, told.shows more own, sizes more);
      sound = λ more own none. told.sound more own none;
      whole = λ none. told.whole (omega (arith, none)) ∙ ap (λ (xs : List ℕ). xs ++ left_at bytes far) (sym (given_none held count room (omega (arith, none))));
      spot = spot_given settings bytes far at held count room within told.spot;
    }
