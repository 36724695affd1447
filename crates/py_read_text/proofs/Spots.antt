-- What is in hand goes on telling where a text stands.
use Rattle.std.proofs.Common.{◌≡◌, ◌⊎◌, inl, inr, ℕ, ◌+◌, ◌-◌, ◌≤◌, true, List, [], ◌∷◌, ◌++◌, length, drop, refl, sym, ap, subst, ◌∙◌, arith}
use Rattle.std.proofs.lemmas.List.{append_assoc, length-append, drop-drop, drop-append-le}
use Rattle.py_flat.specs.Bytes.{left_at}
use Rattle.py_plain.specs.Handlers.{treatment}
use Rattle.py_plain.specs.Pieces.{walk_at, items_before}
use Rattle.py_plain.specs.Units.{Unknown}
use Rattle.py_plain_text.specs.TextFile.{TextSettings}
use Rattle.py_held_text.specs.Held.{HeldView, ahead, base_of, whole_of, given_on}
use Rattle.py_held_text.specs.Bases.{rebased, KnowsBases}
use Rattle.py_held_text.proofs.Bases.{SameBase, GivenOn, ahead-same, front-from, bases-front, bases-put, ahead-put, bases-given}
use Rattle.py_held_text.proofs.Walking.{both-before}
use Rattle.py_read_text.specs.Knowing.{from_place, KnowsSpot}
use Rattle.py_read_text.specs.Reading.{Follows}

-- all bytes since a place are in hand, and none is decoded
abbrev pub held_from : TextSettings → ℕ → List ℕ → ℕ → HeldView
held_from settings at since room = record (from_place settings at) { bytes = since; room = room }

-- nothing is known from the text place on but characters that stand before it
pub spot_front : (settings : TextSettings) (bytes : List ℕ) (far at room : ℕ) (since front : List ℕ) → left_at bytes at ≡ since ++ left_at bytes far → KnowsSpot settings bytes far at (front-from (held_from settings at since room) front)
spot_front settings bytes far at room since front split =
    let bases = bases-front (left_at bytes far) (held_from settings at since room) front in
    let here : at - 0 ≡ at = omega arith in
    record {
      order = refl;
      lies = ap (left_at bytes) here ∙ split;
      gone = [];
      bases = bases;
      items = [];
      behind = ap (walk_at settings.encoding (treatment settings.handler settings.encoding) true Unknown at) split ∙ sym (ap (λ (held : HeldView). ahead held true (left_at bytes far)) (anew at));
      moved = inr here;
      ended = λ knew. absurd (cc);
    }
  where
    anew : (place : ℕ) → rebased (front-from (held_from settings place since room) front) ≡ held_from settings place since room
    anew place =
        let there : (place - 0) + 0 ≡ place = omega arith in
        ap (λ (own : ℕ). held_from settings own since room) there

-- a base that stays behind some items, or is the text place
moved_on : (at given now before after : ℕ) → now ≡ given → after ≡ before → (1 ≤ given) ⊎ (before ≡ at) → (1 ≤ now) ⊎ (after ≡ at)
moved_on at given now before after count same (inl some) = inl (omega (arith, some, count))
moved_on at given now before after count same (inr there) = inr (same ∙ there)

-- what is in hand was looked at
pub spot_follows : (settings : TextSettings) (bytes : List ℕ) (far at : ℕ) (Behind : List ℕ → Type 0) (old new : HeldView) → Follows Behind old new → Behind (left_at bytes far) → KnowsSpot settings bytes far at old → KnowsSpot settings bytes far at new
spot_follows settings bytes far at Behind old new follows may spot =
    let rest : List ℕ = left_at bytes far in
    let same : SameBase old new = record { settings = follows.settings; order = follows.order; base = follows.base; whole = follows.whole } in
    record {
      order = follows.order ∙ spot.order;
      lies = ap (left_at bytes) follows.base ∙ (spot.lies ∙ ap (λ (xs : List ℕ). xs ++ rest) (sym follows.whole));
      gone = spot.gone;
      bases = follows.bases rest may spot.gone spot.bases;
      items = spot.items;
      behind = spot.behind ∙ ap (items_before spot.items) (sym (ahead-same old new 0 same rest));
      moved = moved_on at old.given new.given (base_of old) (base_of new) follows.given follows.base spot.moved;
      ended = follows.ended rest may spot.ended;
    }

-- nothing stands behind a front of nothing
none_behind : (part rest : List ℕ) → part ++ rest ≡ [] → rest ≡ []
none_behind [] rest none = none
none_behind (byte ∷ more) rest none = absurd (cc)

-- bytes were put behind those in hand
pub spot_part : (settings : TextSettings) (bytes : List ℕ) (far at : ℕ) (held : HeldView) (part : List ℕ) (room : ℕ) → left_at bytes far ≡ part ++ left_at bytes (far + length part) → KnowsSpot settings bytes far at held → KnowsSpot settings bytes (far + length part) at (record held { bytes = held.bytes ++ part; room = room })
spot_part settings bytes far at held part room split spot =
    let rest : List ℕ = left_at bytes (far + length part) in
    record {
      order = spot.order;
      lies = spot.lies ∙ (ap (λ (xs : List ℕ). whole_of held ++ xs) split ∙ (sym (append_assoc (whole_of held) part rest) ∙ ap (λ (xs : List ℕ). xs ++ rest) (append_assoc held.back held.bytes part)));
      gone = spot.gone;
      bases = bases-put rest part held spot.gone room (subst (λ (more : List ℕ). KnowsBases more held spot.gone) split spot.bases);
      items = spot.items;
      behind = spot.behind ∙ ap (items_before spot.items) (ap (ahead (rebased held) true) split ∙ sym (ahead-put rest part held room 0 (omega arith)));
      moved = spot.moved;
      ended = λ knew. none_behind part rest (sym split ∙ spot.ended knew);
    }

-- where the base stands once it passed some bytes
given_moved : (at given now before passed after : ℕ) → after ≡ before + passed → (1 ≤ now) ⊎ ((passed ≡ 0) × (given ≤ now)) → (1 ≤ given) ⊎ (before ≡ at) → (1 ≤ now) ⊎ (after ≡ at)
given_moved at given now before passed after there (inl some) was = inl some
given_moved at given now before passed after there (inr still) (inl some) = inl (omega (arith, some, still.1))
given_moved at given now before passed after there (inr still) (inr here) = inr (omega (arith, there, still.0, here))

-- characters were given
pub spot_given : (settings : TextSettings) (bytes : List ℕ) (far at : ℕ) (held : HeldView) (count room : ℕ) → count ≤ length held.known → KnowsSpot settings bytes far at held → KnowsSpot settings bytes far at (record (given_on count held) { room = room })
spot_given settings bytes far at held count room within spot =
    let rest : List ℕ = left_at bytes far in
    let new : HeldView = record (given_on count held) { room = room } in
    let own : GivenOn rest held new = bases-given rest held spot.gone count room within spot.bases in
    record {
      order = spot.order;
      lies =
          ap (left_at bytes) own.base
          ∙ (sym (drop-drop own.passed (base_of held) bytes)
          ∙ (ap (drop own.passed) spot.lies
          ∙ (drop-append-le own.passed (whole_of held) rest (omega (arith, own.within, length-append held.back held.bytes))
          ∙ ap (λ (xs : List ℕ). xs ++ rest) (sym own.whole))));
      gone = own.gone;
      bases = own.bases;
      items = spot.items ++ own.items.0;
      behind = spot.behind ∙ (ap (items_before spot.items) own.items.1 ∙ sym (both-before spot.items own.items.0 (ahead (rebased new) true rest)));
      moved = given_moved at held.given new.given (base_of held) own.passed (base_of new) own.base own.moved spot.moved;
      ended = spot.ended;
    }
