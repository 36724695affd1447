-- What is owed after a write, wherever it was made.
use Rattle.std.proofs.Common.{◌≡◌, ◌≢◌, ℕ, ◌+◌, ◌-◌, ◌<◌, ◌≤◌, ◌⊎◌, inl, inr, ⊎_elim, max, List, [], ◌∷◌, ◌++◌, length, take, drop, refl, sym, ap, ◌∙◌, subst, arith, length-append, length-drop, length-take}
use Rattle.std.proofs.Math.Seq.{take-nil, drop-nil, drop-append-add}
use Rattle.std.proofs.lemmas.Bool.{cases_lt}
use Rattle.std.proofs.lemmas.List.{append-nil, take_all, take_min, drop_all, drop-append-le, take_at, length-take-le}
use Rattle.py_flat.specs.Bytes.{lay}
use Rattle.py_flat.specs.Owed.{Owed}
use Rattle.py_raw.specs.RawStream.{Raw, AnswersFor}
use Rattle.py_stream.specs.Stream.{Stream}
use Rattle.py_stream.specs.Writing.{OwesUpTo, HasAt, first_of_both, end_of_both, Takes, CoversBoth, OwesAll, OwesBoth}

-- Parts of a list.

-- a list has nothing at any place
pub has_none : (whole : List ℕ) (begins place : ℕ) → HasAt whole begins [] place
has_none whole begins place = grind arith

-- a list that begins with what is left of a part, in or behind its beginning
has_front : (part more : List ℕ) (begins place : ℕ) → place ≤ begins → HasAt (drop (begins - place) part ++ more) begins part place
has_front part more begins place before = grind (arith, take_at, length-drop)

-- a list has the part that stands behind a front of it, at the place after that front
has_behind : (front part : List ℕ) (begins place : ℕ) → place ≡ begins + length front → HasAt (front ++ part) begins part place
has_behind front part begins place is = grind (arith, drop-append-add, take_all)

-- a list that begins after the end of a part has what reaches into it of that part: none
pub has_past : (whole : List ℕ) (begins : ℕ) (part : List ℕ) (place : ℕ) → place + length part ≤ begins → HasAt whole begins part place
has_past whole begins part place past = grind (arith, drop_all)

-- Where what is owed ends at the place.

module _ (old taken : List ℕ) (start place passed at : ℕ) (new : List ℕ) (up_to : (old ≡ []) ⊎ (start + length old ≡ place)) (is : new ≡ drop passed (old ++ taken)) (ends : at + length new ≡ place + length taken) (some : 0 < length new) where
  many : length new ≡ length old + length taken - passed
  many = ap length is ∙ length-drop passed (old ++ taken) ∙ ap (λ (n : ℕ). n - passed) (length-append old taken)

  -- what is left begins in what was owed
  in_old : passed ≤ length old → (new ≡ drop passed old ++ taken) × (place ≡ at + length (drop passed old))
  in_old early = (is ∙ drop-append-le passed old taken early, omega (arith, many, ends, length-drop passed old))

  -- once all that was owed is passed on, what is left is the end of what was taken
  in_taken : length old ≤ passed → (new ≡ drop (passed - length old) taken) × (at ≡ place + (passed - length old))
  in_taken late = grind (arith, drop-append-add, many)

  has_new : HasAt new at taken place
  has_new = ⊎_elim
      (λ (early : passed < length old). let here = in_old (omega (arith, early)) in subst (λ (whole : List ℕ). HasAt whole at taken place) (sym here.0) (has_behind (drop passed old) taken at place here.1))
      (λ (late : length old ≤ passed). let here = in_taken late in
      let front : new ≡ drop (at - place) taken = here.0 ∙ ap (λ (n : ℕ). drop n taken) (omega (arith, here.1)) in
      subst (λ (whole : List ℕ). HasAt whole at taken place) (sym (front ∙ sym (append-nil (drop (at - place) taken)))) (has_front taken [] at place (omega (arith, here.1))))
      (cases_lt passed (length old))

  has_old : start + length old ≡ place → HasAt new at old start
  has_old whole = grind (arith, in_old, length-drop, has_front, in_taken, has_past, cases_lt)

-- the place of the first of both
begins_by : (old : List ℕ) (start : ℕ) (taken : List ℕ) (place at : ℕ) → (old ≡ []) ⊎ (start + length old ≡ place) → place ≤ at + length old → first_of_both old start taken place ≤ at
begins_by old start taken place at up_to reach = grind arith

-- the end of what was owed up to the place, and of bytes taken from there, is where those end
ends_by : (old : List ℕ) (start : ℕ) (taken : List ℕ) (place : ℕ) → (old ≡ []) ⊎ (start + length old ≡ place) → end_of_both old start taken place ≡ place + length taken
ends_by old start taken place up_to = grind arith

-- what was owed up to the place
up_to_place : (old : List ℕ) (start place : ℕ) → (old ≡ []) ⊎ (start + length old ≡ place) → take (place - start) old ≡ old
up_to_place old start place up_to = grind (arith, take-nil, take_all)

none_behind : (old : List ℕ) (start place count : ℕ) → (old ≡ []) ⊎ (start + length old ≡ place) → drop (place + count - start) old ≡ []
none_behind old start place count up_to = grind (arith, drop-nil, drop_all)

counts_some : (bytes : List ℕ) → bytes ≢ [] → 0 < length bytes
counts_some [] some = absurd (some refl)
counts_some (byte ∷ more) some = omega arith

old_at : (old taken : List ℕ) (start place passed at : ℕ) (new : List ℕ) → (old ≡ []) ⊎ (start + length old ≡ place) → new ≡ drop passed (old ++ taken) → at + length new ≡ place + length taken → 0 < length new → HasAt new at old start
old_at [] taken start place passed at new up_to is ends some = has_none new at start
old_at (byte ∷ more) taken start place passed at new (inl none) is ends some = absurd (cc)
old_at (byte ∷ more) taken start place passed at new (inr whole) is ends some = has_old (byte ∷ more) taken start place passed at new (inr whole) is ends some whole

-- where what is owed ends at a place, and is some, it begins so many bytes before
pub ends_at : (owed : Owed) (place : ℕ) → owed.bytes ≢ [] → OwesUpTo owed place → owed.place + length owed.bytes ≡ place
ends_at owed place some (inl none) = absurd (some none)
ends_at owed place some (inr ends) = ends

-- what is owed from no later than a place on begins the first of both
first_before : (bytes : List ℕ) (start : ℕ) (taken : List ℕ) (place : ℕ) → bytes ≢ [] → start ≤ place → first_of_both bytes start taken place ≡ start
first_before [] start taken place some before = absurd (some refl)
first_before (byte ∷ more) start [] place some before = refl
first_before (byte ∷ more) start (new ∷ others) place some before = omega (arith, before)

-- of what was owed up to a place what is left begins where it stood
begins_left : (old : List ℕ) (start : ℕ) (taken : List ℕ) (place passed at : ℕ) → (old ≡ []) ⊎ (start + length old ≡ place) → passed < length old → place ≡ at + length (drop passed old) → at ≡ first_of_both (drop passed old) (start + passed) taken place
begins_left old start taken place passed at (inl none) early ends = absurd (omega (arith, early, ap length none))
begins_left old start taken place passed at (inr whole) early ends = omega (arith, first_before (drop passed old) (start + passed) taken place (λ none. omega (arith, early, length-drop passed old, ap length none)) (omega (arith, whole, early)), whole, ends, length-drop passed old, early)

-- what is left of what was owed, by its bytes and where some begin, tells the first of both
pub first_left : (bytes rest : List ℕ) (start there : ℕ) (new : List ℕ) (place at : ℕ) → rest ≡ bytes → (rest ≢ [] → there ≡ start) → at ≡ first_of_both rest there new place → at ≡ first_of_both bytes start new place
first_left bytes [] start there new place at is same first = subst (λ (left : List ℕ). at ≡ first_of_both left start new place) is first
first_left bytes (byte ∷ more) start there new place at is same first = subst (λ (left : List ℕ). at ≡ first_of_both left start new place) is (subst (λ (begins : ℕ). at ≡ first_of_both (byte ∷ more) begins new place) (same (λ none. absurd (cc))) first)

-- what is left, without a front, of what was owed up to a place and of what a write took there covers both
covers_up_to : (was : Owed) (place passed : ℕ) (taken : List ℕ) (owed : Owed) → OwesUpTo was place → owed.bytes ≡ drop passed (was.bytes ++ taken) → owed.place + length owed.bytes ≡ place + length taken → owed.bytes ≢ [] → CoversBoth was place taken owed
covers_up_to was place passed taken owed up_to is ends some =
    let left : length owed.bytes ≡ length was.bytes + length taken - passed = ap length is ∙ length-drop passed (was.bytes ++ taken) ∙ ap (λ (n : ℕ). n - passed) (length-append was.bytes taken) in
    record {
      from = begins_by was.bytes was.place taken place owed.place up_to (omega (arith, ends, left));
      to = ends ∙ sym (ends_by was.bytes was.place taken place up_to);
      new_bytes = has_new was.bytes taken was.place place passed owed.place owed.bytes up_to is ends (counts_some owed.bytes some);
      old_bytes = rw (up_to_place was.bytes was.place place up_to) (old_at was.bytes taken was.place place passed owed.place owed.bytes up_to is ends (counts_some owed.bytes some));
      behind = rw (none_behind was.bytes was.place place (length taken) up_to) (has_none owed.bytes owed.place (max was.place (place + length taken)));
    }

-- a write that was made where what was owed ended
pub owes_both : (before : Stream) (bytes : List ℕ) (after : Stream) → OwesUpTo before.owed before.place → Takes before bytes after → OwesBoth before bytes after
owes_both before bytes after up_to takes =
    let old : List ℕ = before.owed.bytes in
    let start : ℕ = before.owed.place in
    let taken : List ℕ = take takes.taken bytes in
    let as_many : length taken ≡ takes.taken = length-take-le takes.taken bytes takes.within in
    let ends : after.owed.bytes ≢ [] → after.owed.place + length after.owed.bytes ≡ before.place + length taken = λ (some : after.owed.bytes ≢ []). ends_at after.owed after.place some takes.up_to ∙ takes.place ∙ ap (λ (n : ℕ). before.place + n) (sym as_many) in
    record {
      taken = takes.taken;
      within = takes.within;
      place = takes.place;
      owes = λ some. ⊎_elim
          (λ (early : takes.passed < length old).
          let here = in_old old taken start before.place takes.passed after.owed.place after.owed.bytes up_to takes.owed (ends some) (counts_some after.owed.bytes some) (omega (arith, early)) in
          inl (record {
            passed = takes.passed;
            answered = takes.answered;
            leaves = record {
              most = omega (arith, early);
              from = begins_left old start taken before.place takes.passed after.owed.place up_to early here.1;
              covers = covers_up_to before.owed before.place takes.passed taken after.owed up_to takes.owed (ends some) some;
            };
          }))
          (λ (late : length old ≤ takes.passed).
          let here = in_taken old taken start before.place takes.passed after.owed.place after.owed.bytes up_to takes.owed (ends some) (counts_some after.owed.bytes some) late in
          let parts : takes.passed ≡ length old + (takes.passed - length old) = omega (arith, late) in
          inr (inl (record {
            passed = takes.passed - length old;
            answered = subst (λ (count : ℕ). AnswersFor count before.raw after.raw) parts takes.answered;
            leaves = record { most = omega (arith, takes.most, as_many); bytes = here.0; at = here.1 };
          })))
          (cases_lt takes.passed (length old));
      none = λ none. subst (λ (count : ℕ). AnswersFor count before.raw after.raw) (omega (arith, takes.most, ap length (sym none ∙ takes.owed), length-drop takes.passed (old ++ taken), length-append old taken, as_many)) takes.answered;
      told = takes.told;
    }

-- A write that passed on nothing.

-- all of what was owed up to a place, and of what a write took there, begins where the first of both does
from_both : (old taken : List ℕ) (start place at : ℕ) (new : List ℕ) → (old ≡ []) ⊎ (start + length old ≡ place) → new ≡ old ++ taken → at + length new ≡ place + length taken → at ≡ first_of_both old start taken place
from_both [] taken start place at new up_to is ends = omega (arith, ends, ap length is)
from_both (byte ∷ more) taken start place at new (inl none) is ends = absurd (cc)
from_both (byte ∷ more) taken start place at new (inr whole) is ends = omega (arith, first_before (byte ∷ more) start taken place (λ none. absurd (cc)) (omega (arith, whole)), whole, ends, ap length is, length-append (byte ∷ more) taken)

-- where two lists together have nothing, neither has
none_of_both : (front back : List ℕ) → front ++ back ≡ [] → (front ≡ []) × (back ≡ [])
none_of_both [] back none = (refl, none)
none_of_both (byte ∷ more) back none = absurd (cc)

-- what was owed up to a place, and behind it what a write took there, are all owed
pub owes_all : (was owed : Owed) (place : ℕ) (new : List ℕ) → OwesUpTo was place → owed.bytes ≡ was.bytes ++ new → owed.place + length owed.bytes ≡ place + length new → OwesAll was place new owed
owes_all was owed place new up_to is ends = record {
  none = λ none. none_of_both was.bytes new (sym is ∙ none);
  from = λ some. from_both was.bytes new was.place place owed.place owed.bytes up_to is ends;
  covers = λ some. covers_up_to was place 0 new owed up_to is ends some;
}

-- A call that took nothing, and left what was owed.

-- what was owed stays the first, and the last, of itself and nothing new
pub first_alone : (bytes : List ℕ) (start place : ℕ) → bytes ≢ [] → first_of_both bytes start [] place ≡ start
first_alone [] start place some = absurd (some refl)
first_alone (byte ∷ more) start place some = refl

-- what is owed ends where it did after a write of none
pub last_owed : (bytes : List ℕ) (start place : ℕ) → bytes ≢ [] → end_of_both bytes start [] place ≡ start + length bytes
last_owed [] start place some = absurd (some refl)
last_owed (byte ∷ more) start place some = refl

-- a part that stands in a list
has_part : (whole : List ℕ) (begins : ℕ) (part : List ℕ) (place : ℕ) → begins ≤ place → take (length part) (drop (place - begins) whole) ≡ part → HasAt whole begins part place
has_part whole begins part place behind is = grind arith

front_of_all : (count : ℕ) (whole : List ℕ) → take (length (take count whole)) whole ≡ take count whole
front_of_all count whole = ap (λ (n : ℕ). take n whole) (length-take count whole) ∙ take_min count whole

-- what was owed, and is owed still, covers itself and nothing new
covers_old : (was : Owed) (place : ℕ) → was.bytes ≢ [] → CoversBoth was place [] was
covers_old was place some = grind (arith, first_alone, last_owed, has_none, has_part, front_of_all, take_all)

-- so all of it is owed
pub owes_still : (was : Owed) (place : ℕ) → OwesAll was place [] was
owes_still was place = record {
  none = λ none. (none, refl);
  from = λ some. sym (first_alone was.bytes was.place place some);
  covers = covers_old was place;
}

-- a call that took nothing, and left what was owed, owes what is owed after a write of none
pub owes_as_before : (before after : Stream) (bytes : List ℕ) → after.raw ≡ before.raw → after.place ≡ before.place → after.owed ≡ before.owed → OwesBoth before bytes after
owes_as_before before after bytes raw place same = record {
  taken = 0;
  within = omega arith;
  place = omega (arith, place);
  owes = λ some. let was : before.owed.bytes ≢ [] = λ none. some (ap (λ (owed : Owed). owed.bytes) same ∙ none) in inl (record {
    passed = 0;
    answered = subst (λ (now : Raw). AnswersFor 0 before.raw now) (sym raw) (λ _. refl);
    leaves = record {
      most = omega arith;
      from = omega (arith, first_alone (drop 0 before.owed.bytes) (before.owed.place + 0) before.place was, ap (λ (owed : Owed). owed.place) same);
      covers = subst (CoversBoth before.owed before.place []) (sym same) (covers_old before.owed before.place was);
    };
  });
  none = λ none. subst (λ (count : ℕ). AnswersFor count before.raw after.raw) (omega (arith, ap length (sym (ap (λ (owed : Owed). owed.bytes) same) ∙ none))) (subst (λ (now : Raw). AnswersFor 0 before.raw now) (sym raw) (λ _. refl));
  told = λ tells. (0, omega arith, omega arith, ap (λ (now : Raw). lay now.bytes after.owed.place after.owed.bytes) raw ∙ ap (λ (owed : Owed). lay before.raw.bytes owed.place owed.bytes) same);
}
