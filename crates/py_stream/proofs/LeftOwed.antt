-- What is left of what was owed, once some of it was passed on, wherever it belongs.
use Rattle.std.proofs.Common.{◌≡◌, ◌≢◌, ℕ, ◌+◌, ◌-◌, ◌<◌, ◌≤◌, ◌⊎◌, inl, inr, ⊎_elim, min, max, Bool, List, [], ◌∷◌, length, take, drop, refl, sym, ap, ◌∙◌, subst, arith, length-drop, length-take}
use Rattle.std.proofs.Math.Seq.{take-nil, drop-nil}
use Rattle.std.proofs.lemmas.Bool.{cases_lt}
use Rattle.std.proofs.lemmas.List.{append-nil, take_all, take_min, drop_all, drop-drop, drop-take}
use Rattle.py_flat.specs.declared.life.Life.TheVariants as life
use Rattle.py_flat.specs.Bytes.{lay}
use Rattle.py_flat.specs.Owed.{Owed}
use Rattle.py_raw.specs.RawStream.{WhereTold, AnswersFor}
use Rattle.py_stream.specs.Stream.{Stream}
use Rattle.py_stream.specs.Writing.{HasJust, OwesUpTo, OwesBehind, HasAt, first_of_both, end_of_both, CoversBoth, OwesTheRest, OwesBoth, Takes, OwesOld, LaysFront}
use Rattle.py_stream.specs.Settling.{PassesSome}
use Rattle.py_stream.proofs.Owing.{has_none, has_past, first_alone, last_owed}
use Rattle.py_stream.proofs.PassingOn.{none_owed_at, passing_keeps_bytes}

-- Parts of a list.

-- a list that begins in what is left of a part has of the part what it has of the rest
has_rest : (whole : List ℕ) (begins : ℕ) (part : List ℕ) (place passed : ℕ) → place + passed ≤ begins → HasAt whole begins (drop passed part) (place + passed) → HasAt whole begins part place
has_rest whole begins part place passed behind has =
    let size : length part - (begins - place) ≡ length (drop passed part) - (begins - (place + passed)) = omega (arith, length-drop passed part) in
    let at : place - begins ≡ place + passed - begins = omega (arith, behind) in
    let past : passed + (begins - (place + passed)) ≡ begins - place = omega (arith, behind) in
    rw (size, at) (has ∙ drop-drop (begins - (place + passed)) passed part ∙ ap (λ (n : ℕ). drop n part) past)

-- what is left of a front of a list is a front of what is left of it
front_left : (all : List ℕ) (passed count : ℕ) → drop passed (take count all) ≡ take (count - passed) (drop passed all)
front_left all passed count = ⊎_elim
    (λ (less : count < passed). let none : count - passed ≡ 0 = omega (arith, less) in rw none (drop_all passed (take count all) (omega (arith, less, length-take count all))))
    (λ (more : passed ≤ count). let parts : passed + (count - passed) ≡ count = omega (arith, more) in ap (λ (n : ℕ). drop passed (take n all)) (sym parts) ∙ drop-take passed (count - passed) all)
    (cases_lt count passed)

-- of what stands at a place a front was taken away: what is left has the front of all, as far as it reaches
left_front : (all : List ℕ) (place passed count : ℕ) → HasAt (drop passed all) (place + passed) (take count all) place
left_front all place passed count =
    let size : length (take count all) - (place + passed - place) ≡ min (count - passed) (length (drop passed all)) = omega (arith, length-take count all, length-drop passed all) in
    let at : place - (place + passed) ≡ 0 = omega arith in
    let past : place + passed - place ≡ passed = omega arith in
    rw (size, at, past) (take_min (count - passed) (drop passed all) ∙ sym (front_left all passed count))

-- of what stands at a place a front was taken away: what is left has the end of all from another place on, as far as it reaches
left_end : (all : List ℕ) (place passed at : ℕ) → HasAt (drop passed all) (place + passed) (drop (at - place) all) (max place at)
left_end all place passed at =
    let part : List ℕ = drop (at - place) all in
    let ahead : ℕ = place + passed - max place at in
    let behind : ℕ = max place at - (place + passed) in
    let same : drop behind (drop passed all) ≡ drop ahead part = drop-drop behind passed all ∙ ap (λ (n : ℕ). drop n all) (omega arith) ∙ sym (drop-drop ahead (at - place) all) in
    rw same (take_all (length part - ahead) (drop ahead part) (omega (arith, length-drop ahead part)))

-- What covers the rest of what was owed.

-- the first of both lies no later than the first of what was owed
first_within : (was new : List ℕ) (start place : ℕ) → was ≢ [] → first_of_both was start new place ≤ start
first_within [] new start place some = absurd (some refl)
first_within (byte ∷ more) [] start place some = omega arith
first_within (byte ∷ more) (next ∷ rest) start place some = omega arith

-- and no earlier than both
first_after : (was new : List ℕ) (start place : ℕ) → was ≢ [] → min start place ≤ first_of_both was start new place
first_after [] new start place some = absurd (some refl)
first_after (byte ∷ more) [] start place some = omega arith
first_after (byte ∷ more) (next ∷ rest) start place some = omega arith

-- where a front of what was owed is passed on, the first of both lies no earlier
first_later : (was rest new : List ℕ) (start passed place : ℕ) → was ≢ [] → rest ≢ [] → first_of_both was start new place ≤ first_of_both rest (start + passed) new place
first_later [] rest new start passed place some left = absurd (some refl)
first_later (byte ∷ more) [] new start passed place some left = absurd (left refl)
first_later (byte ∷ more) (other ∷ others) [] start passed place some left = omega arith
first_later (byte ∷ more) (other ∷ others) (next ∷ rest) start passed place some left = omega arith

-- where some is left, it ends where all did
same_end : (was rest : List ℕ) (start passed : ℕ) (new : List ℕ) (place : ℕ) → rest ≡ drop passed was → rest ≢ [] → end_of_both rest (start + passed) new place ≡ end_of_both was start new place
same_end [] rest start passed new place is some = absurd (some (is ∙ drop-nil passed))
same_end (byte ∷ more) [] start passed new place is some = absurd (some refl)
same_end (byte ∷ more) (next ∷ rest) start passed [] place is some = omega (arith, ap length is, length-drop passed (byte ∷ more))
same_end (byte ∷ more) (next ∷ rest) start passed (first ∷ others) place is some = omega (arith, ap length is, length-drop passed (byte ∷ more))

-- what was owed isn't nothing where some of it is left
was_some : (was rest : List ℕ) (passed : ℕ) → rest ≡ drop passed was → rest ≢ [] → was ≢ []
was_some was rest passed is some none = some (is ∙ ap (drop passed) none ∙ drop-nil passed)

module _ (was rest : Owed) (passed place : ℕ) (is : rest.bytes ≡ drop passed was.bytes) (at : rest.place ≡ was.place + passed) (some : rest.bytes ≢ []) where
  some_was : was.bytes ≢ []
  some_was = was_some was.bytes rest.bytes passed is some

  first_is : (new : List ℕ) → first_of_both was.bytes was.place new place ≤ first_of_both rest.bytes rest.place new place
  first_is new = subst (λ (start : ℕ). first_of_both was.bytes was.place new place ≤ first_of_both rest.bytes start new place) (sym at) (first_later was.bytes rest.bytes new was.place passed place some_was some)

  last_is : (new : List ℕ) → end_of_both rest.bytes rest.place new place ≡ end_of_both was.bytes was.place new place
  last_is new = ap (λ (start : ℕ). end_of_both rest.bytes start new place) at ∙ same_end was.bytes rest.bytes was.place passed new place is some

  -- what is owed from no earlier than the first of what is left and a place on has what was owed up to that place
  has_before : (whole : List ℕ) (begins : ℕ) → min rest.place place ≤ begins → HasAt whole begins (take (place - rest.place) rest.bytes) rest.place → HasAt whole begins (take (place - was.place) was.bytes) was.place
  has_before whole begins from has = ⊎_elim
      (λ (before : place < rest.place). ⊎_elim
      (λ (earlier : place < was.place). let none : place - was.place ≡ 0 = omega (arith, earlier) in rw none (has_none whole begins was.place))
      (λ (later : was.place ≤ place). has_past whole begins (take (place - was.place) was.bytes) was.place (omega (arith, before, later, from, length-take (place - was.place) was.bytes)))
      (cases_lt place was.place))
      (λ (behind : rest.place ≤ place).
      let same : take (place - rest.place) rest.bytes ≡ drop passed (take (place - was.place) was.bytes) = ap (take (place - rest.place)) is ∙ ap (λ (n : ℕ). take n (drop passed was.bytes)) (omega (arith, at)) ∙ sym (front_left was.bytes passed (place - was.place)) in
      has_rest whole begins (take (place - was.place) was.bytes) was.place passed (omega (arith, at, behind, from))
      (subst (λ (part : List ℕ). HasAt whole begins part (was.place + passed)) same (subst (λ (start : ℕ). HasAt whole begins (take (place - rest.place) rest.bytes) start) at has)))
      (cases_lt place rest.place)

  -- what has the end of what is left has the end of what was owed, from where that reaches what is left
  has_after : (whole : List ℕ) (begins from : ℕ) → rest.place ≤ from → HasAt whole begins (drop (from - rest.place) rest.bytes) (max rest.place from) → HasAt whole begins (drop (from - was.place) was.bytes) (max was.place from)
  has_after whole begins from reach has =
      let same : drop (from - rest.place) rest.bytes ≡ drop (from - was.place) was.bytes = ap (drop (from - rest.place)) is ∙ drop-drop (from - rest.place) passed was.bytes ∙ ap (λ (n : ℕ). drop n was.bytes) (omega (arith, at, reach)) in
      let there : max rest.place from ≡ max was.place from = omega (arith, at, reach) in
      subst (λ (part : List ℕ). HasAt whole begins part (max was.place from)) same (subst (λ (start : ℕ). HasAt whole begins (drop (from - rest.place) rest.bytes) start) there has)

  -- what covers what is left of what was owed covers what was owed, where the new bytes reach to what is left
  pub covers_rest : (new : List ℕ) (owed : Owed) → rest.place ≤ place + length new → CoversBoth rest place new owed → CoversBoth was place new owed
  covers_rest new owed reach covers = record {
    from = omega (arith, first_is new, covers.from);
    to = covers.to ∙ last_is new;
    new_bytes = covers.new_bytes;
    old_bytes = has_before owed.bytes owed.place (omega (arith, first_after rest.bytes new rest.place place some, covers.from)) covers.old_bytes;
    behind = has_after owed.bytes owed.place (place + length new) reach covers.behind;
  }

  -- what is left of what was owed covers that, and nothing new
  covers_left : CoversBoth was place [] rest
  covers_left = record {
    from = omega (arith, first_within was.bytes [] was.place place some_was, at);
    to = sym (last_owed rest.bytes rest.place place some) ∙ last_is [];
    new_bytes = has_none rest.bytes rest.place place;
    old_bytes = rw (is, at) (left_front was.bytes was.place passed (place - was.place));
    behind = rw (is, at) (left_end was.bytes was.place passed (place + 0));
  }

-- What a passing on of some leaves.

-- a list is empty, or isn't
pub none_or_some : (bytes : List ℕ) → (bytes ≡ []) ⊎ (bytes ≢ [])
none_or_some [] = inl refl
none_or_some (byte ∷ more) = inr (λ none. absurd (cc))

module _ (old new : Stream) (passes : PassesSome old new) where
  as_many : length new.owed.bytes ≡ length old.owed.bytes - passes.passed
  as_many = ap length passes.owed ∙ length-drop passes.passed old.owed.bytes

  -- what is left of what was owed up to the place is owed up to it
  pub left_up_to : OwesUpTo old.owed old.place → OwesUpTo new.owed new.place
  left_up_to up_to = ⊎_elim inl
      (λ (some : new.owed.bytes ≢ []). ⊎_elim
      (λ (none : old.owed.bytes ≡ []). absurd (was_some old.owed.bytes new.owed.bytes passes.passed passes.owed some none))
      (λ (ends : old.owed.place + length old.owed.bytes ≡ old.place). inr (omega (arith, ends, passes.place some, as_many, passes.within, passes.still)))
      up_to)
      (none_or_some new.owed.bytes)

  -- what is left of what lay right before the place lies there, and the raw stands where it begins
  pub left_behind : OwesBehind old → OwesBehind new
  left_behind behind = record {
    ends = ⊎_elim
        (λ (none : new.owed.bytes ≡ []). omega (arith, ap length none, passes.at (none_owed_at old behind.ends) none))
        (λ (some : new.owed.bytes ≢ []). omega (arith, behind.ends, passes.place some, as_many, passes.within, passes.still))
        (none_or_some new.owed.bytes);
    stands = passes.stands behind;
  }

  -- the raw went forth by as many bytes as it was passed
  pub left_forth : OwesBehind old → new.raw_place ≡ old.raw_place + passes.passed
  left_forth behind = omega (arith, behind.ends, behind.stands, (left_behind behind).ends, passes.stands behind, as_many, passes.within, passes.still)

  -- what is owed is left of what was owed, and the place didn't move
  pub left_old : (short : Bool) → OwesOld old (record new { short = short })
  left_old short = grind (arith, none_owed_at)

  -- what is left of what was owed covers that, and nothing new
  left_covers : new.owed.bytes ≢ [] → CoversBoth old.owed old.place [] new.owed
  left_covers some = covers_left old.owed new.owed passes.passed old.place passes.owed (passes.place some) some

  -- and begins where it stood
  left_rest : (short : Bool) → new.owed.bytes ≢ [] → OwesTheRest old [] (record new { short = short })
  left_rest short some = record {
    passed = passes.passed;
    answered = passes.answered;
    leaves = record {
      most = passes.within;
      from = omega (arith, first_alone (drop passes.passed old.owed.bytes) (old.owed.place + passes.passed) old.place (λ none. some (passes.owed ∙ none)), passes.place some);
      covers = left_covers some;
    };
  }

  -- a call that took nothing owes what is owed after a write of none
  pub left_both : (bytes : List ℕ) (short : Bool) → OwesBoth old bytes (record new { short = short })
  left_both bytes short = record {
    taken = 0;
    within = omega arith;
    place = omega (arith, passes.still);
    owes = λ some. inl (left_rest short some);
    none = λ none. subst (λ (count : ℕ). AnswersFor count old.raw new.raw) (omega (arith, passes.within, ap length none, as_many)) passes.answered;
    told = λ tells. (0, omega arith, omega arith, passing_keeps_bytes old new passes tells);
  }

  -- a call that took nothing passed on a front of what was owed
  pub left_takes : (bytes : List ℕ) (short : Bool) → (new.life ≡ life.Live → HasJust old new) → OwesUpTo old.owed old.place → Takes old bytes (record new { short = short })
  left_takes bytes short just up_to = record {
    taken = 0;
    within = omega arith;
    place = omega (arith, passes.still);
    passed = passes.passed;
    most = omega (arith, passes.within);
    answered = passes.answered;
    forth = left_forth;
    owed = passes.owed ∙ ap (drop passes.passed) (sym (append-nil old.owed.bytes));
    up_to = left_up_to up_to;
    told = λ tells. (0, omega arith, omega arith, passing_keeps_bytes old new passes tells);
    just = λ lives behind tells. just lives tells ∙ ap (λ (count : ℕ). lay old.raw.bytes old.owed.place (take count old.owed.bytes)) (let many : length old.owed.bytes - length new.owed.bytes ≡ passes.passed = omega (arith, as_many, passes.within) in many) ∙ ap (λ (owed : List ℕ). lay old.raw.bytes old.owed.place (take passes.passed owed)) (sym (append-nil old.owed.bytes));
  }

  -- nothing of a call's own was laid on the raw's bytes
  pub left_lays : (own : List ℕ) → WhereTold old.raw (LaysFront old own new.raw.bytes)
  left_lays own tells =
      let some = passes.lays tells in
      record { passed = some.passed; more = 0; laid = some.laid ∙ ap (lay (lay old.raw.bytes old.owed.place (take some.passed old.owed.bytes)) old.place) (take-nil some.more); order = λ more. absurd (more refl) }
