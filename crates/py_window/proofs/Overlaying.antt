-- Bytes put at the cursor of a window whose pending bytes lie anywhere among those that it holds.
use Rattle.std.proofs.Common.{◌≡◌, ◌≢◌, ℕ, ◌+◌, ◌-◌, ◌<◌, ◌≤◌, inl, inr, ⊎_elim, zero, suc, min, max, Bool, List, [], ◌∷◌, ◌++◌, length, take, drop, replicate, if◌then◌else◌, refl, sym, ap, ◌∙◌, subst, arith, add-zero, append_assoc, ne_eqb}
use Rattle.std.proofs.Math.Seq.{take-append-add, drop-append-add, take-add}
use Rattle.std.proofs.lemmas.Bool.Decides.{eqb_tells}
use Rattle.std.proofs.lemmas.Bool.{cases_lt, le-leb, lt-leb}
use Rattle.std.proofs.lemmas.List.{length-append, length-drop, length-take, length-take-le, take_all, take_at, take_min, take-take, take-append-le, take-append-drop, take-replicate, drop_at, drop_all, drop-drop, drop-append-le, drop-take}
use Rattle.py_flat.specs.Bytes.{filled_to, lay}
use Rattle.py_flat.specs.Owed.{Owed}
use Rattle.py_flat.proofs.Laying.{length-filled_to, filled_within, lay_parts, length-lay, drop_laid}
use Rattle.py_stream.specs.Writing.{OwesUpTo, HasAt, first_of_both, end_of_both, CoversBoth}
use Rattle.py_stream.proofs.Owing.{has_none}
use Rattle.py_window.specs.Window.{WindowView, IsWindow, place_of, end_of, pending_of, owed_of, is_settled, kept_before, room_of, pasted, laid_at_cursor, without_front, pushed, HoldsBytes, flat_over}
use Rattle.py_window.proofs.Held.{from_either, held_pasted}

-- Parts of a list that bytes were put over.

-- a part of a part
part_of_part : (items : List ℕ) (start count skipped many : ℕ) → many ≤ count - skipped → take many (drop skipped (take count (drop start items))) ≡ take many (drop (start + skipped) items)
part_of_part items start count skipped many fits =
    ap (take many) (from_either (drop start items) skipped count)
    ∙ (take-take many (count - skipped) (drop skipped (drop start items)) fits
    ∙ ap (take many) (drop-drop skipped start items))

module _ (items : List ℕ) (at : ℕ) (bytes : List ℕ) (within : at ≤ length items) where
  -- as many as it says stand before a place within a list
  front : length (take at items) ≡ at
  front = length-take-le at items within

  -- as many as there were, or as reach to the end of those put
  length-pasted : length (pasted items at bytes) ≡ max (length items) (at + length bytes)
  length-pasted = omega (arith, length-append (take at items) (bytes ++ drop (at + length bytes) items), length-append bytes (drop (at + length bytes) items), length-drop (at + length bytes) items, front)

  -- what stands before them stays
  pasted_before : (start many : ℕ) → start + many ≤ at → take many (drop start (pasted items at bytes)) ≡ take many (drop start items)
  pasted_before start many before =
      ap (take many) (drop-append-le start (take at items) (bytes ++ drop (at + length bytes) items) (omega (arith, front)))
      ∙ (take-append-le many (drop start (take at items)) (bytes ++ drop (at + length bytes) items) (omega (arith, front, length-drop start (take at items)))
      ∙ (ap (take many) (from_either items start at)
      ∙ take-take many (at - start) (drop start items) (omega arith)))

  -- they stand where they were put
  pasted_at : take (length bytes) (drop at (pasted items at bytes)) ≡ bytes
  pasted_at = ap (take (length bytes)) (drop_at (take at items) (bytes ++ drop (at + length bytes) items) at front) ∙ take_at bytes (drop (at + length bytes) items) (length bytes) refl

  -- what stands after them stays
  pasted_after : (start : ℕ) → at + length bytes ≤ start → drop start (pasted items at bytes) ≡ drop start items
  pasted_after start after =
      let rest : List ℕ = drop (at + length bytes) items in
      let more : ℕ = start - (at + length bytes) in
      ap (λ (n : ℕ). drop n (pasted items at bytes)) (omega (arith, front))
      ∙ (drop-append-add (take at items) (bytes ++ rest) (length bytes + more)
      ∙ (drop-append-add bytes rest more
      ∙ (drop-drop more (at + length bytes) items
      ∙ ap (λ (n : ℕ). drop n items) (omega arith))))

-- Bytes laid on a list.

-- the bytes up to a place, up to a place before it
take_filled : (bytes : List ℕ) (place before : ℕ) → before ≤ place → take before (filled_to bytes place) ≡ filled_to bytes before
take_filled bytes place before behind = ⊎_elim
    (λ (short : length bytes < before).
    let more : ℕ = before - length bytes in
    ap (λ (front : List ℕ). take before (front ++ replicate (place - length bytes) 0)) (take_all place bytes (omega (arith, short)))
    ∙ (ap (λ (n : ℕ). take n (bytes ++ replicate (place - length bytes) 0)) (let n : before ≡ length bytes + more = omega (arith, short) in n)
    ∙ (take-append-add bytes (replicate (place - length bytes) 0) more
    ∙ (ap (λ (zeros : List ℕ). bytes ++ zeros) (take-replicate more (place - length bytes) 0 (omega arith))
    ∙ ap (λ (front : List ℕ). front ++ replicate more 0) (sym (take_all before bytes (omega (arith, short))))))))
    (λ (reaches : before ≤ length bytes).
    take-append-le before (take place bytes) (replicate (place - length bytes) 0) (omega (arith, length-take place bytes, reaches))
    ∙ (take-take before place bytes behind
    ∙ sym (filled_within bytes before reaches)))
    (cases_lt (length bytes) before)

-- what stands up to a place before some bytes that were laid
take_before : (bytes : List ℕ) (place : ℕ) (laid : List ℕ) (before : ℕ) → 0 < length laid → before ≤ place → take before (lay bytes place laid) ≡ filled_to bytes before
take_before bytes place laid before some behind =
    ap (take before) (lay_parts bytes place laid some)
    ∙ (take-append-le before (filled_to bytes place) (laid ++ drop (place + length laid) bytes) (omega (arith, length-filled_to bytes place))
    ∙ take_filled bytes place before behind)

-- bytes that were laid change nothing up to a place before them
filled_before : (bytes : List ℕ) (place : ℕ) (laid : List ℕ) (before : ℕ) → before ≤ place → filled_to (lay bytes place laid) before ≡ filled_to bytes before
filled_before bytes place [] before behind = refl
filled_before bytes place (byte ∷ more) before behind =
    filled_within (lay bytes place (byte ∷ more)) before (omega (arith, length-lay bytes place (byte ∷ more) (omega arith)))
    ∙ take_before bytes place (byte ∷ more) before (omega arith) behind

-- laid bytes reach to their end
reaches_end : (bytes : List ℕ) (place : ℕ) (laid : List ℕ) → 0 < length laid → place + length laid ≤ length (lay bytes place laid)
reaches_end bytes place laid some = omega (arith, length-lay bytes place laid some)

-- a list that agrees with another outside a range is that other, with the range of it laid on
pub lays_range : (raw flat : List ℕ) (place many : ℕ) → 0 < many → place + many ≤ length flat → take place flat ≡ filled_to raw place → drop (place + many) flat ≡ drop (place + many) raw → lay raw place (take many (drop place flat)) ≡ flat
lays_range raw flat place many some within before after =
    let part : List ℕ = take many (drop place flat) in
    let long : length part ≡ many = length-take-le many (drop place flat) (omega (arith, length-drop place flat)) in
    lay_parts raw place part (omega (arith, long))
    ∙ (ap (λ (n : ℕ). filled_to raw place ++ (part ++ drop (place + n) raw)) long
    ∙ (ap (λ (rest : List ℕ). filled_to raw place ++ (part ++ rest)) (sym after ∙ sym (drop-drop many place flat))
    ∙ (ap (λ (rest : List ℕ). filled_to raw place ++ rest) (take-append-drop many (drop place flat))
    ∙ (ap (λ (front : List ℕ). front ++ drop place flat) (sym before)
    ∙ take-append-drop place flat))))

-- a list that laid bytes begin in or right behind reaches to its end and theirs
lays_reach : (bytes : List ℕ) (place : ℕ) (laid : List ℕ) → place ≤ length bytes → max (length bytes) (place + length laid) ≤ length (lay bytes place laid)
lays_reach bytes place [] within = omega (arith, within)
lays_reach bytes place (byte ∷ more) within = omega (arith, length-lay bytes place (byte ∷ more) (omega arith))

-- bytes laid on, and then others: what stands in a range that reaches over both is all that was laid
pub lays_both : (raw old new : List ℕ) (start place first many : ℕ) → 0 < many → first ≤ start → first ≤ place → start + length old ≤ first + many → place + length new ≤ first + many → first + many ≤ length (lay (lay raw start old) place new) → lay raw first (take many (drop first (lay (lay raw start old) place new))) ≡ lay (lay raw start old) place new
lays_both raw old new start place first many some to_old to_new past_old past_new within =
    let flat : List ℕ = lay raw start old in
    let end : ℕ = first + many in
    let after : (bytes laid : List ℕ) (at : ℕ) → at + length laid ≤ end → drop end (lay bytes at laid) ≡ drop end bytes =
    λ (bytes : List ℕ) (laid : List ℕ) (at : ℕ) (past : at + length laid ≤ end).
    subst (λ (n : ℕ). drop n (lay bytes at laid) ≡ drop n bytes) (let n : at + (end - at) ≡ end = omega (arith, past) in n) (drop_laid bytes at laid (end - at) (omega (arith, past))) in
    lays_range raw (lay flat place new) first many some within
    (sym (filled_within (lay flat place new) first (omega (arith, within))) ∙ (filled_before flat place new first to_new ∙ filled_before raw start old first to_old))
    (after flat new place past_new ∙ after raw old start past_old)

-- What a list has from a place on, once bytes were laid on it there or behind.

-- the bytes up to a place, from a place before it on
drop_filled : (flat : List ℕ) (begin count : ℕ) → count ≤ length (drop begin flat) → drop begin (filled_to flat (begin + count)) ≡ take count (drop begin flat)
drop_filled flat begin zero within = drop_all begin (filled_to flat (begin + 0)) (omega (arith, length-filled_to flat (begin + 0)))
drop_filled flat begin (suc count) within =
    let reaches : begin + suc count ≤ length flat = omega (arith, length-drop begin flat, within) in
    ap (drop begin) (filled_within flat (begin + suc count) reaches) ∙ drop-take begin (suc count) flat

-- bytes laid on a list are put over what it has from a place on
laid_pastes : (flat : List ℕ) (begin count : ℕ) (bytes : List ℕ) → count ≤ length (drop begin flat) → drop begin (lay flat (begin + count) bytes) ≡ pasted (drop begin flat) count bytes
laid_pastes flat begin count [] within = sym (ap (λ (n : ℕ). take count (drop begin flat) ++ drop n (drop begin flat)) (add-zero count) ∙ take-append-drop count (drop begin flat))
laid_pastes flat begin count (byte ∷ more) within =
    let bytes : List ℕ = byte ∷ more in
    let rest : List ℕ = drop (begin + count + length bytes) flat in
    ap (drop begin) (lay_parts flat (begin + count) bytes (omega arith))
    ∙ (drop-append-le begin (filled_to flat (begin + count)) (bytes ++ rest) (omega (arith, length-filled_to flat (begin + count)))
    ∙ (ap (λ (front : List ℕ). front ++ (bytes ++ rest)) (drop_filled flat begin count within)
    ∙ ap (λ (after : List ℕ). take count (drop begin flat) ++ (bytes ++ after)) (ap (λ (n : ℕ). drop n flat) (let n : begin + count + length bytes ≡ begin + (count + length bytes) = omega arith in n) ∙ sym (drop-drop (count + length bytes) begin flat))))

-- Parts that a list has at a place, and the ends of what is owed and what is new.

-- a list has a part at a place that lies behind its beginning
has_part : (whole part : List ℕ) (begins place skipped : ℕ) → begins + skipped ≡ place → take (length part) (drop skipped whole) ≡ part → HasAt whole begins part place
has_part whole part begins place skipped is same =
    let behind : place - begins ≡ skipped = omega (arith, is) in
    let none : begins - place ≡ 0 = omega (arith, is) in
    let all : length part - 0 ≡ length part = omega arith in
    rw (behind, none, all) same

-- a front of a list, by how many it has
front_of_all : (count : ℕ) (whole : List ℕ) → take (length (take count whole)) whole ≡ take count whole
front_of_all count whole = ap (λ (n : ℕ). take n whole) (length-take count whole) ∙ take_min count whole

-- where some are put, the place of the first of both: the first of the two
pub first_is : (owed put : List ℕ) (start place : ℕ) → (owed ≡ [] → start ≡ place) → 0 < length put → first_of_both owed start put place ≡ min start place
first_is [] put start place rests some = omega (arith, rests refl)
first_is (byte ∷ more) [] start place rests some = absurd (omega (arith, some))
first_is (byte ∷ more) (next ∷ others) start place rests some = refl

-- and the place after the last of both: the last of the two
end_is : (owed put : List ℕ) (start place : ℕ) → (owed ≡ [] → start ≡ place) → 0 < length put → end_of_both owed start put place ≡ max (start + length owed) (place + length put)
end_is [] put start place rests some = omega (arith, rests refl)
end_is (byte ∷ more) [] start place rests some = absurd (omega (arith, some))
end_is (byte ∷ more) (next ∷ others) start place rests some = refl

-- What a window holds, and what is pending in it.

-- the pending bytes are as many as lie from the first to the last
pub pending_many : (window : WindowView) → IsWindow window → length (pending_of window) ≡ window.to - window.from
pending_many window is = length-take-le (window.to - window.from) (drop window.from window.held) (omega (arith, length-drop window.from window.held, is.within))

-- where none is pending, their empty range stands at the cursor
pub none_rests : (window : WindowView) → IsWindow window → pending_of window ≡ [] → window.begin + window.from ≡ place_of window
none_rests window is none = omega (arith, is.rests, is.ordered, pending_many window is, ap length none)

-- what is owed up to the place ends at the cursor
ends_at : (window : WindowView) → IsWindow window → OwesUpTo (owed_of window) (place_of window) → window.to ≡ window.cursor
ends_at window is (inl none) = omega (arith, none_rests window is none, pending_many window is, ap length none, is.ordered)
ends_at window is (inr ends) = omega (arith, ends, pending_many window is, is.ordered)

-- a window that holds a list's bytes has as many of them
held_within : (flat : List ℕ) (window : WindowView) → HoldsBytes flat window → length window.held ≤ length (drop window.begin flat)
held_within flat window holds = omega (arith, ap length holds, length-take (length window.held) (drop window.begin flat))

-- a part of what a window holds
held_part : (flat : List ℕ) (window : WindowView) (start many : ℕ) → start + many ≤ length window.held → HoldsBytes flat window → take many (drop start window.held) ≡ take many (drop (window.begin + start) flat)
held_part flat window start many within holds =
    ap (λ (held : List ℕ). take many (drop start held)) (sym holds)
    ∙ part_of_part flat window.begin (length window.held) start many (omega arith)

-- What a window is once bytes were put at its cursor.

-- what a window owes goes on with the bytes that were put, up to the place
pub record FollowsOn (window : WindowView) (bytes : List ℕ) (new : WindowView) : Type 0 where
  pub pending : pending_of new ≡ pending_of window ++ bytes
  pub up_to : OwesUpTo (owed_of new) (place_of new)
  pub first : new.begin + new.from ≡ window.begin + window.from

-- the flat bytes over a window that bytes were put into, where it held those before
pub record LaysOn (raw : List ℕ) (window : WindowView) (bytes : List ℕ) (new : WindowView) : Type 0 where
  pub flat : flat_over raw new ≡ lay (flat_over raw window) (place_of window) bytes
  pub holds : HoldsBytes (flat_over raw new) new

-- what a window is once bytes were put at the cursor of another
pub record Overlays (window : WindowView) (bytes : List ℕ) (new : WindowView) : Type 0 where
  pub is : IsWindow new
  pub size : new.size ≡ window.size
  pub place : place_of new ≡ place_of window + length bytes
  pub some : new.from ≢ new.to
  -- it begins no earlier than the other, and no later than what that owes; it ends no earlier
  pub begins : window.begin ≤ new.begin
  pub starts : new.begin ≤ window.begin + window.from
  pub ends : end_of new ≡ max (end_of window) (place_of new)
  -- what it owes begins at the first of both places
  pub first : new.begin + new.from ≡ min (window.begin + window.from) (place_of window)
  -- and reaches to its place at least
  pub reaches : place_of new ≤ new.begin + new.to
  pub covers : CoversBoth (owed_of window) (place_of window) bytes (owed_of new)
  pub follows : OwesUpTo (owed_of window) (place_of window) → FollowsOn window bytes new
  pub lays : (raw : List ℕ) → HoldsBytes (flat_over raw window) window → LaysOn raw window bytes new

-- a window whose cursor moved over bytes put there: pending is all from the first to the last of what was and of what was put
abbrev pub overlaid : List ℕ → WindowView → WindowView
overlaid bytes window = record window {
  held = pasted window.held window.cursor bytes;
  cursor = window.cursor + length bytes;
  from = min window.from window.cursor;
  to = max window.to (window.cursor + length bytes);
}

module _ (window : WindowView) (bytes : List ℕ) (is : IsWindow window) (some : 0 < length bytes) where
  abbrev laid : List ℕ
  laid = pasted window.held window.cursor bytes

  abbrev first : ℕ
  first = min window.from window.cursor

  abbrev after : ℕ
  after = window.cursor + length bytes

  abbrev last : ℕ
  last = max window.to after

  abbrev new : WindowView
  new = overlaid bytes window

  -- some are pending then
  pends : first < last
  pends = omega (arith, some)

  -- it holds as many as it did, or as reach to the cursor
  long : length laid ≡ max (length window.held) after
  long = length-pasted window.held window.cursor bytes is.cursor

  -- pending are as many as lie from the first to the last
  as_many : length (pending_of new) ≡ last - first
  as_many = length-take-le (last - first) (drop first laid) (omega (arith, length-drop first laid, long, is.within))

  -- it is one
  overlaid_is : after ≤ window.size → place_of window + length bytes ≤ 9223372036854775807 → IsWindow new
  overlaid_is room far = record {
    some = is.some;
    cursor = omega (arith, long);
    held = omega (arith, long, is.held, room);
    far = omega (arith, long, is.far, far);
    ordered = omega arith;
    within = omega (arith, long, is.within);
    rests = λ none. absurd (omega (arith, none, pends));
  }

  -- a part of what is pending then
  part_pending : (start skipped many : ℕ) → first + skipped ≡ start → start + many ≤ last → take many (drop skipped (pending_of new)) ≡ take many (drop start laid)
  part_pending start skipped many at fits = part_of_part laid first (last - first) skipped many (omega arith) ∙ ap (λ (n : ℕ). take many (drop n laid)) at

  -- the bytes that were put are pending at the place
  has_new : HasAt (pending_of new) (window.begin + first) bytes (place_of window)
  has_new =
      let skipped : ℕ = window.cursor - first in
      has_part (pending_of new) bytes (window.begin + first) (place_of window) skipped (omega arith)
      (part_pending window.cursor skipped (length bytes) (omega arith) (omega arith) ∙ pasted_at window.held window.cursor bytes is.cursor)

  -- what was pending before the place is pending still
  has_before : (count : ℕ) → count ≡ window.cursor - window.from → HasAt (pending_of new) (window.begin + first) (take count (pending_of window)) (window.begin + window.from)
  has_before count is_before = ⊎_elim
      (λ (none : window.cursor < window.from). let zero_is : count ≡ 0 = omega (arith, is_before, none) in rw zero_is (has_none (pending_of new) (window.begin + first) (window.begin + window.from)))
      (λ (before : window.from ≤ window.cursor).
      let part : List ℕ = take count (pending_of window) in
      let many : length part ≤ min count (window.to - window.from) = omega (arith, length-take count (pending_of window), pending_many window is) in
      has_part (pending_of new) part (window.begin + first) (window.begin + window.from) 0 (omega (arith, before))
      (part_pending window.from 0 (length part) (omega (arith, before)) (omega (arith, many, is.ordered))
      ∙ (pasted_before window.held window.cursor bytes is.cursor window.from (length part) (omega (arith, many, is_before, before))
      ∙ (sym (take-take (length part) (window.to - window.from) (drop window.from window.held) (omega (arith, many)))
      ∙ front_of_all count (pending_of window)))))
      (cases_lt window.cursor window.from)

  -- what lies after the bytes that were put is what it was
  after_pending : (start skipped : ℕ) → first + skipped ≡ start → after ≤ start → take (window.to - start) (drop skipped (pending_of new)) ≡ take (window.to - start) (drop start window.held)
  after_pending start skipped at behind = ⊎_elim
      (λ (more : start < window.to). part_pending start skipped (window.to - start) at (omega (arith, more)) ∙ ap (take (window.to - start)) (pasted_after window.held window.cursor bytes is.cursor start behind))
      (λ (none : window.to ≤ start). let zero_is : window.to - start ≡ 0 = omega (arith, none) in rw zero_is)
      (cases_lt start window.to)

  -- so what was pending there is pending still
  has_behind : (count : ℕ) → count ≡ after - window.from → HasAt (pending_of new) (window.begin + first) (drop count (pending_of window)) (max (window.begin + window.from) (place_of window + length bytes))
  has_behind count is_behind =
      let start : ℕ = window.from + count in
      let skipped : ℕ = start - first in
      let part : List ℕ = drop count (pending_of window) in
      let part_is : part ≡ take (window.to - start) (drop start window.held) =
      from_either (drop window.from window.held) count (window.to - window.from)
      ∙ (ap (take (window.to - window.from - count)) (drop-drop count window.from window.held)
      ∙ ap (λ (n : ℕ). take n (drop start window.held)) (omega arith)) in
      let many : length part ≡ window.to - start = omega (arith, length-drop count (pending_of window), pending_many window is) in
      has_part (pending_of new) part (window.begin + first) (max (window.begin + window.from) (place_of window + length bytes)) skipped (omega (arith, is_behind))
      (ap (λ (n : ℕ). take n (drop skipped (pending_of new))) many
      ∙ (after_pending start skipped (omega arith) (omega (arith, is_behind))
      ∙ sym part_is))

  -- what is owed then covers both
  covers_both : CoversBoth (owed_of window) (place_of window) bytes (owed_of new)
  covers_both =
      let start : ℕ = window.begin + window.from in
      let place : ℕ = place_of window in
      record {
        from = omega (arith, first_is (pending_of window) bytes start place (none_rests window is) some);
        to = omega (arith, as_many, end_is (pending_of window) bytes start place (none_rests window is) some, pending_many window is, is.ordered);
        new_bytes = has_new;
        old_bytes = has_before (place - start) (omega arith);
        behind = has_behind (place + length bytes - start) (omega arith);
      }

  -- what was pending up to the cursor goes on with the bytes that were put
  goes_on : window.to ≡ window.cursor → pending_of new ≡ pending_of window ++ bytes
  goes_on ends =
      let count : ℕ = window.to - window.from in
      let first_is_from : first ≡ window.from = omega (arith, ends, is.ordered) in
      let many : last - first ≡ count + length bytes = omega (arith, ends, is.ordered) in
      let to_cursor : window.from + count ≡ window.cursor = omega (arith, ends, is.ordered) in
      ap (λ (n : ℕ). take n (drop first laid)) many
      ∙ (ap (λ (n : ℕ). take (count + length bytes) (drop n laid)) first_is_from
      ∙ (take-add count (length bytes) (drop window.from laid)
      ∙ (ap (λ (front : List ℕ). front ++ take (length bytes) (drop count (drop window.from laid))) (pasted_before window.held window.cursor bytes is.cursor window.from count (omega (arith, to_cursor)))
      ∙ ap (λ (rest : List ℕ). pending_of window ++ rest)
      (ap (take (length bytes)) (drop-drop count window.from laid ∙ ap (λ (n : ℕ). drop n laid) to_cursor)
      ∙ pasted_at window.held window.cursor bytes is.cursor))))

  -- where what was owed ended at the place, so does what is owed
  follows_on : OwesUpTo (owed_of window) (place_of window) → FollowsOn window bytes new
  follows_on up_to =
      let ends : window.to ≡ window.cursor = ends_at window is up_to in
      record {
        pending = goes_on ends;
        up_to = inr (omega (arith, as_many, ends, is.ordered));
        first = omega (arith, ends, is.ordered);
      }

  -- it holds the bytes of a list that it held, with those laid on that were put
  holds_laid : (flat : List ℕ) → HoldsBytes flat window → HoldsBytes (lay flat (place_of window) bytes) new
  holds_laid flat holds =
      let within : length window.held ≤ length (drop window.begin flat) = held_within flat window holds in
      ap (λ (n : ℕ). take n (drop window.begin (lay flat (place_of window) bytes))) long
      ∙ (ap (take (max (length window.held) after)) (laid_pastes flat window.begin window.cursor bytes (omega (arith, within, is.cursor)))
      ∙ (held_pasted (drop window.begin flat) bytes window.cursor (length window.held) is.cursor within
      ∙ ap (λ (held : List ℕ). pasted held window.cursor bytes) holds))

  -- the flat bytes reach to the end of what is pending
  flat_reaches : (raw : List ℕ) → HoldsBytes (flat_over raw window) window → window.begin + last ≤ length (lay (flat_over raw window) (place_of window) bytes)
  flat_reaches raw holds =
      let flat : List ℕ = flat_over raw window in
      ⊎_elim
      (λ (pending : window.from < window.to).
      let to_end : end_of window ≤ length flat = omega (arith, pending, is.within, held_within flat window holds, length-drop window.begin flat) in
      omega (arith, to_end, is.within, lays_reach flat (place_of window) bytes (omega (arith, to_end, is.cursor))))
      (λ (none : window.to ≤ window.from). omega (arith, none, is.rests, is.ordered, reaches_end flat (place_of window) bytes some))
      (cases_lt window.from window.to)

  -- the flat bytes over it are those over the window before, with the bytes laid on that were put
  lays_on : (raw : List ℕ) → HoldsBytes (flat_over raw window) window → LaysOn raw window bytes new
  lays_on raw holds =
      let flat : List ℕ = lay (flat_over raw window) (place_of window) bytes in
      let holds_new : HoldsBytes flat new = holds_laid (flat_over raw window) holds in
      let pending : pending_of new ≡ take (last - first) (drop (window.begin + first) flat) = held_part flat new first (last - first) (omega (arith, long, is.within)) holds_new in
      let same : flat_over raw new ≡ flat =
      ap (lay raw (window.begin + first)) pending
      ∙ lays_both raw (pending_of window) bytes (window.begin + window.from) (place_of window) (window.begin + first) (last - first) (omega (arith, pends))
      (omega arith) (omega arith) (omega (arith, pending_many window is, is.ordered)) (omega arith) (omega (arith, flat_reaches raw holds)) in
      record { flat = same; holds = subst (λ (held : List ℕ). HoldsBytes held new) (sym same) holds_new }

  -- over what is held there, the words of a window and of what is pending say the same
  pub laid_is : laid_at_cursor bytes window ≡ new
  laid_is =
      let from_is : (if is_settled window then window.cursor else first) ≡ first = grind (arith, eqb_tells, is.rests) in
      let to_is : (if is_settled window then after else last) ≡ last = grind (arith, eqb_tells, is.rests) in
      rw (from_is, to_is)

  -- where there is room after the cursor
  laid_overlays : after ≤ window.size → place_of window + length bytes ≤ 9223372036854775807 → Overlays window bytes (laid_at_cursor bytes window)
  laid_overlays room far = subst (Overlays window bytes) (sym laid_is) (record {
    is = overlaid_is room far;
    size = refl;
    place = omega arith;
    some = λ none. absurd (omega (arith, none, pends));
    begins = omega arith;
    starts = omega arith;
    ends = omega (arith, long);
    first = omega arith;
    reaches = omega arith;
    covers = covers_both;
    follows = follows_on;
    lays = lays_on;
  })

-- What needn't stay before the cursor is let go of.

-- a window that lets go of what it needn't hold before its cursor: it shows the same of its stream, and has all its room after the cursor
pub record LetsGo (window left : WindowView) : Type 0 where
  pub is : IsWindow left
  pub size : left.size ≡ window.size
  pub place : place_of left ≡ place_of window
  pub ends : end_of left ≡ end_of window
  pub owed : owed_of left ≡ owed_of window
  -- it begins no earlier than it did, and no later than what is owed
  pub begins : window.begin ≤ left.begin
  pub starts : left.begin ≤ window.begin + window.from
  pub flat : (raw : List ℕ) → flat_over raw left ≡ flat_over raw window
  pub holds : (raw : List ℕ) → HoldsBytes (flat_over raw window) window → HoldsBytes (flat_over raw left) left
  pub room : room_of left ≡ room_of window
  pub all : left.cursor + room_of left ≡ left.size

-- a window without some bytes that lie before its cursor and before all that is pending
module _ (window : WindowView) (count : ℕ) (is : IsWindow window) (cursor : count ≤ window.cursor) (from : count ≤ window.from) where
  abbrev left : WindowView
  left = without_front count window

  -- it is one
  left_is : IsWindow left
  left_is =
      let fewer = length-drop count window.held in
      record {
        some = is.some;
        cursor = omega (arith, fewer, is.cursor);
        held = omega (arith, fewer, is.held);
        far = omega (arith, fewer, is.far, is.cursor);
        ordered = omega (arith, is.ordered);
        within = omega (arith, fewer, is.within);
        rests = λ none. omega (arith, none, is.rests, is.ordered);
      }

  -- it owes the same
  left_owes : owed_of left ≡ owed_of window
  left_owes =
      let many : window.to - count - (window.from - count) ≡ window.to - window.from = omega (arith, is.ordered) in
      let at : window.begin + count + (window.from - count) ≡ window.begin + window.from = omega arith in
      let same : pending_of left ≡ pending_of window =
      ap (λ (n : ℕ). take n (drop (window.from - count) (drop count window.held))) many
      ∙ ap (take (window.to - window.from)) (drop-drop (window.from - count) count window.held ∙ ap (λ (n : ℕ). drop n window.held) (omega arith)) in
      ap (λ (place : ℕ). record { bytes = pending_of left; place = place }) at ∙ ap (λ (pending : List ℕ). record { bytes = pending; place = window.begin + window.from }) same

  -- it holds bytes of a list that it held
  left_holds : (flat : List ℕ) → HoldsBytes flat window → HoldsBytes flat left
  left_holds flat holds =
      ap (λ (n : ℕ). take n (drop (window.begin + count) flat)) (length-drop count window.held)
      ∙ (ap (take (length window.held - count)) (sym (drop-drop count window.begin flat))
      ∙ (sym (from_either (drop window.begin flat) count (length window.held))
      ∙ ap (drop count) holds))

-- what needn't stay before the cursor is let go of: that is nothing to the stream
pub lets_go : (window : WindowView) → IsWindow window → LetsGo window (without_front (window.cursor - kept_before window) window)
lets_go window is =
    let count : ℕ = window.cursor - kept_before window in
    let cursor : count ≤ window.cursor = omega arith in
    let from : count ≤ window.from = omega arith in
    let owed : owed_of (without_front count window) ≡ owed_of window = left_owes window count is cursor from in
    let flat : (raw : List ℕ) → flat_over raw (without_front count window) ≡ flat_over raw window = λ (raw : List ℕ). ap (λ (owed : Owed). lay raw owed.place owed.bytes) owed in
    record {
      is = left_is window count is cursor from;
      size = refl;
      place = omega (arith, cursor);
      ends = omega (arith, cursor, length-drop count window.held, is.cursor);
      owed = owed;
      begins = omega arith;
      starts = omega (arith, from);
      flat = flat;
      holds = λ (raw : List ℕ) (holds : HoldsBytes (flat_over raw window) window). subst (λ (bytes : List ℕ). HoldsBytes bytes (without_front count window)) (sym (flat raw)) (left_holds window count is cursor from (flat_over raw window) holds);
      room = omega (arith, cursor, from);
      all = omega (arith, is.cursor, is.held);
    }

-- what is put into the window that holds less is put into the other
over_rest : (window left : WindowView) (bytes : List ℕ) (new : WindowView) → LetsGo window left → Overlays left bytes new → Overlays window bytes new
over_rest window left bytes new go over =
    let first : left.begin + left.from ≡ window.begin + window.from = ap (λ (owed : Owed). owed.place) go.owed in
    record {
      is = over.is;
      size = over.size ∙ go.size;
      place = omega (arith, over.place, go.place);
      some = over.some;
      begins = omega (arith, over.begins, go.begins);
      starts = omega (arith, over.starts, first);
      ends = omega (arith, over.ends, go.ends);
      first = omega (arith, over.first, first, go.place);
      reaches = over.reaches;
      covers = subst (λ (owed : Owed). CoversBoth owed (place_of window) bytes (owed_of new)) go.owed (subst (λ (place : ℕ). CoversBoth (owed_of left) place bytes (owed_of new)) go.place over.covers);
      follows = λ (up_to : OwesUpTo (owed_of window) (place_of window)).
          let follows : FollowsOn left bytes new = over.follows (subst (OwesUpTo (owed_of left)) (sym go.place) (subst (λ (owed : Owed). OwesUpTo owed (place_of window)) (sym go.owed) up_to)) in
          record { pending = follows.pending ∙ ap (λ (owed : Owed). owed.bytes ++ bytes) go.owed; up_to = follows.up_to; first = follows.first ∙ first };
      lays = λ (raw : List ℕ) (holds : HoldsBytes (flat_over raw window) window).
          let lays : LaysOn raw left bytes new = over.lays raw (go.holds raw holds) in
          record { flat = lays.flat ∙ (ap (λ (place : ℕ). lay (flat_over raw left) place bytes) go.place ∙ ap (λ (under : List ℕ). lay under (place_of window) bytes) (go.flat raw)); holds = lays.holds };
    }

-- where there is room after the cursor, some bytes are put there
pub pushed_within : (window : WindowView) (bytes : List ℕ) → 0 < length bytes → window.cursor + length bytes ≤ window.size → pushed bytes window ≡ laid_at_cursor bytes window
pushed_within window [] some fits = absurd (omega (arith, some))
pushed_within window (byte ∷ more) some fits = ap (λ (fits : Bool). if fits then laid_at_cursor (byte ∷ more) window else laid_at_cursor (byte ∷ more) (without_front (window.cursor - kept_before window) window)) (le-leb (window.cursor + length (byte ∷ more)) window.size fits)

-- where there is none, they are put once what needn't stay is let go of
pub pushed_beyond : (window : WindowView) (bytes : List ℕ) → 0 < length bytes → window.size < window.cursor + length bytes → pushed bytes window ≡ laid_at_cursor bytes (without_front (window.cursor - kept_before window) window)
pushed_beyond window [] some beyond = absurd (omega (arith, some))
pushed_beyond window (byte ∷ more) some beyond = ap (λ (fits : Bool). if fits then laid_at_cursor (byte ∷ more) window else laid_at_cursor (byte ∷ more) (without_front (window.cursor - kept_before window) window)) (lt-leb (window.cursor + length (byte ∷ more)) window.size beyond)

-- some bytes put at the cursor of a window that has room for them
pub overlays : (window : WindowView) (bytes : List ℕ) → IsWindow window → 0 < length bytes → length bytes ≤ room_of window → place_of window + length bytes ≤ 9223372036854775807 → Overlays window bytes (pushed bytes window)
overlays window bytes is some room far =
    let count : ℕ = window.cursor - kept_before window in
    let left : WindowView = without_front count window in
    let go : LetsGo window left = lets_go window is in
    ⊎_elim
    (λ beyond. subst (Overlays window bytes) (sym (pushed_beyond window bytes some beyond))
    (over_rest window left bytes (laid_at_cursor bytes left) go (laid_overlays left bytes go.is some (omega (arith, room, go.room, go.all)) (omega (arith, go.place, far)))))
    (λ within. subst (Overlays window bytes) (sym (pushed_within window bytes some within))
    (laid_overlays window bytes is some within far))
    (cases_lt window.size (window.cursor + length bytes))

-- as many bytes as there is room for fill the buffer with pending ones
pub full : (window : WindowView) (bytes : List ℕ) → IsWindow window → 0 < length bytes → length bytes ≡ room_of window → place_of window + length bytes ≤ 9223372036854775807 → length (pending_of (pushed bytes window)) ≡ window.size
full window bytes is some room far =
    let new : WindowView = pushed bytes window in
    let over : Overlays window bytes new = overlays window bytes is some (omega (arith, room)) far in
    omega (arith, room, is.cursor, is.held, pending_many new over.is, over.is.within, over.is.held, over.size, over.place, over.first, over.reaches)

-- Pieces put one after the other, where there is room after the cursor.

-- bytes put right behind others are put over a list with them
pasted_twice : (items : List ℕ) (at : ℕ) (first second : List ℕ) → at ≤ length items → pasted (pasted items at first) (at + length first) second ≡ pasted items at (first ++ second)
pasted_twice items at first second within =
    let rest : List ℕ = drop (at + length first) items in
    let before : take (at + length first) (pasted items at first) ≡ take at items ++ first =
    ap (λ (n : ℕ). take (n + length first) (pasted items at first)) (sym (front items at first within))
    ∙ (take-append-add (take at items) (first ++ rest) (length first)
    ∙ ap (λ (put : List ℕ). take at items ++ put) (take_at first rest (length first) refl)) in
    let behind : drop (at + length first + length second) (pasted items at first) ≡ drop (at + length (first ++ second)) items =
    pasted_after items at first within (at + length first + length second) (omega arith) ∙ ap (λ (n : ℕ). drop n items) (omega (arith, length-append first second)) in
    rw (before, behind) (append_assoc (take at items) first (second ++ drop (at + length (first ++ second)) items) ∙ ap (λ (put : List ℕ). take at items ++ put) (sym (append_assoc first second (drop (at + length (first ++ second)) items))))

-- where some are pending, all from the first to the last is
pending_laid : (window : WindowView) (bytes : List ℕ) → window.from ≢ window.to → laid_at_cursor bytes window ≡ overlaid bytes window
pending_laid window bytes some = rw (ne_eqb window.from window.to some)

-- pending is then all that was made so, whether at once or by two pieces
overlaid_twice : (window : WindowView) (first second : List ℕ) → IsWindow window → overlaid second (overlaid first window) ≡ overlaid (first ++ second) window
overlaid_twice window first second is =
    let many : length (first ++ second) ≡ length first + length second = length-append first second in
    let held : pasted (pasted window.held window.cursor first) (window.cursor + length first) second ≡ pasted window.held window.cursor (first ++ second) = pasted_twice window.held window.cursor first second is.cursor in
    let cursor : window.cursor + length first + length second ≡ window.cursor + length (first ++ second) = omega (arith, many) in
    let from : min (min window.from window.cursor) (window.cursor + length first) ≡ min window.from window.cursor = omega arith in
    let to : max (max window.to (window.cursor + length first)) (window.cursor + length first + length second) ≡ max window.to (window.cursor + length (first ++ second)) = omega (arith, many) in
    cc (held, cursor, from, to)

-- a piece put after another is as if both were put at once
pub laid_twice : (window : WindowView) (first second : List ℕ) → IsWindow window → 0 < length first → laid_at_cursor second (laid_at_cursor first window) ≡ laid_at_cursor (first ++ second) window
laid_twice window first second is some =
    let both : 0 < length (first ++ second) = omega (arith, some, length-append first second) in
    ap (laid_at_cursor second) (laid_is window first is some)
    ∙ (pending_laid (overlaid first window) second (λ none. absurd (omega (arith, none, pends window first is some)))
    ∙ (overlaid_twice window first second is
    ∙ sym (laid_is window (first ++ second) is both)))
