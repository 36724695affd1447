-- A window that has no room at its cursor, all of which becomes pending.
use Rattle.std.proofs.Common.{◌≡◌, ◌≢◌, ℕ, ◌+◌, ◌-◌, ◌<◌, ◌≤◌, ⊎_elim, List, [], ◌++◌, length, take, drop, refl, sym, ap, ◌∙◌, subst, arith, length-drop, length-take}
use Rattle.std.proofs.lemmas.List.{append-nil, take_all, length-take-le}
use Rattle.py_flat.specs.Bytes.{lay}
use Rattle.py_flat.proofs.Laying.{filled_within, lay_over}
use Rattle.py_stream.specs.Writing.{OwesUpTo, LeavesUpTo}
use Rattle.py_window.specs.Window.{WindowView, IsWindow, HoldsBytes, place_of, pending_of, owed_of, flat_over, room_of, all_pending}
use Rattle.py_window.proofs.Overlaying.{lays_range}

-- bytes that a list has at a place, laid on it there, leave it as it is
lays_same : (flat held : List ℕ) (place : ℕ) → 0 < length held → take (length held) (drop place flat) ≡ held → lay flat place held ≡ flat
lays_same flat held place some has =
    let within : place + length held ≤ length flat = omega (arith, some, ap length has, length-take (length held) (drop place flat), length-drop place flat) in
    ap (lay flat place) (sym has) ∙ lays_range flat flat place (length held) some within (sym (filled_within flat place (omega (arith, within)))) refl

module _ (window : WindowView) (is : IsWindow window) (full : room_of window ≡ 0) where
  abbrev new : WindowView
  new = all_pending window

  -- nothing is held before the pending bytes, and nothing after the cursor: the buffer is full
  pub from_first : window.from ≡ 0
  from_first = omega (arith, full, is.cursor, is.held, is.some)

  pub to_cursor : length window.held ≡ window.cursor
  to_cursor = omega (arith, full, is.cursor, is.held, is.some)

  pub holds_many : length window.held ≡ window.size
  holds_many = omega (arith, full, is.cursor, is.held, is.some)

  -- all that it holds is pending
  pub all_of_it : pending_of new ≡ window.held
  all_of_it = take_all (length window.held - 0) window.held (omega arith)

  pub all_many : length (pending_of new) ≡ window.size
  all_many = ap length all_of_it ∙ holds_many

  pub is_some : pending_of new ≢ []
  is_some none = absurd (omega (arith, all_many, is.some, ap length none))

  -- what was pending is the front of it
  front_of_it : pending_of window ≡ take window.to window.held
  front_of_it = ap (λ (n : ℕ). take (window.to - n) (drop n window.held)) from_first ∙ ap (λ (n : ℕ). take n window.held) (omega arith)

  front_many : length (pending_of window) ≡ window.to
  front_many = ap length front_of_it ∙ length-take-le window.to window.held is.within

  -- what was owed goes on up to the place
  pub goes_up : LeavesUpTo 0 (owed_of window) (place_of window) [] (owed_of new)
  goes_up = record {
    nothing = refl;
    most = omega arith;
    from = omega (arith, from_first);
    front = ap (λ (bytes : List ℕ). take (length (pending_of window) - 0) bytes) all_of_it ∙ ap (λ (n : ℕ). take n window.held) (omega (arith, front_many)) ∙ sym front_of_it;
    ends = omega (arith, ap length all_of_it, to_cursor);
  }

  -- where it ended at the place it is what was owed
  pub all_was : OwesUpTo (owed_of window) (place_of window) → pending_of new ≡ pending_of window ++ []
  all_was up_to = ⊎_elim
      (λ (none : pending_of window ≡ []). absurd (omega (arith, front_many, ap length none, is.ordered, is.rests, from_first, to_cursor, holds_many, is.some)))
      (λ (ends : window.begin + window.from + length (pending_of window) ≡ place_of window).
      all_of_it ∙ sym (take_all window.to window.held (omega (arith, ends, front_many, from_first, to_cursor))) ∙ sym front_of_it ∙ sym (append-nil (pending_of window)))
      up_to

  -- the flat bytes over it are what they were
  pub flat_same : (raw : List ℕ) → HoldsBytes (flat_over raw window) window → flat_over raw new ≡ flat_over raw window
  flat_same raw holds =
      let place : ℕ = window.begin + window.from in
      let same : window.begin + 0 ≡ place = omega (arith, from_first) in
      let has : take (length window.held) (drop place (flat_over raw window)) ≡ window.held = subst (λ (n : ℕ). take (length window.held) (drop n (flat_over raw window)) ≡ window.held) (omega (arith, from_first)) holds in
      ap (lay raw (window.begin + 0)) all_of_it
      ∙ ap (λ (n : ℕ). lay raw n window.held) same
      ∙ sym (lay_over raw place (pending_of window) window.held (omega (arith, front_many, is.within)))
      ∙ lays_same (flat_over raw window) window.held place (omega (arith, holds_many, is.some)) has

  -- it is a window
  pub is_window : IsWindow new
  is_window = record {
    some = is.some;
    cursor = is.cursor;
    held = is.held;
    far = is.far;
    ordered = omega arith;
    within = omega arith;
    rests = λ none. absurd (omega (arith, none, holds_many, is.some));
  }
