-- A window of a stream that is written: what it owes ends at the cursor, where all ends that it holds.
use Rattle.std.proofs.Common.{◌≡◌, ℕ, ◌+◌, ◌-◌, ◌<◌, ◌≤◌, min, max, Bool, List, ◌++◌, length, take, drop, nat_eq, if◌then◌else◌, refl, sym, ap, ◌∙◌, subst, arith, ⊎_elim, ne_eqb}
use Rattle.std.proofs.Math.ListN.{drop_of_length-le}
use Rattle.std.proofs.lemmas.Bool.Decides.{eqb_tells}
use Rattle.std.proofs.lemmas.Bool.{cases_lt, eq-eqb}
use Rattle.std.proofs.lemmas.List.{length-drop, length-append, length-take-le, take_all, take-take, drop-append-le, drop-drop, append-nil}
use Rattle.py_window.specs.Window.{WindowView, IsWindow, Collects, place_of, pending_of, is_settled, kept_before, room_of, pasted, laid_at_cursor, without_front, pushed, passed_on, emptied_at, cut_within, cut_at}
use Rattle.py_window.proofs.Held.{from_start}
use Rattle.py_window.proofs.Overlaying.{pushed_within, pushed_beyond}

-- What is pending.

-- what is pending is all that is held from the first pending byte on
pub pending_held : (window : WindowView) → Collects window → pending_of window ≡ drop window.from window.held
pending_held window is = take_all (window.to - window.from) (drop window.from window.held) (omega (arith, is.to, is.end, length-drop window.from window.held))

-- the pending bytes are as many as lie from the first one to the cursor
pub pending_length : (window : WindowView) → Collects window → length (pending_of window) ≡ window.cursor - window.from
pending_length window collects = ap length (pending_held window collects) ∙ (length-drop window.from window.held ∙ ap (λ (n : ℕ). n - window.from) (sym collects.end))

-- what is pending ends at the cursor
pub pending_ends : (window : WindowView) → IsWindow window → Collects window → window.begin + window.from + length (pending_of window) ≡ place_of window
pending_ends window is collects = omega (arith, pending_length window collects, collects.to, is.ordered)

-- the room is what the pending bytes leave of the buffer
pub room_left : (window : WindowView) → Collects window → room_of window ≡ window.size - length (pending_of window)
room_left window collects = ap (λ (n : ℕ). window.size - n) (sym (pending_length window collects))

-- What a window shows of a stream that is written: its size, where what it owes begins, and these bytes.

-- a window of a stream that is written shows its size, and the bytes that it owes at a place
pub record Shows (window : WindowView) (size place : ℕ) (bytes : List ℕ) : Type 0 where
  pub is : IsWindow window
  pub collects : Collects window
  pub size_is : window.size ≡ size
  pub place_is : window.begin + window.from ≡ place
  pub bytes_are : pending_of window ≡ bytes

-- a window shows its own size, and its own pending bytes at their place
pub shows_itself : (window : WindowView) → IsWindow window → Collects window → Shows window window.size (window.begin + window.from) (pending_of window)
shows_itself window is collects = record { is = is; collects = collects; size_is = refl; place_is = refl; bytes_are = refl }

-- Putting bytes behind.

-- the last pending byte is the last of those that were put
to_follows : (window : WindowView) (after : ℕ) → Collects window → window.cursor ≤ after → (if is_settled window then after else max window.to after) ≡ after
to_follows window after collects forth = grind (arith, eqb_tells)

-- bytes that were put at the cursor, where there was room after it
laid_shows : (window : WindowView) (bytes : List ℕ) (size place : ℕ) (owed : List ℕ) → window.cursor + length bytes ≤ window.size → place_of window + length bytes ≤ 9223372036854775807 → 0 < length bytes → Shows window size place owed → Shows (laid_at_cursor bytes window) size place (owed ++ bytes)
laid_shows window bytes size place owed room far some shows =
    let after : ℕ = window.cursor + length bytes in
    let held : pasted window.held window.cursor bytes ≡ window.held ++ bytes = grind (arith, drop_of_length-le, append-nil, take_all) in
    let long : length (pasted window.held window.cursor bytes) ≡ after = ap length held ∙ (length-append window.held bytes ∙ ap (λ (n : ℕ). n + length bytes) (sym shows.collects.end)) in
    let from : (if is_settled window then window.cursor else min window.from window.cursor) ≡ window.from = grind (arith, eqb_tells) in
    let to : (if is_settled window then after else max window.to after) ≡ after = to_follows window after shows.collects (omega arith) in
    let put : WindowView = laid_at_cursor bytes window in
    let is_put : IsWindow put = grind (arith, long, room, far, from, to, shows.is.ordered, shows.collects.to) in
    let collects_put : Collects put = record { to = to; end = sym long } in
    record {
      is = is_put;
      collects = collects_put;
      size_is = shows.size_is;
      place_is = omega (arith, from, shows.place_is);
      bytes_are = pending_held put collects_put
          ∙ (ap (λ (n : ℕ). drop n (pasted window.held window.cursor bytes)) from
          ∙ (ap (drop window.from) held
          ∙ (drop-append-le window.from window.held bytes (omega (arith, shows.is.ordered, shows.is.within))
          ∙ ap (λ (xs : List ℕ). xs ++ bytes) (sym (pending_held window shows.collects) ∙ shows.bytes_are))));
    }

-- what need not stay before the cursor is let go of
let_go_shows : (window : WindowView) (size place : ℕ) (owed : List ℕ) → Shows window size place owed → Shows (without_front (window.cursor - kept_before window) window) size place owed
let_go_shows window size place owed shows = grind (arith, length-drop, pending_held, drop-drop)

-- bytes put behind what is owed
pub pushed_shows : (window : WindowView) (bytes : List ℕ) (size place : ℕ) (owed : List ℕ) → 0 < length bytes → length bytes ≤ room_of window → place_of window + length bytes ≤ 9223372036854775807 → Shows window size place owed → Shows (pushed bytes window) size place (owed ++ bytes)
pushed_shows window bytes size place owed some room far shows =
    let front : ℕ = window.cursor - kept_before window in
    let left : WindowView = without_front front window in
    let front_is : front ≡ window.from = omega (arith, shows.is.ordered, shows.collects.to) in
    ⊎_elim
    (λ beyond. subst (λ (new : WindowView). Shows new size place (owed ++ bytes)) (sym (pushed_beyond window bytes some beyond))
    (laid_shows left bytes size place owed (omega (arith, front_is, room, shows.is.held, shows.is.cursor)) (omega (arith, front_is, far, shows.is.ordered, shows.collects.to)) some (let_go_shows window size place owed shows)))
    (λ within. subst (λ (new : WindowView). Shows new size place (owed ++ bytes)) (sym (pushed_within window bytes some within))
    (laid_shows window bytes size place owed within far some shows))
    (cases_lt window.size (window.cursor + length bytes))

-- Passing on, and cutting back.

-- the range of what is pending once the first n bytes of it aren't any more
passed_from : (window : WindowView) (count : ℕ) → IsWindow window → Collects window → count ≤ window.to - window.from → (if nat_eq (window.from + count) window.to then window.cursor else window.from + count) ≡ window.from + count
passed_from window count is collects fits = grind (arith, eqb_tells)

passed_to : (window : WindowView) (count : ℕ) → Collects window → (if nat_eq (window.from + count) window.to then window.cursor else window.to) ≡ window.to
passed_to window count collects = grind (arith, eqb_tells)

-- the first n pending bytes were passed on
pub passed_shows : (window : WindowView) (count size place : ℕ) (owed : List ℕ) → count ≤ length owed → Shows window size place owed → Shows (passed_on count window) size (place + count) (drop count owed)
passed_shows window count size place owed fits shows =
    let within : count ≤ window.cursor - window.from = omega (arith, fits, ap length shows.bytes_are, pending_length window shows.collects) in
    let from = passed_from window count shows.is shows.collects (omega (arith, within, shows.collects.to)) in
    let to = passed_to window count shows.collects in
    let put : WindowView = passed_on count window in
    let collects_put : Collects put = record { to = to ∙ shows.collects.to; end = shows.collects.end } in
    record {
      is = grind (arith, from, to, within, shows.collects.to, shows.is.within);
      collects = collects_put;
      size_is = shows.size_is;
      place_is = omega (arith, from, shows.place_is);
      bytes_are = pending_held put collects_put
          ∙ (ap (λ (n : ℕ). drop n window.held) from
          ∙ (sym (drop-drop count window.from window.held)
          ∙ ap (drop count) (sym (pending_held window shows.collects) ∙ shows.bytes_are)));
    }

-- what is owed up to the cursor was cut back to a place among it; all is let go of that was held behind
cut_some : (window : WindowView) (end : ℕ) → IsWindow window → window.to ≡ window.cursor → window.begin + window.from ≤ end → end ≤ place_of window → Shows (cut_within end window) window.size (window.begin + window.from) (take (end - (window.begin + window.from)) (pending_of window))
cut_some window end is to behind within =
    let count : ℕ = end - window.begin in
    let many : ℕ = end - (window.begin + window.from) in
    let long : length (take count window.held) ≡ count = length-take-le count window.held (omega (arith, within, is.cursor)) in
    let put : WindowView = cut_within end window in
    let collects_put : Collects put = record { to = refl; end = sym long } in
    record {
      is = grind (arith, long, within, is.cursor, is.held, is.far, behind);
      collects = collects_put;
      size_is = refl;
      place_is = refl;
      bytes_are = pending_held put collects_put
          ∙ (from_start window.held window.from count (omega (arith, behind))
          ∙ (ap (λ (n : ℕ). take n (drop window.from window.held)) (let n : count - window.from ≡ many = omega (arith, behind) in n)
          ∙ sym (take-take many (window.to - window.from) (drop window.from window.held) (omega (arith, within, to)))));
    }

-- or to where it begins
cut_none : (window : WindowView) (end : ℕ) → IsWindow window → end ≡ window.begin + window.from → Shows (emptied_at end window) window.size (window.begin + window.from) (take (end - (window.begin + window.from)) (pending_of window))
cut_none window end is same = record {
  is = record { some = is.some; cursor = omega arith; held = omega arith; far = omega (arith, same, is.ordered, is.within, is.far); ordered = omega arith; within = omega arith; rests = λ _. refl };
  collects = record { to = refl; end = refl };
  size_is = refl;
  place_is = omega (arith, same);
  bytes_are = ap (λ (n : ℕ). take n (pending_of window)) (let none : 0 ≡ end - (window.begin + window.from) = omega (arith, same) in none);
}

-- what is owed up to the cursor was cut back to a place
pub cut_shows : (window : WindowView) (end : ℕ) → IsWindow window → window.to ≡ window.cursor → window.begin + window.from ≤ end → end ≤ place_of window → Shows (cut_at end window) window.size (window.begin + window.from) (take (end - (window.begin + window.from)) (pending_of window))
cut_shows window end is to behind within =
    let place : ℕ = window.begin + window.from in
    ⊎_elim
    (λ (beyond : place < end). subst (λ (same : Bool). Shows (if same then emptied_at end window else cut_within end window) window.size place (take (end - place) (pending_of window))) (sym (ne_eqb end place (λ same. absurd (omega (arith, beyond, same)))))
    (cut_some window end is to behind within))
    (λ (there : end ≤ place). subst (λ (same : Bool). Shows (if same then emptied_at end window else cut_within end window) window.size place (take (end - place) (pending_of window))) (sym (eq-eqb end place (omega (arith, there, behind))))
    (cut_none window end is (omega (arith, there, behind))))
    (cases_lt place end)
