-- Pieces put at a window's cursor one after the other.
use Rattle.std.proofs.Common.{[], ◌∷◌, ◌≡◌, ℕ, ◌+◌, ◌-◌, ◌<◌, ◌≤◌, ⊎_elim, List, ◌++◌, length, take, drop, get_or, min, max, refl, sym, ap, ◌∙◌, subst, arith}
use Rattle.std.proofs.Math.Seq.{take-nil, take-append-add}
use Rattle.std.proofs.lemmas.Bool.{cases_lt}
use Rattle.std.proofs.lemmas.List.{length-append, length-take, length-take-le, take_min, take_all, take-append-le, append-nil, drop-append-le, drop-drop, drop-take}
use Rattle.py_window.specs.Window.{WindowView, IsWindow, place_of, kept_before, room_of, pasted, laid_at_cursor, without_front, pushed}
use Rattle.py_flat.specs.Lines.{joined}
use Rattle.py_stream.proofs.Giving.{joined_more, length-joined_parts}
use Rattle.py_window.proofs.Overlaying.{Overlays, overlays, overlaid, laid_is, laid_twice, lets_go, pushed_within, pushed_beyond}

-- Letting go of bytes before the cursor, and then putting some.

-- bytes are put over a list whose front is let go of as they are over the whole
drop_pasted : (items bytes : List ℕ) (at count : ℕ) → count ≤ at → at ≤ length items → drop count (pasted items at bytes) ≡ pasted (drop count items) (at - count) bytes
drop_pasted items bytes at count before within =
    let rest : List ℕ = drop (at + length bytes) items in
    let behind : drop (at - count + length bytes) (drop count items) ≡ rest = drop-drop (at - count + length bytes) count items ∙ ap (λ (n : ℕ). drop n items) (let n : count + (at - count + length bytes) ≡ at + length bytes = omega (arith, before) in n) in
    drop-append-le count (take at items) (bytes ++ rest) (omega (arith, before, length-take-le at items within))
    ∙ (ap (λ (front : List ℕ). front ++ (bytes ++ rest)) (ap (λ (n : ℕ). drop count (take n items)) (let n : at ≡ count + (at - count) = omega (arith, before) in n) ∙ drop-take count (at - count) items)
    ∙ ap (λ (after : List ℕ). take (at - count) (drop count items) ++ (bytes ++ after)) (sym behind))

-- so it is with a window
without_laid : (window : WindowView) (bytes : List ℕ) (count : ℕ) → IsWindow window → 0 < length bytes → IsWindow (without_front count window) → count ≤ window.cursor → count ≤ window.from → without_front count (laid_at_cursor bytes window) ≡ laid_at_cursor bytes (without_front count window)
without_laid window bytes count is some left_is cursor from =
    let held : drop count (pasted window.held window.cursor bytes) ≡ pasted (drop count window.held) (window.cursor - count) bytes = drop_pasted window.held bytes window.cursor count cursor is.cursor in
    let after : window.cursor + length bytes - count ≡ window.cursor - count + length bytes = omega (arith, cursor) in
    let first : min window.from window.cursor - count ≡ min (window.from - count) (window.cursor - count) = omega arith in
    let last : max window.to (window.cursor + length bytes) - count ≡ max (window.to - count) (window.cursor - count + length bytes) = omega (arith, cursor) in
    ap (without_front count) (laid_is window bytes is some) ∙ (cc (held, after, first, last) ∙ sym (laid_is (without_front count window) bytes left_is some))

-- Putting a piece after another.

-- a window without what needn't stay before its cursor
abbrev left : WindowView → WindowView
left window = without_front (window.cursor - kept_before window) window

module _ (window : WindowView) (first second : List ℕ) (is : IsWindow window) (room : length (first ++ second) ≤ room_of window) (some : 0 < length first) (more : 0 < length second) where
  many : length (first ++ second) ≡ length first + length second
  many = length-append first second

  both_some : 0 < length (first ++ second)
  both_some = omega (arith, many, some)

  abbrev count : ℕ
  count = window.cursor - kept_before window

  left_is : IsWindow (left window)
  left_is = (lets_go window is).is

  -- as far as the first there is room after the cursor, and as far as both there is none
  lets_go_between : window.cursor + length first ≤ window.size → window.size < window.cursor + length (first ++ second) → pushed second (pushed first window) ≡ laid_at_cursor (first ++ second) (left window)
  lets_go_between fits beyond =
      let laid : WindowView = laid_at_cursor first window in
      let plain : laid ≡ overlaid first window = laid_is window first is some in
      let cursor : laid.cursor ≡ window.cursor + length first = refl in
      let from : laid.from ≡ min window.from window.cursor = ap (λ (w : WindowView). w.from) plain in
      let same : laid.cursor - kept_before laid ≡ count = omega (arith, cursor, from) in
      ap (pushed second) (pushed_within window first some fits)
      ∙ (pushed_beyond laid second more (omega (arith, cursor, beyond, many))
      ∙ (ap (λ (n : ℕ). laid_at_cursor second (without_front n laid)) same
      ∙ (ap (laid_at_cursor second) (without_laid window first count is some left_is (omega arith) (omega arith))
      ∙ laid_twice (left window) first second left_is some)))

  some_twice : pushed second (pushed first window) ≡ pushed (first ++ second) window
  some_twice = ⊎_elim
      (λ (beyond : window.size < window.cursor + length (first ++ second)).
      ⊎_elim
      (λ (past : window.size < window.cursor + length first).
      ap (pushed second) (pushed_beyond window first some past)
      ∙ (pushed_within (laid_at_cursor first (left window)) second more (omega (arith, room, many, is.cursor, is.held))
      ∙ (laid_twice (left window) first second left_is some
      ∙ sym (pushed_beyond window (first ++ second) both_some beyond))))
      (λ (fits : window.cursor + length first ≤ window.size). lets_go_between fits beyond ∙ sym (pushed_beyond window (first ++ second) both_some beyond))
      (cases_lt window.size (window.cursor + length first)))
      (λ (fits : window.cursor + length (first ++ second) ≤ window.size).
      ap (pushed second) (pushed_within window first some (omega (arith, fits, many)))
      ∙ (pushed_within (laid_at_cursor first window) second more (omega (arith, fits, many))
      ∙ (laid_twice window first second is some
      ∙ sym (pushed_within window (first ++ second) both_some fits))))
      (cases_lt window.size (window.cursor + length (first ++ second)))

-- a piece put after another is as if both were put at once
pub pushed_twice : (window : WindowView) (first second : List ℕ) → IsWindow window → length (first ++ second) ≤ room_of window → pushed second (pushed first window) ≡ pushed (first ++ second) window
pushed_twice window [] second is room = refl
pushed_twice window (byte ∷ more) [] is room = ap (λ (bytes : List ℕ). pushed bytes window) (sym (append-nil (byte ∷ more)))
pushed_twice window (byte ∷ more) (next ∷ others) is room = some_twice window (byte ∷ more) (next ∷ others) is room (omega arith) (omega arith)

-- What putting leaves.

-- where the cursor stands then, and how much room is left
pub record Pushed (window : WindowView) (count : ℕ) (new : WindowView) : Type 0 where
  pub place : place_of new ≡ place_of window + count
  pub room : room_of new + count ≡ room_of window

pub pushed_there : (window : WindowView) (bytes : List ℕ) → IsWindow window → length bytes ≤ room_of window → place_of window + length bytes ≤ 9223372036854775807 → Pushed window (length bytes) (pushed bytes window)
pushed_there window [] is room far = record { place = omega arith; room = omega arith }
pushed_there window (byte ∷ more) is room far =
    let over : Overlays window (byte ∷ more) (pushed (byte ∷ more) window) = overlays window (byte ∷ more) is (omega arith) room far in
    record { place = over.place; room = omega (arith, over.place, over.first, over.size, room, is.cursor, is.held) }

-- Lines put one after the other, up to as many bytes as there is room for.

-- how much of a line is put, after some bytes
module _ (most : ℕ) (before line : List ℕ) where
  pub taken_more : take most (before ++ line) ≡ take most before ++ take (most - length before) line
  taken_more = ⊎_elim
      (λ (beyond : length before < most).
      let more : ℕ = most - length before in
      ap (λ (n : ℕ). take n (before ++ line)) (let n : most ≡ length before + more = omega (arith, beyond) in n)
      ∙ (take-append-add before line more
      ∙ ap (λ (front : List ℕ). front ++ take more line) (sym (take_all most before (omega (arith, beyond))))))
      (λ (within : most ≤ length before).
      let none : most - length before ≡ 0 = omega (arith, within) in
      take-append-le most before line within
      ∙ (sym (append-nil (take most before))
      ∙ ap (λ (n : ℕ). take most before ++ take n line) (sym none)))
      (cases_lt (length before) most)

-- the lines so far were put, and there is room for as many more
pub record PutLines (window : WindowView) (most : ℕ) (before : List ℕ) (room : ℕ) (now : WindowView) : Type 0 where
  pub same : now ≡ pushed (take most before) window
  pub left : room ≡ most - length before

-- no lines yet
pub puts_none : (window : WindowView) (most : ℕ) → PutLines window most [] most window
puts_none window most = record { same = ap (λ (bytes : List ℕ). pushed bytes window) (sym (take-nil most)); left = omega arith }

module _ (window now : WindowView) (most : ℕ) (before line : List ℕ) (room : ℕ) (is : IsWindow window) (fits : most ≤ room_of window) (far : place_of window + length (before ++ line) ≤ 9223372036854775807) (so : PutLines window most before room now) where
  abbrev some : ℕ
  some = min (length line) room

  part : take some line ≡ take (most - length before) line
  part = ap (λ (n : ℕ). take n line) (let n : some ≡ min (most - length before) (length line) = omega (arith, so.left) in n) ∙ take_min (most - length before) line

  after : take most before ++ take some line ≡ take most (before ++ line)
  after = ap (λ (rest : List ℕ). take most before ++ rest) part ∙ sym (taken_more most before line)

  both_fit : length (take most before ++ take some line) ≤ room_of window
  both_fit = omega (arith, fits, ap length after, length-take most (before ++ line))

  both_far : length (take most before ++ take some line) ≤ length (before ++ line)
  both_far = omega (arith, ap length after, length-take most (before ++ line))

  now_there : Pushed window (length (take most before)) now
  now_there = subst (Pushed window (length (take most before))) (sym so.same) (pushed_there window (take most before) is (omega (arith, both_fit, length-append (take most before) (take some line))) (omega (arith, far, both_far, length-append (take most before) (take some line))))

  -- one more has room
  pub line_room : length (take some line) ≤ room_of now
  line_room = omega (arith, now_there.room, both_fit, length-append (take most before) (take some line))

  -- and a place
  pub line_far : place_of now + length (take some line) ≤ 9223372036854775807
  line_far = omega (arith, now_there.place, far, both_far, length-append (take most before) (take some line))

  -- one more was put
  pub puts_more : PutLines window most (before ++ line) (room - some) (pushed (take some line) now)
  puts_more = record {
    same = ap (pushed (take some line)) so.same ∙ (pushed_twice window (take most before) (take some line) is both_fit ∙ ap (λ (bytes : List ℕ). pushed bytes window) after);
    left = omega (arith, so.left, length-append before line);
  }

module _ (window now : WindowView) (lines : List (List ℕ)) (i most room count : ℕ) (line piece : List ℕ) (is : IsWindow window) (fits : most ≤ room_of window) (far : place_of window + length (joined lines) ≤ 9223372036854775807) (so : PutLines window most (joined (take i lines)) room now) (within : i < length lines) (item : line ≡ get_or lines i line) (same : piece ≡ line) (many : count ≡ min (length piece) room) where
  -- the lines so far and the next have a place
  next_far : place_of window + length (joined (take i lines) ++ line) ≤ 9223372036854775807
  next_far = omega (arith, far, length-append (joined (take i lines)) line, length-joined_parts lines i line within item)

  put_is : take count piece ≡ take (min (length line) room) line
  put_is = ap (λ (n : ℕ). take n piece) many ∙ ap (λ (bytes : List ℕ). take (min (length bytes) room) bytes) same

  -- the next has room
  pub next_room : length (take count piece) ≤ room_of now
  next_room = omega (arith, ap length put_is, line_room window now most (joined (take i lines)) line room is fits next_far so)

  -- and a place
  pub next_placed : place_of now + length (take count piece) ≤ 9223372036854775807
  next_placed = omega (arith, ap length put_is, line_far window now most (joined (take i lines)) line room is fits next_far so)

  -- it was put
  pub next_put : (new : WindowView) → new ≡ pushed (take count piece) now → PutLines window most (joined (take (i + 1) lines)) (room - count) new
  next_put new put =
      let puts : PutLines window most (joined (take i lines) ++ line) (room - min (length line) room) (pushed (take (min (length line) room) line) now) = puts_more window now most (joined (take i lines)) line room is fits next_far so in
      record {
        same = put ∙ (ap (λ (bytes : List ℕ). pushed bytes now) put_is ∙ (puts.same ∙ ap (λ (bytes : List ℕ). pushed (take most bytes) window) (sym (joined_more lines i line within item))));
        left = omega (arith, puts.left, many, ap length same, ap length (joined_more lines i line within item));
      }

-- all lines were put
pub all_put : (window now : WindowView) (lines all : List (List ℕ)) (i most room : ℕ) → PutLines window most (joined (take i lines)) room now → length lines ≤ i → lines ≡ all → now ≡ pushed (take most (joined all)) window
all_put window now lines all i most room so ended given =
    so.same ∙ (ap (λ (some : List (List ℕ)). pushed (take most (joined some)) window) (take_all i lines ended) ∙ ap (λ (some : List (List ℕ)). pushed (take most (joined some)) window) given)
