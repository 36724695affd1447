-- A range of a buffer: the bytes that it holds.
use Rattle.std.proofs.Common.{◌≡◌, ℕ, ◌+◌, ◌-◌, ◌≤◌, max, List, ◌++◌, length, take, drop, sym, ap, ◌∙◌, arith}
use Rattle.std.specs.List.{copy_within}
use Rattle.std.proofs.Math.Seq.{take-append-add}
use Rattle.std.proofs.Math.ListN.{drop_of_length-le}
use Rattle.std.proofs.lemmas.Bool.{cases_lt}
use Rattle.std.proofs.lemmas.List.{length-drop, length-take, length-take-le, take-take, drop-take}
use Rattle.std.proofs.lemmas.List.Edits.{take-paste}
use Rattle.py_window.specs.Window.{pasted}

-- up to an end, without what stands before a start
pub from_start : (items : List ℕ) (start end : ℕ) → start ≤ end → drop start (take end items) ≡ take (end - start) (drop start items)
from_start items start end ordered =
    let sum : end ≡ start + (end - start) = omega arith in
    ap (λ (n : ℕ). drop start (take n items)) sum ∙ drop-take start (end - start) items

-- what stands after a start and up to an end is nothing where the end lies before the start
pub from_past : (items : List ℕ) (start end : ℕ) → end ≤ start → drop start (take end items) ≡ take (end - start) (drop start items)
from_past items start end past = grind (arith, drop_of_length-le, length-take)

-- what stands after a start and up to an end, whichever comes first
pub from_either : (items : List ℕ) (start end : ℕ) → drop start (take end items) ≡ take (end - start) (drop start items)
from_either items start end = grind (arith, from_start, from_past, cases_lt)

-- the held bytes moved to the front of the buffer, without those before a start
pub moved_to_front : (items : List ℕ) (start end : ℕ) → start ≤ end → end ≤ length items → take (end - start) (copy_within items start end 0) ≡ drop start (take end items)
moved_to_front items start end ordered within =
    ap (λ (n : ℕ). take n (copy_within items start end 0)) (omega arith)
    ∙ take-paste items 0 (drop start items) (end - start) (omega arith) (omega (arith, length-drop start items))
    ∙ sym (from_start items start end ordered)

-- bytes put over a buffer's, and then held up to their end or what was held before, whichever lies further on
pub held_pasted : (items bytes : List ℕ) (cursor end : ℕ) → cursor ≤ end → end ≤ length items → take (max end (cursor + length bytes)) (pasted items cursor bytes) ≡ pasted (take end items) cursor bytes
held_pasted items bytes cursor end within fits =
    let after : ℕ = cursor + length bytes in
    let front : List ℕ = take cursor items in
    let rest : List ℕ = drop after items in
    ap (λ (n : ℕ). take n (front ++ (bytes ++ rest))) (omega (arith, (length-take-le cursor items (omega arith))))
    ∙ (take-append-add front (bytes ++ rest) (length bytes + (end - after))
    ∙ (ap (λ (xs : List ℕ). front ++ xs) (take-append-add bytes rest (end - after))
    ∙ (ap (λ (xs : List ℕ). front ++ (bytes ++ xs)) (sym (from_either items after end))
    ∙ ap (λ (xs : List ℕ). xs ++ (bytes ++ drop after (take end items))) (sym (take-take cursor end items within)))))
