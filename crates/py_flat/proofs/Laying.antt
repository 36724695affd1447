-- Bytes laid on a list, by its three parts: what stands before the place, the bytes, and what stands after them.
use Rattle.std.proofs.Common.{◌≡◌, ℕ, ◌+◌, ◌-◌, ◌<◌, ◌≤◌, max, List, [], ◌∷◌, ◌++◌, length, take, drop, replicate, refl, sym, ◌∙◌, ap, subst, arith, append_assoc, length-append, length-drop, length-take, add_assoc, add-zero}
use Rattle.std.proofs.Math.Seq.{take-append-add, drop-append-add, take-add}
use Rattle.std.proofs.lemmas.List.{length-replicate, length-take-le, take_at, drop_at, take_all, take-append-le, take-append-drop, drop-drop, append-nil}
use Rattle.py_flat.specs.Bytes.{filled_to, lay}

-- the bytes up to a place are as many as it says
pub length-filled_to : (bytes : List ℕ) (place : ℕ) → length (filled_to bytes place) ≡ place
length-filled_to bytes place = omega (arith, length-append (take place bytes) (replicate (place - length bytes) 0), length-take place bytes, length-replicate {A = ℕ} (place - length bytes) 0)

-- a list that reaches a place needs no zeros up to it
pub filled_within : (bytes : List ℕ) (place : ℕ) → place ≤ length bytes → filled_to bytes place ≡ take place bytes
filled_within bytes place reaches = let none : place - length bytes ≡ 0 = omega arith in rw none (append-nil (take place bytes))

-- the three parts, where at least one byte is laid
pub lay_parts : (bytes : List ℕ) (place : ℕ) (laid : List ℕ) → 0 < length laid → lay bytes place laid ≡ filled_to bytes place ++ (laid ++ drop (place + length laid) bytes)
lay_parts bytes place [] some = absurd (omega arith)
lay_parts bytes place (byte ∷ more) some = append_assoc (filled_to bytes place) (byte ∷ more) _

pub length-lay : (bytes : List ℕ) (place : ℕ) (laid : List ℕ) → 0 < length laid → length (lay bytes place laid) ≡ max (length bytes) (place + length laid)
length-lay bytes place laid some = rw (lay_parts bytes place laid some) (omega (arith, length-append (filled_to bytes place) (laid ++ drop (place + length laid) bytes), length-append laid (drop (place + length laid) bytes), length-filled_to bytes place, length-drop (place + length laid) bytes))

-- what stands up to a place among the laid bytes
pub take_laid : (bytes : List ℕ) (place : ℕ) (laid : List ℕ) (count : ℕ) → 0 < length laid → count ≤ length laid → take (place + count) (lay bytes place laid) ≡ filled_to bytes place ++ take count laid
take_laid bytes place laid count some within =
    let e = take-append-add (filled_to bytes place) (laid ++ drop (place + length laid) bytes) count in
    rw (lay_parts bytes place laid some) (rw (length-filled_to bytes place) at e ∙ ap (λ t. filled_to bytes place ++ t) (take-append-le count laid _ within))

pub filled_laid : (bytes : List ℕ) (place : ℕ) (laid : List ℕ) (count : ℕ) → 0 < length laid → count ≤ length laid → filled_to (lay bytes place laid) (place + count) ≡ filled_to bytes place ++ take count laid
filled_laid bytes place laid count some within = filled_within (lay bytes place laid) (place + count) (omega (arith, length-lay bytes place laid some)) ∙ take_laid bytes place laid count some within

drop_behind : (bytes : List ℕ) (place : ℕ) (laid : List ℕ) (more : ℕ) → 0 < length laid → drop (place + (length laid + more)) (lay bytes place laid) ≡ drop (place + (length laid + more)) bytes
drop_behind bytes place laid more some =
    let rest : List ℕ = drop (place + length laid) bytes in
    let e = drop-append-add (filled_to bytes place) (laid ++ rest) (length laid + more) in
    rw (lay_parts bytes place laid some) (rw (length-filled_to bytes place) at e ∙ drop-append-add laid rest more ∙ drop-drop more (place + length laid) bytes ∙ ap (λ n. drop n bytes) (add_assoc place (length laid) more))

-- what stands after the laid bytes
pub drop_laid : (bytes : List ℕ) (place : ℕ) (laid : List ℕ) (count : ℕ) → length laid ≤ count → drop (place + count) (lay bytes place laid) ≡ drop (place + count) bytes
drop_laid bytes place [] count past = refl
drop_laid bytes place (byte ∷ more) count past =
    let laid : List ℕ = byte ∷ more in
    let e : length laid + (count - length laid) ≡ count = omega arith in
    subst (λ (n : ℕ). drop (place + n) (lay bytes place laid) ≡ drop (place + n) bytes) e (drop_behind bytes place laid (count - length laid) (omega arith))

lay_some_behind : (bytes : List ℕ) (place : ℕ) (first second : List ℕ) → 0 < length first → 0 < length second → lay (lay bytes place first) (place + length first) second ≡ lay bytes place (first ++ second)
lay_some_behind bytes place first second some more =
    let front : filled_to (lay bytes place first) (place + length first) ≡ filled_to bytes place ++ first =
    filled_laid bytes place first (length first) some (omega arith) ∙ ap (λ t. filled_to bytes place ++ t) (take_all (length first) first (omega arith)) in
    let back : drop (place + length first + length second) (lay bytes place first) ≡ drop (place + length (first ++ second)) bytes =
    rw (add_assoc place (length first) (length second), length-append first second) (drop_laid bytes place first (length first + length second) (omega arith)) in
    rw (lay_parts (lay bytes place first) (place + length first) second more, front, back, lay_parts bytes place (first ++ second) (omega (arith, length-append first second)))
    (append_assoc (filled_to bytes place) first _ ∙ ap (λ t. filled_to bytes place ++ t) (sym (append_assoc first second _)))

-- a piece laid right after another
pub lay_behind : (bytes : List ℕ) (place : ℕ) (first second : List ℕ) → lay (lay bytes place first) (place + length first) second ≡ lay bytes place (first ++ second)
lay_behind bytes place [] second = ap (λ p. lay bytes p second) (add-zero place)
lay_behind bytes place (byte ∷ first) [] = ap (lay bytes place) (sym (append-nil (byte ∷ first)))
lay_behind bytes place (byte ∷ first) (next ∷ second) = lay_some_behind bytes place (byte ∷ first) (next ∷ second) (omega arith) (omega arith)

lay_over_some : (bytes : List ℕ) (place : ℕ) (old new : List ℕ) → 0 < length old → length old ≤ length new → lay (lay bytes place old) place new ≡ lay bytes place new
lay_over_some bytes place old new some covers =
    let e = filled_laid bytes place old 0 some (omega arith) in
    let front : filled_to (lay bytes place old) place ≡ filled_to bytes place = rw (add-zero place) at e ∙ append-nil (filled_to bytes place) in
    rw (lay_parts (lay bytes place old) place new (omega arith), front, drop_laid bytes place old (length new) covers) (sym (lay_parts bytes place new (omega arith)))

-- a piece laid over one that isn't longer
pub lay_over : (bytes : List ℕ) (place : ℕ) (old new : List ℕ) → length old ≤ length new → lay (lay bytes place old) place new ≡ lay bytes place new
lay_over bytes place [] new covers = refl
lay_over bytes place (byte ∷ old) new covers = lay_over_some bytes place (byte ∷ old) new (omega arith) covers

lay_resumes_parts : (bytes : List ℕ) (place : ℕ) (front middle rest : List ℕ) → length middle ≤ length rest → lay (lay bytes place (front ++ middle)) (place + length front) rest ≡ lay bytes place (front ++ rest)
lay_resumes_parts bytes place front middle rest covers = ap (λ t. lay t (place + length front) rest) (sym (lay_behind bytes place front middle)) ∙ lay_over (lay bytes place front) (place + length front) middle rest covers ∙ lay_behind bytes place front rest

-- a front that was laid, and then all from somewhere within it
pub lay_resumes : (bytes : List ℕ) (place : ℕ) (laid : List ℕ) (kept done : ℕ) → kept ≤ done → done ≤ length laid → lay (lay bytes place (take done laid)) (place + kept) (drop kept laid) ≡ lay bytes place laid
lay_resumes bytes place laid kept done fits within =
    let middle : List ℕ = take (done - kept) (drop kept laid) in
    let parts : take kept laid ++ middle ≡ take done laid = sym (take-add kept (done - kept) laid) ∙ ap (λ n. take n laid) (omega arith) in
    let e = lay_resumes_parts bytes place (take kept laid) middle (drop kept laid) (omega (arith, length-take (done - kept) (drop kept laid))) in
    rw (parts, length-take-le kept laid (omega arith), take-append-drop kept laid) at e

lay_some_reads_back : (bytes : List ℕ) (place : ℕ) (laid : List ℕ) → 0 < length laid → take (length laid) (drop place (lay bytes place laid)) ≡ laid
lay_some_reads_back bytes place laid some = rw (lay_parts bytes place laid some, drop_at (filled_to bytes place) _ place (length-filled_to bytes place)) (take_at laid _ (length laid) refl)

-- what was laid is read back
pub lay_reads_back : (bytes : List ℕ) (place : ℕ) (laid : List ℕ) → take (length laid) (drop place (lay bytes place laid)) ≡ laid
lay_reads_back bytes place [] = refl
lay_reads_back bytes place (byte ∷ more) = lay_some_reads_back bytes place (byte ∷ more) (omega arith)
