-- Laying bytes on, by lengthening them and writing over what stands there.
use Rattle.std.proofs.Common.{◌≡◌, ℕ, ◌+◌, ◌-◌, ◌≤◌, List, [], ◌∷◌, ◌++◌, length, take, drop, replicate, refl, suc, zero, arith}
use Rattle.std.proofs.lemmas.List.{take-replicate, drop-replicate, take_all}
use Rattle.std.proofs.lemmas.Grind.{common_steps}
use Rattle.py_flat.specs.Bytes.{filled_to, lay}

-- up to a place within, the bytes with zeros after are the bytes filled up
pub take_widened : (bytes : List ℕ) (place more : ℕ) → place ≤ length bytes + more → take place (bytes ++ replicate more 0) ≡ filled_to bytes place
take_widened [] place more within = grind (arith, common_steps, take-replicate, take_all)
take_widened (byte ∷ bytes) zero more within = grind (arith, common_steps)
take_widened (byte ∷ bytes) (suc place) more within =
    let rest = take_widened bytes place more (omega arith) in
    let left : suc place - suc (length bytes) ≡ place - length bytes = omega arith in
    grind (arith, common_steps)

-- past an end up to which zeros fill some bytes, the bytes with the zeros are the bytes without
pub drop_widened : (bytes : List ℕ) (end more : ℕ) → more ≡ end - length bytes → drop end (bytes ++ replicate more 0) ≡ drop end bytes
drop_widened [] end more gap = grind (arith, common_steps, drop-replicate)
drop_widened (byte ∷ bytes) zero more gap = grind (arith, common_steps)
drop_widened (byte ∷ bytes) (suc end) more gap = drop_widened bytes end more (omega arith)

-- a piece that isn't empty, written over bytes that reach after it, is laid on
pub lay_widened : (bytes : List ℕ) (place : ℕ) (piece : List ℕ) (wide : List ℕ) → 1 ≤ length piece → wide ≡ bytes ++ replicate (place + length piece - length bytes) 0 → take place wide ++ piece ++ drop (place + length piece) wide ≡ lay bytes place piece
lay_widened bytes place [] wide some is = absurd (omega arith)
lay_widened bytes place (byte ∷ more) wide some is =
    let front = take_widened bytes place (place + length (byte ∷ more) - length bytes) (omega arith) in
    let back = drop_widened bytes (place + length (byte ∷ more)) (place + length (byte ∷ more) - length bytes) refl in
    rw (is, front, back)
