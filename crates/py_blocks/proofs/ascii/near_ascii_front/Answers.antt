use Rattle.std.proofs.Common.{◌≡◌, ◌≤◌, ℕ, List, length, take, ap, subst, ◌∙◌, arith}
use Rattle.std.specs.Str.{IsAscii}
use Rattle.std.proofs.lemmas.List.{take-take, length-take}
use Rattle.py_blocks.proofs.ascii.near_ascii_front.Goals as goal

-- a front of a front
front_of : (bytes near : List ℕ) (most front : ℕ) → near ≡ take most bytes → front ≤ length near → IsAscii (take front near) → (front ≤ length bytes) × IsAscii (take front bytes)
front_of bytes near most front is within ascii =
    let inside : front ≤ length (take most bytes) = rw (← is) within in
    (omega (arith, length-take most bytes), subst IsAscii (ap (take front) is ∙ take-take front most bytes (omega (arith, length-take most bytes))) ascii)

pub returns : goal.returns
returns c =
    let both = front_of c.args.bytes.now c.window.result.now _ c.ascii_front.result c.window.ensures c.ascii_front.ensures.within c.ascii_front.ensures.ascii in
    record { within = both.0; ascii = both.1 }
