use Rattle.std.proofs.Common.{◌≡◌, ℕ, ◌+◌, ◌≤◌, List, ◌∷◌, chars, length, drop, sym, ap, ◌∙◌, arith}
use Rattle.std.proofs.lemmas.List.{drop-drop, length-drop}
use Rattle.py_codec.proofs.encoding.without_front.Goals as goal

-- what is left after one character more
drop-next : (cs left behind : List ℕ) (n c : ℕ) → left ≡ drop n cs → left ≡ c ∷ behind → (behind ≡ drop (n + 1) cs) × (n + 1 ≤ length cs)
drop-next cs left behind n c is split =
    (ap (λ xs. drop 1 xs) (sym split ∙ is) ∙ drop-drop 1 n cs, omega (arith, ap length (sym split ∙ is), length-drop n cs))

pub returns-in_default-clause-behind : goal.returns-in_default-clause-behind
returns-in_default-clause-behind c =
    let text = chars c.args.text.now in
    omega (arith, ap length (sym c.in_default.ensures.parts ∙ c.loop.invariant.rest), length-drop c.loop.counter text)

pub loop-preserved : goal.loop-preserved
loop-preserved c =
    let next = drop-next (chars c.args.text.now) (chars c.loop.left.now) (chars c.in-Some.behind.now) c.loop.counter c.in-Some.field-0-0 c.loop.invariant.rest c.in-Some.ensures.parts in
    record { is_text = c.in-Some.ensures.utf8; rest = next.0; within = next.1 }
