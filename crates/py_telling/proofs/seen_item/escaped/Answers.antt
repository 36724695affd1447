use Rattle.std.proofs.Common.{subst, List, ℕ, ◌*◌, length, take, arith}
use Rattle.std.proofs.lemmas.List.{length-take-le}
use Rattle.py_plain.specs.Handlers.{escaped}
use Rattle.py_plain.specs.Items.{item_handled}
use Rattle.py_telling.specs.declared.seen_item.SeenItem.TheVariants as seen
use Rattle.py_telling.specs.Seen.{Shows}
use Rattle.py_telling.proofs.Ranges.{each_taken, escaped_shown}
use Rattle.py_telling.proofs.seen_item.escaped.Goals as goal

pub returns-clause-shown : goal.returns-clause-shown
returns-clause-shown c =
    let range : List ℕ = c.args.range.now in
    let used : ℕ = c.count_past_ascii-used.result in
    subst (λ (front : List ℕ). Shows (item_handled (length range) (escaped front)) (seen.Replaced (6 * used) used)) c.count_past_ascii-used.ensures.front
    (escaped_shown (length range) (take used range) used (length-take-le used range c.count_past_ascii-used.ensures.within) (omega arith)
    (each_taken used range (λ at. omega (arith, c.type_inv.range at))))
