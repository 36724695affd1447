use Rattle.std.proofs.Common.{◌≡◌, false, length, take, sym, ap, ◌∙◌, subst, arith}
use Rattle.py_held_text.specs.Finding.{answer_of}
use Rattle.py_read_text.specs.Knowing.{TextView}
use Rattle.py_read_text.specs.Reading.{asks_all}
use Rattle.py_read_text.proofs.Answering.{Holds, tied_of, finishes_last, finishes_all_of}
use Rattle.py_read_text.proofs.read_text.ReadText.finish_at_end.Goals as goal

pub returns-clause-finishes : goal.returns-clause-finishes
returns-clause-finishes g c =
    let holds = subst Holds c.self.view_is c.self.invariant in
    let stands = c.requires.stands in
    let front = c.find_last-front.ensures in
    let sized : asks_all c.args.wanted ≡ false = sym c.asks_all.ensures ∙ c.if-asks_all.false in
    finishes_last _ _ c.args.wanted c.find_last-front.result.chars c.in_ok-text-2.text (holds.reads_by c.requires.reads).newline (tied_of _ c.requires.live c.requires.reads holds) stands.0 stands.1 stands.2 sized
    (omega (arith, front.front.within, ap (λ (view : TextView). length view.held.known) c.self.view_is))
    (subst (λ (view : TextView). take c.find_last-front.result.chars view.held.known ≡ answer_of c.args.wanted view.held.newline view.held.known) c.self.view_is front.answer)
    (rw c.asks_any.ensures at c.in_ok-text-2.ensures)

pub returns-then-asks_all-clause-finishes : goal.returns-then-asks_all-clause-finishes
returns-then-asks_all-clause-finishes g c =
    let holds = subst Holds c.self.view_is c.self.invariant in
    let stands = c.requires.stands in
    finishes_all_of _ _ c.args.wanted c.in_ok-text.text (sym c.asks_all.ensures ∙ c.if-asks_all.true) (tied_of _ c.requires.live c.requires.reads holds) holds stands.0 stands.1 stands.2 c.in_ok-text.ensures
