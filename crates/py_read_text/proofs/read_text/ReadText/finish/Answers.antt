use Rattle.std.proofs.Common.{subst}
use Rattle.py_read_text.proofs.Answering.{Holds, tied_of, finishes_enough, finishes_before, finishes_refused}
use Rattle.py_read_text.proofs.read_text.ReadText.finish.Goals as goal

pub returns-in_ok-text-in-Enough-clause-finishes : goal.returns-in_ok-text-in-Enough-clause-finishes
returns-in_ok-text-in-Enough-clause-finishes g c =
    let holds = subst Holds c.self.view_is c.self.invariant in
    let stands = rw c.in-Enough.is at c.requires.stands in
    finishes_enough _ _ c.args.wanted c.in-Enough.front.chars c.in_ok-text-in-Enough.text (holds.reads_by c.requires.reads).newline (tied_of _ c.requires.live c.requires.reads holds) stands.0 (rw c.asks_any.ensures at c.in_ok-text-in-Enough.ensures)

pub returns-in_ok-text-in-Before-clause-finishes : goal.returns-in_ok-text-in-Before-clause-finishes
returns-in_ok-text-in-Before-clause-finishes g c =
    let holds = subst Holds c.self.view_is c.self.invariant in
    let stands = rw c.in-Before.is at c.requires.stands in
    finishes_before _ _ c.args.wanted c.in-Before.front.chars c.in_ok-text-in-Before.text (holds.reads_by c.requires.reads).newline (tied_of _ c.requires.live c.requires.reads holds) stands.0 stands.2 (rw c.asks_any-in-Before.ensures at c.in_ok-text-in-Before.ensures)

pub returns-in-Refuses-clause-finishes : goal.returns-in-Refuses-clause-finishes
returns-in-Refuses-clause-finishes g c =
    let holds = subst Holds c.self.view_is c.self.invariant in
    let stands = rw c.in-Refuses.is at c.requires.stands in
    finishes_refused _ c.args.wanted c.in-Refuses.start c.in-Refuses.end c.requires.reads holds (tied_of _ c.requires.live c.requires.reads holds) stands.2 stands.0 stands.1
