use Rattle.std.proofs.Common.{◌≡◌, length, ap, ◌∙◌, subst, arith}
use Rattle.py_read_text.specs.Knowing.{TextView}
use Rattle.py_read_text.proofs.Answering.{Holds, finishes_short, finishes_unready, all_of, some_of, none_of}
use Rattle.py_read_text.proofs.read_text.ReadText.finish_short.Goals as goal

pub returns-clause-finishes : goal.returns-clause-finishes
returns-clause-finishes g c =
    let holds = subst Holds c.self.view_is c.self.invariant in
    let stands = c.requires.stands in
    let front = c.find_last-front.ensures in
    let size : c.find_last-front.result.chars ≡ length c.args.self.now.held.known = all_of c.self.inside.held.known c.find_last-front.result.chars front.front.within front.answer ∙ ap (λ (view : TextView). length view.held.known) c.self.view_is in
    let some = some_of c.args.self.now.held.known c.find_last-front.result.chars size (λ zero. absurd (grind (arith, c.if-front-eq0.false))) in
    finishes_short _ _ c.args.wanted c.find_last-front.result.chars c.in_ok-text.text c.requires.live c.requires.reads holds stands.0 stands.1 stands.2 size some c.in_ok-text.ensures

pub returns-then-front-eq0-clause-finishes : goal.returns-then-front-eq0-clause-finishes
returns-then-front-eq0-clause-finishes g c =
    let holds = subst Holds c.self.view_is c.self.invariant in
    let stands = c.requires.stands in
    let front = c.find_last-front.ensures in
    let size : c.find_last-front.result.chars ≡ length c.args.self.now.held.known = all_of c.self.inside.held.known c.find_last-front.result.chars front.front.within front.answer ∙ ap (λ (view : TextView). length view.held.known) c.self.view_is in
    finishes_unready _ c.args.wanted c.requires.live c.requires.reads holds (none_of c.args.self.now.held.known c.find_last-front.result.chars size (grind (arith, c.if-front-eq0.true))) stands.1 stands.2
