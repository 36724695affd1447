use Rattle.std.proofs.Common.{◌≢◌, [], ap, ◌∙◌, arith}
use Rattle.py_plain_text.specs.CookieView.{cookie_shown}
use Rattle.py_textio.specs.Written.{WrittenView}
use Rattle.py_textio.proofs.Settling.{some_pending}
use Rattle.py_textio.proofs.Seeking.{seek_over, seek_stops}
use Rattle.py_textio.proofs.written_text.WrittenText.seek_to.Goals as goal

pub returns-in-Ok-clause-answers : goal.returns-in-Ok-clause-answers
returns-in-Ok-clause-answers g c =
    let some : c.self.inside.pending.items ≢ [] = some_pending _ c.self.inside.pending.items (omega arith) c.if-is_empty.ensures in
    let owes : c.args.self.now.pending ≢ [] = λ none. some (ap (λ (view : WrittenView). view.pending) c.self.view_is ∙ none) in
    seek_over c.args.self.now c.settle.new.self c.seek_on-in-Ok.new.self (cookie_shown c.args.goal) _ _ c.life.ensures.joined c.in-Ok.ensures.joined c.in-Ok.ensures.writes c.requires.moves.live c.in-Ok.ensures.stood c.in-Ok.ensures.there owes c.in-Ok.ensures.outcome c.seek_on-in-Ok.ensures.answers

pub returns-in-Err-clause-answers : goal.returns-in-Err-clause-answers
returns-in-Err-clause-answers g c =
    let some : c.self.inside.pending.items ≢ [] = some_pending _ c.self.inside.pending.items (omega arith) c.if-is_empty.ensures in
    let owes : c.args.self.now.pending ≢ [] = λ none. some (ap (λ (view : WrittenView). view.pending) c.self.view_is ∙ none) in
    rw c.with_taken.ensures (seek_stops c.args.self.now c.settle.new.self (cookie_shown c.args.goal) c.in-Err.fault (record { writes = c.in-Err.ensures.writes; live = c.requires.moves.live; some = owes; stood = c.in-Err.ensures.stood }) c.in-Err.ensures.there c.in-Err.ensures.outcome c.in-Err.ensures.joined)
