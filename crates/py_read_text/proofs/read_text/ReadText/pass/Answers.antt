use Rattle.std.proofs.Common.{◌≡◌, ◌+◌, ap, ◌∙◌, sym, arith}
use Rattle.py_stream.specs.Replies.{count_reply}
use Rattle.py_read_text.specs.Knowing.{TextView}
use Rattle.py_read_text.proofs.Placing.{text_passed}
use Rattle.py_read_text.proofs.read_text.ReadText.pass.Goals as goal

pub invariant_of-self : goal.invariant_of-self
invariant_of-self g c =
    let none = ap (λ (view : TextView). view.taken) c.self.view_is ∙ c.requires.clean.taken in
    let clean = ap (λ (view : TextView). view.dirty) c.self.view_is ∙ c.requires.clean.dirty in
    let stands = ap (λ (view : TextView). view.at) c.self.view_is ∙ (c.requires.stands ∙ sym (ap (λ (view : TextView). view.buffer.place) c.self.view_is)) in
    let takes = c.write-answer.ensures.buffer.owes.takes c.self.invariant.owes in
    let there : c.self.inside.at + c.taken.result ≡ (g.B.BufferedStream.shows c.write-answer.new.self).place = omega (arith, stands, c.taken.ensures, c.write-answer.ensures.buffer.taken, takes.place) in
    text_passed _ _ c.self.inside.held _ _ c.self.inside.at c.self.inside.taken c.self.inside.dirty _ c.args.bytes.now (count_reply c.write-answer.result) _ c.write-answer.ensures.buffer takes there c.clear.ensures.cleared none clean c.self.invariant
