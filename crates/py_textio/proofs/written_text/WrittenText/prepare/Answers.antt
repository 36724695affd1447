use Rattle.std.specs.Prelude.{vec_capacity, vec_len}
use Rattle.std.proofs.Common.{◌-◌, ap, ◌∙◌}
use Rattle.py_textio.specs.Written.{WrittenView}
use Rattle.py_textio.proofs.Settling.{joined_with}
use Rattle.py_textio.proofs.Giving.{unready_so, unready_written}
use Rattle.py_textio.proofs.written_text.WrittenText.prepare.Goals as goal

pub returns-in-Err-clause-outcome : goal.returns-in-Err-clause-outcome
returns-in-Err-clause-outcome g c =
    unready_so _ _ _ c.self.inside.pending.items (vec_capacity c.self.inside.pending - vec_len c.self.inside.pending) _ _ _ c.in-Err.fault c.self.view_is c.self.invariant.0 c.requires.live c.in-Err.ensures.keeps c.in-Err.ensures.outcome c.life-self-inside.ensures.life

pub returns-in-Err-clause-joined : goal.returns-in-Err-clause-joined
returns-in-Err-clause-joined g c =
    let live = ap (λ (view : WrittenView). view.life) c.self.view_is ∙ c.requires.live in
    let writes = ap (λ (view : WrittenView). view.text.buffer.can.writable) c.self.view_is ∙ c.requires.writes in
    joined_with _ _ 0 _ (unready_written _ _ c.self.inside.pending.items _ _ c.in-Err.fault c.self.invariant.0 live c.in-Err.ensures.keeps c.in-Err.ensures.outcome writes c.life-self-inside.ensures.life c.in-Err.ensures.joined)
