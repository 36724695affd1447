use Rattle.std.proofs.Common.{◌-◌, false, vec_len, vec_capacity, ap, ◌∙◌}
use Rattle.py_plain_text.specs.CookieView.{cookie_shown}
use Rattle.py_textio.specs.Written.{WrittenView}
use Rattle.py_textio.proofs.Seeking.{text_sought, written_sought}
use Rattle.py_textio.proofs.written_text.WrittenText.seek_on.Goals as goal
use Rattle.py_textio.proofs.written_text.WrittenText.seek_on.Goals.{in-Ok, in-Err}

pub invariant_of-self : goal.invariant_of-self
invariant_of-self g c =
    let none = ap (λ (view : WrittenView). view.pending) c.self.view_is ∙ c.requires.none in (
      written_sought _ _ c.self.inside.pending.items _ _ (cookie_shown c.args.goal) c.seek_to-sought.result c.self.invariant.0 none c.life-self-inside.ensures.life c.seek_to-sought.ensures.outcome c.seek_to-sought.ensures.joined,
      λ some. absurd (some none),
    )

pub returns-clause-answers : goal.returns-clause-answers
returns-clause-answers g c =
    let room = vec_capacity c.self.inside.pending - vec_len c.self.inside.pending in elim c.match-sought.branch [
      | in-Ok w ↦ rw w.result-is (text_sought c.args.self.now c.self.inside.text c.seek_to-sought.new.self c.self.inside.pending.items room room _ _ (cookie_shown c.args.goal) _ false c.self.view_is c.self.invariant.0 c.requires.moves.live c.requires.none c.life-self-inside.ensures.life (rw w.in-Ok.is at c.seek_to-sought.ensures.answers))
      | in-Err w ↦ rw w.result-is (text_sought c.args.self.now c.self.inside.text c.seek_to-sought.new.self c.self.inside.pending.items room room _ _ (cookie_shown c.args.goal) _ _ c.self.view_is c.self.invariant.0 c.requires.moves.live c.requires.none c.life-self-inside.ensures.life (rw w.in-Err.is at c.seek_to-sought.ensures.answers))
    ]
