use Rattle.std.proofs.Common.{sym, ◌∙◌}
use Rattle.py_flat.specs.declared.life.Life.TheVariants as life
use Rattle.py_textio.proofs.Refusing.{refused_other}
use Rattle.py_textio.proofs.attached_text.AttachedText.refuse.Goals as goal
use Rattle.py_textio.proofs.attached_text.AttachedText.refuse.Goals.{in-Live, in-Failed, in-Closed, in-Detached}

pub returns : goal.returns
returns g c = elim c.match-life.branch [
  | in-Live w ↦ refused_other _ c.self.inside.text _ life.Live _ c.self.view_is (sym c.life.ensures.life ∙ w.in-Live.is) w.result-is c.life.ensures.joined
  | in-Failed w ↦ refused_other _ c.self.inside.text _ life.Failed _ c.self.view_is (sym c.life.ensures.life ∙ w.in-Failed.is) w.result-is c.life.ensures.joined
  | in-Closed w ↦ refused_other _ c.self.inside.text _ life.Closed _ c.self.view_is (sym c.life.ensures.life ∙ w.in-Closed.is) w.result-is c.life.ensures.joined
  | in-Detached w ↦ refused_other _ c.self.inside.text _ life.Detached _ c.self.view_is (sym c.life.ensures.life ∙ w.in-Detached.is) w.result-is c.life.ensures.joined
]
