use Rattle.std.proofs.Common.{false, subst, sym, refl, ◌∙◌}
use Rattle.py_flat.specs.declared.life.Life.TheVariants as life
use Rattle.py_flat.specs.declared.fault.IoFault.TheVariants as fault
use Rattle.py_flat.specs.Calls.{Cookie}
use Rattle.py_plain_text.specs.Cookie.{cookie_bytes}
use Rattle.py_plain_text.specs.CookieView.{cookie_shown}
use Rattle.py_plain_text.specs.TextCalls.{Tell}
use Rattle.py_read_text.specs.Answers.{Answers}
use Rattle.py_textio.specs.Written.{WrittenView, state_of}
use Rattle.py_textio.proofs.Telling.{untold_by_life, untold, tell_answers}
use Rattle.py_textio.proofs.attached_text.AttachedText.tell.Goals as goal

pub returns-in-Live-clause-answers : goal.returns-in-Live-clause-answers
returns-in-Live-clause-answers g c =
    subst (λ (text : WrittenView). Answers c.args.self.now Tell (Cookie (cookie_bytes (cookie_shown c.tell.result))) (state_of text false)) (sym c.tell.ensures.same)
    (tell_answers _ c.self.inside.text c.self.inside.short c.tell.result c.self.view_is (sym c.in-Live.ensures.life) (sym c.seekable.ensures ∙ c.if-seekable.true) c.life.ensures.joined c.tell.ensures.tells)

pub returns-in-Live-2-clause-answers : goal.returns-in-Live-2-clause-answers
returns-in-Live-2-clause-answers g c = untold _ c.self.inside.text c.self.inside.short c.self.view_is (sym c.in-Live-2.ensures.life) (sym c.seekable.ensures ∙ c.if-seekable.false) c.life.ensures.joined

pub returns-in-Failed-clause-answers : goal.returns-in-Failed-clause-answers
returns-in-Failed-clause-answers g c = untold_by_life _ c.self.inside.text c.self.inside.short life.Failed fault.Failed c.self.view_is (sym c.in-Failed.ensures.life) refl c.life.ensures.joined

pub returns-in-Closed-clause-answers : goal.returns-in-Closed-clause-answers
returns-in-Closed-clause-answers g c = untold_by_life _ c.self.inside.text c.self.inside.short life.Closed fault.Closed c.self.view_is (sym c.in-Closed.ensures.life) refl c.life.ensures.joined

pub returns-in-Detached-clause-answers : goal.returns-in-Detached-clause-answers
returns-in-Detached-clause-answers g c = untold_by_life _ c.self.inside.text c.self.inside.short life.Detached fault.Detached c.self.view_is (sym c.in-Detached.ensures.life) refl c.life.ensures.joined
