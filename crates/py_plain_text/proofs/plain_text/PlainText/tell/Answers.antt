use Rattle.std.proofs.Common.{Ok, subst}
use Rattle.py_plain_text.specs.TextFile.{TextFile}
use Rattle.py_plain_text.specs.TextCalls.{Tell}
use Rattle.py_plain_text.specs.PlainSteps.{PlainAnswer}
use Rattle.py_plain_text.specs.PlainCookies.{cookie_reply}
use Rattle.py_plain_text.proofs.PlainAnswers.{tells}
use Rattle.py_plain_text.proofs.plain_text.PlainText.tell.Goals as goal

pub returns-in-Ok : goal.returns-in-Ok
returns-in-Ok c =
    subst (λ (f : TextFile). PlainAnswer f Tell (cookie_reply (Ok c.in-Ok.cookie)) f) c.self.view_is
    (tells c.self.inside c.deref.result.now c.in-Ok.cookie c.if-self.false c.deref.ensures.value c.in-Ok.ensures)
