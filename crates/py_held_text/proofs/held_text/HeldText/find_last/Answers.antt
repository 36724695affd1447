use Rattle.std.proofs.Common.{◌≡◌, take, subst, sym, arith}
use Rattle.py_held_text.specs.Held.{HeldView}
use Rattle.py_held_text.specs.Known.{KnownView}
use Rattle.py_held_text.specs.Finding.{answer_of}
use Rattle.py_held_text.proofs.Plain.{own-only}
use Rattle.py_held_text.proofs.held_text.HeldText.find_last.Goals as goal

pub returns-clause-answer : goal.returns-clause-answer
returns-clause-answer c =
    let inside = c.self.inside in
    let front = c.find_last.result in
    subst (λ (held : HeldView). take front.chars held.known ≡ answer_of c.args.wanted held.newline held.known) c.self.view_is
    (subst (λ (known : KnownView). take front.chars known.characters ≡ answer_of c.args.wanted known.newline known.characters) (sym (own-only inside.known inside.plain.bytes inside.decoded inside.bytes.items (omega (arith, c.if-self-gt0.false)))) c.find_last.ensures.answer)
