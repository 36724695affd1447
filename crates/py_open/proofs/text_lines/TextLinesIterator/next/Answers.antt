use Rattle.std.proofs.Common.{◌≡◌, ℕ, List, [], Option, None, Ok, refl, ap, ◌∙◌, subst}
use Rattle.py_flat.specs.Calls.{FileReply, Text}
use Rattle.py_plain_text.specs.TextCalls.{ReadLine}
use Rattle.py_read_text.specs.Answers.{Answers}
use Rattle.py_open.specs.TextAnswers.{text_reply}
use Rattle.py_open.proofs.text_lines.TextLinesIterator.next.Goals as goal

-- an empty line is the end
pub returns-then-has_none-clause-steps : goal.returns-then-has_none-clause-steps
returns-then-has_none-clause-steps g c =
    let none : c.in-Ok-Some.line ≡ [] = c.has_none.ensures.none c.if-has_none.true in
    let said : text_reply c.readline.result ≡ Text [] = ap text_reply c.in-Ok-Some.is ∙ (ap (λ (answer : Option (List ℕ)). text_reply (Ok answer)) c.in-Ok-Some.field-0-is ∙ ap Text none) in (
      refl,
      record {
        ended = λ zero. absurd (c.if-self-eq0.false zero);
        answers = λ some. subst (λ (reply : FileReply). Answers c.args.self.now.text.now (ReadLine None) reply c.readline.new.self) said c.readline.ensures;
        line = tt;
        rest = refl;
      },
    )
