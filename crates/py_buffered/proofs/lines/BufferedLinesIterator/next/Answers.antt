use Rattle.std.proofs.Common.{◌≡◌, [], None, refl, ap, subst}
use Rattle.py_flat.specs.Calls.{FileReply, ReadLine, Bytes}
use Rattle.py_stream.specs.Answers.{Answers}
use Rattle.py_stream.proofs.ReadingOn.{none_counted}
use Rattle.py_buffered.proofs.lines.BufferedLinesIterator.next.Goals as goal

-- an empty line is the end
pub returns-then-is_empty-clause-steps : goal.returns-then-is_empty-clause-steps
returns-then-is_empty-clause-steps g c =
    let none : c.in-Ok-Some.line.items ≡ [] = none_counted c.in-Ok-Some.line.items c.in-Ok-Some.line.len c.is_empty.result c.in-Ok-Some.line.ok.0 c.is_empty.ensures c.if-is_empty.true in (
      refl,
      record {
        ended = λ zero. absurd (c.if-self-eq0.false zero);
        answers = λ some. subst (λ (reply : FileReply). Answers c.args.self.now.reader.now (ReadLine None) reply c.readline.new.self) (ap Bytes none) (rw c.in-Ok-Some.field-0-is at c.in-Ok-Some.ensures);
        line = tt;
        rest = refl;
      },
    )
