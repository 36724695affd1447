use Rattle.std.proofs.Common.{List, ℕ, ◌++◌, chars, sym, ap, ◌∙◌}
use Rattle.py_text.proofs.EachWritten.{written-each}
use Rattle.py_text.proofs.pushing.push_written_text.Goals as goal

pub returns-in-Ok-clause-ok : goal.returns-in-Ok-clause-ok
returns-in-Ok-clause-ok c =
    c.in-Ok.ensures.ok ∙ ap (λ (t : List ℕ). c.args.out.now.items ++ t) (sym (written-each c.args.coder.errors c.args.coder.encoding c.args.newline (chars c.args.text.now) c.requires.whole))
