use Rattle.std.proofs.Common.{◌≡◌, ◌++◌, List, ℕ, chars, length, take, sym, subst, OnOk}
use Rattle.py_text.proofs.Lines.{keeps-each, three-keep, same-kept, on-err}
use Rattle.py_text.proofs.pushing.push_text.Goals as goal

pub returns-in-Universal : goal.returns-in-Universal
returns-in-Universal c =
    let before = c.args.out.now.items in
    let after = c.push_as_is.new.out.items in
    record {
      ok = subst (λ (bytes : List ℕ). OnOk c.push_as_is.result (after ≡ before ++ bytes)) (sym (keeps-each c.args.coder c.args.newline (chars c.args.text.now) (three-keep c.args.newline c.in-Universal.is))) c.push_as_is.ensures.ok;
      kept = on-err c.push_as_is.result (after ≡ before) (take (length before) after ≡ before) (same-kept before after) c.push_as_is.ensures.same;
      capacity = c.push_as_is.ensures.capacity;
    }
