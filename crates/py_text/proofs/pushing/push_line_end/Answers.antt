use Rattle.std.proofs.Common.{◌≡◌, ◌++◌, List, ℕ, OnOk, subst}
use Rattle.py_text.specs.EachWritten.{each_encoded}
use Rattle.py_text.proofs.Lines.{lf-text, cr-text, cr-lf-text, end-whole}
use Rattle.py_text.proofs.pushing.push_line_end.Goals as goal

pub push_as_is-requires : goal.push_as_is-requires
push_as_is-requires c = record { whole = end-whole c.args.coder c.args.newline _ (lf-text c.args.newline c.in-Universal.is) }

pub push_as_is-requires-in-Cr : goal.push_as_is-requires-in-Cr
push_as_is-requires-in-Cr c = record { whole = end-whole c.args.coder c.args.newline _ (cr-text c.args.newline c.in-Cr.is) }

pub push_as_is-requires-in-Crlf : goal.push_as_is-requires-in-Crlf
push_as_is-requires-in-Crlf c = record { whole = end-whole c.args.coder c.args.newline _ (cr-lf-text c.args.newline c.in-Crlf.is) }

pub returns-in-Universal : goal.returns-in-Universal
returns-in-Universal c = record {
  ok = subst (λ (end : List ℕ). OnOk c.push_as_is.result (c.push_as_is.new.out.items ≡ c.args.out.now.items ++ each_encoded c.args.coder end)) (lf-text c.args.newline c.in-Universal.is) c.push_as_is.ensures.ok;
  same = c.push_as_is.ensures.same;
  capacity = c.push_as_is.ensures.capacity;
}

pub returns-in-Cr-clause-ok : goal.returns-in-Cr-clause-ok
returns-in-Cr-clause-ok c =
    subst (λ (end : List ℕ). OnOk c.push_as_is-in-Cr.result (c.push_as_is-in-Cr.new.out.items ≡ c.args.out.now.items ++ each_encoded c.args.coder end)) (cr-text c.args.newline c.in-Cr.is) c.push_as_is-in-Cr.ensures.ok

pub returns-in-Crlf-clause-ok : goal.returns-in-Crlf-clause-ok
returns-in-Crlf-clause-ok c =
    subst (λ (end : List ℕ). OnOk c.push_as_is-in-Crlf.result (c.push_as_is-in-Crlf.new.out.items ≡ c.args.out.now.items ++ each_encoded c.args.coder end)) (cr-lf-text c.args.newline c.in-Crlf.is) c.push_as_is-in-Crlf.ensures.ok
