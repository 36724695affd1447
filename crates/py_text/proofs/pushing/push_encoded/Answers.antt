use Rattle.std.proofs.Common.{rules, ◌≡◌, List, ℕ, ◌++◌, OnOk, chars, subst, ◌∙◌}
use Rattle.py_text.proofs.EachWritten.{no_meaning, encoded-each}
use Rattle.py_text.proofs.Refused.{written-bytes}
use Rattle.py_text.proofs.pushing.push_encoded.Goals as goal

pub returns-in-Ok-clause-ok : goal.returns-in-Ok-clause-ok
returns-in-Ok-clause-ok c =
    let own = written-bytes no_meaning c.args.coder.errors c.args.coder.encoding (chars c.args.text.now) c.in-Ok.bytes.items c.in-Ok.field-0-1 c.in-Ok.ensures.answer in
    let each = encoded-each c.args.coder.errors c.args.coder.encoding (chars c.args.text.now) c.requires.whole in
    let appended : OnOk c.extend_from_slice.result (c.extend_from_slice.new.self.items ≡ c.args.out.now.items ++ c.deref.result.now) = search rules in
    subst (λ (bytes : List ℕ). OnOk c.extend_from_slice.result (c.extend_from_slice.new.self.items ≡ c.args.out.now.items ++ bytes)) (c.deref.ensures.value ∙ (own ∙ each)) appended
