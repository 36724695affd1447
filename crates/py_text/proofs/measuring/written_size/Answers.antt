use Rattle.std.proofs.Common.{◌≡◌, ◌*◌, ◌≤◌, ◌⊎◌, ℕ, chars, length, sym, ap, subst}
use Rattle.py_text.proofs.EachWritten.{written-each}
use Rattle.py_text.proofs.measuring.written_size.Goals as goal

pub returns-clause-most : goal.returns-clause-most
returns-clause-most c =
    subst (λ (count : ℕ). count ≤ c.length_within.result) (ap length (sym (written-each c.args.coder.errors c.args.coder.encoding c.args.newline (chars c.args.text.now) c.in_default.ensures))) c.length_within.ensures.most

pub returns-clause-bytes : goal.returns-clause-bytes
returns-clause-bytes c =
    subst (λ (count : ℕ). (c.length_within.result ≤ c.args.room) ⊎ (c.length_within.result ≡ count)) (ap length (sym (written-each c.args.coder.errors c.args.coder.encoding c.args.newline (chars c.args.text.now) c.in_default.ensures))) c.length_within.ensures.bytes

pub returns-clause-few : goal.returns-clause-few
returns-clause-few c =
    subst (λ (count : ℕ). c.length_within.result ≤ 2 * count) (ap length (sym (written-each c.args.coder.errors c.args.coder.encoding c.args.newline (chars c.args.text.now) c.in_default.ensures))) c.length_within.ensures.few
