use Rattle.std.proofs.Common.{arith, ap, length}
use Rattle.py_plain_text.proofs.PlainItems.{front_few}
use Rattle.py_plain_text.proofs.plain_tell.inside.Goals as goal

pub cookie_inside-requires-clause-short : goal.cookie_inside-requires-clause-short
cookie_inside-requires-clause-short c =
    let short = rw c.in-Some.is at c.requires.short in
    omega (arith, ap length c.deref.ensures.value, ap length c.in_ok-whole.ensures, front_few c.args.settings c.args.bytes.now c.in-Some.front short)
