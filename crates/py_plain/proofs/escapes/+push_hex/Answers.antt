use Rattle.std.proofs.Common.{arith}
use Rattle.py_plain.proofs.Escaped.{hex_digits-onto}
use Rattle.py_plain.proofs.escapes.+push_hex.Goals as goal

pub returns : goal.returns
returns t c =
    let last = hex_digits-onto c.args.out.now.items c.args.count c.args.value (omega arith) in
    rw (c.in_ok-push.ensures.items, c.in_ok-push_hex.ensures, c.hex_digit.ensures) last
