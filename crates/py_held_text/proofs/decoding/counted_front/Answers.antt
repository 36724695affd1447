use Rattle.std.proofs.Common.{arith}
use Rattle.py_plain.specs.Units.{Unknown}
use Rattle.py_plain.specs.Handlers.{treatment}
use Rattle.py_held_text.proofs.Decoded.{part-if, text-if}
use Rattle.py_held_text.proofs.Few.{decoded-few, all-bytes}
use Rattle.py_held_text.proofs.decoding.counted_front.Goals as goal

pub returns-clause-part : goal.returns-clause-part
returns-clause-part g c =
    let treat = treatment c.args.coder.errors c.args.coder.encoding in
    let bytes = c.args.bytes.now in
    let few = decoded-few c.args.coder.errors c.args.coder.encoding c.requires.reads c.args.last Unknown 0 bytes (all-bytes bytes (λ at. omega (arith, c.type_inv.bytes at))) c.args.want in
    part-if c.args.coder.encoding treat c.args.last bytes c.args.want _ _ c.front_text.result few c.front_text.ensures.front

pub returns-clause-text : goal.returns-clause-text
returns-clause-text g c =
    let treat = treatment c.args.coder.errors c.args.coder.encoding in
    text-if c.args.coder.encoding treat c.args.last c.args.bytes.now c.args.want _ _ c.front_text.result c.front_text.ensures.front
