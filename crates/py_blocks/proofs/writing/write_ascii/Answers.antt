use Rattle.std.proofs.Common.{◌++◌, chars, length, sym, ap, subst, ◌∙◌}
use Rattle.py_blocks.specs.Writing.{Wrote}
use Rattle.py_blocks.proofs.writing.write_ascii.Goals as goal

pub returns : goal.returns
returns c =
    let front = c.split_ascii.result.0.now in
    let back = c.split_ascii.result.1.now in
    let appended = c.in_ok-extend_from_slice.ensures.items ∙ ap (λ bs. c.args.bytes.now.items ++ bs) c.as_bytes.ensures.value in
    subst (λ bs. Wrote c.args.encoding (chars c.args.text.now) c.args.bytes.now.items bs (length front) (chars back)) (sym appended) (c.split_ascii.ensures.wrote c.args.bytes.now.items)
