use Rattle.std.proofs.Common.{◌≡◌, take, ap, ◌∙◌, sym}
use Rattle.std.proofs.lemmas.List.{take_min}
use Rattle.py_buffer.proofs.Gathering.{contiguous_bytes}
use Rattle.py_buffer.proofs.lent.contiguous.Goals as goal

pub returns-then-is_contiguous : goal.returns-then-is_contiguous
returns-then-is_contiguous c =
    let is = c.is_contiguous.ensures.0 c.if-is_contiguous.true in
    let cut : take c.min-len.result c.args.bytes.now ≡ take c.args.desc.now.len c.args.bytes.now = ap (λ n. take n c.args.bytes.now) c.min-len.ensures ∙ take_min c.args.desc.now.len c.args.bytes.now in
    (cut, cut ∙ sym (contiguous_bytes c.args.desc.now c.args.bytes.now c.requires is), is)
