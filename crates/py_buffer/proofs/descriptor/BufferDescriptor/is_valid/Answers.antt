use Rattle.std.proofs.Common.{◌≡◌, ◌*◌, ◌<◌, ◌^◌, ap, ◌∙◌, arith, rules}
use Rattle.py_buffer.specs.Descriptor.{items_in}
use Rattle.py_buffer.proofs.descriptor.BufferDescriptor.is_valid.Goals as goal

pub returns-in-None : goal.returns-in-None
returns-in-None c = (
  search rules,
  λ valid.
      let items : c.items_of.result * c.args.self.now.itemsize ≡ c.args.self.now.len = ap (λ n. n * c.args.self.now.itemsize) (c.items_of.ensures ∙ ap items_in c.as_slice-dimensions.ensures.value) ∙ valid.all_bytes in
      let fits : c.args.self.now.len < 2 ^ 64 = search rules in
      absurd (c.in-None.ensures (omega (arith, items, fits))),
)
