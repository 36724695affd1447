use Rattle.std.proofs.Common.{arith}
use Rattle.py_held_text.proofs.Knowing.{rest-fits}
use Rattle.py_held_text.proofs.known_text.KnownText.len_with_cr.Goals as goal

pub overflow_add-result : goal.overflow_add-result
overflow_add-result c = omega (arith, rest-fits c.self.inside.text c.self.inside.given c.self.invariant.boundary, c.self.invariant.counted)
