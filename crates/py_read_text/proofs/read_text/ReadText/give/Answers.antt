use Rattle.std.proofs.Common.{length, sym, ap, ◌∙◌, arith}
use Rattle.py_read_text.specs.Knowing.{TextView}
use Rattle.py_read_text.proofs.Holding.{clean_before, given_so}
use Rattle.py_read_text.proofs.read_text.ReadText.give.Goals as goal

pub invariant_of-self-2 : goal.invariant_of-self-2
invariant_of-self-2 g c = given_so _ _ _ _ _ _ c.args.front.chars _ _ _ (λ none. clean_before c.self.inside.dirty c.args.asks (sym c.dirtied-self-inside.ensures ∙ none)) (omega (arith, c.requires.within, ap (λ (view : TextView). length view.held.known) c.self.view_is)) c.in_ok-text.ensures.1 c.self.invariant
