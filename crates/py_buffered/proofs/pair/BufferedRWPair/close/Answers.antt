use Rattle.std.proofs.Common.{◌≡◌, true, false, sym, ◌∙◌, subst}
use Rattle.py_buffered.specs.Pair.{PairView, had_to_wait, ClosesBoth}
use Rattle.py_buffered.proofs.pair.BufferedRWPair.close.Goals as goal

pub returns : goal.returns
returns g c =
    let waits : had_to_wait c.close-first.result ≡ false = sym c.had_to_wait.ensures ∙ c.if-had_to_wait.false in
    subst (λ (old : PairView). ClosesBoth old c.and.result (record { reader = c.close-second.new.self; writer = c.close-first.new.self })) c.self.view_is
    (record {
      first = c.close-first.result;
      writer = c.close-first.ensures.answers;
      taken = c.close-first.ensures.taken;
      waits = λ had. absurd (let wrong : true ≡ false = sym had ∙ waits in cc);
      closes = λ _. record { second = c.close-second.result; reader = c.close-second.ensures.answers; answer = c.and.ensures };
    })
