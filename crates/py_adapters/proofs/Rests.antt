-- What a loan leaves once it ends, said more weakly.
use Rattle.std.specs.Borrow.{RattleType, MutBor}
use Rattle.std.specs.Prelude.{⊤, []}
use Rattle.std.specs.Io.BufRead.{Rests}
use seplogic.Ra.Ura.{Ura}
use base.Logic.{SProp, ent, sep, emp, id⊢, via, mono_r, fst∗, ex_i, ex_e}
use contract.Monad.{fact, fact_i}
use types.Logic.{Logic, sem}
use borrow.Fn.Refines.{Gives, Turns, by_parts}
use denote.Follow.{follows_if, such_by}
use mathlib.Core.Option.{none}

-- what holds of two facts holds of the first
pub rests_first : {M : Type 1} {𝓤 : Ura M} (𝓛 : Logic 𝓤) (R : RattleType) (s : MutBor R.Denot) (P Q : R.Denot → Type 0) → ent 𝓤 (sem 𝓛 (Rests R s (λ new. P new × Q new))) (sem 𝓛 (Rests R s P))
unfolding such_by
rests_first {𝓤 = 𝓤} 𝓛 R s P Q = ex_e 𝓤 _ (λ both. ex_i 𝓤 (λ (one : (p : (R.Denot → R.Denot) × R.Denot) × ((w : R.Denot) → ⊤) × P p.1). sem 𝓛 (follows_if R R s.ghost_name none one.0.0 one.0.1)) (both.0, both.1, both.2.0))

-- two facts stay, one is let go of, and what is held between them is said more weakly
pub held_weaker : {M : Type 1} (𝓤 : Ura M) (A B C : Type 0) (P Q : SProp 𝓤) → ent 𝓤 P Q → ent 𝓤 (sep 𝓤 (fact 𝓤 A) (sep 𝓤 (fact 𝓤 B) (sep 𝓤 P (fact 𝓤 C)))) (sep 𝓤 (fact 𝓤 A) (sep 𝓤 (fact 𝓤 B) Q))
held_weaker 𝓤 A B C P Q less = mono_r 𝓤 (fact 𝓤 A) (mono_r 𝓤 (fact 𝓤 B) (via 𝓤 P (fst∗ 𝓤 P (fact 𝓤 C)) less))

-- a method that asks nothing meets its trait's contract, where what it ensures gives what that ensures
pub turns : {M : Type 1} (𝓤 : Ura M) (R X : Type 0) (D D' : R → X → SProp 𝓤) → ((r : R) (e : X) → ent 𝓤 (D r e) (D' r e)) → Gives 𝓤 (emp 𝓤) (Unit {0}) (λ g. emp 𝓤) (λ g. Turns 𝓤 R X D D')
turns 𝓤 R X D D' less =
    by_parts 𝓤 [] [] (emp 𝓤) (emp 𝓤) R X (λ r e. []) (λ r e. []) D D' (fact_i 𝓤 (Unit {0}) (emp 𝓤) tt) (λ none. id⊢ 𝓤 (emp 𝓤)) (λ r e. fact_i 𝓤 (Unit {0}) (D r e) tt) (λ r e none. less r e) (λ none. tt) (λ none r e known. tt)
