use Rattle.std.proofs.Common.{◌≡◌, ◌<◌, rules, nat_eq, IsTrue, List, ℕ, sym, subst, ap}
use Rattle.std.specs.List.{IsDistinct, list_any}
use Rattle.py_memio.specs.BytesIO.{next_number}
use Rattle.py_memio.proofs.Apart.{apart_with, next_is_fresh, given_with}
use Rattle.py_memio.proofs.bytes_io.BytesIO.getbuffer.Goals as goal

pub invariant_of-self-2 : goal.invariant_of-self-2
invariant_of-self-2 c =
    let number = c.in-Some.number in
    let out = c.self.inside.out.items in
    let next = next_number c.checked_add-self-inside.result in
    let is : next_number c.self.inside.next ≡ number = ap next_number c.in-Some.is in
    let given : (own : ℕ) → IsTrue (list_any (λ n. nat_eq n own) out) → own < number = λ own has. subst (λ (bound : ℕ). own < bound) is (c.self.invariant.given own has) in
    let items = c.in_ok-push.ensures.items in
    let below : number < next = search rules in
    record {
      within = c.self.invariant.within;
      number = search rules;
      given = λ own has. given_with number next out given below own (subst (λ (numbers : List ℕ). IsTrue (list_any (λ n. nat_eq n own) numbers)) items has);
      apart = subst (λ (numbers : List ℕ). IsDistinct nat_eq numbers) (sym items) (apart_with number out c.self.invariant.apart (next_is_fresh number out given));
      shut = search rules;
    }
