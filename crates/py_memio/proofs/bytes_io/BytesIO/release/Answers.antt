use Rattle.std.proofs.Common.{List, ℕ, ◌≡◌, nat_eq, IsTrue, ap, sym, subst, ◌∙◌}
use Rattle.std.specs.List.{IsDistinct, list_any, remove}
use Rattle.py_memio.specs.InMemory.{file_in_memory}
use Rattle.py_memio.specs.BytesIO.{BytesView, use_refusal, without, released, next_number}
use Rattle.py_memio.proofs.Apart.{apart_without, gone}
use Rattle.py_memio.proofs.Numbers.{any_without, uses_place, releases_place}
use Rattle.py_memio.proofs.bytes_io.BytesIO.release.Goals as goal

-- what is out after it
left : (c : goal.After-remove) → c.remove.new.self.items ≡ without c.args.export.0 c.self.inside.out.items
left c =
    let now = c.args.self.now in
    let number = c.args.export.0 in
    let place = c.in_ok-place.place in
    let same = ap (λ (view : BytesView). view.exports.out) c.self.view_is in
    let used = uses_place (use_refusal now number) now.exports.out number place c.in_ok-place.ensures in
    c.remove.ensures.items ∙ subst (λ (out : List ℕ). remove out place ≡ without number out) (sym same) used.left

pub invariant_of-self : goal.invariant_of-self
invariant_of-self c =
    let number = c.args.export.0 in
    let is = left c in
    record {
      within = c.self.invariant.within;
      number = c.self.invariant.number;
      given = λ own has. c.self.invariant.given own (any_without (λ n. nat_eq n own) number c.self.inside.out.items (subst (λ (out : List ℕ). IsTrue (list_any (λ n. nat_eq n own) out)) is has));
      apart = subst (λ (out : List ℕ). IsDistinct nat_eq out) (sym is) (apart_without number c.self.inside.out.items c.self.invariant.apart);
      shut = λ closed. is ∙ ap (without number) (c.self.invariant.shut closed);
    }

pub returns : goal.returns
returns c =
    let now = c.args.self.now in
    let number = c.args.export.0 in
    let inside = c.self.inside in
    let used = uses_place (use_refusal now number) now.exports.out number c.in_ok-place.place c.in_ok-place.ensures in
    record {
      answer = releases_place (use_refusal now number) now number _ used.accepts (
          ap (λ (out : List ℕ). let view : BytesView = record { file = file_in_memory inside.bytes.items inside.place inside.closed; exports = record { out = out; next = next_number inside.next }; taken = inside.taken } in view) (left c)
          ∙ ap (λ (view : BytesView). released view number) c.self.view_is);
      gone = ap (λ (out : List ℕ). list_any (λ own. nat_eq own number) out) (left c) ∙ gone number inside.out.items c.self.invariant.apart;
    }
