use Rattle.std.proofs.Common.{◌≡◌, ℕ, List, Option, Some, None, ap, sym, subst, ◌∙◌}
use Rattle.py_memio.specs.BytesIO.{BytesView, is_out}
use Rattle.py_memio.proofs.Numbers.{FoundIn, found_in, used_found, used_unfound}
use Rattle.py_memio.proofs.bytes_io.BytesIO.place_of.Goals as goal

pub returns-in-Some : goal.returns-in-Some
returns-in-Some c =
    let number = c.args.export.0 in
    let now = c.args.self.now in
    let place = c.in-Some.place in
    let same : c.deref.result.now ≡ now.exports.out = c.deref.ensures.value ∙ ap (λ (view : BytesView). view.exports.out) c.self.view_is in
    let here = subst (λ (found : Option ℕ). FoundIn found c.deref.result.now number) (sym c.in-Some.ensures) (found_in number c.deref.result.now) in
    let found = subst (λ (out : List ℕ). FoundIn (Some place) out number) same here in
    used_found now.file.life (is_out now.exports number) now.exports.out number place c.in_ok-check_open.ensures found.0 found.1 found.2

pub returns-in-None : goal.returns-in-None
returns-in-None c =
    let number = c.args.export.0 in
    let now = c.args.self.now in
    let same : c.deref.result.now ≡ now.exports.out = c.deref.ensures.value ∙ ap (λ (view : BytesView). view.exports.out) c.self.view_is in
    let here = subst (λ (found : Option ℕ). FoundIn found c.deref.result.now number) (sym c.in-None.ensures) (found_in number c.deref.result.now) in
    let found = subst (λ (out : List ℕ). FoundIn None out number) same here in
    used_unfound now.file.life (is_out now.exports number) now.exports.out number c.in_ok-check_open.ensures found
