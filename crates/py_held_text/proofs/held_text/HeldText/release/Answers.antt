use Rattle.std.proofs.Common.{◌≡◌, ℕ, [], ◌++◌, false, vec_len, vec_capacity, ◌-◌, sym, ap, ◌∙◌, arith}
use Rattle.py_plain.specs.NewlineRule.{read_all}
use Rattle.py_held_text.specs.Held.{HeldView, view_of}
use Rattle.py_held_text.specs.Known.{KnownView, ended}
use Rattle.py_held_text.specs.Plain.{known_of}
use Rattle.py_held_text.proofs.Keeping.{kept-known, kept-released}
use Rattle.py_held_text.proofs.Plain.{own-only, shared-empty}
use Rattle.py_held_text.proofs.held_text.HeldText.release.Goals as goal

pub invariant_of-self : goal.invariant_of-self
invariant_of-self c =
    let inside = c.self.inside in
    let none : inside.plain.bytes ≡ 0 = omega (arith, c.if-self-gt0.false) in
    let items = inside.bytes.items in
    let same = own-only c.release.new.self inside.plain.bytes inside.decoded items none ∙ (c.in_err-release.ensures.same ∙ sym (own-only inside.known inside.plain.bytes inside.decoded items none)) in (
      kept-known inside.coder (known_of inside.known inside.plain.bytes inside.decoded items) (known_of c.release.new.self inside.plain.bytes inside.decoded items) inside.front inside.gone inside.decoded (vec_len inside.bytes) items inside.given inside.mark inside.ended inside.place inside.walked same c.self.invariant.0,
      shared-empty inside.known c.release.new.self inside.plain inside.decoded items none (ap (λ (known : KnownView). known.newline) c.in_err-release.ensures.same) c.self.invariant.1,
    )

pub invariant_of-self-2 : goal.invariant_of-self-2
invariant_of-self-2 c =
    let inside = c.self.inside in
    let none : inside.plain.bytes ≡ 0 = omega (arith, c.if-self-gt0.false) in
    let items = inside.bytes.items in
    let released = own-only c.release.new.self inside.plain.bytes inside.decoded items none ∙ (c.in_ok-release.ensures.released ∙ ap ended (sym (own-only inside.known inside.plain.bytes inside.decoded items none))) in (
      kept-released inside.coder (known_of inside.known inside.plain.bytes inside.decoded items) (known_of c.release.new.self inside.plain.bytes inside.decoded items) inside.front inside.gone inside.decoded (vec_len inside.bytes) (vec_capacity inside.bytes - vec_len inside.bytes) items inside.given inside.mark inside.ended inside.place inside.walked c.args.self.now (sym c.self.view_is) c.requires.stops released c.self.invariant.0,
      shared-empty inside.known c.release.new.self inside.plain inside.decoded items none (ap (λ (known : KnownView). known.newline) c.in_ok-release.ensures.released) c.self.invariant.1,
    )

pub returns-clause-released : goal.returns-clause-released
returns-clause-released c =
    let inside = c.self.inside in
    let none : inside.plain.bytes ≡ 0 = omega (arith, c.if-self-gt0.false) in
    let items = inside.bytes.items in
    let released = own-only c.release.new.self inside.plain.bytes inside.decoded items none ∙ (c.in_ok-release.ensures.released ∙ ap ended (sym (own-only inside.known inside.plain.bytes inside.decoded items none))) in
    ap (λ (known : KnownView). view_of inside.coder known inside.front inside.gone inside.decoded items inside.given inside.mark inside.ended inside.place (vec_capacity inside.bytes - vec_len inside.bytes)) released
    ∙ ap (λ (held : HeldView). let own : HeldView = record held { known = held.known ++ read_all held.newline held.cr []; cr = false } in own) c.self.view_is
