use Rattle.std.proofs.Common.{List, ℕ, take, length, ◌≡◌, ◌-◌, ◌≤◌, vec_len, vec_capacity, drop, refl, ap, subst, ◌∙◌, arith}
use Rattle.py_held_text.specs.Held.{HeldView, given_on}
use Rattle.py_held_text.specs.Known.{KnownView}
use Rattle.py_held_text.specs.Plain.{known_of, IsShared}
use Rattle.py_held_text.proofs.Backing.{given-by}
use Rattle.py_held_text.proofs.Keeping.{kept-given}
use Rattle.py_held_text.proofs.Storing.{stored-known}
use Rattle.py_held_text.proofs.held_text.HeldText.give.Goals as goal

pub invariant_of-self : goal.invariant_of-self
invariant_of-self c =
    let inside = c.self.inside in
    stored-known inside.coder inside.known c.give_known.new.known inside.plain c.give_known.new.plain inside.front inside.gone inside.decoded (vec_len inside.bytes) inside.bytes.items c.deref.result.now inside.given inside.mark inside.ended inside.place inside.walked c.deref.ensures.value c.in_err-text.ensures.same c.give_known.ensures.shared c.self.invariant

pub invariant_of-self-2 : goal.invariant_of-self-2
invariant_of-self-2 c =
    let inside = c.self.inside in
    let count = c.args.front.chars in
    let known : KnownView = known_of inside.known inside.plain.bytes inside.decoded inside.bytes.items in
    let after : KnownView = known_of c.give_known.new.known c.give_known.new.plain.bytes inside.decoded inside.bytes.items in
    let left : after ≡ record known { characters = drop count known.characters } =
    subst (λ (items : List ℕ). known_of c.give_known.new.known c.give_known.new.plain.bytes inside.decoded items ≡ record (known_of inside.known inside.plain.bytes inside.decoded items) { characters = drop count (known_of inside.known inside.plain.bytes inside.decoded items).characters }) c.deref.ensures.value c.in_ok-text.ensures.left in
    let within : count ≤ length known.characters = omega (arith, c.requires.front.within, ap (λ (held : HeldView). length held.known) c.self.view_is) in (
      kept-given inside.coder known after inside.front inside.gone inside.decoded (vec_len inside.bytes) inside.bytes.items inside.given count inside.mark inside.ended inside.place c.base_behind-base.result inside.walked c.walked_from-self-inside.result within c.base_behind-base.ensures left c.walked_from-self-inside.ensures.same c.walked_from-self-inside.ensures.none c.self.invariant.0,
      subst (IsShared c.give_known.new.known c.give_known.new.plain inside.decoded) c.deref.ensures.value c.give_known.ensures.shared,
    )

pub returns : goal.returns
returns c =
    let inside = c.self.inside in
    let count = c.args.front.chars in
    let known : KnownView = known_of inside.known inside.plain.bytes inside.decoded inside.bytes.items in
    let after : KnownView = known_of c.give_known.new.known c.give_known.new.plain.bytes inside.decoded inside.bytes.items in
    let left : after ≡ record known { characters = drop count known.characters } =
    subst (λ (items : List ℕ). known_of c.give_known.new.known c.give_known.new.plain.bytes inside.decoded items ≡ record (known_of inside.known inside.plain.bytes inside.decoded items) { characters = drop count (known_of inside.known inside.plain.bytes inside.decoded items).characters }) c.deref.ensures.value c.in_ok-text.ensures.left in
    let room = vec_capacity inside.bytes - vec_len inside.bytes in (
      c.in_ok-text.ensures.text ∙ (ap (λ (items : List ℕ). take count (known_of inside.known inside.plain.bytes inside.decoded items).characters) c.deref.ensures.value ∙ ap (λ (held : HeldView). take count held.known) c.self.view_is),
      c.shrink.ensures
          ∙ (ap (λ (held : HeldView). let own : HeldView = record held { room = c.shrink.new.self.room } in own) (given-by inside.coder known after inside.bytes.items inside.bytes.items inside.front inside.gone inside.decoded inside.given inside.place room room count inside.mark inside.ended c.base_behind-base.result c.self.invariant.0.1.from c.self.invariant.0.1.marked c.base_behind-base.ensures left refl)
          ∙ ap (λ (held : HeldView). let own : HeldView = record (given_on count held) { room = c.shrink.new.self.room } in own) c.self.view_is),
    )
