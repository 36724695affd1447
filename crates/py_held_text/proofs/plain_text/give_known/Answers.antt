use Rattle.std.proofs.Common.{◌≡◌, ◌≤◌, ◌+◌, List, ℕ, IfOk, refl, take, drop, chars, sym, ap, subst, ◌∙◌, arith}
use Rattle.std.specs.Str.{IsCharBoundary}
use Rattle.py_codec.specs.Answers.{text_of}
use Rattle.py_held_text.specs.Finding.{IsFrontOf}
use Rattle.py_held_text.specs.Known.{KnownView}
use Rattle.py_held_text.specs.Plain.{plain_of}
use Rattle.py_held_text.proofs.Answering.{from-start}
use Rattle.py_held_text.proofs.Plain.{own-only, plain-only, plain-given, shared-given, ok-more}
use Rattle.py_held_text.proofs.plain_text.give_known.Goals as goal

pub give-requires : goal.give-requires
give-requires c =
    let own = own-only c.args.known.now c.args.plain.now.bytes c.args.decoded c.args.bytes.now c.if-plain-eq0.true in
    subst (λ (known : KnownView). IsFrontOf known.characters c.args.front) own c.requires.front

pub returns-then-plain-eq0-clause-text : goal.returns-then-plain-eq0-clause-text
returns-then-plain-eq0-clause-text c =
    let own = own-only c.args.known.now c.args.plain.now.bytes c.args.decoded c.args.bytes.now c.if-plain-eq0.true in
    subst (λ (known : KnownView). IfOk c.give.result (λ text. text_of text ≡ take c.args.front.chars known.characters)) (sym own) c.give.ensures.text

pub returns-then-plain-eq0-clause-left : goal.returns-then-plain-eq0-clause-left
returns-then-plain-eq0-clause-left c =
    let own = own-only c.args.known.now c.args.plain.now.bytes c.args.decoded c.args.bytes.now c.if-plain-eq0.true in
    ok-more c.give.result
    (λ left.
    own-only c.give.new.self c.args.plain.now.bytes c.args.decoded c.args.bytes.now c.if-plain-eq0.true
    ∙ (left ∙ ap (λ (known : KnownView). record known { characters = drop c.args.front.chars known.characters }) (sym own)))
    c.give.ensures.left

pub range-requires-clause-end_boundary : goal.range-requires-clause-end_boundary
range-requires-clause-end_boundary c =
    let given = plain-given c.args.known.now c.args.plain.now c.args.decoded c.args.bytes.now c.args.front c.requires.shared (omega (arith, c.if-plain-eq0.false)) c.requires.front in
    let from : 0 + c.args.front.bytes ≡ c.args.front.bytes = omega arith in
    subst (λ (bytes : List ℕ). IsCharBoundary bytes c.args.front.bytes) (sym c.plain_text-text.ensures)
    (subst (IsCharBoundary (plain_of c.args.plain.now.bytes c.args.decoded c.args.bytes.now)) from given.boundary)

pub returns-clause-text : goal.returns-clause-text
returns-clause-text c =
    let some : 1 ≤ c.args.plain.now.bytes = omega (arith, c.if-plain-eq0.false) in
    let given = plain-given c.args.known.now c.args.plain.now c.args.decoded c.args.bytes.now c.args.front c.requires.shared some c.requires.front in
    ap chars (c.in_ok-given.ensures.ok ∙ (from-start c.plain_text-text.result.now c.range.result.now c.args.front.bytes c.range.ensures.value ∙ ap (take c.args.front.bytes) c.plain_text-text.ensures))
    ∙ (given.text ∙ ap (λ (known : KnownView). take c.args.front.chars known.characters) (sym (plain-only c.args.known.now c.args.plain.now c.args.decoded c.args.bytes.now c.requires.shared some)))

pub returns-clause-left : goal.returns-clause-left
returns-clause-left c =
    (shared-given c.args.known.now c.args.plain.now _ c.args.decoded c.args.bytes.now c.args.front c.requires.shared (omega (arith, c.if-plain-eq0.false)) c.requires.within c.requires.front refl refl refl).1

pub returns-clause-shared : goal.returns-clause-shared
returns-clause-shared c =
    (shared-given c.args.known.now c.args.plain.now _ c.args.decoded c.args.bytes.now c.args.front c.requires.shared (omega (arith, c.if-plain-eq0.false)) c.requires.within c.requires.front refl refl refl).0
