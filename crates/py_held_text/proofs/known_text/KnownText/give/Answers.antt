use Rattle.std.proofs.Common.{◌+◌, ◌-◌, List, ℕ, drop, chars, string_bytes, sym, ap, subst, ◌∙◌, arith}
use Rattle.std.specs.Str.{IsCharBoundary}
use Rattle.std.proofs.lemmas.Str.{IsUtf8-string_bytes}
use Rattle.py_held_text.specs.Known.{IsKnown, KnownView}
use Rattle.py_held_text.proofs.Knowing.{front-given, text-fits, known-behind, known-rest, from-start, all-from, between}
use Rattle.py_held_text.proofs.known_text.KnownText.give.Goals as goal

pub overflow_add-end : goal.overflow_add-end
overflow_add-end c =
    let own = front-given c.args.self.now.characters (string_bytes c.self.inside.text) c.self.inside.given c.args.front (IsUtf8-string_bytes c.self.inside.text) c.self.invariant.boundary (ap (λ (known : KnownView). known.characters) (sym c.self.view_is)) c.requires in
    omega (arith, own.boundary.0, text-fits c.self.inside.text)

pub is_most-requires : goal.is_most-requires
is_most-requires c =
    let own = front-given c.args.self.now.characters (string_bytes c.self.inside.text) c.self.inside.given c.args.front (IsUtf8-string_bytes c.self.inside.text) c.self.invariant.boundary (ap (λ (known : KnownView). known.characters) (sym c.self.view_is)) c.requires in
    omega (arith, own.boundary.0, c.self.inside.text.bytes.ok.0)

pub split_off-requires : goal.split_off-requires
split_off-requires c =
    let own = front-given c.args.self.now.characters (string_bytes c.self.inside.text) c.self.inside.given c.args.front (IsUtf8-string_bytes c.self.inside.text) c.self.invariant.boundary (ap (λ (known : KnownView). known.characters) (sym c.self.view_is)) c.requires in
    (own.boundary.0, λ some. own.boundary.1)

pub invariant_of-self-then-is_most : goal.invariant_of-self-then-is_most
invariant_of-self-then-is_most c =
    let text = c.self.inside.text in
    let is = ap (λ (known : KnownView). known.characters) (sym c.self.view_is) in
    let own = front-given c.args.self.now.characters (string_bytes text) c.self.inside.given c.args.front (IsUtf8-string_bytes text) c.self.invariant.boundary is c.requires in
    subst (λ (given : ℕ). IsKnown c.self.inside.newline (string_bytes c.replace.new.dest) given (c.self.inside.count - c.args.front.chars) 0 c.self.inside.cr) (sym c.if-self-eq0.true)
    (known-rest c.self.inside.newline c.args.self.now.characters (string_bytes text) c.self.inside.given c.self.inside.count c.self.inside.searched c.self.inside.cr c.args.front c.replace.new.dest c.self.invariant is own (ap string_bytes c.replace.ensures.after ∙ c.in_ok-rest.ensures.tail))

pub returns-then-is_most-clause-text : goal.returns-then-is_most-clause-text
returns-then-is_most-clause-text c =
    let text = c.self.inside.text in
    let own = front-given c.args.self.now.characters (string_bytes text) c.self.inside.given c.args.front (IsUtf8-string_bytes text) c.self.invariant.boundary (ap (λ (known : KnownView). known.characters) (sym c.self.view_is)) c.requires in
    ap (λ t. chars (string_bytes t)) c.replace.ensures.value
    ∙ (ap chars (c.in_ok-rest.ensures.bytes ∙ from-start (string_bytes text) c.self.inside.given c.args.front.bytes c.if-self-eq0.true)
    ∙ own.text)

pub returns-then-is_most-clause-left : goal.returns-then-is_most-clause-left
returns-then-is_most-clause-left c =
    let text = c.self.inside.text in
    let own = front-given c.args.self.now.characters (string_bytes text) c.self.inside.given c.args.front (IsUtf8-string_bytes text) c.self.invariant.boundary (ap (λ (known : KnownView). known.characters) (sym c.self.view_is)) c.requires in
    ap (λ (bytes : List ℕ). record { newline = c.self.inside.newline; characters = chars bytes; cr = c.self.inside.cr }) (all-from (string_bytes c.replace.new.dest) c.self.inside.given c.if-self-eq0.true ∙ (ap string_bytes c.replace.ensures.after ∙ c.in_ok-rest.ensures.tail))
    ∙ (ap (λ (cs : List ℕ). record { newline = c.self.inside.newline; characters = cs; cr = c.self.inside.cr }) own.left
    ∙ ap (λ (known : KnownView). record known { characters = drop c.args.front.chars c.args.self.now.characters }) c.self.view_is)

pub range-requires-clause-end_boundary : goal.range-requires-clause-end_boundary
range-requires-clause-end_boundary c =
    let own = front-given c.args.self.now.characters (string_bytes c.self.inside.text) c.self.inside.given c.args.front (IsUtf8-string_bytes c.self.inside.text) c.self.invariant.boundary (ap (λ (known : KnownView). known.characters) (sym c.self.view_is)) c.requires in
    subst (λ (bytes : List ℕ). IsCharBoundary bytes (c.self.inside.given + c.args.front.bytes)) (sym c.deref.ensures) own.boundary

pub invariant_of-self-2 : goal.invariant_of-self-2
invariant_of-self-2 c =
    let text = c.self.inside.text in
    let is = ap (λ (known : KnownView). known.characters) (sym c.self.view_is) in
    let own = front-given c.args.self.now.characters (string_bytes text) c.self.inside.given c.args.front (IsUtf8-string_bytes text) c.self.invariant.boundary is c.requires in
    known-behind c.self.inside.newline c.args.self.now.characters (string_bytes text) c.self.inside.given c.self.inside.count c.self.inside.searched c.self.inside.cr c.args.front c.self.invariant is own

pub returns-clause-text : goal.returns-clause-text
returns-clause-text c =
    let text = c.self.inside.text in
    let own = front-given c.args.self.now.characters (string_bytes text) c.self.inside.given c.args.front (IsUtf8-string_bytes text) c.self.invariant.boundary (ap (λ (known : KnownView). known.characters) (sym c.self.view_is)) c.requires in
    ap chars (c.in_ok-text.ensures.ok ∙ between (string_bytes text) c.deref.result.now c.range.result.now c.self.inside.given c.args.front.bytes c.deref.ensures c.range.ensures.value) ∙ own.text

pub returns-clause-left : goal.returns-clause-left
returns-clause-left c =
    let text = c.self.inside.text in
    let own = front-given c.args.self.now.characters (string_bytes text) c.self.inside.given c.args.front (IsUtf8-string_bytes text) c.self.invariant.boundary (ap (λ (known : KnownView). known.characters) (sym c.self.view_is)) c.requires in
    ap (λ (cs : List ℕ). record { newline = c.self.inside.newline; characters = cs; cr = c.self.inside.cr }) own.left
    ∙ ap (λ (known : KnownView). record known { characters = drop c.args.front.chars c.args.self.now.characters }) c.self.view_is
