use Rattle.std.proofs.Common.{◌≡◌, ℕ, ◌+◌, ◌^◌, ◌∷◌, [], ◌++◌, List, Option, Ok, sym, ap, ◌∙◌}
use Rattle.py_registry.specs.Machine.{Machine, next_number, registered}
use Rattle.py_registry.specs.Answers.{number_or_too_far}
use Rattle.py_registry.proofs.Registering.{number-given, number-rises, not-far}
use Rattle.py_registry.proofs.registry.CodecsRegistry.register.Goals as goal

pub returns-clause-answer : goal.returns-clause-answer
returns-clause-answer g c =
    let Registry : Type 0 = Machine g.row.S.Denot g.row.H.Denot in
    let inside = c.self.inside in
    let after = c.checked_add-self-inside.result in
    let number : number_or_too_far (next_number inside.next) ≡ Ok c.in-Some.number = number-given inside.next c.in-Some.number c.in-Some.is c.self.invariant in
    let next : next_number after ≡ next_number inside.next + 1 = number-rises inside.next after c.in-Some.number c.in-Some.is c.self.invariant c.checked_add-self-inside.ensures in
    let functions : List (ℕ × g.row.S.Denot) = inside.functions.items ++ (c.in-Some.number, c.args.function) ∷ [] in
    let counted : List (ℕ × g.row.S.Denot) = inside.functions.items ++ (next_number inside.next, c.args.function) ∷ [] in
    let pushed : c.push.new.self.items ≡ functions = c.in_ok-push.ensures.items in
    let own : functions ≡ counted = ap (λ (n : Option ℕ). inside.functions.items ++ (next_number n, c.args.function) ∷ []) (sym c.in-Some.is) in
    let shown : Registry = record { next = next_number inside.next; functions = inside.functions.items; cache = inside.cache; handlers = inside.handlers } in
    let made : ◌≡◌ {A = Registry} (record { next = next_number after; functions = c.push.new.self.items; cache = inside.cache; handlers = inside.handlers }) (registered shown c.args.function) =
    ap (λ (n : ℕ). record { next = n; functions = c.push.new.self.items; cache = inside.cache; handlers = inside.handlers }) next
    ∙ ap (λ (fs : List (ℕ × g.row.S.Denot)). record { next = next_number inside.next + 1; functions = fs; cache = inside.cache; handlers = inside.handlers }) (pushed ∙ own) in
    let view : shown ≡ c.args.self.now = c.self.view_is in
    (ap (λ (m : Registry). number_or_too_far m.next) (sym view) ∙ number, made ∙ ap (λ (m : Registry). registered m c.args.function) view)

pub returns-clause-far : goal.returns-clause-far
returns-clause-far g c far =
    let inside = c.self.inside in
    let shown : next_number inside.next ≡ 2 ^ 64 = ap (λ (m : Machine g.row.S.Denot g.row.H.Denot). m.next) c.self.view_is ∙ far in
    not-far inside.next c.in-Some.number c.in-Some.is c.self.invariant shown
