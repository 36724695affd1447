use Rattle.std.proofs.Common.{◌≡◌, [], ap, ◌∙◌, arith}
use Rattle.py_read_text.specs.Knowing.{TextView}
use Rattle.py_read_text.proofs.Chunks.{gave_of, waited_of, failed_of, kept_so, gave_none, brought_so, failed_so, fails_so, waited_so, end_so, empty_part, some_part, more_so}
use Rattle.py_read_text.proofs.read_text.ReadText.fetch.Goals as goal

pub invariant_of-self-then-is_empty : goal.invariant_of-self-then-is_empty
invariant_of-self-then-is_empty g c =
    let live = ap (λ (view : TextView). view.buffer.life) c.self.view_is ∙ c.requires.live in
    let can = ap (λ (view : TextView). view.buffer.can.readable) c.self.view_is ∙ c.requires.reads in
    let none : c.in-Ok-Some.part.items ≡ [] = empty_part _ c.in-Ok-Some.part.items (omega arith) c.if-is_empty.ensures in
    let gave = gave_of _ _ _ _ _ _ _ _ _ c.in-Ok-Some.part c.next_size-size.ensures.some live can c.self.invariant (rw c.in-Ok-Some.field-0-is at c.in-Ok-Some.ensures.buffer) in
    kept_so _ _ _ _ _ _ _ _ _ _ _ live (gave_none _ _ _ c.in-Ok-Some.part.items gave none) c.reserve.ensures.rest c.self.invariant

pub returns-then-is_empty-clause-outcome : goal.returns-then-is_empty-clause-outcome
returns-then-is_empty-clause-outcome g c =
    let live = ap (λ (view : TextView). view.buffer.life) c.self.view_is ∙ c.requires.live in
    let can = ap (λ (view : TextView). view.buffer.can.readable) c.self.view_is ∙ c.requires.reads in
    let none : c.in-Ok-Some.part.items ≡ [] = empty_part _ c.in-Ok-Some.part.items (omega arith) c.if-is_empty.ensures in
    let gave = gave_of _ _ _ _ _ _ _ _ _ c.in-Ok-Some.part c.next_size-size.ensures.some live can c.self.invariant (rw c.in-Ok-Some.field-0-is at c.in-Ok-Some.ensures.buffer) in
    end_so _ _ _ _ c.in-Ok-Some.part.items c.self.view_is c.reserve.ensures.rest gave none

pub invariant_of-self-in-Ok-Some : goal.invariant_of-self-in-Ok-Some
invariant_of-self-in-Ok-Some g c =
    let live = ap (λ (view : TextView). view.buffer.life) c.self.view_is ∙ c.requires.live in
    let can = ap (λ (view : TextView). view.buffer.can.readable) c.self.view_is ∙ c.requires.reads in
    let gave = gave_of _ _ _ _ _ _ _ _ _ c.in-Ok-Some.part c.next_size-size.ensures.some live can c.self.invariant (rw c.in-Ok-Some.field-0-is at c.in-Ok-Some.ensures.buffer) in
    brought_so _ _ _ _ _ _ _ _ _ _ _ _ _ _ live can gave c.reserve.ensures.rest c.deref.ensures.value c.push.ensures.pushed c.self.invariant

pub invariant_of-self-in-Ok-None : goal.invariant_of-self-in-Ok-None
invariant_of-self-in-Ok-None g c =
    let live = ap (λ (view : TextView). view.buffer.life) c.self.view_is ∙ c.requires.live in
    let can = ap (λ (view : TextView). view.buffer.can.readable) c.self.view_is ∙ c.requires.reads in
    let waited = waited_of _ _ _ _ _ _ _ _ _ c.next_size-size.ensures.some live can c.self.invariant (rw c.in-Ok-None.field-0-is at c.in-Ok-None.ensures.buffer) in
    kept_so _ _ _ _ _ _ _ _ _ _ _ live waited.nothing c.reserve.ensures.rest c.self.invariant

pub invariant_of-self-in-Err : goal.invariant_of-self-in-Err
invariant_of-self-in-Err g c =
    let live = ap (λ (view : TextView). view.buffer.life) c.self.view_is ∙ c.requires.live in
    let can = ap (λ (view : TextView). view.buffer.can.readable) c.self.view_is ∙ c.requires.reads in
    failed_so _ _ _ _ c.next_size-size.result _ _ _ _ _ c.in-Err.fault live (failed_of _ _ _ _ _ _ _ _ _ c.in-Err.fault c.next_size-size.ensures.some live can c.self.invariant c.in-Err.ensures.buffer) c.reserve.ensures.rest c.self.invariant

pub returns-in-Err-clause-outcome : goal.returns-in-Err-clause-outcome
returns-in-Err-clause-outcome g c =
    let live = ap (λ (view : TextView). view.buffer.life) c.self.view_is ∙ c.requires.live in
    let can = ap (λ (view : TextView). view.buffer.can.readable) c.self.view_is ∙ c.requires.reads in
    fails_so _ _ _ c.next_size-size.result c.in-Err.fault c.self.view_is c.reserve.ensures.rest (failed_of _ _ _ _ _ _ _ _ _ c.in-Err.fault c.next_size-size.ensures.some live can c.self.invariant c.in-Err.ensures.buffer)

pub returns-in-Ok-None-clause-outcome : goal.returns-in-Ok-None-clause-outcome
returns-in-Ok-None-clause-outcome g c =
    let live = ap (λ (view : TextView). view.buffer.life) c.self.view_is ∙ c.requires.live in
    let can = ap (λ (view : TextView). view.buffer.can.readable) c.self.view_is ∙ c.requires.reads in
    let waited = waited_of _ _ _ _ _ _ _ _ _ c.next_size-size.ensures.some live can c.self.invariant (rw c.in-Ok-None.field-0-is at c.in-Ok-None.ensures.buffer) in
    waited_so _ _ _ c.self.view_is c.reserve.ensures.rest waited

pub returns-else-is_empty-clause-outcome : goal.returns-else-is_empty-clause-outcome
returns-else-is_empty-clause-outcome g c =
    let live = ap (λ (view : TextView). view.buffer.life) c.self.view_is ∙ c.requires.live in
    let can = ap (λ (view : TextView). view.buffer.can.readable) c.self.view_is ∙ c.requires.reads in
    let gave = gave_of _ _ _ _ _ _ _ _ _ c.in-Ok-Some.part c.next_size-size.ensures.some live can c.self.invariant (rw c.in-Ok-Some.field-0-is at c.in-Ok-Some.ensures.buffer) in
    more_so _ _ _ _ _ c.in-Ok-Some.part.items _ _ c.next_size-size.ensures.few c.self.view_is gave (some_part _ c.in-Ok-Some.part.items (omega arith) c.if-is_empty.ensures) c.reserve.ensures.rest c.deref.ensures.value c.push.ensures.pushed
