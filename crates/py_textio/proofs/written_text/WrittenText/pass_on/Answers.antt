use Rattle.std.specs.Prelude.{vec_capacity, vec_len}
use Rattle.std.proofs.Common.{◌≡◌, ◌-◌, [], ap, sym, refl, subst, ◌∙◌}
use Rattle.py_flat.specs.declared.life.Life.TheVariants as life
use Rattle.py_textio.specs.Written.{WrittenView, StandsToWrite}
use Rattle.py_textio.proofs.Settling.{passed_waits, passed_faulted, joined_bare}
use Rattle.py_textio.proofs.Giving.{starved_flush, starved_life, back_true, back_false, back_shows, passed_back, passed_failed, written_given, written_failed}
use Rattle.py_textio.proofs.written_text.WrittenText.pass_on.Goals as goal

pub returns-then-is_wait-clause-outcome : goal.returns-then-is_wait-clause-outcome
returns-then-is_wait-clause-outcome g c = rw c.with_taken.ensures (passed_waits c.args.self.now _ c.flush.new.self c.self.inside.pending.items (vec_capacity c.self.inside.pending - vec_len c.self.inside.pending) _ c.args.count _ _ c.in-Err.fault c.self.view_is c.self.invariant.0 c.requires.live c.requires.none c.in-Err.ensures.keeps c.in-Err.ensures.answers (sym c.is_wait.ensures ∙ c.if-is_wait.true) refl)

pub invariant_of-self-then-is_raw_fault : goal.invariant_of-self-then-is_raw_fault
invariant_of-self-then-is_raw_fault g c =
    let none : c.self.inside.pending.items ≡ [] = ap (λ (view : WrittenView). view.pending) c.self.view_is ∙ c.requires.none in
    let writes = ap (λ (view : WrittenView). view.text.buffer.can.writable) c.self.view_is ∙ c.requires.writes in
    (written_failed _ c.flush.new.self c.self.inside.pending.items _ c.self.invariant.0 none c.in-Err.ensures.keeps c.in-Err.ensures.answers.keeps writes c.in-Err.ensures.text.joined, λ some. absurd (some none))

pub returns-then-is_raw_fault-clause-outcome : goal.returns-then-is_raw_fault-clause-outcome
returns-then-is_raw_fault-clause-outcome g c =
    passed_faulted c.args.self.now _ c.flush.new.self c.self.inside.pending.items (vec_capacity c.self.inside.pending - vec_len c.self.inside.pending) _ c.args.count _ _ c.in-Err.fault c.self.view_is c.self.invariant.0 c.requires.live c.requires.none c.in-Err.ensures.keeps c.in-Err.ensures.answers (sym c.is_raw_fault.ensures ∙ c.if-is_raw_fault.true) refl

pub invariant_of-self-then-take_back : goal.invariant_of-self-then-take_back
invariant_of-self-then-take_back g c =
    let none : c.self.inside.pending.items ≡ [] = ap (λ (view : WrittenView). view.pending) c.self.view_is ∙ c.requires.none in
    let writes = ap (λ (view : WrittenView). view.text.buffer.can.writable) c.self.view_is ∙ c.requires.writes in
    let live = c.self.invariant.0.lives (ap (λ (view : WrittenView). view.life) c.self.view_is ∙ c.requires.live) in
    let stood = subst (λ (view : WrittenView). StandsToWrite view.text) (sym c.self.view_is) c.requires.stands in
    let memory = starved_flush _ c.flush.new.self.buffer c.in-Err.fault live c.self.invariant.0.kept c.in-Err.ensures.answers (sym c.is_wait.ensures ∙ c.if-is_wait.false) (sym c.is_raw_fault.ensures ∙ c.if-is_raw_fault.false) in
    (written_given _ c.flush.new.self c.take_back.new.self c.self.inside.pending.items c.args.count _ _ c.take_back.result c.self.invariant.0 none stood c.in-Err.ensures.keeps c.in-Err.ensures.answers.keeps c.take_back.ensures.takes c.take_back.ensures.stands writes (λ lives. starved_life _ c.flush.new.self.buffer c.in-Err.fault c.in-Err.ensures.answers memory ∙ live) c.take_back.ensures.joined, λ some. absurd (some none))

pub returns-then-take_back-clause-outcome : goal.returns-then-take_back-clause-outcome
returns-then-take_back-clause-outcome g c =
    let live = c.self.invariant.0.lives (ap (λ (view : WrittenView). view.life) c.self.view_is ∙ c.requires.live) in
    let memory = starved_flush _ c.flush.new.self.buffer c.in-Err.fault live c.self.invariant.0.kept c.in-Err.ensures.answers (sym c.is_wait.ensures ∙ c.if-is_wait.false) (sym c.is_raw_fault.ensures ∙ c.if-is_raw_fault.false) in
    passed_back c.args.self.now _ c.flush.new.self c.take_back.new.self c.self.inside.pending.items (vec_capacity c.self.inside.pending - vec_len c.self.inside.pending) _ c.args.count _ _ c.in-Err.fault c.self.view_is c.self.invariant.0 c.requires.live c.requires.none c.requires.stands c.in-Err.ensures.keeps c.in-Err.ensures.answers memory (back_true c.flush.new.self.buffer _ c.args.count c.take_back.result c.if-take_back.true c.take_back.ensures.takes) c.take_back.ensures.stands refl

pub returns-then-take_back-clause-joined : goal.returns-then-take_back-clause-joined
returns-then-take_back-clause-joined g c =
    let live = c.self.invariant.0.lives (ap (λ (view : WrittenView). view.life) c.self.view_is ∙ c.requires.live) in
    let memory = starved_flush _ c.flush.new.self.buffer c.in-Err.fault live c.self.invariant.0.kept c.in-Err.ensures.answers (sym c.is_wait.ensures ∙ c.if-is_wait.false) (sym c.is_raw_fault.ensures ∙ c.if-is_raw_fault.false) in
    let same = back_shows c.flush.new.self.buffer c.take_back.new.self.buffer c.args.count c.take_back.result c.take_back.ensures.takes in
    joined_bare c.take_back.new.self _ 0 c.self.inside.life (ap (λ (view : WrittenView). view.pending) c.self.view_is ∙ c.requires.none) (λ lives. same.life_is ∙ (starved_life _ c.flush.new.self.buffer c.in-Err.fault c.in-Err.ensures.answers memory ∙ live)) c.take_back.ensures.joined

pub invariant_of-self-in-Err : goal.invariant_of-self-in-Err
invariant_of-self-in-Err g c =
    let none : c.self.inside.pending.items ≡ [] = ap (λ (view : WrittenView). view.pending) c.self.view_is ∙ c.requires.none in
    let writes = ap (λ (view : WrittenView). view.text.buffer.can.writable) c.self.view_is ∙ c.requires.writes in
    let stood = subst (λ (view : WrittenView). StandsToWrite view.text) (sym c.self.view_is) c.requires.stands in
    (written_given _ c.flush.new.self c.take_back.new.self c.self.inside.pending.items c.args.count _ _ c.take_back.result c.self.invariant.0 none stood c.in-Err.ensures.keeps c.in-Err.ensures.answers.keeps c.take_back.ensures.takes c.take_back.ensures.stands writes (λ lives. absurd (cc)) c.take_back.ensures.joined, λ some. absurd (some none))

pub returns-else-take_back-clause-outcome : goal.returns-else-take_back-clause-outcome
returns-else-take_back-clause-outcome g c =
    let live = c.self.invariant.0.lives (ap (λ (view : WrittenView). view.life) c.self.view_is ∙ c.requires.live) in
    let memory = starved_flush _ c.flush.new.self.buffer c.in-Err.fault live c.self.invariant.0.kept c.in-Err.ensures.answers (sym c.is_wait.ensures ∙ c.if-is_wait.false) (sym c.is_raw_fault.ensures ∙ c.if-is_raw_fault.false) in
    passed_failed c.args.self.now _ c.flush.new.self c.take_back.new.self c.self.inside.pending.items (vec_capacity c.self.inside.pending - vec_len c.self.inside.pending) _ c.args.count _ _ c.in-Err.fault c.self.view_is c.self.invariant.0 c.requires.live c.requires.none c.requires.stands c.requires.behind c.requires.some c.in-Err.ensures.keeps c.in-Err.ensures.text.joined.below c.in-Err.ensures.answers memory (back_false c.flush.new.self.buffer _ c.args.count c.take_back.result c.if-take_back.false c.take_back.ensures.takes) c.take_back.ensures.stands refl

pub returns-else-take_back-clause-joined : goal.returns-else-take_back-clause-joined
returns-else-take_back-clause-joined g c =
    joined_bare c.take_back.new.self _ 0 life.Failed (ap (λ (view : WrittenView). view.pending) c.self.view_is ∙ c.requires.none) (λ lives. absurd (cc)) c.take_back.ensures.joined
