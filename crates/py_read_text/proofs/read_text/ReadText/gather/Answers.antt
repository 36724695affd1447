use Rattle.std.proofs.Common.{sym, ap, ◌∙◌, subst, false}
use Rattle.std.proofs.lemmas.Result.{err_from_is_err_and}
use Rattle.py_read_text.specs.Knowing.{TextView}
use Rattle.py_read_text.specs.Ahead.{ReadsOn}
use Rattle.py_read_text.specs.Reading.{IsAtEnd, Calls}
use Rattle.py_read_text.proofs.Fetching.{calls_on, on_then}
use Rattle.py_read_text.proofs.Ahead.{needs_at}
use Rattle.py_read_text.proofs.Gathering.{looked, fails_there, fails_on, gathers_more, holds_looked, holds_ended, asks_some, failed, waited, ended}
use Rattle.py_read_text.proofs.read_text.ReadText.gather.Goals as goal

pub returns-in-Some-clause-outcome : goal.returns-in-Some-clause-outcome
returns-in-Some-clause-outcome g c =
    let at = rw c.in-Some.is at c.in_ok-stop.ensures.outcome in
    let reads = subst (λ (view : TextView). Calls c.args.self.now.buffer false false view.buffer) (sym c.self-in-loop-stop.view_is) c.loop-stop.invariant.reads in
    looked c.args.self.now _ c.args.wanted c.in-Some.stop reads at.0 at.1

pub loop-stop-preserved : goal.loop-stop-preserved
loop-stop-preserved g c =
    let looked = rw c.in_default.is at c.in_ok-stop.ensures.outcome in
    let came = rw c.in-More.is at c.in_ok-fetch.ensures.outcome in
    gathers_more _ _ _ _ _ c.args.wanted c.requires.live c.requires.reads c.loop-stop.invariant c.self-in-loop-stop.view_is c.self-in-loop-stop.invariant c.look.ensures.follows looked.0 looked.1 came c.in_ok-fetch.ensures.keeps

pub invariant_of-self-in-End : goal.invariant_of-self-in-End
invariant_of-self-in-End g c =
    let came = rw c.in-End.is at c.in_ok-fetch.ensures.outcome in
    holds_ended _ _ _ _ _ _ _ _ (subst (λ (view : TextView). IsAtEnd view.buffer) (sym c.self-in-loop-stop-2.view_is) came.1) c.look_at_end.ensures.follows c.self-in-loop-stop-2.invariant

pub returns-in-End-clause-nothing : goal.returns-in-End-clause-nothing
returns-in-End-clause-nothing g c =
    let looked = rw c.in_default.is at c.in_ok-stop.ensures.outcome in
    λ none. asks_some c.args.wanted _ _ _ looked.0 none

pub returns-in-Waits-clause-nothing : goal.returns-in-Waits-clause-nothing
returns-in-Waits-clause-nothing g c =
    let looked = rw c.in_default.is at c.in_ok-stop.ensures.outcome in
    λ none. asks_some c.args.wanted _ _ _ looked.0 none

pub returns-in_err-fetch-clause-outcome : goal.returns-in_err-fetch-clause-outcome
returns-in_err-fetch-clause-outcome g c =
    let left = err_from_is_err_and c.from_residual-in_err-fetch.result c.from_residual-in_err-fetch.ensures.1 in
    let reads = subst (λ (view : TextView). Calls c.args.self.now.buffer false false view.buffer) (sym c.self-in-loop-stop.view_is) c.loop-stop.invariant.reads in
    rw (left.1, left.2) (failed c.args.self.now _ c.fetch.new.self c.args.wanted c.in_err-fetch.field-0.0 reads c.in_err-fetch.ensures.outcome)

pub returns-in-End-clause-outcome : goal.returns-in-End-clause-outcome
returns-in-End-clause-outcome g c =
    let came = rw c.in-End.is at c.in_ok-fetch.ensures.outcome in
    let reads = subst (λ (view : TextView). Calls c.args.self.now.buffer false false view.buffer) (sym c.self-in-loop-stop.view_is) c.loop-stop.invariant.reads in
    let both = subst (λ (view : TextView). Calls c.args.self.now.buffer false false view.buffer) (sym c.self-in-loop-stop-2.view_is) (calls_on _ _ _ false false reads came.0.reads) in
    ended c.args.self.now _ c.args.wanted c.look_at_end.result both c.look_at_end.ensures.outcome c.look_at_end.ensures.ready (subst (λ (view : TextView). IsAtEnd view.buffer) (sym c.self-in-loop-stop-2.view_is) came.1)

pub returns-in-Waits-clause-outcome : goal.returns-in-Waits-clause-outcome
returns-in-Waits-clause-outcome g c =
    let looked = rw c.in_default.is at c.in_ok-stop.ensures.outcome in
    let came = rw c.in-Waits.is at c.in_ok-fetch.ensures.outcome in
    let reads = subst (λ (view : TextView). Calls c.args.self.now.buffer false false view.buffer) (sym c.self-in-loop-stop.view_is) c.loop-stop.invariant.reads in
    waited c.args.self.now _ c.fetch.new.self c.args.wanted reads looked came

pub returns-in-Some-clause-needs : goal.returns-in-Some-clause-needs
returns-in-Some-clause-needs g c = needs_at c.args.self.now c.loop-stop.self c.args.wanted _ (ap (λ (view : TextView). view.buffer.place) c.self-in-loop-stop.view_is) c.loop-stop.invariant.needs

pub returns-in_err-fetch-clause-needs : goal.returns-in_err-fetch-clause-needs
returns-in_err-fetch-clause-needs g c = needs_at c.args.self.now c.loop-stop.self c.args.wanted _ (fails_there _ c.fetch.new.self c.in_err-fetch.field-0.0 c.in_err-fetch.ensures.outcome ∙ ap (λ (view : TextView). view.buffer.place) c.self-in-loop-stop.view_is) c.loop-stop.invariant.needs

pub returns-in-End-clause-needs : goal.returns-in-End-clause-needs
returns-in-End-clause-needs g c =
    let came = rw c.in-End.is at c.in_ok-fetch.ensures.outcome in
    needs_at c.args.self.now c.loop-stop.self c.args.wanted _ (ap (λ (view : TextView). view.buffer.place) c.self-in-loop-stop-2.view_is ∙ (came.0.place ∙ ap (λ (view : TextView). view.buffer.place) c.self-in-loop-stop.view_is)) c.loop-stop.invariant.needs

pub returns-in-Waits-clause-needs : goal.returns-in-Waits-clause-needs
returns-in-Waits-clause-needs g c =
    let came = rw c.in-Waits.is at c.in_ok-fetch.ensures.outcome in
    needs_at c.args.self.now c.loop-stop.self c.args.wanted _ (came.0.place ∙ ap (λ (view : TextView). view.buffer.place) c.self-in-loop-stop.view_is) c.loop-stop.invariant.needs

pub returns-in_err-stop-clause-needs : goal.returns-in_err-stop-clause-needs
returns-in_err-stop-clause-needs g c = needs_at c.args.self.now c.loop-stop.self c.args.wanted _ (ap (λ (view : TextView). view.buffer.place) c.self-in-loop-stop.view_is) c.loop-stop.invariant.needs

-- the buffer was only read from

pub returns-in-Some-clause-brings : goal.returns-in-Some-clause-brings
returns-in-Some-clause-brings g c = subst (λ (view : TextView). ReadsOn c.args.self.now.buffer view.buffer) (sym c.self-in-loop-stop.view_is) c.loop-stop.invariant.brings

pub returns-in_err-stop-clause-brings : goal.returns-in_err-stop-clause-brings
returns-in_err-stop-clause-brings g c = subst (λ (view : TextView). ReadsOn c.args.self.now.buffer view.buffer) (sym c.self-in-loop-stop.view_is) c.loop-stop.invariant.brings

pub returns-in_err-fetch-clause-brings : goal.returns-in_err-fetch-clause-brings
returns-in_err-fetch-clause-brings g c =
    let reads = subst (λ (view : TextView). Calls c.args.self.now.buffer false false view.buffer) (sym c.self-in-loop-stop.view_is) c.loop-stop.invariant.reads in
    let brings = subst (λ (view : TextView). ReadsOn c.args.self.now.buffer view.buffer) (sym c.self-in-loop-stop.view_is) c.loop-stop.invariant.brings in
    on_then _ _ _ reads brings (fails_on _ c.fetch.new.self c.in_err-fetch.field-0.0 c.in_err-fetch.ensures.outcome)

pub returns-in-End-clause-brings : goal.returns-in-End-clause-brings
returns-in-End-clause-brings g c =
    let came = rw c.in-End.is at c.in_ok-fetch.ensures.outcome in
    let reads = subst (λ (view : TextView). Calls c.args.self.now.buffer false false view.buffer) (sym c.self-in-loop-stop.view_is) c.loop-stop.invariant.reads in
    let brings = subst (λ (view : TextView). ReadsOn c.args.self.now.buffer view.buffer) (sym c.self-in-loop-stop.view_is) c.loop-stop.invariant.brings in
    subst (λ (view : TextView). ReadsOn c.args.self.now.buffer view.buffer) (sym c.self-in-loop-stop-2.view_is) (on_then _ _ _ reads brings came.0.brings)

pub returns-in-Waits-clause-brings : goal.returns-in-Waits-clause-brings
returns-in-Waits-clause-brings g c =
    let came = rw c.in-Waits.is at c.in_ok-fetch.ensures.outcome in
    let reads = subst (λ (view : TextView). Calls c.args.self.now.buffer false false view.buffer) (sym c.self-in-loop-stop.view_is) c.loop-stop.invariant.reads in
    let brings = subst (λ (view : TextView). ReadsOn c.args.self.now.buffer view.buffer) (sym c.self-in-loop-stop.view_is) c.loop-stop.invariant.brings in
    on_then _ _ _ reads brings came.0.brings

pub returns-in_err-fetch-clause-nothing : goal.returns-in_err-fetch-clause-nothing
returns-in_err-fetch-clause-nothing g c =
    let looked = rw c.in_default.is at c.in_ok-stop.ensures.outcome in
    λ none. asks_some c.args.wanted _ _ _ looked.0 none

pub invariant_of-self : goal.invariant_of-self
invariant_of-self g c = holds_looked _ _ _ _ _ _ _ _ c.look.ensures.follows c.self-in-loop-stop.invariant

pub invariant_of-self-in-Some : goal.invariant_of-self-in-Some
invariant_of-self-in-Some g c = holds_looked _ _ _ _ _ _ _ _ c.look.ensures.follows c.self-in-loop-stop.invariant

pub invariant_of-self-in-loop-stop : goal.invariant_of-self-in-loop-stop
invariant_of-self-in-loop-stop g c = holds_looked _ _ _ _ _ _ _ _ c.look.ensures.follows c.self-in-loop-stop.invariant
