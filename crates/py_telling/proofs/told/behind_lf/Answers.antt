use Rattle.std.proofs.Common.{◌∙◌, sym, ◌+◌, inl, inr, arith}
use Rattle.std.proofs.lemmas.List.{take_rest}
use Rattle.py_plain.specs.Units.{Unknown}
use Rattle.py_telling.proofs.Walking.{lf_passed, lf_found, lf_missed, lf_replaced, lf_ended, seen_refused, seen_unfinished}
use Rattle.py_telling.proofs.told.behind_lf.Goals as goal

pub returns-then-character-eq10-clause-behind : goal.returns-then-character-eq10-clause-behind
returns-then-character-eq10-clause-behind c = λ place.
    let shows = rw (take_rest c.args.bytes.now c.loop-next.next, c.in-Character.is) at (c.first_seen.ensures.shown Unknown (place + c.loop-next.next)) in
    let within = rw c.in-Character.is at c.first_seen.ensures.within in
    sym (lf_found c.args.encoding c.args.handler c.args.last (place + c.args.at) place c.loop-next.next c.args.bytes.now c.in-Character.character c.in-Character.used c.loop-next-test.true within.0 c.if-character-eq10.true shows)
    ∙ c.loop-next.invariant.passed place

pub returns-in-Character-clause-behind : goal.returns-in-Character-clause-behind
returns-in-Character-clause-behind c = λ place.
    let shows = rw (take_rest c.args.bytes.now c.loop-next.next, c.in-Character.is) at (c.first_seen.ensures.shown Unknown (place + c.loop-next.next)) in
    let within = rw c.in-Character.is at c.first_seen.ensures.within in
    sym (lf_missed c.args.encoding c.args.handler c.args.last (place + c.args.at) place c.loop-next.next c.args.bytes.now c.in-Character.character c.in-Character.used c.loop-next-test.true within.0 c.if-character-eq10.false shows)
    ∙ c.loop-next.invariant.passed place

pub returns-then-count-gt0-clause-behind : goal.returns-then-count-gt0-clause-behind
returns-then-count-gt0-clause-behind c = λ place.
    let shows = rw (take_rest c.args.bytes.now c.loop-next.next, c.in-Replaced.is) at (c.first_seen.ensures.shown Unknown (place + c.loop-next.next)) in
    let within = rw c.in-Replaced.is at c.first_seen.ensures.within in
    sym (lf_replaced c.args.encoding c.args.handler c.args.last (place + c.args.at) place c.loop-next.next c.args.bytes.now c.in-Replaced.count c.in-Replaced.used c.loop-next-test.true within.0 (omega (arith, c.if-count-gt0.true)) shows)
    ∙ c.loop-next.invariant.passed place

pub loop-next-preserved : goal.loop-next-preserved
loop-next-preserved c =
    let within = rw c.in-Replaced.is at c.first_seen.ensures.within in
    record {
      within = omega arith;
      passed = λ place.
          let shows = rw (take_rest c.args.bytes.now c.loop-next.next, c.in-Replaced.is) at (c.first_seen.ensures.shown Unknown (place + c.loop-next.next)) in
          lf_passed c.args.encoding c.args.handler c.args.last (place + c.args.at) place c.loop-next.next c.args.bytes.now c.in-Replaced.count c.in-Replaced.used c.loop-next-test.true within.0 (omega (arith, c.if-count-gt0.false)) shows
          ∙ c.loop-next.invariant.passed place;
    }

pub returns-in-Refused-clause-behind : goal.returns-in-Refused-clause-behind
returns-in-Refused-clause-behind c = λ place.
    elim c.in-Refused.is [
      | inl refused ↦ (
          let shows = rw (take_rest c.args.bytes.now c.loop-next.next, refused) at (c.first_seen.ensures.shown Unknown (place + c.loop-next.next)) in
          sym (lf_ended c.args.encoding c.args.handler c.args.last (place + c.args.at) place c.loop-next.next c.args.bytes.now (seen_refused _ shows)) ∙ c.loop-next.invariant.passed place
          )
      | inr unfinished ↦ (
          let shows = rw (take_rest c.args.bytes.now c.loop-next.next, unfinished) at (c.first_seen.ensures.shown Unknown (place + c.loop-next.next)) in
          sym (lf_ended c.args.encoding c.args.handler c.args.last (place + c.args.at) place c.loop-next.next c.args.bytes.now (seen_unfinished _ shows)) ∙ c.loop-next.invariant.passed place
          )
    ]
