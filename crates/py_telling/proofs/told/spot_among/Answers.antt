use Rattle.std.proofs.Common.{◌∙◌, false, refl, sym, ap, ℕ, ◌+◌, ◌-◌, inl, inr, if◌then◌else◌, List, arith}
use Rattle.std.proofs.lemmas.List.{take_rest}
use Rattle.py_plain.specs.Units.{Unknown}
use Rattle.py_plain.specs.Items.{Item}
use Rattle.py_telling.specs.declared.walked.Walked.{Walked}
use Rattle.py_telling.specs.Spots.{at_byte, behind_lf, items_from}
use Rattle.py_telling.proofs.Walking.{spot_within, spot_ended, spot_reached, items_ended, seen_refused, seen_unfinished}
use Rattle.py_telling.proofs.GoingOn.{leads_character, leads_replaced, alike_later, walked_later, walked_here}
use Rattle.py_telling.proofs.Plain.{PlainFrom, RunsTo, plain_from, alike_run, walked_run}
use Rattle.py_telling.proofs.told.spot_among.Goals as goal

pub loop-walked-init : goal.loop-walked-init
loop-walked-init c = record {
  within = c.requires.walked.within;
  counted = c.requires.walked.counted;
  spot = walked_here c.args.encoding c.args.handler c.args.newline c.args.last c.args.place c.args.given c.args.bytes.now c.args.from c.requires.walked;
  walked = λ goes_on. c.requires.walked;
}

pub loop-walked-preserved-then-run-gt0 : goal.loop-walked-preserved-then-run-gt0
loop-walked-preserved-then-run-gt0 c =
    let walked : Walked = c.loop-walked.walked in
    let run : ℕ = c.plain_run-run.result in
    let later : Walked = record { passed = walked.passed + run; count = walked.count + run; held = false } in
    let has = c.plain_run-run.ensures.ascii (omega (arith, c.if-run-gt0.true)) in
    let plain : PlainFrom walked.passed run c.args.bytes.now = plain_from c.args.bytes.now walked.passed run (rw (take_rest c.args.bytes.now walked.passed) at c.plain_run-run.ensures.plain) in
    let runs : RunsTo run walked later = record { passed = refl; counted = refl; free = c.plain_run-run.ensures.free (omega (arith, c.if-run-gt0.true)); held = refl } in
    record {
      within = omega arith;
      counted = omega arith;
      spot = alike_run c.args.encoding c.args.handler c.args.newline c.args.last c.args.place c.args.given c.args.bytes.now run walked later has (omega arith) (omega arith) plain runs c.loop-walked.invariant.spot;
      walked = λ goes_on. walked_run c.args.encoding c.args.handler c.args.newline c.args.bytes.now c.args.given run walked later has (omega arith) (omega arith) plain runs (c.loop-walked.invariant.walked goes_on);
    }

pub loop-walked-preserved-in-Character : goal.loop-walked-preserved-in-Character
loop-walked-preserved-in-Character c =
    let walked : Walked = c.loop-walked.walked in
    let later : Walked = record { passed = walked.passed + c.in-Character.used; count = walked.count + c.added.result; held = c.is_held.result } in
    let within = rw c.in-Character.is at c.first_seen.ensures.within in
    let leads = λ (place : ℕ).
    leads_character c.args.encoding c.args.handler c.args.newline c.args.last place c.args.bytes.now walked later c.in-Character.character c.in-Character.used within.0 refl (ap (λ (n : ℕ). walked.count + n) c.added.ensures.adds) (c.is_held.ensures walked.held)
    (rw (take_rest c.args.bytes.now walked.passed, c.in-Character.is) at (c.first_seen.ensures.shown Unknown (place + walked.passed))) in
    record {
      within = omega arith;
      counted = omega arith;
      spot = alike_later c.args.encoding c.args.handler c.args.newline c.args.last c.args.place c.args.given c.args.bytes.now walked later (omega arith) (omega arith) (omega arith) (leads c.args.place) c.loop-walked.invariant.spot;
      walked = λ goes_on. walked_later c.args.encoding c.args.handler c.args.newline c.requires.reads c.args.last c.args.bytes.now c.args.given walked later goes_on (omega arith) (omega arith) (omega arith) (omega arith) leads (c.loop-walked.invariant.walked goes_on);
    }

pub returns-then-left-count-clause-spot : goal.returns-then-left-count-clause-spot
returns-then-left-count-clause-spot c =
    let walked : Walked = c.loop-walked.walked in
    let shows = rw (take_rest c.args.bytes.now walked.passed, c.in-Replaced.is) at (c.first_seen.ensures.shown Unknown (c.args.place + walked.passed)) in
    let within = rw c.in-Replaced.is at c.first_seen.ensures.within in
    spot_within c.args.encoding c.args.handler c.args.newline c.args.last c.args.place walked.passed c.args.bytes.now (c.args.given - walked.count) walked.held c.in-Replaced.count c.in-Replaced.used (omega arith) within.0 (omega arith) (omega arith) shows
    ∙ sym c.loop-walked.invariant.spot

pub loop-walked-preserved : goal.loop-walked-preserved
loop-walked-preserved c =
    let walked : Walked = c.loop-walked.walked in
    let later : Walked = record { passed = walked.passed + c.in-Replaced.used; count = walked.count + c.in-Replaced.count; held = c.stays_held.result } in
    let within = rw c.in-Replaced.is at c.first_seen.ensures.within in
    let leads = λ (place : ℕ).
    leads_replaced c.args.encoding c.args.handler c.args.newline c.args.last place c.args.bytes.now walked later c.in-Replaced.count c.in-Replaced.used within.0 refl refl c.stays_held.ensures
    (rw (take_rest c.args.bytes.now walked.passed, c.in-Replaced.is) at (c.first_seen.ensures.shown Unknown (place + walked.passed))) in
    record {
      within = omega arith;
      counted = omega arith;
      spot = alike_later c.args.encoding c.args.handler c.args.newline c.args.last c.args.place c.args.given c.args.bytes.now walked later (omega arith) (omega arith) (omega arith) (leads c.args.place) c.loop-walked.invariant.spot;
      walked = λ goes_on. walked_later c.args.encoding c.args.handler c.args.newline c.requires.reads c.args.last c.args.bytes.now c.args.given walked later goes_on (omega arith) (omega arith) (omega arith) (omega arith) leads (c.loop-walked.invariant.walked goes_on);
    }

pub returns-in-Refused-clause-spot : goal.returns-in-Refused-clause-spot
returns-in-Refused-clause-spot c =
    let walked : Walked = c.loop-walked.walked in
    let left : ℕ = c.args.given - walked.count in
    let here : ℕ = c.args.place + walked.passed in
    let items : List Item = items_from c.args.encoding c.args.handler c.args.last c.args.place walked.passed c.args.bytes.now in
    c.boundary-in-Refused.ensures.spot
    ∙ (elim c.in-Refused.is [
      | inl refused ↦ (
          let shows = rw (take_rest c.args.bytes.now walked.passed, refused) at (c.first_seen.ensures.shown Unknown here) in
          spot_ended c.args.newline left walked.held here items (items_ended c.args.encoding c.args.handler c.args.last c.args.place walked.passed c.args.bytes.now (seen_refused _ shows))
          )
      | inr unfinished ↦ (
          let shows = rw (take_rest c.args.bytes.now walked.passed, unfinished) at (c.first_seen.ensures.shown Unknown here) in
          spot_ended c.args.newline left walked.held here items (items_ended c.args.encoding c.args.handler c.args.last c.args.place walked.passed c.args.bytes.now (seen_unfinished _ shows))
          )
    ]
    ∙ sym c.loop-walked.invariant.spot)

pub returns-then-walked-clause-spot : goal.returns-then-walked-clause-spot
returns-then-walked-clause-spot c =
    let walked : Walked = c.loop-walked.walked in
    let here : ℕ = c.args.place + walked.passed in
    let items : List Item = items_from c.args.encoding c.args.handler c.args.last c.args.place walked.passed c.args.bytes.now in
    c.boundary-then-walked.ensures.spot
    ∙ (ap at_byte (c.behind_lf-next.ensures.behind c.args.place)
    ∙ (ap (λ held. at_byte (if held then behind_lf here items else here)) (sym c.if-walked.true)
    ∙ (sym (spot_reached c.args.newline (c.args.given - walked.count) walked.held here items (omega arith))
    ∙ sym c.loop-walked.invariant.spot)))

pub returns-clause-spot : goal.returns-clause-spot
returns-clause-spot c =
    let walked : Walked = c.loop-walked.walked in
    let here : ℕ = c.args.place + walked.passed in
    let items : List Item = items_from c.args.encoding c.args.handler c.args.last c.args.place walked.passed c.args.bytes.now in
    c.boundary-2.ensures.spot
    ∙ (ap (λ held. at_byte (if held then behind_lf here items else here)) (sym c.if-walked.false)
    ∙ (sym (spot_reached c.args.newline (c.args.given - walked.count) walked.held here items (omega arith))
    ∙ sym c.loop-walked.invariant.spot))
