use Rattle.std.proofs.Common.{◌≤◌, ◌++◌, refl, sym, ap, ◌∙◌, arith}
use Rattle.std.specs.Fmt.{is_char_start}
use Rattle.std.specs.List.{count_by}
use Rattle.std.proofs.lemmas.List.{append-nil, take_all}
use Rattle.py_blocks.proofs.Beginning.{appended-to, count-to, count-within}
use Rattle.py_blocks.proofs.counting.push_counted.Goals as goal

pub loop-place-init : goal.loop-place-init
loop-place-init c = record { within = omega arith; counted = refl; appended = sym (append-nil c.args.bytes.now.items) }

pub overflow_add-count : goal.overflow_add-count
overflow_add-count c =
    let text = c.args.text.now in
    omega (arith, c.loop-place.invariant.counted, c.count_starts-count.ensures, count-to text c.loop-place.place c.min-end.result (omega arith), count-within text c.min-end.result)

pub loop-place-preserved : goal.loop-place-preserved
loop-place-preserved c =
    let text = c.args.text.now in
    let place = c.loop-place.place in
    let further : place ≤ c.min-end.result = omega arith in
    record {
      within = omega arith;
      counted = omega (arith, c.loop-place.invariant.counted, c.count_starts-count.ensures, count-to text place c.min-end.result further);
      appended = appended-to text c.args.bytes.now.items c.loop-place.bytes.items _ place c.min-end.result further c.loop-place.invariant.appended c.in_ok-extend_from_slice.ensures.items;
    }

pub returns-clause-counted : goal.returns-clause-counted
returns-clause-counted c =
    let text = c.args.text.now in
    c.loop-place.invariant.counted ∙ ap (count_by is_char_start) (take_all c.loop-place.place text (omega arith))

pub returns-clause-appended : goal.returns-clause-appended
returns-clause-appended c =
    let text = c.args.text.now in
    c.loop-place.invariant.appended ∙ ap (λ front. c.args.bytes.now.items ++ front) (take_all c.loop-place.place text (omega arith))
