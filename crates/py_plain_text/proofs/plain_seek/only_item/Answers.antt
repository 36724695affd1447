use Rattle.py_plain.specs.Units.{Unknown}
use Rattle.py_plain_text.proofs.PlainLanding.{only_whole, only_part, only_none, only_few}
use Rattle.py_plain_text.proofs.plain_seek.only_item.Goals as goal

pub returns-then-used-bytes-clause-only : goal.returns-then-used-bytes-clause-only
returns-then-used-bytes-clause-only c = λ place.
    let gives = rw (c.in-Given.is, c.new-characters.ensures.items) at (c.in_ok-used.ensures.shown Unknown place) in
    let some = rw c.in-Given.is at c.in_ok-used.ensures.within in
    only_whole c.args.settings c.args.last place c.args.bytes.now _ c.in-Given.used some.0 c.if-used-bytes.true gives

pub returns-then-used-bytes-clause-few : goal.returns-then-used-bytes-clause-few
returns-then-used-bytes-clause-few c =
    let gives = rw (c.in-Given.is, c.new-characters.ensures.items) at (c.in_ok-used.ensures.shown Unknown 0) in
    only_few c.args.settings c.args.last 0 c.args.bytes.now _ c.in-Given.used gives

pub returns-else-used-bytes-clause-only : goal.returns-else-used-bytes-clause-only
returns-else-used-bytes-clause-only c = λ place.
    let gives = rw (c.in-Given.is, c.new-characters.ensures.items) at (c.in_ok-used.ensures.shown Unknown place) in
    let some = rw c.in-Given.is at c.in_ok-used.ensures.within in
    only_part c.args.settings c.args.last place c.args.bytes.now _ c.in-Given.used c.requires some.0 c.if-used-bytes.false gives

pub returns-in-RefusedRange : goal.returns-in-RefusedRange
returns-in-RefusedRange c = record {
  only = λ place.
      let gives = rw (c.new-characters.ensures.items) at (c.in_ok-used.ensures.shown Unknown place) in
      only_none c.args.settings c.args.last place c.args.bytes.now _ _ c.requires gives c.in-RefusedRange.is;
  few = tt;
}
