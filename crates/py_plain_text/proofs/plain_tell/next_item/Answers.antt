use Rattle.std.proofs.lemmas.List.{take_rest}
use Rattle.py_plain.specs.Units.{Unknown}
use Rattle.py_plain_text.proofs.PlainItems.{item_passed, nothing_passed}
use Rattle.py_plain_text.proofs.plain_tell.next_item.Goals as goal

pub returns-in-Given : goal.returns-in-Given
returns-in-Given c =
    let gives = rw (take_rest c.args.bytes.now c.args.place, c.in-Given.is) at (c.in_ok-used.ensures.shown Unknown c.args.place) in
    let some = rw (take_rest c.args.bytes.now c.args.place, c.in-Given.is) at c.in_ok-used.ensures.within in
    item_passed c.args.settings c.args.bytes.now c.args.place c.in-Given.used _ _ c.requires some gives

pub returns-in-RefusedRange : goal.returns-in-RefusedRange
returns-in-RefusedRange c =
    let gives = rw (take_rest c.args.bytes.now c.args.place) at (c.in_ok-used.ensures.shown Unknown c.args.place) in
    nothing_passed c.args.settings c.args.bytes.now c.args.place _ _ _ c.requires gives c.in-RefusedRange.is
