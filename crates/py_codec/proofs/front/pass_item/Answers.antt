use Rattle.std.proofs.Common.{refl, arith}
use Rattle.py_plain.specs.Units.{Unknown}
use Rattle.py_plain.specs.Handlers.{treatment}
use Rattle.py_blocks.proofs.Appended.{behind-within, counted-behind}
use Rattle.py_codec.proofs.Continuing.{here-given}
use Rattle.py_codec.proofs.Passing.{Passes-item, Passes-as}
use Rattle.py_codec.proofs.front.pass_item.Goals as goal

pub count_past-requires : goal.count_past-requires
count_past-requires c =
    let shown = rw c.in-Ok-Some.field-0-is at c.in-Ok-Some.ensures.shown in
    omega (arith, c.len-from.ensures, behind-within c.args.text.now c.push_item.new.text shown.0 shown.2)

pub returns-in-Ok-Some : goal.returns-in-Ok-Some
returns-in-Ok-Some c = λ want some.
    let treat = treatment c.args.handler c.args.encoding in
    let shown = rw c.in-Ok-Some.field-0-is at c.in-Ok-Some.ensures.shown in
    let within = rw c.in-Ok-Some.field-0-is at c.in-Ok-Some.ensures.within in
    let given = here-given c.args.encoding treat c.args.last c.args.bytes.now c.args.place c.in-Ok-Some.used shown.0 within.0 shown.1 in
    let item = Passes-item Unknown _ _ c.args.place want c.in-Ok-Some.used _ _ shown.0 some given shown.2 in
    let chars = counted-behind c.args.text.now c.push_item.new.text shown.0 c.len-from.result c.count_past.result shown.2 c.len-from.ensures c.count_past.ensures in
    (Passes-as _ _ _ want _ _ _ _ _ _ _ _ _ refl refl refl chars refl item, within.0, omega (arith, within.1))
