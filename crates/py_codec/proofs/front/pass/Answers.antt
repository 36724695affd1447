use Rattle.std.proofs.Common.{◌≡◌, ◌-◌, refl, ◌∙◌, arith}
use Rattle.std.proofs.lemmas.List.{length-drop, take_rest}
use Rattle.py_plain.specs.Handlers.{treatment}
use Rattle.py_blocks.proofs.Appended.{behind-within, counted-behind}
use Rattle.py_codec.proofs.Passing.{Passes-run, Passes-as, run_none, pass_from}
use Rattle.py_codec.proofs.front.pass.Goals as goal

pub count_past-chars-requires : goal.count_past-chars-requires
count_past-chars-requires g c =
    let run = rw (take_rest c.args.bytes.now c.args.place) at c.in_ok-run.ensures.run in
    omega (arith, c.len-from.ensures, behind-within c.args.text.now c.push_few.new.text run.text run.appended)

pub returns-then-run-gt0-clause-passed : goal.returns-then-run-gt0-clause-passed
returns-then-run-gt0-clause-passed g c =
    let bytes = c.args.bytes.now in
    let treat = treatment c.args.handler c.args.encoding in
    let run = rw (take_rest bytes c.args.place) at c.in_ok-run.ensures.run in
    let chars = counted-behind c.args.text.now c.push_few.new.text run.text c.len-from.result c.count_past-chars.result run.appended c.len-from.ensures c.count_past-chars.ensures in
    let passes = Passes-run c.args.encoding treat c.args.last bytes c.args.place c.args.want c.in_ok-run.run' _ _ run c.in_ok-run.ensures.few in
    let taken : c.count_past-chars.result ≡ c.take.new.self - c.args.steps.now = omega (arith, c.take.ensures) in
    (Passes-as _ _ _ c.args.want _ _ _ _ _ _ _ _ _ refl refl refl chars (chars ∙ taken) passes, omega arith, omega (arith, run.within, length-drop c.args.place bytes))

pub returns-clause-passed : goal.returns-clause-passed
returns-clause-passed g c =
    let bytes = c.args.bytes.now in
    let run = rw (take_rest bytes c.args.place) at c.in_ok-run.ensures.run in
    let same = run_none c.args.encoding _ _ _ c.in_ok-run.run' run (omega arith) in
    let taken : 1 ≡ c.take-2.new.self - c.args.steps.now = omega (arith, c.take-2.ensures) in
    pass_from c.args.want _ _ _ _ _ _ 1 (c.take-2.new.self - c.args.steps.now) c.pass_item.result c.requires.some same taken c.pass_item.ensures
