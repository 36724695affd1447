use Rattle.std.proofs.Common.{sym, ◌∙◌, arith}
use Rattle.py_raw.proofs.ModeLetters.{letter_passes, letter_offends, letters_end}
use Rattle.py_raw.proofs.mode_letters.first_offence.Goals as goal

pub returns-in-Some : goal.returns-in-Some
returns-in-Some c = sym (letter_offends c.args.letters.now c.loop-place.place c.in-Some.why c.loop-place-test.true (sym c.offence_behind.ensures ∙ c.in-Some.is)) ∙ c.loop-place.invariant

pub loop-place-preserved : goal.loop-place-preserved
loop-place-preserved c = sym (letter_passes c.args.letters.now c.loop-place.place c.loop-place-test.true (sym c.offence_behind.ensures ∙ c.in_default.is)) ∙ c.loop-place.invariant

pub returns : goal.returns
returns c =
    let ends = letters_end c.args.letters.now c.loop-place.place c.loop-place-test.false in
    grind (arith, c.then_some.ensures, c.has_file_letter.ensures, c.loop-place.invariant)
