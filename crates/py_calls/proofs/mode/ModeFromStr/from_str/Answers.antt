use Rattle.std.proofs.Common.{refl, sym, ◌∙◌, arith}
use Rattle.std.proofs.lemmas.Result.{err_from_is_err_and}
use Rattle.py_calls.proofs.Modes.{letter_taken, letter_refused, letters_end}
use Rattle.py_calls.proofs.mode.ModeFromStr.from_str.Goals as goal

pub loop-letter-init : goal.loop-letter-init
loop-letter-init c = rw (c.none-said.ensures, c.as_bytes-letter-items.ensures.value) refl

pub returns-in_err-said : goal.returns-in_err-said
returns-in_err-said c =
    let refused = letter_refused c.loop-letter.said c.in_err-said.field-0.0 c.as_bytes-letter-items.result.now c.loop-letter.letter-index (omega arith) (sym c.in_err-said.ensures) in
    let left = err_from_is_err_and c.from_residual.result c.from_residual.ensures.1 in
    rw (left.1, left.2) (sym refused ∙ c.loop-letter.invariant)

pub loop-letter-preserved : goal.loop-letter-preserved
loop-letter-preserved c = sym (letter_taken c.loop-letter.said c.in_ok-said.said c.as_bytes-letter-items.result.now c.loop-letter.letter-index (omega arith) (sym c.in_ok-said.ensures)) ∙ c.loop-letter.invariant

pub returns : goal.returns
returns c = c.mode.ensures ∙ (sym (letters_end c.loop-letter.said c.as_bytes-letter-items.result.now c.loop-letter.letter-index (omega arith)) ∙ c.loop-letter.invariant)
