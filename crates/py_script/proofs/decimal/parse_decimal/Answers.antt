use Rattle.std.proofs.Common.{[], ◌∷◌, get_or, sym, ap, ◌∙◌, arith}
use Rattle.py_script.specs.Words.{as_size, value_onto}
use Rattle.py_script.proofs.Decimals.{decimal_value_of_some, value_onto_more, value_onto_none, value_onto_end, as_size_fits, fits_as_size}
use Rattle.py_script.proofs.decimal.parse_decimal.Goals as goal

pub loop-digit-preserved : goal.loop-digit-preserved
loop-digit-preserved c = record {
  same = c.loop-digit.invariant.same ∙ value_onto_more c.loop-digit.value c.args.digits.now c.loop-digit.digit-index c.in_ok-value.value (omega arith) (sym c.in_ok-value.ensures);
  fits = as_size_fits (value_onto c.loop-digit.value (get_or c.args.digits.now c.loop-digit.digit-index 0 ∷ [])) c.in_ok-value.value (sym c.in_ok-value.ensures);
  nonempty = c.loop-digit.invariant.nonempty;
}

pub returns-in_err-value : goal.returns-in_err-value
returns-in_err-value c =
    let none = value_onto_none c.loop-digit.value c.args.digits.now c.loop-digit.digit-index (omega arith) (sym c.in_err-value.ensures) in
    c.from_residual.ensures ∙ sym (decimal_value_of_some c.args.digits.now c.loop-digit.invariant.nonempty ∙ ap as_size c.loop-digit.invariant.same ∙ none)

pub returns : goal.returns
returns c =
    sym (decimal_value_of_some c.args.digits.now c.loop-digit.invariant.nonempty
    ∙ ap as_size (c.loop-digit.invariant.same ∙ value_onto_end c.loop-digit.value c.args.digits.now c.loop-digit.digit-index (omega arith))
    ∙ fits_as_size c.loop-digit.value c.loop-digit.invariant.fits)
