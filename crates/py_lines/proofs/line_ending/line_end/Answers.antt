use Rattle.std.proofs.Common.{[], ◌+◌, ℕ, List, take, refl, sym, ap, ◌∙◌, arith}
use Rattle.py_lines.specs.Collecting.{LineView, limit_left, FitsLimit}
use Rattle.py_lines.proofs.Lines.{none_in, found_in}
use Rattle.py_lines.proofs.Collectors.{fits_less, left_is, left_isnt, none_taken, none_fits, none_open, took, line_has_end, line_is_full, line_goes_on, full_after}
use Rattle.py_lines.proofs.line_ending.line_end.Goals as goal

pub returns-in-Some : goal.returns-in-Some
returns-in-Some c =
    let view : LineView = record { line = []; limit = c.args.limit } in
    let bytes : List ℕ = c.args.bytes.now in
    let most : FitsLimit view c.allowed-allowed.result = none_fits c.args.limit c.allowed-allowed.result c.allowed-allowed.ensures.fits in
    let found = found_in bytes c.allowed-allowed.result c.in-Some.at c.in-Some.ensures.0 c.in-Some.ensures.1 in
    let fits : FitsLimit view (c.in-Some.at + 1) = fits_less view (c.in-Some.at + 1) c.allowed-allowed.result (omega (arith, found.0)) most in
    (line_has_end view (took view (take (c.in-Some.at + 1) bytes)) bytes c.in-Some.at (none_open c.args.limit) found.1 fits refl, fits)

pub returns-then-eq : goal.returns-then-eq
returns-then-eq c =
    let view : LineView = record { line = []; limit = c.args.limit } in
    let bytes : List ℕ = c.args.bytes.now in
    let allowed : ℕ = c.allowed-allowed.result in
    let most : FitsLimit view allowed = none_fits c.args.limit allowed c.allowed-allowed.ensures.fits in (
      line_is_full view (took view (take allowed bytes)) bytes allowed (none_open c.args.limit) c.allowed-allowed.ensures.within (none_in _ c.in_default.ensures) most refl
          (full_after view bytes allowed c.allowed-allowed.ensures.within (none_taken c.args.limit ∙ left_is c.args.limit allowed (sym c.if-eq.ensures))),
      most,
    )

pub returns : goal.returns
returns c =
    let view : LineView = record { line = []; limit = c.args.limit } in
    line_goes_on view c.args.bytes.now c.allowed-allowed.result (none_open c.args.limit) c.allowed-allowed.ensures.within (λ less. ap (limit_left c.args.limit) (omega arith) ∙ c.allowed-allowed.ensures.short less) (none_in _ c.in_default.ensures) (none_fits c.args.limit c.allowed-allowed.result c.allowed-allowed.ensures.fits)
    (λ none. left_isnt c.args.limit c.allowed-allowed.result (sym c.if-eq.ensures) (sym (none_taken c.args.limit) ∙ none))
