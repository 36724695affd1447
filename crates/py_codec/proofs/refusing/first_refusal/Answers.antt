use Rattle.std.proofs.Common.{◌≡◌, true, false, Err, chars, sym, ap, ◌∙◌, arith}
use Rattle.py_blocks.proofs.Written.{chars_within}
use Rattle.py_codec.proofs.Refusals.{refused-at, refused-not}
use Rattle.py_codec.proofs.refusing.first_refusal.Goals as goal

pub encode_error-requires : goal.encode_error-requires
encode_error-requires g c =
    omega (arith, c.in-Some.ensures.within, chars_within c.args.text.now c.utf8.text)

pub returns-then-not-refuses_runs : goal.returns-then-not-refuses_runs
returns-then-not-refuses_runs g c why refuses is =
    let never : true ≡ false = sym refuses ∙ (sym c.refuses_runs.ensures ∙ c.if-not-refuses_runs.true) in
    cc

pub returns-in-Some : goal.returns-in-Some
returns-in-Some g c =
    let refused = refused-at g.H.ErrorHandler.encodes c.args.errors c.args.encoding (chars c.args.text.now) c.in-Some.place _ (sym c.refuses_runs.ensures ∙ c.if-not-refuses_runs.false) c.in-Some.ensures.run in
    refused ∙ ap (λ why. Err why) (sym c.encode_error.ensures)

pub returns-in-None : goal.returns-in-None
returns-in-None g c why refuses is =
    refused-not g.H.ErrorHandler.encodes c.args.errors c.args.encoding (chars c.args.text.now) why refuses c.in-None.ensures.run is
