use Rattle.std.proofs.Common.{Err, chars, ap}
use Rattle.py_codec.specs.Encoding.{encoding_by}
use Rattle.py_codec.proofs.Refusals.{one_refusal}
use Rattle.py_codec.proofs.encoding.encode.Goals as goal

pub returns-in-Some-clause-first : goal.returns-in-Some-clause-first
returns-in-Some-clause-first g c why refuses is =
    ap (λ w. Err w) (one_refusal (encoding_by g.H.ErrorHandler.encodes c.args.errors c.args.encoding (chars c.args.text.now)) c.in-Some.fault why c.in-Some.ensures is)
