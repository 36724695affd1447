use Rattle.std.proofs.Common.{Err, subst}
use Rattle.std.proofs.lemmas.Result.{err_from_is_err_and}
use Rattle.py_stream.proofs.Given.{writing_refused}
use Rattle.py_unbuffered.specs.Engine.{stream_of}
use Rattle.py_unbuffered.proofs.Begun.{Stands, begins, is_placed}
use Rattle.py_unbuffered.proofs.data.writing.UnbufferedDataTakesPieces.begin_writing.Goals as goal

pub returns-in_err-begin : goal.returns-in_err-begin
returns-in_err-begin g c =
    let left = err_from_is_err_and c.from_residual.result c.from_residual.ensures.1 in
    let refused = writing_refused (stream_of c.args.self.now) (stream_of c.begin.new.self) c.in_err-begin.field-0.0 (is_placed c.args.self.now (subst Stands c.self.view_is c.self.invariant)) (begins c.args.self.now c.begin.new.self (Err c.in_err-begin.field-0.0) c.in_err-begin.ensures) in
    rw (left.1, left.2) (record { begins = refused; takes = tt })
