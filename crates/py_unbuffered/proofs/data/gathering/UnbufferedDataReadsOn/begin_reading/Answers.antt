use Rattle.std.proofs.Common.{Err, sym, ap, ◌∙◌, subst}
use Rattle.std.proofs.lemmas.Result.{err_from_is_err_and}
use Rattle.py_stream.proofs.ReadingAnswers.{reading_refused}
use Rattle.py_stream.specs.Access.{is_read}
use Rattle.py_unbuffered.specs.Engine.{EngineView, stream_of}
use Rattle.py_unbuffered.proofs.Begun.{Stands, begins, is_placed, reading_begins, reading_lacks}
use Rattle.py_unbuffered.proofs.data.gathering.UnbufferedDataReadsOn.begin_reading.Goals as goal
use Rattle.py_unbuffered.proofs.data.gathering.UnbufferedDataReadsOn.begin_reading.Goals.{then-reads, else-reads}

pub returns-in_err-begin-clause-begins : goal.returns-in_err-begin-clause-begins
returns-in_err-begin-clause-begins g c =
    let left = err_from_is_err_and c.from_residual.result c.from_residual.ensures.1 in
    rw (left.1, left.2) (λ call reads. reading_refused (stream_of c.args.self.now) (stream_of c.begin.new.self) call c.in_err-begin.field-0.0 reads (is_placed c.args.self.now (subst Stands c.self.view_is c.self.invariant)) (begins c.args.self.now c.begin.new.self (Err c.in_err-begin.field-0.0) c.in_err-begin.ensures))

pub returns-clause-begins : goal.returns-clause-begins
returns-clause-begins g c = elim c.if-reads.branch [
  | then-reads w ↦ rw w.result-is (reading_begins c.args.self.now c.begin.new.self (subst Stands c.self.view_is c.self.invariant) c.in_ok-begin.ensures (ap (λ (engine : EngineView). is_read engine.access) (sym c.self-2.view_is) ∙ sym c.reads.ensures.access ∙ w.if-reads.true))
  | else-reads w ↦ rw w.result-is (reading_lacks c.args.self.now c.begin.new.self (subst Stands c.self.view_is c.self.invariant) c.in_ok-begin.ensures (ap (λ (engine : EngineView). is_read engine.access) (sym c.self-2.view_is) ∙ sym c.reads.ensures.access ∙ w.if-reads.false))
]
