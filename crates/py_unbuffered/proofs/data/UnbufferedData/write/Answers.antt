use Rattle.std.proofs.Common.{◌+◌, ◌≤◌, length, Ok, refl, sym, ap, subst, arith}
use Rattle.std.proofs.lemmas.Result.{err_from_is_err_and}
use Rattle.py_flat.specs.Limits.{greatest_place}
use Rattle.py_flat.specs.Calls.{Write}
use Rattle.py_stream.specs.Answers.{Answers}
use Rattle.py_stream.specs.Replies.{taken_reply}
use Rattle.py_stream.proofs.Given.{writing_past}
use Rattle.py_unbuffered.specs.Engine.{EngineView, stream_of}
use Rattle.py_unbuffered.proofs.Putting.{write_fails, write_answers}
use Rattle.py_unbuffered.proofs.data.UnbufferedData.write.Goals as goal

pub returns-in_err-begin_writing : goal.returns-in_err-begin_writing
returns-in_err-begin_writing g c =
    let left = err_from_is_err_and c.from_residual.result c.from_residual.ensures.1 in
    rw (left.1, left.2) (c.in_err-begin_writing.ensures.begins (Write c.args.bytes.now) refl)

pub returns-then-bytes-self : goal.returns-then-bytes-self
returns-then-bytes-self g c = writing_past _ (stream_of c.begin_writing.new.self) (Write c.args.bytes.now) refl c.in_ok-begin_writing.ensures.begins (omega (arith, ap (λ (engine : EngineView). engine.place) c.self.view_is, c.self.invariant.far, c.if-bytes-self.true))

pub returns-in_err-count : goal.returns-in_err-count
returns-in_err-count g c =
    let left = err_from_is_err_and c.from_residual-in_err-count.result c.from_residual-in_err-count.ensures.1 in
    let fits : c.begin_writing.new.self.place + length c.args.bytes.now ≤ greatest_place = omega (arith, ap (λ (engine : EngineView). engine.place) c.self.view_is, c.self.invariant.far, c.if-bytes-self.false) in
    rw (left.1, left.2) (write_fails c.args.self.now c.begin_writing.new.self c.put.new.self c.args.bytes.now c.in_err-count.field-0.0 c.in_ok-begin_writing.ensures.begins fits c.in_err-count.ensures)

pub returns : goal.returns
returns g c =
    let fits : c.begin_writing.new.self.place + length c.args.bytes.now ≤ greatest_place = omega (arith, ap (λ (engine : EngineView). engine.place) c.self.view_is, c.self.invariant.far, c.if-bytes-self.false) in
    subst (λ (engine : EngineView). Answers (stream_of c.args.self.now) (Write c.args.bytes.now) (taken_reply (Ok c.in_ok-count.count)) (stream_of engine)) (sym c.note_wait.ensures)
    (write_answers c.args.self.now c.begin_writing.new.self c.put.new.self c.args.bytes.now c.in_ok-count.count c.is_none.result c.in_ok-begin_writing.ensures.begins fits c.in_ok-count.ensures c.is_none.ensures)
