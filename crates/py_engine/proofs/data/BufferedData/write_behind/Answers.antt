use Rattle.std.proofs.Common.{◌≡◌, Err, refl, ap, ◌∙◌, arith}
use Rattle.std.proofs.lemmas.Result.{err_from_is_err_and}
use Rattle.py_flat.specs.Calls.{Write}
use Rattle.py_stream.proofs.Given.{begun_on, writing_past, giving_takes, giving_blocks, giving_fails, one_write, puts_one}
use Rattle.py_window.specs.Window.{place_of}
use Rattle.py_engine.specs.Engine.{EngineView, stream_of}
use Rattle.py_engine.proofs.data.BufferedData.write_behind.Goals as goal

pub returns-in_err-begin_writing : goal.returns-in_err-begin_writing
returns-in_err-begin_writing g c =
    let left = err_from_is_err_and c.from_residual.result c.from_residual.ensures.1 in
    rw (left.1, left.2) (c.in_err-begin_writing.ensures.begins (Write c.args.bytes.now) refl)

pub returns-then-bytes-start : goal.returns-then-bytes-start
returns-then-bytes-start g c = writing_past _ (stream_of c.begin_writing.new.self) (Write c.args.bytes.now) refl c.in_ok-begin_writing.ensures.begins (omega (arith, (c.place-start.ensures.place ∙ ap (λ (engine : EngineView). place_of engine.window) c.self.view_is), c.if-bytes-start.true))

pub returns-in_err-put : goal.returns-in_err-put
returns-in_err-put g c =
    let start : c.place-start.result ≡ place_of c.begin_writing.new.self.window = c.place-start.ensures.place ∙ ap (λ (engine : EngineView). place_of engine.window) c.self.view_is in
    let begun = begun_on (stream_of c.args.self.now) (stream_of c.begin_writing.new.self) (Write c.args.bytes.now) refl refl refl c.in_ok-begin_writing.ensures.begins (omega (arith, start, c.place-start.ensures.within, c.if-bytes-start.false)) in
    let left = err_from_is_err_and c.from_residual-in_err-put.result c.from_residual-in_err-put.ensures.1 in
    rw (left.1, left.2) (giving_fails (stream_of c.args.self.now) (stream_of c.begin_writing.new.self) (stream_of c.put.new.self) (Write c.args.bytes.now) c.place-start.result c.in_err-put.field-0.0 begun start
    (puts_one (stream_of c.begin_writing.new.self) (stream_of c.put.new.self) c.args.bytes.now c.place-start.result (Err c.in_err-put.field-0.0) c.in_err-put.ensures.outcome)
    (one_write (stream_of c.begin_writing.new.self) (stream_of c.put.new.self) c.args.bytes.now c.place-start.result c.in_err-put.field-0.0 c.in_err-put.ensures.outcome) c.in_err-put.ensures.room)

pub returns-then-branch : goal.returns-then-branch
returns-then-branch g c =
    let begun = begun_on (stream_of c.args.self.now) (stream_of c.begin_writing.new.self) (Write c.args.bytes.now) refl refl refl c.in_ok-begin_writing.ensures.begins (omega (arith, (c.place-start.ensures.place ∙ ap (λ (engine : EngineView). place_of engine.window) c.self.view_is), c.place-start.ensures.within, c.if-bytes-start.false)) in
    giving_takes (stream_of c.args.self.now) (stream_of c.begin_writing.new.self) (stream_of c.put.new.self) (Write c.args.bytes.now) begun (rw c.if-branch.true at c.in_ok-put.ensures.outcome) (rw c.if-branch.true at c.in_ok-put.ensures.room)

pub returns-else-branch : goal.returns-else-branch
returns-else-branch g c =
    let start : c.place-start.result ≡ place_of c.begin_writing.new.self.window = c.place-start.ensures.place ∙ ap (λ (engine : EngineView). place_of engine.window) c.self.view_is in
    let begun = begun_on (stream_of c.args.self.now) (stream_of c.begin_writing.new.self) (Write c.args.bytes.now) refl refl refl c.in_ok-begin_writing.ensures.begins (omega (arith, start, c.place-start.ensures.within, c.if-bytes-start.false)) in
    giving_blocks (stream_of c.args.self.now) (stream_of c.begin_writing.new.self) (stream_of c.put.new.self) (stream_of c.blocked.new.self) (Write c.args.bytes.now) c.place-start.result c.blocked.result begun start (rw c.if-branch.false at c.in_ok-put.ensures.outcome) (rw c.if-branch.false at c.in_ok-put.ensures.room) c.blocked.ensures.fault (ap stream_of c.blocked.ensures.stream)
