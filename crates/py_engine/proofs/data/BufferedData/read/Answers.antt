use Rattle.std.proofs.Common.{◌≡◌, ◌<◌, ℕ, List, length, take, drop, Some, None, refl, ap, ◌∙◌, subst, arith}
use Rattle.std.proofs.lemmas.Result.{err_from_is_err_and}
use Rattle.py_flat.specs.Calls.{Bytes, NotReady, Refused, Read}
use Rattle.py_stream.specs.Replies.{bytes_reply}
use Rattle.py_window.specs.Window.{ahead_of}
use Rattle.py_engine.specs.Engine.{EngineView, Stands, stream_of}
use Rattle.py_engine.specs.Random.{GoesToRaw}
use Rattle.py_engine.specs.Reading.{reading_of, AnswersSized}
use Rattle.py_stream.proofs.ReadingOn.{cut_to}
use Rattle.py_engine.proofs.Random.{begins_not, went_not, went_unready, went_reads, went_on, rest_goes, size_goes, stands_begun, lacks, size_held, size_on}
use Rattle.py_engine.proofs.data.BufferedData.read.Goals as goal

pub returns-in_err-begin : goal.returns-in_err-begin
returns-in_err-begin g c =
    let left = err_from_is_err_and c.from_residual.result c.from_residual.ensures.1 in
    rw (left.1, left.2) (begins_not c.args.self.now c.begin.new.self (Read c.args.size) c.in_err-begin.field-0.0 refl (subst Stands c.self.view_is c.self.invariant) c.in_err-begin.ensures)

pub returns-in_err-go_ahead : goal.returns-in_err-go_ahead
returns-in_err-go_ahead g c =
    let left = err_from_is_err_and c.from_residual-in_err-go_ahead.result c.from_residual-in_err-go_ahead.ensures.1 in
    rw (c.in_default.is, left.1, left.2) (went_not c.args.self.now c.begin.new.self (Read None) c.in_ok-begin.ensures (rest_goes c.begin.new.self) c.go_ahead.new.self c.in_err-go_ahead.field-0.0 c.in_err-go_ahead.ensures)

pub returns-then-not-branch : goal.returns-then-not-branch
returns-then-not-branch g c = rw c.in_default.is (went_unready c.args.self.now c.begin.new.self (Read None) c.in_ok-begin.ensures (rest_goes c.begin.new.self) c.go_ahead.new.self c.in_ok-go_ahead.field-0 c.if-not-branch.true c.in_ok-go_ahead.ensures)

pub returns-in_default : goal.returns-in_default
returns-in_default g c =
    let goes : GoesToRaw (stream_of c.begin.new.self) (Read None) = rest_goes c.begin.new.self in
    rw c.in_default.is
    (went_on c.args.self.now c.begin.new.self (Read None) c.in_ok-begin.ensures goes c.go_ahead.new.self c.read_rest.new.stream c.in_ok-go_ahead.field-0 (bytes_reply c.read_rest.result) c.if-not-branch.false c.in_ok-go_ahead.ensures
    (c.read_rest.ensures.reads (went_reads c.args.self.now c.begin.new.self (Read None) c.in_ok-begin.ensures goes c.go_ahead.new.self c.in_ok-go_ahead.field-0 c.if-not-branch.false c.in_ok-go_ahead.ensures)) (λ wanting takes. absurd (cc)) c.read_rest.ensures.answers)

pub returns-in_err-bytes : goal.returns-in_err-bytes
returns-in_err-bytes g c =
    let left = err_from_is_err_and c.from_residual-in_err-bytes.result c.from_residual-in_err-bytes.ensures.1 in
    rw (c.in-Some.is, left.1, left.2, c.in_err-bytes.ensures.0, c.in_err-bytes.ensures.1) (lacks c.args.self.now c.begin.new.self (subst Stands c.self.view_is c.self.invariant) c.requires.reads c.in_ok-begin.ensures (Read (Some c.in-Some.size)) refl refl)

pub returns-then-size-ahead : goal.returns-then-size-ahead
returns-then-size-ahead g c =
    rw c.in-Some.is (size_held c.args.self.now c.begin.new.self (subst Stands c.self.view_is c.self.invariant) c.requires.reads c.in_ok-begin.ensures c.give.new.self c.in-Some.size c.in_ok-bytes.bytes.items (omega (arith, c.if-size-ahead.true, ap length c.ahead.ensures, ap (λ (engine : EngineView). length (ahead_of engine.window)) c.self-2.view_is)) c.in_ok-bytes.ensures.0 c.in_ok-bytes.ensures.1)

pub returns-in_default-vec : goal.returns-in_default-vec
returns-in_default-vec g c = rw c.in-Some.is (lacks c.args.self.now c.begin.new.self (subst Stands c.self.view_is c.self.invariant) c.requires.reads c.in_ok-begin.ensures (Read (Some c.in-Some.size)) refl refl)

pub returns-in_err-go_ahead-2 : goal.returns-in_err-go_ahead-2
returns-in_err-go_ahead-2 g c =
    let more : length (ahead_of c.begin.new.self.window) < c.in-Some.size = omega (arith, c.if-size-ahead.false, ap length c.ahead.ensures, ap (λ (engine : EngineView). length (ahead_of engine.window)) c.self-2.view_is) in
    let is : Stands c.begin.new.self = stands_begun c.args.self.now c.begin.new.self (subst Stands c.self.view_is c.self.invariant) c.in_ok-begin.ensures in
    let left = err_from_is_err_and c.from_residual-in_err-go_ahead-2.result c.from_residual-in_err-go_ahead-2.ensures.1 in
    rw (c.in-Some.is, left.1, left.2) (went_not c.args.self.now c.begin.new.self (Read (Some c.in-Some.size)) c.in_ok-begin.ensures (size_goes c.begin.new.self c.in-Some.size is.window_is more) c.go_ahead-2.new.self c.in_err-go_ahead-2.field-0.0 c.in_err-go_ahead-2.ensures)

pub returns-then-not-branch-2 : goal.returns-then-not-branch-2
returns-then-not-branch-2 g c =
    let more : length (ahead_of c.begin.new.self.window) < c.in-Some.size = omega (arith, c.if-size-ahead.false, ap length c.ahead.ensures, ap (λ (engine : EngineView). length (ahead_of engine.window)) c.self-2.view_is) in
    let is : Stands c.begin.new.self = stands_begun c.args.self.now c.begin.new.self (subst Stands c.self.view_is c.self.invariant) c.in_ok-begin.ensures in
    rw c.in-Some.is (went_unready c.args.self.now c.begin.new.self (Read (Some c.in-Some.size)) c.in_ok-begin.ensures (size_goes c.begin.new.self c.in-Some.size is.window_is more) c.go_ahead-2.new.self c.in_ok-go_ahead-2.field-0 c.if-not-branch-2.true c.in_ok-go_ahead-2.ensures)

pub returns-in_err-count : goal.returns-in_err-count
returns-in_err-count g c =
    let more : length (ahead_of c.begin.new.self.window) < c.in-Some.size = omega (arith, c.if-size-ahead.false, ap length c.ahead.ensures, ap (λ (engine : EngineView). length (ahead_of engine.window)) c.self-2.view_is) in
    let left = err_from_is_err_and c.from_residual-in_err-count.result c.from_residual-in_err-count.ensures.1 in
    rw (c.in-Some.is, left.1, left.2)
    (size_on c.args.self.now c.begin.new.self c.go_ahead-2.new.self c.fill_up.new.self c.in-Some.size (length c.deref_mut.result.now) c.in_ok-go_ahead-2.field-0 (Refused c.in_err-count.field-0.0) (subst Stands c.self.view_is c.self.invariant) c.in_ok-begin.ensures more c.if-not-branch-2.false c.in_ok-go_ahead-2.ensures c.fill_up.ensures.reads (c.deref_mut.ensures.len ∙ c.in-Ok.ensures.len) c.in_err-count.ensures.answers)

pub returns-in_default-2 : goal.returns-in_default-2
returns-in_default-2 g c =
    let more : length (ahead_of c.begin.new.self.window) < c.in-Some.size = omega (arith, c.if-size-ahead.false, ap length c.ahead.ensures, ap (λ (engine : EngineView). length (ahead_of engine.window)) c.self-2.view_is) in
    let answers : AnswersSized (reading_of c.go_ahead-2.new.self) (length c.deref_mut.result.now) NotReady (reading_of c.fill_up.new.self) = rw c.in_default-2.is at c.in_ok-count.ensures.answers in
    rw c.in-Some.is
    (size_on c.args.self.now c.begin.new.self c.go_ahead-2.new.self c.fill_up.new.self c.in-Some.size (length c.deref_mut.result.now) c.in_ok-go_ahead-2.field-0 NotReady (subst Stands c.self.view_is c.self.invariant) c.in_ok-begin.ensures more c.if-not-branch-2.false c.in_ok-go_ahead-2.ensures c.fill_up.ensures.reads (c.deref_mut.ensures.len ∙ c.in-Ok.ensures.len) answers)

pub returns : goal.returns
returns g c =
    let more : length (ahead_of c.begin.new.self.window) < c.in-Some.size = omega (arith, c.if-size-ahead.false, ap length c.ahead.ensures, ap (λ (engine : EngineView). length (ahead_of engine.window)) c.self-2.view_is) in
    let buffer : List ℕ = c.fill_up.new.buffer in
    let count : ℕ = c.in-Some-2.count in
    let cut : c.truncate.new.self.items ≡ take count buffer = ◌∙◌ {A = List ℕ} c.truncate.ensures.items (cut_to buffer (drop (length buffer) c.in-Ok.space.items) count c.in-Ok.space.len (c.fill_up.ensures.length ∙ c.deref_mut.ensures.len)) in
    let answers : AnswersSized (reading_of c.go_ahead-2.new.self) (length c.deref_mut.result.now) (Bytes (take count buffer)) (reading_of c.fill_up.new.self) = rw c.in-Some-2.is at c.in_ok-count.ensures.answers in
    rw (c.in-Some.is, cut)
    (size_on c.args.self.now c.begin.new.self c.go_ahead-2.new.self c.fill_up.new.self c.in-Some.size (length c.deref_mut.result.now) c.in_ok-go_ahead-2.field-0 (Bytes (take count buffer)) (subst Stands c.self.view_is c.self.invariant) c.in_ok-begin.ensures more c.if-not-branch-2.false c.in_ok-go_ahead-2.ensures c.fill_up.ensures.reads (c.deref_mut.ensures.len ∙ c.in-Ok.ensures.len) answers)
