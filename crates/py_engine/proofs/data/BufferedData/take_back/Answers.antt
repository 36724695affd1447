use Rattle.std.proofs.Common.{◌≡◌, true, sym, subst, ◌∙◌}
use Rattle.py_stream.specs.Buffer.{buffer_of, may_take_back}
use Rattle.py_engine.specs.Engine.{EngineView, stream_of}
use Rattle.py_engine.proofs.Stepping.{engine_of}
use Rattle.py_engine.proofs.Preparing.{MayCut, may_cut, cut_stands, cut_shown}
use Rattle.py_engine.proofs.data.BufferedData.take_back.Goals as goal

pub invariant_of-self : goal.invariant_of-self
invariant_of-self g c =
    let was = c.self.inside in
    let old : EngineView = engine_of was.live was.raw_place was.window in
    let says : may_take_back (buffer_of (stream_of c.args.self.now) 0) c.args.count ≡ true = sym c.may_take_back.ensures ∙ c.if-not-may_take_back.false in
    let may : MayCut old c.args.count = may_cut old c.args.count c.self.invariant c.if-count-gt0.true (subst (λ (engine : EngineView). may_take_back (buffer_of (stream_of engine) 0) c.args.count ≡ true) (sym c.self.view_is) says) in
    rw (c.cut_at.ensures, c.place.ensures.place) (cut_stands old c.args.count c.self.invariant may)

pub returns-then-count-gt0-clause-takes : goal.returns-then-count-gt0-clause-takes
returns-then-count-gt0-clause-takes g c = λ taken.
    let was = c.self.inside in
    let old : EngineView = engine_of was.live was.raw_place was.window in
    let says : may_take_back (buffer_of (stream_of c.args.self.now) 0) c.args.count ≡ true = sym c.may_take_back.ensures ∙ c.if-not-may_take_back.false in
    let may : MayCut old c.args.count = may_cut old c.args.count c.self.invariant c.if-count-gt0.true (subst (λ (engine : EngineView). may_take_back (buffer_of (stream_of engine) 0) c.args.count ≡ true) (sym c.self.view_is) says) in
    (sym says, rw (← c.self.view_is, c.cut_at.ensures, c.place.ensures.place) (cut_shown old c.args.count c.self.invariant may taken))
