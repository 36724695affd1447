use Rattle.std.proofs.Common.{◌+◌, ◌-◌, ◌≤◌, refl, sym, arith}
use Rattle.py_plain.specs.Units.{Unknown}
use Rattle.py_plain.specs.Handlers.{treatment}
use Rattle.py_codec.specs.Answers.{text_of}
use Rattle.py_codec.specs.Decoding.{walk_here, walk_past}
use Rattle.py_codec.proofs.Passing.{Passes-next, Passes-as, passed_fit, front_stopped}
use Rattle.py_codec.proofs.front.push_wanted.Goals as goal

pub overflow_add-chars : goal.overflow_add-chars
overflow_add-chars g c =
    let ahead = walk_here c.args.encoding (treatment c.args.handler c.args.encoding) c.args.last c.args.bytes.now in
    let passed = rw c.in-Items.is at c.in_ok-more.ensures.passed in
    let next = Passes-next (ahead 0) ahead c.args.want _ _ _ c.loop-chars.used c.loop-chars.chars c.in-Items.more c.in-Items.given _ _ _ c.loop-chars.invariant.steps c.in_ok-more.ensures.steps c.loop-chars.invariant.passes passed.0 in
    omega (arith, passed_fit (ahead 0) _ c.args.want c.args.text.now c.pass.new.text _ _ _ next)

pub loop-chars-preserved : goal.loop-chars-preserved
loop-chars-preserved g c =
    let ahead = walk_here c.args.encoding (treatment c.args.handler c.args.encoding) c.args.last c.args.bytes.now in
    let passed = rw c.in-Items.is at c.in_ok-more.ensures.passed in
    record {
      within = omega (arith, c.loop-chars.invariant.within, passed.2);
      steps = omega (arith, c.loop-chars.invariant.steps, c.in_ok-more.ensures.steps);
      passes = Passes-next (ahead 0) ahead c.args.want _ _ _ c.loop-chars.used c.loop-chars.chars c.in-Items.more c.in-Items.given _ _ _ c.loop-chars.invariant.steps c.in_ok-more.ensures.steps c.loop-chars.invariant.passes passed.0;
    }

pub returns-in-Stopped-clause-front : goal.returns-in-Stopped-clause-front
returns-in-Stopped-clause-front g c =
    let ahead = walk_past c.args.encoding (treatment c.args.handler c.args.encoding) c.args.last c.args.bytes.now in
    let stopped = rw c.in-Stopped.is at c.in_ok-more.ensures.passed in
    let passes = Passes-as _ _ _ c.args.want _ _ (text_of c.pass.new.text) _ _ _ _ _ _ refl (sym stopped.1) refl refl refl c.loop-chars.invariant.passes in
    let least : c.args.steps.now + (c.loop-chars.steps - c.args.steps.now) ≤ c.pass.new.steps = omega (arith, c.loop-chars.invariant.steps, c.in_ok-more.ensures.steps) in
    let most : c.pass.new.steps ≤ c.args.steps.now + (c.loop-chars.steps - c.args.steps.now) + 1 = omega (arith, c.loop-chars.invariant.steps, c.in_ok-more.ensures.steps, stopped.2) in
    front_stopped (ahead Unknown 0) ahead c.args.want _ _ c.loop-chars.used c.loop-chars.chars _ _ _ c.in-Stopped.stop passes (omega (arith, c.loop-chars-test.true)) stopped.0 least most
