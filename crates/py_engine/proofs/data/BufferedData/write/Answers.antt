use Rattle.std.proofs.Common.{Bool, false, Ok, subst}
use Rattle.py_engine.specs.Engine.{stream_of}
use Rattle.py_engine.specs.RandomWriting.{GivesOutcome}
use Rattle.py_engine.specs.declared.data.given.Given.TheVariants as gives
use Rattle.py_engine.proofs.data.BufferedData.write.Goals as goal

pub returns : goal.returns
returns g c =
    let goes : GivesOutcome c.args.self.now (gives.Bytes c.args.bytes) (Ok false) c.give_among.new.self = subst (λ (all : Bool). GivesOutcome c.args.self.now (gives.Bytes c.args.bytes) (Ok all) c.give_among.new.self) c.if-branch.false c.in_ok-give_among.ensures.outcome in
    goes _ (stream_of c.write_behind.new.self) c.write_behind.ensures
