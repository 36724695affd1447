use denote.Param.{param}
use Rattle.std.specs.contracts.io.traits.BufRead.fill_buf.{clauses as asked}
use Rattle.py_adapters.specs.contracts.std_stream.StdStream.{the_row}
use Rattle.py_adapters.specs.contracts.std_stream.StdStreamRead.TheImpl as reads
use Rattle.py_adapters.specs.contracts.std_stream.StdStreamBufRead.TheImpl as lends
use Rattle.py_adapters.specs.contracts.std_stream.StdStreamBufRead.fill_buf.{clauses as own, ensures-after_borrow as own_after}
use Rattle.py_adapters.proofs.Rests.{rests_first, held_weaker, turns}
use Rattle.py_adapters.proofs.std_stream.StdStreamBufRead.TheImpl.Goals as goal

pub fill_buf-meets : goal.fill_buf-meets
fill_buf-meets g c =
    turns g.world.𝓤 _ _
    (λ r e. (own g.row.S g.S.LendHeld g.S.LendHeld-dict g.S.ReadOnce g.S.ReadOnce-dict g.world.𝓛 g.world.𝓜.mem g.world.𝓡.returns (c.lifetimes.0, (c.lifetimes.1.0, tt {0})) (c.args.self, tt {0})).ensures tt r e)
    (λ r e. (asked (the_row (param 0 g.row.S)) (lends.ghosts g.row.S g.S.LendHeld g.S.LendHeld-dict g.S.ReadOnce g.S.ReadOnce-dict) (lends.dict g.row.S g.S.LendHeld g.S.LendHeld-dict g.S.ReadOnce g.S.ReadOnce-dict) (reads.ghosts g.row.S g.S.ReadOnce g.S.ReadOnce-dict) (reads.dict g.row.S g.S.ReadOnce g.S.ReadOnce-dict) g.world.𝓛 g.world.𝓜.mem g.world.𝓡.returns c.lifetimes (c.args.self, tt {0})).ensures c.ghost r (e.0, tt {0}))
    (λ r e. held_weaker g.world.𝓤 _ _ _ (own_after g.row.S g.S.LendHeld g.S.LendHeld-dict g.S.ReadOnce g.S.ReadOnce-dict {M = g.world.M} {𝓤 = g.world.𝓤} g.world.𝓛 (c.lifetimes.0, (c.lifetimes.1.0, tt {0})) g.world.𝓜.mem g.world.𝓡.returns c.args.self (record { entry = c.args.self; exit = e.0 }) r) _ (rests_first g.world.𝓛 (the_row (param 0 g.row.S)) c.args.self _ _))
