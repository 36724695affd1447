use Rattle.std.proofs.Common.{Ok, ◌++◌, drop, ap, subst}
use Rattle.py_raw.specs.RawStream.{Raw}
use Rattle.py_stream.specs.LiveRaw.{LiveView, TransferOutcome}
use Rattle.py_stream.proofs.Transferring.{comes_at}
use Rattle.py_stream.proofs.live_raw.LiveRaw.transfer.Goals as goal

pub returns-in-Ok-clause-outcome : goal.returns-in-Ok-clause-outcome
returns-in-Ok-clause-outcome g c =
    let raw : Raw = g.R.RawStream.shows c.self.inside.raw in
    let new : Raw = g.R.RawStream.shows c.readinto.new.self in
    let room = c.room-room.ensures in (
      subst (λ (old : Raw). TransferOutcome old c.args.place c.args.buffer.now (c.readinto.new.buf ++ drop c.room-room.result c.args.buffer.now) (Ok c.in-Ok.count) new) (ap (λ (view : LiveView). view.raw) c.self.view_is)
          (comes_at raw new c.args.place c.room-room.result c.args.buffer.now c.readinto.new.buf c.in-Ok.count (g.met.R.RawStream.told_length c.self.inside.raw) room.within room.fits room.end c.readinto.auto.buf c.in-Ok.ensures.outcome),
      ap (λ (view : LiveView). record view { raw = new }) c.self.view_is,
    )
