-- How readings of an engine begin, as readings of the stream that it is.
use Rattle.std.proofs.Common.{◌≡◌, false, Result, Ok, Err, refl, sym, ap, subst}
use Rattle.py_flat.specs.declared.fault.IoFault.{IoFault}
use Rattle.py_flat.specs.declared.life.Life.TheVariants as life
use Rattle.py_stream.proofs.ReadingAnswers.{Reads, ReadingBegins, reading_refused}
use Rattle.py_stream.specs.ReadingOn.{BeginsReading}
use Rattle.py_engine.specs.Engine.{EngineView, BeginOutcome}
use Rattle.py_engine.specs.Reading.{reading_of, IsReading}
use Rattle.py_engine.proofs.Standing.{placed, readable}
use Rattle.py_engine.proofs.Transfers.{reading_whole}

-- a live engine
pub reads_live : (engine : EngineView) → engine.life ≡ life.Live → engine.short ≡ false → IsReading engine → Reads (reading_of engine)
reads_live engine live whole is = record { live = live; whole = whole; readable = readable engine.access engine.raw.seekable is.reads; bare = refl; placed = placed engine is; ahead = refl }

-- a reading that the life lets through
pub reading_begins : (first now : EngineView) → IsReading first → BeginOutcome first (Ok tt) now → ReadingBegins (reading_of first) (reading_of now)
reading_begins first now is began = record { reads = subst (λ (engine : EngineView). Reads (reading_of engine)) (sym began.1) (reads_live (record first { short = false }) began.0 refl (reading_whole first false is)); from = ap reading_of began.1 }

-- a reading begins as that of the stream does
pub begins_reading : (first now : EngineView) (result : Result (Unit {0}) IoFault) → IsReading first → BeginOutcome first result now → BeginsReading (reading_of first) result (reading_of now)
begins_reading first now (Ok done) is began =
    let begins = reading_begins first now is began in
    let reads = begins.reads in
    (record { live = reads.live; readable = reads.readable; bare = reads.bare; far = reads.placed.far; near = reads.placed.near reads.live; ahead = reads.ahead; to = (reads.placed.near reads.live).before_end }, begins.from)
begins_reading first now (Err why) is began = λ call reads. reading_refused (reading_of first) (reading_of now) call why reads (placed first is) (began.0, ap reading_of began.1)
