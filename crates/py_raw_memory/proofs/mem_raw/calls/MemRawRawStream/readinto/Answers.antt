use Rattle.std.proofs.Common.{◌≡◌, ◌≤◌, min, length, arith, sym, ap, ◌∙◌}
use Rattle.py_flat.specs.Bytes.{left_at}
use Rattle.py_flat.specs.Causes.{counted}
use Rattle.py_raw_memory.specs.MemRaw.{MemRawView, view_of}
use Rattle.py_raw_memory.proofs.ReadParts.{MovesOf, moves_in_turn, front_given, end_reached}
use Rattle.py_raw_memory.proofs.mem_raw.calls.MemRawRawStream.readinto.Goals as goal

pub returns-in-Moves-clause-outcome : goal.returns-in-Moves-clause-outcome
returns-in-Moves-clause-outcome c =
    let raw = c.args.self.now in
    let left = left_at raw.bytes.items raw.place in
    let moves : MovesOf c.min-asked.result c.in-Moves.count = moves_in_turn (view_of raw) _ _ (sym c.read_turn.ensures ∙ c.in-Moves.is) in
    let asked : c.min-asked.result ≡ min (length c.args.buf.now) (length left) = cc in
    let within : c.in-Moves.count ≤ length left = omega arith in
    record {
      fits = omega arith;
      counts = record { no_fault = λ _. ap (λ (view : MemRawView). view.shows.faults) c.count_read.ensures; no_wait = λ _. ap (λ (view : MemRawView). view.shows.waits) c.count_read.ensures };
      written = λ _. ap (λ (view : MemRawView). counted view.shows.written 0) c.count_read.ensures;
      reads = λ _. ap (λ (view : MemRawView). view.shows.reads) c.count_read.ensures;
      told = λ _. record {
        left = within;
        given = front_given left c.args.buf.now c.fill_front.new.buf c.in-Moves.count within cc;
        end = λ none some. end_reached c.args.buf.now raw.bytes.items raw.place (sym asked ∙ moves.none none) some;
      };
      bytes = λ _. ap (λ (view : MemRawView). view.shows.bytes) c.count_read.ensures;
      place = λ _. ap (λ (view : MemRawView). view.shows.place) c.count_read.ensures;
      transfers = λ _. ap (λ (view : MemRawView). view.shows.transfers) c.count_read.ensures;
    }
