use Rattle.std.proofs.Common.{rules, arith, ◌≡◌, ◌+◌, ℕ, List, length, take, drop, ap, ◌∙◌}
use Rattle.std.proofs.lemmas.List.{length-take-le, length-drop}
use Rattle.py_stream.proofs.ReadingInto.{lengthened, length-lengthened, vector_read}
use Rattle.py_stream.proofs.reading_on.read_more.Goals as goal

pub returns-clause-outcome : goal.returns-clause-outcome
returns-clause-outcome g c =
    let start : ℕ = c.len-length.result in
    let before : List ℕ = c.args.bytes.now.items in
    let buffer : List ℕ = c.read_behind.new.buffer in
    let progress = c.in_ok-progress.progress in
    let read = c.in_ok-progress.ensures.outcome in
    let size : length before ≡ start = omega (arith, c.args.bytes.now.ok.0) in
    let resized : c.append_zeros.new.bytes.items ≡ lengthened c.args.more before = search rules in
    let long : length buffer ≡ length c.append_zeros.new.bytes.items = c.read_behind.ensures.length ∙ ap length c.as_mut_slice.ensures.value in
    let all : length c.append_zeros.new.bytes.items ≡ start + c.args.more = omega (arith, ap length resized, length-lengthened c.args.more before, size) in
    record {
      part = take progress.count (drop start buffer);
      behind = vector_read before c.append_zeros.new.bytes.items buffer c.truncate.new.self.items start c.args.more progress.count c.append_zeros.new.bytes.len size resized long (c.read_behind.ensures.front ∙ ap (take start) c.as_mut_slice.ensures.value) (omega (arith, c.append_zeros.new.bytes.ok.0)) read.fits c.truncate.ensures.items;
      full = λ enough. omega (arith, length-take-le progress.count (drop start buffer) read.fits, read.full enough, length-drop start buffer);
      to = read.to;
      stops = read.stops;
    }
