use Rattle.std.proofs.Common.{◌≡◌, ◌+◌, ◌≤◌, length, take, arith, ◌∙◌, ◌++◌, replicate, ◌-◌}
use Rattle.std.proofs.lemmas.Grind.{common_steps}
use Rattle.std.proofs.lemmas.List.{take_at}
use Rattle.py_raw.specs.RawStream.{AsksToWait, ReadBytes}
use Rattle.py_raw.proofs.ReadingOn.{Keeps-then, cut_behind, cut_back, so_far_more, reads_to_end, waits_or_stops}
use Rattle.py_raw.proofs.raw_stream.RawStream.readall.Goals as goal

pub overflow_add-held : goal.overflow_add-held
overflow_add-held g c = omega (arith, c.transfers.out.ok, c.transfers.out.small)

pub transfers-preserved : goal.transfers-preserved
transfers-preserved g c =
    let held = c.transfers.out.items in
    let buffer = c.readinto.new.buf in
    let count = c.in-Ok-Some.count in
    let long : c.len-held.result ≡ length held = omega (arith, c.transfers.out.ok) in
    let widened : c.lengthen.new.bytes.items ≡ held ++ replicate (c.len-held.result + c.next_chunk.result - length held) 0 = grind (arith, c.lengthen.ensures, c.if-is_err.ensures) in
    let front : take c.len-held.result c.deref_mut.result.now ≡ held = grind (arith, common_steps, take_at) in
    let moved : ReadBytes (g.Self.RawStream.shows c.transfers.self) _ count buffer (g.Self.RawStream.shows c.readinto.new.self) = rw c.in-Ok-Some.field-0-is at c.in-Ok-Some.ensures.outcome in
    let some : 1 ≤ count = grind (arith, c.in-Ok-Some.count-test) in
    let within : count ≤ length buffer = omega (arith, moved.fits, c.readinto.auto.buf) in
    let enough : c.len-held.result + count ≤ c.lengthen.new.bytes.len = grind (arith, common_steps, moved.fits, c.deref_mut.ensures.len) in
    let is : c.truncate-in-Ok-Some.new.self.items ≡ held ++ take count buffer = cut_behind held (take c.len-held.result c.deref_mut.result.now) buffer _ _ _ _ _ _ front long within enough c.truncate-in-Ok-Some.ensures.items in
    record {
      began = c.transfers.invariant.began;
      keeps = Keeps-then _ _ _ c.transfers.invariant.keeps c.readinto.ensures.keeps;
      stays = c.readinto.ensures.open ∙ c.transfers.invariant.stays;
      so_far = rw is (so_far_more _ _ _ _ _ _ _ _ c.transfers.invariant.keeps c.transfers.invariant.so_far moved some within);
    }

pub returns-in-Ok-Some-eq0-clause-outcome : goal.returns-in-Ok-Some-eq0-clause-outcome
returns-in-Ok-Some-eq0-clause-outcome g c =
    let held = c.transfers.out.items in
    let long : c.len-held.result ≡ length held = omega (arith, c.transfers.out.ok) in
    let widened : c.lengthen.new.bytes.items ≡ held ++ replicate (c.len-held.result + c.next_chunk.result - length held) 0 = grind (arith, c.lengthen.ensures, c.if-is_err.ensures) in
    let front : take c.len-held.result c.deref_mut.result.now ≡ held = grind (arith, common_steps, take_at) in
    let whole : c.lengthen.new.bytes.len ≡ c.len-held.result + c.next_chunk.result = grind (arith, common_steps) in
    let moved : ReadBytes (g.Self.RawStream.shows c.transfers.self) _ c.in-Ok-Some-eq0.field-0-0 c.readinto.new.buf (g.Self.RawStream.shows c.readinto.new.self) = rw c.in-Ok-Some-eq0.field-0-is at c.in-Ok-Some-eq0.ensures.outcome in
    let none : c.in-Ok-Some-eq0.field-0-0 ≡ 0 = grind (arith, c.in-Ok-Some-eq0.field-0-0-test) in
    let is : c.truncate.new.self.items ≡ held = cut_back held (take c.len-held.result c.deref_mut.result.now) c.readinto.new.buf _ _ _ _ _ front long (omega arith) c.truncate.ensures.items in
    rw is (reads_to_end _ _ _ _ _ _ _ _ _ c.transfers.invariant.keeps c.transfers.invariant.so_far moved none (grind (arith, common_steps, c.deref_mut.ensures.len)) (omega (arith, c.args.out.now.ok)))

pub returns-in-Ok-None-clause-outcome : goal.returns-in-Ok-None-clause-outcome
returns-in-Ok-None-clause-outcome g c =
    let held = c.transfers.out.items in
    let long : c.len-held.result ≡ length held = omega (arith, c.transfers.out.ok) in
    let widened : c.lengthen.new.bytes.items ≡ held ++ replicate (c.len-held.result + c.next_chunk.result - length held) 0 = grind (arith, c.lengthen.ensures, c.if-is_err.ensures) in
    let front : take c.len-held.result c.deref_mut.result.now ≡ held = grind (arith, common_steps, take_at) in
    let whole : c.lengthen.new.bytes.len ≡ c.len-held.result + c.next_chunk.result = grind (arith, common_steps) in
    let waits : AsksToWait (g.Self.RawStream.shows c.transfers.self) (g.Self.RawStream.shows c.readinto.new.self) = rw c.in-Ok-None.field-0-is at c.in-Ok-None.ensures.outcome in
    let is : c.truncate-in-Ok-None.new.self.items ≡ held = cut_back held (take c.len-held.result c.deref_mut.result.now) c.readinto.new.buf _ _ _ _ _ front long (omega arith) c.truncate-in-Ok-None.ensures.items in
    rw is (waits_or_stops _ _ _ _ _ _ _ _ c.transfers.invariant.began long c.then_some.ensures c.transfers.invariant.keeps c.transfers.invariant.so_far waits)
