-- A stream over a raw one is a buffered stream for the layer above it.
use Rattle.std.proofs.Common.{◌≡◌, ◌≢◌, ⊎_elim, ℕ, ℤ, pos, suc, zero, inl, Bool, true, false, IsTrue, List, [], inr, length, take, ◌-◌, subst, Option, Some, None, IsSome, unwrap_or, refl, sym, ap, ◌∙◌, arith, rules}
use Rattle.std.proofs.lemmas.List.{append-nil}
use Rattle.py_flat.specs.declared.fault.IoFault.{IoFault}
use Rattle.py_flat.specs.declared.fault.IoFault.TheVariants as fault
use Rattle.py_flat.specs.declared.life.Life.{Life}
use Rattle.py_flat.specs.declared.life.Life.TheVariants as life
use Rattle.py_flat.specs.Bytes.{lay}
use Rattle.py_flat.specs.Owed.{Owed}
use Rattle.py_flat.specs.Calls.{FileCall, Write, Seek, Flush, Close, FileReply, Done, Refused}
use Rattle.py_flat.specs.Refusals.{is_close}
use Rattle.py_flat.specs.ExactStep.{is_closed}
use Rattle.py_flat.specs.BinaryStep.{payload}
use Rattle.py_raw.specs.RawStream.{tells, WhereTold, AnswersFor, StaysOpen}
use Rattle.py_raw.proofs.Telling.{tells_still, tells_its_bytes}
use Rattle.py_stream.specs.Stream.{Span, Stream, buffering_of, nothing_owed}
use Rattle.py_stream.specs.Kinds.{is_reading, is_writing, is_single, makes_one, moves_raw, says_no_memory}
use Rattle.py_stream.specs.Writing.{OwesBehind, LaysTaken, Takes, OwesSome, PassesFront, PassedOn, HasJust, OwesBoth, PassesOn, LaysInOrder, BlocksFull, TookOwn, Writes}
use Rattle.py_stream.specs.Answers.{Answers, Leaves, ClosedWith, parts_at_close, LifeMoves, GivesWithin, AtMostOne, ReadsOnce, FlushesFirst, PassesFirst, CameByReads, SparesBytes, SeeksTo, SeeksFromEnd, UnlessStopped, EndMoves, SeeksByEnd, closes_again, refused_by}
use Rattle.py_stream.specs.Buffer.{Buffer, buffer_of, taken_by, size_shown, LeavesBuffer, closes_twice, stream_shown, GivesAsked, GoesFromEnd, BufferSeeksFromEnd, BufferSeeksByEnd, BufferOwes, BufferPasses, BufferLays, BufferTakes, OwesAsItCan, is_made, AnswersAsBuffer}
use Rattle.py_stream.proofs.Begun.{came_seen}
use Rattle.py_stream.proofs.Refused.{parts_not}
use Rattle.py_stream.proofs.LeftOwed.{none_or_some}

-- the size that is shown is the stream's own
size_is : (buffer : Option ℕ) → IsSome buffer → size_shown (buffering_of buffer) ≡ buffer
size_is (Some size) some = refl
size_is None some = absurd (cc)

gives_asked : (buffer : Option ℕ) (call : FileCall) (reply : FileReply) → IsSome buffer → GivesWithin (unwrap_or buffer 0) call reply → GivesAsked (buffering_of buffer) call reply
gives_asked buffer call reply some within = grind arith

-- the sizes that a stream shows are the same, whether it has a buffer or none
size_same : (buffer : Option ℕ) → unwrap_or (size_shown (buffering_of buffer)) 0 ≡ unwrap_or buffer 0
size_same (Some size) = refl
size_same None = refl

-- a stream over a raw one, as far as it shows itself as a buffered stream
abbrev shown : Stream → ℕ → Stream
shown stream taken = stream_shown (buffer_of stream taken)

spares_so : (was taken : ℕ) (before after : Stream) (call : FileCall) → SparesBytes before call after → SparesBytes (shown before was) call (shown after taken)
spares_so was taken before after call spares = record { bytes = spares.bytes; written = spares.written; owed = spares.owed; still = spares.still }

left_so : (before : Stream) (was : ℕ) (call : FileCall) (expected reply : FileReply) (after : Stream) (taken : ℕ) → taken ≡ taken_by call before.place after.place was → Leaves before expected reply after → LeavesBuffer (buffer_of before was) call expected reply (buffer_of after taken)
left_so before was call expected reply after taken counts leaves = grind arith

closed_so : (before : Stream) (was : ℕ) (call : FileCall) (reply : FileReply) (after : Stream) (taken : ℕ) → taken ≡ taken_by call before.place after.place was → (closes_again before call ≡ true → Leaves before Done reply after) → closes_twice (buffer_of before was) call ≡ true → LeavesBuffer (buffer_of before was) call Done reply (buffer_of after taken)
closed_so before was Close reply after taken counts again closed = left_so before was Close Done reply after taken counts (again closed)
closed_so before was call reply after taken counts again closed = absurd (cc)

-- A seek from the end.

goes_so : (was taken : ℕ) (before after : Stream) (target : Option ℕ) (refused : Option IoFault) (reply : FileReply) → SeeksTo before target refused reply after → GoesFromEnd (buffer_of before was) target refused reply (buffer_of after taken)
goes_so was taken before after target refused reply goes = grind arith

from_end_so : (was taken : ℕ) (before after : Stream) (offset : ℤ) (reply : FileReply) → SeeksFromEnd before offset reply after → BufferSeeksFromEnd (buffer_of before was) offset reply (buffer_of after taken)
from_end_so was taken before after offset reply seeks = grind (arith, tells_its_bytes, goes_so)

end_moves_so : (was taken : ℕ) (before after : Stream) (offset : ℤ) (reply : FileReply) → EndMoves before offset reply after → UnlessStopped reply (BufferSeeksFromEnd (buffer_of before was) offset reply (buffer_of after taken))
end_moves_so was taken before after offset reply moves = grind (arith, from_end_so)

by_end_so : (was taken : ℕ) (before after : Stream) (call : FileCall) (reply : FileReply) → SeeksByEnd before call reply after → BufferSeeksByEnd (buffer_of before was) call reply (buffer_of after taken)
by_end_so was taken before after (Seek offset (pos (suc (suc zero)))) reply seeks = λ asks. end_moves_so was taken before after offset reply (seeks asks)
by_end_so was taken before after call reply seeks = tt

-- What is owed, and what is passed on: by whether the stream writes.

front_so : (was taken : ℕ) (before after : Stream) → PassesFront before after → PassesFront (shown before was) (shown after taken)
front_so was taken before after passes = record { passed = passes.passed; most = passes.most; answered = passes.answered; bytes = passes.bytes; place = passes.place }

some_so : (was taken : ℕ) (before after : Stream) (new : List ℕ) → OwesSome before new after → OwesSome (shown before was) new (shown after taken)
some_so was taken before after new (inl rest) = inl (record { passed = rest.passed; answered = rest.answered; leaves = rest.leaves })
some_so was taken before after new (inr (inl alone)) = inr (inl (record { passed = alone.passed; answered = alone.answered; leaves = alone.leaves }))
some_so was taken before after new (inr (inr fills)) = inr (inr (record { passed = fills.passed; answered = fills.answered; cut = fills.cut; leaves = fills.leaves }))

both_so : (was taken : ℕ) (before after : Stream) (bytes : List ℕ) → OwesBoth before bytes after → OwesBoth (shown before was) bytes (shown after taken)
both_so was taken before after bytes both = search (rules, some_so, both.owes)

behind_so : (was : ℕ) (before : Stream) → OwesBehind (shown before was) → OwesBehind before
behind_so was before behind = record { ends = behind.ends; stands = behind.stands }

takes_shown : (was taken : ℕ) (before after : Stream) (bytes : List ℕ) → Takes before bytes after → Takes (shown before was) bytes (shown after taken)
takes_shown was taken before after bytes takes = record {
  taken = takes.taken;
  within = takes.within;
  place = takes.place;
  passed = takes.passed;
  most = takes.most;
  answered = takes.answered;
  forth = λ behind. takes.forth (behind_so was before behind);
  owed = takes.owed;
  up_to = takes.up_to;
  told = takes.told;
  just = λ lives behind. takes.just lives (behind_so was before behind);
}

owes_so : (was taken : ℕ) (before after : Stream) (call : FileCall) (reply : FileReply) → IsTrue (is_made call) → Writes before call reply after → BufferOwes (buffer_of before was) call (buffer_of after taken)
owes_so was taken before after (Write bytes) reply made writes = record { both = both_so was taken before after bytes (writes.owes refl); takes = λ up_to. takes_shown was taken before after bytes (writes.takes refl up_to) }
owes_so was taken before after call reply made writes = grind (arith, front_so)

-- a call that gives bytes to a stream, and leaves its places and, told, its raw's bytes
pub record StandsStill (before after : Buffer) : Type 0 where
  pub place : after.place ≡ before.place
  pub raw_place : after.raw_place ≡ before.raw_place
  pub bytes : WhereTold before.raw (after.raw.bytes ≡ before.raw.bytes)

-- a call for which the raw answered for no byte owes nothing where nothing was owed
pub owes_none_so : (before after : Buffer) (call : FileCall) → before.owed.bytes ≡ [] → after.owed.bytes ≡ [] → AnswersFor 0 before.raw after.raw → (IsTrue (is_writing call) → StandsStill before after) → BufferOwes before call after
owes_none_so before after (Write bytes) was none answered stands =
    let still : StandsStill before after = stands refl in
    let told : LaysTaken (stream_shown before) bytes 0 (stream_shown after) = λ tells. (0, omega arith, omega arith, ap (lay after.raw.bytes after.owed.place) none ∙ still.bytes tells ∙ sym (ap (lay before.raw.bytes before.owed.place) was)) in
    record {
      both = record {
        taken = 0;
        within = omega arith;
        place = omega (arith, still.place);
        owes = λ some. absurd (some none);
        none = λ _. subst (λ (count : ℕ). AnswersFor count before.raw after.raw) (omega (arith, ap length was)) answered;
        told = told;
      };
      takes = λ up_to. record {
        taken = 0;
        within = omega arith;
        place = omega (arith, still.place);
        passed = 0;
        most = omega arith;
        answered = answered;
        forth = λ behind. omega (arith, still.raw_place);
        owed = none ∙ sym (append-nil before.owed.bytes ∙ was);
        up_to = inl none;
        told = told;
        just = λ lives behind. still.bytes;
      };
    }
owes_none_so before after call was none answered stands = record { passed = 0; most = omega arith; answered = answered; bytes = none ∙ sym was; place = λ some. absurd (some none) }

passed_so : (was taken : ℕ) (before after : Stream) → PassedOn before after → PassedOn (shown before was) (shown after taken)
passed_so was taken before after passes = record { none = passes.none; holds = passes.holds }

-- a flush is done of a live stream alone
flushes_live : (before after : Stream) → Answers before Flush Done after → before.life ≡ life.Live
flushes_live before after answers = by_life before.life refl
  where
    by_life : (current : Life) → before.life ≡ current → before.life ≡ life.Live
    by_life life.Live is = is
    by_life life.Failed is = let never : Done ≡ Refused fault.Failed = (answers.refused fault.Failed (rw is refl)).says in absurd (cc)
    by_life life.Closed is = let never : Done ≡ Refused fault.Closed = (answers.refused fault.Closed (rw is refl)).says in absurd (cc)
    by_life life.Detached is = let never : Done ≡ Refused fault.Detached = (answers.refused fault.Detached (rw is refl)).says in absurd (cc)

-- after a flush that was done of a stream that writes the raw stands where what is owed next begins
flushed_behind : (before after : Stream) → before.can.writable ≡ true → Answers before Flush Done after → OwesBehind after
flushed_behind before after can answers =
    let near = answers.near (answers.moves.life_is ∙ flushes_live before after answers) in
    let passes = (answers.writes can).passes in
    let none : length after.owed.bytes ≡ 0 = ap length passes.0.none in
    let at : after.owed.place ≡ after.place = omega (arith, near.owed_after_first, near.owed_before_end, ap (λ (held : Span). held.from) passes.2, ap (λ (held : Span). held.to) passes.2) in
    record { ends = omega (arith, none, at); stands = omega (arith, passes.1, at) }

-- a stream as it is shown owes right before its place where the stream does
behind_shown : (taken : ℕ) (after : Stream) → OwesBehind after → OwesBehind (shown after taken)
behind_shown taken after behind = record { ends = behind.ends; stands = behind.stands }

passes_so : (was taken : ℕ) (before after : Stream) (call : FileCall) (reply : FileReply) → before.can.writable ≡ true → Answers before call reply after → PassesOn before call reply after → BufferPasses (buffer_of before was) call reply (buffer_of after taken)
passes_so was taken before after Flush Done can answers passes = (passed_so was taken before after passes.0, λ writes. behind_shown taken after (flushed_behind before after can answers))
passes_so was taken before after Flush (Refused fault.NoMemory) can answers passes = passes
passes_so was taken before after Close Done can answers passes = λ lives. passed_so was taken before after (passes lives)
passes_so was taken before after call reply can answers passes = grind arith

passes_none_so : (before after : Buffer) (call : FileCall) (reply : FileReply) → before.can.writable ≡ false → PassedOn (stream_shown before) (stream_shown after) → HasJust (stream_shown before) (stream_shown after) → BufferPasses before call reply after
passes_none_so before after Flush (Refused fault.NoMemory) can passed just = just
passes_none_so before after call reply can passed just = grind arith

-- told, a raw that keeps its bytes has just those of none that were owed
just_none_so : (before after : Buffer) → before.owed.bytes ≡ [] → after.owed.bytes ≡ [] → WhereTold before.raw (after.raw.bytes ≡ before.raw.bytes) → HasJust (stream_shown before) (stream_shown after)
just_none_so before after was none same told = same told ∙ sym (ap (λ (owed : List ℕ). lay before.raw.bytes before.owed.place (take (length owed - length after.owed.bytes) owed)) was ∙ ap (λ (left : List ℕ). lay before.raw.bytes before.owed.place (take (0 - length left) [])) none)

lays_so : (was taken : ℕ) (before : Stream) (call : FileCall) (bytes : List ℕ) → IsTrue (is_made call) → LaysInOrder before call bytes → BufferLays (buffer_of before was) (payload call) bytes
lays_so was taken before call bytes made lays = grind arith

-- a wait has filled the buffer, whose size is shown
full_so : (taken : ℕ) (call : FileCall) (reply : FileReply) (after : Stream) → BlocksFull call reply after → BlocksFull call reply (shown after taken)
full_so taken call reply after full = grind (arith, size_same)

takes_so : (before after : Stream) (call : FileCall) → (IsTrue (is_writing call) → OwesBoth before (payload call) after) → BufferTakes call before.place after.place
takes_so before after (Write bytes) owes = let both = owes refl in (omega (arith, both.place), omega (arith, both.place, both.within))
takes_so before after call owes = tt

own_so : (was taken : ℕ) (before after : Stream) → TookOwn before after → TookOwn (shown before was) (shown after taken)
own_so was taken before after own = record { further = own.further; stands = own.stands; answered = own.answered }

-- a write leaves the place of a stream that doesn't write
unwritten_still : (before : Stream) (call : FileCall) (reply : FileReply) (after : Stream) → before.can.writable ≡ false → IsTrue (is_made call) → IsTrue (is_writing call) → Answers before call reply after → after.place ≡ before.place
unwritten_still before call reply after can made writing answers = grind arith

unwritten_stands : (before : Stream) (call : FileCall) (after : Stream) → IsTrue (is_made call) → IsTrue (is_writing call) → (moves_raw call ≡ false → after.raw_place ≡ before.raw_place) → after.raw_place ≡ before.raw_place
unwritten_stands before call after made writing still = grind arith

-- and wants no memory
unwritten_feeds : (before : Stream) (call : FileCall) (reply : FileReply) (after : Stream) → before.can.writable ≡ false → IsTrue (is_made call) → IsTrue (is_writing call) → Answers before call reply after → says_no_memory reply ≡ false
unwritten_feeds before call reply after can made writing answers = grind arith

-- what a call does with what is owed
record Passing (before : Buffer) (call : FileCall) (reply : FileReply) (after : Buffer) : Type 0 where
  owes : BufferOwes before call after
  lays : IsTrue (tells before.raw) → BufferLays before (payload call) after.raw.bytes
  passes : BufferPasses before call reply after
  full : BlocksFull call reply (stream_shown after)
  takes : BufferTakes call before.place after.place
  starves : IsTrue (says_no_memory reply) → IsTrue (is_writing call) → after.life ≡ life.Failed → TookOwn (stream_shown before) (stream_shown after)
  behind : OwesBehind (stream_shown before) → is_reading call ≡ false → after.owed.bytes ≢ [] → after.raw_place ≡ after.owed.place

passing_of : (was taken : ℕ) (writes : Bool) (before after : Stream) (call : FileCall) (reply : FileReply) → before.can.writable ≡ writes → IsTrue (is_made call) → OwesAsItCan (buffer_of before was) → Answers before call reply after → Passing (buffer_of before was) call reply (buffer_of after taken)
passing_of was taken true before after call reply can made owes answers =
    let writes = answers.writes can in
    let passes : BufferPasses (buffer_of before was) call reply (buffer_of after taken) = passes_so was taken before after call reply can answers writes.passes in
    let behind : OwesBehind (shown before was) → is_reading call ≡ false → after.owed.bytes ≢ [] → after.raw_place ≡ after.owed.place = λ stood. writes.stands (behind_so was before stood) in
    search (rules, owes_so, lays_so, full_so, takes_so, own_so)
passing_of was taken false before after call reply can made owes answers =
    let none : before.owed ≡ nothing_owed before.place = owes can in
    let spares = answers.spares can none in
    let nothing : before.owed.bytes ≡ [] = ap (λ (owed : Owed). owed.bytes) none in
    let left : after.owed.bytes ≡ [] = ap (λ (owed : Owed). owed.bytes) spares.owed in
    let same : WhereTold before.raw (after.raw.bytes ≡ before.raw.bytes) = λ told. spares.bytes (tells_its_bytes before.raw told) in
    record {
      owes = owes_none_so (buffer_of before was) (buffer_of after taken) call nothing left spares.written (λ writing. record { place = unwritten_still before call reply after can made writing answers; raw_place = unwritten_stands before call after made writing spares.still; bytes = same });
      lays = λ told. record { passed = 0; more = 0; order = λ some. absurd (some refl); laid = same told };
      passes = passes_none_so (buffer_of before was) (buffer_of after taken) call reply can (record {
        none = left;
        holds = λ told. same told ∙ sym (ap (λ (owed : Owed). lay before.raw.bytes owed.place owed.bytes) none);
      }) (just_none_so (buffer_of before was) (buffer_of after taken) nothing left same);
      full = grind arith;
      takes = grind arith;
      behind = λ stood reads some. absurd (some left);
      starves = λ wanting writing. absurd (let fed = unwritten_feeds before call reply after can made writing answers in cc);
    }

-- Waits.

-- a call that moves no bytes leaves nothing owed where nothing was
left_none : (before after : Buffer) (call : FileCall) → is_writing call ≡ false → before.owed.bytes ≡ [] → BufferOwes before call after → after.owed.bytes ≡ []
left_none before after call writing none owes = grind arith

unwaited_by : (refused : Option IoFault) (before after : Stream) (taken : ℕ) (call : FileCall) (reply : FileReply) → refused_by before call ≡ refused → is_reading call ≡ false → is_writing call ≡ false → IsTrue (is_made call) → Answers before call reply after → BlocksFull call reply (shown after taken) → after.owed.bytes ≡ [] → after.short ≡ false
unwaited_by (Some why) before after taken call reply is reads gives made answers full none = ap (λ (stream : Stream). stream.short) (answers.refused why is).same
unwaited_by None before after taken call reply is reads gives made answers full none = grind (arith, answers.answer is)

-- The raw's closing.

-- a call that is let through leaves a live stream that isn't closed
left_open : (buffer : Option ℕ) (call : FileCall) (reply : FileReply) (after : Life) → IsTrue (is_made call) → is_close call ≡ false → LifeMoves buffer call reply life.Live after → is_closed after ≡ false
left_open buffer call reply after made closes moves = grind arith

-- where nothing is owed, the raw of a stream that isn't closed isn't either
opens_by : (before after : Stream) (call : FileCall) (reply : FileReply) → IsTrue (is_made call) → is_close call ≡ false → Answers before call reply after → before.life ≡ life.Live → after.owed.bytes ≡ [] → ClosedWith before.life before.raw → StaysOpen before.raw after.raw
opens_by before after call reply made closes answers lives none closed =
    let left : is_closed after.life ≡ false = left_open before.buffer call reply after.life made closes (subst (λ (current : Life). LifeMoves before.buffer call reply current after.life) lives answers.moves.life_is) in
    answers.shut (parts_not before after call reply closes) none closed ∙ left ∙ sym (closed ∙ ap is_closed lives)

stays_by : (refused : Option IoFault) (before after : Stream) (call : FileCall) (reply : FileReply) → refused_by before call ≡ refused → IsTrue (is_made call) → is_close call ≡ false → Answers before call reply after → (after.owed.bytes ≢ [] → StaysOpen before.raw after.raw) → ClosedWith before.life before.raw → StaysOpen before.raw after.raw
stays_by (Some why) before after call reply is made closes answers some closed = ap (λ (stream : Stream). stream.raw.closed) (answers.refused why is).same
stays_by None before after call reply is made closes answers some closed = ⊎_elim (λ none. opens_by before after call reply made closes answers (grind arith) none closed) some (none_or_some after.owed.bytes)

-- what is owed after a call keeps the raw open
owing_stays : (writes : Bool) (was : ℕ) (before after : Stream) (call : FileCall) (reply : FileReply) → before.can.writable ≡ writes → OwesAsItCan (buffer_of before was) → Answers before call reply after → after.owed.bytes ≢ [] → StaysOpen before.raw after.raw
owing_stays true was before after call reply can owes answers some = (answers.writes can).unclosed some
owing_stays false was before after call reply can owes answers some = absurd (some (ap (λ (owed : Owed). owed.bytes) (answers.spares can (owes can)).owed))

-- a close parts a stream as it is shown just where it parts the stream
parted_so : (was taken : ℕ) (before after : Stream) (call : FileCall) (reply : FileReply) → IsSome before.buffer → parts_at_close before call reply after ≡ parts_at_close (shown before was) call reply (shown after taken)
parted_so was taken before after call reply some = grind (arith, size_is)

-- Transfers.

one_so : (buffer : Option ℕ) (call : FileCall) → IsSome buffer → IsTrue (is_single call) → IsTrue (makes_one buffer call)
one_so (Some size) call some single = single
one_so None call some single = absurd (cc)

-- the one reading by one transfer that the layer above makes flushes first, whatever is held
flushes_so : (before : Stream) (call : FileCall) → IsTrue (is_made call) → IsTrue (is_single call) → FlushesFirst before call
flushes_so before call made single = grind arith

-- an answer of a stream with a buffer is one of a buffered stream
pub answers_as_buffer : (before : Stream) (was : ℕ) (call : FileCall) (reply : FileReply) (after : Stream) (taken : ℕ) → Answers before call reply after → taken ≡ taken_by call before.place after.place was → IsTrue (is_made call) → IsSome before.buffer → OwesAsItCan (buffer_of before was) → AnswersAsBuffer (buffer_of before was) call reply (buffer_of after taken)
answers_as_buffer before was call reply after taken answers counts made buffered owes =
    let same : size_shown (buffering_of before.buffer) ≡ before.buffer = size_is before.buffer buffered in
    let own : Option ℕ = size_shown (buffering_of before.buffer) in
    let passing : Passing (buffer_of before was) call reply (buffer_of after taken) = passing_of was taken before.can.writable before after call reply refl made owes answers in
    let unwaited : is_reading call ≡ false → is_writing call ≡ false → before.owed.bytes ≡ [] → after.short ≡ false = λ reads gives none. unwaited_by (refused_by before call) before after taken call reply refl reads gives made answers passing.full (left_none (buffer_of before was) (buffer_of after taken) call gives none passing.owes) in
    let unclosed : after.owed.bytes ≢ [] → StaysOpen before.raw after.raw = owing_stays before.can.writable was before after call reply refl owes answers in
    let stays : is_close call ≡ false → ClosedWith before.life before.raw → StaysOpen before.raw after.raw = λ closes closed. stays_by (refused_by before call) before after call reply refl made closes answers unclosed closed in
    let parted : parts_at_close (shown before was) call reply (shown after taken) ≡ true → StaysOpen before.raw after.raw = λ parts. answers.parted (parted_so was taken before after call reply buffered ∙ parts) in
    let single : IsTrue (is_single call) → before.owed.bytes ≡ [] → AtMostOne (shown before was) (shown after taken) = λ one none. answers.single (one_so before.buffer call buffered one) none in
    let once : IsTrue (is_single call) → ReadsOnce (shown before was) (shown after taken) = λ one. answers.once (one_so before.buffer call buffered one) in
    let first : PassesFirst (shown before was) call reply (shown after taken) = λ some single asks given first. answers.passes_first buffered single asks given (flushes_so before call made single) in
    let spares : before.can.writable ≡ false → before.owed ≡ nothing_owed before.place → SparesBytes (shown before was) call (shown after taken) = λ can none. spares_so was taken before after call (answers.spares can none) in
    let brings : IsTrue (is_reading call) → before.can.writable ≡ false → before.owed.bytes ≡ [] → CameByReads 1 (shown before was) (shown after taken) = λ reads can none. came_seen before (shown before was) after (shown after taken) 1 refl refl refl refl (answers.brings reads (record { none = none; stands = λ writes. absurd (cc (can, writes)) })) in
    grind (arith, size_is, tells_still, left_so, closed_so, gives_asked, by_end_so)
