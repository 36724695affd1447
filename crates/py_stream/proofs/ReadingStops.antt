-- What a reading answers, by what it gave and where it stopped: what stays from step to step, readings that go on, and those of one transfer.
use Rattle.std.proofs.Common.{◌≡◌, ℕ, ◌+◌, ◌≤◌, IsTrue, List, ◌++◌, length, take, drop, max, refl, sym, ap, ◌∙◌, arith, ◌≢◌, Bool, true, false, [], Option, Some, IsSome, subst, rules, Ok, ◌<◌, None, unwrap_or}
use Rattle.std.proofs.lemmas.List.{length-take, length-drop, length-append, take_all, take-append-drop, drop-drop}
use Rattle.std.proofs.Math.Seq.{take-append-add}
use Rattle.py_flat.specs.declared.life.Life.TheVariants as life
use Rattle.py_flat.specs.Bytes.{left_at}
use Rattle.py_flat.specs.Causes.{counted, Rose}
use Rattle.py_flat.specs.ExactStep.{rest, after_read}
use Rattle.py_flat.specs.BinaryStep.{Fails, BinaryStep, Accepted, SettledBy, StarvedBy, does_work, IsFrontOf}
use Rattle.py_raw.specs.RawStream.{Raw, tells, WhereTold, NoWait, WaitsOnce, LeavesCounts}
use Rattle.py_raw.proofs.ReadingOn.{no_fault_then}
use Rattle.py_stream.specs.Stream.{Stream, file_of, nothing_owed, buffering_of, size_of}
use Rattle.py_stream.specs.Reading.{KeepsReading, ComesNext, Reaches, Gives, LeavesHeld, OneTransfer, IsNeeded, FailsReading, FailsMoved, wanted_by, reply_by, GathersEnough, GathersFront, IsOpen, WantsHeld, GatherOutcome, is_wait, answered_at}
use Rattle.py_stream.proofs.Refusing.{IsPlaced}
use Rattle.py_flat.specs.declared.fault.IoFault.{IoFault}
use Rattle.py_flat.specs.declared.fault.IoFault.TheVariants as fault
use Rattle.py_flat.specs.declared.life.Life.{Life}
use Rattle.py_flat.specs.Lines.{lines_of, joined, lines_within}
use Rattle.py_flat.specs.Calls.{FileCall, FileReply, NotReady, Refused, Lines, ReadLines, Read, Read1, Peek, ReadInto, ReadInto1, Bytes}
use Rattle.py_flat.specs.FlatFile.{FlatFile}
use Rattle.py_flat.specs.Refusals.{lacks}
use Rattle.py_flat.specs.AllowedStep.{settled}
use Rattle.py_flat.proofs.Cutting.{joined_lines}
use Rattle.py_lines.proofs.Lines.{lines_left}
use Rattle.py_raw.proofs.Telling.{keeps_same}
use Rattle.py_stream.specs.Kinds.{is_reading, reads_on, goes_on, makes_one, has_room, takes_space_first, asks_none, by_several, says_fault, says_no_memory, is_single}
use Rattle.py_stream.proofs.Begun.{came_more, each_seen, each_more}
use Rattle.py_stream.specs.Answers.{Answers, CameByReads, EachBrings, IsShort, PlaceMoves, PlaceStarves, MovesForth, moves_most, GivesWithin, InHandOf, IsWhole, AsksNoMore, IsReplyTo, LifeMoves, HasCauses, IsCounted, WantsMemory, Starves, StarvesFirst, ahead}
use Rattle.py_stream.proofs.ReadingAnswers.{IsReadingCall, reading_call, starved_by_failing, reading_on, on_suits, nothing_held, in_hand_held, is_several, accepted, works, Reads, answers_coming}
use Rattle.py_stream.specs.declared.stop.Stop.{Stop}
use Rattle.py_stream.specs.declared.stop.Stop.TheVariants as stops

-- Bytes that come next.

-- the front of a list after another
pub more_taken : (n m : ℕ) (front rest : List ℕ) → length front ≡ n → take (n + m) (front ++ rest) ≡ front ++ take m rest
more_taken n m front rest long = ap (λ (k : ℕ). take (k + m) (front ++ rest)) (sym long) ∙ take-append-add front rest m

-- what came next, and what came next after it
pub next_behind : (bytes front rest : List ℕ) (place n m : ℕ) → length front ≡ n → take n (left_at bytes place) ≡ front → take m (left_at bytes (place + n)) ≡ take m rest → take (n + m) (left_at bytes place) ≡ front ++ take m rest
next_behind bytes front rest place n m long next behind =
    let left : List ℕ = left_at bytes place in
    ap (take (n + m)) (sym (take-append-drop n left) ∙ ap (λ (xs : List ℕ). xs ++ drop n left) next)
    ∙ (more_taken n m front (drop n left) long
    ∙ (ap (λ (xs : List ℕ). front ++ take m xs) (drop-drop n place bytes)
    ∙ ap (λ (xs : List ℕ). front ++ xs) behind))

-- what came next, and all after it
pub next_parts : (bytes part : List ℕ) (place : ℕ) → take (length part) (left_at bytes place) ≡ part → left_at bytes place ≡ part ++ left_at bytes (place + length part)
next_parts bytes part place next =
    sym (take-append-drop (length part) (left_at bytes place))
    ∙ (ap (λ (t : List ℕ). t ++ drop (length part) (left_at bytes place)) next
    ∙ ap (λ (t : List ℕ). part ++ t) (drop-drop (length part) place bytes))

-- n bytes that came next lie before the end
pub within_end : (bytes part : List ℕ) (place count : ℕ) → take count (left_at bytes place) ≡ part → length part ≡ count → place + count ≤ max place (length bytes)
within_end bytes part place count next long = omega (arith, length-take count (left_at bytes place), length-drop place bytes, ap length next, long)

-- Steps.

-- two steps, one after the other
pub keeps_then : (before mid after : Stream) → KeepsReading before mid → KeepsReading mid after → KeepsReading before after
keeps_then before mid after first second = grind arith

-- a stream that failed
pub keeps_failed : (stream : Stream) → stream.owed ≡ nothing_owed stream.place → stream.raw_place ≡ stream.held.to → IsPlaced stream → KeepsReading stream (record stream { life = life.Failed })
keeps_failed stream bare ahead is = grind arith

-- a wait after steps that counted none is the only one
pub waits_once_then : (before mid after : Stream) → KeepsReading before mid → NoWait before.raw mid.raw → WaitsOnce mid.raw after.raw → WaitsOnce before.raw after.raw
waits_once_then before mid after kept first second exact = second (kept.raw.counts_exactly ∙ exact) ∙ ap (λ (waits : ℕ). counted waits 1) (first exact)

-- a raw that told its bytes and its place before a step tells both after it
pub still_tells : (before after : Stream) → KeepsReading before after → WhereTold before.raw (IsTrue (tells after.raw))
still_tells before after kept told = grind arith

-- a raw that stayed as it was counted nothing
pub uncounted : (old new : Raw) → new ≡ old → LeavesCounts old new
uncounted old new same = record { no_fault = λ exact. ap (λ (raw : Raw). raw.faults) same; no_wait = λ exact. ap (λ (raw : Raw). raw.waits) same }

-- The flat file.

-- a reading leaves the flat bytes
pub same_bytes : (before after : Stream) → before.owed ≡ nothing_owed before.place → KeepsReading before after → WhereTold before.raw ((file_of after).bytes ≡ (file_of before).bytes)
same_bytes before after bare kept tells = grind arith

-- the file of a stream that gave some bytes
pub file_after : (before after : Stream) (count : ℕ) → before.owed ≡ nothing_owed before.place → KeepsReading before after → after.life ≡ before.life → after.place ≡ before.place + count → WhereTold before.raw (file_of after ≡ after_read (file_of before) count)
file_after before after count bare kept same place tells = grind arith

-- the file of a stream that failed
pub file_fails : (before after : Stream) → before.owed ≡ nothing_owed before.place → KeepsReading before after → after.life ≡ life.Failed → WhereTold before.raw (Fails (file_of before) life.Failed (file_of before).bytes (file_of after))
file_fails before after bare kept failed tells = grind arith

-- Bytes that are given.

-- told, the bytes that came next move the place no further than the end
pub next_reaches : (before after : Stream) (part : List ℕ) → after.place ≡ before.place + length part → WhereTold before.raw (ComesNext before part) → Reaches before after
next_reaches before after part place next tells = omega (arith, place, within_end (file_of before).bytes part before.place (length part) (next tells) refl)

-- what was given, and what was given after it
pub gives_then : (before mid after : Stream) (first second : List ℕ) → before.owed ≡ nothing_owed before.place → Gives before first mid → Gives mid second after → Gives before (first ++ second) after
gives_then before mid after first second bare one behind = grind (arith, length-append, keeps_then, no_fault_then, same_bytes, still_tells, take_all, next_behind)

-- What a reading that goes on gives.

-- the lines of some bytes are told by their bytes
cut_again : (part : List ℕ) → lines_of (joined (lines_of part)) ≡ lines_of part
cut_again part = ap lines_of (joined_lines part)

-- bytes that are some have lines
some_lines : (part : List ℕ) → part ≢ [] → lines_of part ≢ []
some_lines part some none = some (sym (joined_lines part) ∙ ap joined none)

-- a short answer is never none
pub short_part : (call : FileCall) (part : List ℕ) (short : Bool) → reads_on call ≡ true → (IsTrue short → part ≢ []) → IsShort call (reply_by call part) short
short_part call part short on some = grind (arith, some_lines)

-- a reading that goes on moves the place by as many bytes as it gives
pub part_moves : (buffer : Option ℕ) (call : FileCall) (part : List ℕ) (current : Life) (before after : ℕ) → reads_on call ≡ true → after ≡ before + length part → PlaceMoves buffer call (reply_by call part) current before after
part_moves buffer call part current before after on is = grind (arith, joined_lines)

taken_within : (size : ℕ) (part : List ℕ) → take size part ≡ part → length part ≤ size
taken_within size part alone = omega (arith, ap length alone, length-take size part)

-- no more is given than is asked for
pub part_within : (size : ℕ) (call : FileCall) (part : List ℕ) → reads_on call ≡ true → wanted_by call part ≡ part → GivesWithin size call (reply_by call part)
part_within size call part on alone = grind (arith, taken_within, joined_lines, lines_left, cut_again)

-- the exact answer
pub carried : (buffer : Option ℕ) (file : FlatFile) (call : FileCall) (part : List ℕ) (after : FlatFile) → file.buffering ≡ buffering_of buffer → by_several buffer call ≡ true → wanted_by call (rest file) ≡ part → after ≡ after_read file (length part) → Accepted file call (reply_by call part) after
carried buffer file (ReadLines hint) part after buffered several exact is =
    ap (λ (left : FlatFile). (Lines (lines_of part), left)) is
    ∙ ap (λ (bytes : List ℕ). (Lines (lines_of part), after_read file (length bytes))) (sym exact)
    ∙ ap (λ (lines : List (List ℕ)). (Lines lines, after_read file (length (joined (lines_within hint (rest file)))))) (sym (lines_left hint (rest file) (lines_of part) (cut_again part) (exact ∙ sym (joined_lines part))))
carried buffer file call part after buffered several exact is = grind arith

-- How often a reading asks its raw.

-- an answer that is whole is all that is wanted, whatever comes after it
whole_wanted : (call : FileCall) (part : List ℕ) → reads_on call ≡ true → IsWhole call (reply_by call part) → (more : List ℕ) → wanted_by call (part ++ more) ≡ part
whole_wanted call part on whole = grind (arith, joined_lines)

-- what was asked for the bytes that were given, by whether more of whatever comes after them is wanted
pub record Needs (wanted : List ℕ → List ℕ) (before : Stream) (part : List ℕ) (after : Stream) : Type 0 where
  pub enough : ((more : List ℕ) → wanted (part ++ more) ≡ part) → IsNeeded before after
  pub whole : ((more : List ℕ) → wanted (part ++ more) ≡ part) → EachBrings 0 0 before after
  pub last : EachBrings 1 1 before after

-- a reading that wants more: one transfer may have brought nothing
pub needs_open : (wanted : List ℕ → List ℕ) (before : Stream) (part : List ℕ) (after : Stream) → EachBrings 1 1 before after → IsOpen wanted part → Needs wanted before part after
needs_open wanted before part after each goes_on = grind arith

-- what a call that gave bytes asked of its raw
asks_given : (before mid : Stream) (call : FileCall) (part : List ℕ) (short : Bool) → reads_on call ≡ true → Needs (wanted_by call) before part mid → AsksNoMore before call (reply_by call part) (record mid { short = short })
asks_given before mid call part short on needs = grind (arith, whole_wanted, reading_call, reading_on, each_seen)

-- what a reading asked of its raw, whether it goes on or makes one transfer
pub record AsksRaw (before : Stream) (call : FileCall) (mid : Stream) : Type 0 where
  pub nothing : IsTrue (asks_none before.buffer call) → mid.raw ≡ before.raw
  pub one : IsTrue (makes_one before.buffer call) → OneTransfer before mid
  pub in_hand : IsSome before.buffer → InHandOf before call → mid.raw ≡ before.raw
  pub holds : IsSome before.buffer → InHandOf before call → mid.held ≡ before.held
  pub each : IsTrue (by_several before.buffer call) → EachBrings 1 1 before mid
  pub brings : CameByReads 1 before mid

-- what a reading that goes on asked of its raw, which isn't called where no more is wanted than is held
pub several_asks : (before mid : Stream) (call : FileCall) → by_several before.buffer call ≡ true → (WantsHeld (wanted_by call) before → LeavesHeld before mid) → EachBrings 1 1 before mid → AsksRaw before call mid
several_asks before mid call several idle each = grind (arith, nothing_held, is_several, in_hand_held)

-- Answers.

-- a reading that gave bytes, whether a wait of the raw cut it short or not
record Given (before : Stream) (call : FileCall) (part : List ℕ) (short : Bool) (mid : Stream) : Type 0 where
  gives : Gives before part mid
  waits : IsTrue short → Rose before.raw.waits mid.raw.waits
  no_wait : short ≡ false → NoWait before.raw mid.raw
  once : IsTrue short → WaitsOnce before.raw mid.raw
  some : IsTrue short → part ≢ []
  idle : WantsHeld (wanted_by call) before → LeavesHeld before mid
  needs : Needs (wanted_by call) before part mid
  alone : wanted_by call part ≡ part
  told : WhereTold before.raw (BinaryStep (file_of before) call (reply_by call part) short false (file_of mid))
  hides : IsTrue short → mid.raw_place ≡ mid.place

answers_given : (before mid : Stream) (call : FileCall) (part : List ℕ) (short : Bool) → by_several before.buffer call ≡ true → Reads before → Given before call part short mid → Answers before call (reply_by call part) (record mid { short = short })
answers_given before mid call part short several begun given =
    let on : reads_on call ≡ true = (is_several before.buffer call several).on in
    let is : IsReadingCall call = reading_call call (reading_on call on) in
    let reply : FileReply = reply_by call part in
    let kept : Gives before part mid = given.gives in
    let asks : AsksRaw before call mid = several_asks before mid call several given.idle given.needs.last in
    let said : says_fault reply ≡ false = is.said part in
    let lives : LifeMoves before.buffer call reply before.life mid.life = is.part_lives before.buffer part before.life mid.life (kept.live ∙ sym begun.live) in
    let answers : IsReplyTo before.buffer before.can.writable call reply = is.part_answers before.buffer before.can.writable part in
    let causes : HasCauses before.raw reply mid.raw short = record { waits = given.waits; faults = λ faulted. absurd (cc) } in
    let counted : IsTrue before.raw.counts_exactly → IsCounted before.buffer before.raw call reply mid.raw short = λ exactly. record { faults = λ sound. kept.no_fault exactly; waits = λ whole writes. given.no_wait whole exactly; once = λ shortened writes. given.once shortened exactly } in
    let fed : IsTrue (says_no_memory reply) → ⊥ = λ wanting. let never = is.gave part in absurd (cc) in
    let wants : WantsMemory (has_room call) reply before.raw = λ wanting. absurd (fed wanting) in
    let starves : IsTrue (says_no_memory reply) → IsTrue (reads_on call) → Starves before (record mid { short = short }) = λ wanting. absurd (fed wanting) in
    let first : StarvesFirst before call reply (record mid { short = short }) = λ wanting. absurd (fed wanting) in
    let told : WhereTold before.raw (BinaryStep (file_of before) call reply short (says_fault reply) (file_of mid)) = λ tells. subst (λ (faulted : Bool). BinaryStep (file_of before) call reply short faulted (file_of mid)) (sym said) (given.told tells) in
    answers_coming before mid call reply short (reading_on call on) (on_suits (file_of before) call on begun.readable) begun (search (rules, short_part, part_moves, part_within, asks_given, next_reaches))

told_enough : (before mid : Stream) (call : FileCall) (part : List ℕ) → by_several before.buffer call ≡ true → Reads before → Gives before part mid → GathersEnough (wanted_by call) before part → WhereTold before.raw (BinaryStep (file_of before) call (reply_by call part) false false (file_of mid))
told_enough before mid call part several begun given gathered tells =
    let on : reads_on call ≡ true = (is_several before.buffer call several).on in
    settled (subst (λ (refused : Option IoFault). SettledBy (file_of before) call refused (reply_by call part) (file_of mid)) (sym (accepted before call (reading_on call on) (on_suits (file_of before) call on begun.readable) begun.live))
    (carried before.buffer (file_of before) call part (file_of mid) refl several (gathered.exact tells) (file_after before mid (length part) begun.bare given.kept (given.live ∙ sym begun.live) given.place tells)))

told_front : (before mid : Stream) (call : FileCall) (part : List ℕ) → by_several before.buffer call ≡ true → Reads before → Gives before part mid → part ≢ [] → GathersFront (wanted_by call) before part → WhereTold before.raw (BinaryStep (file_of before) call (reply_by call part) true false (file_of mid))
told_front before mid call part several begun given some gathered tells = grind (arith, is_several, works, reading_on, on_suits, file_after)

-- what a reading gave, by where it stopped
given_at : (before mid : Stream) (call : FileCall) (part : List ℕ) (stop : Stop) → by_several before.buffer call ≡ true → Reads before → GatherOutcome (wanted_by call) before (Ok stop) part mid → (IsTrue (is_wait stop) → part ≢ []) → Given before call part (is_wait stop) mid
given_at before mid call part stops.Enough several begun outcome some = grind (arith, told_enough, each_more)
given_at before mid call part stops.End several begun outcome some =
    let told = told_enough before mid call part several begun outcome.stops.0 outcome.gathers.0 in
    let needs : Needs (wanted_by call) before part mid = needs_open (wanted_by call) before part mid outcome.stops.3 outcome.gathers.1 in
    grind arith
given_at before mid call part stops.Waits several begun outcome some =
    let told = told_front before mid call part several begun outcome.stops.0 (some refl) outcome.gathers.0 in
    let needs : Needs (wanted_by call) before part mid = needs_open (wanted_by call) before part mid (each_more before mid 1 1 0 1 (omega arith) (omega arith) outcome.stops.4) outcome.gathers.1 in
    record { gives = outcome.stops.0; waits = λ _. outcome.stops.1; no_wait = λ whole. absurd (cc); once = λ _. outcome.stops.3; some = some; idle = λ held. (outcome.idle held).0; needs = needs; alone = outcome.gathers.0.alone; told = told; hides = λ _. outcome.stops.2 }

-- a reading with an answer
pub answers_stopped : (before mid : Stream) (call : FileCall) (part : List ℕ) (stop : Stop) → by_several before.buffer call ≡ true → Reads before → GatherOutcome (wanted_by call) before (Ok stop) part mid → (IsTrue (is_wait stop) → part ≢ []) → Answers before call (reply_by call part) (answered_at stop mid)
answers_stopped before mid call part stop several begun outcome some = answers_given before mid call part (is_wait stop) several begun (given_at before mid call part stop several begun outcome some)

-- a reading that the raw made wait before anything came, whether it goes on or makes one transfer
pub answers_unready : (before mid : Stream) (call : FileCall) → is_reading call ≡ true → lacks (file_of before) call ≡ false → Reads before → Gives before [] mid → Rose before.raw.waits mid.raw.waits → mid.raw_place ≡ mid.place → WaitsOnce before.raw mid.raw → AsksRaw before call mid → Answers before call NotReady (record mid { short = true })
answers_unready before mid call reads has begun given waits hides once asks = grind arith

-- an answer that wasn't short leaves the stream as the reading left it
pub unshortened : (before after : Stream) (call : FileCall) (reply : FileReply) → Reads before → KeepsReading before after → Answers before call reply (record after { short = false }) → Answers before call reply after
unshortened before after call reply begun kept answers =
    let same : record after { short = false } ≡ after = ap (λ (cut : Bool). let stream : Stream = record after { short = cut } in stream) (sym (kept.short ∙ begun.whole)) in
    subst (λ (stream : Stream). Answers before call reply stream) same answers

-- a place that moved forth, by no more than a bound says where there is one
pub forth_by : (most : Option ℕ) (before after : ℕ) → before ≤ after → ((bound : ℕ) → most ≡ Some bound → after ≤ before + bound) → MovesForth most before after
forth_by most before after forth within = grind arith

-- running out of memory leaves the place of a stream that lives on
starves_where : (most : Option ℕ) (current : Life) (before after : ℕ) → (current ≡ life.Live → after ≡ before) → MovesForth most before after → PlaceStarves current most before after
starves_where most current before after same forth = grind arith

-- a reading that the raw failed
pub answers_faulted : (before after : Stream) (call : FileCall) → is_reading call ≡ true → lacks (file_of before) call ≡ false → Reads before → FailsReading before after → ((bound : ℕ) → moves_most call ≡ Some bound → after.place ≤ before.place + bound) → (goes_on before.buffer call ≡ false → after.place ≡ before.place) → asks_none before.buffer call ≡ false → (IsTrue (makes_one before.buffer call) → OneTransfer before after) → (IsSome before.buffer → InHandOf before call → ⊥) → Answers before call (Refused fault.RawFault) after
answers_faulted before after call reads has begun fails within stays asks_some one apart = grind (arith, reading_call, each_seen, each_more, came_more, unshortened, answers_coming)

-- a reading that wanted memory before anything moved: all is as it was
pub unmoved : (before : Stream) (call : FileCall) → is_reading call ≡ true → lacks (file_of before) call ≡ false → Reads before → (IsTrue (has_room call) → IsTrue before.raw.takes_memory) → Answers before call (Refused fault.NoMemory) before
unmoved before call reads has begun room = grind (arith, uncounted, keeps_same)

-- a reading that memory ran out for once bytes had left the raw, some of them wanted
pub answers_failing : (before after : Stream) (call : FileCall) → by_several before.buffer call ≡ true → Reads before → FailsMoved before after → ((bound : ℕ) → moves_most call ≡ Some bound → after.place ≤ before.place + bound) → (IsTrue (has_room call) → IsTrue before.raw.takes_memory) → (IsTrue (takes_space_first call) → IsTrue before.raw.takes_memory) → (WantsHeld (wanted_by call) before → LeavesHeld before after) → WhereTold before.raw (wanted_by call (rest (file_of before)) ≢ []) → Answers before call (Refused fault.NoMemory) after
answers_failing before after call several begun fails within room space idle some =
    let on : reads_on call ≡ true = (is_several before.buffer call several).on in
    let reads : is_reading call ≡ true = reading_on call on in
    let has : lacks (file_of before) call ≡ false = on_suits (file_of before) call on begun.readable in
    let is : IsReadingCall call = reading_call call reads in
    let each : EachBrings 1 1 before after = each_more before after 0 1 0 1 (omega arith) (omega arith) fails.each in
    let asks : AsksRaw before call after = several_asks before after call several idle each in
    let place : MovesForth (moves_most call) before.place after.place = forth_by (moves_most call) before.place after.place fails.forth within in
    let told : WhereTold before.raw (StarvedBy (file_of before) call (file_of after)) = λ tells. starved_by_failing (file_of before) call (file_of after) on (some tells) (file_fails before after begun.bare fails.kept fails.failed tells) in
    let needs : AsksNoMore before call (Refused fault.NoMemory) (record after { short = false }) = grind (arith, each_seen, is.refused_whole fault.NoMemory) in
    let does : IsTrue (does_work (file_of before) call) = works before call reads has begun.live in
    unshortened before after call (Refused fault.NoMemory) begun fails.kept (answers_coming before after call (Refused fault.NoMemory) false reads has begun (grind (arith, starves_where)))

-- The calls.

-- readings by at most one transfer: without a buffer those of a size
abbrev pub reads_once : Option ℕ → FileCall → Bool
reads_once (Some size) call = is_single call
reads_once None (Read (Some size)) = true
reads_once None (ReadInto size) = true
reads_once None call = false

-- how many bytes a call asks for, over a buffer of a size
abbrev pub asks_for : ℕ → FileCall → ℕ
asks_for size (Read bytes) = unwrap_or bytes size
asks_for size (ReadInto bytes) = bytes
asks_for size (Read1 bytes) = unwrap_or bytes size
asks_for size (ReadInto1 bytes) = bytes
asks_for size call = size

-- how far n bytes that a call gives move the place
abbrev pub moves_by : FileCall → ℕ → ℕ
moves_by Peek count = 0
moves_by call count = count

-- n bytes that a call gives move the place by n at most
pub moves_within : (call : FileCall) (count : ℕ) → moves_by call count ≤ count
moves_within call count = grind arith

-- what a reading by one transfer is, and what its bytes say
pub record IsSingleCall (buffer : Option ℕ) (call : FileCall) : Type 0 where
  pub reads : is_reading call ≡ true
  pub stops : by_several buffer call ≡ false
  pub stays : goes_on buffer call ≡ false
  pub suits : (file : FlatFile) → file.can.readable ≡ true → lacks (record file { buffering = buffering_of buffer }) call ≡ false
  pub some : asks_for (unwrap_or buffer 0) call ≢ 0 → asks_none buffer call ≡ false
  pub ahead_is : (before : Stream) → IsSome buffer → InHandOf before call → 0 < ahead before
  pub short : (part : List ℕ) → IsShort call (Bytes part) false
  pub lives : (part : List ℕ) (before after : Life) → after ≡ before → LifeMoves buffer call (Bytes part) before after
  pub moves : (part : List ℕ) (current : Life) (before after : ℕ) → after ≡ before + moves_by call (length part) → PlaceMoves buffer call (Bytes part) current before after
  pub within : (part : List ℕ) → length part ≤ asks_for (unwrap_or buffer 0) call → GivesWithin (unwrap_or buffer 0) call (Bytes part)
  pub answers : (writes : Bool) (part : List ℕ) → IsReplyTo buffer writes call (Bytes part)

-- what holds of every reading by one transfer holds of each
pub single_call : (buffer : Option ℕ) (call : FileCall) → reads_once buffer call ≡ true → IsSingleCall buffer call
single_call buffer call once = grind arith

-- What is given.

-- a front of what is asked, and nothing only where nothing is asked or left
pub record IsPartOf (part wanted : List ℕ) : Type 0 where
  pub front : IsFrontOf part wanted
  pub some : part ≡ [] → wanted ≡ []

-- the flat file gives a first part by one transfer
pub once_carried : (buffer : Option ℕ) (file : FlatFile) (call : FileCall) (part : List ℕ) (after : FlatFile) → reads_once buffer call ≡ true → ((size : ℕ) → buffer ≡ Some size → 0 < size) → IsPartOf part (take (asks_for (unwrap_or buffer 0) call) (rest file)) → after ≡ after_read (record file { buffering = buffering_of buffer }) (moves_by call (length part)) → Accepted (record file { buffering = buffering_of buffer }) call (Bytes part) after
once_carried buffer file call part after once some is leaves = grind arith

-- some first part of what is asked was given: nothing only where nothing is asked or left
pub record GivesOnce (before : Stream) (call : FileCall) (part : List ℕ) (after : Stream) : Type 0 where
  pub kept : KeepsReading before after
  pub counts : LeavesCounts before.raw after.raw
  pub sized : (size : ℕ) → before.buffer ≡ Some size → 0 < size
  pub idle : IsTrue (asks_none before.buffer call) → after.raw ≡ before.raw
  pub still : IsSome before.buffer → 0 < ahead before → LeavesHeld before after
  pub live : after.life ≡ life.Live
  pub place : after.place ≡ before.place + moves_by call (length part)
  pub most : length part ≤ asks_for (size_of before) call
  pub one : OneTransfer before after
  pub is : WhereTold before.raw (IsPartOf part (take (asks_for (size_of before) call) (rest (file_of before))))

-- a front of what is left moves the place no further than the end
front_reaches : (wanted part bytes : List ℕ) (before after : ℕ) → length wanted ≤ length (left_at bytes before) → IsFrontOf part wanted → after ≤ before + length part → after ≤ max before (length bytes)
front_reaches wanted part bytes before after left front moved = grind (arith, length-drop, length-append)

-- a reading by one transfer that gave bytes
pub answers_once : (before mid : Stream) (call : FileCall) (part : List ℕ) → reads_once before.buffer call ≡ true → Reads before → GivesOnce before call part mid → Answers before call (Bytes part) (record mid { short = false })
answers_once before mid call part once begun gives =
    let file : FlatFile = file_of before in
    let is : IsSingleCall before.buffer call = single_call before.buffer call once in
    let has : lacks file call ≡ false = is.suits file begun.readable in
    let same : mid.life ≡ before.life = gives.live ∙ sym begun.live in
    let asked : ℕ = asks_for (size_of before) call in
    let counted : IsTrue before.raw.counts_exactly → IsCounted before.buffer before.raw call (Bytes part) mid.raw false = λ exact. record { faults = λ sound. gives.counts.no_fault exact; waits = λ whole writes. gives.counts.no_wait exact; once = λ short. absurd (cc) } in
    let life_is = is.lives part before.life mid.life same in
    let place = is.moves part mid.life before.place mid.place gives.place in
    let in_hand : IsSome before.buffer → InHandOf before call → mid.raw ≡ before.raw = λ buffered in_hand. (gives.still buffered (is.ahead_is before buffered in_hand)).raw in
    let holds : IsSome before.buffer → InHandOf before call → mid.held ≡ before.held = λ buffered in_hand. (gives.still buffered (is.ahead_is before buffered in_hand)).held in
    let brings = gives.one.came in
    let needs : IsTrue (by_several before.buffer call) → AsksNoMore before call (Bytes part) (record mid { short = false }) = λ several. absurd (let never = is.stops in cc) in
    let told : WhereTold before.raw (BinaryStep file call (Bytes part) false false (file_of mid)) = λ tells. settled (subst (λ (refused : Option IoFault). SettledBy file call refused (Bytes part) (file_of mid)) (sym (accepted before call is.reads has begun.live))
    (once_carried before.buffer file call part (file_of mid) once gives.sized (gives.is tells) (file_after before mid (moves_by call (length part)) begun.bare gives.kept same gives.place tells))) in
    let reach : Reaches before mid = λ tells. front_reaches (take asked (rest file)) part file.bytes before.place mid.place (omega (arith, length-take asked (rest file))) (gives.is tells).front (omega (arith, gives.place, moves_within call (length part))) in
    answers_coming before mid call (Bytes part) false is.reads has begun (search rules)

-- Where the raw stopped a reading.

-- a reading that the raw made wait: its place stays
pub unready_once : (before mid : Stream) (call : FileCall) → reads_once before.buffer call ≡ true → asks_none before.buffer call ≡ false → Reads before → Gives before [] mid → Rose before.raw.waits mid.raw.waits → mid.raw_place ≡ mid.place → WaitsOnce before.raw mid.raw → OneTransfer before mid → (IsSome before.buffer → 0 < ahead before → ⊥) → Answers before call NotReady (record mid { short = true })
unready_once before mid call once asks begun given waits hides alone one none = grind arith

-- a reading whose transfer failed
pub faulted_once : (before after : Stream) (call : FileCall) → reads_once before.buffer call ≡ true → asks_none before.buffer call ≡ false → Reads before → FailsReading before after → after.place ≡ before.place → OneTransfer before after → (IsSome before.buffer → 0 < ahead before → ⊥) → Answers before call (Refused fault.RawFault) after
faulted_once before after call once asks begun fails stays one none =
    let is : IsSingleCall before.buffer call = single_call before.buffer call once in
    answers_faulted before after call is.reads (is.suits (file_of before) begun.readable) begun fails (λ bound most. omega (arith, stays)) (λ goes. stays) asks (λ _. one) (λ buffered has. none buffered (is.ahead_is before buffered has))

-- a reading that wanted memory before anything moved
pub unmoved_once : (before : Stream) (call : FileCall) → reads_once before.buffer call ≡ true → Reads before → IsTrue before.raw.takes_memory → Answers before call (Refused fault.NoMemory) before
unmoved_once before call once begun takes = grind arith
