-- A call that gives bytes to a stream: what it is, with a buffer or without, what makes its answer, and how its pieces and lines are taken one by one.
use Rattle.std.proofs.Common.{◌≡◌, ℕ, ◌+◌, ◌≤◌, ◌<◌, List, [], ◌∷◌, ◌++◌, length, take, drop, get_or, refl, sym, ◌∙◌, ap, append_assoc, append-nil, length-append, arith, Bool, true, false, not, ◌||◌, IsTrue, Option, Some, None, Ok, is_some, subst, lt-ltb, rules, ◌≢◌, unwrap_or, Result, Err, length-drop}
use Rattle.std.proofs.lemmas.List.{take-append-drop, take_more, take_all, length-take-le}
use Rattle.py_flat.specs.Lines.{joined}
use Rattle.py_flat.specs.declared.fault.IoFault.TheVariants as fault
use Rattle.py_flat.specs.declared.life.Life.{Life}
use Rattle.py_flat.specs.declared.life.Life.TheVariants as life
use Rattle.py_flat.specs.Limits.{greatest_place}
use Rattle.py_flat.specs.FlatFile.{FlatFile}
use Rattle.py_flat.specs.Calls.{FileCall, Write, WriteLines, FileReply, Count, Done, NotReady, Refused}
use Rattle.py_flat.specs.Refusals.{refusal, is_getter, is_other_getter, life_refusal, or_else, refused_if, too_far}
use Rattle.py_flat.specs.ExactStep.{is_closed, after_write}
use Rattle.py_flat.specs.BinaryStep.{BinaryStep, payload, asks_end, does_work, is_tell, Accepted, WaitedBy, FaultedBy, StarvedBy, FailsWriting, FailsMidway}
use Rattle.py_raw.specs.RawStream.{Raw, WhereTold, WhereTransfers, NoWait, WaitsOnce}
use Rattle.py_stream.specs.Stream.{Stream, size_of, file_of}
use Rattle.py_stream.specs.Moving.{EndsWithin, Begins}
use Rattle.py_stream.specs.Kinds.{is_reading, is_writing, goes_on, asks_none, calls_none, makes_one, outlasts, says_fault, says_no_memory}
use Rattle.py_stream.specs.Writing.{OwesBehind, Takes, LaysFront, LaysInOrder, PassesOn, IsFull, BlocksFull, OwesNoneOfIts, TookOwn, HasRoom, answer_of_all, TakesAlone, Writes}
use Rattle.py_stream.specs.Answers.{Answers, KeepsStream, ClosedWith, InHand, HasCauses, IsCounted, InHandOf, IsShort, LifeMoves, PlaceMoves, SeeksByEnd, SeekStands, IsReplyTo, closes_again, refused_by}
use Rattle.py_stream.specs.Keeping.{IsSound, KeepsOn}
use Rattle.py_stream.specs.Taking.{Calm, WaitsAsOne, Took, TookAll, FitsBehind, KeepsBehind, KeepsWhatFits, PutsOutcome}
use Rattle.py_stream.proofs.Refused.{completes, GivesNone, gives_none}
use Rattle.py_stream.proofs.Showing.{not_refused}
use Rattle.py_stream.proofs.Owing.{owes_both}
use Rattle.py_stream.proofs.Begun.{near_seen, read_never}
use Rattle.py_stream.proofs.Refusing.{IsPlaced, refused_alone, refused_with}
use Rattle.std.proofs.Math.Seq.{take-add}
use Rattle.py_flat.specs.declared.fault.IoFault.{IoFault}
use Rattle.py_stream.proofs.Taking.{calm_of, calm_then, took_none, took_then, fails_then, fails_more, starves_then, starves_more, fills_then, fills_more}
use Rattle.py_stream.proofs.Flat.{took_ends}

-- lines after lines
pub joined_behind : (first second : List (List ℕ)) → joined (first ++ second) ≡ joined first ++ joined second
joined_behind [] second = refl
joined_behind (line ∷ first) second = ap (λ bytes. line ++ bytes) (joined_behind first second) ∙ sym (append_assoc line (joined first) (joined second))

-- lines joined up to one more are those so far, joined, then this line
pub joined_more : (lines : List (List ℕ)) (i : ℕ) (line : List ℕ) → i < length lines → line ≡ get_or lines i line → joined (take (i + 1) lines) ≡ joined (take i lines) ++ line
joined_more lines i line within is =
    ap joined (take_more lines i line within ∙ ap (λ more. take i lines ++ more ∷ []) (sym is))
    ∙ joined_behind (take i lines) (line ∷ [])
    ∙ ap (λ bytes. joined (take i lines) ++ bytes) (append-nil line)

-- all lines joined are the lines so far, the next, and those that are left
pub joined_parts : (lines : List (List ℕ)) (i : ℕ) (line : List ℕ) → i < length lines → line ≡ get_or lines i line → joined lines ≡ joined (take i lines) ++ (line ++ joined (drop (i + 1) lines))
joined_parts lines i line within is =
    ap joined (sym (take-append-drop (i + 1) lines))
    ∙ joined_behind (take (i + 1) lines) (drop (i + 1) lines)
    ∙ ap (λ bytes. bytes ++ joined (drop (i + 1) lines)) (joined_more lines i line within is)
    ∙ append_assoc (joined (take i lines)) line (joined (drop (i + 1) lines))

-- how many bytes one more line makes
pub length-joined_more : (lines : List (List ℕ)) (i : ℕ) (line : List ℕ) → i < length lines → line ≡ get_or lines i line → length (joined (take (i + 1) lines)) ≡ length (joined (take i lines)) + length line
length-joined_more lines i line within is = ap length (joined_more lines i line within is) ∙ length-append (joined (take i lines)) line

-- all lines joined have at least as many bytes as the lines so far and the next
pub length-joined_parts : (lines : List (List ℕ)) (i : ℕ) (line : List ℕ) → i < length lines → line ≡ get_or lines i line → length (joined (take i lines)) + length line ≤ length (joined lines)
length-joined_parts lines i line within is =
    let all = ap length (joined_parts lines i line within is) in
    omega (arith, all, length-append (joined (take i lines)) (line ++ joined (drop (i + 1) lines)), length-append line (joined (drop (i + 1) lines)))

-- The calls.

-- what holds of both holds of each call that gives bytes
pub of_both : (Fact : FileCall → Type 0) → ((bytes : List ℕ) → Fact (Write bytes)) → ((lines : List (List ℕ)) → Fact (WriteLines lines)) → (call : FileCall) → is_writing call ≡ true → Fact call
of_both Fact one many call writing = grind arith

-- What a call that gives bytes is.

-- what is alike of both calls, whatever the stream
pub record IsGiving (call : FileCall) : Type 0 where
  pub closes : (stream : Stream) → closes_again stream call ≡ false
  pub asks : (file : FlatFile) → asks_end file call ≡ false
  pub refuses : (file : FlatFile) → refusal file call ≡ or_else (life_refusal file call) (or_else (refused_if (not file.can.writable) fault.Unsupported) (too_far (file.place + length (payload call))))
  pub getter : is_getter call ≡ false
  pub other : is_other_getter call ≡ false
  pub tells : (is_getter call || is_tell call) ≡ false
  pub ends : (before : Stream) (reply : FileReply) (after : Stream) → SeeksByEnd before call reply after
  pub seeks : (before : Stream) (reply : FileReply) (after : Stream) → SeekStands before call reply after
  pub passes : (before : Stream) (reply : FileReply) (after : Stream) → PassesOn before call reply after
  pub lays : (before : Stream) (after : List ℕ) → LaysFront before (payload call) after → LaysInOrder before call after
  pub reads : is_reading call ≡ false
  pub unheld : (before : Stream) → InHandOf before call → ⊥
  pub some : (buffer : Option ℕ) → asks_none buffer call ≡ false
  pub calls : (buffer : Option ℕ) (writes : Bool) → calls_none buffer writes call ≡ false
  pub lasts : outlasts (Some 0) call ≡ true

-- what is alike of both calls holds of each call that gives bytes
pub is_giving : (call : FileCall) → is_writing call ≡ true → IsGiving call
is_giving call writing = grind arith

-- What refuses a call that gives bytes.

-- a live stream that takes bytes refuses a call only for the place of the bytes
live_refusal : (stream : Stream) (call : FileCall) → is_writing call ≡ true → stream.life ≡ life.Live → stream.can.writable ≡ true → refusal (file_of stream) call ≡ too_far (stream.place + length (payload call))
live_refusal stream call writing live can = grind arith

-- a live stream refuses what would go past the greatest place
pub writing_too_far : (before after : Stream) (call : FileCall) → is_writing call ≡ true → IsPlaced before → before.can.writable ≡ true → Begins before (Ok tt) after → greatest_place < before.place + length (payload call) → Answers before call (Refused fault.TooFar) after
writing_too_far before after call writing placed can begins past =
    let giving : IsGiving call = is_giving call writing in
    refused_with before after call fault.TooFar placed
    (live_refusal before call writing begins.0 can ∙ ap (λ (beyond : Bool). refused_if beyond fault.TooFar) (lt-ltb greatest_place (before.place + length (payload call)) past))
    (giving.asks (file_of before)) refl (giving.closes before) begins.1

-- whether lines have a place that ends within the greatest
pub lines_fit : (end : ℕ) (found : Option ℕ) → EndsWithin end found → is_some found ≡ true → end ≤ greatest_place
lines_fit end (Some place) ends some = ends.1
lines_fit end None ends some = absurd (cc)

-- lines that have no place end past the greatest
pub lines_too_far : (end : ℕ) (found : Option ℕ) → EndsWithin end found → is_some found ≡ false → greatest_place < end
lines_too_far end (Some place) ends none = absurd (cc)
lines_too_far end None ends none = ends

-- What is accepted.

-- a call that gives bytes, of a live stream that may place them, wherever what it owes lies
pub record MayGive (old : Stream) (call : FileCall) : Type 0 where
  pub writing : is_writing call ≡ true
  pub sound : IsSound old
  pub live : old.life ≡ life.Live
  pub can : old.can.writable ≡ true
  pub within : old.place + length (payload call) ≤ greatest_place

-- a stream that may place a call's bytes doesn't refuse the call
pub accepted : (old : Stream) (call : FileCall) → MayGive old call → refusal (file_of old) call ≡ None
accepted old call may = grind arith

-- the raw may be called
pub works : (old : Stream) (call : FileCall) → MayGive old call → IsTrue (does_work (file_of old) call)
works old call may = grind arith

-- what a call that gives bytes left, but for whether a wait cut it short
pub record Left (old : Stream) (call : FileCall) (reply : FileReply) (short : Bool) (new : Stream) : Type 0 where
  pub kept : KeepsOn old new
  pub is_open : is_closed new.life ≡ false
  pub causes : HasCauses old.raw reply new.raw short
  pub counted : IsTrue old.raw.counts_exactly → IsCounted old.buffer old.raw call reply new.raw short
  pub shorts : IsShort call reply short
  pub life_is : LifeMoves old.buffer call reply old.life new.life
  pub place : PlaceMoves old.buffer call reply new.life old.place new.place
  pub wants : IsTrue (says_no_memory reply) → IsTrue old.raw.takes_memory
  pub one : IsTrue (makes_one old.buffer call) → WhereTransfers old.raw (new.raw.transfers ≤ old.raw.transfers + 1)
  pub answers : IsReplyTo old.buffer true call reply
  pub told : WhereTold old.raw (BinaryStep (file_of old) call reply short (says_fault reply) (file_of new))

-- what a call that gives bytes left, and did with them, answers it
pub answers_left : (old new : Stream) (call : FileCall) (reply : FileReply) (short : Bool) → MayGive old call → Left old call reply short new → Writes old call reply (record new { short = short }) → Answers old call reply (record new { short = short })
answers_left old new call reply short may left writes =
    let giving : IsGiving call = is_giving call may.writing in
    let gives : GivesNone call = gives_none call giving.reads in
    let unrefused : refused_by old call ≡ None = refused_alone old call (giving.asks (file_of old)) ∙ accepted old call may in
    let answers : IsReplyTo old.buffer old.can.writable call reply = subst (λ (writes : Bool). IsReplyTo old.buffer writes call reply) (sym may.can) left.answers in
    let keeps : KeepsStream old (record new { short = short }) = record { buffer = left.kept.buffer; can = left.kept.can; raw = left.kept.raw; bare = λ bare _. left.kept.sound.bare (left.kept.buffer ∙ bare) } in
    let shut : ClosedWith old.life old.raw → ClosedWith new.life new.raw = λ closed. left.kept.stays ∙ closed ∙ ap is_closed may.live ∙ sym left.is_open in
    let unheld : InHand old call → ⊥ = λ has. giving.unheld old has.of in
    search (rules, completes, near_seen, read_never, not_refused)

-- such a call of a stream that owes what lies right before its place, or nothing
pub record MayWrite (old : Stream) (call : FileCall) : Type 0 where
  pub gives : MayGive old call
  pub behind : OwesBehind old

-- what such a stream took of the call's bytes, and owes
pub record Gave (old : Stream) (call : FileCall) (reply : FileReply) (short : Bool) (new : Stream) : Type 0 where
  pub behind : OwesBehind new
  pub takes : Takes old (payload call) (record new { short = short })
  pub room : HasRoom old (payload call) → TakesAlone old call reply (record new { short = short })
  pub lays : WhereTold old.raw (LaysFront old (payload call) new.raw.bytes)
  pub full : BlocksFull call reply (record new { short = short })
  pub straight : OwesNoneOfIts old call reply (record new { short = short })
  pub starves : IsTrue (says_no_memory reply) → new.life ≡ life.Failed → TookOwn old (record new { short = short })

-- what a call that gives bytes left of such a stream answers it
pub answers_coming : (old new : Stream) (call : FileCall) (reply : FileReply) (short : Bool) → MayWrite old call → Left old call reply short new → Gave old call reply short new → Answers old call reply (record new { short = short })
answers_coming old new call reply short may left gave = answers_left old new call reply short may.gives left (grind (arith, is_giving, owes_both))

-- no wait ends a call but where it is counted
pub calm_counts : (buffer : Option ℕ) (call : FileCall) (old new : Raw) → is_writing call ≡ true → Calm buffer old new → outlasts buffer call ≡ false → NoWait old new
calm_counts None call old new writing calm ends = calm
calm_counts (Some size) call old new writing calm ends = grind arith

-- one wait is counted of a call that each wait ends
pub one_counts : (buffer : Option ℕ) (call : FileCall) (old new : Raw) → is_writing call ≡ true → WaitsAsOne buffer old new → outlasts buffer call ≡ false → WaitsOnce old new
one_counts None call old new writing once ends = once
one_counts (Some size) call old new writing once ends = grind arith

-- a call that gives bytes isn't a `tell`
pub no_tell : (call : FileCall) → is_writing call ≡ true → is_tell call ≡ false
no_tell call writing = grind arith

-- What a call that gives bytes answers, by what came of it.

-- n bytes were taken: all of them, but by one transfer of a `write` without a buffer
abbrev pub TakesCount : Option ℕ → FileCall → ℕ → Type 0
TakesCount None (Write bytes) count = count ≡ 0 → bytes ≡ []
TakesCount buffer call count = count ≡ length (payload call)

-- what a call answers that took bytes
abbrev pub taken_reply : FileCall → ℕ → FileReply
taken_reply (Write bytes) count = Count count
taken_reply call count = Done

-- it says so of one that took all
pub says_all : (call : FileCall) → is_writing call ≡ true → taken_reply call (length (payload call)) ≡ answer_of_all call
says_all call writing = grind arith

-- what a call carried out, or what it did before it would have blocked
abbrev pub StepsBy : Bool → FlatFile → FileCall → FileReply → FlatFile → Type 0
StepsBy true file call reply after = WaitedBy file call reply after
StepsBy false file call reply after = Accepted file call reply after

-- an answer of a call that took the first n of its bytes: all that it could, or what it could before it would have blocked
pub record IsPart (old : Stream) (count : ℕ) (buffer : Option ℕ) (call : FileCall) (reply : FileReply) (short : Bool) : Type 0 where
  pub no_fault : says_fault reply ≡ false
  pub no_want : says_no_memory reply ≡ false
  pub shorts : IsShort call reply short
  pub life_is : (before after : Life) → after ≡ before → LifeMoves buffer call reply before after
  pub place : (current : Life) (before after : ℕ) → after ≡ before + count → PlaceMoves buffer call reply current before after
  pub full : (after : Stream) → (IsTrue short → IsFull after.owed after.place (size_of after)) → BlocksFull call reply after
  pub straight : (after : Stream) → OwesNoneOfIts old call reply after
  pub answers : IsReplyTo buffer true call reply
  pub steps : (after : FlatFile) → after ≡ after_write (file_of (record old { buffer = buffer })) (take count (payload call)) → StepsBy short (file_of (record old { buffer = buffer })) call reply after

all_taken : (bytes : List ℕ) (count : ℕ) → count ≡ length bytes → take count bytes ≡ bytes
all_taken bytes count all = take_all count bytes (omega (arith, all))

carried : (old : Stream) (count : ℕ) (buffer : Option ℕ) (call : FileCall) → is_writing call ≡ true → count ≤ length (payload call) → TakesCount buffer call count → (after : FlatFile) → after ≡ after_write (file_of (record old { buffer = buffer })) (take count (payload call)) → Accepted (file_of (record old { buffer = buffer })) call (taken_reply call count) after
carried old count (Some size) (Write bytes) writing fits all after is = grind (arith, all_taken)
carried old count None (Write bytes) writing fits some after is = record {
  part = take count bytes;
  front = (drop count bytes, take-append-drop count bytes);
  some = λ nothing. some (omega (arith, ap length nothing, length-take-le count bytes fits));
  outcome = ap (λ (left : FlatFile). (Count count, left)) is ∙ ap (λ (taken : ℕ). (Count taken, after_write (file_of (record old { buffer = None })) (take count bytes))) (sym (length-take-le count bytes fits));
}
carried old count buffer (WriteLines lines) writing fits all after is = grind (arith, all_taken)
carried old count buffer call writing fits all after is = absurd (cc)

-- each call that gives bytes has the answer of one that took n bytes
pub is_taken : (old : Stream) (count : ℕ) (buffer : Option ℕ) (call : FileCall) → is_writing call ≡ true → count ≤ length (payload call) → TakesCount buffer call count → IsPart old count buffer call (taken_reply call count) false
is_taken old count buffer call writing fits counts = grind (arith, carried)

-- the raw would have blocked: n bytes were taken, fewer than all, and none of a `write` without a buffer, which says that it isn't ready
abbrev pub WaitsCount : Option ℕ → FileCall → ℕ → Type 0
WaitsCount None (Write bytes) taken = taken ≡ 0
WaitsCount buffer call taken = taken < length (payload call)

-- what a call answers that would have blocked
abbrev pub waited_reply : Option ℕ → FileCall → ℕ → FileReply
waited_reply None (Write bytes) taken = NotReady
waited_reply buffer call taken = Refused (fault.WouldBlock taken)

-- each call that gives bytes has the answer of one that would have blocked
pub is_blocked : (old : Stream) (taken : ℕ) (buffer : Option ℕ) (call : FileCall) → is_writing call ≡ true → WaitsCount buffer call taken → IsPart old taken buffer call (waited_reply buffer call taken) true
is_blocked old taken buffer call writing counts = grind arith

-- the raw failed, or memory ran out once it took some: no byte is counted of a `write` without a buffer
abbrev pub FailsCount : Option ℕ → FileCall → ℕ → Type 0
FailsCount None (Write bytes) taken = taken ≡ 0
FailsCount buffer call taken = taken ≤ length (payload call)

-- an answer of a call that the raw failed, or that ran out of memory, after n bytes
pub record IsFaulted (old : Stream) (taken : ℕ) (buffer : Option ℕ) (call : FileCall) : Type 0 where
  pub life_is : (before : Life) → LifeMoves buffer call (Refused fault.RawFault) before life.Failed
  pub place : (current : Life) (before after : ℕ) → FailsCount buffer call taken → after ≡ before + taken → PlaceMoves buffer call (Refused fault.RawFault) current before after
  pub faulted : (after : FlatFile) → FailsWriting (file_of old) call life.Failed after → FaultedBy (file_of old) call after
  pub starved_life : (before : Life) → goes_on buffer call ≡ true → LifeMoves buffer call (Refused fault.NoMemory) before life.Failed
  pub starved_place : (before after : ℕ) → taken ≤ length (payload call) → after ≡ before + taken → PlaceMoves buffer call (Refused fault.NoMemory) life.Failed before after
  pub starved : (after : FlatFile) → FailsMidway (file_of old) call after → StarvedBy (file_of old) call after
  pub same : (after : FlatFile) → after ≡ file_of old → StarvedBy (file_of old) call after

-- each call that gives bytes has the answer of one that was stopped
pub is_faulted : (old : Stream) (taken : ℕ) (buffer : Option ℕ) (call : FileCall) → is_writing call ≡ true → IsFaulted old taken buffer call
is_faulted old taken buffer call writing = grind arith

-- a live stream took nothing before any piece
pub takes_nothing : (stream : Stream) → IsSound stream → OwesBehind stream → stream.life ≡ life.Live → TookAll stream [] stream
takes_nothing stream sound behind live = record { took = took_none stream sound behind live; calm = calm_of stream.buffer stream.raw stream.raw (λ exact. refl) }

-- a piece that was taken after others is taken with them
pub takes_then : (old mid new : Stream) (front more : List ℕ) → TookAll old front mid → TookAll mid more new → TookAll old (front ++ more) new
takes_then old mid new front more first second = grind (arith, took_then, calm_then)

-- an answer of a front of the bytes, but that all of it was taken, is one of all of them
pub put_more : (old new : Stream) (bytes more : List ℕ) (start : ℕ) (result : Result Bool IoFault) → PutsOutcome old bytes start result new → (result ≢ Ok true) → PutsOutcome old (bytes ++ more) start result new
put_more old new bytes more start result put stops = grind (arith, fills_more, fails_more, starves_more)

-- what a piece comes to after others were taken is what all of them come to
pub put_then : (old mid new : Stream) (front more : List ℕ) (start : ℕ) (result : Result Bool IoFault) → TookAll old front mid → PutsOutcome mid more start result new → PutsOutcome old (front ++ more) start result new
put_then old mid new front more start (Ok true) first put = takes_then old mid new front more first put
put_then old mid new front more start (Ok false) first put = fills_then old mid new front more first put
put_then old mid new front more start (Err fault.RawFault) first put = fails_then old mid new front more first put
put_then old mid new front more start (Err fault.NoMemory) first put = starves_then old mid new front more start first put
put_then old mid new front more start (Err why) first put = absurd put

-- Pieces of one list.

-- a front, and what is left, are all
pub all_of : (bytes : List ℕ) (taken : ℕ) → take taken bytes ++ drop taken bytes ≡ bytes
all_of bytes taken = take-append-drop taken bytes

-- some more bytes of a list were taken after the first ones
pub takes_more : (old now new : Stream) (bytes : List ℕ) (taken count : ℕ) → TookAll old (take taken bytes) now → TookAll now (take count (drop taken bytes)) new → TookAll old (take (taken + count) bytes) new
takes_more old now new bytes taken count first second = subst (λ (some : List ℕ). TookAll old some new) (sym (take-add taken count bytes)) (takes_then old now new (take taken bytes) (take count (drop taken bytes)) first second)

-- what comes of the bytes that are left comes of all
pub put_rest : (old now new : Stream) (bytes : List ℕ) (taken start : ℕ) (result : Result Bool IoFault) → TookAll old (take taken bytes) now → PutsOutcome now (drop taken bytes) start result new → PutsOutcome old bytes start result new
put_rest old now new bytes taken start result first put = subst (λ (all : List ℕ). PutsOutcome old all start result new) (all_of bytes taken) (put_then old now new (take taken bytes) (drop taken bytes) start result first put)

-- the last of the bytes that are left has a place that a stream can have
pub rest_within : (old now : Stream) (bytes : List ℕ) (taken : ℕ) → taken ≤ length bytes → Took old (take taken bytes) now → old.place + length bytes ≤ greatest_place → now.place + length (drop taken bytes) ≤ greatest_place
rest_within old now bytes taken fits took within = omega (arith, within, took_ends old now (take taken bytes) took, length-take-le taken bytes fits, length-drop taken bytes)

-- Line by line.

-- an answer of one line, but that it was taken, is one of all lines
pub lines_stopped : (old now new : Stream) (lines : List (List ℕ)) (i : ℕ) (line piece : List ℕ) (start : ℕ) (result : Result Bool IoFault) → i < length lines → line ≡ get_or lines i line → piece ≡ line → TookAll old (joined (take i lines)) now → PutsOutcome now piece start result new → (result ≢ Ok true) → PutsOutcome old (joined lines) start result new
lines_stopped old now new lines i line piece start result within is same took put stops =
    let rest : List ℕ = joined (drop (i + 1) lines) in
    subst (λ (all : List ℕ). PutsOutcome old all start result new) (sym (joined_parts lines i line within is))
    (put_then old now new (joined (take i lines)) (line ++ rest) start result took
    (put_more now new line rest start result (subst (λ (some : List ℕ). PutsOutcome now some start result new) same put) stops))

-- one more line was taken after those so far
pub lines_taken : (old now new : Stream) (lines : List (List ℕ)) (i : ℕ) (line piece : List ℕ) → i < length lines → line ≡ get_or lines i line → piece ≡ line → TookAll old (joined (take i lines)) now → TookAll now piece new → TookAll old (joined (take (i + 1) lines)) new
lines_taken old now new lines i line piece within is same took more = grind (arith, joined_more, takes_then)

-- What has room in the buffer.

-- bytes kept behind others are kept with them
keeps_more : (old mid new : Stream) (front more : List ℕ) → KeepsBehind old front mid → KeepsBehind mid more new → KeepsBehind old (front ++ more) new
keeps_more old mid new front more first second = grind (arith, append_assoc)

-- a line has room behind the lines before it, where all bytes have
line_fits : (old now : Stream) (front line all : List ℕ) → KeepsBehind old front now → length front + length line ≤ length all → FitsBehind old all → FitsBehind now line
line_fits old now front line all keeps within fits = grind (arith, length-append, unwrap_or)

-- lines so far were kept, and the next one has room, where all bytes have
next_fits : (old now : Stream) (front line piece all : List ℕ) → piece ≡ line → (FitsBehind old front → KeepsBehind old front now) → length front + length line ≤ length all → FitsBehind old all → KeepsBehind old front now × FitsBehind now piece
next_fits old now front line piece all same kept within fits =
    let keeps : KeepsBehind old front now = kept (record { buffered = fits.buffered; room = omega (arith, fits.room, within) }) in
    (keeps, subst (FitsBehind now) (sym same) (line_fits old now front line all keeps within fits))

-- one more line that has room was kept after those so far
pub lines_kept : (old now new : Stream) (lines : List (List ℕ)) (i : ℕ) (line piece : List ℕ) → i < length lines → line ≡ get_or lines i line → piece ≡ line → (FitsBehind old (joined (take i lines)) → KeepsBehind old (joined (take i lines)) now) → KeepsWhatFits now piece (Ok true) new → FitsBehind old (joined (take (i + 1) lines)) → KeepsBehind old (joined (take (i + 1) lines)) new
lines_kept old now new lines i line piece within is same kept room fits =
    let front : List ℕ = joined (take i lines) in
    let more : joined (take (i + 1) lines) ≡ front ++ line = joined_more lines i line within is in
    let next = next_fits old now front line piece (front ++ line) same kept (omega (arith, length-append front line)) (subst (FitsBehind old) more fits) in
    subst (λ (bytes : List ℕ). KeepsBehind old bytes new) (sym more) (keeps_more old now new front line next.0 (subst (λ (bytes : List ℕ). KeepsBehind now bytes new) same (room next.1).1))

-- lines of which one wasn't kept had no room
pub lines_roomless : (old now new : Stream) (lines : List (List ℕ)) (i : ℕ) (line piece : List ℕ) (result : Result Bool IoFault) → i < length lines → line ≡ get_or lines i line → piece ≡ line → (FitsBehind old (joined (take i lines)) → KeepsBehind old (joined (take i lines)) now) → KeepsWhatFits now piece result new → (result ≢ Ok true) → KeepsWhatFits old (joined lines) result new
lines_roomless old now new lines i line piece result within is same kept room stops fits = absurd (stops (room (next_fits old now (joined (take i lines)) line piece (joined lines) same kept (length-joined_parts lines i line within is) fits).1).0)

-- the next line has an end that a stream can have
pub line_within : (old now : Stream) (lines all : List (List ℕ)) (i start : ℕ) (line piece : List ℕ) → lines ≡ all → i < length lines → line ≡ get_or lines i line → piece ≡ line → Took old (joined (take i lines)) now → start ≡ old.place → start + length (joined all) ≤ greatest_place → now.place + length piece ≤ greatest_place
line_within old now lines all i start line piece given within is same took at fits =
    omega (arith, at, fits, ap (λ (some : List (List ℕ)). length (joined some)) given, ap length same, length-joined_parts lines i line within is, took_ends old now (joined (take i lines)) took)
