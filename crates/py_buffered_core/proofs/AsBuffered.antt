-- A buffered stream as the layer above asks for one: what a write took, and how its raw is handed back.
use Rattle.std.proofs.Common.{◌≡◌, ℕ, ◌-◌, ◌≤◌, List, Some, Result, arith, Bool, true, false, Option, None, Ok, Err, if◌then◌else◌, refl, sym, subst, IsTrue}
use Rattle.py_flat.specs.declared.fault.IoFault.{IoFault}
use Rattle.py_flat.specs.declared.life.Life.{Life}
use Rattle.py_flat.specs.Lines.{joined}
use Rattle.py_flat.specs.Calls.{FileReply, Write, WriteLines, Detach, Refused, FileCall, Read1}
use Rattle.py_stream.specs.Replies.{count_reply, done_reply}
use Rattle.py_stream.specs.Stream.{Stream, detached_stream}
use Rattle.py_stream.specs.Answers.{Answers, PlaceMoves, PlaceStarves, RefusesAlone}
use Rattle.py_stream.specs.Taken.{taken_of}
use Rattle.py_raw.specs.RawStream.{Raw}
use Rattle.py_stream.specs.declared.access.Access.{Access}
use Rattle.py_stream.specs.Access.{can_of, is_written, is_read}
use Rattle.py_stream.specs.Ending.{BeginDetachIn}
use Rattle.py_stream.specs.Handing.{HandsOver, place_handed, left_behind}
use Rattle.py_stream.proofs.PassingOn.{begun}
use Rattle.py_stream.proofs.Refused.{detached_answers}
use Rattle.py_stream.proofs.Shutting.{AtOnce, detach_refuses, hands_at_once, hands_over}
use Rattle.py_engine.specs.Engine.{EngineView, stream_of, Stands}
use Rattle.py_engine.specs.Passing.{PassesToDetach, BeginsDetachIn}
use Rattle.py_buffered_core.specs.Buffered.{seen_as, IsBuffered, BeginsDetach, BufferedView, seen_of, as_buffer}
use Rattle.py_engine.proofs.Standing.{is_far, owes_nothing, reads_alone, is_writing_live}
use Rattle.py_engine.proofs.Draining.{none_at_place}
use Rattle.py_stream.specs.Buffer.{taken_by, OwesAsItCan, is_made, AnswersAsBuffer}
use Rattle.py_stream.proofs.Buffering.{answers_as_buffer}

-- the place moved forth by what a write took
pub record Counts (bytes : List ℕ) (reply : FileReply) (before after : ℕ) : Type 0 where
  pub forth : before ≤ after
  pub taken : after - before ≡ taken_of bytes reply before after

-- the place is where it was, or moved forth
starved : (current : Life) (most before after : ℕ) → PlaceStarves current (Some most) before after → before ≤ after
starved current most before after forth = grind arith

-- after a `write`
write_counts : (result : Result ℕ IoFault) (size : ℕ) (bytes : List ℕ) (current : Life) (before after : ℕ) → PlaceMoves (Some size) (Write bytes) (count_reply result) current before after → Counts bytes (count_reply result) before after
write_counts result size bytes current before after same = grind (arith, starved)

-- after a `writelines`
writelines_counts : (result : Result (Unit {0}) IoFault) (size : ℕ) (lines : List (List ℕ)) (current : Life) (before after : ℕ) → PlaceMoves (Some size) (WriteLines lines) (done_reply result) current before after → Counts (joined lines) (done_reply result) before after
writelines_counts result size lines current before after same = grind (arith, starved)

-- what a writing call of a stream with a buffer took, by its one clause
pub write_takes : (before after : Stream) (size : ℕ) (bytes : List ℕ) (result : Result ℕ IoFault) → before.buffer ≡ Some size → Answers before (Write bytes) (count_reply result) after → Counts bytes (count_reply result) before.place after.place
write_takes before after size bytes result sized answers = write_counts result size bytes after.life before.place after.place (rw sized at answers.moves.place)

pub writelines_takes : (before after : Stream) (size : ℕ) (lines : List (List ℕ)) (result : Result (Unit {0}) IoFault) → before.buffer ≡ Some size → Answers before (WriteLines lines) (done_reply result) after → Counts (joined lines) (done_reply result) before.place after.place
writelines_takes before after size lines result sized answers = writelines_counts result size lines after.life before.place after.place (rw sized at answers.moves.place)

-- How a detaching begins.

-- a stream that is written is detached as all of them are
begins_written : (opened : Access) (current : Life) (old new : Stream) (result : Result (Unit {0}) IoFault) → is_written opened ≡ true → BeginsDetachIn opened current old result new → BeginDetachIn current old result new
begins_written opened current old new result writes begins = grind arith

-- a live stream that is read alone is left as it is
begins_read : (opened : Access) (old new : Stream) (result : Result (Unit {0}) IoFault) → is_written opened ≡ false → PassesToDetach opened old result new → (result ≡ Ok tt) × (new ≡ old)
begins_read opened old new result reads begins = grind arith

-- A detaching that is refused.

refused_read : (old new : EngineView) (current : Life) (why : IoFault) → Stands old → is_written old.access ≡ false → old.life ≡ current → BeginsDetachIn old.access current (begun (stream_of old)) (Err why) (stream_of new) → Answers (stream_of old) Detach (Refused why) (stream_of new)
refused_read old new current why is reads live begins = grind (arith, begins_read, begun, detach_refuses, is_far)

refused_in : (old new : EngineView) (written : Bool) (why : IoFault) → is_written old.access ≡ written → BeginsDetach (Some old) (Err why) (Some new) → Answers (stream_of old) Detach (Refused why) (stream_of new)
refused_in old new false why reads (begins, is) = refused_read old new old.life why is reads refl begins
refused_in old new true why writes (begins, is) =
    detach_refuses (stream_of old) (stream_of new) old.life why refl (is_writing_live old is writes) (is_far old is)
    (begins_written old.access old.life (begun (stream_of old)) (stream_of new) (Err why) writes begins)

-- a stream that may not be handed over, or was
pub detach_fails : (old new : Option EngineView) (opened : Access) (seekable : Bool) (size : ℕ) (why : IoFault) → BeginsDetach old (Err why) new → Answers (seen_as old opened seekable size) Detach (Refused why) (seen_as new opened seekable size)
detach_fails (Some old) (Some new) opened seekable size why begins = refused_in old new (is_written old.access) why refl begins
detach_fails (Some old) None opened seekable size why never = absurd never
detach_fails None (Some new) opened seekable size why never = absurd never
detach_fails None None opened seekable size why detached = grind (arith, detached_answers)

-- A raw that is handed back.

-- as an engine has it, once its detaching began
abbrev HandsBack : EngineView → EngineView → Type 0
HandsBack old new = HandsOver (stream_of old) new.raw (stream_of new).owed.bytes (place_handed (stream_of old) (stream_of new).owed) (left_behind (stream_of old))

-- as it is
hands_same : (old new : EngineView) → Stands old → AtOnce (stream_of old) → stream_of new ≡ begun (stream_of old) → HandsBack old new
hands_same old new is at_once same =
    subst (λ (after : Stream). HandsOver (stream_of old) after.raw after.owed.bytes (place_handed (stream_of old) after.owed) (left_behind (stream_of old))) (sym same)
    (hands_at_once (stream_of old) old.window.size refl at_once (is_far old is) (none_at_place old is.window_is))

hands_read : (old new : EngineView) (current : Life) → Stands old → is_written old.access ≡ false → old.life ≡ current → BeginsDetachIn old.access current (begun (stream_of old)) (Ok tt) (stream_of new) → HandsBack old new
hands_read old new current is reads at begins =
    let alone = reads_alone old is (grind arith) in
    grind (arith, hands_same, owes_nothing, begins_read, begun)

hands_in : (old new : EngineView) (written : Bool) → is_written old.access ≡ written → BeginsDetach (Some old) (Ok tt) (Some new) → HandsBack old new
hands_in old new false reads (begins, is) = hands_read old new old.life is reads refl begins
hands_in old new true writes (begins, is) =
    hands_over (stream_of old) (stream_of new) old.life refl (is_writing_live old is writes) old.window.size refl (is_far old is)
    (none_at_place old is.window_is)
    (begins_written old.access old.life (begun (stream_of old)) (stream_of new) (Ok tt) writes begins)

-- as a stream hands it back that kept beside its engine what is the engine's own
hands_kept : (old new : EngineView) (opened : Access) (seekable : Bool) (size : ℕ) → IsBuffered (Some old) opened seekable size → HandsBack old new → HandsOver (stream_of old) new.raw (stream_of new).owed.bytes (if seekable then Some (stream_of new).owed.place else None) (detached_stream (can_of opened seekable) (Some size))
hands_kept old new opened seekable size is hands = grind arith

-- a stream that is handed over
pub detach_hands_over : (old : Option EngineView) (new : EngineView) (opened : Access) (seekable : Bool) (size : ℕ) (raw : Raw) (unwritten : List ℕ) (place : Option ℕ) → IsBuffered old opened seekable size → BeginsDetach old (Ok tt) (Some new) → raw ≡ new.raw → unwritten ≡ (stream_of new).owed.bytes → place ≡ (if seekable then Some (stream_of new).owed.place else None) → HandsOver (seen_as old opened seekable size) raw unwritten place (seen_as None opened seekable size)
detach_hands_over (Some old) new opened seekable size raw unwritten place is begins raw_is unwritten_is place_is = rw (raw_is, unwritten_is, place_is) (hands_kept old new opened seekable size is (hands_in old new (is_written old.access) refl begins))
detach_hands_over None new opened seekable size raw unwritten place is never raw_is unwritten_is place_is = absurd never

-- a detaching that began isn't of a stream without an engine
pub begins_some : (old : Option EngineView) → BeginsDetach old (Ok tt) None → ⊥
begins_some old wrong = grind arith

-- an answer of it is one of a buffered stream
pub answers_so : (old new : BufferedView) (call : FileCall) (reply : FileReply) → OwesAsItCan (as_buffer old) → IsTrue (is_made call) → Answers (seen_of old) call reply (seen_of new) → new.taken ≡ taken_by call (seen_of old).place (seen_of new).place old.taken → AnswersAsBuffer (as_buffer old) call reply (as_buffer new)
answers_so old new call reply owes made answers counts = answers_as_buffer (seen_of old) old.taken call reply (seen_of new) new.taken answers counts made (grind arith) owes

-- What it is opened for is what it can do.

reads_so : (engine : Option EngineView) (opened : Access) (seekable : Bool) (size : ℕ) → IsBuffered engine opened seekable size → (seen_as engine opened seekable size).can ≡ can_of opened seekable
reads_so engine opened seekable size is = grind arith

-- a call that it isn't opened for is refused
pub unread : (engine : Option EngineView) (opened : Access) (seekable : Bool) (size : ℕ) (asked : Option ℕ) → IsBuffered engine opened seekable size → is_read opened ≡ false → RefusesAlone (seen_as engine opened seekable size) (Read1 asked)
unread engine opened seekable size asked is reads = grind (arith, reads_so)

pub unwritten : (engine : Option EngineView) (opened : Access) (seekable : Bool) (size : ℕ) (bytes : List ℕ) → IsBuffered engine opened seekable size → is_written opened ≡ false → RefusesAlone (seen_as engine opened seekable size) (Write bytes)
unwritten engine opened seekable size bytes is writes = grind (arith, reads_so)

-- a refused write took nothing
pub takes_none : (old new : Stream) (was : ℕ) (bytes : List ℕ) → new ≡ record old { short = false } → 0 ≡ taken_by (Write bytes) old.place new.place was
takes_none old new was bytes same = grind arith
