-- A call that neither waits nor fails of a stream in memory, as one of a buffered stream.
use Rattle.std.proofs.Common.{◌≡◌, ℕ, ◌≤◌, max, Bool, true, false, IsTrue, List, length, Option, Some, None, refl, sym, ap, subst, arith}
use Rattle.std.proofs.lemmas.Bool.Decides.{eqb_tells}
use Rattle.py_flat.specs.declared.fault.IoFault.{IoFault}
use Rattle.py_flat.specs.declared.fault.IoFault.TheVariants as fault
use Rattle.py_flat.specs.declared.life.Life.{Life}
use Rattle.py_flat.specs.declared.life.Life.TheVariants as life
use Rattle.py_flat.specs.Limits.{greatest_place}
use Rattle.py_flat.specs.Calls.{FileCall, Read1, Write, Flush, Close, FileReply, Done, Refused}
use Rattle.py_flat.specs.FlatFile.{Abilities, FlatFile, Buffering}
use Rattle.py_flat.specs.Refusals.{refusal, is_close}
use Rattle.py_flat.specs.AllowedStep.{settled}
use Rattle.py_flat.specs.ExactStep.{is_closed}
use Rattle.py_flat.specs.BinaryStep.{payload, SettledBy, BinaryStep}
use Rattle.py_flat.proofs.Settling.{blames}
use Rattle.py_flat.specs.Owed.{Owed}
use Rattle.py_raw.specs.RawStream.{Keeps}
use Rattle.py_stream.specs.Stream.{Stream}
use Rattle.py_stream.specs.Writing.{LaysFrontOf, BlocksFull}
use Rattle.py_stream.specs.Kinds.{is_reading, is_writing, says_fault}
use Rattle.py_stream.specs.Answers.{IsAnswerTo, IsReplyTo, IsShort, LifeMoves, PlaceMoves}
use Rattle.py_stream.specs.Buffer.{Buffer, size_shown, taken_by, refused_here, refused_lent, LeavesBuffer, closes_twice, parts_when_closed, GivesAsked, BufferMoves, BufferSeeksByEnd, stream_shown, BufferOwes, BufferPasses, BufferLays, BufferTakes, AnswersAsBuffer}
use Rattle.py_stream.proofs.Buffering.{owes_none_so}
use Rattle.py_memio.specs.BytesIO.{raw_in_memory, buffer_with}

-- nothing was laid on
pub lays_none : (bytes : List ℕ) (owed : Owed) (place : ℕ) (own : List ℕ) → LaysFrontOf bytes owed place own bytes
lays_none bytes owed place own = record { passed = 0; more = 0; laid = refl; order = λ some. absurd (some refl) }

-- a call that isn't short had nothing to wait for
full_of : (call : FileCall) (reply : FileReply) (after : Stream) → IsShort call reply false → BlocksFull call reply after
full_of call reply after whole = grind arith

-- a call that leaves the place takes nothing
takes_none : (call : FileCall) (place : ℕ) → BufferTakes call place place
takes_none (Write bytes) place = (omega arith, omega arith)
takes_none call place = tt

-- a call that gives nothing to the stream, or leaves it as it was, owes nothing
pub owes_still : (file left : FlatFile) (lent : Bool) (call : FileCall) (was taken : ℕ) → (IsTrue (is_writing call) → (left.place ≡ file.place) × (left.bytes ≡ file.bytes)) → BufferOwes (buffer_with file lent was) call (buffer_with left lent taken)
owes_still file left lent call was taken still = owes_none_so (buffer_with file lent was) (buffer_with left lent taken) call refl refl (λ told. absurd (cc)) (λ writing. record { place = (still writing).0; raw_place = (still writing).0; bytes = λ told. (still writing).1 })

-- what a stream in memory can do stays, and so does what its raw can do
keeps_raw : (file left : FlatFile) → left.can ≡ file.can → Keeps (raw_in_memory file) (raw_in_memory left)
keeps_raw file left can = record {
  tells_bytes = refl;
  tells_place = refl;
  tells_transfers = refl;
  readable = ap (λ (can : Abilities). can.readable) can;
  writable = ap (λ (can : Abilities). can.writable) can;
  seekable = ap (λ (can : Abilities). can.seekable) can;
  takes_memory = refl;
  counts_exactly = refl;
  faults = omega arith;
  waits = omega arith;
}

-- what is to be shown of a call that neither waits nor fails
pub record Calmly (file : FlatFile) (lent : Bool) (was : ℕ) (call : FileCall) (reply : FileReply) (left : FlatFile) (taken : ℕ) : Type 0 where
  pub can : left.can ≡ file.can
  pub writes : file.can.writable ≡ true
  pub buffering : left.buffering ≡ file.buffering
  pub counts : taken ≡ taken_by call file.place left.place was
  pub quiet : says_fault reply ≡ false
  pub refused : (why : IoFault) → refused_here (buffer_with file lent was) call ≡ Some why → LeavesBuffer (buffer_with file lent was) call (Refused why) reply (buffer_with left lent taken)
  pub again : closes_twice (buffer_with file lent was) call ≡ true → LeavesBuffer (buffer_with file lent was) call Done reply (buffer_with left lent taken)
  pub shorts : IsShort call reply false
  pub moves : BufferMoves (buffer_with file lent was) call reply (buffer_with left lent taken)
  pub ends : BufferSeeksByEnd (buffer_with file lent was) call reply (buffer_with left lent taken)
  pub answer : refused_here (buffer_with file lent was) call ≡ None → IsReplyTo (size_shown file.buffering) file.can.writable call reply × IsAnswerTo call reply
  pub told : refused_lent (buffer_with file lent was) call ≡ false → BinaryStep file call reply false false left
  pub reach : IsTrue (is_reading call) → left.place ≤ max file.place (length file.bytes)
  pub unfailed : left.life ≡ life.Failed → ⊥
  pub stays : is_close call ≡ false → is_closed left.life ≡ is_closed file.life
  pub owes : BufferOwes (buffer_with file lent was) call (buffer_with left lent taken)
  pub lays : BufferLays (buffer_with file lent was) (payload call) left.bytes
  pub passes : BufferPasses (buffer_with file lent was) call reply (buffer_with left lent taken)
  pub takes : BufferTakes call file.place left.place

-- a stream in memory stands where its raw does, so that no close parts them
never_parts : (file left : FlatFile) (lent : Bool) (was taken : ℕ) (call : FileCall) (reply : FileReply) → parts_when_closed (buffer_with file lent was) call reply (buffer_with left lent taken) ≡ false
never_parts file left lent was taken call reply = grind (arith, eqb_tells)

pub calm : (file : FlatFile) (lent : Bool) (was : ℕ) (call : FileCall) (reply : FileReply) (left : FlatFile) (taken : ℕ) → Calmly file lent was call reply left taken → AnswersAsBuffer (buffer_with file lent was) call reply (buffer_with left lent taken)
calm file lent was call reply left taken calmly =
    let quiet = calmly.quiet in
    record {
      keeps = record { raw = keeps_raw file left calmly.can; can = calmly.can; buffering = calmly.buffering; exported = refl };
      refused = calmly.refused;
      again = calmly.again;
      shut = λ whole none closed. refl;
      parted = λ parts. absurd (cc (parts, never_parts file left lent was taken call reply));
      unclosed = λ some. absurd (some refl);
      stays = λ closes closed. calmly.stays closes;
      stands = λ live told. refl;
      causes = record { waits = λ short. absurd (cc); faults = λ fails. absurd (cc) };
      counted = λ exactly. record { faults = λ none. refl; waits = λ whole on. refl; once = λ short on. absurd (cc) };
      shorts = calmly.shorts;
      moves = calmly.moves;
      ends = calmly.ends;
      wants = λ lacks room. refl;
      answer = λ accepts. (calmly.answer accepts).0;
      complete = λ accepts waits fails. ((calmly.answer accepts).1, refl);
      told = λ unlent told. subst (λ (faulted : Bool). BinaryStep file call reply false faulted left) (sym quiet) (calmly.told unlent);
      reach = λ reads told. calmly.reach reads;
      hides = λ short. absurd (cc);
      owes = calmly.owes;
      lays = λ told. calmly.lays;
      spares = λ can owes. absurd (cc (calmly.writes));
      full = full_of call reply (stream_shown (buffer_with left lent taken)) calmly.shorts;
      unwaited = λ reads gives none. refl;
      single = λ one none told. absurd (cc);
      once = λ one told. absurd (cc);
      brings = λ reads can none. absurd (cc (calmly.writes));
      passes_first = λ some single asks given first. refl;
      starves = λ wanting writing fails. absurd (calmly.unfailed fails);
      takes = calmly.takes;
      taken = calmly.counts;
      passes = calmly.passes;
      behind = λ stood reads some. absurd (some refl);
    }

-- Refusals.

pub whole_refused : (call : FileCall) (why : IoFault) → blames why ≡ false → IsShort call (Refused why) false
whole_refused call (fault.WouldBlock taken) own = absurd (cc)
whole_refused (Read1 size) why own = refl
whole_refused call why own = refl

pub life_refused : (buffer : Option ℕ) (call : FileCall) (why : IoFault) (current : Life) → blames why ≡ false → LifeMoves buffer call (Refused why) current current
life_refused buffer call fault.RawFault current own = absurd (cc)
life_refused buffer call fault.NoMemory current own = absurd (cc)
life_refused buffer Close why current own = refl
life_refused buffer call why current own = refl

pub place_refused : (buffer : Option ℕ) (call : FileCall) (why : IoFault) (current : Life) (place : ℕ) → blames why ≡ false → PlaceMoves buffer call (Refused why) current place place
place_refused buffer call fault.RawFault current place own = absurd (cc)
place_refused buffer call fault.NoMemory current place own = absurd (cc)
place_refused buffer call (fault.WouldBlock taken) current place own = absurd (cc)
place_refused buffer (Write bytes) why current place own = refl
place_refused buffer call why current place own = refl

gives_refused : (buffering : Buffering) (call : FileCall) (why : IoFault) → GivesAsked buffering call (Refused why)
gives_refused buffering (Read1 size) why = tt
gives_refused buffering call why = tt

passes_refused : (file : FlatFile) (lent : Bool) (was taken : ℕ) (call : FileCall) (why : IoFault) → BufferPasses (buffer_with file lent was) call (Refused why) (buffer_with file lent taken)
passes_refused file lent was taken Flush fault.NoMemory = λ told. refl
passes_refused file lent was taken Flush why = tt
passes_refused file lent was taken Close why = tt
passes_refused file lent was taken call why = tt

quiet_refused : (why : IoFault) → blames why ≡ false → says_fault (Refused why) ≡ false
quiet_refused fault.RawFault own = absurd (cc)
quiet_refused why own = refl

-- a refused call leaves all as it was
pub refusedly : (file : FlatFile) (lent : Bool) (was : ℕ) (call : FileCall) (why : IoFault) (taken : ℕ) → (file.life ≡ life.Failed → ⊥) → file.can.writable ≡ true → blames why ≡ false → taken ≡ taken_by call file.place file.place was → file.place ≤ greatest_place → ((other : IoFault) → refused_here (buffer_with file lent was) call ≡ Some other → why ≡ other) → closes_twice (buffer_with file lent was) call ≡ false → BufferSeeksByEnd (buffer_with file lent was) call (Refused why) (buffer_with file lent taken) → (refused_here (buffer_with file lent was) call ≡ None → IsReplyTo (size_shown file.buffering) file.can.writable call (Refused why) × IsAnswerTo call (Refused why)) → (refused_lent (buffer_with file lent was) call ≡ false → refusal file call ≡ Some why) → Calmly file lent was call (Refused why) file taken
refusedly file lent was call why taken unfailed writes own counts far only once ends answer told = record {
  can = refl;
  writes = writes;
  buffering = refl;
  counts = counts;
  quiet = quiet_refused why own;
  refused = λ other here. record { says = ap Refused (only other here); same = ap (buffer_with file lent) counts };
  again = λ twice. absurd (cc);
  shorts = whole_refused call why own;
  moves = record { life_is = life_refused (size_shown file.buffering) call why file.life own; place = place_refused (size_shown file.buffering) call why file.life file.place own; far = far; within = gives_refused file.buffering call why };
  ends = ends;
  answer = answer;
  told = λ unlent. settled (subst (λ (refused : Option IoFault). SettledBy file call refused (Refused why) file) (sym (told unlent)) (refl, refl));
  reach = λ reads. omega arith;
  unfailed = unfailed;
  stays = λ closes. refl;
  owes = owes_still file file lent call was taken (λ writing. (refl, refl));
  lays = lays_none _ _ _ _;
  passes = passes_refused file lent was taken call why;
  takes = takes_none call file.place;
}
