-- What holds of a text session goes on to hold, whatever a call answers.
use Rattle.std.proofs.Common.{◌≡◌, ◌≢◌, inl, inr, ℕ, Bool, true, false, Option, Some, None, refl, sym, ap, ◌∙◌, subst}
use Rattle.py_flat.specs.declared.fault.IoFault.{IoFault}
use Rattle.py_flat.specs.declared.fault.IoFault.TheVariants as fault
use Rattle.py_flat.specs.declared.life.Life.{Life}
use Rattle.py_flat.specs.declared.life.Life.TheVariants as life
use Rattle.py_flat.specs.Calls.{FileReply, Done, Refused}
use Rattle.py_flat.specs.ExactStep.{is_closed}
use Rattle.py_flat.specs.FlatFile.{Abilities, Buffering, Buffered}
use Rattle.py_flat.specs.Refusals.{is_unbuffered}
use Rattle.py_plain_text.specs.TextFile.{TextFile, TextSettings}
use Rattle.py_plain_text.specs.TextCalls.{TextFileCall, Read, ReadLine, WriteText, SeekText, Tell, Reconfigure, SetChunkSize, Flush, Close, Detach, ChunkSize, Readable, Writable, Seekable, Closed, Encoding, Errors, OtherKind, is_detach, is_getter}
use Rattle.py_stream.specs.Buffer.{Buffer, IsClosedWithRaw}
use Rattle.py_read_text.specs.TextState.{TextState, file_of}
use Rattle.py_read_text.specs.Answers.{refused_here, Answers, LifeMoves, hands_back}
use Rattle.py_read_text.proofs.Living.{lives_on, hands_none}
use Rattle.py_raw.specs.RawStream.{Raw}
use Rattle.py_textio.specs.Handing.{detached_text, RefusesDetach}
use Rattle.py_textio.proofs.Detached.{refused_gone}
use Rattle.py_open.specs.TextSession.{OwesNothing, IsOpen, IsHeld, IsTextSession, KeepsBeside, buffer_seen, seen, IsSession}
use Rattle.py_open.proofs.TextGone.{gone_answers}

-- the calls of a session
abbrev pub is_made : TextFileCall → Bool
is_made (Read size) = true
is_made (ReadLine limit) = true
is_made (WriteText text) = true
is_made (SeekText sought whence) = true
is_made Tell = true
is_made (SetChunkSize size) = true
is_made (Reconfigure changes) = true
is_made Flush = true
is_made Close = true
is_made OtherKind = true
is_made call = false

-- A session that isn't live answers no call.

failed_refuses : (file : TextFile) (call : TextFileCall) → is_made call ≡ true → file.life ≡ life.Failed → refused_here file call ≡ Some fault.Failed
failed_refuses file (Read size) made is = rw is refl
failed_refuses file (ReadLine limit) made is = rw is refl
failed_refuses file (WriteText text) made is = rw is refl
failed_refuses file (SeekText sought whence) made is = rw is refl
failed_refuses file Tell made is = rw is refl
failed_refuses file (SetChunkSize size) made is = rw is refl
failed_refuses file (Reconfigure changes) made is = rw is refl
failed_refuses file Flush made is = rw is refl
failed_refuses file Close made is = rw is refl
failed_refuses file OtherKind made is = rw is refl
failed_refuses file call made is = absurd (cc)

-- all is as it was but for whether a wait cut the last answer short
abbrev Stays : TextState → TextState → Type 0
Stays before after = after ≡ record before { short = false }

closed_stays : (before : TextState) (call : TextFileCall) (reply : FileReply) (after : TextState) → is_made call ≡ true → before.text.life ≡ life.Closed → Answers before call reply after → Stays before after
closed_stays before Close reply after made is answers = (answers.again (ap is_closed is)).same
closed_stays before (Read size) reply after made is answers = (answers.refused fault.Closed (rw is refl)).same
closed_stays before (ReadLine limit) reply after made is answers = (answers.refused fault.Closed (rw is refl)).same
closed_stays before (WriteText text) reply after made is answers = (answers.refused fault.Closed (rw is refl)).same
closed_stays before (SeekText sought whence) reply after made is answers = (answers.refused fault.Closed (rw is refl)).same
closed_stays before Tell reply after made is answers = (answers.refused fault.Closed (rw is refl)).same
closed_stays before (SetChunkSize size) reply after made is answers = (answers.refused fault.Closed (rw is refl)).same
closed_stays before (Reconfigure changes) reply after made is answers = (answers.refused fault.Closed (rw is refl)).same
closed_stays before Flush reply after made is answers = (answers.refused fault.Closed (rw is refl)).same
closed_stays before OtherKind reply after made is answers = (answers.refused fault.Closed (rw is refl)).same
closed_stays before call reply after made is answers = absurd (cc)

stayed : (before after : TextState) → Stays before after → IsTextSession before → IsTextSession after
stayed before after same is = subst IsTextSession (sym same) (record {
  kept = is.kept;
  attached = is.attached;
  buffered = is.buffered;
  stands = is.stands;
  joined = is.joined;
  held = record {
    unwritten = λ can. let none = is.held.unwritten can in record { none = none.none; own = none.own; life_is = none.life_is };
    is_open = λ other. let raw = is.held.is_open other in record { raw = raw.raw; buffer = raw.buffer };
  };
})

-- A live one.

no_detach : (call : TextFileCall) → is_made call ≡ true → is_detach call ≡ false
no_detach Detach made = absurd (cc)
no_detach call made = refl

attached_so : (before : TextState) (call : TextFileCall) (reply : FileReply) (after : TextState) → before.text.life ≡ life.Live → IsTextSession before → Answers before call reply after → after.text.buffer.life ≢ life.Detached
attached_so before Close Done after live is answers = λ gone. let never : life.Closed ≡ life.Detached = sym (answers.closes live).0 ∙ gone in absurd (cc)
attached_so before Close (Refused fault.RawFault) after live is answers = answers.closes is.attached
attached_so before call reply after live is answers = (answers.stays refl).attached is.attached

-- the raw is closed where the buffer is, of one whose raw is open
closed_with : (buffer : Buffer) → buffer.raw.closed ≡ false → is_closed buffer.life ≡ false → IsClosedWithRaw buffer
closed_with buffer raw own = raw ∙ sym own

open_by : (before : TextState) (call : TextFileCall) (reply : FileReply) (after : TextState) → before.text.life ≡ life.Live → IsOpen before → Answers before call reply after → after.text.life ≢ life.Closed → IsOpen after
open_by before Close Done after live was answers other = absurd (other answers.moves.life_is)
open_by before Close (Refused fault.RawFault) after live was answers other = absurd (other answers.moves.life_is)
open_by before call reply after live was answers other =
    let still = (answers.stays refl).stays (closed_with before.text.buffer was.raw was.buffer) in
    let raw : after.text.buffer.raw.closed ≡ false = still.0 ∙ was.raw in
    record { raw = raw; buffer = sym still.1 ∙ raw }

owes_none : (before : TextState) (call : TextFileCall) (reply : FileReply) (after : TextState) → hands_back call reply ≡ false → IsTextSession before → Answers before call reply after → after.text.buffer.can.writable ≡ false → OwesNothing after
owes_none before call reply after none_back is answers can =
    let was : before.text.buffer.can.writable ≡ false = sym (ap (λ (own : Abilities). own.writable) answers.keeps.can) ∙ can in
    let none = is.held.unwritten was in
    record {
      none = (answers.spares was none.none).owed;
      own = answers.tied.owed was ∙ none.own;
      life_is = answers.tied.life_is was none.life_is none_back;
    }

live_on : (before : TextState) (call : TextFileCall) (reply : FileReply) (after : TextState) → hands_back call reply ≡ false → after.text.life ≢ life.Detached → before.text.life ≡ life.Live → IsTextSession before → Answers before call reply after → IsTextSession after
live_on before call reply after none_back kept live is answers = record {
  kept = kept;
  attached = attached_so before call reply after live is answers;
  buffered = ap (λ (buffering : Buffering). is_unbuffered buffering) answers.keeps.buffering ∙ is.buffered;
  stands = answers.stands is.stands;
  joined = answers.joined;
  held = record {
    unwritten = owes_none before call reply after none_back is answers;
    is_open = open_by before call reply after live (is.held.is_open (λ closed. let never : life.Live ≡ life.Closed = sym live ∙ closed in absurd (cc))) answers;
  };
}

text_on : (before : TextState) (call : TextFileCall) (reply : FileReply) (after : TextState) → is_made call ≡ true → IsTextSession before → Answers before call reply after → IsTextSession after
text_on before call reply after made is answers = by_life before.text.life refl
  where
    by_life : (current : Life) → before.text.life ≡ current → IsTextSession after
    by_life life.Live now = live_on before call reply after (hands_none call reply (no_detach call made)) (lives_on before call reply after (no_detach call made) is.kept answers) now is answers
    by_life life.Failed now = stayed before after (answers.refused fault.Failed (failed_refuses (file_of before) call made now)).same is
    by_life life.Closed now = stayed before after (closed_stays before call reply after made now answers) is
    by_life life.Detached now = absurd (is.kept now)

beside_on : (before : TextState) (call : TextFileCall) (reply : FileReply) (after : TextState) (appends : Bool) (size : ℕ) → KeepsBeside before.text.buffer appends size → Answers before call reply after → KeepsBeside after.text.buffer appends size
beside_on before call reply after appends size beside answers = record {
  appends_is = ap (λ (can : Abilities). can.appending) answers.keeps.can ∙ beside.appends_is;
  size_is = answers.keeps.buffering ∙ beside.size_is;
}

-- A session whose text was detached.

asks_none : (call : TextFileCall) → is_made call ≡ true → is_getter call ≡ false
asks_none ChunkSize made = absurd (cc)
asks_none Readable made = absurd (cc)
asks_none Writable made = absurd (cc)
asks_none Seekable made = absurd (cc)
asks_none Closed made = absurd (cc)
asks_none Encoding made = absurd (cc)
asks_none Errors made = absurd (cc)
asks_none call made = refl

-- a detached text refuses a call, and stays as it is
gone_stays : (before : TextState) (call : TextFileCall) (reply : FileReply) (after : TextState) → is_getter call ≡ false → before ≡ detached_text before.text.buffer.can before.text.settings → Answers before call reply after → (reply ≡ Refused fault.Detached) × (after ≡ before)
gone_stays before call reply after asks gone answers =
    let left = answers.refused fault.Detached (refused_gone (file_of before) call (ap (λ (state : TextState). state.text.life) gone) asks) in
    let whole : false ≡ before.short = sym (ap (λ (state : TextState). state.short) gone) in
    (left.says, left.same ∙ ap (λ (short : Bool). let state : TextState = record before { short = short } in state) whole)

-- so does a session
pub seen_stays : {R : Type 0} (shows : R → Raw) (before : TextState) (call : TextFileCall) (reply : FileReply) (after : TextState) (appends : Bool) (size : ℕ) (raw : R) → is_getter call ≡ false → IsSession shows before appends size (Some raw) → Answers before call reply after → Answers (seen shows before appends size (Some raw)) call reply (seen shows after appends size (Some raw))
seen_stays shows before call reply after appends size raw asks is answers =
    let stays = gone_stays before call reply after asks is.0 answers in
    subst (λ (says : FileReply). Answers (seen shows before appends size (Some raw)) call says (seen shows after appends size (Some raw))) (sym stays.0)
    (subst (λ (state : TextState). Answers (seen shows before appends size (Some raw)) call (Refused fault.Detached) (seen shows state appends size (Some raw))) (sym stays.1)
    (subst (λ (state : TextState). Answers (seen shows state appends size (Some raw)) call (Refused fault.Detached) (seen shows state appends size (Some raw))) (sym is.0)
    (gone_answers (record before.text.buffer.can { appending = appends }) (Buffered size) before.text.settings (shows raw) call asks)))

pub gone_on : {R : Type 0} (shows : R → Raw) (before : TextState) (call : TextFileCall) (reply : FileReply) (after : TextState) (appends : Bool) (size : ℕ) (raw : R) → is_getter call ≡ false → IsSession shows before appends size (Some raw) → Answers before call reply after → IsSession shows after appends size (Some raw)
gone_on shows before call reply after appends size raw asks is answers =
    subst (λ (state : TextState). IsSession shows state appends size (Some raw)) (sym (gone_stays before call reply after asks is.0 answers).1) is

-- A call of its text is one of the session.

pub seen_on : {R : Type 0} (shows : R → Raw) (before : TextState) (call : TextFileCall) (reply : FileReply) (after : TextState) (appends : Bool) (size : ℕ) (raw : Option R) → is_made call ≡ true → IsSession shows before appends size raw → Answers before call reply after → Answers (seen shows before appends size raw) call reply (seen shows after appends size raw)
seen_on shows before call reply after appends size None made is answers = answers
seen_on shows before call reply after appends size (Some raw) made is answers = seen_stays shows before call reply after appends size raw (asks_none call made) is answers

pub session_on : {R : Type 0} (shows : R → Raw) (before : TextState) (call : TextFileCall) (reply : FileReply) (after : TextState) (appends : Bool) (size : ℕ) (raw : Option R) → is_made call ≡ true → IsSession shows before appends size raw → Answers before call reply after → IsSession shows after appends size raw
session_on shows before call reply after appends size None made is answers = (text_on before call reply after made is.0 answers, beside_on before call reply after appends size is.1 answers)
session_on shows before call reply after appends size (Some raw) made is answers = gone_on shows before call reply after appends size raw (asks_none call made) is answers

-- A detaching that is refused.

pub not_detached : (writes : Bool) (why : IoFault) (before after : Life) → LifeMoves writes Detach (Refused why) before after → before ≢ life.Detached → after ≢ life.Detached
not_detached writes fault.NoMemory before after (inl same) is = λ gone. is (sym same ∙ gone)
not_detached writes fault.NoMemory before after (inr failed) is = λ gone. let never : life.Failed ≡ life.Detached = sym failed.1 ∙ gone in absurd (cc)
not_detached writes fault.RawFault before after moves is = λ gone. let never : life.Failed ≡ life.Detached = sym moves ∙ gone in absurd (cc)
not_detached writes why before after moves is = λ gone. is (sym moves ∙ gone)

refused_text_on : (before : TextState) (why : IoFault) (after : TextState) → IsTextSession before → RefusesDetach before why after → IsTextSession after
refused_text_on before why after is refuses = by_life before.text.life refl
  where
    by_life : (current : Life) → before.text.life ≡ current → IsTextSession after
    by_life life.Live now = live_on before Detach (Refused why) after refl (not_detached before.text.buffer.can.writable why before.text.life after.text.life refuses.answers.moves.life_is is.kept) now is refuses.answers
    by_life life.Failed now = absurd (refuses.other now)
    by_life life.Closed now = stayed before after (refuses.answers.refused fault.Closed (rw now refl)).same is
    by_life life.Detached now = absurd (is.kept now)

pub refused_on : {R : Type 0} (shows : R → Raw) (before : TextState) (why : IoFault) (after : TextState) (appends : Bool) (size : ℕ) (raw : Option R) → IsSession shows before appends size raw → RefusesDetach before why after → IsSession shows after appends size raw
refused_on shows before why after appends size None is refuses = (refused_text_on before why after is.0 refuses, beside_on before Detach (Refused why) after appends size is.1 refuses.answers)
refused_on shows before why after appends size (Some raw) is refuses = gone_on shows before Detach (Refused why) after appends size raw refl is refuses.answers

-- What the getters say.

pub seen_readable : {R : Type 0} (shows : R → Raw) (buffer : Buffer) (appends : Bool) (size : ℕ) (raw : Option R) → (buffer_seen shows buffer appends size raw).can.readable ≡ buffer.can.readable
seen_readable shows buffer appends size None = refl
seen_readable shows buffer appends size (Some raw) = refl

pub seen_writable : {R : Type 0} (shows : R → Raw) (buffer : Buffer) (appends : Bool) (size : ℕ) (raw : Option R) → (buffer_seen shows buffer appends size raw).can.writable ≡ buffer.can.writable
seen_writable shows buffer appends size None = refl
seen_writable shows buffer appends size (Some raw) = refl

pub seen_seekable : {R : Type 0} (shows : R → Raw) (buffer : Buffer) (appends : Bool) (size : ℕ) (raw : Option R) → (buffer_seen shows buffer appends size raw).can.seekable ≡ buffer.can.seekable
seen_seekable shows buffer appends size None = refl
seen_seekable shows buffer appends size (Some raw) = refl

-- what holds of every session

gone_held : {R : Type 0} (shows : R → Raw) (can : Abilities) (settings : TextSettings) (appends : Bool) (size : ℕ) (raw : R) → (shows raw).closed ≡ false → IsHeld (seen shows (detached_text can settings) appends size (Some raw))
gone_held shows can settings appends size raw is = record {
  unwritten = λ reads. record { none = refl; own = refl; life_is = refl };
  is_open = λ other. record { raw = is; buffer = refl };
}

pub session_held : {R : Type 0} (shows : R → Raw) (state : TextState) (appends : Bool) (size : ℕ) (raw : Option R) → IsSession shows state appends size raw → IsHeld (seen shows state appends size raw)
session_held shows state appends size None is = is.0.held
session_held shows state appends size (Some raw) is =
    subst (λ (own : TextState). IsHeld (seen shows own appends size (Some raw))) (sym is.0) (gone_held shows state.text.buffer.can state.text.settings appends size raw is.1)

-- what holds of every session that wasn't detached
pub session_whole : {R : Type 0} (shows : R → Raw) (state : TextState) (appends : Bool) (size : ℕ) (raw : Option R) → IsSession shows state appends size raw → state.text.life ≢ life.Detached → IsTextSession (seen shows state appends size raw)
session_whole shows state appends size None is kept = is.0
session_whole shows state appends size (Some raw) is kept = absurd (kept (ap (λ (own : TextState). own.text.life) is.0))

-- forgetting a wait leaves all that holds
pub forgot : {R : Type 0} (shows : R → Raw) (before : TextState) (appends : Bool) (size : ℕ) (raw : Option R) → IsSession shows before appends size raw → IsSession shows (record before { short = false }) appends size raw
forgot shows before appends size None is = (stayed before (record before { short = false }) refl is.0, record { appends_is = is.1.appends_is; size_is = is.1.size_is })
forgot shows before appends size (Some raw) is =
    let whole : before ≡ record before { short = false } = ap (λ (short : Bool). let state : TextState = record before { short = short } in state) (ap (λ (state : TextState). state.short) is.0) in
    subst (λ (state : TextState). IsSession shows state appends size (Some raw)) whole is
