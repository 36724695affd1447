-- What a call leaves to a session.
use Rattle.std.proofs.Common.{◌≡◌, ◌≢◌, ℕ, suc, zero, pos, Bool, true, false, inl, inr, Option, Some, List, refl, sym, ap, ◌∙◌, arith}
use Rattle.py_flat.specs.declared.fault.IoFault.{IoFault}
use Rattle.py_flat.specs.declared.fault.IoFault.TheVariants as fault
use Rattle.py_flat.specs.declared.life.Life.{Life}
use Rattle.py_flat.specs.declared.life.Life.TheVariants as life
use Rattle.py_flat.specs.Calls.{FileCall, Seek, Close, Detach, Readable, Writable, Seekable, Closed, OtherGetter, FileReply, Done, Unwritten, Refused}
use Rattle.py_flat.specs.FlatFile.{Abilities}
use Rattle.py_flat.specs.Refusals.{is_getter, refusal}
use Rattle.py_flat.specs.BinaryStep.{asks_end}
use Rattle.py_raw.specs.RawStream.{Raw}
use Rattle.py_stream.specs.Stream.{Stream, file_of}
use Rattle.py_stream.specs.Kinds.{goes_on}
use Rattle.py_stream.specs.Answers.{AnswersWith, Answers, LifeMoves, StarvesTo, closes_again}
use Rattle.py_stream.specs.Handing.{HandsOver, owed_then, handed_over}
use Rattle.py_stream.proofs.Refused.{is_own}
use Rattle.py_stream.proofs.Refusing.{IsPlaced, refused_with}
use Rattle.py_binary.specs.Binary.{has_reply_room, gone_stream, left_by, HandsOwed, detached_fault, AnswersCall}
use Rattle.py_binary.specs.declared.kind.Kind.{Kind}
use Rattle.py_binary.specs.declared.kind.Kind.TheVariants as kind
use Rattle.py_binary.specs.Kinds.{shown, IsHeld, IsBuffered, IsUnbuffered, IsServed}
use Rattle.py_binary.proofs.Answering.{with_reply_room}

-- The life after a call that isn't a `detach` which was answered.

starved_attached : (moved : Bool) (before after : Life) → StarvesTo moved before after → before ≢ life.Detached → after ≢ life.Detached
starved_attached true before after (inl same) was is = was (sym same ∙ is)
starved_attached true before after (inr failed) was is = let wrong : life.Failed ≡ life.Detached = sym failed ∙ is in absurd (cc)
starved_attached false before after same was is = was (sym same ∙ is)

-- no `detach` that was answered
abbrev pub Stays : FileCall → FileReply → Type 0
Stays call reply = call ≡ Detach → (bytes : List ℕ) (place : Option ℕ) → reply ≢ Unwritten bytes place

pub attached_on : (buffer : Option ℕ) (call : FileCall) (reply : FileReply) (before after : Life) → LifeMoves buffer call reply before after → Stays call reply → before ≢ life.Detached → after ≢ life.Detached
attached_on buffer Close Done before after moves stays was is = let wrong : life.Closed ≡ life.Detached = sym moves ∙ is in absurd (cc)
attached_on buffer Close (Refused fault.RawFault) before after moves stays was is = let wrong : life.Closed ≡ life.Detached = sym moves ∙ is in absurd (cc)
attached_on buffer Detach (Unwritten bytes place) before after moves stays was is = stays refl bytes place refl
attached_on buffer call (Refused fault.RawFault) before after moves stays was is = let wrong : life.Failed ≡ life.Detached = sym moves ∙ is in absurd (cc)
attached_on buffer call (Refused fault.NoMemory) before after moves stays was is = starved_attached (goes_on buffer call) before after moves was is
attached_on buffer call reply before after moves stays was is = was (sym moves ∙ is)

pub held_on : (room : FileCall → Bool) (old : Stream) (call : FileCall) (reply : FileReply) (new : Stream) → IsHeld old → Stays call reply → AnswersWith room old call reply new → IsHeld new
held_on room old call reply new is stays a = record {
  far = a.moves.far;
  near = a.near;
  attached = attached_on old.buffer call reply old.life new.life a.moves.life_is stays is.attached;
}

left_same : (was current : Life) (stream : Stream) → current ≢ life.Detached → left_by was current stream ≡ stream
left_same life.Detached current stream attached = refl
left_same was life.Detached stream attached = absurd (attached refl)
left_same was current stream attached = refl

hands_none : (before : Stream) (call : FileCall) (reply : FileReply) (answered : Stream) → Stays call reply → HandsOwed before call reply answered
hands_none before Detach (Unwritten bytes place) answered stays = absurd (stays refl bytes place refl)
hands_none before call reply answered stays = tt

-- a call of a stream that keeps its raw is one of its session
pub answers_call : (old : Stream) (call : FileCall) (reply : FileReply) (new : Stream) → IsHeld old → Stays call reply → AnswersWith has_reply_room old call reply new → AnswersCall old call reply new
answers_call old call reply new is stays a = record {
  answered = new;
  answers = a;
  hands = hands_none old call reply new stays;
  leaves = sym (left_same old.life new.life new (held_on has_reply_room old call reply new is stays a).attached);
  marks = refl;
}

pub no_detach : (call : FileCall) (reply : FileReply) → call ≢ Detach → Stays call reply
no_detach call reply not_it is bytes place = absurd (not_it is)

pub no_answer : (call : FileCall) (why : IoFault) → Stays call (Refused why)
no_answer call why is bytes place says = absurd (cc)

pub buffered_on : (old : Stream) (call : FileCall) (reply : FileReply) (new : Stream) → IsBuffered old → Stays call reply → AnswersWith has_reply_room old call reply new → IsBuffered new
buffered_on old call reply new is stays a = record {
  held = held_on has_reply_room old call reply new is.held stays a;
  buffered = (is.buffered.0, a.keeps.buffer ∙ is.buffered.1);
}

pub unbuffered_on : (old : Stream) (call : FileCall) (reply : FileReply) (new : Stream) → IsUnbuffered old → Stays call reply → AnswersWith has_reply_room old call reply new → IsUnbuffered new
unbuffered_on old call reply new is stays a = record {
  held = held_on has_reply_room old call reply new is.held stays a;
  bare = a.keeps.buffer ∙ is.bare;
}

-- Once the stream was detached.

gone_refuses : (can : Abilities) (buffer : Option ℕ) (raw : Raw) (call : FileCall) → is_getter call ≡ false → refusal (file_of (gone_stream can buffer raw)) call ≡ Some (detached_fault call)
gone_refuses can buffer raw OtherGetter asks = refl
gone_refuses can buffer raw Readable asks = absurd (cc)
gone_refuses can buffer raw Writable asks = absurd (cc)
gone_refuses can buffer raw Seekable asks = absurd (cc)
gone_refuses can buffer raw Closed asks = absurd (cc)
gone_refuses can buffer raw call asks = refl

gone_asks_no_end : (can : Abilities) (buffer : Option ℕ) (raw : Raw) (call : FileCall) → asks_end (file_of (gone_stream can buffer raw)) call ≡ false
gone_asks_no_end can buffer raw (Seek offset (pos (suc (suc zero)))) = refl
gone_asks_no_end can buffer raw call = refl

gone_never_closes : (can : Abilities) (buffer : Option ℕ) (raw : Raw) (call : FileCall) → closes_again (gone_stream can buffer raw) call ≡ false
gone_never_closes can buffer raw Close = refl
gone_never_closes can buffer raw call = refl

own_fault : (call : FileCall) → is_own (detached_fault call) ≡ true
own_fault OtherGetter = refl
own_fault call = refl

gone_placed : (can : Abilities) (buffer : Option ℕ) (raw : Raw) → IsPlaced (gone_stream can buffer raw)
gone_placed can buffer raw = record { far = omega arith; near = λ live. absurd (cc) }

pub gone_answers : (can : Abilities) (buffer : Option ℕ) (raw : Raw) (call : FileCall) → is_getter call ≡ false → AnswersCall (gone_stream can buffer raw) call (Refused (detached_fault call)) (gone_stream can buffer raw)
gone_answers can buffer raw call asks =
    let gone : Stream = gone_stream can buffer raw in
    let a : Answers gone call (Refused (detached_fault call)) gone = refused_with gone gone call (detached_fault call) (gone_placed can buffer raw) (gone_refuses can buffer raw call asks) (gone_asks_no_end can buffer raw call) (own_fault call) (gone_never_closes can buffer raw call) refl in
    record {
      answered = gone;
      answers = with_reply_room gone call (Refused (detached_fault call)) gone a;
      hands = hands_none gone call (Refused (detached_fault call)) gone (no_answer call (detached_fault call));
      leaves = refl;
      marks = refl;
    }

-- A `detach` that was answered.

-- what is left of a stream that wasn't detached before
left_gone : (was : Life) (stream : Stream) → was ≢ life.Detached → left_by was life.Detached stream ≡ gone_stream stream.can stream.buffer stream.raw
left_gone life.Detached stream attached = absurd (attached refl)
left_gone was stream attached = refl

pub detach_answers : (old new : Stream) (raw : Raw) (unwritten : List ℕ) (place : Option ℕ) → old.life ≢ life.Detached → HandsOver old raw unwritten place new → AnswersCall old Detach (Unwritten unwritten place) (gone_stream new.can new.buffer raw)
detach_answers old new raw unwritten place attached hands = record {
  answered = handed_over old raw (owed_then old.life old);
  answers = with_reply_room old Detach (Unwritten unwritten place) (handed_over old raw (owed_then old.life old)) hands.answers;
  hands = (hands.unwritten_is, hands.place_is, refl);
  leaves = ap (λ (left : Stream). gone_stream left.can left.buffer raw) hands.left ∙ sym (left_gone old.life (handed_over old raw (owed_then old.life old)) attached);
  marks = refl;
}

-- a stream of either kind is held
pub served_held : {R : Type 0} (stream : Kind R) → IsServed stream → IsHeld (shown stream)
served_held (kind.Buffered stream) is = is.held
served_held (kind.Unbuffered stream) is = is.held
