-- What is owed after one call of a buffer and after two, and that no call but a close closes the raw.
use Rattle.std.proofs.Common.{◌≡◌, ◌≢◌, ℕ, ◌+◌, ◌≤◌, inl, inr, ◌⊎◌, Bool, true, false, if◌then◌else◌, List, [], ◌∷◌, ◌++◌, length, take, drop, refl, sym, ap, ◌∙◌, subst, arith, append_assoc, append-nil}
use Rattle.std.proofs.lemmas.List.{length-append, length-drop, length-take-le, drop-append-le, drop-drop, take-append-drop}
use Rattle.py_flat.specs.declared.life.Life.{Life}
use Rattle.py_flat.specs.declared.life.Life.TheVariants as life
use Rattle.py_flat.specs.ExactStep.{is_closed}
use Rattle.py_plain_text.specs.TextOver.{TextOver}
use Rattle.py_plain_text.specs.TextCalls.{TextFileCall, WriteText}
use Rattle.py_raw.specs.RawStream.{Raw, Keeps, StaysOpen}
use Rattle.py_stream.specs.Writing.{PassesFront, Takes}
use Rattle.py_stream.specs.Buffer.{Buffer, stream_shown, IsClosedWithRaw}
use Rattle.py_stream.proofs.Taking.{answers_then}
use Rattle.py_read_text.specs.Knowing.{TextView, over_of, IsText}
use Rattle.py_read_text.proofs.Holding.{begins_before}
use Rattle.py_read_text.specs.Owing.{all_owed, JoinsAt, IsJoined, PassesOwed, given_by, WriteMovesBy, OwesOn, HasOwn, StaysAttached, KeepsOpen, StaysWhileOwing}

-- What is passed on.

-- nothing is
pub passes_none : (raw : Raw) (owed : List ℕ) → PassesOwed raw owed raw owed
passes_none raw owed = record { passed = 0; most = omega arith; answered = λ told. refl; rest = refl }

-- by two calls
pub passes_then : (before mid after : Raw) (owed some left : List ℕ) → Keeps before mid → PassesOwed before owed mid some → PassesOwed mid some after left → PassesOwed before owed after left
passes_then before mid after owed some left keeps first second = record {
  passed = first.passed + second.passed;
  most = omega (arith, first.most, second.most, ap length first.rest, length-drop first.passed owed);
  answered = answers_then before mid after first.passed second.passed keeps first.answered second.answered;
  rest = second.rest ∙ (ap (drop second.passed) first.rest ∙ drop-drop second.passed first.passed owed);
}

-- with more bytes owed behind
pub passes_behind : (before after : Raw) (owed left more : List ℕ) → PassesOwed before owed after left → PassesOwed before (owed ++ more) after (left ++ more)
passes_behind before after owed left more passes = record {
  passed = passes.passed;
  most = omega (arith, passes.most, length-append owed more);
  answered = passes.answered;
  rest = ap (λ (bytes : List ℕ). bytes ++ more) passes.rest ∙ sym (drop-append-le passes.passed owed more passes.most);
}

-- by a call that gives the buffer no bytes
pub front_passes : (before after : Buffer) → PassesFront (stream_shown before) (stream_shown after) → PassesOwed before.raw before.owed.bytes after.raw after.owed.bytes
front_passes before after passes = record { passed = passes.passed; most = passes.most; answered = passes.answered; rest = passes.bytes }

-- by a write, of which the buffer took the first n bytes
pub takes_passed : (before after : Buffer) (bytes : List ℕ) (count : ℕ) → (takes : Takes (stream_shown before) bytes (stream_shown after)) → count ≡ takes.taken → PassesOwed before.raw (before.owed.bytes ++ bytes) after.raw (after.owed.bytes ++ drop count bytes)
takes_passed before after bytes count takes is =
    let own : List ℕ = take takes.taken bytes in
    let back : List ℕ = drop takes.taken bytes in
    let most : takes.passed ≤ length (before.owed.bytes ++ own) = omega (arith, takes.most, length-append before.owed.bytes own, length-take-le takes.taken bytes takes.within) in
    let passes : PassesOwed before.raw (before.owed.bytes ++ own) after.raw after.owed.bytes = record { passed = takes.passed; most = most; answered = takes.answered; rest = takes.owed } in
    subst (λ (n : ℕ). PassesOwed before.raw (before.owed.bytes ++ bytes) after.raw (after.owed.bytes ++ drop n bytes)) (sym is)
    (subst (λ (all : List ℕ). PassesOwed before.raw all after.raw (after.owed.bytes ++ back)) (append_assoc before.owed.bytes own back ∙ ap (λ (rest : List ℕ). before.owed.bytes ++ rest) (take-append-drop takes.taken bytes))
    (passes_behind before.raw after.raw (before.owed.bytes ++ own) after.owed.bytes back passes))

-- What is owed after a call that gives no bytes.

pub moves_none : (call : TextFileCall) (at : ℕ) → WriteMovesBy call 0 at at
moves_none (WriteText text) at = omega arith
moves_none call at = tt

pub owes_none : (before : TextOver Buffer) (call : TextFileCall) (after : TextOver Buffer) → WriteMovesBy call 0 before.place.at after.place.at → PassesOwed before.buffer.raw (all_owed before) after.buffer.raw (all_owed after) → OwesOn before call after
owes_none before call after moves passes = record {
  taken = [];
  whole = inl refl;
  place = moves;
  passes = subst (λ (all : List ℕ). PassesOwed before.buffer.raw all after.buffer.raw (all_owed after)) (sym (append-nil (all_owed before))) passes;
}

-- a text that owes bytes itself has some to hand on, whatever the call
pub has_own : (before : TextOver Buffer) (call : TextFileCall) → before.owed ≢ [] → HasOwn before call
has_own before call some = by_owed before.owed some (given_by before.settings call)
  where
    by_owed : (owed : List ℕ) → owed ≢ [] → (given : List ℕ) → owed ++ given ≢ []
    by_owed [] some given none = absurd (some refl)
    by_owed (byte ∷ more) some given none = absurd (cc)

-- Where what is owed stands.

-- it stands so in each life in which the text may be over its buffer
pub joined_in : {buffer : Buffer} {own : List ℕ} {from at taken : ℕ} {was : Life} → (current : Life) → (current ≡ life.Live → buffer.life ≡ life.Live) → JoinsAt buffer own from at taken was → JoinsAt buffer own from at taken current
joined_in current lives is = record { below = is.below; stands = is.stands; behind = is.behind; far = is.far; few = is.few; lives = lives }

pub joined_of : (text : TextView) → IsText text.buffer text.held text.front text.at text.taken text.dirty text.settings → IsJoined (over_of text)
joined_of text is = record { below = is.owes; stands = by_place is.ahead; behind = omega (arith, is.forth, is.stands); far = omega (arith, is.far); few = omega (arith, is.few, is.forth, is.stands, begins_before text.front text.at text.taken text.held.front is.inside); lives = λ live. live }
  where
    by_place : (text.at ≡ text.buffer.place) ⊎ ((text.buffer.owed.bytes ≡ []) × (text.buffer.can.readable ≡ true)) → ((text.buffer.owed.bytes ≡ []) × (◌≡◌ {A = List ℕ} [] [])) ⊎ (text.at ≡ text.buffer.place + 0)
    by_place (inl there) = inr (omega (arith, there))
    by_place (inr none) = inl (none.0, refl)

-- The raw.

pub open_still : (buffer : Buffer) → KeepsOpen buffer buffer
open_still buffer = record { attached = λ was. was; stays = λ closed. (refl, closed) }

pub open_then : (before mid after : Buffer) → KeepsOpen before mid → KeepsOpen mid after → KeepsOpen before after
open_then before mid after first second = record {
  attached = λ was. second.attached (first.attached was);
  stays = λ closed.
      let one = first.stays closed in
      let other = second.stays one.1 in
      (other.0 ∙ one.0, other.1);
}

-- a raw that stays open does so while bytes are owed
pub owing_open : (before : Buffer) (after : TextOver Buffer) → KeepsOpen before after.buffer → StaysWhileOwing before after
owing_open before after kept = λ owes closed. (kept.stays closed).0

pub owing_then : (before mid : Buffer) (after : TextOver Buffer) → KeepsOpen before mid → StaysWhileOwing mid after → StaysWhileOwing before after
owing_then before mid after first second = λ owes closed.
    let one = first.stays closed in
    second owes one.1 ∙ one.0

-- a buffer of which the life is known isn't detached
pub attached_in : (before after : Buffer) (current : Life) → after.life ≡ current → current ≢ life.Detached → StaysAttached before after
attached_in before after current is other = λ was gone. other (sym is ∙ gone)

pub open_of : (before after : Buffer) → before.life ≡ life.Live → (after.life ≡ life.Live) ⊎ (after.life ≡ life.Failed) → (IsClosedWithRaw before → StaysOpen before.raw after.raw) → KeepsOpen before after
open_of before after live (inl lives) stays = record { attached = attached_in before after life.Live lives (λ gone. absurd (cc)); stays = λ closed. (stays closed, stays closed ∙ (closed ∙ (ap is_closed live ∙ sym (ap is_closed lives)))) }
open_of before after live (inr failed) stays = record { attached = attached_in before after life.Failed failed (λ gone. absurd (cc)); stays = λ closed. (stays closed, stays closed ∙ (closed ∙ (ap is_closed live ∙ sym (ap is_closed failed)))) }

-- a call that may have failed the buffer, and closed nothing
pub open_called : (before after : Buffer) (faulted : Bool) → before.life ≡ life.Live → after.life ≡ (if faulted then life.Failed else before.life) → (IsClosedWithRaw before → StaysOpen before.raw after.raw) → KeepsOpen before after
open_called before after true live is stays = open_of before after live (inr is) stays
open_called before after false live is stays = open_of before after live (inl (is ∙ live)) stays
