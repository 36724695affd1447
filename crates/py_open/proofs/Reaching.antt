-- No text has more bytes than a stream can have.
use Rattle.std.proofs.Common.{◌≡◌, inl, inr, ℕ, ◌+◌, ◌≤◌, nat_eq, IsTrue, List, [], ◌∷◌, length, max, if◌then◌else◌, refl, sym, subst, arith}
use Rattle.py_flat.specs.Bytes.{lay}
use Rattle.py_flat.specs.Limits.{greatest_place}
use Rattle.py_flat.specs.Owed.{Owed}
use Rattle.py_raw.specs.RawStream.{Raw, tells}
use Rattle.py_stream.specs.Writing.{OwesUpTo}
use Rattle.py_stream.proofs.Going.{ends_at}
use Rattle.py_stream.specs.declared.access.Access.{Access}
use Rattle.py_calls.specs.declared.call.Call.{Call}
use Rattle.py_calls.specs.declared.plan.PlanKind.{PlanKind}
use Rattle.py_calls.specs.declared.plan.PlanKind.TheVariants as kind
use Rattle.py_calls.specs.declared.reply.Reply.{Reply}
use Rattle.py_read_text.specs.TextState.{TextState, file_of}
use Rattle.py_read_text.specs.Owing.{IsJoined}
use Rattle.py_open.specs.TextSession.{IsInReach}
use Rattle.py_open.specs.Session.{SessionView, TextSession, BinarySession, Answers}
use Rattle.py_open.specs.Opening.{access_of, OpensBy, OpensSession}
use Rattle.py_open.specs.Run.{IsRun}

-- A session.

within : (count total place : ℕ) → total ≤ greatest_place → place + count ≤ greatest_place → (if nat_eq count 0 then total else max total (place + count)) ≤ greatest_place
within count total place bytes ends = grind arith

laid_within : (bytes : List ℕ) (place : ℕ) (laid : List ℕ) → length bytes ≤ greatest_place → place + length laid ≤ greatest_place → length (lay bytes place laid) ≤ greatest_place
laid_within bytes place laid has ends = subst (λ (count : ℕ). count ≤ greatest_place) (sym (ends_at bytes place laid)) (within (length laid) (length bytes) place has ends)

none_laid : (bytes : List ℕ) (owed : Owed) → owed.bytes ≡ [] → length bytes ≤ greatest_place → length (lay bytes owed.place owed.bytes) ≤ greatest_place
none_laid bytes owed none has = rw none has

-- what is owed up to a place lies within reach where that does
owed_within : (bytes : List ℕ) (owed : Owed) (place : ℕ) → OwesUpTo owed place → place ≤ greatest_place → length bytes ≤ greatest_place → length (lay bytes owed.place owed.bytes) ≤ greatest_place
owed_within bytes owed place (inl none) far has = none_laid bytes owed none has
owed_within bytes owed place (inr ends) far has = laid_within bytes owed.place owed.bytes has (omega (arith, ends))

-- a text over a raw that tells no more than that
pub joined_reach : (state : TextState) → IsJoined state.text → (IsTrue (tells state.text.buffer.raw) → length state.text.buffer.raw.bytes ≤ greatest_place) → IsInReach state
joined_reach state joined raw = λ told.
    laid_within (lay state.text.buffer.raw.bytes state.text.buffer.owed.place state.text.buffer.owed.bytes) state.text.buffer.place state.text.owed
    (owed_within state.text.buffer.raw.bytes state.text.buffer.owed state.text.buffer.place joined.below (omega (arith, joined.far)) (raw told))
    joined.far

-- A run.

abbrev pub Reaches : SessionView → Type 0
Reaches (TextSession text) = IsInReach text
Reaches (BinarySession stream) = Unit {0}

pub opened_reaches : (planned : PlanKind) (opened : Access) (raw : Raw) (session : SessionView) → OpensBy planned opened raw session → Reaches session
opened_reaches (kind.Text planned) opened raw (TextSession text) opens = opens.reach
opened_reaches (kind.Buffered size) opened raw (BinarySession stream) opens = tt
opened_reaches kind.Bare opened raw (BinarySession stream) opens = tt
opened_reaches (kind.Text planned) opened raw (BinarySession stream) opens = absurd opens
opened_reaches (kind.Buffered size) opened raw (TextSession text) opens = absurd opens
opened_reaches kind.Bare opened raw (TextSession text) opens = absurd opens

step_reaches : (before : SessionView) (call : Call) (reply : Reply) (after : SessionView) → Answers before call reply after → Reaches after
step_reaches (TextSession before) call reply (TextSession after) step = step.reach
step_reaches (BinarySession before) call reply (BinarySession after) step = tt
step_reaches (TextSession before) call reply (BinarySession after) step = absurd step
step_reaches (BinarySession before) call reply (TextSession after) step = absurd step

pub run_reaches : (before : SessionView) (calls : List Call) (replies : List Reply) (after : SessionView) → Reaches before → IsRun before calls replies after → Reaches after
run_reaches before [] [] after had run = subst Reaches (sym run) had
run_reaches before (call ∷ calls) (reply ∷ replies) after had run = run_reaches run.0 calls replies after (step_reaches before call reply run.0 run.1) run.2
run_reaches before [] (reply ∷ replies) after had run = absurd run
run_reaches before (call ∷ calls) [] after had run = absurd run
