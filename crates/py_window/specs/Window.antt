-- The bytes of a stream that its buffer holds, with a cursor among them, and those among them that its raw is owed.
use Rattle.std.specs.Prelude.{◌≡◌, ◌≢◌, ℕ, ◌+◌, ◌-◌, ◌<◌, ◌≤◌, List, [], ◌++◌, length, take, drop, min, max, Result, Ok, Err, Bool, IsTrue, ◌&&◌, nat_le, nat_eq, if◌then◌else◌}
use Rattle.py_flat.specs.declared.fault.IoFault.{IoFault}
use Rattle.py_flat.specs.declared.fault.IoFault.TheVariants as fault
use Rattle.py_flat.specs.declared.life.Life.TheVariants as life
use Rattle.py_flat.specs.Limits.{greatest_place}
use Rattle.py_flat.specs.Bytes.{left_at, lay}
use Rattle.py_flat.specs.Owed.{Owed}
use Rattle.py_raw.specs.RawStream.{Raw, WhereTold, WherePlace, KeepsBytes, Transfers, LeavesCounts, AnswersFor, ReadsBring, AsksToWait, FailsWithout}
use Rattle.py_stream.specs.LiveRaw.{LiveView, starved}
use Rattle.py_window.specs.declared.window.Filled.{Filled}
use Rattle.py_window.specs.declared.window.Filled.TheVariants as filled

-- how many bytes a window can hold; the place of the first that it holds; the bytes held; how many of them lie before the cursor; and
-- before the first and the last end of those that are pending, which the stream owes its raw
pub record WindowView : Type 0 where
  pub size : ℕ
  pub begin : ℕ
  pub held : List ℕ
  pub cursor : ℕ
  pub from : ℕ
  pub to : ℕ

-- the place of the cursor, which is the stream's
abbrev pub place_of : WindowView → ℕ
place_of window = window.begin + window.cursor

-- the place after the bytes held
abbrev pub end_of : WindowView → ℕ
end_of window = window.begin + length window.held

-- the bytes held from the cursor on
abbrev pub ahead_of : WindowView → List ℕ
ahead_of window = drop window.cursor window.held

-- the bytes that are pending
abbrev pub pending_of : WindowView → List ℕ
pending_of window = take (window.to - window.from) (drop window.from window.held)

-- what is owed: the pending bytes, at their place
abbrev pub owed_of : WindowView → Owed
owed_of window = record { bytes = pending_of window; place = window.begin + window.from }

-- whether no bytes are pending
abbrev pub is_settled : WindowView → Bool
is_settled window = nat_eq window.from window.to

-- what holds of every window: where no bytes are pending, their empty range stands at the cursor
pub record IsWindow (window : WindowView) : Type 0 where
  pub some : 0 < window.size
  pub cursor : window.cursor ≤ length window.held
  pub held : length window.held ≤ window.size
  pub far : end_of window ≤ greatest_place
  pub ordered : window.from ≤ window.to
  pub within : window.to ≤ length window.held
  pub rests : window.from ≡ window.to → window.from ≡ window.cursor

-- the bytes held are those of a list, from the window's place on
abbrev pub HoldsBytes : List ℕ → WindowView → Type 0
HoldsBytes bytes window = take (length window.held) (left_at bytes window.begin) ≡ window.held

-- the flat bytes: the raw's, with the pending ones laid at their place
abbrev pub flat_over : List ℕ → WindowView → List ℕ
flat_over bytes window = lay bytes (window.begin + window.from) (pending_of window)

-- a window of a stream that is read, and not written: it owes nothing
abbrev pub Reads : WindowView → Type 0
Reads window = window.from ≡ window.to

-- a window of a stream that is written, and not read: what it owes ends at the cursor, where all ends that it holds
pub record Collects (window : WindowView) : Type 0 where
  pub to : window.to ≡ window.cursor
  pub end : window.cursor ≡ length window.held

-- the cursor after n of the bytes held: the range of none that are pending goes with it
abbrev pub at_cursor : ℕ → WindowView → WindowView
at_cursor cursor window = record window {
  cursor = cursor;
  from = if is_settled window then cursor else window.from;
  to = if is_settled window then cursor else window.to;
}

-- the cursor moved on
abbrev pub advanced : ℕ → WindowView → WindowView
advanced count window = at_cursor (window.cursor + count) window

-- nothing is held, at a place
abbrev pub emptied_at : ℕ → WindowView → WindowView
emptied_at place window = record { size = window.size; begin = place; held = []; cursor = 0; from = 0; to = 0 }

-- a window that holds nothing, after the bytes that it held
abbrev pub used_up : WindowView → WindowView
used_up window = emptied_at (end_of window) window

-- whether a place lies among the bytes held, or right after them
abbrev pub covers : WindowView → ℕ → Bool
covers window place = nat_le window.begin place && nat_le place (end_of window)

-- the cursor at a place that the window covers
abbrev pub moved_to : ℕ → WindowView → WindowView
moved_to place window = at_cursor (place - window.begin) window

-- Putting bytes at the cursor.

-- how many bytes before the cursor have to stay: from the first pending one on, where that lies before it
abbrev pub kept_before : WindowView → ℕ
kept_before window = window.cursor - window.from

-- how many bytes have room at the cursor: all of the buffer, but for what has to stay
abbrev pub room_of : WindowView → ℕ
room_of window = window.size - kept_before window

-- bytes put over those of a list, from n of them on
abbrev pub pasted : List ℕ → ℕ → List ℕ → List ℕ
pasted items at bytes = take at items ++ (bytes ++ drop (at + length bytes) items)

-- the cursor moved on to stand after n of the bytes held: what it moved over is pending, with all that lies between that and what was
-- pending
abbrev pub covered : ℕ → WindowView → WindowView
covered after window = record window {
  cursor = after;
  from = if is_settled window then window.cursor else min window.from window.cursor;
  to = if is_settled window then after else max window.to after;
}

-- bytes at the cursor, over those held there, and pending from then on
abbrev pub laid_at_cursor : List ℕ → WindowView → WindowView
laid_at_cursor bytes window = covered (window.cursor + length bytes) (record window { held = pasted window.held window.cursor bytes })

-- a window without the first n of the bytes held
abbrev pub without_front : ℕ → WindowView → WindowView
without_front count window = record {
  size = window.size;
  begin = window.begin + count;
  held = drop count window.held;
  cursor = window.cursor - count;
  from = window.from - count;
  to = window.to - count;
}

-- bytes were put at the cursor: where there is no room after it, all is let go of that needn't stay before it. None leave all as it was
abbrev pub pushed : List ℕ → WindowView → WindowView
pushed [] window = window
pushed bytes window = if nat_le (window.cursor + length bytes) window.size then laid_at_cursor bytes window else laid_at_cursor bytes (without_front (window.cursor - kept_before window) window)

-- all that is held is pending
abbrev pub all_pending : WindowView → WindowView
all_pending window = record window { from = 0; to = length window.held }

-- Passing pending bytes on.

-- a window of whose pending bytes the first n were passed on
abbrev pub passed_on : ℕ → WindowView → WindowView
passed_on count window = at_cursor window.cursor (record window { from = window.from + count })

-- the pending bytes, and all that is held, up to a place among them
abbrev pub cut_within : ℕ → WindowView → WindowView
cut_within place window = record window {
  held = take (place - window.begin) window.held;
  cursor = place - window.begin;
  to = place - window.begin;
}

-- the pending bytes up to a place; where none of them lies before it, nothing is held
abbrev pub cut_at : ℕ → WindowView → WindowView
cut_at place window = if nat_eq place (window.begin + window.from) then emptied_at place window else cut_within place window

-- the bytes that are held up to a place
abbrev pub ended_at : ℕ → WindowView → WindowView
ended_at place window = record window { held = take (place - window.begin) window.held }

-- One transfer of the raw after the bytes held, which are used up then.

-- some bytes came, not none; they lie below the greatest place. Of a raw that stood where the last held byte ended: told, they
-- are those that come next in it; and it stands after them
pub record Brings (old : Raw) (place : ℕ) (part : List ℕ) (new : Raw) : Type 0 where
  pub some : part ≢ []
  pub within : place + length part ≤ greatest_place
  pub counts : LeavesCounts old new
  pub written : AnswersFor 0 old new
  pub reads : ReadsBring (length part) old new
  pub next : WhereTold old (old.place ≡ place → take (length part) (left_at old.bytes place) ≡ part)
  pub stands : WherePlace old (old.place ≡ place → new.place ≡ place + length part)
  pub bytes : KeepsBytes old new
  pub transfers : Transfers 1 old new

-- nothing came; told, nothing comes after the place, where the raw stood there; and it stands where it stood
pub record BringsNone (old : Raw) (place : ℕ) (new : Raw) : Type 0 where
  pub counts : LeavesCounts old new
  pub written : AnswersFor 0 old new
  pub reads : ReadsBring 0 old new
  pub last : WhereTold old (old.place ≡ place → length old.bytes ≤ place)
  pub stands : WherePlace old (new.place ≡ old.place)
  pub bytes : KeepsBytes old new
  pub transfers : Transfers 1 old new

-- what a transfer leaves of the raw's stream: it lives on
abbrev pub GoesOn : LiveView → LiveView → Type 0
GoesOn old new = new ≡ record old { raw = new.raw }

-- or it failed with its raw
pub record FailsWithRaw (old new : LiveView) : Type 0 where
  pub fails : FailsWithout 1 old.raw new.raw
  pub same : new ≡ record old { raw = new.raw; life = life.Failed }

-- or the raw wanted memory, which fails it where bytes had moved in the call
pub record RawLacks (old : LiveView) (moved : Bool) (new : LiveView) : Type 0 where
  pub takes : IsTrue old.raw.takes_memory
  pub same : new ≡ record old { life = starved moved old.life }

-- into the front of a buffer
abbrev pub TransferOutcome : LiveView → Bool → ℕ → List ℕ → Result Filled IoFault → List ℕ → LiveView → Type 0
TransferOutcome old moved place before (Ok (filled.More count)) after new = (count ≤ length after) × Brings old.raw place (take count after) new.raw × GoesOn old new
TransferOutcome old moved place before (Ok filled.End) after new = BringsNone old.raw place new.raw × GoesOn old new
TransferOutcome old moved place before (Ok filled.Waits) after new = AsksToWait old.raw new.raw × GoesOn old new
TransferOutcome old moved place before (Err fault.RawFault) after new = FailsWithRaw old new
TransferOutcome old moved place before (Err fault.NoMemory) after new = RawLacks old moved new × (after ≡ before)
TransferOutcome old moved place before (Err other) after new = ⊥

-- a window that was filled anew: it holds what came, with the cursor before it
pub record HoldsNew (before : WindowView) (count : ℕ) (after : WindowView) : Type 0 where
  pub size : after.size ≡ before.size
  pub begin : after.begin ≡ end_of before
  pub cursor : after.cursor ≡ 0
  pub from : after.from ≡ 0
  pub to : after.to ≡ 0
  pub as_many : count ≡ length after.held

-- a transfer into the window
abbrev pub FillOutcome : LiveView → Bool → WindowView → Result Filled IoFault → LiveView → WindowView → Type 0
FillOutcome old moved before (Ok (filled.More count)) new after = HoldsNew before count after × IsWindow after × Brings old.raw (end_of before) after.held new.raw × GoesOn old new
FillOutcome old moved before (Ok filled.End) new after = (after ≡ used_up before) × BringsNone old.raw (end_of before) new.raw × GoesOn old new
FillOutcome old moved before (Ok filled.Waits) new after = (after ≡ used_up before) × AsksToWait old.raw new.raw × GoesOn old new
FillOutcome old moved before (Err fault.RawFault) new after = (after ≡ used_up before) × FailsWithRaw old new
FillOutcome old moved before (Err fault.NoMemory) new after = (after ≡ before) × RawLacks old moved new
FillOutcome old moved before (Err other) new after = ⊥

-- a transfer past the window, straight into the front of a caller's buffer
abbrev pub PassOutcome : LiveView → Bool → WindowView → Result Filled IoFault → List ℕ → LiveView → WindowView → Type 0
PassOutcome old moved before (Ok (filled.More count)) buffer new after = (count ≤ length buffer) × (after ≡ emptied_at (end_of before + count) before) × Brings old.raw (end_of before) (take count buffer) new.raw × GoesOn old new
PassOutcome old moved before (Ok filled.End) buffer new after = (after ≡ used_up before) × BringsNone old.raw (end_of before) new.raw × GoesOn old new
PassOutcome old moved before (Ok filled.Waits) buffer new after = (after ≡ used_up before) × AsksToWait old.raw new.raw × GoesOn old new
PassOutcome old moved before (Err fault.RawFault) buffer new after = (after ≡ used_up before) × FailsWithRaw old new
PassOutcome old moved before (Err fault.NoMemory) buffer new after = (after ≡ before) × RawLacks old moved new
PassOutcome old moved before (Err other) buffer new after = ⊥
