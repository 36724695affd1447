-- What an opener in memory shows, and what it makes of an opening.
use Rattle.std.specs.Prelude.{◌≡◌, ◌≢◌, ℕ, true, false, List, Option, Some, option_map, Vec}
use Rattle.std.specs.declared.alloc.Global.{Global}
use Rattle.py_raw.specs.Reads.{no_reads}
use Rattle.py_raw.specs.RawStream.{Raw}
use Rattle.py_raw_memory.specs.MemRaw.{MemRawView}
use Rattle.py_raw.specs.RawMode.{mode_reads, mode_writes}
use Rattle.py_raw.specs.Opener.{OpenerView, HoldsTheSame, OthersHoldTheSame}
use Rattle.py_raw_memory.specs.Entries.{held_in}
use Rattle.py_raw_memory.specs.Plans.{PlanView, plan_in}
use Rattle.py_raw_memory.specs.declared.entries.Entry.{Entry}
use Rattle.py_raw_memory.specs.declared.mem_opener.MemOpener.{MemOpener}

-- what a path holds, as bytes
abbrev pub bytes_in : List (Entry (Vec ℕ Global)) → List ℕ → Option (List ℕ)
bytes_in entries path = option_map (λ bytes. bytes.items) (held_in entries path)

-- what an opener in memory shows: it tells what each path holds, and counts exactly
abbrev pub shown_opener : MemOpener → OpenerView
shown_opener opener = record {
  tells = true;
  holds = bytes_in opener.entries.items;
  faults = opener.faults;
  raw_faults = opener.raw_faults;
  raw_waits = opener.raw_waits;
  opened = opener.opened;
  taken_back = opener.taken_back;
  counts_exactly = true;
}

-- an opener's own faults, the raws that it opened and took back, and the faults and waits of these, are as many as before
pub record KeepsCounts (old new : OpenerView) : Type 0 where
  pub faults : new.faults ≡ old.faults
  pub raw_faults : new.raw_faults ≡ old.raw_faults
  pub raw_waits : new.raw_waits ≡ old.raw_waits
  pub opened : new.opened ≡ old.opened
  pub taken_back : new.taken_back ≡ old.taken_back

-- a path holds these bytes now; every other, and every count, is as before
pub record Puts (old : OpenerView) (path bytes : List ℕ) (new : OpenerView) : Type 0 where
  pub held : new.holds path ≡ Some bytes
  pub others : OthersHoldTheSame path old new
  pub counts : KeepsCounts old new

-- every path and every count is as before
pub record LeavesAll (old new : OpenerView) : Type 0 where
  pub held : HoldsTheSame old new
  pub counts : KeepsCounts old new

-- the stream in memory that a mode opens on these bytes: at place 0, nothing counted, and it can seek
abbrev pub opened_raw : List ℕ → List ℕ → Raw
opened_raw mode bytes = record {
  tells_bytes = true;
  tells_place = true;
  tells_transfers = true;
  bytes = bytes;
  place = 0;
  transfers = 0;
  written = 0;
  reads = no_reads;
  faults = 0;
  waits = 0;
  closed = false;
  readable = mode_reads mode;
  writable = mode_writes mode;
  seekable = true;
  takes_memory = mode_writes mode;
  counts_exactly = true;
}

-- a stream that was just opened, with the plan that it follows; none of its calls was made
abbrev pub opened_view : List ℕ → List ℕ → PlanView → MemRawView
opened_view mode bytes plan = record { shows = opened_raw mode bytes; plan = plan.plan; refused = plan.refused; calls = 0 }

-- what each stream that is opened at a path follows
abbrev pub plan_at : MemOpener → List ℕ → PlanView
plan_at opener path = plan_in opener.plans.items path

-- a path has this plan now, every other the plan that it had
pub record SetsPlan (old : MemOpener) (path : List ℕ) (plan : PlanView) (new : MemOpener) : Type 0 where
  pub given : plan_at new path ≡ plan
  pub others : (other : List ℕ) → other ≢ path → plan_at new other ≡ plan_at old other

-- every path has the plan that it had
abbrev pub KeepsPlans : MemOpener → MemOpener → Type 0
KeepsPlans old new = (path : List ℕ) → plan_at new path ≡ plan_at old path
