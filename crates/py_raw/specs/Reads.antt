-- What the reads of a raw stream brought.
use Rattle.std.specs.Prelude.{◌≡◌, ℕ, zero, suc, ◌≤◌}
use Rattle.py_flat.specs.Causes.{counted}
use Rattle.py_raw.specs.declared.reads.Reads.{Reads}

-- what reads brought before the first one: nothing
abbrev pub no_reads : Reads
no_reads = record { brought = 0; empty = 0; last = 0 }

-- how many reads brought none, after one more, which brought n bytes
abbrev pub empty_after : (empty count : ℕ) → ℕ
empty_after empty zero = counted empty 1
empty_after empty (suc count) = empty

-- after one read more, which brought n bytes
abbrev pub after_read : Reads → ℕ → Reads
after_read reads count = record {
  brought = counted reads.brought count;
  empty = empty_after reads.empty count;
  last = count;
}

-- n bytes came by any number of reads, of which at most so many brought none, as far as a count can tell
pub record BringInAll (total empties : ℕ) (old new : Reads) : Type 0 where
  pub brought : counted new.brought 0 ≡ counted old.brought total
  pub empty : counted new.empty 0 ≤ counted old.empty empties
