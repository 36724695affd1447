-- What refuses a call that moves or cuts a stream in memory.
use Rattle.std.proofs.Common.{◌≡◌, ℕ, zero, suc, ℤ, pos, negsuc, Bool, true, false, List, length, Some, Err}
use Rattle.py_flat.specs.declared.fault.IoFault.{IoFault}
use Rattle.py_flat.specs.Calls.{Seek}
use Rattle.py_memio.specs.InMemory.{file_in_memory, refusal_in_memory}
use Rattle.py_memio.specs.Moving.{SeekOutcome}

-- a seek is refused for what its target comes to, lent or not
pub seek_refused : (lent : Bool) (items : List ℕ) (place : ℕ) (offset whence : ℤ) (why : IoFault) → SeekOutcome place (length items) offset whence (Err why) → refusal_in_memory lent (file_in_memory items place false) (Seek offset whence) ≡ Some why
seek_refused true items place offset (pos zero) why outcome = outcome
seek_refused true items place offset (pos (suc zero)) why outcome = outcome
seek_refused true items place offset (pos (suc (suc zero))) why outcome = outcome
seek_refused true items place offset (pos (suc (suc (suc n)))) why outcome = cc
seek_refused true items place offset (negsuc n) why outcome = cc
seek_refused false items place offset (pos zero) why outcome = outcome
seek_refused false items place offset (pos (suc zero)) why outcome = outcome
seek_refused false items place offset (pos (suc (suc zero))) why outcome = outcome
seek_refused false items place offset (pos (suc (suc (suc n)))) why outcome = cc
seek_refused false items place offset (negsuc n) why outcome = cc
