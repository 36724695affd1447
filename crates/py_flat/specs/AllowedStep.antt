-- The allowed step: the one way in which a call of any stream may come out, be it binary, text or shared.
use Rattle.std.specs.Prelude.{◌≡◌, Bool, IsTrue}
use Rattle.py_flat.specs.declared.fault.IoFault.TheVariants as fault
use Rattle.py_flat.specs.Calls.{FileReply, Refused}

-- A call of the state `before` answered `reply` and left `after`. `waited` says that the raw's waits rose in this call, `faulted`
-- that its faults did. Which replies settle a call, which a wait allows, and what a fault or running out of memory may leave, are
-- the kind of stream's own
pub data AllowedStep {State Call : Type 0} (Settled Waited : State → Call → FileReply → State → Type 0) (Faulted Starved : State → Call → State → Type 0) (before : State) (call : Call) (reply : FileReply) (waited faulted : Bool) (after : State) : Type 0 where
  settled : Settled before call reply after → AllowedStep Settled Waited Faulted Starved before call reply waited faulted after
  waited_for : IsTrue waited → Waited before call reply after → AllowedStep Settled Waited Faulted Starved before call reply waited faulted after
  raw_faulted : IsTrue faulted → reply ≡ Refused fault.RawFault → Faulted before call after → AllowedStep Settled Waited Faulted Starved before call reply waited faulted after
  out_of_memory : reply ≡ Refused fault.NoMemory → Starved before call after → AllowedStep Settled Waited Faulted Starved before call reply waited faulted after
