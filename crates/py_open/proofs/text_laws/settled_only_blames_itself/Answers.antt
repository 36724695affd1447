use Rattle.std.proofs.Common.{refl}
use Rattle.py_flat.specs.declared.fault.IoFault.TheVariants as fault
use Rattle.py_flat.specs.Calls.{NotReady, Refused}
use Rattle.py_open.proofs.Blaming.{settled_not}
use Rattle.py_open.proofs.text_laws.settled_only_blames_itself.Goals as goal

pub returns-clause-ready : goal.returns-clause-ready
returns-clause-ready c = λ before call reply after is. settled_not before call reply NotReady after refl is

pub returns-clause-no_raw_fault : goal.returns-clause-no_raw_fault
returns-clause-no_raw_fault c = λ before call reply after is. settled_not before call reply (Refused fault.RawFault) after refl is

pub returns-clause-no_want_of_memory : goal.returns-clause-no_want_of_memory
returns-clause-no_want_of_memory c = λ before call reply after is. settled_not before call reply (Refused fault.NoMemory) after refl is

pub returns-clause-no_wait : goal.returns-clause-no_wait
returns-clause-no_wait c = λ before call reply after taken is. settled_not before call reply (Refused (fault.WouldBlock taken)) after refl is
