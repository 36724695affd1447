-- What a path's opening that failed is answered with where no raw can be.
use Rattle.py_flat.specs.declared.fault.IoFault.{IoFault}
use Rattle.py_flat.specs.declared.fault.IoFault.TheVariants as fault
use Rattle.py_open.specs.declared.open_failed.OpenFailed.{OpenFailed}
use Rattle.py_open.specs.declared.open_failed.OpenFailed.TheVariants as failed

-- the fault of a failed opening: of the opener that of a raw
abbrev pub fault_in : {R : Type 0} → OpenFailed R → IoFault
fault_in (failed.Refused why raw) = why
fault_in failed.Opener = fault.RawFault
