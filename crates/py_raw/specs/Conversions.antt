-- Which fault the errors of raw streams and openers are.
use Rattle.py_flat.specs.declared.fault.IoFault.{IoFault}
use Rattle.py_flat.specs.declared.fault.IoFault.TheVariants as fault
use Rattle.py_raw.specs.declared.raw_error.RawError.{RawError}
use Rattle.py_raw.specs.declared.raw_error.RawError.TheVariants as raw_error
use Rattle.py_raw.specs.declared.opener.OpenError.{OpenError}
use Rattle.py_raw.specs.declared.opener.OpenError.TheVariants as open_error

abbrev pub fault_of_raw : RawError → IoFault
fault_of_raw raw_error.Fault = fault.RawFault
fault_of_raw raw_error.Memory = fault.NoMemory

-- a path that couldn't be opened or put away: a failure of the outside
abbrev pub fault_of_opener : OpenError → IoFault
fault_of_opener open_error.Fault = fault.RawFault
fault_of_opener open_error.Memory = fault.NoMemory
