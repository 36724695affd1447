-- How a refusal is written: this project's script language, docs/PROGRAM.md.
use Rattle.std.specs.Prelude.{ℕ, List, [], ◌∷◌, ◌++◌, codes}
use Rattle.py_flat.specs.declared.fault.IoFault.{IoFault}
use Rattle.py_flat.specs.declared.fault.IoFault.TheVariants.{Closed, Detached, Failed, Unsupported, BadWhence, NegativeSeek, TooFar, BadArgument, RawFault, WouldBlock, NoMemory, UnicodeDecodeError, UnicodeEncodeError, SeekFirst, InvalidCookie, CannotRestore, UnknownEncoding, UnknownHandler, ParseMode, BufferError, BadRestart, EndOfFile, ModeText, IndexError}
use Rattle.py_flat.specs.declared.mode_error.ModeError.{ModeError}
use Rattle.py_flat.specs.declared.mode_error.ModeError.TheVariants.{Invalid, BadRwa}
use Rattle.py_flat.specs.declared.mode_error.ParseModeError.{ParseModeError}
use Rattle.py_flat.specs.declared.mode_error.ParseModeError.TheVariants.{InvalidMode, MultipleFile, MultipleEncode, NoFile}

-- the name of what is wrong with the mode of an opening
abbrev pub parse_mode_name : ParseModeError → List ℕ
parse_mode_name InvalidMode = codes "InvalidMode"
parse_mode_name MultipleFile = codes "MultipleFile"
parse_mode_name MultipleEncode = codes "MultipleEncode"
parse_mode_name NoFile = codes "NoFile"

-- the name of what is wrong with the mode of a raw stream
abbrev pub mode_name : ModeError → List ℕ
mode_name Invalid = codes "Invalid"
mode_name BadRwa = codes "BadRwa"

-- the name of a fault: its variant's, and for a mode the name of what is wrong with it
abbrev pub fault_name : IoFault → List ℕ
fault_name Closed = codes "Closed"
fault_name Detached = codes "Detached"
fault_name Failed = codes "Failed"
fault_name Unsupported = codes "Unsupported"
fault_name BadWhence = codes "BadWhence"
fault_name NegativeSeek = codes "NegativeSeek"
fault_name TooFar = codes "TooFar"
fault_name BadArgument = codes "BadArgument"
fault_name RawFault = codes "RawFault"
fault_name (WouldBlock taken) = codes "WouldBlock"
fault_name NoMemory = codes "NoMemory"
fault_name (UnicodeDecodeError start end) = codes "UnicodeDecodeError"
fault_name (UnicodeEncodeError start end) = codes "UnicodeEncodeError"
fault_name SeekFirst = codes "SeekFirst"
fault_name InvalidCookie = codes "InvalidCookie"
fault_name CannotRestore = codes "CannotRestore"
fault_name UnknownEncoding = codes "UnknownEncoding"
fault_name UnknownHandler = codes "UnknownHandler"
fault_name (ParseMode error) = parse_mode_name error
fault_name BufferError = codes "BufferError"
fault_name BadRestart = codes "BadRestart"
fault_name EndOfFile = codes "EndOfFile"
fault_name (ModeText error) = mode_name error
fault_name (IndexError dimension) = codes "IndexError"

-- the numbers of a fault, in the order of its fields
abbrev pub fault_numbers : IoFault → List ℕ
fault_numbers (WouldBlock taken) = taken ∷ []
fault_numbers (UnicodeDecodeError start end) = start ∷ end ∷ []
fault_numbers (UnicodeEncodeError start end) = start ∷ end ∷ []
fault_numbers (IndexError dimension) = dimension ∷ []
fault_numbers _ = []

-- the line of an opening that is refused: `refused`, the fault's name and an LF
abbrev pub refused_line : IoFault → List ℕ
refused_line fault = codes "refused " ++ fault_name fault ++ 10 ∷ []
