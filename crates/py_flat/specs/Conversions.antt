-- What a fault is to std's `io`.
use Rattle.std.specs.declared.io.ErrorKind.{ErrorKind}
use Rattle.std.specs.declared.io.ErrorKind.TheVariants as kind
use Rattle.py_flat.specs.declared.fault.IoFault.{IoFault}
use Rattle.py_flat.specs.declared.fault.IoFault.TheVariants as fault

-- the kind that std has for a fault; another one for those of a life, of the raw and of what was called before
abbrev pub kind_of : IoFault → ErrorKind
kind_of fault.NoMemory = kind.OutOfMemory
kind_of (fault.WouldBlock taken) = kind.WouldBlock
kind_of fault.Unsupported = kind.Unsupported
kind_of fault.EndOfFile = kind.UnexpectedEof
kind_of (fault.UnicodeDecodeError start end) = kind.InvalidData
kind_of (fault.UnicodeEncodeError start end) = kind.InvalidData
kind_of fault.BadWhence = kind.InvalidInput
kind_of fault.NegativeSeek = kind.InvalidInput
kind_of fault.TooFar = kind.InvalidInput
kind_of fault.BadArgument = kind.InvalidInput
kind_of fault.InvalidCookie = kind.InvalidInput
kind_of fault.UnknownEncoding = kind.InvalidInput
kind_of fault.UnknownHandler = kind.InvalidInput
kind_of (fault.ParseMode error) = kind.InvalidInput
kind_of (fault.ModeText error) = kind.InvalidInput
kind_of (fault.IndexError dimension) = kind.InvalidInput
kind_of other = kind.Other
