-- The arguments of an opening that stand for none given.
use Rattle.std.specs.Prelude.{negsuc, None}
use Rattle.py_calls.specs.declared.open_args.OpenArgs.{OpenArgs}

-- Python's defaults: a buffer of the default size, no names, no newline argument, chunks of 8192 bytes
abbrev pub default_args : OpenArgs
default_args = record { buffering = negsuc 0; encoding = None; errors = None; newline = None; chunk_size = 8192 }
