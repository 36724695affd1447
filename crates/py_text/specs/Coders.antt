-- The codec and the handler of a text stream, by their names in a registry.
use Rattle.std.specs.Prelude.{ℕ, Bool, false, List, Option, Some, Result, Ok, Err, if◌then◌else◌}
use Rattle.py_flat.specs.declared.fault.IoFault.{IoFault}
use Rattle.py_flat.specs.declared.fault.IoFault.TheVariants.{UnknownEncoding, UnknownHandler}
use Rattle.py_plain.specs.declared.encoding.Encoding.{Encoding}
use Rattle.py_plain.specs.declared.handler.Handler.{Handler}
use Rattle.py_plain_text.specs.TextRefusals.{fits_handler}
use Rattle.py_codec.specs.declared.handler_ref.HandlerRef.{HandlerRef}
use Rattle.py_codec.specs.declared.handler_ref.HandlerRef.TheVariants as given
use Rattle.py_registry.specs.declared.codec.PyCodec.{PyCodec}
use Rattle.py_registry.specs.declared.codec.PyCodec.TheVariants as codec
use Rattle.py_registry.specs.Machine.{Machine, found, handler_of}
use Rattle.py_text.specs.declared.coder.Coder.{Coder}

-- a handler is one of each direction in which a text goes
abbrev pub is_of_stream : (readable writable : Bool) → Handler → Bool
is_of_stream readable writable handler = fits_handler (record { readable = readable; writable = writable; seekable = false; appending = false }) handler

-- the coder of an encoding and a handler, where the handler is of the stream
abbrev pub coder_if : Bool → Encoding → Handler → Result Coder IoFault
coder_if fits encoding handler = if fits then Ok (record { encoding = encoding; errors = handler }) else Err UnknownHandler

-- the coder of an encoding and a handler that was found: a stream's handler is built in, and of its directions
abbrev pub coder_with : {H : Type 0} → (readable writable : Bool) → Encoding → Option (HandlerRef H) → Result Coder IoFault
coder_with readable writable encoding (Some (given.Builtin handler)) = coder_if (is_of_stream readable writable handler) encoding handler
coder_with readable writable encoding _ = Err UnknownHandler

-- the coder of a codec that was found, which has to be built in, and a handler that was; the codec is missed before the handler
abbrev pub coder_of : {S H : Type 0} → (readable writable : Bool) → Option (PyCodec S) → Option (HandlerRef H) → Result Coder IoFault
coder_of readable writable (Some (codec.Builtin encoding)) errors = coder_with readable writable encoding errors
coder_of readable writable _ errors = Err UnknownEncoding

-- the coder of two names in a machine, by what the search functions find
abbrev pub coder_by : {S H : Type 0} → (finds : S → List ℕ → Option (PyCodec S)) → (readable writable : Bool) → Machine S H → (encoding errors : List ℕ) → Result Coder IoFault
coder_by finds readable writable machine encoding errors = coder_of readable writable (found finds machine encoding) (handler_of machine errors)
