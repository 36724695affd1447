-- Which calls of a text are refused before its bytes are looked at, and by what: first by life, then for want of an ability, then by an
-- argument, then by a number, by what was read before, by a handler, and last by the characters of a text. What is refused leaves the
-- text as it was.
use Rattle.std.specs.Prelude.{ℕ, zero, suc, ◌+◌, Bool, true, false, ◌&&◌, ◌||◌, not, ℤ, pos, nat_eq, List, length, Option, Some, None, if◌then◌else◌}
use Rattle.std.specs.List.{list_all}
use Rattle.py_flat.specs.declared.fault.IoFault.{IoFault}
use Rattle.py_flat.specs.declared.fault.IoFault.TheVariants as fault
use Rattle.py_flat.specs.declared.life.Life.{Life}
use Rattle.py_flat.specs.declared.life.Life.TheVariants as life
use Rattle.py_flat.specs.FlatFile.{Abilities}
use Rattle.py_flat.specs.Refusals.{or_else, refused_if, life_fault, too_far}
use Rattle.py_plain.specs.declared.handler.Handler.{Handler}
use Rattle.py_plain.specs.Handlers.{reads_texts}
use Rattle.py_plain_text.specs.TextFile.{TextFile}
use Rattle.py_plain_text.specs.TextWriting.{writes_texts, written_bytes, written_refusal}
use Rattle.py_plain_text.specs.Cookie.{parsed}
use Rattle.py_plain_text.specs.Landing.{is_valid_cookie}
use Rattle.py_plain_text.specs.TextCalls.{TextFileCall, Read, ReadLine, WriteText, SeekText, Tell, Reconfigure, SetChunkSize, OtherKind, Changes, changes_reading, is_getter, is_close, is_detach}

-- By life.

-- the table of lives: a failed text may still be detached, a closed one closed again
abbrev pub lets_through : Life → TextFileCall → Bool
lets_through life.Live call = true
lets_through life.Failed call = is_detach call
lets_through life.Closed call = is_close call
lets_through life.Detached call = false

abbrev pub life_refusal : Life → TextFileCall → Option IoFault
life_refusal life call = if lets_through life call then None else life_fault life

-- For want of an ability.

-- whether a seek counts from the place or from the end
abbrev pub counts_on : ℤ → Bool
counts_on (pos (suc zero)) = true
counts_on (pos (suc (suc zero))) = true
counts_on _ = false

-- bytes that are all zero, as the cookie has to be of a seek that counts from the place or from the end
abbrev pub are_zeros : List ℕ → Bool
are_zeros bytes = list_all (λ byte. nat_eq byte 0) bytes

-- whether a text lacks what the call needs
abbrev pub lacks : TextFile → TextFileCall → Bool
lacks file (Read size) = not file.can.readable
lacks file (ReadLine limit) = not file.can.readable
lacks file (WriteText text) = not file.can.writable
lacks file (SeekText cookie whence) = not file.can.seekable || (file.can.appending || (counts_on whence && not (are_zeros cookie)))
lacks file Tell = not file.can.seekable
lacks file OtherKind = true
lacks file _ = false

-- By an argument and what it comes to.

-- a whence that isn't known
abbrev pub whence_refusal : ℤ → Option IoFault
whence_refusal (pos zero) = None
whence_refusal whence = refused_if (not (counts_on whence)) fault.BadWhence

abbrev pub cookie_refusal : TextFile → List ℕ → Option IoFault
cookie_refusal file cookie = refused_if (not (is_valid_cookie file.settings.encoding (parsed cookie))) fault.InvalidCookie

-- an end that a stream can't stand at
abbrev pub end_refusal : TextFile → ℤ → Option IoFault
end_refusal file (pos (suc (suc zero))) = too_far (length file.bytes)
end_refusal file _ = None

-- a run of characters without bytes as a fault
abbrev pub encode_error : Option (ℕ × ℕ) → Option IoFault
encode_error None = None
encode_error (Some run) = Some (fault.UnicodeEncodeError run.0 run.1)

-- whether a handler is one of each direction in which a text goes
abbrev pub fits_handler : Abilities → Handler → Bool
fits_handler can handler = (not can.readable || reads_texts handler) && (not can.writable || writes_texts handler)

-- a text from which characters were read has to be sought first
abbrev pub dirty_refusal : TextFile → Option IoFault
dirty_refusal file = refused_if file.place.dirty fault.SeekFirst

-- what refuses a write: that the text was read from, a run of characters without bytes, the end of the bytes
abbrev pub write_refusal : TextFile → List ℕ → Option IoFault
write_refusal file text =
    let end = file.place.at + length (written_bytes file.settings text) in
    or_else (dirty_refusal file) (or_else (encode_error (written_refusal file.settings text)) (too_far end))

-- a handler that is given has to be one of the text's directions
abbrev pub handler_refusal : Abilities → Option Handler → Option IoFault
handler_refusal can None = None
handler_refusal can (Some handler) = refused_if (not (fits_handler can handler)) fault.UnknownHandler

-- what refuses new settings: that the text was read from, where they say how it is read; then the handler
abbrev pub changes_refusal : TextFile → Changes → Option IoFault
changes_refusal file changes =
    or_else (if changes_reading changes then dirty_refusal file else None) (handler_refusal file.can changes.handler)

-- what is wrong with the arguments
abbrev pub argument_refusal : TextFile → TextFileCall → Option IoFault
argument_refusal file (WriteText text) = write_refusal file text
argument_refusal file (SeekText cookie whence) =
    or_else (whence_refusal whence) (or_else (cookie_refusal file cookie) (end_refusal file whence))
argument_refusal file (Reconfigure changes) = changes_refusal file changes
argument_refusal file (SetChunkSize size) = refused_if (nat_eq size 0) fault.BadArgument
argument_refusal file _ = None

-- what a call is refused by before the bytes are looked at, or None
abbrev pub refusal : TextFile → TextFileCall → Option IoFault
refusal file call =
    if is_getter call then None
    else or_else (life_refusal file.life call) (or_else (refused_if (lacks file call) fault.Unsupported) (argument_refusal file call))
