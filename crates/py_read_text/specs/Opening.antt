-- Opening a text over a buffered stream.
use Rattle.std.specs.Prelude.{◌≡◌, ℕ, ◌≤◌, false, not, nat_eq, [], Option, Some, None, Result, Ok, Err}
use Rattle.py_flat.specs.declared.fault.IoFault.{IoFault}
use Rattle.py_flat.specs.declared.fault.IoFault.TheVariants as fault
use Rattle.py_flat.specs.declared.life.Life.TheVariants as life
use Rattle.py_flat.specs.Limits.{greatest_place}
use Rattle.py_flat.specs.Refusals.{or_else, refused_if, life_fault}
use Rattle.py_plain.specs.Units.{Unknown}
use Rattle.py_plain_text.specs.TextFile.{clean_at}
use Rattle.py_plain_text.specs.TextRefusals.{fits_handler}
use Rattle.py_stream.specs.declared.new_refused.NewRefused.{NewRefused}
use Rattle.py_stream.specs.Buffer.{Buffer}
use Rattle.py_text.specs.declared.coder.Coder.{Coder}
use Rattle.py_text.specs.declared.text_settings.TextSettings as declared
use Rattle.py_read_text.specs.TextState.{TextState, settings_of}
use Rattle.py_read_text.specs.Owing.{IsJoined}

-- what refuses a text over a buffer: by the buffer's life, a chunk of no bytes, bytes that are lent out, a handler that isn't one of the
-- buffer's directions
abbrev pub opening_refusal : Buffer → Coder → declared.TextSettings → Option IoFault
opening_refusal buffer coder settings = or_else (life_fault buffer.life) (or_else (refused_if (nat_eq settings.chunk_size 0) fault.BadArgument) (or_else (refused_if buffer.exported fault.BufferError) (refused_if (not (fits_handler buffer.can coder.errors)) fault.UnknownHandler)))

-- the place of a buffer was asked for where it can seek, and nothing else changed
pub record CountsPlace (old : Buffer) (place : ℕ) (new : Buffer) : Type 0 where
  pub is : place ≡ old.place
  pub far : old.place ≤ greatest_place
  pub same : new ≡ record old { short = new.short }

-- a text that was opened stands clean where its buffer stands, of which nothing was read, and what the buffer owes ends there
pub record Wraps (buffer : Buffer) (coder : Coder) (settings : declared.TextSettings) (state : TextState) : Type 0 where
  pub accepted : opening_refusal buffer coder settings ≡ None
  pub same : state.text.buffer ≡ record buffer { short = state.text.buffer.short }
  pub text : state.text ≡ record { buffer = state.text.buffer; owed = []; place = clean_at buffer.place Unknown; settings = settings_of coder settings; life = life.Live }
  pub joined : IsJoined state.text
  pub whole : state.short ≡ false

abbrev pub WrapOutcome : {B : Type 0} → (B → Buffer) → B → Coder → declared.TextSettings → Result TextState (NewRefused B) → Type 0
WrapOutcome shows buffer coder settings (Ok state) = Wraps (shows buffer) coder settings state
WrapOutcome shows buffer coder settings (Err refused) = (opening_refusal (shows buffer) coder settings ≡ Some refused.fault) × (shows refused.raw ≡ shows buffer)
