-- A buffered stream: its engine or, once its raw was handed back, what is left of it.
use Rattle.std.specs.Prelude.{◌≡◌, ℕ, Bool, true, false, List, [], Option, Some, None, Result, Err}
use Rattle.py_flat.specs.declared.fault.IoFault.{IoFault}
use Rattle.py_flat.specs.declared.fault.IoFault.TheVariants as fault
use Rattle.py_stream.specs.declared.access.Access.{Access}
use Rattle.py_stream.specs.declared.access.Access.TheVariants as access
use Rattle.py_stream.specs.Access.{can_of}
use Rattle.py_stream.specs.Stream.{Stream, detached_stream}
use Rattle.py_stream.specs.Buffer.{Buffer, buffer_of}
use Rattle.py_window.specs.Window.{ahead_of}
use Rattle.py_engine.specs.Engine.{EngineView, stream_of, Stands}
use Rattle.py_engine.specs.Passing.{BeginsDetachIn}

-- its engine, unless it is detached, and what is kept beside that: what it was opened for, whether its raw can seek, the size of its
-- buffer, and how many bytes of the last write were taken
pub record BufferedView : Type 0 where
  pub engine : Option EngineView
  pub access : Access
  pub seekable : Bool
  pub size : ℕ
  pub taken : ℕ

-- the stream of an engine; of none only what it could do and the buffer's size are left
abbrev pub seen_as : Option EngineView → Access → Bool → ℕ → Stream
seen_as (Some engine) access seekable size = stream_of engine
seen_as None access seekable size = detached_stream (can_of access seekable) (Some size)

-- the stream that it is
abbrev pub seen_of : BufferedView → Stream
seen_of view = seen_as view.engine view.access view.seekable view.size

-- a stream that is opened to be both read and written can be moved
abbrev pub IsMovable : Access → Bool → Type 0
IsMovable access.Update seekable = seekable ≡ true
IsMovable other seekable = Unit {0}

-- what is kept beside the engine is the engine's own
abbrev pub IsBuffered : Option EngineView → Access → Bool → ℕ → Type 0
IsBuffered (Some engine) opened seekable size = (can_of engine.access engine.raw.seekable ≡ can_of opened seekable) × (engine.window.size ≡ size) × IsMovable opened seekable
IsBuffered None opened seekable size = IsMovable opened seekable

-- By what it can do.

-- a stream that is only read
abbrev pub Reads : Stream → Type 0
Reads stream = (stream.can.readable ≡ true) × (stream.can.writable ≡ false)

-- a stream that is only written
abbrev pub Writes : Stream → Type 0
Writes stream = (stream.can.readable ≡ false) × (stream.can.writable ≡ true)

-- Looking.

-- the bytes that an engine holds from its place on
abbrev pub held_of : Option EngineView → List ℕ
held_of (Some engine) = ahead_of engine.window
held_of None = []

-- Handing the raw back.

-- a detaching begins where the raw may be handed back, of what is an engine
abbrev pub BeginsDetach : Option EngineView → Result (Unit {0}) IoFault → Option EngineView → Type 0
BeginsDetach (Some old) result (Some new) = BeginsDetachIn old.access old.life (stream_of (record old { short = false })) result (stream_of new) × Stands old
BeginsDetach None result None = result ≡ Err fault.Detached
BeginsDetach old result new = ⊥

-- As a buffered stream of the layer above.

-- what a buffered stream shows to the layer above
abbrev pub as_buffer : BufferedView → Buffer
as_buffer view = buffer_of (seen_of view) view.taken
