-- The room that a text keeps behind the bytes that it owes its buffer.
use Rattle.std.proofs.Common.{◌≡◌, ◌≢◌, ℕ, ◌≤◌, List, [], unwrap_or, Err, sym, subst, arith}
use Rattle.py_flat.specs.declared.fault.IoFault.{IoFault}
use Rattle.py_flat.specs.declared.fault.IoFault.TheVariants as fault
use Rattle.py_flat.specs.FlatFile.{Buffering}
use Rattle.py_stream.specs.Buffer.{Buffer, size_shown}
use Rattle.py_read_text.specs.Knowing.{TextView}
use Rattle.py_read_text.specs.Writing.{ReturnOutcome}
use Rattle.py_textio.specs.Written.{HasRoom}

-- the room grows as bytes are taken from the front
pub room_on : (old new : Buffer) (pending left : List ℕ) (room more : ℕ) → new.buffering ≡ old.buffering → pending ≢ [] → room ≤ more → HasRoom old pending room → HasRoom new left more
room_on old new pending left room more same some grows has = λ any.
    let size : ℕ = unwrap_or (size_shown old.buffering) 0 in
    let enough : size ≤ more = omega (arith, has some, grows) in
    subst (λ (buffering : Buffering). unwrap_or (size_shown buffering) 0 ≤ more) (sym same) enough

-- the buffer was called, and what is owed stays
pub room_kept : (old new : Buffer) (pending : List ℕ) (room : ℕ) → new.buffering ≡ old.buffering → HasRoom old pending room → HasRoom new pending room
room_kept old new pending room same has = λ some. subst (λ (buffering : Buffering). unwrap_or (size_shown buffering) 0 ≤ room) (sym same) (has some)

-- going back keeps how the buffer is buffered
pub back_buffering : (old new : TextView) (why : IoFault) → ReturnOutcome old (Err why) new → new.buffer.buffering ≡ old.buffer.buffering
back_buffering old new fault.RawFault outcome = outcome.0.keeps.buffering
back_buffering old new fault.NoMemory outcome = outcome.0.keeps.buffering
back_buffering old new other outcome = absurd outcome
