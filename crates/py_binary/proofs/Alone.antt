-- Calls that a stream refuses by itself: those that it lacks, and those that its life doesn't let through.
use Rattle.std.proofs.Common.{◌≡◌, ◌≢◌, ◌⊎◌, ⊎_elim, ℕ, ℤ, Bool, true, false, not, ◌&&◌, ◌||◌, List, Option, None, inl, inr, refl, ap, ◌∙◌, arith}
use Rattle.std.proofs.Math.Bool.{or-true}
use Rattle.py_flat.specs.declared.life.Life.TheVariants as life
use Rattle.py_flat.specs.Calls.{FileCall, Read1, Peek, ReadInto1, Truncate, Detach}
use Rattle.py_flat.specs.Refusals.{is_getter, is_other_getter, is_close, is_detach, is_unbuffered, is_buffered}
use Rattle.py_stream.specs.Stream.{Stream, buffering_of}
use Rattle.py_stream.specs.Kinds.{is_reading, is_writing}
use Rattle.py_stream.specs.Answers.{RefusesAlone}
use Rattle.py_stream.proofs.Refusing.{stopped}
use Rattle.py_calls.specs.declared.call.Call.{Call}
use Rattle.py_calls.specs.declared.call.Call.TheVariants as call
use Rattle.py_calls.specs.Calls.{file_call}

-- What a stream that isn't live refuses, by its life.

pub refuses_dead : (stream : Stream) (call : FileCall) → is_getter call ≡ false → is_other_getter call ≡ false → is_close call ≡ false → is_detach call ≡ false → stream.life ≢ life.Live → RefusesAlone stream call
refuses_dead stream call asks known close detach dead = (asks, known, inl (stopped stream.life (buffering_of stream.buffer) call dead close (ap (λ (detaching : Bool). detaching && is_buffered (buffering_of stream.buffer)) detach)))

-- What a stream refuses by what it lacks.

-- a stream that isn't read refuses the calls that give bytes
pub unread_refuses : (stream : Stream) (call : FileCall) → is_reading call ≡ true → stream.can.readable ≡ false → RefusesAlone stream call
unread_refuses stream call gives reads = (grind arith, grind arith, inr (grind arith))

-- nor does one that isn't live answer them
pub unasked_refuses : (stream : Stream) (call : FileCall) → is_reading call ≡ true → (stream.can.readable ≡ false) ⊎ (stream.life ≢ life.Live) → RefusesAlone stream call
unasked_refuses stream call gives not = ⊎_elim (unread_refuses stream call gives) (refuses_dead stream call (grind arith) (grind arith) (grind arith) (grind arith)) not

-- a stream that isn't written refuses the calls that give bytes to it
pub unwritten_refuses : (stream : Stream) (call : FileCall) → is_writing call ≡ true → stream.can.writable ≡ false → RefusesAlone stream call
unwritten_refuses stream call takes writes = (grind arith, grind arith, inr (grind arith))

-- a stream that isn't written can't be cut
pub unwritten_keeps_size : (stream : Stream) (size : Option ℕ) → stream.can.writable ≡ false → RefusesAlone stream (Truncate size)
unwritten_keeps_size stream size writes = (refl, refl, inr (ap (λ (writes : Bool). not writes || not stream.can.seekable || stream.can.appending) writes))

-- a call that is none of those of a stream of bytes, by what becomes of those that only a stream with a buffer has
pub refuses_other : (stream : Stream) (made : Call) → is_getter (file_call made) ≡ false → is_other_getter (file_call made) ≡ false → file_call made ≢ Detach
    → ((size : Option ℕ) → made ≡ call.Read1 size → RefusesAlone stream (Read1 size)) → (made ≡ call.Peek → RefusesAlone stream Peek) → ((size : ℕ) → made ≡ call.ReadInto1 size → RefusesAlone stream (ReadInto1 size))
    → ((size : Option ℕ) → made ≢ call.Read size) → ((limit : Option ℕ) → made ≢ call.ReadLine limit) → ((hint : Option ℕ) → made ≢ call.ReadLines hint) → ((size : ℕ) → made ≢ call.ReadInto size) → ((bytes : List ℕ) → made ≢ call.Write bytes) → ((lines : List (List ℕ)) → made ≢ call.WriteLines lines) → ((offset whence : ℤ) → made ≢ call.Seek offset whence) → made ≢ call.Tell → ((size : Option ℕ) → made ≢ call.Truncate size) → made ≢ call.Flush → made ≢ call.Close
    → RefusesAlone stream (file_call made)
refuses_other stream (call.Read size) asks known stays one look into a b c d e f g h t i j = absurd (a size refl)
refuses_other stream (call.Read1 size) asks known stays one look into a b c d e f g h t i j = one size refl
refuses_other stream (call.ReadLine limit) asks known stays one look into a b c d e f g h t i j = absurd (b limit refl)
refuses_other stream (call.ReadLines hint) asks known stays one look into a b c d e f g h t i j = absurd (c hint refl)
refuses_other stream call.Peek asks known stays one look into a b c d e f g h t i j = look refl
refuses_other stream (call.ReadInto size) asks known stays one look into a b c d e f g h t i j = absurd (d size refl)
refuses_other stream (call.ReadInto1 size) asks known stays one look into a b c d e f g h t i j = into size refl
refuses_other stream (call.Write bytes) asks known stays one look into a b c d e f g h t i j = absurd (e bytes refl)
refuses_other stream (call.WriteLines lines) asks known stays one look into a b c d e f g h t i j = absurd (f lines refl)
refuses_other stream (call.WriteText text) asks known stays one look into a b c d e f g h t i j = (refl, refl, inr refl)
refuses_other stream (call.Seek offset whence) asks known stays one look into a b c d e f g h t i j = absurd (g offset whence refl)
refuses_other stream (call.SeekText cookie whence) asks known stays one look into a b c d e f g h t i j = (refl, refl, inr refl)
refuses_other stream call.Tell asks known stays one look into a b c d e f g h t i j = absurd (h refl)
refuses_other stream (call.Truncate size) asks known stays one look into a b c d e f g h t i j = absurd (t size refl)
refuses_other stream call.Flush asks known stays one look into a b c d e f g h t i j = absurd (i refl)
refuses_other stream call.Close asks known stays one look into a b c d e f g h t i j = absurd (j refl)
refuses_other stream call.Detach asks known stays one look into a b c d e f g h t i j = absurd (stays refl)
refuses_other stream call.ChunkSize asks known stays one look into a b c d e f g h t i j = let wrong : true ≡ false = known in absurd (cc)
refuses_other stream (call.SetChunkSize size) asks known stays one look into a b c d e f g h t i j = (refl, refl, inr refl)
refuses_other stream (call.Reconfigure changes) asks known stays one look into a b c d e f g h t i j = (refl, refl, inr refl)
refuses_other stream call.Encoding asks known stays one look into a b c d e f g h t i j = let wrong : true ≡ false = known in absurd (cc)
refuses_other stream call.Errors asks known stays one look into a b c d e f g h t i j = let wrong : true ≡ false = known in absurd (cc)
refuses_other stream made asks known stays one look into a b c d e f g h t i j = let asked : true ≡ false = asks in absurd (cc)

-- What a stream without a buffer refuses.

pub bare_reads_once : (stream : Stream) (size : Option ℕ) → stream.buffer ≡ None → RefusesAlone stream (Read1 size)
bare_reads_once stream size bare = (refl, refl, inr (ap (λ (buffer : Option ℕ). not stream.can.readable || is_unbuffered (buffering_of buffer)) bare ∙ or-true (not stream.can.readable)))

pub bare_reads_into_once : (stream : Stream) (size : ℕ) → stream.buffer ≡ None → RefusesAlone stream (ReadInto1 size)
bare_reads_into_once stream size bare = (refl, refl, inr (ap (λ (buffer : Option ℕ). not stream.can.readable || is_unbuffered (buffering_of buffer)) bare ∙ or-true (not stream.can.readable)))

pub bare_looks : (stream : Stream) → stream.buffer ≡ None → RefusesAlone stream Peek
bare_looks stream bare = (refl, refl, inr (ap (λ (buffer : Option ℕ). not stream.can.readable || not (is_buffered (buffering_of buffer))) bare ∙ or-true (not stream.can.readable)))
